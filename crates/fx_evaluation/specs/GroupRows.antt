-- The rows of a group where no other endpoint is asked, since each occurrence of SERVICE is down (SPARQL 1.1 Federated Query,
-- section 4). The rows stand in some order.
use Rattle.std.specs.Prelude.{◌≡◌, ℕ, ◌+◌, ◌<◌, ◌≤◌, true, false, List, [], ◌∷◌, ◌++◌, map, length, take, drop, None, All, IsPermutation}
use Rattle.std.specs.List.{flat_map}
use Rattle.fx_terms.specs.declared.patterns.Pattern.{Pattern}
use Rattle.fx_terms.specs.declared.triples.Triple.{Triple}
use Rattle.fx_algebra.specs.Answers.{answer}
use Rattle.fx_algebra.specs.Conditions.{holds}
use Rattle.fx_algebra.specs.Evaluation.{extended, rows_from}
use Rattle.fx_algebra.specs.Operators.{join}
use Rattle.fx_algebra.specs.Groups.{Part, pattern, condition, operator, Meaning, meaning, element_meaning, group_meaning, conditions_of, part_services, groups_services, group_rows, alternatives, is_down}
use Rattle.fx_algebra.specs.Occurrences.{services}
use Rattle.fx_algebra.specs.Solutions.{Bindings, agree}
use Rattle.fx_algebra.specs.declared.answers.Answer.{Answer}
use Rattle.fx_algebra.specs.declared.expressions.Expr.{Expr}
use Rattle.fx_algebra.specs.declared.queries.Element.{Element, fold-Element}
use Rattle.fx_algebra.specs.declared.queries.Element.TheVariants.{Triple as Triple-E}
use Rattle.fx_algebra.specs.declared.queries.Form.TheVariants.{Ask}
use Rattle.fx_algebra.specs.declared.queries.Group.{Group}
use Rattle.fx_algebra.specs.declared.queries.Query.{Query}
use Rattle.fx_steps.specs.Fewer.{AreFewer, IsGone}
use Rattle.fx_evaluation.specs.declared.runs.Run.{Run}

-- as many occurrences of SERVICE, from a number on, are down
pub record AreDown (down : List ℕ) (number count : ℕ) : Type 0 where
  pub each : (n : ℕ) → number ≤ n → n < number + count → is_down down n ≡ true

-- what an element is to its group
abbrev pub part_of : (List ℕ → List Triple) → List ℕ → Element → Part
part_of graphs down = fold-Element Part Meaning (element_meaning graphs down) group_meaning

-- the rows after one element
abbrev pub after_part : List Triple → ℕ → List Bindings → Part → List Bindings
after_part graph number rows (pattern p) = extended graph p rows
after_part graph number rows (condition e) = rows
after_part graph number rows (operator o) = o.rows graph number rows

-- the rows are those of a group over a graph, whatever graphs the endpoints have, where all that the group would ask are down
pub record AreRowsOf (group : Group) (graph : List Triple) (rows : List Bindings) : Type 0 where
  pub same : (graphs : List ℕ → List Triple) (down : List ℕ) (number : ℕ) → AreDown down number (meaning graphs down group).services → IsPermutation (group_rows (meaning graphs down group) graph number) rows

-- they are those before the group's filters
pub record AreUnfiltered (group : Group) (graph : List Triple) (rows : List Bindings) : Type 0 where
  pub same : (graphs : List ℕ → List Triple) (down : List ℕ) (number : ℕ) → AreDown down number (meaning graphs down group).services → IsPermutation ((meaning graphs down group).rows graph number) rows

-- they are those before the group's filters, without some that these conditions refuse
pub record AreNearly (group : Group) (graph : List Triple) (conditions : List Expr) (rows : List Bindings) : Type 0 where
  pub same : (graphs : List ℕ → List Triple) (down : List ℕ) (number : ℕ) → AreDown down number (meaning graphs down group).services → AreFewer conditions rows ((meaning graphs down group).rows graph number)

-- they are those of the group, without some that conditions from outside refuse
pub record AreFewerRows (group : Group) (graph : List Triple) (outside : List Expr) (rows : List Bindings) : Type 0 where
  pub same : (graphs : List ℕ → List Triple) (down : List ℕ) (number : ℕ) → AreDown down number (meaning graphs down group).services → AreFewer outside rows (group_rows (meaning graphs down group) graph number)

-- what these conditions refuse agrees with none of the rows
pub record AreKnown (conditions : List Expr) (rows : List Bindings) : Type 0 where
  pub apart : (s : Bindings) → IsGone conditions s → All (λ a. agree a s ≡ false) rows

-- the conditions hold where a group's own filters do
pub record AreConditions (group : Group) (conditions : List Expr) : Type 0 where
  pub same : (graphs : List ℕ → List Triple) (down : List ℕ) (s : Bindings) → holds conditions s ≡ holds (meaning graphs down group).filters s

-- the expressions are a group's own filters
pub record AreFilters (group : Group) (filters : List Expr) : Type 0 where
  pub same : (graphs : List ℕ → List Triple) (down : List ℕ) → filters ≡ (meaning graphs down group).filters

-- these are the filters after an element that had those before it
pub record AreMoreFilters (element : Element) (before filters : List Expr) : Type 0 where
  pub same : (graphs : List ℕ → List Triple) (down : List ℕ) → filters ≡ before ++ conditions_of (part_of graphs down element ∷ [])

-- the rows are those of groups, one after the other, without some that conditions from outside refuse
pub record AreAlternatives (groups : List Group) (graph : List Triple) (outside : List Expr) (rows : List Bindings) : Type 0 where
  pub same : (graphs : List ℕ → List Triple) (down : List ℕ) (number : ℕ) → AreDown down number (groups_services (map (meaning graphs down) groups)) → AreFewer outside rows (alternatives (map (meaning graphs down) groups) graph number)

-- the rows are those after an element that had these before it
pub record AreAfter (element : Element) (graph : List Triple) (before rows : List Bindings) : Type 0 where
  pub same : (graphs : List ℕ → List Triple) (down : List ℕ) (number : ℕ) → AreDown down number (part_services (part_of graphs down element)) → IsPermutation (after_part graph number before (part_of graphs down element)) rows

-- they are those, without some that conditions refuse
pub record AreNearlyAfter (conditions : List Expr) (element : Element) (graph : List Triple) (before rows : List Bindings) : Type 0 where
  pub same : (graphs : List ℕ → List Triple) (down : List ℕ) (number : ℕ) → AreDown down number (part_services (part_of graphs down element)) → AreFewer conditions rows (after_part graph number before (part_of graphs down element))

-- ---- elements that are held back: each joins the rows before it with a table of its own, so they may be taken in any order

-- those that stand at these places
abbrev pub elements_at : List Element → List ℕ → List Element
elements_at elements places = flat_map (λ place. take 1 (drop place elements)) places

-- the rows before an element are joined with this table, where all that it would ask are down
pub record IsTable (graphs : List ℕ → List Triple) (down : List ℕ) (graph : List Triple) (element : Element) (table : List Bindings) : Type 0 where
  pub number : ℕ
  pub are_down : AreDown down number (part_services (part_of graphs down element))
  pub joined : (rows : List Bindings) → after_part graph number rows (part_of graphs down element) ≡ join rows table

abbrev pub AreTables : (List ℕ → List Triple) → List ℕ → List Triple → List Element → List (List Bindings) → Type 0
AreTables graphs down graph [] [] = Unit {0}
AreTables graphs down graph [] (table ∷ tables) = ⊥
AreTables graphs down graph (element ∷ elements) [] = ⊥
AreTables graphs down graph (element ∷ elements) (table ∷ tables) = IsTable graphs down graph element table × AreTables graphs down graph elements tables

-- rows joined with each of the tables
abbrev pub with_tables : List Bindings → List (List Bindings) → List Bindings
with_tables rows [] = rows
with_tables rows (table ∷ tables) = with_tables (join rows table) tables

-- the rows are those before joined with what each of the elements has, without some that conditions refuse
pub record AreJoined (conditions : List Expr) (elements : List Element) (graph : List Triple) (before rows : List Bindings) : Type 0 where
  pub same : (graphs : List ℕ → List Triple) (down : List ℕ) (tables : List (List Bindings)) → AreTables graphs down graph elements tables → AreFewer conditions rows (with_tables before tables)

-- they are those that a run and the elements at these places give together
abbrev pub AreHeldRows : List Expr → List Element → List ℕ → List Triple → Run → List Bindings → Type 0
AreHeldRows conditions elements places graph run rows = AreJoined conditions (elements_at elements places) graph (rows_from graph run.rows.items run.left.items) rows

-- ---- answers

-- the answer is that of a query over a graph, whatever graphs the endpoints have, where all that the query would ask are down
pub record IsAnswerOf (q : Query) (graph : List Triple) (found : Answer) : Type 0 where
  pub same : (graphs : List ℕ → List Triple) (down : List ℕ) → AreDown down 0 (length (services q)) → found ≡ answer q graph graphs down

-- the query asks whether one pattern has a solution, and nothing else
pub record AsksFor (q : Query) (p : Pattern) : Type 0 where
  pub form : q.form ≡ Ask
  pub alone : q.inline ≡ None
  pub group : q.group.elements ≡ Triple-E p ∷ []
