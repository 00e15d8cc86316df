-- Basic graph patterns (SPARQL 1.1 section 18.3.1).
use Rattle.std.specs.Prelude.{◌≡◌, ◌≢◌, ◌↔◌, ℕ, List, [], ◌∷◌, ◌++◌, map, Option, Some, None, if◌then◌else◌, option_and_then, is_some, IsTrue, All, AllPairs, Contains}
use Rattle.std.specs.List.{filter_map, flat_map}
use Rattle.std.specs.List.Sorted.{IsStrictlySortedBy}
use Rattle.fx_terms.specs.Triples.{triple_cmp}
use Rattle.fx_terms.specs.declared.terms.Term.{Term}
use Rattle.fx_terms.specs.declared.terms.Term.TheVariants.{Iri}
use Rattle.fx_terms.specs.declared.triples.Triple.{Triple}
use Rattle.fx_terms.specs.declared.patterns.Pattern.{Pattern}
use Rattle.fx_terms.specs.declared.patterns.PatternTerm.{PatternTerm}
use Rattle.fx_terms.specs.declared.patterns.PatternTerm.TheVariants.{Variable, Constant}
use Rattle.fx_algebra.specs.Solutions.{Bindings, term_of, with_pair, same_term, rises}
use Rattle.fx_algebra.specs.Scopes.{is_among, pattern_names}

-- ---- the definition: each choice of one triple for each pattern, and the solution that the choice forces

-- each choice of one triple of the graph for each pattern
abbrev pub choices : List Triple → List Pattern → List (List Triple)
choices graph [] = [] ∷ []
choices graph (p ∷ ps) = flat_map (λ t. map (λ ts. t ∷ ts) (choices graph ps)) graph

-- each part of a pattern beside that of a triple
abbrev pub parts_of : Pattern → Triple → List (PatternTerm × Term)
parts_of p t = (p.subject, Iri t.subject) ∷ (p.predicate, Iri t.predicate) ∷ (p.object, t.object) ∷ []

-- each part of the patterns beside that of the triple that was chosen
abbrev pub all_parts : List Pattern → List Triple → List (PatternTerm × Term)
all_parts [] ts = []
all_parts (p ∷ ps) [] = []
all_parts (p ∷ ps) (t ∷ ts) = parts_of p t ++ all_parts ps ts

-- a name has the term, where it has no other
abbrev pub bound_to : Bindings → List ℕ → Term → Option Term → Option Bindings
bound_to s name term None = Some (with_pair s name term)
bound_to s name term (Some other) = if same_term other term then Some s else None

-- a part is the term
abbrev pub with_part : Bindings → PatternTerm → Term → Option Bindings
with_part s (Constant constant) term = if same_term constant term then Some s else None
with_part s (Variable name) term = bound_to s name term (term_of s name)

-- the solution that parts force beside what is bound, where they force one
abbrev pub forced : Bindings → List (PatternTerm × Term) → Option Bindings
forced s [] = Some s
forced s (c ∷ cs) = option_and_then (λ r. forced r cs) (with_part s c.0 c.1)

-- the solutions of patterns over a graph
abbrev pub bgp : List Triple → List Pattern → List Bindings
bgp graph ps = filter_map (λ ts. forced [] (all_parts ps ts)) (choices graph ps)

-- ---- the law: what the solutions are

-- the term that a part is under a solution
abbrev pub value_of : Bindings → PatternTerm → Option Term
value_of s (Variable name) = term_of s name
value_of s (Constant term) = Some term

-- the solution turns the pattern into the triple
pub record TurnsInto (s : Bindings) (p : Pattern) (t : Triple) : Type 0 where
  pub subject : value_of s p.subject ≡ Some (Iri t.subject)
  pub predicate : value_of s p.predicate ≡ Some (Iri t.predicate)
  pub object : value_of s p.object ≡ Some t.object

-- the variables of patterns
abbrev pub variables : List Pattern → List (List ℕ)
variables ps = flat_map pattern_names ps

-- it binds the patterns' variables alone, and turns each pattern into a triple of the graph
pub record IsSolutionOf (graph : List Triple) (ps : List Pattern) (s : Bindings) : Type 0 where
  pub rises : IsTrue (rises s)
  pub binds : (name : List ℕ) → is_some (term_of s name) ≡ is_among (variables ps) name
  pub turns : All (λ p. (t : Triple) × Contains graph t × TurnsInto s p t) ps

-- the solutions of patterns over a graph: each once, and exactly those that bind the patterns' variables alone and turn
-- each pattern into a triple of the graph
pub record IsBgp (graph : List Triple) (ps : List Pattern) (rows : List Bindings) : Type 0 where
  pub exactly : (s : Bindings) → Contains rows s ↔ IsSolutionOf graph ps s
  pub each_once : AllPairs ◌≢◌ rows

abbrev pub BgpLaw : Type 0
BgpLaw = (graph : List Triple) (ps : List Pattern) → IsStrictlySortedBy triple_cmp graph → IsBgp graph ps (bgp graph ps)
