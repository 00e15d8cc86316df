-- What an honest reply to the text of a batch tells.
use Rattle.std.proofs.Common.{◌≡◌, ◌∙◌, ap, sym, subst, refl, ◌<◌, ◌≤◌, length, Bool, true, false, IsTrue, All, List, [], ◌∷◌, ◌++◌, map, None, Ok, ℕ, IsPermutation}
use Rattle.std.specs.List.{flat_map}
use Rattle.std.proofs.lemmas.List.Sorted.{IsPermutation-refl}
use Rattle.fx_terms.specs.declared.patterns.Pattern.{Pattern}
use Rattle.fx_terms.specs.declared.triples.Triple.{Triple}
use Rattle.fx_outside.specs.Endpoints.{EndpointParts}
use Rattle.fx_algebra.specs.Answers.{answer_alone}
use Rattle.fx_algebra.specs.Graphs.{union}
use Rattle.fx_algebra.specs.Occurrences.{Occurrence, all_of, element_occurrences, group_occurrences, of_element, of_group, services}
use Rattle.fx_algebra.specs.Solutions.{Bindings, rises}
use Rattle.fx_algebra.specs.Units.{step}
use Rattle.fx_algebra.specs.declared.answers.Answer.{Answer}
use Rattle.fx_algebra.specs.declared.answers.Answer.TheVariants.{Table, Truth}
use Rattle.fx_algebra.specs.declared.expressions.Expr.{Expr}
use Rattle.fx_algebra.specs.declared.queries.Element.{Element, Element-F, fold-roll-Element}
use Rattle.fx_algebra.specs.declared.queries.Element.TheVariants as element
use Rattle.fx_algebra.specs.declared.queries.Group.{fold-roll-Group}
use Rattle.fx_algebra.specs.declared.units.Row.{Row}
use Rattle.fx_algebra.specs.declared.units.Unit as unit
use Rattle.fx_grammar.specs.Accepted.{Accepted}
use Rattle.fx_spelling.specs.Units.{IsSound}
use Rattle.fx_http.specs.Requests.{IsRequest}
use Rattle.fx_http.specs.declared.replies.ReplyError.TheVariants.{TooLong}
use Rattle.fx_results.specs.Meanings.{SameAnswer}
use Rattle.fx_wire.specs.Honest.{IsHonest}
use Rattle.fx_bound.specs.Answers.{IsAnswered}
use Rattle.fx_bound.specs.Batches.{batch_query, branch_elements, branch_group, check_elements}
use Rattle.fx_renaming.specs.Branches.{bound_expr, bound_pattern}
use Rattle.fx_bound.specs.Parts.{IsBatch, Parts, places, printed_by, query_of}
use Rattle.fx_bound.specs.Reading.{all_columns, free_names, renamed}
use Rattle.fx_founds.specs.Uniting.{AreAll, AreToldBy, Place, tells, united}
use Rattle.fx_founds.specs.declared.founds.Found.{Found}
use Rattle.fx_founds.proofs.UniteLemmas.{united_is_the_step}
use Rattle.fx_bound.proofs.AnswerLemmas.{told_is}
use Rattle.fx_bound.proofs.BatchLemmas.{batch_has_the_rows}
use Rattle.fx_values.specs.Answers.{IsAnswered as IsBlockAnswered}
use Rattle.fx_values.specs.Parts as values
use Rattle.fx_values.specs.Values.{block, columns, elements, renamed as renamed_in_block, values_query}
use Rattle.fx_values.proofs.AnswerLemmas.{tells_graph as block_tells}
use Rattle.fx_values.proofs.BlockLemmas.{values_have_the_rows}
use Rattle.fx_traffic.specs.Batches.{block_of, text_for, text_in}
use Rattle.fx_pool.specs.Reading.{AreLocated, carried_for, carried_in, HasFault, HasFound, HasResults}
use Rattle.fx_pool.specs.declared.faults.ReplyFault.{ReplyFault}
use Rattle.fx_pool.specs.declared.faults.ReplyFault.TheVariants.{Http}
use Rattle.fx_pool.proofs.FaultLemmas.{block_faultless, faultless, long_fault}
use Rattle.fx_pool.proofs.HonestLemmas.{honest_results}
use Rattle.fx_flows.specs.Flows.{AreToldOf, IsToldBy}
use Rattle.fx_flows.specs.Forms.{IsMadeIn, query_in}

-- ---- a batch has no SERVICE

triple_none : (p : Pattern) → of_element (element.Triple p) ≡ []
triple_none p = ap of_element (sym (element.rolls-Triple p)) ∙ fold-roll-Element (List Occurrence) (List Occurrence) element_occurrences group_occurrences (Element-F.Triple p)

filter_none : (e : Expr) → of_element (element.Filter e) ≡ []
filter_none e = ap of_element (sym (element.rolls-Filter e)) ∙ fold-roll-Element (List Occurrence) (List Occurrence) element_occurrences group_occurrences (Element-F.Filter e)

bind_none : (e : Expr) (name : List ℕ) → of_element (element.Bind e name) ≡ []
bind_none e name = ap of_element (sym (element.rolls-Bind e name)) ∙ fold-roll-Element (List Occurrence) (List Occurrence) element_occurrences group_occurrences (Element-F.Bind e name)

abbrev occurrences_in : List Element → List Occurrence
occurrences_in es = all_of (map of_element es)

in_front : (e : Element) (es : List Element) → of_element e ≡ [] → occurrences_in es ≡ [] → occurrences_in (e ∷ es) ≡ []
in_front e es h k = ap (λ (v : List Occurrence). v ++ occurrences_in es) h ∙ k

filters_none : (f : Expr → Expr) (es : List Expr) (rest : List Element) → occurrences_in rest ≡ [] → occurrences_in (map (λ e. element.Filter (f e)) es ++ rest) ≡ []
filters_none f [] rest h = h
filters_none f (e ∷ es) rest h = in_front _ _ (filter_none (f e)) (filters_none f es rest h)

filters_alone : (f : Expr → Expr) (es : List Expr) → occurrences_in (map (λ e. element.Filter (f e)) es) ≡ []
filters_alone f [] = refl
filters_alone f (e ∷ es) = in_front _ _ (filter_none (f e)) (filters_alone f es)

patterns_none : (f : Pattern → Pattern) (ps : List Pattern) (rest : List Element) → occurrences_in rest ≡ [] → occurrences_in (map (λ p. element.Triple (f p)) ps ++ rest) ≡ []
patterns_none f [] rest h = h
patterns_none f (p ∷ ps) rest h = in_front _ _ (triple_none (f p)) (patterns_none f ps rest h)

module _ (u : unit.Unit) (b : Place) where
  checks_none : (names : List (List ℕ)) → occurrences_in (check_elements b.number names) ≡ []
  checks_none [] = in_front _ [] (bind_none _ _) refl
  checks_none (name ∷ names) = refl

  branch_none : of_group (branch_group u b) ≡ []
  branch_none =
      fold-roll-Group (List Occurrence) (List Occurrence) element_occurrences group_occurrences (record { elements = branch_elements u b })
      ∙ patterns_none (bound_pattern (renamed u b.number) b.row.solution) u.patterns _
      (filters_none (bound_expr (renamed u b.number) b.row.solution) u.filters _ (checks_none (free_names u b.row.solution)))

branches_none : (u : unit.Unit) (bs : List Place) → all_of (map of_group (map (branch_group u) bs)) ≡ []
branches_none u [] = refl
branches_none u (b ∷ bs) = ap (λ (v : List Occurrence). v ++ all_of (map of_group (map (branch_group u) bs))) (branch_none u b) ∙ branches_none u bs

union_none : (u : unit.Unit) (bs : List Place) → of_element (element.Union (map (branch_group u) bs)) ≡ []
union_none u bs =
    ap of_element (sym (element.rolls-Union (map (branch_group u) bs)))
    ∙ fold-roll-Element (List Occurrence) (List Occurrence) element_occurrences group_occurrences (Element-F.Union (map (branch_group u) bs))
    ∙ branches_none u bs

block_none : (u : unit.Unit) (bs : List Place) → of_element (element.Values (block u bs)) ≡ []
block_none u bs = ap of_element (sym (element.rolls-Values (block u bs))) ∙ fold-roll-Element (List Occurrence) (List Occurrence) element_occurrences group_occurrences (Element-F.Values (block u bs))

no_services_in : (form : Bool) (p : Parts) → services (query_in form p) ≡ []
no_services_in true p =
    fold-roll-Group (List Occurrence) (List Occurrence) element_occurrences group_occurrences (record { elements = elements p.unit (places p) })
    ∙ in_front _ _ (block_none p.unit (places p)) (patterns_none (bound_pattern (renamed_in_block p.unit) []) p.unit.patterns _ (filters_alone (bound_expr (renamed_in_block p.unit) []) p.unit.filters))
no_services_in false p =
    fold-roll-Group (List Occurrence) (List Occurrence) element_occurrences group_occurrences (record { elements = element.Union (map (branch_group p.unit) (places p)) ∷ [] })
    ∙ in_front _ [] (union_none p.unit (places p)) refl

-- ---- an honest reply

answered_by : (p : Parts) (graph : List Triple) (told : Answer) (rows : List Bindings) → answer_alone (query_of p) graph ≡ Table (all_columns p.unit (places p)) rows → SameAnswer told (Table (all_columns p.unit (places p)) rows) → IsAnswered graph p told
answered_by p graph (Truth truth) rows is s = absurd s
answered_by p graph (Table names found) rows is s = record { told_rows = rows; answer_is = is; same = s.1 }

-- its results are an answer of the batch over the graph
told_answered : (p : Parts) (graph : List Triple) (request bytes text : List ℕ) (told : Answer) → IsBatch p → IsHonest graph request bytes → IsRequest request text → length text ≤ 67108864 → Accepted text (query_of p) → HasResults bytes told → IsAnswered graph p told
told_answered p graph request bytes text told known honest posts short accepted results =
    let has = batch_has_the_rows graph p.unit (places p) known.fit in
    answered_by p graph told has.rows has.answer_is
    (subst (SameAnswer told) has.answer_is (honest_results graph request bytes text (query_of p) told honest posts short accepted (no_services_in false p) results))

block_answered_by : (p : values.Parts) (graph : List Triple) (told : Answer) (rows : List Bindings) → answer_alone (values.query_of p) graph ≡ Table (columns p.unit) rows → SameAnswer told (Table (columns p.unit) rows) → IsBlockAnswered graph p told
block_answered_by p graph (Truth truth) rows is s = absurd s
block_answered_by p graph (Table names found) rows is s = record { told_rows = rows; answer_is = is; same = s.1 }

-- so it is of one with a VALUES block
block_answered : (p : Parts) (graph : List Triple) (request bytes text : List ℕ) (told : Answer) → values.IsValues (block_of p) → IsHonest graph request bytes → IsRequest request text → length text ≤ 67108864 → Accepted text (query_in true p) → HasResults bytes told → IsBlockAnswered graph (block_of p) told
block_answered p graph request bytes text told known honest posts short accepted results =
    let has = values_have_the_rows graph p.unit (places p) known.fit in
    block_answered_by (block_of p) graph told has.rows has.answer_is
    (subst (SameAnswer told) has.answer_is (honest_results graph request bytes text (query_in true p) told honest posts short accepted (no_services_in true p) results))

no_places : (u : unit.Unit) (bs : List Place) → printed_by (batch_query u bs) bs ≡ None → bs ≡ []
no_places u [] h = refl
no_places u (b ∷ bs) h = cc

no_block : (u : unit.Unit) (bs : List Place) → values.printed_by (values_query u bs) bs ≡ None → bs ≡ []
no_block u [] h = refl
no_block u (b ∷ bs) h = cc

-- ---- in the form that an endpoint takes

-- a batch without a text: no graph has anything for it
pub nothing_told : (e : EndpointParts) (p : Parts) (graph : List Triple) → text_for e p ≡ None → IsToldBy graph p []
nothing_told e p graph none = by e.values none
  where
    told : places p ≡ [] → IsToldBy graph p []
    told h = subst (λ (bs : List Place). IsPermutation [] (flat_map (tells graph p.unit) bs)) (sym h) (IsPermutation-refl [])

    by : (form : Bool) → text_in form p ≡ None → IsToldBy graph p []
    by true h = told (no_block p.unit (places p) h)
    by false h = told (no_places p.unit (places p) h)

module _ (p : Parts) (graph : List Triple) (request bytes text : List ℕ) (honest : IsHonest graph request bytes) (posts : IsRequest request text) (short : length text ≤ 67108864) where
  located_told : (told : Answer) (founds : List Found) → values.IsValues (block_of p) → IsBlockAnswered graph (block_of p) told → AreLocated (block_of p) told founds → IsToldBy graph p founds
  located_told told founds known answered h =
      subst (λ (v : List Found). IsPermutation v (flat_map (tells graph p.unit) (places p))) (sym h.found) (block_tells (block_of p) told (Ok h.all) known h.read graph answered)

  -- what is found in an honest reply is what the graph has
  pub found_told : (form : Bool) → IsMadeIn form p → Accepted text (query_in form p) → (founds : List Found) → HasFound (carried_in form p) bytes founds → IsToldBy graph p founds
  found_told true known accepted founds h = located_told h.told founds known (block_answered p graph request bytes text h.told known honest posts short accepted h.results) h.read
  found_told false known accepted founds h = told_is p graph h.told founds known (told_answered p graph request bytes text h.told known honest posts short accepted h.results) h.read

  -- and it has no fault, where it isn't too long
  pub honest_faultless : (form : Bool) → IsMadeIn form p → Accepted text (query_in form p) → (why : ReplyFault) → length bytes ≤ 67108864 → HasFault (carried_in form p) bytes why → ⊥
  honest_faultless true known accepted why fits fault =
      let y = honest text (query_in true p) posts short accepted (no_services_in true p) in
      let results : HasResults bytes y.denotes.told = record { body = y.body; replied = (fits, y.replied); read = y.denotes.read } in
      block_faultless (block_of p) graph bytes y.denotes.told why known (block_answered p graph request bytes text y.denotes.told known honest posts short accepted results) results fault
  honest_faultless false known accepted why fits fault =
      let y = honest text (query_of p) posts short accepted (no_services_in false p) in
      let results : HasResults bytes y.denotes.told = record { body = y.body; replied = (fits, y.replied); read = y.denotes.read } in
      faultless p graph bytes y.denotes.told why known (told_answered p graph request bytes text y.denotes.told known honest posts short accepted results) results fault

-- a reply that is too long has no other fault
pub only_long : (e : EndpointParts) (p : Parts) (bytes : List ℕ) (why : ReplyFault) → 67108864 < length bytes → HasFault (carried_for e p) bytes why → why ≡ Http TooLong
only_long e p bytes why long fault = long_fault (carried_for e p) bytes why long fault

-- ---- what members told, united

told_by_all : (graphs : List (List Triple)) (p : Parts) (members : List ℕ) (lists : List (List Found)) → AreToldOf graphs p members lists → AreToldBy graphs p.unit (places p) members lists × AreAll members lists
told_by_all graphs p [] [] h = (tt, tt)
told_by_all graphs p [] (list ∷ lists) h = absurd h
told_by_all graphs p (at ∷ members) [] h = absurd h
told_by_all graphs p (at ∷ members) (list ∷ lists) h = let rest = told_by_all graphs p members lists h.1 in ((h.0, rest.0), rest.1)

-- it is the step of a sound unit
pub united_told : (p : Parts) (lists : List (List Found)) → All (λ (r : Row). IsTrue (rises r.solution)) p.rows → (graphs : List (List Triple)) → IsSound graphs p.unit → AreToldOf graphs p p.unit.members lists → IsPermutation (united (places p) lists) (step (union graphs) p.unit p.rows)
united_told p lists rising graphs sound h =
    let told = told_by_all graphs p p.unit.members lists h in
    united_is_the_step graphs p.unit p.rows lists sound rising told.0 told.1
