-- An answer doesn't depend on the order in which its rows were found.
use Rattle.std.proofs.Common.{◌≡◌, ◌∙◌, ap, ◌⊎◌, ◌≢◌, inl, inr, sym, subst, refl, ℕ, suc, ◌+◌, ◌<◌, ◌≤◌, Bool, true, false, cond, List, [], ◌∷◌, length, All, IsTrue, IsPermutation, arith, Option, Some, None}
use Rattle.std.proofs.lemmas.Bool.{cases_eq}
use Rattle.std.proofs.lemmas.List.Sorted.{IsPermutation-sym, IsPermutation-trans}
use Rattle.fx_terms.specs.declared.patterns.Pattern.{Pattern}
use Rattle.fx_terms.specs.declared.triples.Triple.{Triple}
use Rattle.fx_algebra.specs.Answers.{answer, form_answer, has_rows, with_inline, query_rows}
use Rattle.fx_algebra.specs.BasicGraphPatterns.{bgp}
use Rattle.fx_algebra.specs.Groups.{is_down, meaning, evaluated}
use Rattle.fx_algebra.specs.Occurrences.{Occurrence, services}
use Rattle.fx_algebra.specs.Operators.{merges}
use Rattle.fx_algebra.specs.Solutions.{Bindings, rises}
use Rattle.fx_algebra.specs.declared.answers.Answer.{Answer}
use Rattle.fx_algebra.specs.declared.answers.Answer.TheVariants.{Truth}
use Rattle.fx_algebra.specs.declared.queries.Form.{Form}
use Rattle.fx_algebra.specs.declared.queries.Inline.{Inline}
use Rattle.fx_algebra.specs.declared.queries.Query.{Query}
use Rattle.fx_solutions.specs.Tables.{OneAnswer}
use Rattle.fx_evaluation.specs.FirstHere.{first_up, first_here}
use Rattle.fx_evaluation.specs.GroupRows.{AreDown, AreRowsOf, AsksFor, IsAnswerOf}
use Rattle.fx_algebra.proofs.OperatorLemmas.{with_inline_moves}
use Rattle.fx_evaluation.proofs.CountLemmas.{services_count}
use Rattle.fx_evaluation.proofs.GroupLemmas.{rows_of_one}

pub answer_of_rows : (q : Query) (graph : List Triple) (found all : List Bindings) (made : Answer) → OneAnswer → AreRowsOf q.group graph found → IsPermutation (with_inline q.inline found) all → All (λ s. IsTrue (rises s)) all
    → made ≡ form_answer q q.form all → IsAnswerOf q graph made
answer_of_rows q graph found all made law h p up e = record {
  same = λ graphs down down_all.
      let whole = query_rows q graph graphs down in
      let count : length (services q) ≡ (meaning graphs down q.group).services = sym (services_count graphs down q.group) in
      let group = h.same graphs down 0 (subst (λ n. AreDown down 0 n) count down_all) in
      let moved : IsPermutation whole all = IsPermutation-trans whole (with_inline q.inline found) all (with_inline_moves q.inline (evaluated q.group graph graphs down) found group) p in
      e ∙ law q all whole up (IsPermutation-sym whole all moved);
}

-- ---- a query that asks for one pattern

pub asked_for : (q : Query) (graph : List Triple) (p : Pattern) (truth : Bool) → AsksFor q p → truth ≡ has_rows (merges (bgp graph (p ∷ [])) []) → IsAnswerOf q graph (Truth truth)
asked_for q graph p truth asks e = record {
  same = λ graphs down down_all.
      let found = evaluated q.group graph graphs down in
      ap Truth (e ∙ ap has_rows (sym (rows_of_one graphs down q.group graph p asks.group)))
      ∙ ap (λ (inline : Option Inline). Truth (has_rows (with_inline inline found))) (sym asks.alone)
      ∙ ap (λ (form : Form). form_answer q form (with_inline q.inline found)) (sym asks.form);
}

-- ---- occurrences that are down

none_at : (down : List ℕ) (number : ℕ) (o : Occurrence) (os : List Occurrence) (b : Bool) → is_down down number ≡ b → cond b (first_up down (suc number) os) (Some number) ≡ None → (b ≡ true) × (first_up down (suc number) os ≡ None)
none_at down number o os true e h = (refl, h)
none_at down number o os false e h = cc

down_at : (down : List ℕ) (n number : ℕ) → n ≡ number → is_down down number ≡ true → is_down down n ≡ true
down_at down n number e h = subst (λ m. is_down down m ≡ true) (sym e) h

pub all_down : (down : List ℕ) (number : ℕ) (os : List Occurrence) → first_up down number os ≡ None → (n : ℕ) → number ≤ n → n < number + length os → is_down down n ≡ true
all_down down number [] h n low high = absurd (omega arith)
all_down down number (o ∷ os) h n low high =
    let both : (is_down down number ≡ true) × (first_up down (suc number) os ≡ None) = none_at down number o os (is_down down number) refl h in
    pick (cases_eq n number) both.0 (λ e. all_down down (suc number) os both.1 n (omega arith) (omega arith))
  where
    pick : (n ≡ number) ⊎ (n ≢ number) → is_down down number ≡ true → (n ≢ number → is_down down n ≡ true) → is_down down n ≡ true
    pick (inl e) here later = down_at down n number e here
    pick (inr e) here later = later e

pub answered : (q : Query) (graph : List Triple) (down : List ℕ) (made : Answer) → IsAnswerOf q graph made → first_here q down ≡ None → (graphs : List ℕ → List Triple) → made ≡ answer q graph graphs down
answered q graph down made h e graphs = h.same graphs down (record { each = all_down down 0 (services q) e })
