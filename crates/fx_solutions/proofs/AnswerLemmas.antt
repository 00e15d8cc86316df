-- The same rows give one answer.
use Rattle.std.proofs.Common.{◌≡◌, ap, refl, List, [], ◌∷◌, length}
use Rattle.std.specs.Prelude.{drop}
use Rattle.std.proofs.lemmas.List.Sorted.{length_permutation}
use Rattle.fx_algebra.specs.Answers.{form_answer, has_rows}
use Rattle.fx_algebra.specs.Sequences.{distinct_rows, limited}
use Rattle.fx_algebra.specs.Solutions.{Bindings}
use Rattle.fx_algebra.specs.declared.answers.Answer.TheVariants.{Table, Truth}
use Rattle.fx_algebra.specs.declared.queries.Form.{Form}
use Rattle.fx_algebra.specs.declared.queries.Form.TheVariants.{Select, Ask}
use Rattle.fx_solutions.specs.Tables.{OneAnswer}
use Rattle.fx_solutions.proofs.KeyLemmas.{same_in_order}

same_length : (a b : List Bindings) → length b ≡ length a → has_rows a ≡ has_rows b
same_length [] [] e = refl
same_length [] (s ∷ b) e = absurd (cc)
same_length (r ∷ a) [] e = absurd (cc)
same_length (r ∷ a) (s ∷ b) e = refl

pub one_answer_holds : OneAnswer
one_answer_holds q a b up same = of_form q.form
  where
    of_form : (form : Form) → form_answer q form a ≡ form_answer q form b
    of_form (Select distinct columns) = ap (λ rows. Table columns (limited q.limit (drop q.offset (distinct_rows distinct columns rows)))) (same_in_order q.order columns a b up same)
    of_form Ask = ap Truth (same_length a b (length_permutation a b same))
