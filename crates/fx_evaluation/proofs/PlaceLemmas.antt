-- The first occurrence that isn't down, by marks.
use Rattle.std.proofs.Common.{◌≡◌, ◌∙◌, ap, refl, ℕ, suc, ◌+◌, ◌<◌, Bool, false, cond, List, [], ◌∷◌, length, get_or, arith, Some}
use Rattle.fx_algebra.specs.Groups.{is_down}
use Rattle.fx_algebra.specs.Occurrences.{Occurrence}
use Rattle.fx_evaluation.specs.FirstHere.{first_up, first_false, AreMarks}

module _ (down : List ℕ) where
  by_marks : (number : ℕ) (os : List Occurrence) (marks : List Bool) → length marks ≡ length os → ((n : ℕ) → n < length os → get_or marks n false ≡ is_down down (number + n)) → first_false number marks ≡ first_up down number os
  by_marks number [] [] long each = refl
  by_marks number [] (b ∷ bs) long each = absurd (omega arith)
  by_marks number (o ∷ os) [] long each = absurd (omega arith)
  by_marks number (o ∷ os) (b ∷ bs) long each =
      let plus : number + 0 ≡ number = omega arith in
      let here : b ≡ is_down down number = each 0 (omega arith) ∙ ap (is_down down) plus in
      let rest : first_false (suc number) bs ≡ first_up down (suc number) os = by_marks (suc number) os bs (omega arith) (λ n h. let next : number + suc n ≡ suc number + n = omega arith in each (suc n) (omega arith) ∙ ap (is_down down) next) in
      ap (λ v. cond b v (Some number)) rest ∙ ap (λ c. cond c (first_up down (suc number) os) (Some number)) here

  pub first_by_marks : (os : List Occurrence) (count : ℕ) (marks : List Bool) → count ≡ length os → AreMarks down count marks → first_false 0 marks ≡ first_up down 0 os
  first_by_marks os count marks e h =
      by_marks 0 os marks (h.long ∙ e) (λ n b. let plus : n ≡ 0 + n = omega arith in h.each n (omega arith) ∙ ap (is_down down) plus)
