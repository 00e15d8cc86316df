-- Where the numbers of all occurrences of SERVICE are handed in, none is left.
use Rattle.std.proofs.Common.{◌≡◌, ◌∙◌, ap, sym, refl, ℕ, suc, Bool, true, false, ◌||◌, List, [], ◌∷◌, ◌++◌, Some, None, cond, append_assoc, arith, tests}
use Rattle.std.specs.Prelude.{◌==◌}
use Rattle.std.proofs.lemmas.List.Folds.{list_any-append}
use Rattle.fx_algebra.specs.Groups.{is_down}
use Rattle.fx_algebra.specs.Occurrences.{Occurrence, services}
use Rattle.fx_algebra.specs.declared.queries.Query.{Query}
use Rattle.fx_evaluation.specs.FirstHere.{first_up, first_here}
use Rattle.fx_local.specs.Services.{numbered, all_numbers}

is_itself : (n : ℕ) → (n == n) ≡ true
is_itself n = grind (arith, tests)

or_here : (a b c : Bool) → b ≡ true → (a || (b || c)) ≡ true
or_here true b c h = refl
or_here false true c h = refl
or_here false false c h = absurd (cc)

stands : (front rest : List ℕ) (n : ℕ) → is_down (front ++ n ∷ rest) n ≡ true
stands front rest n = list_any-append (λ m. m == n) front (n ∷ rest) ∙ or_here (is_down front n) (n == n) (is_down rest n) (is_itself n)

none_up : (front : List ℕ) (n : ℕ) (os : List Occurrence) → first_up (front ++ numbered n os) n os ≡ None
none_up front n [] = refl
none_up front n (o ∷ os) =
    let rest = numbered (suc n) os in
    ap (λ b. cond b (first_up (front ++ n ∷ rest) (suc n) os) (Some n)) (stands front rest n)
    ∙ ap (λ down. first_up down (suc n) os) (sym (append_assoc front (n ∷ []) rest))
    ∙ none_up (front ++ n ∷ []) (suc n) os

pub none_here : (q : Query) → first_here q (all_numbers (services q)) ≡ None
none_here q = none_up [] 0 (services q)
