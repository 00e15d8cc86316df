-- The order of what was found tells all apart, and lists are added one by one.
use Rattle.std.proofs.Common.{◌≡◌, ◌∙◌, sym, refl, ℕ, ◌≤◌, List, ◌++◌, append-nil, drop, length, ap, arith}
use Rattle.std.specs.List.{flat_map}
use Rattle.std.specs.declared.cmp.Ordering.{Ordering}
use Rattle.std.specs.declared.cmp.Ordering.TheVariants.{Less, Equal, Greater}
use Rattle.std.specs.Ordering.{nat_cmp, ordering_then}
use Rattle.std.proofs.Math.ListN.{drop_of_length-le}
use Rattle.std.proofs.lemmas.Bool.Decides.{nat_tests}
use Rattle.fx_algebra.specs.Solutions.{solution_cmp}
use Rattle.fx_algebra.proofs.JoinLemmas.{exact_solutions}
use Rattle.fx_founds.specs.FoundOrder.{found_cmp}
use Rattle.fx_founds.specs.declared.founds.Found.{Found}

-- ---- the order

tie : (o p : Ordering) → ordering_then o p ≡ Equal → (o ≡ Equal) × (p ≡ Equal)
tie Equal p h = (refl, h)
tie Less p h = cc
tie Greater p h = cc

exact_numbers : (m n : ℕ) → nat_cmp m n ≡ Equal → m ≡ n
exact_numbers m n h = grind (arith, nat_tests)

pub exact_founds : (a b : Found) → found_cmp a b ≡ Equal → a ≡ b
exact_founds a b h =
    let t = tie (nat_cmp a.branch b.branch) (solution_cmp a.solution b.solution) h in
    let n : a.branch ≡ b.branch = exact_numbers a.branch b.branch t.0 in
    let s : a.solution ≡ b.solution = exact_solutions a.solution b.solution t.1 in
    λ i. record { branch = n i; solution = s i }

-- when the last list is added
pub all_added : (founds : List Found) (i : ℕ) (lists : List (List Found)) → length lists ≤ i → founds ++ flat_map (λ list. list) (drop i lists) ≡ flat_map (λ list. list) lists → founds ≡ flat_map (λ list. list) lists
all_added founds i lists h e =
    sym (append-nil founds) ∙ ap (λ (v : List (List Found)). founds ++ flat_map (λ list. list) v) (sym (drop_of_length-le lists h)) ∙ e
