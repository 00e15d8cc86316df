-- What is left of an input after some bytes were taken.
use Rattle.std.proofs.Common.{◌≡◌, ◌∙◌, ℕ, ◌+◌, ◌≤◌, List, [], ◌++◌, append-nil, append_assoc, length, take, drop, sym, ap, subst, refl, arith}
use Rattle.std.proofs.Math.Seq.{drop-append-add, drop-append_seam, take-append_seam}
use Rattle.std.proofs.lemmas.List.{drop-drop, drop_all, take_all, take-append-drop}
use Rattle.fx_http.specs.Answers.{IsRestWithin}

-- a front was taken, and then so many bytes
pub rest_two : (most : ℕ) (input front left after : List ℕ) (n : ℕ) → input ≡ front ++ left → after ≡ drop n left → length front + n ≤ most → IsRestWithin most input after
rest_two most input front left after n e f short =
    (length front + n, short, f ∙ sym (drop-append-add front left n) ∙ sym (ap (λ (t : List ℕ). drop (length front + n) t) e))

-- a front was taken
pub rest_one : (most : ℕ) (input front left : List ℕ) → input ≡ front ++ left → length front ≤ most → IsRestWithin most input left
rest_one most input front left e short =
    (length front, short, sym (drop-append_seam front left) ∙ sym (ap (λ (t : List ℕ). drop (length front) t) e))

-- nothing was taken
pub rest_none : (most : ℕ) (input left : List ℕ) → left ≡ input → IsRestWithin most input left
rest_none most input left e = (0, omega arith, e)

-- a rest of a rest
pub rest_then : (a b most : ℕ) (input middle after : List ℕ) → a + b ≤ most → IsRestWithin a input middle → IsRestWithin b middle after → IsRestWithin most input after
rest_then a b most input middle after short x y =
    let few = x.1 in
    let more = y.1 in
    (x.0 + y.0, omega arith, y.2 ∙ ap (λ (t : List ℕ). drop y.0 t) x.2 ∙ drop-drop y.0 x.0 input)

-- as many as are wanted were taken
pub taken_all : (most : ℕ) (input front left : List ℕ) → input ≡ front ++ left → length front ≡ most → (front ≡ take most input) × (left ≡ drop most input)
taken_all most input front left e same = rw e (subst (λ (n : ℕ). (front ≡ take n (front ++ left)) × (left ≡ drop n (front ++ left))) same (sym (take-append_seam front left), sym (drop-append_seam front left)))

-- all there are were taken, and not more than are wanted
pub taken_ended : (most n : ℕ) (input front left after : List ℕ) → input ≡ front ++ left → left ≡ [] → after ≡ drop n left → length front ≤ most → (front ≡ take most input) × (after ≡ drop most input)
taken_ended most n input front left after e none rest short =
    let whole : input ≡ front = e ∙ ap (λ (t : List ℕ). front ++ t) none ∙ append-nil front in
    let empty : after ≡ [] = rest ∙ ap (λ (t : List ℕ). drop n t) none ∙ drop_all n [] (omega arith) in
    (sym (ap (λ (t : List ℕ). take most t) whole ∙ take_all most front short), empty ∙ sym (ap (λ (t : List ℕ). drop most t) whole ∙ drop_all most front short))

-- a front was taken, and then a piece
pub came_piece : (input front piece left after now : List ℕ) (n : ℕ) → input ≡ front ++ left → piece ≡ take n left → after ≡ drop n left → now ≡ front ++ piece → input ≡ now ++ after
came_piece input front piece left after now n e p f k =
    e ∙ ap (λ (t : List ℕ). front ++ t) (sym (take-append-drop n left)) ∙ sym (append_assoc front (take n left) (drop n left))
    ∙ sym (ap (λ (t : List ℕ). now ++ t) f ∙ ap (λ (t : List ℕ). t ++ drop n left) (k ∙ ap (λ (t : List ℕ). front ++ t) p))

-- of more bytes
pub rest_within_more : (few most : ℕ) (input after : List ℕ) → few ≤ most → IsRestWithin few input after → IsRestWithin most input after
rest_within_more few most input after short x = let n = x.1 in (x.0, omega arith, x.2)
