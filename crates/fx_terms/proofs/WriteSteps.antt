-- The steps along a form that is written.
use Rattle.std.proofs.Common.{◌≡◌, ℕ, ◌+◌, ◌-◌, ◌<◌, ◌≤◌, List, [], ◌∷◌, ◌++◌, length, take, drop, get_or, refl, sym, ap, ◌∙◌, arith, add-one, append_assoc, drop-cons, length-drop}
use Rattle.std.specs.List.{flat_map}
use Rattle.std.proofs.lemmas.List.{drop-drop, get_or-drop, take_more, take-append-drop}
use Rattle.std.proofs.lemmas.List.Concat.{flat_map-append}
use Rattle.fx_terms.specs.Writing.{written_byte}

-- one more byte that is written as itself
pub plain_more : (form : List ℕ) (from i : ℕ) → i < length form → from ≤ i → written_byte (get_or form i 0) ≡ get_or form i 0 ∷ [] →
    flat_map written_byte (take (i - from) (drop from form)) ≡ take (i - from) (drop from form) → flat_map written_byte (take (i + 1 - from) (drop from form)) ≡ take (i + 1 - from) (drop from form)
plain_more form from i l f e h =
    let n : i + 1 - from ≡ i - from + 1 = omega arith in
    let k : i - from < length (drop from form) = omega (arith, length-drop from form) in
    let here : get_or (drop from form) (i - from) 0 ≡ get_or form i 0 = get_or-drop from form (i - from) 0 ∙ ap (λ j. get_or form j 0) (omega arith) in
    rw (n, take_more (drop from form) (i - from) 0 k, here, flat_map-append written_byte (take (i - from) (drop from form)) (get_or form i 0 ∷ []), h, e) refl

-- a byte that is written as an escape, behind others that are written as themselves
pub escape_more : (form out escape whole : List ℕ) (from i : ℕ) → i < length form → from ≤ i → written_byte (get_or form i 0) ≡ escape →
    flat_map written_byte (take (i - from) (drop from form)) ≡ take (i - from) (drop from form) → out ++ flat_map written_byte (drop from form) ≡ whole →
    ((out ++ take (i - from) (drop from form)) ++ escape) ++ flat_map written_byte (drop (i + 1) form) ≡ whole
escape_more form out escape whole from i l f e h so =
    let n : from + (i - from) ≡ i = omega arith in
    let cut : drop from form ≡ take (i - from) (drop from form) ++ get_or form i 0 ∷ drop (i + 1) form =
    sym (take-append-drop (i - from) (drop from form)) ∙ ap (λ t. take (i - from) (drop from form) ++ t) (drop-drop (i - from) from form ∙ ap (λ k. drop k form) n ∙ drop-cons form i 0 l ∙ ap (λ k. get_or form i 0 ∷ drop k form) (sym (add-one i))) in
    let parts : flat_map written_byte (drop from form) ≡ take (i - from) (drop from form) ++ (escape ++ flat_map written_byte (drop (i + 1) form)) =
    ap (flat_map written_byte) cut ∙ flat_map-append written_byte (take (i - from) (drop from form)) (get_or form i 0 ∷ drop (i + 1) form) ∙ rw (h, e) refl in
    append_assoc (out ++ take (i - from) (drop from form)) escape (flat_map written_byte (drop (i + 1) form)) ∙ append_assoc out (take (i - from) (drop from form)) (escape ++ flat_map written_byte (drop (i + 1) form)) ∙ ap (λ t. out ++ t) (sym parts) ∙ so
