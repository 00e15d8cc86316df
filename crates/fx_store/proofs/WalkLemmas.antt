-- One triple more of a run.
use Rattle.std.proofs.Common.{◌≡◌, ◌∙◌, ap, sym, refl, ℕ, ◌+◌, ◌-◌, ◌<◌, ◌≤◌, List, [], ◌∷◌, ◌++◌, length, take, drop, get_or, map, Option, Some, arith}
use Rattle.std.specs.List.{filter_map, slice_get, cons_option}
use Rattle.std.specs.Option.{option_to_list}
use Rattle.std.proofs.lemmas.List.{take_more, get_or-drop, length-drop, length-take, map-append}
use Rattle.std.proofs.lemmas.List.Elements.{filter_map-append}
use Rattle.fx_store.proofs.FitLemmas.{one_option}
use Rattle.fx_store.proofs.SearchLemmas.{there, looked}

module _ {X : Type 0} (xs : List X) (start place : ℕ) (x : X) (behind : start ≤ place) (e : slice_get xs place ≡ Some x) where
  run_more : take (place - start) (drop start xs) ++ x ∷ [] ≡ take (place + 1 - start) (drop start xs)
  run_more =
      let within : place < length xs = there xs place x e in
      let same : start + (place - start) ≡ place = omega (arith, behind) in
      let one : place - start + 1 ≡ place + 1 - start = omega (arith, behind) in
      ap (λ v. take (place - start) (drop start xs) ++ v ∷ []) (sym (get_or-drop start xs (place - start) x ∙ ap (λ n. get_or xs n x) same ∙ looked xs place x x e))
      ∙ sym (take_more (drop start xs) (place - start) x (omega (arith, length-drop start xs, within, behind)))
      ∙ ap (λ n. take n (drop start xs)) one

  pub rows_more : {Y : Type 0} (f : X → Option Y) → filter_map f (take (place - start) (drop start xs)) ++ option_to_list (f x) ≡ filter_map f (take (place + 1 - start) (drop start xs))
  rows_more f =
      ap (λ o. filter_map f (take (place - start) (drop start xs)) ++ o) (one_option (f x))
      ∙ sym (filter_map-append f (take (place - start) (drop start xs)) (x ∷ []))
      ∙ ap (filter_map f) run_more

  pub places_more : map Some (take (place - start) (drop start xs)) ++ Some x ∷ [] ≡ map Some (take (place + 1 - start) (drop start xs))
  places_more = sym (map-append Some (take (place - start) (drop start xs)) (x ∷ [])) ∙ ap (map Some) run_more

-- how many there are
pub run_length : {X : Type 0} (xs : List X) (start end : ℕ) → start ≤ end → end ≤ length xs → length (take (end - start) (drop start xs)) ≡ end - start
run_length xs start end a b = omega (arith, length-take (end - start) (drop start xs), length-drop start xs)

-- one triple more at places
pub found_more : {X Y : Type 0} (f : X → Option Y) (g : ℕ → Option X) (places : List ℕ) (i : ℕ) (x : X) → i < length places → g (get_or places i 0) ≡ Some x
    → filter_map f (filter_map g (take i places)) ++ option_to_list (f x) ≡ filter_map f (filter_map g (take (i + 1) places))
found_more f g places i x b e =
    ap (λ o. filter_map f (filter_map g (take i places)) ++ o) (one_option (f x))
    ∙ sym (filter_map-append f (filter_map g (take i places)) (x ∷ []))
    ∙ ap (λ o. filter_map f (filter_map g (take i places) ++ option_to_list o)) (sym e)
    ∙ ap (λ o. filter_map f (filter_map g (take i places) ++ o)) (one_option (g (get_or places i 0)))
    ∙ ap (filter_map f) (sym (filter_map-append g (take i places) (get_or places i 0 ∷ [])))
    ∙ ap (λ v. filter_map f (filter_map g v)) (sym (take_more places i 0 b))

-- what places give, where all of them give something
pub all_found : {X : Type 0} (g : ℕ → Option X) (places : List ℕ) (xs : List X) → map g places ≡ map Some xs → filter_map g places ≡ xs
all_found g [] [] e = refl
all_found g [] (x ∷ xs) e = absurd (cc)
all_found g (p ∷ ps) [] e = absurd (cc)
all_found g (p ∷ ps) (x ∷ xs) e =
    let here : g p ≡ Some x = cc in
    let rest : map g ps ≡ map Some xs = cc in
    ap (λ o. cons_option o (filter_map g ps)) here ∙ ap (λ v. x ∷ v) (all_found g ps xs rest)
