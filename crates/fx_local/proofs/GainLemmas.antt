-- Lines that are written in pieces.
use Rattle.std.proofs.Common.{◌≡◌, ◌∙◌, ap, sym, ℕ, ◌+◌, ◌<◌, ◌≤◌, ◌⊎◌, inl, inr, List, [], ◌++◌, subst, take, drop, get_or, length, length-append, append_assoc, append-nil, arith}
use Rattle.std.proofs.lemmas.List.{take-append-le, take_all}
use Rattle.std.proofs.Math.Seq.{take-append-add}
use Rattle.std.specs.Prelude.{Result, Ok, Err, OnErr}
use Rattle.fx_outside.specs.Faults.{HasRisen}
use Rattle.fx_outside.specs.Streams.{AppendsFront, AppendsPart}
use Rattle.std.specs.Borrow.{Bor}
use Rattle.std.proofs.lemmas.List.{drop_more, take-append-drop}
use Rattle.std.proofs.lemmas.List.Concat.{flat_map-append}
use Rattle.fx_local.specs.Lines.{Gains, all_pieces}

-- what holds whatever the result is holds where it is an error
pub on_err : {A E : Type 0} (r : Result A E) (P : Type 0) → P → OnErr r P
on_err (Ok x) P p = tt
on_err (Err e) P p = p

-- a count that rose in the later part of a call rose in the call
risen_before : (before between after : ℕ) → before ≤ between → HasRisen between after → HasRisen before after
risen_before before between after h (inl k) = inl (omega arith)
risen_before before between after h (inr k) = inr k

-- a front of a text is a front of a longer one
front_of_longer : (n : ℕ) (a b : List ℕ) → (m : ℕ) × (take n a ≡ take m (a ++ b))
front_of_longer n a b = pick (le_or_lt n (length a))
  where
    le_or_lt : (n m : ℕ) → (n ≤ m) ⊎ (m < n)
    le_or_lt n m = grind arith

    pick : (n ≤ length a) ⊎ (length a < n) → (m : ℕ) × (take n a ≡ take m (a ++ b))
    pick (inl h) = (n, sym (take-append-le n a b h))
    pick (inr h) = (length a, take_all n a (omega arith) ∙ sym (take_all (length a) a (omega arith)) ∙ sym (take-append-le (length a) a b (omega arith)))

-- the first piece was cut off
pub gains_cut : (old new : List ℕ) (before after : ℕ) (a b : List ℕ) → AppendsFront old new a → HasRisen before after → Gains old new before after (a ++ b)
gains_cut old new before after a b front risen =
    let longer = front_of_longer front.0 a b in
    record { front = (longer.0, front.1 ∙ ap (λ t. old ++ t) longer.1); whole = λ not. absurd (not risen) }

-- a piece was written, and then others
pub gains_then : (old mid new : List ℕ) (before between after : ℕ) (a b : List ℕ) → mid ≡ old ++ a → before ≤ between → Gains mid new between after b → Gains old new before after (a ++ b)
gains_then old mid new before between after a b wrote kept rest = record {
  front = (length a + rest.front.0, rest.front.1 ∙ ap (λ m. m ++ take rest.front.0 b) wrote ∙ append_assoc old a (take rest.front.0 b) ∙ ap (λ t. old ++ t) (sym (take-append-add a b rest.front.0)));
  whole = λ not. rest.whole (λ risen. not (risen_before before between after kept risen)) ∙ ap (λ m. m ++ b) wrote ∙ append_assoc old a b;
}

-- a line was written behind others
pub gains_behind : (old mid new : List ℕ) (before between after : ℕ) (lines last : List ℕ) → mid ≡ old ++ lines → between ≡ before → Gains mid new between after last → Gains (old ++ lines) new before after last
gains_behind old mid new before between after lines last wrote kept gains = subst (λ (count : ℕ). Gains (old ++ lines) new count after last) kept (subst (λ (held : List ℕ). Gains held new between after last) wrote gains)

-- a line was written alone
pub gains_alone : (old new : List ℕ) (before after : ℕ) (last : List ℕ) → Gains old new before after last → Gains (old ++ []) new before after last
gains_alone old new before after last gains = subst (λ (held : List ℕ). Gains held new before after last) (sym (append-nil old)) gains

-- nothing was written behind lines
pub gains_none : (old new : List ℕ) (before after : ℕ) (lines : List ℕ) → new ≡ old ++ lines → Gains (old ++ lines) new before after []
gains_none old new before after lines wrote =
    let same : new ≡ (old ++ lines) ++ [] = wrote ∙ sym (append-nil (old ++ lines)) in
    record { front = (0, same); whole = λ not. same }

-- ---- pieces

-- the pieces are those before a place, the one there, and those behind it
pieces_at : (pieces : List (Bor (List ℕ))) (i : ℕ) (d : Bor (List ℕ)) → i < length pieces → all_pieces pieces ≡ all_pieces (take i pieces) ++ ((get_or pieces i d).now ++ all_pieces (drop (i + 1) pieces))
pieces_at pieces i d b =
    ap all_pieces (sym (take-append-drop i pieces))
    ∙ flat_map-append (λ (p : Bor (List ℕ)). p.now) (take i pieces) (drop i pieces)
    ∙ ap (λ rest. all_pieces (take i pieces) ++ all_pieces rest) (drop_more pieces i d b)

-- pieces were written up to a place, and of the one there a front
pub pieces_cut : (old mid new text : List ℕ) (pieces : List (Bor (List ℕ))) (i : ℕ) (d : Bor (List ℕ)) → i < length pieces → text ≡ (get_or pieces i d).now → mid ≡ old ++ all_pieces (take i pieces) → AppendsFront mid new text → AppendsFront old new (all_pieces pieces)
pieces_cut old mid new text pieces i d b is wrote front =
    let piece = (get_or pieces i d).now in
    let rest = all_pieces (drop (i + 1) pieces) in
    let longer = front_of_longer front.0 piece rest in
    subst (AppendsFront old new) (sym (pieces_at pieces i d b)) (
      length (all_pieces (take i pieces)) + longer.0,
      front.1 ∙ ap (λ t. mid ++ take front.0 t) is ∙ ap (λ t. mid ++ t) longer.1 ∙ ap (λ m. m ++ take longer.0 (piece ++ rest)) wrote ∙ append_assoc old (all_pieces (take i pieces)) (take longer.0 (piece ++ rest)) ∙ ap (λ t. old ++ t) (sym (take-append-add (all_pieces (take i pieces)) (piece ++ rest) longer.0)),
    )

-- and a front of that one which is shorter than it is
pub pieces_part : (old mid new text : List ℕ) (pieces : List (Bor (List ℕ))) (i : ℕ) (d : Bor (List ℕ)) → i < length pieces → text ≡ (get_or pieces i d).now → mid ≡ old ++ all_pieces (take i pieces) → AppendsPart mid new text → AppendsPart old new (all_pieces pieces)
pieces_part old mid new text pieces i d b is wrote part =
    let piece = (get_or pieces i d).now in
    let front = all_pieces (take i pieces) in
    let rest = all_pieces (drop (i + 1) pieces) in
    let n = part.0 in
    let below : n < length piece = subst (λ t. n < length t) is part.1 in
    let long : length (front ++ (piece ++ rest)) ≡ length front + length (piece ++ rest) = length-append front (piece ++ rest) in
    let more : length (piece ++ rest) ≡ length piece + length rest = length-append piece rest in
    let within : take n piece ≡ take n (piece ++ rest) = sym (take-append-le n piece rest (omega (arith, below))) in
    subst (AppendsPart old new) (sym (pieces_at pieces i d b)) (
      length front + n,
      omega (arith, below, long, more),
      part.2 ∙ ap (λ t. mid ++ take n t) is ∙ ap (λ t. mid ++ t) within ∙ ap (λ m. m ++ take n (piece ++ rest)) wrote ∙ append_assoc old front (take n (piece ++ rest)) ∙ ap (λ t. old ++ t) (sym (take-append-add front (piece ++ rest) n)),
    )

-- all were written
pub pieces_whole : (old new text : List ℕ) → new ≡ old ++ text → AppendsFront old new text
pieces_whole old new text wrote = (length text, wrote ∙ ap (λ t. old ++ t) (sym (take_all (length text) text (omega arith))))
