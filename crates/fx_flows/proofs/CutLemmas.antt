-- Rows that are cut, row after row.
use Rattle.std.proofs.Common.{◌≡◌, ◌∙◌, ap, sym, subst, refl, ℕ, ◌+◌, ◌*◌, ◌<◌, ◌≤◌, List, [], ◌∷◌, ◌++◌, All, IfOk, Result, Ok, Err, inl, inr, length, arith, append-nil, append_assoc, length-append, add-mul, one-mul}
use Rattle.std.specs.declared.alloc.Global.{Global}
use Rattle.std.specs.declared.vec.Vec.{Vec}
use Rattle.std.proofs.lemmas.Grind.{flat_map-append}
use Rattle.std.proofs.lemmas.List.Elements.{All-append, All-from_recursion, All-nil}
use Rattle.fx_terms.specs.declared.allocation.Memory.{Memory}
use Rattle.fx_algebra.specs.declared.units.Row.{Row}
use Rattle.fx_traffic.specs.Batches.{AreCut, IsSized, joined}
use Rattle.fx_flows.specs.Cuts.{IsClosed, MakesRoom}

-- so many rows are in full batches, and in one that isn't empty but where there are none
pub record AreCutSoFar (rows : List Row) (block : ℕ) (batches : List (List Row)) (batch : List Row) : Type 0 where
  pub whole : joined batches ++ batch ≡ rows
  pub sized : All (IsSized block) batches
  pub full : length batches * block + length batch ≡ length rows
  pub most : length batch ≤ block
  pub some : 0 < length rows → 0 < length batch

pub none_cut : (block : ℕ) → AreCutSoFar [] block [] []
none_cut block = record { whole = refl; sized = All-nil (IsSized block); full = omega arith; most = omega arith; some = λ h. h }

module _ (rows : List Row) (block : ℕ) (positive : 0 < block) (batches : List (List Row)) (batch : List Row) (h : AreCutSoFar rows block batches batch) where
  joined_more : joined (batches ++ batch ∷ []) ≡ joined batches ++ batch
  joined_more = flat_map-append (λ (l : List Row). l) batches (batch ∷ []) ∙ ap (λ (l : List Row). joined batches ++ l) (append-nil batch)

  more_long : length (batches ++ batch ∷ []) * block ≡ length batches * block + block
  more_long = ap (λ (n : ℕ). n * block) (length-append batches (batch ∷ [])) ∙ add-mul (length batches) 1 block ∙ ap (λ (n : ℕ). length batches * block + n) (one-mul block)

  row_joined : (row : Row) → length batch < block → AreCutSoFar (rows ++ row ∷ []) block batches (batch ++ row ∷ [])
  row_joined row room = record {
    whole = sym (append_assoc (joined batches) batch (row ∷ [])) ∙ ap (λ (l : List Row). l ++ row ∷ []) h.whole;
    sized = h.sized;
    full = (let full = h.full in omega (arith, full, length-append batch (row ∷ []), length-append rows (row ∷ [])));
    most = omega (arith, room, length-append batch (row ∷ []));
    some = λ any. omega (arith, length-append batch (row ∷ []));
  }

  batch_full : (row : Row) → block ≤ length batch → AreCutSoFar (rows ++ row ∷ []) block (batches ++ batch ∷ []) (row ∷ [])
  batch_full row full = record {
    whole = ap (λ (l : List Row). l ++ row ∷ []) (joined_more ∙ h.whole);
    sized = All-append (IsSized block) batches (batch ∷ []) h.sized (All-from_recursion (IsSized block) (batch ∷ []) ((omega (arith, full, positive), h.most), tt));
    full = (let all = h.full in let most : length batch ≤ block = h.most in omega (arith, all, most, full, more_long, length-append rows (row ∷ [])));
    most = omega (arith, positive);
    some = λ any. omega arith;
  }

  -- a row more
  pub one_more : (row : Row) (later : List (List Row)) (next last : List Row) → MakesRoom block batches batch later (Ok next) → last ≡ next ++ row ∷ [] → AreCutSoFar (rows ++ row ∷ []) block later last
  one_more row later next last (inl k) e =
      subst (λ (v : List (List Row)). AreCutSoFar (rows ++ row ∷ []) block v last) (sym k.1)
      (subst (AreCutSoFar (rows ++ row ∷ []) block batches) (ap (λ (v : List Row). v ++ row ∷ []) (sym k.2) ∙ sym e) (row_joined row k.0))
  one_more row later next last (inr k) e =
      subst (λ (v : List (List Row)). AreCutSoFar (rows ++ row ∷ []) block v last) (sym k.1)
      (subst (AreCutSoFar (rows ++ row ∷ []) block (batches ++ batch ∷ [])) (ap (λ (v : List Row). v ++ row ∷ []) (sym k.2) ∙ sym e) (batch_full row k.0))

  cut_whole : 0 < length batch → AreCut rows block (batches ++ batch ∷ [])
  cut_whole some = record {
    of_rows = joined_more ∙ h.whole;
    sized = All-append (IsSized block) batches (batch ∷ []) h.sized (All-from_recursion (IsSized block) (batch ∷ []) ((some, h.most), tt));
    few = (let all = h.full in omega (arith, all, some, more_long));
  }

  cut_none : batch ≡ [] → AreCut rows block batches
  cut_none none =
      let empty : length batch ≡ 0 = ap length none in
      record {
        of_rows = sym (append-nil (joined batches)) ∙ ap (λ (l : List Row). joined batches ++ l) (sym none) ∙ h.whole;
        sized = h.sized;
        few = (let all = h.full in omega (arith, all, empty, positive));
      }

  pub cut_all : (r : Result (Vec (List Row) Global) Memory) → IsClosed batches batch r → IfOk r (λ all. AreCut rows block all.items)
  cut_all (Ok all) (inl k) = subst (AreCut rows block) (sym k.1) (cut_none k.0)
  cut_all (Ok all) (inr k) = subst (AreCut rows block) (sym k.1) (cut_whole k.0)
  cut_all (Err e) k = tt
