-- Exchanges, read one after the other: what is read of them, and where they stop.
use Rattle.std.proofs.Common.{◌≡◌, ◌≢◌, ◌∙◌, ap, sym, subst, refl, ℕ, ◌<◌, List, [], ◌∷◌, ◌++◌, length, drop, get_or, codes, Option, Some, None, Result, Ok, Err, append_assoc, append-nil, arith, length-append}
use Rattle.std.proofs.lemmas.List.{append_cancel_left}
use Rattle.fx_tape.specs.Exchanges.{failed, failed_at, failed_size, failed_block, failed_exchange, answered, answered_at, answered_size, answered_reply_size, answered_request, answered_reply, answered_exchange, answered_or_end, next, exchanges}
use Rattle.fx_tape.specs.Pieces.{word, number, block}
use Rattle.fx_tape.specs.Spellings.{Begins, Stops, Halts, EndsAt, Reads, made}
use Rattle.fx_tape.specs.declared.faults.Stop.{Stop}
use Rattle.fx_tape.specs.declared.faults.Stop.TheVariants.{At, Memory}
use Rattle.fx_tape.specs.declared.tapes.Exchange.{Exchange}
use Rattle.fx_tape.proofs.ClearPieces.{clear_at, clear_size, clear_last_size, clear_failed_word, clear_answered_word, clear_failed_size, clear_failed_block, clear_failed_at, clear_answered_request, clear_answered_reply_size, clear_answered_size, clear_answered_at, clear_answered_reply, clear_some_answered, clear_some_failed, clear_no_more, clear_answered_or_end, clear_next, x_or_n, f_or_e, end_word, ends_next}
use Rattle.fx_tape.proofs.Fronts.{headed}
use Rattle.fx_tape.proofs.PieceLemmas.{clear_block}
use Rattle.fx_tape.proofs.SpellingLemmas.{not_empty, not_begun, then_begins, first_halts, behind_halts, made_begins, made_halts, left_begins, right_begins, left_halts, right_halts, neither_stops}

-- ---- a failed one

module _ (bytes : List ℕ) where
  pub failed_word_halts : (e : Stop) → Halts (word (codes "ailed ")) bytes e → Halts failed bytes e
  unfolding failed
  failed_word_halts e h = first_halts (word (codes "ailed ")) (λ u. failed_at) clear_failed_word (λ u. clear_failed_at) bytes e h

  module _ (a : List ℕ) (ha : Begins (word (codes "ailed ")) bytes tt a) where
    pub failed_at_halts : (e : Stop) → Halts (number 0 63 32) a e → Halts failed bytes e
    unfolding failed
    failed_at_halts e h =
        behind_halts (word (codes "ailed ")) (λ u. failed_at) clear_failed_word bytes tt a e ha
        (first_halts (number 0 63 32) failed_size clear_at clear_failed_size a e h)

    module _ (at : ℕ) (b : List ℕ) (hb : Begins (number 0 63 32) a at b) where
      pub failed_size_halts : (e : Stop) → Halts (number 0 67174400 10) b e → Halts failed bytes e
      unfolding failed
      failed_size_halts e h =
          behind_halts (word (codes "ailed ")) (λ u. failed_at) clear_failed_word bytes tt a e ha
          (behind_halts (number 0 63 32) failed_size clear_at a at b e hb
          (first_halts (number 0 67174400 10) (failed_block at) clear_last_size (clear_failed_block at) b e h))

      module _ (size : ℕ) (d : List ℕ) (hd : Begins (number 0 67174400 10) b size d) where
        pub failed_block_halts : (e : Stop) → Halts (block size) d e → Halts failed bytes e
        unfolding failed
        failed_block_halts e h =
            behind_halts (word (codes "ailed ")) (λ u. failed_at) clear_failed_word bytes tt a e ha
            (behind_halts (number 0 63 32) failed_size clear_at a at b e hb
            (behind_halts (number 0 67174400 10) (failed_block at) clear_last_size b size d e hd
            (made_halts (failed_exchange at) (block size) d e h)))

        pub failed_begins : (request rest : List ℕ) → Begins (block size) d request rest → Begins failed bytes (failed_exchange at request) rest
        unfolding failed
        failed_begins request rest h =
            then_begins (word (codes "ailed ")) (λ u. failed_at) clear_failed_word bytes tt a (failed_exchange at request) rest ha
            (then_begins (number 0 63 32) failed_size clear_at a at b (failed_exchange at request) rest hb
            (then_begins (number 0 67174400 10) (failed_block at) clear_last_size b size d (failed_exchange at request) rest hd
            (made_begins (failed_exchange at) (block size) d request rest h)))

  -- ---- one with a reply

  pub answered_word_halts : (e : Stop) → Halts (word (codes "change ")) bytes e → Halts answered bytes e
  unfolding answered
  answered_word_halts e h = first_halts (word (codes "change ")) (λ u. answered_at) clear_answered_word (λ u. clear_answered_at) bytes e h

  module _ (a : List ℕ) (ha : Begins (word (codes "change ")) bytes tt a) where
    in_answered : (e : Stop) → Halts answered_at a e → Halts answered bytes e
    unfolding answered
    in_answered e h = behind_halts (word (codes "change ")) (λ u. answered_at) clear_answered_word bytes tt a e ha h

    pub answered_at_halts : (e : Stop) → Halts (number 0 63 32) a e → Halts answered bytes e
    answered_at_halts e h = in_answered e (first_halts (number 0 63 32) answered_size clear_at clear_answered_size a e h)

    module _ (at : ℕ) (b : List ℕ) (hb : Begins (number 0 63 32) a at b) where
      in_answered_at : (e : Stop) → Halts (answered_size at) b e → Halts answered bytes e
      in_answered_at e h = in_answered e (behind_halts (number 0 63 32) answered_size clear_at a at b e hb h)

      pub answered_size_halts : (e : Stop) → Halts (number 0 67174400 32) b e → Halts answered bytes e
      answered_size_halts e h = in_answered_at e (first_halts (number 0 67174400 32) (answered_reply_size at) clear_size (clear_answered_reply_size at) b e h)

      module _ (size : ℕ) (d : List ℕ) (hd : Begins (number 0 67174400 32) b size d) where
        in_answered_size : (e : Stop) → Halts (answered_reply_size at size) d e → Halts answered bytes e
        in_answered_size e h = in_answered_at e (behind_halts (number 0 67174400 32) (answered_reply_size at) clear_size b size d e hd h)

        pub answered_reply_size_halts : (e : Stop) → Halts (number 0 67174400 10) d e → Halts answered bytes e
        answered_reply_size_halts e h = in_answered_size e (first_halts (number 0 67174400 10) (answered_request at size) clear_last_size (clear_answered_request at size) d e h)

        module _ (reply_size : ℕ) (f : List ℕ) (hf : Begins (number 0 67174400 10) d reply_size f) where
          in_answered_reply_size : (e : Stop) → Halts (answered_request at size reply_size) f e → Halts answered bytes e
          in_answered_reply_size e h = in_answered_size e (behind_halts (number 0 67174400 10) (answered_request at size) clear_last_size d reply_size f e hf h)

          pub answered_request_halts : (e : Stop) → Halts (block size) f e → Halts answered bytes e
          answered_request_halts e h = in_answered_reply_size e (first_halts (block size) (answered_reply at reply_size) (clear_block size) (clear_answered_reply at reply_size) f e h)

          module _ (request g : List ℕ) (hg : Begins (block size) f request g) where
            pub answered_reply_halts : (e : Stop) → Halts (block reply_size) g e → Halts answered bytes e
            answered_reply_halts e h =
                in_answered_reply_size e
                (behind_halts (block size) (answered_reply at reply_size) (clear_block size) f request g e hg
                (made_halts (answered_exchange at request) (block reply_size) g e h))

            pub answered_begins : (reply rest : List ℕ) → Begins (block reply_size) g reply rest → Begins answered bytes (answered_exchange at request reply) rest
            unfolding answered
            answered_begins reply rest h =
                then_begins (word (codes "change ")) (λ u. answered_at) clear_answered_word bytes tt a (answered_exchange at request reply) rest ha
                (then_begins (number 0 63 32) answered_size clear_at a at b (answered_exchange at request reply) rest hb
                (then_begins (number 0 67174400 32) (answered_reply_size at) clear_size b size d (answered_exchange at request reply) rest hd
                (then_begins (number 0 67174400 10) (answered_request at size) clear_last_size d reply_size f (answered_exchange at request reply) rest hf
                (then_begins (block size) (answered_reply at reply_size) (clear_block size) f request g (answered_exchange at request reply) rest hg
                (made_begins (answered_exchange at request) (block reply_size) g reply rest h)))))

-- ---- by the first byte

module _ (bytes : List ℕ) where
  no_first : length bytes ≡ 0 → (b : ℕ) (rest : List ℕ) → bytes ≡ b ∷ rest → ⊥
  no_first e b rest is = let long : length bytes ≡ length (b ∷ rest) = ap length is in absurd (omega arith)

  other_first : 0 < length bytes → (b : ℕ) → get_or bytes 0 0 ≢ b → (rest : List ℕ) → bytes ≡ b ∷ rest → ⊥
  other_first some b other rest is = other (ap (λ (z : List ℕ). get_or z 0 0) is)

  pub or_end_empty : length bytes ≡ 0 → Stops answered_or_end bytes 0
  unfolding answered_or_end
  or_end_empty e =
      subst (λ (z : ℕ). Stops answered_or_end bytes z) e
      (neither_stops 120 (made Some answered) 110 (made (λ u. None) (word (codes "d\n"))) x_or_n clear_some_answered clear_no_more bytes (λ rest. no_first e 120 rest) (λ rest. no_first e 110 rest))

  pub next_empty : length bytes ≡ 0 → Stops next bytes 0
  unfolding next
  next_empty e =
      subst (λ (z : ℕ). Stops next bytes z) e
      (neither_stops 102 (made Some failed) 101 answered_or_end f_or_e clear_some_failed clear_answered_or_end bytes (λ rest. no_first e 102 rest) (λ rest. no_first e 101 rest))

  module _ (some : 0 < length bytes) where
    pub or_end_other : get_or bytes 0 0 ≢ 120 → get_or bytes 0 0 ≢ 110 → Stops answered_or_end bytes (length bytes)
    unfolding answered_or_end
    or_end_other x n =
        neither_stops 120 (made Some answered) 110 (made (λ u. None) (word (codes "d\n"))) x_or_n clear_some_answered clear_no_more bytes (other_first some 120 x) (other_first some 110 n)

    pub next_other : get_or bytes 0 0 ≢ 102 → get_or bytes 0 0 ≢ 101 → Stops next bytes (length bytes)
    unfolding next
    next_other f e =
        neither_stops 102 (made Some failed) 101 answered_or_end f_or_e clear_some_failed clear_answered_or_end bytes (other_first some 102 f) (other_first some 101 e)

    pub or_end_answered_halts : get_or bytes 0 0 ≡ 120 → (e : Stop) → Halts answered (drop 1 bytes) e → Halts answered_or_end bytes e
    unfolding answered_or_end
    or_end_answered_halts is e h =
        subst (λ (z : List ℕ). Halts answered_or_end z e) (sym (headed bytes 120 some is))
        (left_halts 120 (made Some answered) 110 (made (λ u. None) (word (codes "d\n"))) x_or_n (drop 1 bytes) e (made_halts Some answered (drop 1 bytes) e h))

    pub or_end_answered : get_or bytes 0 0 ≡ 120 → (x : Exchange) (rest : List ℕ) → Begins answered (drop 1 bytes) x rest → Begins answered_or_end bytes (Some x) rest
    unfolding answered_or_end
    or_end_answered is x rest h =
        subst (λ (z : List ℕ). Begins answered_or_end z (Some x) rest) (sym (headed bytes 120 some is))
        (left_begins 120 (made Some answered) 110 (made (λ u. None) (word (codes "d\n"))) (drop 1 bytes) (Some x) rest (made_begins Some answered (drop 1 bytes) x rest h))

    pub or_end_halts : get_or bytes 0 0 ≡ 110 → (e : Stop) → Halts (word (codes "d\n")) (drop 1 bytes) e → Halts answered_or_end bytes e
    unfolding answered_or_end
    or_end_halts is e h =
        subst (λ (z : List ℕ). Halts answered_or_end z e) (sym (headed bytes 110 some is))
        (right_halts 120 (made Some answered) 110 (made (λ u. None) (word (codes "d\n"))) x_or_n (drop 1 bytes) e (made_halts (λ u. None) (word (codes "d\n")) (drop 1 bytes) e h))

    pub or_end_ends : get_or bytes 0 0 ≡ 110 → (rest : List ℕ) → Begins (word (codes "d\n")) (drop 1 bytes) tt rest → Begins answered_or_end bytes None rest
    unfolding answered_or_end
    or_end_ends is rest h =
        subst (λ (z : List ℕ). Begins answered_or_end z None rest) (sym (headed bytes 110 some is))
        (right_begins 120 (made Some answered) 110 (made (λ u. None) (word (codes "d\n"))) (drop 1 bytes) None rest (made_begins (λ u. None) (word (codes "d\n")) (drop 1 bytes) tt rest h))

    pub next_failed_halts : get_or bytes 0 0 ≡ 102 → (e : Stop) → Halts failed (drop 1 bytes) e → Halts next bytes e
    unfolding next
    next_failed_halts is e h =
        subst (λ (z : List ℕ). Halts next z e) (sym (headed bytes 102 some is))
        (left_halts 102 (made Some failed) 101 answered_or_end f_or_e (drop 1 bytes) e (made_halts Some failed (drop 1 bytes) e h))

    pub next_failed : get_or bytes 0 0 ≡ 102 → (x : Exchange) (rest : List ℕ) → Begins failed (drop 1 bytes) x rest → Begins next bytes (Some x) rest
    unfolding next
    next_failed is x rest h =
        subst (λ (z : List ℕ). Begins next z (Some x) rest) (sym (headed bytes 102 some is))
        (left_begins 102 (made Some failed) 101 answered_or_end (drop 1 bytes) (Some x) rest (made_begins Some failed (drop 1 bytes) x rest h))

    -- what is behind the e, as it is
    pub next_reads : {X : Type 0} (view : X → Option Exchange × List ℕ) (r : Result X Stop) → get_or bytes 0 0 ≡ 101 → Reads view answered_or_end (drop 1 bytes) r → Reads view next bytes r
    unfolding next
    next_reads view (Ok x) is h =
        subst (λ (z : List ℕ). Begins next z (view x).0 (view x).1) (sym (headed bytes 101 some is))
        (right_begins 102 (made Some failed) 101 answered_or_end (drop 1 bytes) (view x).0 (view x).1 h)
    next_reads view (Err e) is h =
        subst (λ (z : List ℕ). Halts next z e) (sym (headed bytes 101 some is))
        (right_halts 102 (made Some failed) 101 answered_or_end f_or_e (drop 1 bytes) e h)

-- ---- several

goes : (front : List ℕ) (n : ℕ) (more : List ℕ) (v : Option Exchange) → next (front ++ n ∷ more) v → (m : List ℕ) × (es : List Exchange) × exchanges (front ++ n ∷ m) es
unfolding exchanges
goes front n more None h = (more, [], h)
goes front n more (Some x) h = (more ++ end_word, x ∷ [], (front ++ n ∷ more, end_word, sym (append_assoc front (n ∷ more) end_word), h, ends_next))

one_ends_by : (front : List ℕ) (n : ℕ) (more : List ℕ) (v : Option Exchange) → next (front ++ n ∷ more) v → (b : ℕ) → ((m : List ℕ) (z : Option Exchange) → next (front ++ b ∷ m) z → ⊥)
    → (m : List ℕ) (es : List Exchange) → exchanges (front ++ b ∷ m) es → ⊥
unfolding exchanges
one_ends_by front n more v go b e m [] h = e m None h
one_ends_by front n more v go b e m (x ∷ xs) h = not_begun next clear_next front more m n b v go e h.0 h.1 (Some x) h.3 h.2

one_ends : (front rest : List ℕ) (n : ℕ) (more : List ℕ) (v : Option Exchange) → next (front ++ n ∷ more) v → EndsAt next front rest → EndsAt exchanges front rest
one_ends front [] n more v go e = tt
one_ends front (b ∷ rest) n more v go e = one_ends_by front n more v go b e

one_stops : (bytes : List ℕ) (left : ℕ) → Stops next bytes left → Stops exchanges bytes left
one_stops bytes left h =
    let g = goes h.front h.next h.more h.value h.goes_on in
    record {
      front = h.front;
      rest = h.rest;
      split = h.split;
      place = h.place;
      next = h.next;
      more = g.0;
      value = g.1;
      goes_on = g.2;
      ends = one_ends h.front h.rest h.next h.more h.value h.goes_on h.ends;
    }

module _ (u : List ℕ) (x : Exchange) (hu : next u (Some x)) where
  behind_ends_by : (front : List ℕ) (b : ℕ) → ((m : List ℕ) (es : List Exchange) → exchanges (front ++ b ∷ m) es → ⊥) → (m : List ℕ) (es : List Exchange) → exchanges ((u ++ front) ++ b ∷ m) es → ⊥
  unfolding exchanges
  behind_ends_by front b e m [] h =
      let all : u ++ (front ++ b ∷ m) ≡ ((u ++ front) ++ b ∷ m) ++ [] = sym (append_assoc u front (b ∷ m)) ∙ sym (append-nil ((u ++ front) ++ b ∷ m)) in
      let p = clear_next.same u ((u ++ front) ++ b ∷ m) (front ++ b ∷ m) [] (Some x) None hu h all in
      cc (p.1)
  behind_ends_by front b e m (y ∷ ys) h =
      let all : u ++ (front ++ b ∷ m) ≡ h.0 ++ h.1 = sym (append_assoc u front (b ∷ m)) ∙ h.2 in
      let p = clear_next.same u h.0 (front ++ b ∷ m) h.1 (Some x) (Some y) hu h.3 all in
      let back : front ++ b ∷ m ≡ h.1 = append_cancel_left h.0 (front ++ b ∷ m) h.1 (ap (λ (z : List ℕ). z ++ (front ++ b ∷ m)) (sym p.0) ∙ all) in
      e m ys (subst (λ (z : List ℕ). exchanges z ys) (sym back) h.4)

  behind_ends : (front rest : List ℕ) → EndsAt exchanges front rest → EndsAt exchanges (u ++ front) rest
  behind_ends front [] e = tt
  behind_ends front (b ∷ rest) e = behind_ends_by front b e

  behind_goes : (front more : List ℕ) (n : ℕ) (es : List Exchange) → exchanges (front ++ n ∷ more) es → exchanges ((u ++ front) ++ n ∷ more) (x ∷ es)
  unfolding exchanges
  behind_goes front more n es h = (u, front ++ n ∷ more, append_assoc u front (n ∷ more), hu, h)

  behind_stops : (mid : List ℕ) (left : ℕ) → Stops exchanges mid left → Stops exchanges (u ++ mid) left
  behind_stops mid left h = record {
    front = u ++ h.front;
    rest = h.rest;
    split = ap (λ (z : List ℕ). u ++ z) h.split ∙ sym (append_assoc u h.front h.rest);
    place = h.place;
    next = h.next;
    more = h.more;
    value = x ∷ h.value;
    goes_on = behind_goes h.front h.more h.next h.value h.goes_on;
    ends = behind_ends h.front h.rest h.ends;
  }

-- the bytes are exchanges, one after the other
abbrev pub AllRead : List ℕ → List Exchange → Type 0
AllRead bytes [] = bytes ≡ []
AllRead bytes (e ∷ es) = (front back : List ℕ) × (bytes ≡ front ++ back) × next front (Some e) × AllRead back es

all_more : (es : List Exchange) (u v : List ℕ) (x : Exchange) → AllRead u es → next v (Some x) → AllRead (u ++ v) (es ++ x ∷ [])
all_more [] u v x h g = (v, [], ap (λ (z : List ℕ). z ++ v) h ∙ sym (append-nil v), g, refl)
all_more (e ∷ es) u v x h g = (h.0, h.1 ++ v, ap (λ (z : List ℕ). z ++ v) h.2 ∙ append_assoc h.0 h.1 v, h.3, all_more es h.1 v x h.4 g)

all_stops : (es : List Exchange) (u rest : List ℕ) (left : ℕ) → AllRead u es → Stops next rest left → Stops exchanges (u ++ rest) left
all_stops [] u rest left h g = subst (λ (z : List ℕ). Stops exchanges (z ++ rest) left) (sym h) (one_stops rest left g)
all_stops (e ∷ es) u rest left h g =
    subst (λ (z : List ℕ). Stops exchanges z left) (sym (ap (λ (z : List ℕ). z ++ rest) h.2 ∙ append_assoc h.0 h.1 rest))
    (behind_stops h.0 e h.3 (h.1 ++ rest) left (all_stops es h.1 rest left h.4 g))

last_begins : (rest behind : List ℕ) → Begins next rest None behind → Begins exchanges rest [] behind
unfolding exchanges
last_begins rest behind g = record { front = g.front; split = g.split; spelled = g.spelled }

more_begins : (u : List ℕ) (x : Exchange) (mid : List ℕ) (es : List Exchange) (behind : List ℕ) → next u (Some x) → Begins exchanges mid es behind → Begins exchanges (u ++ mid) (x ∷ es) behind
unfolding exchanges
more_begins u x mid es behind g h = record {
  front = u ++ h.front;
  split = ap (λ (z : List ℕ). u ++ z) h.split ∙ sym (append_assoc u h.front behind);
  spelled = (u, h.front, refl, g, h.spelled);
}

all_begins : (es : List Exchange) (u rest behind : List ℕ) → AllRead u es → Begins next rest None behind → Begins exchanges (u ++ rest) es behind
all_begins [] u rest behind h g = subst (λ (z : List ℕ). Begins exchanges (z ++ rest) [] behind) (sym h) (last_begins rest behind g)
all_begins (e ∷ es) u rest behind h g =
    subst (λ (z : List ℕ). Begins exchanges z (e ∷ es) behind) (sym (ap (λ (z : List ℕ). z ++ rest) h.2 ∙ append_assoc h.0 h.1 rest))
    (more_begins h.0 e (h.1 ++ rest) es behind h.3 (all_begins es h.1 rest behind h.4 g))

-- so far all was read but what is left
pub record Going (bytes left : List ℕ) (all : List Exchange) : Type 0 where
  pub done : List ℕ
  pub split : bytes ≡ done ++ left
  pub read : AllRead done all

pub going_none : (bytes : List ℕ) → Going bytes bytes []
going_none bytes = record { done = []; split = refl; read = refl }

module _ (bytes left : List ℕ) (all : List Exchange) (g : Going bytes left all) where
  pub going_more : (x : Exchange) (behind : List ℕ) → Begins next left (Some x) behind → Going bytes behind (all ++ x ∷ [])
  going_more x behind h = record {
    done = g.done ++ h.front;
    split = g.split ∙ ap (λ (z : List ℕ). g.done ++ z) h.split ∙ sym (append_assoc g.done h.front behind);
    read = all_more all g.done h.front x g.read h.spelled;
  }

  pub going_stops : (e : Stop) → Halts next left e → Halts exchanges bytes e
  going_stops (At n) h = subst (λ (z : List ℕ). Stops exchanges z n) (sym g.split) (all_stops all g.done left n g.read h)
  going_stops Memory h = tt

  pub going_ends : (behind : List ℕ) → Begins next left None behind → Begins exchanges bytes all behind
  going_ends behind h = subst (λ (z : List ℕ). Begins exchanges z all behind) (sym g.split) (all_begins all g.done left behind g.read h)

pub shorter : (left : List ℕ) (v : Option Exchange) (behind : List ℕ) → Begins next left v behind → length behind < length left
shorter left v behind h = at h.front h.split h.spelled
  where
    at : (front : List ℕ) → left ≡ front ++ behind → next front v → length behind < length left
    at [] is s = absurd (not_empty next clear_next v s)
    at (b ∷ front) is s = let long : length left ≡ length (b ∷ (front ++ behind)) = ap length is in omega (arith, length-append front behind)
