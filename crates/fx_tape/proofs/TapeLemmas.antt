-- Tapes: what their pieces spell is what is written of them, and where these stop.
use Rattle.std.proofs.Common.{◌≡◌, ◌∙◌, ap, sym, subst, refl, ℕ, ◌<◌, ◌≤◌, ◌-◌, All, inl, inr, List, [], ◌∷◌, ◌++◌, length, codes, Option, Some, None, Result, Ok, Err, ◌⊎◌, MatchResult, append_assoc, append-nil, arith, rules, length-append}
use Rattle.std.specs.Fmt.{decimal}
use Rattle.std.proofs.lemmas.List.Elements.{All-cons, All-nil, All-tail}
use Rattle.fx_tape.specs.Exchanges.{failed, failed_exchange, answered, answered_exchange, answered_or_end, next, exchanges, tape, tape_block, tape_behind, tape_of}
use Rattle.fx_tape.specs.Pieces.{word, number}
use Rattle.fx_tape.specs.Refusals.{BeginsTape, EndsThere, StopsTape, IsReading}
use Rattle.fx_tape.specs.Spellings.{Begins, Stops, Halts, EndsAt}
use Rattle.fx_tape.specs.Tapes.{line, spaced, answered_text, failed_text, exchange_text, exchanges_text, tape_text, IsShort, IsExchangeInRange, IsInRange, IsTape, IsWriting}
use Rattle.fx_tape.specs.declared.faults.Stop.{Stop}
use Rattle.fx_tape.specs.declared.tapes.Exchange.{Exchange}
use Rattle.fx_tape.specs.declared.tapes.Tape.{Tape}
use Rattle.fx_tape.specs.declared.tapes.TapeError.{TapeError}
use Rattle.fx_tape.specs.declared.tapes.TapeError.TheVariants as error
use Rattle.fx_tape.proofs.ClearPieces.{clear_head_word, clear_rows, clear_tape_block, clear_tape_behind, clear_tape}
use Rattle.fx_tape.proofs.Fronts.{fronts}
use Rattle.fx_tape.proofs.SpellingLemmas.{then_begins, first_halts, behind_halts, made_begins, made_halts}

-- ---- exchanges

-- what is spelled is an exchange in range
pub record Said (bytes : List ℕ) (x : Exchange) : Type 0 where
  pub in_range : IsExchangeInRange x
  pub text : bytes ≡ exchange_text x

failed_said : (bytes : List ℕ) (x : Exchange) → failed bytes x → Said (102 ∷ bytes) x
unfolding failed
failed_said bytes x h =
    let n = h.5 in
    let z = n.5 in
    let q = z.5 in
    let at = n.4.high in
    let size = z.4.high in
    let long = q.1.long in
    record {
      in_range = rw q.2 (record { at = omega arith; request = omega arith; reply = tt });
      text = rw (q.2, h.3, h.4, n.3, n.4.text, z.3, z.4.text, q.1.text, long) refl;
    }

answered_said : (bytes : List ℕ) (x : Exchange) → answered bytes x → Said (101 ∷ 120 ∷ bytes) x
unfolding answered
answered_said bytes x h =
    let n = h.5 in
    let z = n.5 in
    let y = z.5 in
    let q = y.5 in
    let g = q.5 in
    let at = n.4.high in
    let size = z.4.high in
    let reply_size = y.4.high in
    let long = q.4.long in
    let reply_long = g.1.long in
    record {
      in_range = rw g.2 (record { at = omega arith; request = omega arith; reply = omega arith });
      text = rw (g.2, h.3, h.4, n.3, n.4.text, z.3, z.4.text, y.3, y.4.text, q.3, q.4.text, g.1.text, long, reply_long) refl;
    }

end_said : (bytes : List ℕ) → next bytes None → bytes ≡ line (codes "end")
unfolding next answered_or_end
end_said bytes (inl h) = absurd (cc (h.2.2))
end_said bytes (inr h) =
    elim h.2 [
      | inl k ↦ absurd (cc (k.2.2))
      | inr k ↦ rw (h.1, k.1, k.2.1) refl
    ]

some_said : (bytes : List ℕ) (x : Exchange) → next bytes (Some x) → Said bytes x
unfolding next answered_or_end
some_said bytes x (inl h) =
    let same : x ≡ h.2.0 = cc (h.2.2) in
    let s = failed_said h.0 h.2.0 h.2.1 in
    rw (h.1, same) s
some_said bytes x (inr h) =
    elim h.2 [
      | inl k ↦ (
          let same : x ≡ k.2.0 = cc (k.2.2) in
          let s = answered_said k.0 k.2.0 k.2.1 in
          rw (h.1, k.1, same) s
          )
      | inr k ↦ absurd (cc (k.2.2))
    ]

failed_spelled : (at : ℕ) (request : List ℕ) → at < 64 → IsShort request → next (failed_text at request) (Some (failed_exchange at request))
unfolding next failed
failed_spelled at request a r =
    inl (
      codes "ailed " ++ (spaced at ++ (line (decimal (length request)) ++ line request)),
      refl,
      (
        failed_exchange at request,
        (
          tt,
          codes "ailed ",
          spaced at ++ (line (decimal (length request)) ++ line request),
          refl,
          refl,
          (
            at,
            spaced at,
            line (decimal (length request)) ++ line request,
            refl,
            record { low = omega arith; high = omega arith; text = refl },
            (
              length request,
              line (decimal (length request)),
              line request,
              refl,
              record { low = omega arith; high = r; text = refl },
              (request, record { long = refl; text = refl }, refl),
            ),
          ),
        ),
        refl,
      ),
    )

answered_spelled : (at : ℕ) (request reply : List ℕ) → at < 64 → IsShort request → IsShort reply → next (answered_text at request reply) (Some (answered_exchange at request reply))
unfolding next answered_or_end answered
answered_spelled at request reply a r p =
    inr (
      120 ∷ (codes "change " ++ (spaced at ++ (spaced (length request) ++ (line (decimal (length reply)) ++ (line request ++ line reply))))),
      refl,
      inl (
        codes "change " ++ (spaced at ++ (spaced (length request) ++ (line (decimal (length reply)) ++ (line request ++ line reply)))),
        refl,
        (
          answered_exchange at request reply,
          (
            tt,
            codes "change ",
            spaced at ++ (spaced (length request) ++ (line (decimal (length reply)) ++ (line request ++ line reply))),
            refl,
            refl,
            (
              at,
              spaced at,
              spaced (length request) ++ (line (decimal (length reply)) ++ (line request ++ line reply)),
              refl,
              record { low = omega arith; high = omega arith; text = refl },
              (
                length request,
                spaced (length request),
                line (decimal (length reply)) ++ (line request ++ line reply),
                refl,
                record { low = omega arith; high = r; text = refl },
                (
                  length reply,
                  line (decimal (length reply)),
                  line request ++ line reply,
                  refl,
                  record { low = omega arith; high = p; text = refl },
                  (
                    request,
                    line request,
                    line reply,
                    refl,
                    record { long = refl; text = refl },
                    (reply, record { long = refl; text = refl }, refl),
                  ),
                ),
              ),
            ),
          ),
          refl,
        ),
      ),
    )

spelled_by : (at : ℕ) (request : List ℕ) (reply : Option (List ℕ)) → IsExchangeInRange (record { at = at; request = request; reply = reply }) → next (exchange_text (record { at = at; request = request; reply = reply })) (Some (record { at = at; request = request; reply = reply }))
spelled_by at request None h = failed_spelled at request h.at h.request
spelled_by at request (Some reply) h = answered_spelled at request reply h.at h.request h.reply

some_spelled : (x : Exchange) → IsExchangeInRange x → next (exchange_text x) (Some x)
some_spelled x h = spelled_by x.at x.request x.reply h

end_spelled : next (line (codes "end")) None
unfolding next answered_or_end
end_spelled = inr (110 ∷ codes "d\n", refl, inr (codes "d\n", refl, (tt, refl, refl)))

-- ---- several

pub record AllSaid (bytes : List ℕ) (es : List Exchange) : Type 0 where
  pub in_range : All IsExchangeInRange es
  pub text : bytes ≡ exchanges_text es ++ line (codes "end")

exchanges_said : (es : List Exchange) (bytes : List ℕ) → exchanges bytes es → AllSaid bytes es
unfolding exchanges
exchanges_said [] bytes h = record { in_range = All-nil IsExchangeInRange; text = end_said bytes h }
exchanges_said (e ∷ es) bytes h =
    let s = some_said h.0 e h.3 in
    let t = exchanges_said es h.1 h.4 in
    record {
      in_range = all_more e es s.in_range t.in_range;
      text = h.2 ∙ ap (λ (z : List ℕ). z ++ h.1) s.text ∙ ap (λ (z : List ℕ). exchange_text e ++ z) t.text ∙ sym (append_assoc (exchange_text e) (exchanges_text es) (line (codes "end")));
    }
  where
    all_more : (x : Exchange) (xs : List Exchange) → IsExchangeInRange x → All IsExchangeInRange xs → All IsExchangeInRange (x ∷ xs)
    all_more x xs p q = All-cons IsExchangeInRange x xs p q

exchanges_spelled : (es : List Exchange) → All IsExchangeInRange es → exchanges (exchanges_text es ++ line (codes "end")) es
unfolding exchanges
exchanges_spelled [] h = end_spelled
exchanges_spelled (e ∷ es) h =
    (exchange_text e, exchanges_text es ++ line (codes "end"), append_assoc (exchange_text e) (exchanges_text es) (line (codes "end")), some_spelled e (head_of e es h), exchanges_spelled es (tail_of e es h))
  where
    head_of : (x : Exchange) (xs : List Exchange) → All IsExchangeInRange (x ∷ xs) → IsExchangeInRange x
    head_of x xs p = search rules

    tail_of : (x : Exchange) (xs : List Exchange) → All IsExchangeInRange (x ∷ xs) → All IsExchangeInRange xs
    tail_of x xs p = All-tail IsExchangeInRange x xs p

-- ---- tapes

pub tape_said : (bytes : List ℕ) (t : Tape) → tape bytes t → IsTape bytes t
unfolding tape tape_text
tape_said bytes t h =
    let n = h.5 in
    let s = exchanges_said n.5.0 n.2 n.5.1 in
    record {
      in_range = rw n.5.2 (record { least = n.4.low; most = n.4.high; exchanges = s.in_range });
      text = rw (n.5.2, h.3, h.4, n.3, n.4.text, s.text) (sym (append_assoc (codes "fedx transcript 1 block ") (line (decimal n.0)) (exchanges_text n.5.0 ++ line (codes "end"))));
    }

pub tape_spelled : (bytes : List ℕ) (t : Tape) → IsTape bytes t → tape bytes t
unfolding tape tape_text
tape_spelled bytes t h = (
  tt,
  codes "fedx transcript 1 block ",
  line (decimal t.block) ++ (exchanges_text t.exchanges ++ line (codes "end")),
  h.text ∙ append_assoc (codes "fedx transcript 1 block ") (line (decimal t.block)) (exchanges_text t.exchanges ++ line (codes "end")),
  refl,
  (
    t.block,
    line (decimal t.block),
    exchanges_text t.exchanges ++ line (codes "end"),
    refl,
    record { low = h.in_range.least; high = h.in_range.most; text = refl },
    (t.exchanges, exchanges_spelled t.exchanges h.in_range.exchanges, refl),
  ),
)

-- ---- where reading stops

ends_there : (front rest : List ℕ) (n : ℕ) (more : List ℕ) (t : Tape) → tape (front ++ n ∷ more) t → EndsAt tape front rest → EndsThere front rest
ends_there front [] n more t go e = λ u h.
    let p = clear_tape.same front (front ++ n ∷ more) (n ∷ more) [] u t (tape_spelled front u h) go (sym (append-nil (front ++ n ∷ more))) in
    not_more front more n p.0
  where
    not_more : (front more : List ℕ) (n : ℕ) → front ≡ front ++ n ∷ more → ⊥
    not_more front more n is = let long : length front ≡ length (front ++ n ∷ more) = ap length is in absurd (omega (arith, length-append front (n ∷ more)))
ends_there front (b ∷ rest) n more t go e = λ h.
    e h.more h.tape (subst (λ (z : List ℕ). tape z h.tape) (append_assoc front (b ∷ []) h.more) (tape_spelled ((front ++ b ∷ []) ++ h.more) h.tape h.is_tape))

place_of : (bytes front rest : List ℕ) (left : ℕ) → bytes ≡ front ++ rest → left ≡ length rest → length bytes - left ≡ length front
place_of bytes front rest left is e =
    let long : length bytes ≡ length (front ++ rest) = ap length is in
    omega (arith, length-append front rest)

pub tape_stops : (bytes : List ℕ) (left : ℕ) → Stops tape bytes left → StopsTape bytes (length bytes - left)
tape_stops bytes left h = record {
  front = h.front;
  rest = h.rest;
  split = h.split;
  at = place_of bytes h.front h.rest left h.split h.place;
  begins = record { more = h.next ∷ h.more; tape = h.value; is_tape = tape_said (h.front ++ h.next ∷ h.more) h.value h.goes_on };
  ends = ends_there h.front h.rest h.next h.more h.value h.goes_on h.ends;
}

pub left_within : (bytes : List ℕ) (left : ℕ) → Stops tape bytes left → left ≤ length bytes
left_within bytes left h =
    let long : length bytes ≡ length (h.front ++ h.rest) = ap length h.split in
    let place = h.place in
    omega (arith, length-append h.front h.rest)

pub rest_within : (bytes : List ℕ) (t : Tape) (rest : List ℕ) → Begins tape bytes t rest → length rest ≤ length bytes
rest_within bytes t rest h =
    let long : length bytes ≡ length (h.front ++ rest) = ap length h.split in
    omega (arith, length-append h.front rest)

-- something stands behind a tape
pub tape_behind_stops : (bytes : List ℕ) (t : Tape) (rest : List ℕ) → Begins tape bytes t rest → 0 < length rest → StopsTape bytes (length bytes - length rest)
tape_behind_stops bytes t rest h some = record {
  front = h.front;
  rest = rest;
  split = h.split;
  at = place_of bytes h.front rest (length rest) h.split refl;
  begins = record { more = []; tape = t; is_tape = tape_said (h.front ++ []) t (subst (λ (z : List ℕ). tape z t) (sym (append-nil h.front)) h.spelled) };
  ends = at h.front h.spelled rest some;
}
  where
    longer : (front more : List ℕ) (b : ℕ) → (front ++ b ∷ []) ++ more ≡ front → ⊥
    longer front more b is =
        let long : length ((front ++ b ∷ []) ++ more) ≡ length front = ap length is in
        absurd (omega (arith, length-append (front ++ b ∷ []) more, length-append front (b ∷ [])))

    at : (front : List ℕ) → tape front t → (rest : List ℕ) → 0 < length rest → EndsThere front rest
    at front s [] k = absurd (omega arith)
    at front s (b ∷ rest) k = λ g.
        let all : ((front ++ b ∷ []) ++ g.more) ++ [] ≡ front ++ (b ∷ g.more) = append-nil ((front ++ b ∷ []) ++ g.more) ∙ append_assoc front (b ∷ []) g.more in
        let p = clear_tape.same ((front ++ b ∷ []) ++ g.more) front [] (b ∷ g.more) g.tape t (tape_spelled ((front ++ b ∷ []) ++ g.more) g.tape g.is_tape) s all in
        longer front g.more b p.0

pub whole_tape : (bytes : List ℕ) (t : Tape) (rest : List ℕ) → Begins tape bytes t rest → length rest ≡ 0 → IsTape bytes t
whole_tape bytes t rest h e = tape_said bytes t (subst (λ (z : List ℕ). tape z t) (sym (h.split ∙ at rest e)) h.spelled)
  where
    at : (rest : List ℕ) → length rest ≡ 0 → h.front ++ rest ≡ h.front
    at [] e = append-nil h.front
    at (b ∷ rest) e = absurd (omega arith)

-- ---- laws

pub one_tape : (bytes : List ℕ) (t u : Tape) → IsTape bytes t → IsTape bytes u → t ≡ u
one_tape bytes t u h k = (clear_tape.same bytes bytes [] [] t u (tape_spelled bytes t h) (tape_spelled bytes u k) refl).1

begins_before : (front more : List ℕ) → BeginsTape (front ++ more) → BeginsTape front
begins_before front more h = record { more = more ++ h.more; tape = h.tape; is_tape = subst (λ (z : List ℕ). IsTape z h.tape) (append_assoc front more h.more) h.is_tape }

-- what stops at one place doesn't go on to a later one
not_later : (front rest w r : List ℕ) (b : ℕ) → rest ≡ b ∷ (w ++ r) → EndsThere front rest → BeginsTape (front ++ b ∷ w) → ⊥
not_later front [] w r b is e h = absurd (cc (is))
not_later front (d ∷ rest) w r b is e h =
    let same : d ≡ b = cc (is) in
    e (subst (λ (z : ℕ). BeginsTape (front ++ z ∷ [])) (sym same) (begins_before (front ++ b ∷ []) w (subst BeginsTape (sym (append_assoc front (b ∷ []) w)) h)))

pub one_place : (bytes : List ℕ) (m n : ℕ) → StopsTape bytes m → StopsTape bytes n → m ≡ n
one_place bytes m n h k =
    elim (fronts h.front h.rest k.front k.rest (sym h.split ∙ k.split)) [
      | inl p ↦ at p.0 p.1 p.2
      | inr p ↦ absurd (not_later k.front k.rest p.1 h.rest p.0 p.3 k.ends (subst BeginsTape p.2 h.begins))
    ]
  where
    at : (w : List ℕ) → k.front ≡ h.front ++ w → h.rest ≡ w ++ k.rest → m ≡ n
    at [] a b = h.at ∙ ap length (sym (a ∙ append-nil h.front)) ∙ sym k.at
    at (b ∷ w) a e = absurd (not_later h.front h.rest w k.rest b e h.ends (subst BeginsTape a k.begins))

pub never_both : (bytes : List ℕ) (t : Tape) (n : ℕ) → IsTape bytes t → StopsTape bytes n → ⊥
never_both bytes t n g h = at h.front h.rest h.split h.ends
  where
    at : (front rest : List ℕ) → bytes ≡ front ++ rest → EndsThere front rest → ⊥
    at front [] is e = e t (subst (λ (z : List ℕ). IsTape z t) (is ∙ append-nil front) g)
    at front (b ∷ rest) is e = e (record { more = rest; tape = t; is_tape = subst (λ (z : List ℕ). IsTape z t) (is ∙ sym (append_assoc front (b ∷ []) rest)) g })

-- a tape in range is read as itself
pub read_as : (t : Tape) (bytes : List ℕ) (answer : Result Tape TapeError) → IsTape bytes t → IsReading bytes answer → MatchResult answer (λ read. read ≡ t) (λ e. e ≡ error.Memory)
read_as t bytes (Ok u) h k = one_tape bytes u t k h
read_as t bytes (Err (error.Form place)) h k = absurd (never_both bytes t place h k)
read_as t bytes (Err error.Memory) h k = refl

pub written_read : (t : Tape) (bytes : List ℕ) (answer : Result Tape TapeError) → IsInRange t → IsWriting t bytes → IsReading bytes answer → MatchResult answer (λ read. read ≡ t) (λ e. e ≡ error.Memory)
written_read t bytes answer r w k = read_as t bytes answer (record { in_range = r; text = w }) k

-- bytes that stop are refused there
pub refused_as : (bytes : List ℕ) (place : ℕ) (answer : Result Tape TapeError) → StopsTape bytes place → IsReading bytes answer → (answer ≡ Err (error.Form place)) ⊎ (answer ≡ Err error.Memory)
refused_as bytes place (Ok u) h k = absurd (never_both bytes u place k h)
refused_as bytes place (Err (error.Form n)) h k = inl (ap (λ (z : ℕ). Err (error.Form z)) (one_place bytes n place k h))
refused_as bytes place (Err error.Memory) h k = inr refl

-- ---- the pieces of a tape, read

module _ (bytes : List ℕ) where
  pub head_halts : (e : Stop) → Halts (word (codes "fedx transcript 1 block ")) bytes e → Halts tape bytes e
  unfolding tape
  head_halts e h = first_halts (word (codes "fedx transcript 1 block ")) (λ u. tape_block) clear_head_word (λ u. clear_tape_block) bytes e h

  module _ (a : List ℕ) (ha : Begins (word (codes "fedx transcript 1 block ")) bytes tt a) where
    pub rows_halts : (e : Stop) → Halts (number 1 64 10) a e → Halts tape bytes e
    unfolding tape
    rows_halts e h =
        behind_halts (word (codes "fedx transcript 1 block ")) (λ u. tape_block) clear_head_word bytes tt a e ha
        (first_halts (number 1 64 10) tape_behind clear_rows clear_tape_behind a e h)

    module _ (rows : ℕ) (b : List ℕ) (hb : Begins (number 1 64 10) a rows b) where
      pub exchanges_halts : (e : Stop) → Halts exchanges b e → Halts tape bytes e
      unfolding tape
      exchanges_halts e h =
          behind_halts (word (codes "fedx transcript 1 block ")) (λ u. tape_block) clear_head_word bytes tt a e ha
          (behind_halts (number 1 64 10) tape_behind clear_rows a rows b e hb (made_halts (tape_of rows) exchanges b e h))

      pub tape_begins : (es : List Exchange) (rest : List ℕ) → Begins exchanges b es rest → Begins tape bytes (tape_of rows es) rest
      unfolding tape
      tape_begins es rest h =
          then_begins (word (codes "fedx transcript 1 block ")) (λ u. tape_block) clear_head_word bytes tt a (tape_of rows es) rest ha
          (then_begins (number 1 64 10) tape_behind clear_rows a rows b (tape_of rows es) rest hb (made_begins (tape_of rows) exchanges b es rest h))
