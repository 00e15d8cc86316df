-- What is made of spellings, each of which bytes begin with once at most: what is read of them, and where they stop.
use Rattle.std.proofs.Common.{◌≡◌, ◌≢◌, ◌∙◌, ap, sym, subst, refl, ℕ, inl, inr, List, [], ◌∷◌, ◌++◌, length, append_assoc, append-nil}
use Rattle.std.proofs.lemmas.List.{append_cancel_left}
use Rattle.fx_tape.specs.Spellings.{Spelling, then_by, made, either_by, EndsAt, Stops, Begins, Halts, IsClear}
use Rattle.fx_tape.specs.declared.faults.Stop.{Stop}
use Rattle.fx_tape.specs.declared.faults.Stop.TheVariants.{At, Memory}
use Rattle.fx_tape.proofs.Fronts.{fronts, no_longer}

module _ {A : Type 0} (s : Spelling A) (clear : IsClear s) where
  -- no bytes spell nothing
  pub not_empty : (x : A) → s [] x → ⊥
  not_empty x h =
      let p = clear.same [] (clear.first ∷ clear.others) (clear.first ∷ clear.others) [] x clear.value h clear.some (sym (append-nil (clear.first ∷ clear.others))) in
      cc (p.0)

  -- what begins with bytes that go on to be spelled, and with a byte with which they don't, begins with nothing that is spelled
  pub not_begun : (front more m : List ℕ) (n b : ℕ) (x : A) → s (front ++ n ∷ more) x → ((w : List ℕ) (z : A) → s (front ++ b ∷ w) z → ⊥)
      → (u v : List ℕ) (y : A) → s u y → front ++ b ∷ m ≡ u ++ v → ⊥
  not_begun front more m n b x go ends u v y h is =
      elim (fronts u v front (b ∷ m) (sym is)) [
        | inl k ↦ (
            let all : u ++ (k.0 ++ n ∷ more) ≡ (front ++ n ∷ more) ++ [] = sym (append_assoc u k.0 (n ∷ more)) ∙ ap (λ (z : List ℕ). z ++ n ∷ more) (sym k.1) ∙ sym (append-nil (front ++ n ∷ more)) in
            let p = clear.same u (front ++ n ∷ more) (k.0 ++ n ∷ more) [] y x h go all in
            no_longer u k.0 more n (p.0 ∙ ap (λ (z : List ℕ). z ++ n ∷ more) k.1)
            )
        | inr k ↦ (
            let same : b ≡ k.0 = cc (k.3) in
            ends k.1 y (subst (λ (z : List ℕ). s z y) (k.2 ∙ ap (λ (z : ℕ). front ++ z ∷ k.1) (sym same)) h)
            )
      ]

-- ---- one after the other

module _ {A B : Type 0} (s : Spelling A) (t : A → Spelling B) (clear : IsClear s) where
  pub then_begins : (bytes : List ℕ) (x : A) (mid : List ℕ) (y : B) (rest : List ℕ) → Begins s bytes x mid → Begins (t x) mid y rest → Begins (then_by s t) bytes y rest
  then_begins bytes x mid y rest g h = record {
    front = g.front ++ h.front;
    split = g.split ∙ ap (λ (z : List ℕ). g.front ++ z) h.split ∙ sym (append_assoc g.front h.front rest);
    spelled = (x, g.front, h.front, refl, g.spelled, h.spelled);
  }

  first_ends : (front rest : List ℕ) (n : ℕ) (more : List ℕ) (x : A) → s (front ++ n ∷ more) x → EndsAt s front rest → EndsAt (then_by s t) front rest
  first_ends front [] n more x go e = tt
  first_ends front (b ∷ rest) n more x go e = λ m y h. not_begun s clear front more m n b x go e h.1 h.2 h.0 h.4 h.3

  first_stops : ((x : A) → IsClear (t x)) → (bytes : List ℕ) (left : ℕ) → Stops s bytes left → Stops (then_by s t) bytes left
  first_stops others bytes left h =
      let c = others h.value in
      record {
        front = h.front;
        rest = h.rest;
        split = h.split;
        place = h.place;
        next = h.next;
        more = h.more ++ c.first ∷ c.others;
        value = c.value;
        goes_on = (h.value, h.front ++ h.next ∷ h.more, c.first ∷ c.others, sym (append_assoc h.front (h.next ∷ h.more) (c.first ∷ c.others)), h.goes_on, c.some);
        ends = first_ends h.front h.rest h.next h.more h.value h.goes_on h.ends;
      }

  behind_ends : (u front rest : List ℕ) (x : A) → s u x → EndsAt (t x) front rest → EndsAt (then_by s t) (u ++ front) rest
  behind_ends u front [] x g e = tt
  behind_ends u front (b ∷ rest) x g e = λ m y h.
      let all : u ++ (front ++ b ∷ m) ≡ h.1 ++ h.2 = sym (append_assoc u front (b ∷ m)) ∙ h.3 in
      let p = clear.same h.1 u h.2 (front ++ b ∷ m) h.0 x h.4 g (sym all) in
      let back : h.2 ≡ front ++ b ∷ m = append_cancel_left u h.2 (front ++ b ∷ m) (ap (λ (z : List ℕ). z ++ h.2) (sym p.0) ∙ sym all) in
      e m y (subst (λ (z : List ℕ). t x z y) back (subst (λ (a : A). t a h.2 y) p.1 h.5))

  behind_stops : (bytes : List ℕ) (x : A) (mid : List ℕ) (left : ℕ) → Begins s bytes x mid → Stops (t x) mid left → Stops (then_by s t) bytes left
  behind_stops bytes x mid left g h = record {
    front = g.front ++ h.front;
    rest = h.rest;
    split = g.split ∙ ap (λ (z : List ℕ). g.front ++ z) h.split ∙ sym (append_assoc g.front h.front h.rest);
    place = h.place;
    next = h.next;
    more = h.more;
    value = h.value;
    goes_on = (x, g.front, h.front ++ h.next ∷ h.more, append_assoc g.front h.front (h.next ∷ h.more), g.spelled, h.goes_on);
    ends = behind_ends g.front h.front h.rest x g.spelled h.ends;
  }

  -- where the first stops
  pub first_halts : ((x : A) → IsClear (t x)) → (bytes : List ℕ) (e : Stop) → Halts s bytes e → Halts (then_by s t) bytes e
  first_halts others bytes (At left) h = first_stops others bytes left h
  first_halts others bytes Memory h = tt

  -- where the second does
  pub behind_halts : (bytes : List ℕ) (x : A) (mid : List ℕ) (e : Stop) → Begins s bytes x mid → Halts (t x) mid e → Halts (then_by s t) bytes e
  behind_halts bytes x mid (At left) g h = behind_stops bytes x mid left g h
  behind_halts bytes x mid Memory g h = tt

  module _ (others : (x : A) → IsClear (t x)) where
    then_same : (u v r w : List ℕ) (x y : B) → then_by s t u x → then_by s t v y → u ++ r ≡ v ++ w → (u ≡ v) × (x ≡ y)
    then_same u v r w x y h k e =
        let all : h.1 ++ (h.2 ++ r) ≡ k.1 ++ (k.2 ++ w) = sym (append_assoc h.1 h.2 r) ∙ ap (λ (z : List ℕ). z ++ r) (sym h.3) ∙ e ∙ ap (λ (z : List ℕ). z ++ w) k.3 ∙ append_assoc k.1 k.2 w in
        let p = clear.same h.1 k.1 (h.2 ++ r) (k.2 ++ w) h.0 k.0 h.4 k.4 all in
        let back : h.2 ++ r ≡ k.2 ++ w = append_cancel_left k.1 (h.2 ++ r) (k.2 ++ w) (ap (λ (z : List ℕ). z ++ (h.2 ++ r)) (sym p.0) ∙ all) in
        let q = (others k.0).same h.2 k.2 r w x y (subst (λ (a : A). t a h.2 x) p.1 h.5) k.5 back in
        (h.3 ∙ ap (λ (z : List ℕ). z ++ h.2) p.0 ∙ ap (λ (z : List ℕ). k.1 ++ z) q.0 ∙ sym k.3, q.1)

    pub clear_then : IsClear (then_by s t)
    clear_then =
        let c = others clear.value in
        record {
          first = clear.first;
          others = clear.others ++ c.first ∷ c.others;
          value = c.value;
          some = (clear.value, clear.first ∷ clear.others, c.first ∷ c.others, refl, clear.some, c.some);
          same = then_same;
        }

-- ---- the same, as another value

module _ {A B : Type 0} (f : A → B) (s : Spelling A) where
  pub made_begins : (bytes : List ℕ) (x : A) (rest : List ℕ) → Begins s bytes x rest → Begins (made f s) bytes (f x) rest
  made_begins bytes x rest h = record { front = h.front; split = h.split; spelled = (x, h.spelled, refl) }

  made_ends : (front rest : List ℕ) → EndsAt s front rest → EndsAt (made f s) front rest
  made_ends front [] e = tt
  made_ends front (b ∷ rest) e = λ m y h. e m h.0 h.1

  pub made_halts : (bytes : List ℕ) (e : Stop) → Halts s bytes e → Halts (made f s) bytes e
  made_halts bytes (At left) h = record {
    front = h.front;
    rest = h.rest;
    split = h.split;
    place = h.place;
    next = h.next;
    more = h.more;
    value = f h.value;
    goes_on = (h.value, h.goes_on, refl);
    ends = made_ends h.front h.rest h.ends;
  }
  made_halts bytes Memory h = tt

  pub clear_made : IsClear s → IsClear (made f s)
  clear_made c = record {
    first = c.first;
    others = c.others;
    value = f c.value;
    some = (c.value, c.some, refl);
    same = λ u v r w x y h k e. let p = c.same u v r w h.0 k.0 h.1 k.1 e in (p.0, h.2 ∙ ap f p.1 ∙ sym k.2);
  }

-- ---- by the first byte

module _ {A : Type 0} (b : ℕ) (s : Spelling A) (c : ℕ) (t : Spelling A) where
  pub left_begins : (rest : List ℕ) (x : A) (behind : List ℕ) → Begins s rest x behind → Begins (either_by b s c t) (b ∷ rest) x behind
  left_begins rest x behind h = record { front = b ∷ h.front; split = ap (λ (z : List ℕ). b ∷ z) h.split; spelled = inl (h.front, refl, h.spelled) }

  pub right_begins : (rest : List ℕ) (x : A) (behind : List ℕ) → Begins t rest x behind → Begins (either_by b s c t) (c ∷ rest) x behind
  right_begins rest x behind h = record { front = c ∷ h.front; split = ap (λ (z : List ℕ). c ∷ z) h.split; spelled = inr (h.front, refl, h.spelled) }

  module _ (apart : b ≢ c) where
    left_ends : (front rest : List ℕ) → EndsAt s front rest → EndsAt (either_by b s c t) (b ∷ front) rest
    left_ends front [] e = tt
    left_ends front (d ∷ rest) e = λ m x h.
        elim h [
          | inl k ↦ (let same : front ++ d ∷ m ≡ k.0 = cc (k.1) in e m x (subst (λ (z : List ℕ). s z x) (sym same) k.2))
          | inr k ↦ (let same : b ≡ c = cc (k.1) in absurd (apart same))
        ]

    right_ends : (front rest : List ℕ) → EndsAt t front rest → EndsAt (either_by b s c t) (c ∷ front) rest
    right_ends front [] e = tt
    right_ends front (d ∷ rest) e = λ m x h.
        elim h [
          | inl k ↦ (let same : c ≡ b = cc (k.1) in absurd (apart (sym same)))
          | inr k ↦ (let same : front ++ d ∷ m ≡ k.0 = cc (k.1) in e m x (subst (λ (z : List ℕ). t z x) (sym same) k.2))
        ]

    pub left_halts : (rest : List ℕ) (e : Stop) → Halts s rest e → Halts (either_by b s c t) (b ∷ rest) e
    left_halts rest (At left) h = record {
      front = b ∷ h.front;
      rest = h.rest;
      split = ap (λ (z : List ℕ). b ∷ z) h.split;
      place = h.place;
      next = h.next;
      more = h.more;
      value = h.value;
      goes_on = inl (h.front ++ h.next ∷ h.more, refl, h.goes_on);
      ends = left_ends h.front h.rest h.ends;
    }
    left_halts rest Memory h = tt

    pub right_halts : (rest : List ℕ) (e : Stop) → Halts t rest e → Halts (either_by b s c t) (c ∷ rest) e
    right_halts rest (At left) h = record {
      front = c ∷ h.front;
      rest = h.rest;
      split = ap (λ (z : List ℕ). c ∷ z) h.split;
      place = h.place;
      next = h.next;
      more = h.more;
      value = h.value;
      goes_on = inr (h.front ++ h.next ∷ h.more, refl, h.goes_on);
      ends = right_ends h.front h.rest h.ends;
    }
    right_halts rest Memory h = tt

    module _ (cs : IsClear s) (ct : IsClear t) where
      -- the first byte is neither
      neither_ends : (bytes : List ℕ) → ((rest : List ℕ) → bytes ≡ b ∷ rest → ⊥) → ((rest : List ℕ) → bytes ≡ c ∷ rest → ⊥) → EndsAt (either_by b s c t) [] bytes
      neither_ends [] nb nc = tt
      neither_ends (d ∷ rest) nb nc = λ m x h.
          elim h [
            | inl k ↦ (let same : d ≡ b = cc (k.1) in absurd (nb rest (ap (λ (z : ℕ). z ∷ rest) same)))
            | inr k ↦ (let same : d ≡ c = cc (k.1) in absurd (nc rest (ap (λ (z : ℕ). z ∷ rest) same)))
          ]

      pub neither_stops : (bytes : List ℕ) → ((rest : List ℕ) → bytes ≡ b ∷ rest → ⊥) → ((rest : List ℕ) → bytes ≡ c ∷ rest → ⊥) → Stops (either_by b s c t) bytes (length bytes)
      neither_stops bytes nb nc = record {
        front = [];
        rest = bytes;
        split = refl;
        place = refl;
        next = b;
        more = cs.first ∷ cs.others;
        value = cs.value;
        goes_on = inl (cs.first ∷ cs.others, refl, cs.some);
        ends = neither_ends bytes nb nc;
      }

      either_same : (u v r w : List ℕ) (x y : A) → either_by b s c t u x → either_by b s c t v y → u ++ r ≡ v ++ w → (u ≡ v) × (x ≡ y)
      either_same u v r w x y (inl h) (inl k) e =
          let back : h.0 ++ r ≡ k.0 ++ w = cc (h.1, k.1, e) in
          let p = cs.same h.0 k.0 r w x y h.2 k.2 back in (h.1 ∙ ap (λ (z : List ℕ). b ∷ z) p.0 ∙ sym k.1, p.1)
      either_same u v r w x y (inr h) (inr k) e =
          let back : h.0 ++ r ≡ k.0 ++ w = cc (h.1, k.1, e) in
          let p = ct.same h.0 k.0 r w x y h.2 k.2 back in (h.1 ∙ ap (λ (z : List ℕ). c ∷ z) p.0 ∙ sym k.1, p.1)
      either_same u v r w x y (inl h) (inr k) e = absurd (apart (cc (h.1, k.1, e)))
      either_same u v r w x y (inr h) (inl k) e = absurd (apart (cc (h.1, k.1, e)))

      pub clear_either : IsClear (either_by b s c t)
      clear_either = record { first = b; others = cs.first ∷ cs.others; value = cs.value; some = inl (cs.first ∷ cs.others, refl, cs.some); same = either_same }
