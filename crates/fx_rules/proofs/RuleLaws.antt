-- What each way to make a rule keeps: reading and spelling are the same.
use Rattle.std.proofs.Common.{◌≡◌, ℕ, zero, suc, ◌<◌, ◌≤◌, Bool, true, false, ◌||◌, ◌&&◌, ◌⊎◌, inl, inr, cond, List, [], ◌∷◌, ◌++◌, length, Option, Some, None, Result, Ok, Err, refl, sym, ap, ◌∙◌, subst, arith, append_assoc, length-append}
use Rattle.fx_rules.specs.Rule.{Alphabet, Outcome, and_then, refuse, Rule, Apart, sees, one, token, read_one, valued, made, Shape, shape_of, Shaped, then_by, seq, either, opt, spells_opt, many_from, spells_from, read_from, refusing, after}

-- what was read is spelled by the symbols before the rest
abbrev pub Sound : {T W A : Type 0} → (List T → A → Type 0) → List T → Outcome T W A → Type 0
Sound {T} spells ts (Ok p) = (front : List T) × (ts ≡ front ++ p.1) × spells front p.0
Sound spells ts (Err r) = Unit {0}

pub sound_cond : {T W A : Type 0} (spells : List T → A → Type 0) (ts : List T) (b : Bool) (x y : Outcome T W A) → (b ≡ true → Sound spells ts x) → (b ≡ false → Sound spells ts y) → Sound spells ts (cond b x y)
sound_cond spells ts true x y f g = f refl
sound_cond spells ts false x y f g = g refl

or_false : (a b : Bool) → (a || b) ≡ false → (a ≡ false) × (b ≡ false)
or_false true b e = absurd (cc)
or_false false b e = (refl, e)

or_left : (a b : Bool) → a ≡ true → (a || b) ≡ true
or_left true b e = refl
or_left false b e = absurd (cc)

or_right : (a b : Bool) → b ≡ true → (a || b) ≡ true
or_right true b e = refl
or_right false b e = e

and_false : (a b : Bool) → a ≡ true → (a && b) ≡ b
and_false true b e = refl
and_false false b e = absurd (cc)

pub same_shape : {T K W A : Type 0} (a : Rule T K W A) → Shaped (shape_of a) a
same_shape a = record { begins = refl; empty = refl; goes_on = refl }

abbrev pub Shortens : {T W A : Type 0} → List T → Outcome T W A → Type 0
Shortens ts (Ok p) = length p.1 < length ts
Shortens ts (Err r) = Unit {0}

module _ {T K W : Type 0} (G : Alphabet T K W) where
  pub record Lawful {A : Type 0} (r : Rule T K W A) : Type 0 where
    -- what is read is spelled so
    pub sound : (ts : List T) → Sound r.spells ts (r.read ts)
    -- what is spelled so is read, before a symbol that it would not take
    pub complete : (front rest : List T) (x : A) → r.spells front x → sees G r.goes_on rest ≡ false → r.read (front ++ rest) ≡ Ok (x, rest)
    -- it begins with one of its symbols
    pub starts : (front : List T) (x : A) → r.spells front x → (sees G r.begins front ≡ true) ⊎ ((front ≡ []) × (r.empty ≡ true))

  -- ---- tests on the next symbol

  pub sees-append : (p : K → Bool) (front rest : List T) → sees G p front ≡ true → sees G p (front ++ rest) ≡ true
  sees-append p [] rest e = absurd (cc)
  sees-append p (t ∷ front) rest e = e

  pub sees-apart : (p q : K → Bool) (ts : List T) → Apart p q → sees G p ts ≡ true → sees G q ts ≡ false
  sees-apart p q [] a e = absurd (cc)
  sees-apart p q (t ∷ ts) a e = a (G.kind_of t) e

  pub sees-or : (p q : K → Bool) (ts : List T) → sees G (λ kind. p kind || q kind) ts ≡ false → (sees G p ts ≡ false) × (sees G q ts ≡ false)
  sees-or p q [] e = (refl, refl)
  sees-or p q (t ∷ ts) e = or_false (p (G.kind_of t)) (q (G.kind_of t)) e

  pub sees-left : (p q : K → Bool) (ts : List T) → sees G p ts ≡ true → sees G (λ kind. p kind || q kind) ts ≡ true
  sees-left p q [] e = e
  sees-left p q (t ∷ ts) e = or_left (p (G.kind_of t)) (q (G.kind_of t)) e

  pub sees-right : (p q : K → Bool) (ts : List T) → sees G q ts ≡ true → sees G (λ kind. p kind || q kind) ts ≡ true
  sees-right p q [] e = e
  sees-right p q (t ∷ ts) e = or_right (p (G.kind_of t)) (q (G.kind_of t)) e

  pub sees-same : (p q : K → Bool) (ts : List T) (b : Bool) → p ≡ q → sees G p ts ≡ b → sees G q ts ≡ b
  sees-same p q ts b e h = subst (λ (r : K → Bool). sees G r ts ≡ b) e h

  -- ---- one symbol

  module _ {A : Type 0} (kinds : K → Bool) (value : T → Result A W) where
    sound_valued : (t : T) (ts : List T) → kinds (G.kind_of t) ≡ true → (v : Result A W) → value t ≡ v → Sound (one G kinds value).spells (t ∷ ts) (valued G v (t ∷ ts) ts)
    sound_valued t ts e (Ok x) h = (t ∷ [], refl, (t, refl, e, h))
    sound_valued t ts e (Err why) h = tt

    sound_one : (ts : List T) → Sound (one G kinds value).spells ts (read_one G kinds value ts)
    sound_one [] = tt
    sound_one (t ∷ ts) = sound_cond (one G kinds value).spells (t ∷ ts) (kinds (G.kind_of t)) (valued G (value t) (t ∷ ts) ts) (refuse G G.unexpected (t ∷ ts)) (λ e. sound_valued t ts e (value t) refl) (λ e. tt)

    pub lawful_one : Lawful (one G kinds value)
    lawful_one = record {
      sound = sound_one;
      complete = λ front rest x h e. rw (h.1, h.2, h.3) refl;
      starts = λ front x h. inl (rw h.1 h.2);
    }

  pub lawful_token : (kind : K) → Lawful (token G kind)
  lawful_token kind = lawful_one (G.is kind) (λ t. Ok tt)

  -- ---- another value

  pub lawful_made : {A B : Type 0} (f : A → B) (a : Rule T K W A) → Lawful a → Lawful (made f a)
  lawful_made f a l = record {
    sound = λ ts. sound_made f a ts (a.read ts) (l.sound ts);
    complete = λ front rest y h e. rw (l.complete front rest h.0 h.1 e, h.2) refl;
    starts = λ front y h. l.starts front h.0 h.1;
  }
    where
      sound_made : {A B : Type 0} (f : A → B) (a : Rule T K W A) (ts : List T) (o : Outcome T W A) → Sound a.spells ts o → Sound (made f a).spells ts (and_then o (λ x rest. Ok (f x, rest)))
      sound_made f a ts (Ok p) h = (h.0, h.1, (p.0, h.2, refl))
      sound_made f a ts (Err r) h = tt

  -- ---- one after the other

  module _ {A B : Type 0} (a : Rule T K W A) (shape : Shape K) (b : A → Rule T K W B) (la : Lawful a) (lb : (x : A) → Lawful (b x)) (fits : (x : A) → Shaped shape (b x)) (apart : Apart shape.begins a.goes_on) where
    goes_on_first : (rest : List T) → shape.empty ≡ true → sees G (λ kind. shape.goes_on kind || (shape.empty && a.goes_on kind)) rest ≡ false → sees G a.goes_on rest ≡ false
    goes_on_first [] n e = refl
    goes_on_first (t ∷ rest) n e = sym (and_false shape.empty (a.goes_on (G.kind_of t)) n) ∙ (or_false (shape.goes_on (G.kind_of t)) (shape.empty && a.goes_on (G.kind_of t)) e).1

    starts_at : (x : A) (back : List T) (y : B) → (b x).spells back y → (sees G shape.begins back ≡ true) ⊎ ((back ≡ []) × (shape.empty ≡ true))
    starts_at x back y h =
        elim ((lb x).starts back y h) [
          | inl s ↦ inl (sees-same (b x).begins shape.begins back true (fits x).begins s)
          | inr n ↦ inr (n.0, sym (fits x).empty ∙ n.1)
        ]

    -- what the second spells does not go on the first
    then_stops : (x : A) (back rest : List T) (y : B) → (b x).spells back y → sees G (λ kind. shape.goes_on kind || (shape.empty && a.goes_on kind)) rest ≡ false → sees G a.goes_on (back ++ rest) ≡ false
    then_stops x back rest y h e =
        elim (starts_at x back y h) [
          | inl s ↦ sees-apart shape.begins a.goes_on (back ++ rest) apart (sees-append shape.begins back rest s)
          | inr n ↦ rw n.0 (goes_on_first rest n.1 e)
        ]

    sound_second : (ts front : List T) (x : A) (mid : List T) → ts ≡ front ++ mid → a.spells front x → (o : Outcome T W B) → Sound (b x).spells mid o
        → Sound (then_by a shape b).spells ts (and_then o (λ y rest. Ok ((x, y), rest)))
    sound_second ts front x mid e s (Ok p) h =
        (front ++ h.0, e ∙ ap (λ v. front ++ v) h.1 ∙ sym (append_assoc front h.0 p.1), (front, h.0, refl, s, h.2))
    sound_second ts front x mid e s (Err r) h = tt

    sound_first : (ts : List T) (o : Outcome T W A) → Sound a.spells ts o → Sound (then_by a shape b).spells ts (and_then o (λ x mid. and_then ((b x).read mid) (λ y rest. Ok ((x, y), rest))))
    sound_first ts (Ok p) h = sound_second ts h.0 p.0 p.1 h.1 h.2 ((b p.0).read p.1) ((lb p.0).sound p.1)
    sound_first ts (Err r) h = tt

    starts_second : (x : A) (front back : List T) (y : B) → (b x).spells back y → front ≡ [] → a.empty ≡ true
        → (sees G (λ kind. a.begins kind || (a.empty && shape.begins kind)) (front ++ back) ≡ true) ⊎ ((front ++ back ≡ []) × ((a.empty && shape.empty) ≡ true))
    starts_second x front back y h e n =
        rw (e, n) (elim (starts_at x back y h) [ inl s ↦ inl (sees-right a.begins shape.begins back s) | inr m ↦ inr m ])

    starts_then : (front back : List T) (x : A) (y : B) → a.spells front x → (b x).spells back y
        → (sees G (λ kind. a.begins kind || (a.empty && shape.begins kind)) (front ++ back) ≡ true) ⊎ ((front ++ back ≡ []) × ((a.empty && shape.empty) ≡ true))
    starts_then front back x y h g =
        elim (la.starts front x h) [
          | inl s ↦ inl (sees-append (λ kind. a.begins kind || (a.empty && shape.begins kind)) front back (sees-left a.begins (λ kind. a.empty && shape.begins kind) front s))
          | inr n ↦ starts_second x front back y g n.0 n.1
        ]

    pub lawful_then_by : Lawful (then_by a shape b)
    lawful_then_by = record {
      sound = λ ts. sound_first ts (a.read ts) (la.sound ts);
      complete = λ front rest x h e.
          let first = la.complete h.0 (h.1 ++ rest) x.0 h.3 (then_stops x.0 h.1 rest x.1 h.4 e) in
          let stops = (sees-or shape.goes_on (λ kind. shape.empty && a.goes_on kind) rest e).0 in
          let second = (lb x.0).complete h.1 rest x.1 h.4 (sees-same shape.goes_on (b x.0).goes_on rest false (sym (fits x.0).goes_on) stops) in
          rw (h.2, append_assoc, first, second) refl;
      starts = λ front x h. rw h.2 (starts_then h.0 h.1 x.0 x.1 h.3 h.4);
    }

  pub lawful_seq : {A B : Type 0} (a : Rule T K W A) (b : Rule T K W B) → Lawful a → Lawful b → Apart b.begins a.goes_on → Lawful (seq a b)
  lawful_seq a b la lb apart = lawful_then_by a (shape_of b) (λ x. b) la (λ x. lb) (λ x. same_shape b) apart

  pub lawful_after : {A B : Type 0} (a : Rule T K W A) (b : Rule T K W B) → Lawful a → Lawful b → Apart b.begins a.goes_on → Lawful (after a b)
  lawful_after a b la lb apart = lawful_made (λ p. p.1) (seq a b) (lawful_seq a b la lb apart)

  -- ---- one or the other

  module _ {A : Type 0} (a b : Rule T K W A) (la : Lawful a) (lb : Lawful b) (na : a.empty ≡ false) (nb : b.empty ≡ false) (apart : Apart b.begins a.begins) where
    begins_here : {C : Type 0} (c : Rule T K W C) (front : List T) → c.empty ≡ false → (sees G c.begins front ≡ true) ⊎ ((front ≡ []) × (c.empty ≡ true)) → sees G c.begins front ≡ true
    begins_here c front n (inl s) = s
    begins_here c front n (inr m) = absurd (cc (n, m.1))

    sound_left : (ts : List T) (o : Outcome T W A) → Sound a.spells ts o → Sound (either G a b).spells ts o
    sound_left ts (Ok p) h = (h.0, h.1, inl h.2)
    sound_left ts (Err r) h = tt

    sound_right : (ts : List T) (o : Outcome T W A) → Sound b.spells ts o → Sound (either G a b).spells ts o
    sound_right ts (Ok p) h = (h.0, h.1, inr h.2)
    sound_right ts (Err r) h = tt

    complete_either : (front rest : List T) (x : A) → (a.spells front x ⊎ b.spells front x) → sees G (λ kind. a.goes_on kind || b.goes_on kind) rest ≡ false
        → cond (sees G a.begins (front ++ rest)) (a.read (front ++ rest)) (b.read (front ++ rest)) ≡ Ok (x, rest)
    complete_either front rest x (inl s) e =
        rw (sees-append a.begins front rest (begins_here a front na (la.starts front x s))) (la.complete front rest x s (sees-or a.goes_on b.goes_on rest e).0)
    complete_either front rest x (inr s) e =
        rw (sees-apart b.begins a.begins (front ++ rest) apart (sees-append b.begins front rest (begins_here b front nb (lb.starts front x s))))
        (lb.complete front rest x s (sees-or a.goes_on b.goes_on rest e).1)

    starts_either : (front : List T) (x : A) → (a.spells front x ⊎ b.spells front x) → sees G (λ kind. a.begins kind || b.begins kind) front ≡ true
    starts_either front x (inl s) = sees-left a.begins b.begins front (begins_here a front na (la.starts front x s))
    starts_either front x (inr s) = sees-right a.begins b.begins front (begins_here b front nb (lb.starts front x s))

    pub lawful_either : Lawful (either G a b)
    lawful_either = record {
      sound = λ ts. sound_cond (either G a b).spells ts (sees G a.begins ts) (a.read ts) (b.read ts) (λ e. sound_left ts (a.read ts) (la.sound ts)) (λ e. sound_right ts (b.read ts) (lb.sound ts));
      complete = complete_either;
      starts = λ front x h. inl (starts_either front x h);
    }

  -- ---- what is not empty takes a symbol

  pub not_empty : (p : K → Bool) (front : List T) → sees G p front ≡ true → 0 < length front
  not_empty p [] e = absurd (cc)
  not_empty p (t ∷ front) e = omega arith

  module _ {A : Type 0} (a : Rule T K W A) (la : Lawful a) (na : a.empty ≡ false) where
    pub begins_with : (front : List T) (x : A) → a.spells front x → sees G a.begins front ≡ true
    begins_with front x s = elim (la.starts front x s) [ inl e ↦ e | inr m ↦ absurd (cc (na, m.1)) ]

    shortens_by : (ts : List T) (o : Outcome T W A) → Sound a.spells ts o → Shortens ts o
    shortens_by ts (Ok p) h =
        let e : length ts ≡ length (h.0 ++ p.1) = ap length h.1 in
        omega (arith, length-append h.0 p.1, not_empty a.begins h.0 (begins_with h.0 p.0 h.2))
    shortens_by ts (Err r) h = tt

    pub shortens : (ts : List T) → Shortens ts (a.read ts)
    shortens ts = shortens_by ts (a.read ts) (la.sound ts)

    -- ---- it, or nothing

    sound_some : (ts : List T) (o : Outcome T W A) → Sound a.spells ts o → Sound (opt G a).spells ts (and_then o (λ x rest. Ok (Some x, rest)))
    sound_some ts (Ok p) h = (h.0, h.1, h.2)
    sound_some ts (Err r) h = tt

    complete_opt : (front rest : List T) (o : Option A) → spells_opt a.spells front o → sees G (λ kind. a.begins kind || a.goes_on kind) rest ≡ false → (opt G a).read (front ++ rest) ≡ Ok (o, rest)
    complete_opt front rest None h e = rw (h, (sees-or a.begins a.goes_on rest e).0) refl
    complete_opt front rest (Some x) h e =
        rw (sees-append a.begins front rest (begins_with front x h), la.complete front rest x h (sees-or a.begins a.goes_on rest e).1) refl

    starts_opt : (front : List T) (o : Option A) → spells_opt a.spells front o → (sees G a.begins front ≡ true) ⊎ ((front ≡ []) × (true ≡ true))
    starts_opt front None h = inr (h, refl)
    starts_opt front (Some x) h = inl (begins_with front x h)

    pub lawful_opt : Lawful (opt G a)
    lawful_opt = record {
      sound = λ ts. sound_cond (opt G a).spells ts (sees G a.begins ts) (and_then (a.read ts) (λ x rest. Ok (Some x, rest))) (Ok (None, ts))
          (λ e. sound_some ts (a.read ts) (la.sound ts)) (λ e. ([], refl, refl));
      complete = complete_opt;
      starts = starts_opt;
    }

  -- ---- any number, each under what those before it left

  module _ {S A : Type 0} (shape : Shape K) (rule : S → Rule T K W A) (step : S → A → S) (l : (s : S) → Lawful (rule s)) (fits : (s : S) → Shaped shape (rule s)) (na : shape.empty ≡ false) where
    abbrev all_from : S → Rule T K W (List A)
    all_from s = many_from G shape rule step s

    takes : (s : S) → (rule s).empty ≡ false
    takes s = (fits s).empty ∙ na

    pub shortens_from : (s : S) (ts : List T) → Shortens ts ((rule s).read ts)
    shortens_from s ts = shortens (rule s) (l s) (takes s) ts

    begins_from : (s : S) (front : List T) (x : A) → (rule s).spells front x → sees G shape.begins front ≡ true
    begins_from s front x h = sees-same (rule s).begins shape.begins front true (fits s).begins (begins_with (rule s) (l s) (takes s) front x h)

    -- the turns that are left don't matter, where there are enough
    same_after : (n m : ℕ) (s : S) (ts : List T) (o : Outcome T W A) → ((x : A) (mid : List T) → length mid < length ts → read_from G shape.begins rule step n (step s x) mid ≡ read_from G shape.begins rule step m (step s x) mid) → Shortens ts o
        → and_then o (λ x mid. and_then (read_from G shape.begins rule step n (step s x) mid) (λ xs rest. Ok (x ∷ xs, rest))) ≡ and_then o (λ x mid. and_then (read_from G shape.begins rule step m (step s x) mid) (λ xs rest. Ok (x ∷ xs, rest)))
    same_after n m s ts (Ok p) same h = ap (λ (v : Outcome T W (List A)). and_then v (λ xs rest. Ok (p.0 ∷ xs, rest))) (same p.0 p.1 h)
    same_after n m s ts (Err r) same h = refl

    enough : (n m : ℕ) (s : S) (ts : List T) → length ts ≤ n → length ts ≤ m → read_from G shape.begins rule step n s ts ≡ read_from G shape.begins rule step m s ts
    unfolding read_from
    enough zero zero s ts hn hm = refl
    enough zero (suc m) s [] hn hm = refl
    enough zero (suc m) s (t ∷ ts) hn hm = absurd (omega arith)
    enough (suc n) zero s [] hn hm = refl
    enough (suc n) zero s (t ∷ ts) hn hm = absurd (omega arith)
    enough (suc n) (suc m) s ts hn hm =
        ap (λ (v : Outcome T W (List A)). cond (sees G shape.begins ts) v (Ok ([], ts))) (same_after n m s ts ((rule s).read ts) (λ x mid h. enough n m (step s x) mid (omega arith) (omega arith)) (shortens_from s ts))

    -- one turn
    unfoldable pub turn_of : S → List T → Outcome T W (List A)
    turn_of s ts = cond (sees G shape.begins ts) (and_then ((rule s).read ts) (λ x mid. and_then ((all_from (step s x)).read mid) (λ xs rest. Ok (x ∷ xs, rest)))) (Ok ([], ts))

    pub turn_is : (s : S) (ts : List T) → (all_from s).read ts ≡ turn_of s ts
    unfolding read_from turn_of
    turn_is s [] = refl
    turn_is s (t ∷ ts) =
        ap (λ (v : Outcome T W (List A)). cond (sees G shape.begins (t ∷ ts)) v (Ok ([], t ∷ ts)))
        (go ((rule s).read (t ∷ ts)) (shortens_from s (t ∷ ts)))
      where
        go : (o : Outcome T W A) → Shortens (t ∷ ts) o
            → and_then o (λ x mid. and_then (read_from G shape.begins rule step (length ts) (step s x) mid) (λ xs rest. Ok (x ∷ xs, rest))) ≡ and_then o (λ x mid. and_then ((all_from (step s x)).read mid) (λ xs rest. Ok (x ∷ xs, rest)))
        go (Ok p) h = ap (λ (v : Outcome T W (List A)). and_then v (λ xs rest. Ok (p.0 ∷ xs, rest))) (enough (length ts) (length p.1) (step s p.0) p.1 (omega arith) (omega arith))
        go (Err r) h = refl

    sound_more : (s : S) (ts front : List T) (x : A) (mid : List T) → ts ≡ front ++ mid → (rule s).spells front x → (o : Outcome T W (List A)) → Sound (spells_from rule step (step s x)) mid o
        → Sound (spells_from rule step s) ts (and_then o (λ xs rest. Ok (x ∷ xs, rest)))
    sound_more s ts front x mid e h (Ok p) g = (front ++ g.0, e ∙ ap (λ v. front ++ v) g.1 ∙ sym (append_assoc front g.0 p.1), (front, g.0, refl, h, g.2))
    sound_more s ts front x mid e h (Err r) g = tt

    sound_turn : (s : S) (ts : List T) (f : S → List T → Outcome T W (List A)) → ((s : S) (mid : List T) → Sound (spells_from rule step s) mid (f s mid)) → (o : Outcome T W A) → Sound (rule s).spells ts o
        → Sound (spells_from rule step s) ts (and_then o (λ x mid. and_then (f (step s x) mid) (λ xs rest. Ok (x ∷ xs, rest))))
    sound_turn s ts f hf (Ok p) h = sound_more s ts h.0 p.0 p.1 h.1 h.2 (f (step s p.0) p.1) (hf (step s p.0) p.1)
    sound_turn s ts f hf (Err r) h = tt

    sound_from : (n : ℕ) (s : S) (ts : List T) → Sound (spells_from rule step s) ts (read_from G shape.begins rule step n s ts)
    unfolding read_from
    sound_from zero s ts = ([], refl, refl)
    sound_from (suc n) s ts =
        sound_cond (spells_from rule step s) ts (sees G shape.begins ts)
        (and_then ((rule s).read ts) (λ x mid. and_then (read_from G shape.begins rule step n (step s x) mid) (λ xs rest. Ok (x ∷ xs, rest)))) (Ok ([], ts))
        (λ e. sound_turn s ts (read_from G shape.begins rule step n) (sound_from n) ((rule s).read ts) ((l s).sound ts)) (λ e. ([], refl, refl))

    starts_from : (s : S) (front : List T) (xs : List A) → spells_from rule step s front xs → (sees G shape.begins front ≡ true) ⊎ ((front ≡ []) × (true ≡ true))
    starts_from s front [] h = inr (h, refl)
    starts_from s front (x ∷ xs) h = inl (rw h.2 (sees-append shape.begins h.0 h.1 (begins_from s h.0 x h.3)))

    module _ (apart : Apart shape.begins shape.goes_on) where
      from_stops : (s : S) (back rest : List T) (xs : List A) → spells_from rule step s back xs → sees G (λ kind. shape.begins kind || shape.goes_on kind) rest ≡ false → sees G shape.goes_on (back ++ rest) ≡ false
      from_stops s back rest xs h e =
          elim (starts_from s back xs h) [
            | inl b ↦ sees-apart shape.begins shape.goes_on (back ++ rest) apart (sees-append shape.begins back rest b)
            | inr n ↦ rw n.0 (sees-or shape.begins shape.goes_on rest e).1
          ]

      complete_from : (xs : List A) (n : ℕ) (s : S) (front rest : List T) → length front ≤ n → spells_from rule step s front xs → sees G (λ kind. shape.begins kind || shape.goes_on kind) rest ≡ false
          → read_from G shape.begins rule step n s (front ++ rest) ≡ Ok (xs, rest)
      unfolding read_from
      complete_from [] zero s front rest b h e = rw h refl
      complete_from [] (suc n) s front rest b h e = rw (h, (sees-or shape.begins shape.goes_on rest e).0) refl
      complete_from (x ∷ xs) zero s front rest b h e =
          let f : length front ≡ length (h.0 ++ h.1) = ap length h.2 in
          absurd (omega (arith, length-append h.0 h.1, not_empty shape.begins h.0 (begins_from s h.0 x h.3)))
      complete_from (x ∷ xs) (suc n) s front rest b h e =
          let f : length front ≡ length (h.0 ++ h.1) = ap length h.2 in
          let shorter : length h.1 ≤ n = omega (arith, length-append h.0 h.1, not_empty shape.begins h.0 (begins_from s h.0 x h.3)) in
          let seen = sees-append shape.begins h.0 (h.1 ++ rest) (begins_from s h.0 x h.3) in
          let stops = sees-same shape.goes_on (rule s).goes_on (h.1 ++ rest) false (sym (fits s).goes_on) (from_stops (step s x) h.1 rest xs h.4 e) in
          let first = (l s).complete h.0 (h.1 ++ rest) x h.3 stops in
          let others = complete_from xs n (step s x) h.1 rest shorter h.4 e in
          rw (h.2, append_assoc, seen, first) (rw others refl)

      pub lawful_many_from : (s : S) → Lawful (many_from G shape rule step s)
      lawful_many_from s = record {
        sound = λ ts. sound_from (length ts) s ts;
        complete = λ front rest xs h e. complete_from xs (length (front ++ rest)) s front rest (omega (arith, length-append front rest)) h e;
        starts = starts_from s;
      }

  pub lawful_item : {A : Type 0} (mark : K) (a : Rule T K W A) → Lawful a → Lawful (after (token G mark) a)
  lawful_item mark a l = lawful_after (token G mark) a (lawful_token mark) l (λ kind e. refl)

  -- ---- symbols that are refused here

  pub lawful_refusing : (A : Type 0) (why : W) (kinds : K → Bool) → Lawful (refusing G {A = A} why kinds)
  lawful_refusing A why kinds = record { sound = λ ts. tt; complete = λ front rest x h e. absurd h; starts = λ front x h. absurd h }
