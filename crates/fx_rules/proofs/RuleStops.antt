-- What each way to make a rule keeps: what is read ends there, and what is refused stops there.
use Rattle.std.proofs.Common.{◌≡◌, ℕ, zero, suc, ◌≤◌, Bool, true, false, ◌&&◌, ◌⊎◌, inl, inr, cond, List, [], ◌∷◌, ◌++◌, length, Option, Some, None, Result, Ok, Err, refl, sym, ap, ◌∙◌, subst, arith, append_assoc, length-append}
use Rattle.fx_rules.specs.Rule.{Alphabet, Refusal, Outcome, and_then, refused_at, refuse, Rule, Apart, sees, one, read_one, valued, made, Shape, Shaped, then_by, either, opt, ends_opt, many_from, ends_from, stops_from, read_from, refusing}
use Rattle.fx_rules.proofs.RuleLaws.{Sound, Lawful, Shortens, sees-append, sees-apart, sees-or, sees-same, begins_with, not_empty, shortens_from}
use Rattle.fx_rules.proofs.RuleLocal.{same_length, cancel}

-- what was read is spelled up to what is left, which doesn't go on with it; and what was refused stops there
abbrev pub Tells : {T W A : Type 0} → (List T → A → List T → Type 0) → (List T → Refusal W → Type 0) → List T → Outcome T W A → Type 0
Tells {T} ends stops ts (Ok p) = (front : List T) × (ts ≡ front ++ p.1) × ends front p.0 p.1
Tells ends stops ts (Err f) = stops ts f

tells_cond : {T W A : Type 0} (ends : List T → A → List T → Type 0) (stops : List T → Refusal W → Type 0) (ts : List T) (b : Bool) (x y : Outcome T W A)
    → (b ≡ true → Tells ends stops ts x) → (b ≡ false → Tells ends stops ts y) → Tells ends stops ts (cond b x y)
tells_cond ends stops ts true x y f g = f refl
tells_cond ends stops ts false x y f g = g refl

module _ {T K W : Type 0} (G : Alphabet T K W) where
  -- of symbols with which a rule doesn't begin it reads none: it has none, or it stops at once
  abbrev pub Idle : {A : Type 0} → Bool → List T → Outcome T W A → Type 0
  Idle {A} true ts o = (x : A) × (o ≡ Ok (x, ts))
  Idle {A} false ts o = o ≡ refuse G G.unexpected ts

  pub record Exact {A : Type 0} (r : Rule T K W A) : Type 0 where
    pub tells : (ts : List T) → Tells r.ends r.stops ts (r.read ts)
    pub ends : (front rest : List T) (x : A) → r.ends front x rest → r.read (front ++ rest) ≡ Ok (x, rest)
    pub stops : (ts : List T) (f : Refusal W) → r.stops ts f → r.read ts ≡ Err f
    pub idle : (ts : List T) → sees G r.begins ts ≡ false → Idle r.empty ts (r.read ts)

  -- what ends before some symbols is spelled
  module _ {A : Type 0} (r : Rule T K W A) (l : Lawful G r) (e : Exact r) where
    pub spelled : (front rest : List T) (x : A) → r.ends front x rest → r.spells front x
    spelled front rest x h =
        let s : Sound {W = W} r.spells (front ++ rest) (Ok (x, rest)) = subst (Sound {W = W} r.spells (front ++ rest)) (e.ends front rest x h) (l.sound (front ++ rest)) in
        subst (λ (v : List T). r.spells v x) (sym (cancel front s.0 rest (same_length front s.0 rest s.1) s.1)) s.2

  -- ---- one symbol

  module _ {A : Type 0} (kinds : K → Bool) (value : T → Result A W) where
    tells_valued : (t : T) (ts : List T) → kinds (G.kind_of t) ≡ true → (v : Result A W) → value t ≡ v → Tells (one G kinds value).ends (one G kinds value).stops (t ∷ ts) (valued G v (t ∷ ts) ts)
    tells_valued t ts e (Ok x) h = (t ∷ [], refl, (t, refl, e, h))
    tells_valued t ts e (Err why) h = inr (t, ts, why, refl, e, h, refl)

    tells_one : (ts : List T) → Tells (one G kinds value).ends (one G kinds value).stops ts (read_one G kinds value ts)
    tells_one [] = inl (refl, refl)
    tells_one (t ∷ ts) = tells_cond (one G kinds value).ends (one G kinds value).stops (t ∷ ts) (kinds (G.kind_of t)) (valued G (value t) (t ∷ ts) ts) (refuse G G.unexpected (t ∷ ts)) (λ e. tells_valued t ts e (value t) refl) (λ e. inl (e, refl))

    idle_one : (ts : List T) → sees G kinds ts ≡ false → read_one G kinds value ts ≡ refuse G G.unexpected ts
    idle_one [] e = refl
    idle_one (t ∷ ts) e = rw e refl

    stops_unfit : (ts : List T) (f : Refusal W) (t : T) (rest : List T) (why : W) → ts ≡ t ∷ rest → kinds (G.kind_of t) ≡ true → value t ≡ Err why → f ≡ refused_at G why ts → read_one G kinds value ts ≡ Err f
    stops_unfit ts f t rest why e k v is = rw is (rw e (rw (k, v) refl))

    stops_one : (ts : List T) (f : Refusal W) → (one G kinds value).stops ts f → read_one G kinds value ts ≡ Err f
    stops_one ts f (inl h) = idle_one ts h.0 ∙ ap Err (sym h.1)
    stops_one ts f (inr h) = stops_unfit ts f h.0 h.1 h.2 h.3 h.4 h.5 h.6

    pub exact_one : Exact (one G kinds value)
    exact_one = record {
      tells = tells_one;
      ends = λ front rest x h. rw (h.1, h.2, h.3) refl;
      stops = stops_one;
      idle = idle_one;
    }

  -- ---- symbols that are refused here

  pub exact_refusing : (A : Type 0) (why : W) (kinds : K → Bool) → Exact (refusing G {A = A} why kinds)
  exact_refusing A why kinds = record { tells = λ ts. refl; ends = λ front rest x h. absurd h; stops = λ ts f h. ap Err (sym h); idle = λ ts e. rw e refl }

  -- ---- another value

  pub idle_made : {A B : Type 0} (f : A → B) (n : Bool) (ts : List T) (o : Outcome T W A) → Idle n ts o → Idle n ts (and_then o (λ x rest. Ok (f x, rest)))
  idle_made f true ts o h = (f h.0, rw h.1 refl)
  idle_made f false ts o h = rw h refl

  module _ {A B : Type 0} (f : A → B) (a : Rule T K W A) (e : Exact a) where
    tells_made : (ts : List T) (o : Outcome T W A) → Tells a.ends a.stops ts o → Tells (made f a).ends (made f a).stops ts (and_then o (λ x rest. Ok (f x, rest)))
    tells_made ts (Ok p) h = (h.0, h.1, (p.0, h.2, refl))
    tells_made ts (Err r) h = h

    pub exact_made : Exact (made f a)
    exact_made = record {
      tells = λ ts. tells_made ts (a.read ts) (e.tells ts);
      ends = λ front rest y h. rw (e.ends front rest h.0 h.1, h.2) refl;
      stops = λ ts r h. rw (e.stops ts r h) refl;
      idle = λ ts s. idle_made f a.empty ts (a.read ts) (e.idle ts s);
    }

  -- ---- one after the other

  sees-and : (b : Bool) (p : K → Bool) (ts : List T) → b ≡ true → sees G (λ kind. b && p kind) ts ≡ false → sees G p ts ≡ false
  sees-and true p ts n e = e
  sees-and false p ts n e = absurd (cc)

  idle_then : {A B : Type 0} (n m : Bool) (ts : List T) (o : Outcome T W A) (k : A → List T → Outcome T W B) → Idle n ts o → ((x : A) → n ≡ true → Idle m ts (k x ts))
      → Idle {A = A × B} (n && m) ts (and_then o (λ x mid. and_then (k x mid) (λ y rest. Ok ((x, y), rest))))
  idle_then true m ts o k h g = rw h.1 (idle_made (λ y. (h.0, y)) m ts (k h.0 ts) (g h.0 refl))
  idle_then false m ts o k h g = rw h refl

  module _ {A B : Type 0} (a : Rule T K W A) (shape : Shape K) (b : A → Rule T K W B) (ea : Exact a) (eb : (x : A) → Exact (b x)) (fits : (x : A) → Shaped shape (b x)) where
    tells_second : (ts front : List T) (x : A) (mid : List T) → ts ≡ front ++ mid → a.ends front x mid → (o : Outcome T W B) → Tells (b x).ends (b x).stops mid o
        → Tells (then_by a shape b).ends (then_by a shape b).stops ts (and_then o (λ y rest. Ok ((x, y), rest)))
    tells_second ts front x mid e s (Ok p) h =
        (front ++ h.0, e ∙ ap (λ v. front ++ v) h.1 ∙ sym (append_assoc front h.0 p.1), (front, h.0, refl, subst (a.ends front x) h.1 s, h.2))
    tells_second ts front x mid e s (Err f) h = inr (x, front, mid, e, s, h)

    tells_first : (ts : List T) (o : Outcome T W A) → Tells a.ends a.stops ts o → Tells (then_by a shape b).ends (then_by a shape b).stops ts (and_then o (λ x mid. and_then ((b x).read mid) (λ y rest. Ok ((x, y), rest))))
    tells_first ts (Ok p) h = tells_second ts h.0 p.0 p.1 h.1 h.2 ((b p.0).read p.1) ((eb p.0).tells p.1)
    tells_first ts (Err f) h = inl h

    stops_then : (ts : List T) (f : Refusal W) → (then_by a shape b).stops ts f → (then_by a shape b).read ts ≡ Err f
    stops_then ts f (inl h) = rw (ea.stops ts f h) refl
    stops_then ts f (inr h) = rw (h.3, ea.ends h.1 h.2 h.0 h.4, (eb h.0).stops h.2 f h.5) refl

    idle_second : (ts : List T) (x : A) → sees G shape.begins ts ≡ false → Idle shape.empty ts ((b x).read ts)
    idle_second ts x s =
        subst (λ (n : Bool). Idle n ts ((b x).read ts)) (fits x).empty ((eb x).idle ts (sees-same G shape.begins (b x).begins ts false (sym (fits x).begins) s))

    pub exact_then_by : Exact (then_by a shape b)
    exact_then_by = record {
      tells = λ ts. tells_first ts (a.read ts) (ea.tells ts);
      ends = λ front rest x h. rw (h.2, append_assoc, ea.ends h.0 (h.1 ++ rest) x.0 h.3, (eb x.0).ends h.1 rest x.1 h.4) refl;
      stops = stops_then;
      idle = λ ts s.
          let s2 = sees-or G a.begins (λ kind. a.empty && shape.begins kind) ts s in
          idle_then a.empty shape.empty ts (a.read ts) (λ x mid. (b x).read mid) (ea.idle ts s2.0) (λ x n. idle_second ts x (sees-and a.empty shape.begins ts n s2.1));
    }

  -- ---- one or the other

  module _ {A : Type 0} (a b : Rule T K W A) (la : Lawful G a) (lb : Lawful G b) (ea : Exact a) (eb : Exact b) (na : a.empty ≡ false) (nb : b.empty ≡ false) (apart : Apart b.begins a.begins) where
    none_here : (ts : List T) → sees G b.begins ts ≡ false → b.read ts ≡ refuse G G.unexpected ts
    none_here ts s = subst (λ (n : Bool). Idle n ts (b.read ts)) nb (eb.idle ts s)

    tells_left : (ts : List T) → sees G a.begins ts ≡ true → (o : Outcome T W A) → Tells a.ends a.stops ts o → Tells (either G a b).ends (either G a b).stops ts o
    tells_left ts s (Ok p) h = (h.0, h.1, inl h.2)
    tells_left ts s (Err f) h = inl (s, h)

    stopped_right : (ts : List T) (f : Refusal W) (c : Bool) → sees G b.begins ts ≡ c → sees G a.begins ts ≡ false → b.stops ts f → (either G a b).stops ts f
    stopped_right ts f true c s h = inr (inl (c, h))
    stopped_right ts f false c s h = inr (inr (s, c, (let e = eb.stops ts f h in let g = none_here ts c in cc (e, g))))

    tells_right : (ts : List T) → sees G a.begins ts ≡ false → (o : Outcome T W A) → Tells b.ends b.stops ts o → Tells (either G a b).ends (either G a b).stops ts o
    tells_right ts s (Ok p) h = (h.0, h.1, inr h.2)
    tells_right ts s (Err f) h = stopped_right ts f (sees G b.begins ts) refl s h

    ends_either : (front rest : List T) (x : A) → (a.ends front x rest ⊎ b.ends front x rest) → cond (sees G a.begins (front ++ rest)) (a.read (front ++ rest)) (b.read (front ++ rest)) ≡ Ok (x, rest)
    ends_either front rest x (inl h) = rw (sees-append G a.begins front rest (begins_with G a la na front x (spelled a la ea front rest x h))) (ea.ends front rest x h)
    ends_either front rest x (inr h) =
        rw (sees-apart G b.begins a.begins (front ++ rest) apart (sees-append G b.begins front rest (begins_with G b lb nb front x (spelled b lb eb front rest x h)))) (eb.ends front rest x h)

    stops_either : (ts : List T) (f : Refusal W) → (either G a b).stops ts f → cond (sees G a.begins ts) (a.read ts) (b.read ts) ≡ Err f
    stops_either ts f (inl h) = rw h.0 (ea.stops ts f h.1)
    stops_either ts f (inr (inl h)) = rw (sees-apart G b.begins a.begins ts apart h.0) (eb.stops ts f h.1)
    stops_either ts f (inr (inr h)) = rw h.0 (none_here ts h.1 ∙ ap Err (sym h.2))

    pub exact_either : Exact (either G a b)
    exact_either = record {
      tells = λ ts. tells_cond (either G a b).ends (either G a b).stops ts (sees G a.begins ts) (a.read ts) (b.read ts) (λ s. tells_left ts s (a.read ts) (ea.tells ts)) (λ s. tells_right ts s (b.read ts) (eb.tells ts));
      ends = ends_either;
      stops = stops_either;
      idle = λ ts s. let s2 = sees-or G a.begins b.begins ts s in rw s2.0 (eb.idle ts s2.1);
    }

  -- ---- it, or nothing

  module _ {A : Type 0} (a : Rule T K W A) (l : Lawful G a) (e : Exact a) (na : a.empty ≡ false) where
    tells_some : (ts : List T) → sees G a.begins ts ≡ true → (o : Outcome T W A) → Tells a.ends a.stops ts o → Tells (opt G a).ends (opt G a).stops ts (and_then o (λ x rest. Ok (Some x, rest)))
    tells_some ts s (Ok p) h = h
    tells_some ts s (Err f) h = (s, h)

    ends_some : (front rest : List T) (o : Option A) → ends_opt G a.begins a.ends front o rest → (opt G a).read (front ++ rest) ≡ Ok (o, rest)
    ends_some front rest None h = rw (h.0, h.1) refl
    ends_some front rest (Some x) h = rw (sees-append G a.begins front rest (begins_with G a l na front x (spelled a l e front rest x h)), e.ends front rest x h) refl

    pub exact_opt : Exact (opt G a)
    exact_opt = record {
      tells = λ ts. tells_cond (opt G a).ends (opt G a).stops ts (sees G a.begins ts) (and_then (a.read ts) (λ x rest. Ok (Some x, rest))) (Ok (None, ts))
          (λ s. tells_some ts s (a.read ts) (e.tells ts)) (λ s. ([], refl, (refl, s)));
      ends = ends_some;
      stops = λ ts f h. rw (h.0, e.stops ts f h.1) refl;
      idle = λ ts s. (None, rw s refl);
    }

  -- ---- any number, each under what those before it left

  module _ {S A : Type 0} (shape : Shape K) (rule : S → Rule T K W A) (step : S → A → S) (l : (s : S) → Lawful G (rule s)) (e : (s : S) → Exact (rule s)) (fits : (s : S) → Shaped shape (rule s)) (na : shape.empty ≡ false) where
    abbrev ends_all : S → List T → List A → List T → Type 0
    ends_all s = ends_from G shape.begins rule step s

    abbrev stops_all : S → List T → Refusal W → Type 0
    stops_all s = λ ts f. (xs : List A) × stops_from G shape.begins rule step s xs ts f

    begun : (s : S) (front rest : List T) (x : A) → (rule s).ends front x rest → sees G shape.begins front ≡ true
    begun s front rest x h =
        sees-same G (rule s).begins shape.begins front true (fits s).begins (begins_with G (rule s) (l s) ((fits s).empty ∙ na) front x (spelled (rule s) (l s) (e s) front rest x h))

    tells_more : (s : S) (ts front : List T) (x : A) (mid : List T) → ts ≡ front ++ mid → (rule s).ends front x mid → (o : Outcome T W (List A)) → Tells (ends_all (step s x)) (stops_all (step s x)) mid o
        → Tells (ends_all s) (stops_all s) ts (and_then o (λ xs rest. Ok (x ∷ xs, rest)))
    tells_more s ts front x mid is h (Ok p) g =
        (front ++ g.0, is ∙ ap (λ v. front ++ v) g.1 ∙ sym (append_assoc front g.0 p.1), (front, g.0, refl, subst ((rule s).ends front x) g.1 h, g.2))
    tells_more s ts front x mid is h (Err f) g = (x ∷ g.0, (front, mid, is, h, g.1))

    tells_turn : (n : ℕ) (s : S) (ts : List T) → sees G shape.begins ts ≡ true → length ts ≤ suc n → ((s : S) (mid : List T) → length mid ≤ n → Tells (ends_all s) (stops_all s) mid (read_from G shape.begins rule step n s mid))
        → (o : Outcome T W A) → Tells (rule s).ends (rule s).stops ts o → Shortens ts o
        → Tells (ends_all s) (stops_all s) ts (and_then o (λ x mid. and_then (read_from G shape.begins rule step n (step s x) mid) (λ xs rest. Ok (x ∷ xs, rest))))
    tells_turn n s ts b long others (Ok p) h shorter = tells_more s ts h.0 p.0 p.1 h.1 h.2 (read_from G shape.begins rule step n (step s p.0) p.1) (others (step s p.0) p.1 (omega arith))
    tells_turn n s ts b long others (Err f) h shorter = ([], (b, h))

    tells_from : (n : ℕ) (s : S) (ts : List T) → length ts ≤ n → Tells (ends_all s) (stops_all s) ts (read_from G shape.begins rule step n s ts)
    unfolding read_from
    tells_from zero s [] long = ([], refl, (refl, refl))
    tells_from zero s (t ∷ ts) long = absurd (omega arith)
    tells_from (suc n) s ts long =
        tells_cond (ends_all s) (stops_all s) ts (sees G shape.begins ts)
        (and_then ((rule s).read ts) (λ x mid. and_then (read_from G shape.begins rule step n (step s x) mid) (λ xs rest. Ok (x ∷ xs, rest)))) (Ok ([], ts))
        (λ b. tells_turn n s ts b long (tells_from n) ((rule s).read ts) ((e s).tells ts) (shortens_from G shape rule step l fits na s ts)) (λ b. ([], refl, (refl, b)))

    ends_read : (xs : List A) (n : ℕ) (s : S) (front rest : List T) → length front ≤ n → ends_from G shape.begins rule step s front xs rest → read_from G shape.begins rule step n s (front ++ rest) ≡ Ok (xs, rest)
    unfolding read_from
    ends_read [] zero s front rest b h = rw h.0 refl
    ends_read [] (suc n) s front rest b h = rw (h.0, h.1) refl
    ends_read (x ∷ xs) zero s front rest b h =
        let f : length front ≡ length (h.0 ++ h.1) = ap length h.2 in
        absurd (omega (arith, length-append h.0 h.1, not_empty G shape.begins h.0 (begun s h.0 (h.1 ++ rest) x h.3)))
    ends_read (x ∷ xs) (suc n) s front rest b h =
        let f : length front ≡ length (h.0 ++ h.1) = ap length h.2 in
        let begins = begun s h.0 (h.1 ++ rest) x h.3 in
        let shorter : length h.1 ≤ n = omega (arith, length-append h.0 h.1, not_empty G shape.begins h.0 begins) in
        let seen = sees-append G shape.begins h.0 (h.1 ++ rest) begins in
        let others = ends_read xs n (step s x) h.1 rest shorter h.4 in
        rw (h.2, append_assoc, seen, (e s).ends h.0 (h.1 ++ rest) x h.3) (rw others refl)

    stops_read : (xs : List A) (n : ℕ) (s : S) (ts : List T) (f : Refusal W) → length ts ≤ n → stops_from G shape.begins rule step s xs ts f → read_from G shape.begins rule step n s ts ≡ Err f
    unfolding read_from
    stops_read [] zero s ts f b h = absurd (omega (arith, not_empty G shape.begins ts h.0))
    stops_read [] (suc n) s ts f b h = rw (h.0, (e s).stops ts f h.1) refl
    stops_read (x ∷ xs) zero s ts f b h =
        let g : length ts ≡ length (h.0 ++ h.1) = ap length h.2 in
        absurd (omega (arith, length-append h.0 h.1, not_empty G shape.begins h.0 (begun s h.0 h.1 x h.3)))
    stops_read (x ∷ xs) (suc n) s ts f b h =
        let g : length ts ≡ length (h.0 ++ h.1) = ap length h.2 in
        let begins = begun s h.0 h.1 x h.3 in
        let shorter : length h.1 ≤ n = omega (arith, length-append h.0 h.1, not_empty G shape.begins h.0 begins) in
        let seen = sees-append G shape.begins h.0 h.1 begins in
        let others = stops_read xs n (step s x) h.1 f shorter h.4 in
        rw (h.2, seen, (e s).ends h.0 h.1 x h.3) (rw others refl)

    idle_from : (s : S) (ts : List T) → sees G shape.begins ts ≡ false → read_from G shape.begins rule step (length ts) s ts ≡ Ok ([], ts)
    unfolding read_from
    idle_from s [] b = refl
    idle_from s (t ∷ ts) b = rw b refl

    pub exact_many_from : (s : S) → Exact (many_from G shape rule step s)
    exact_many_from s = record {
      tells = λ ts. tells_from (length ts) s ts (omega arith);
      ends = λ front rest xs h. ends_read xs (length (front ++ rest)) s front rest (omega (arith, length-append front rest)) h;
      stops = λ ts f h. stops_read h.0 (length ts) s ts f (omega arith) h.1;
      idle = λ ts b. ([], idle_from s ts b);
    }
