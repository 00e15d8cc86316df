-- What entries say, and what a cache holds after it learned.
use Rattle.std.proofs.Common.{◌≡◌, ◌≢◌, ◌∙◌, ap, sym, subst, refl, ℕ, zero, suc, ◌+◌, ◌-◌, ◌<◌, ◌≤◌, Bool, true, false, cond, List, [], ◌∷◌, ◌++◌, map, length, take, arith, Option, Some, None, is_some, append_assoc, ◌⊎◌, inl, inr}
use Rattle.std.specs.Prelude.{Result, Ok, Err, OnErr, All, AllPairs, Contains, filter, reverse}
use mathlib.Core.List.{reverse_aux}
use Rattle.std.specs.Bool.{Decides, one_answer}
use Rattle.std.specs.List.{AllByRecursion, range_with_len, zip, flat_map}
use Rattle.std.specs.Map.{lookup, lookup_entry}
use Rattle.std.proofs.lemmas.List.Elements.{All-from_recursion, recursion_from_All}
use Rattle.std.proofs.lemmas.List.{take_all}
use Rattle.std.proofs.Math.ListN.{length-take}
use Rattle.lru.specs.LruCache.{LruCache, put_entries}
use Rattle.fx_terms.proofs.SetLemmas.{Among, contains_from}
use Rattle.fx_keys.specs.Probes.{same_probe, probes_decide, probe, key_of}
use Rattle.fx_keys.specs.declared.keys.AskKey.{AskKey}
use Rattle.fx_keys.specs.declared.probes.Probe.{Probe}
use Rattle.fx_sources.specs.Probes.{Entry, known, is_held, told, learned, is_yes, members_of}
use Rattle.fx_terms.specs.declared.patterns.Pattern.{Pattern}

-- ---- look-ups

-- the first of two answers, where there is one
first : Option Bool → Option Bool → Option Bool
first (Some x) o = Some x
first None o = o

first_if : (b x : Bool) (rest o r : Option Bool) → r ≡ first rest o → cond b (Some x) r ≡ first (cond b (Some x) rest) o
unfolding first
first_if true x rest o r e = refl
first_if false x rest o r e = e

known-append : (a b : List Entry) (p : Probe) → known (a ++ b) p ≡ first (known a p) (known b p)
unfolding first
known-append [] b p = refl
known-append (e ∷ a) b p = first_if (same_probe p e.0) e.1 (known a p) (known b p) (known (a ++ b) p) (known-append a b p)

-- entries that say the same say the same behind others
pub known_behind : (a b c : List Entry) (p : Probe) → known b p ≡ known c p → known (a ++ b) p ≡ known (a ++ c) p
known_behind a b c p e = known-append a b p ∙ ap (first (known a p)) e ∙ sym (known-append a c p)

-- and in front of others
pub known_before : (a b c : List Entry) (p : Probe) → known a p ≡ known b p → known (a ++ c) p ≡ known (b ++ c) p
known_before a b c p e = known-append a c p ∙ ap (λ o. first o (known c p)) e ∙ sym (known-append b c p)

pub yes_before : (a b : List Entry) (p : Probe) (truth : Bool) → Some truth ≡ known a p → truth ≡ is_yes (known (a ++ b) p)
unfolding first
yes_before a b p truth e = sym (ap is_yes (known-append a b p ∙ ap (λ o. first o (known b p)) (sym e)))

pub answer_behind : (a b : List Entry) (p : Probe) → None ≡ known a p → known (a ++ b) p ≡ known b p
unfolding first
answer_behind a b p e = known-append a b p ∙ ap (λ o. first o (known b p)) (sym e)

pub yes_behind : (a b : List Entry) (p : Probe) (truth : Bool) → None ≡ known a p → Some truth ≡ known b p → truth ≡ is_yes (known (a ++ b) p)
yes_behind a b p truth e f = ap is_yes f ∙ sym (ap is_yes (answer_behind a b p e))

pub no_behind : (a b : List Entry) (p : Probe) → None ≡ known a p → None ≡ known b p → false ≡ is_yes (known (a ++ b) p)
no_behind a b p e f = ap is_yes f ∙ sym (ap is_yes (answer_behind a b p e))

-- ---- one more entry

pub same_turned : (p q : Probe) → same_probe p q ≡ same_probe q p
same_turned p q = one_answer (same_probe p q) (same_probe q p) (probes_decide p q) (λ h. sym ((probes_decide q p).0 h), λ e. (probes_decide q p).1 (sym e))

not_some : (o : Option Bool) → is_some o ≡ false → o ≡ None
not_some None h = refl
not_some (Some x) h = cc

no_entry_at : (b x : Bool) (e : Entry) (o : Option Bool) (r : Option Entry) → (o ≡ None → r ≡ None) → cond b (Some x) o ≡ None → cond b (Some e) r ≡ None
no_entry_at true x e o r f h = cc
no_entry_at false x e o r f h = f h

no_entry : (test : Probe → Bool) (es : List Entry) → lookup test es ≡ None → lookup_entry test es ≡ None
no_entry test [] h = refl
no_entry test (e ∷ es) h = no_entry_at (test e.0) e.1 e (lookup test es) (lookup_entry test es) (no_entry test es) h

-- a new entry goes first
pub put_new : (c : LruCache Probe Bool) (p : Probe) (truth : Bool) → c.cap ≡ 4096 → is_held c.entries p ≡ false → put_entries same_probe c p truth ≡ take 4096 ((p, truth) ∷ c.entries)
put_new c p truth full h = rw (no_entry (same_probe p) c.entries (not_some (known c.entries p) h)) (ap (λ n. (p, truth) ∷ take (n - 1) c.entries) full)

-- ---- what was told

aux_append : {X : Type 0} (xs ys zs : List X) → reverse_aux xs ys ++ zs ≡ reverse_aux xs (ys ++ zs)
aux_append [] ys zs = refl
aux_append (x ∷ xs) ys zs = aux_append xs (x ∷ ys) zs

-- one more is told before the others
pub told_next : (p : Probe) (truth : Bool) (ps : List Probe) (truths : List Bool) (es : List Entry) → told (p ∷ ps) (truth ∷ truths) ++ es ≡ told ps truths ++ ((p, truth) ∷ es)
told_next p truth ps truths es = aux_append (zip ps truths) ((p, truth) ∷ []) es ∙ sym (aux_append (zip ps truths) [] ((p, truth) ∷ es))

-- ---- the newest entries

take_over : {X : Type 0} (n m : ℕ) (xs ys : List X) → n ≤ m → take n (xs ++ take m ys) ≡ take n (xs ++ ys)
take_over zero m xs ys h = refl
take_over (suc n) zero xs ys h = absurd (omega arith)
take_over (suc n) (suc m) [] [] h = refl
take_over (suc n) (suc m) [] (y ∷ ys) h = ap (λ r. y ∷ r) (take_over n m [] ys (omega arith))
take_over (suc n) (suc m) (x ∷ xs) ys h = ap (λ r. x ∷ r) (take_over n (suc m) xs ys (omega arith))

-- ---- what a cache holds while it learns

abbrev pub Apart : List Probe → Type 0
Apart [] = Unit {0}
Apart (p ∷ ps) = AllByRecursion (λ q. p ≢ q) ps × Apart ps

apart_from : (ps : List Probe) → AllPairs ◌≢◌ ps → Apart ps
apart_from [] h = tt
apart_from (p ∷ ps) h = (
  recursion_from_All (λ q. p ≢ q) ps (λ k d lt. h 0 (suc k) d (omega arith) (omega (arith, lt))),
  apart_from ps (λ i j d a b. h (suc i) (suc j) d (omega (arith, a)) (omega (arith, b))),
)

-- while some probes and their truths are left
pub record Learning (old : List Entry) (probes : List Probe) (truths : List Bool) (held : List Entry) (ps : List Probe) (ts : List Bool) : Type 0 where
  pub ends : take 4096 (told ps ts ++ held) ≡ learned old probes truths
  pub few : length held ≤ 4096
  pub apart : Apart ps
  pub news : AllByRecursion (λ p. is_held held p ≡ false) ps
  pub origin : AllByRecursion (λ e. Contains old e ⊎ Contains (zip probes truths) e) held
  pub rest : AllByRecursion (λ e. Contains (zip probes truths) e) (zip ps ts)

all_contained : {X : Type 0} (xs ys : List X) → ((x : X) → Among x ys → Among x xs) → AllByRecursion (Contains xs) ys
all_contained xs [] h = tt
all_contained xs (y ∷ ys) h = (contains_from xs y (h y (inl refl)), all_contained xs ys (λ x m. h x (inr m)))

all_either : {X : Type 0} (P Q : X → Type 0) (xs : List X) → AllByRecursion P xs → AllByRecursion (λ x. P x ⊎ Q x) xs
all_either P Q [] h = tt
all_either P Q (x ∷ xs) h = (inl h.0, all_either P Q xs h.1)

all_take : {X : Type 0} (P : X → Type 0) (n : ℕ) (xs : List X) → AllByRecursion P xs → AllByRecursion P (take n xs)
all_take P zero xs h = tt
all_take P (suc n) [] h = tt
all_take P (suc n) (x ∷ xs) h = (h.0, all_take P n xs h.1)

pub learning_begins : (old : List Entry) (probes : List Probe) (truths : List Bool) → length old ≤ 4096 → AllPairs ◌≢◌ probes → All (λ p. is_held old p ≡ false) probes → Learning old probes truths old probes truths
learning_begins old probes truths few apart news = record {
  ends = refl;
  few = few;
  apart = apart_from probes apart;
  news = recursion_from_All (λ p. is_held old p ≡ false) probes news;
  origin = all_either (Contains old) (Contains (zip probes truths)) old (all_contained old old (λ x m. m));
  rest = all_contained (zip probes truths) (zip probes truths) (λ x m. m);
}

-- a probe that is not held in a list is not held in its front
held_in : (b x : Bool) (o r : Option Bool) → (is_some o ≡ false → is_some r ≡ false) → is_some (cond b (Some x) o) ≡ false → is_some (cond b (Some x) r) ≡ false
held_in true x o r f h = cc
held_in false x o r f h = f h

not_held_front : (n : ℕ) (es : List Entry) (p : Probe) → is_held es p ≡ false → is_held (take n es) p ≡ false
not_held_front zero es p h = refl
not_held_front (suc n) [] p h = refl
not_held_front (suc n) (e ∷ es) p h = held_in (same_probe p e.0) e.1 (known es p) (known (take n es) p) (not_held_front n es p) h

not_first : (b x : Bool) (o : Option Bool) → b ≡ false → is_some o ≡ false → is_some (cond b (Some x) o) ≡ false
not_first true x o e h = cc
not_first false x o e h = h

differ : (b : Bool) (P : Type 0) → Decides b P → (P → ⊥) → b ≡ false
differ true P d h = absurd (h (d.0 refl))
differ false P d h = refl

still_new : (held : List Entry) (p : Probe) (truth : Bool) (ps : List Probe) → AllByRecursion (λ q. p ≢ q) ps → AllByRecursion (λ q. is_held held q ≡ false) ps → AllByRecursion (λ q. is_held (take 4096 ((p, truth) ∷ held)) q ≡ false) ps
still_new held p truth [] a n = tt
still_new held p truth (q ∷ qs) a n = (
  not_held_front 4096 ((p, truth) ∷ held) q (not_first (same_probe q p) truth (known held q) (differ (same_probe q p) (q ≡ p) (probes_decide q p) (λ e. a.0 (sym e))) n.0),
  still_new held p truth qs a.1 n.1,
)

short : {X : Type 0} (n : ℕ) (xs : List X) → length (take n xs) ≤ n
short n xs = omega (arith, length-take n xs)

pub learning_goes_on : (old : List Entry) (probes : List Probe) (truths : List Bool) (held : List Entry) (p : Probe) (truth : Bool) (ps : List Probe) (ts : List Bool)
    → Learning old probes truths held (p ∷ ps) (truth ∷ ts) → Learning old probes truths (take 4096 ((p, truth) ∷ held)) ps ts
learning_goes_on old probes truths held p truth ps ts h = record {
  ends = take_over 4096 4096 (told ps ts) ((p, truth) ∷ held) (omega arith) ∙ ap (take 4096) (sym (told_next p truth ps ts held)) ∙ h.ends;
  few = short 4096 ((p, truth) ∷ held);
  apart = h.apart.1;
  news = still_new held p truth ps h.apart.0 h.news.1;
  origin = all_take (λ e. Contains old e ⊎ Contains (zip probes truths) e) 4096 ((p, truth) ∷ held) (inr h.rest.0, h.origin);
  rest = h.rest.1;
}

pub next_is_new : (old : List Entry) (probes : List Probe) (truths : List Bool) (held : List Entry) (p : Probe) (ps : List Probe) (ts : List Bool) → Learning old probes truths held (p ∷ ps) ts → is_held held p ≡ false
next_is_new old probes truths held p ps ts h = h.news.0

pub learning_ends : (old : List Entry) (probes : List Probe) (truths : List Bool) (held : List Entry) (ps : List Probe) (ts : List Bool) → zip ps ts ≡ [] → Learning old probes truths held ps ts → held ≡ learned old probes truths
learning_ends old probes truths held ps ts e h = sym (take_all 4096 held h.few) ∙ ap (λ z. take 4096 (reverse z ++ held)) (sym e) ∙ h.ends

pub all_known : (old : List Entry) (probes : List Probe) (truths : List Bool) (held : List Entry) (ps : List Probe) (ts : List Bool) → Learning old probes truths held ps ts → All (λ e. Contains old e ⊎ Contains (zip probes truths) e) held
all_known old probes truths held ps ts h = All-from_recursion (λ e. Contains old e ⊎ Contains (zip probes truths) e) held h.origin

-- ---- numbers

pub range_next : (at end : ℕ) → at < end → range_with_len at (end - at) ≡ at ∷ range_with_len (at + 1) (end - (at + 1))
range_next at end h =
    let e : end - at ≡ suc (end - (at + 1)) = omega arith in
    ap (range_with_len at) e

-- what one number more gives, behind what was given before
pub more_probes : {X : Type 0} (f : ℕ → List X) (done next whole : List X) (at end : ℕ) → at < end → next ≡ done ++ f at
    → done ++ flat_map f (range_with_len at (end - at)) ≡ whole → next ++ flat_map f (range_with_len (at + 1) (end - (at + 1))) ≡ whole
more_probes f done next whole at end lt e h =
    ap (λ xs. xs ++ flat_map f (range_with_len (at + 1) (end - (at + 1)))) e
    ∙ append_assoc done (f at) (flat_map f (range_with_len (at + 1) (end - (at + 1))))
    ∙ ap (λ r. done ++ flat_map f r) (sym (range_next at end lt))
    ∙ h

if_kept : (b : Bool) (x : ℕ) (rest : List ℕ) → cond b (x ∷ []) [] ++ rest ≡ cond b (x ∷ rest) rest
if_kept true x rest = refl
if_kept false x rest = refl

pub more_members : (test : ℕ → Bool) (done next whole : List ℕ) (at end : ℕ) → at < end → next ≡ done ++ cond (test at) (at ∷ []) []
    → done ++ filter test (range_with_len at (end - at)) ≡ whole → next ++ filter test (range_with_len (at + 1) (end - (at + 1))) ≡ whole
more_members test done next whole at end lt e h =
    let rest = filter test (range_with_len (at + 1) (end - (at + 1))) in
    ap (λ xs. xs ++ rest) e
    ∙ append_assoc done (cond (test at) (at ∷ []) []) rest
    ∙ ap (λ r. done ++ r) (if_kept (test at) at rest)
    ∙ ap (λ r. done ++ filter test r) (sym (range_next at end lt))
    ∙ h

-- ---- the same answers choose the same members

filter_same : (f g : ℕ → Bool) → ((x : ℕ) → f x ≡ g x) → (xs : List ℕ) → filter f xs ≡ filter g xs
filter_same f g same [] = refl
filter_same f g same (x ∷ xs) = λ i. cond (same x i) (x ∷ filter_same f g same xs i) (filter_same f g same xs i)

pub map_same : {X Y : Type 0} (f g : X → Y) → ((x : X) → f x ≡ g x) → (xs : List X) → map f xs ≡ map g xs
map_same f g same [] = refl
map_same f g same (x ∷ xs) = λ i. same x i ∷ map_same f g same xs i

pub same_members : (a b : List Entry) (members : ℕ) (k : AskKey) → ((p : Probe) → known a p ≡ known b p) → members_of a members k ≡ members_of b members k
same_members a b members k same = filter_same (λ at. is_yes (known a (probe at k))) (λ at. is_yes (known b (probe at k))) (λ at. ap is_yes (same (probe at k))) (range_with_len 0 members)

pub same_choice : (a b : List Entry) (members : ℕ) (ps : List Pattern) → ((p : Probe) → known a p ≡ known b p) → map (λ p. members_of a members (key_of p)) ps ≡ map (λ p. members_of b members (key_of p)) ps
same_choice a b members ps same = map_same (λ p. members_of a members (key_of p)) (λ p. members_of b members (key_of p)) (λ p. same_members a b members (key_of p) same) ps

-- ---- answers are put in

-- one truth more, put in behind those that are left
pub truth_next : (p q : Probe) (truth : Bool) (ps : List Probe) (truths : List Bool) (old new : List Entry) (whole : Option Bool) → known new q ≡ cond (same_probe p q) (Some truth) (known old q)
    → known (told (p ∷ ps) (truth ∷ truths) ++ old) q ≡ whole → known (told ps truths ++ new) q ≡ whole
truth_next p q truth ps truths old new whole e h =
    known_behind (told ps truths) new ((p, truth) ∷ old) q (e ∙ ap (λ b. cond b (Some truth) (known old q)) (same_turned p q))
    ∙ ap (λ es. known es q) (sym (told_next p truth ps truths old))
    ∙ h

pub truth_put : (p q : Probe) (truth : Bool) (qs ps : List Probe) (bs truths : List Bool) (old new : List Entry) (whole : Option Bool) → qs ≡ p ∷ ps → bs ≡ truth ∷ truths
    → known new q ≡ cond (same_probe p q) (Some truth) (known old q) → known (told qs bs ++ old) q ≡ whole → known (told ps truths ++ new) q ≡ whole
truth_put p q truth qs ps bs truths old new whole a b e h =
    truth_next p q truth ps truths old new whole e (sym (λ i. known (told (a i) (b i) ++ old) q) ∙ h)

-- nothing is left of one of two lists
pub no_pair : (ps : List Probe) (truths : List Bool) → (length ps ≡ 0) ⊎ (length truths ≡ 0) → zip ps truths ≡ []
no_pair [] truths h = refl
no_pair (p ∷ ps) [] h = refl
no_pair (p ∷ ps) (truth ∷ truths) (inl h) = absurd (omega arith)
no_pair (p ∷ ps) (truth ∷ truths) (inr h) = absurd (omega arith)

pub all_put : (q : Probe) (ps : List Probe) (truths : List Bool) (es : List Entry) (whole : Option Bool) → zip ps truths ≡ [] → known (told ps truths ++ es) q ≡ whole → known es q ≡ whole
all_put q ps truths es whole e h = sym (ap (λ z. known (reverse z ++ es) q) e) ∙ h

pub learned_one : (old : List Entry) (probes : List Probe) (truths : List Bool) (held next : List Entry) (p : Probe) (truth : Bool) (qs ps : List Probe) (bs ts : List Bool)
    → qs ≡ p ∷ ps → bs ≡ truth ∷ ts → next ≡ take 4096 ((p, truth) ∷ held) → Learning old probes truths held qs bs → Learning old probes truths next ps ts
learned_one old probes truths held next p truth qs ps bs ts a b n h =
    subst (λ es. Learning old probes truths es ps ts) (sym n) (learning_goes_on old probes truths held p truth ps ts (subst (λ xs. Learning old probes truths held xs (truth ∷ ts)) a (subst (λ ys. Learning old probes truths held qs ys) b h)))

pub first_is_new : (old : List Entry) (probes : List Probe) (truths : List Bool) (held : List Entry) (p : Probe) (qs ps : List Probe) (ts : List Bool) → qs ≡ p ∷ ps → Learning old probes truths held qs ts → is_held held p ≡ false
first_is_new old probes truths held p qs ps ts a h = next_is_new old probes truths held p ps ts (subst (λ xs. Learning old probes truths held xs ts) a h)

pub learning_starts : (old : List Entry) (probes qs : List Probe) (truths bs : List Bool) → qs ≡ probes → bs ≡ truths → length old ≤ 4096 → AllPairs ◌≢◌ probes → All (λ p. is_held old p ≡ false) probes → Learning old probes truths old qs bs
learning_starts old probes qs truths bs a b few apart news =
    subst (λ xs. Learning old probes truths old xs bs) (sym a) (subst (λ ys. Learning old probes truths old probes ys) (sym b) (learning_begins old probes truths few apart news))

pub on_err : {A E : Type 0} (r : Result A E) (P : Type 0) → P → OnErr r P
on_err (Ok x) P h = tt
on_err (Err e) P h = h
