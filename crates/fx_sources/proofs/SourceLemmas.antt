-- The probes that are missing are new and stand once, and true answers to them choose the sources.
use Rattle.std.proofs.Common.{◌≡◌, ◌≢◌, ◌∙◌, ap, sym, subst, refl, ℕ, zero, suc, ◌+◌, ◌≤◌, ◌<◌, Bool, true, false, cond, not, ◌||◌, List, [], ◌∷◌, ◌++◌, map, length, arith, Option, Some, is_some, ◌⊎◌, inl, inr}
use Rattle.std.specs.Prelude.{All, AllPairs, Contains, filter, fold}
use mathlib.Core.List.{reverse_aux}
use Rattle.std.specs.List.{AllByRecursion, flat_map, list_any, range_with_len, zip}
use Rattle.std.proofs.lemmas.List.Elements.{All-from_recursion, All-take, recursion_from_All}
use Rattle.fx_terms.specs.declared.triples.Triple.{Triple}
use Rattle.fx_terms.specs.declared.patterns.Pattern.{Pattern}
use Rattle.fx_terms.proofs.SetLemmas.{Among}
use Rattle.fx_algebra.specs.declared.queries.Query.{Query}
use Rattle.fx_algebra.proofs.MemberLemmas.{IsOnce, pairs_differ, once_append, once_map, among_left, among_right, among_map, among_from_map, among_flat_map, among_from_flat_map}
use Rattle.fx_keys.specs.Probes.{same_key, same_probe, keys_decide, probes_decide, probe, key_of}
use Rattle.fx_keys.specs.declared.keys.AskKey.{AskKey}
use Rattle.fx_keys.specs.declared.probes.Probe.{Probe}
use Rattle.fx_sources.specs.Patterns.{patterns}
use Rattle.fx_sources.specs.Probes.{Entry, known, is_held, is_yes, told, learned, with_key, keys_of, missing, missing_at, members_of, chosen}
use Rattle.fx_algebra.specs.Units.{fits, graph_of, sources}
use Rattle.fx_sources.specs.Sources.{Tells, ChoosesSources}
use Rattle.fx_sources.proofs.KeyLemmas.{key_fits}

-- ---- lists

pub all_from : {X : Type 0} (P : X → Type 0) (xs : List X) → ((x : X) → Among x xs → P x) → AllByRecursion P xs
all_from P [] f = tt
all_from P (x ∷ xs) f = (f x (inl refl), all_from P xs (λ y m. f y (inr m)))

all_append : {X : Type 0} (P : X → Type 0) (xs ys : List X) → AllByRecursion P xs → AllByRecursion P ys → AllByRecursion P (xs ++ ys)
all_append P [] ys h k = k
all_append P (x ∷ xs) ys h k = (h.0, all_append P xs ys h.1 k)

pub map_among : {X Y : Type 0} (f g : X → Y) (xs : List X) → ((x : X) → Among x xs → f x ≡ g x) → map f xs ≡ map g xs
map_among f g [] same = refl
map_among f g (x ∷ xs) same = λ i. same x (inl refl) i ∷ map_among f g xs (λ y m. same y (inr m)) i

pub filter_among : (f g : ℕ → Bool) (xs : List ℕ) → ((x : ℕ) → Among x xs → f x ≡ g x) → filter f xs ≡ filter g xs
filter_among f g [] same = refl
filter_among f g (x ∷ xs) same = λ i. cond (same x (inl refl) i) (x ∷ filter_among f g xs (λ y m. same y (inr m)) i) (filter_among f g xs (λ y m. same y (inr m)) i)

module _ {X : Type 0} where
  in_if : (x y : X) (b : Bool) (rest : List X) → Among y rest → Among y (cond b (x ∷ rest) rest)
  in_if x y true rest m = inr m
  in_if x y false rest m = m

  here_if : (x y : X) (b : Bool) (rest : List X) → x ≡ y → b ≡ true → Among y (cond b (x ∷ rest) rest)
  here_if x y true rest e h = inl e
  here_if x y false rest e h = cc

  pub in_filter : (test : X → Bool) (y : X) (xs : List X) → Among y xs → test y ≡ true → Among y (filter test xs)
  in_filter test y [] m h = absurd m
  in_filter test y (x ∷ xs) (inl e) h = here_if x y (test x) (filter test xs) e (ap test e ∙ h)
  in_filter test y (x ∷ xs) (inr m) h = in_if x y (test x) (filter test xs) (in_filter test y xs m h)

  from_if : (test : X → Bool) (x y : X) (b : Bool) (xs rest : List X) → test x ≡ b → (Among y rest → Among y xs × (test y ≡ true)) → Among y (cond b (x ∷ rest) rest) → Among y (x ∷ xs) × (test y ≡ true)
  from_if test x y true xs rest h f (inl e) = (inl e, ap test (sym e) ∙ h)
  from_if test x y true xs rest h f (inr m) = let r = f m in (inr r.0, r.1)
  from_if test x y false xs rest h f m = let r = f m in (inr r.0, r.1)

  pub from_filter : (test : X → Bool) (y : X) (xs : List X) → Among y (filter test xs) → Among y xs × (test y ≡ true)
  from_filter test y [] m = absurd m
  from_filter test y (x ∷ xs) m = from_if test x y (test x) xs (filter test xs) refl (from_filter test y xs) m

  once_if : (x : X) (b : Bool) (rest : List X) → (Among x rest → ⊥) → IsOnce rest → IsOnce (cond b (x ∷ rest) rest)
  once_if x true rest new h = (new, h)
  once_if x false rest new h = h

  pub once_filter : (test : X → Bool) (xs : List X) → IsOnce xs → IsOnce (filter test xs)
  once_filter test [] h = tt
  once_filter test (x ∷ xs) h = once_if x (test x) (filter test xs) (λ m. h.0 (from_filter test x xs m).0) (once_filter test xs h.1)

  all_reversed : (P : X → Type 0) (xs ys : List X) → AllByRecursion P xs → AllByRecursion P ys → AllByRecursion P (reverse_aux xs ys)
  all_reversed P [] ys h k = k
  all_reversed P (x ∷ xs) ys h k = all_reversed P xs (x ∷ ys) h.1 (h.0, k)

  aux_right : (x : X) (xs ys : List X) → Among x ys → Among x (reverse_aux xs ys)
  aux_right x [] ys m = m
  aux_right x (z ∷ zs) ys m = aux_right x zs (z ∷ ys) (inr m)

  aux_left : (x : X) (xs ys : List X) → Among x xs → Among x (reverse_aux xs ys)
  aux_left x [] ys m = absurd m
  aux_left x (z ∷ zs) ys (inl e) = aux_right x zs (z ∷ ys) (inl e)
  aux_left x (z ∷ zs) ys (inr m) = aux_left x zs (z ∷ ys) m

-- numbers from a on
range_above : (a n x : ℕ) → Among x (range_with_len a n) → a ≤ x
range_above a zero x m = absurd m
range_above a (suc n) x (inl e) = omega arith
range_above a (suc n) x (inr m) = let h = range_above (a + 1) n x m in omega arith

-- each number is below all later ones
abbrev pub Rises : List ℕ → Type 0
Rises [] = Unit {0}
Rises (x ∷ xs) = AllByRecursion (λ y. x < y) xs × Rises xs

range_below : (a n x : ℕ) → Among x (range_with_len a n) → x < a + n
range_below a zero x m = absurd m
range_below a (suc n) x (inl e) = omega arith
range_below a (suc n) x (inr m) = let h = range_below (a + 1) n x m in omega arith

range_once : (a n : ℕ) → IsOnce (range_with_len a n)
range_once a zero = tt
range_once a (suc n) = (λ m. let h = range_above (a + 1) n a m in omega arith, range_once (a + 1) n)

once_flat : (f : ℕ → List Probe) (xs : List ℕ) → IsOnce xs → ((x : ℕ) → IsOnce (f x)) → ((x y : ℕ) (p : Probe) → Among p (f x) → Among p (f y) → x ≡ y) → IsOnce (flat_map f xs)
once_flat f [] h each apart = tt
once_flat f (x ∷ xs) h each apart =
    once_append (f x) (flat_map f xs) (each x) (once_flat f xs h.1 each apart)
    (λ p m n. let t = among_from_flat_map f p xs n in h.0 (subst (λ (v : ℕ). Among v xs) (apart t.0 x p t.2 m) t.1))

-- ---- keys

any_at : (a k : AskKey) (rest : List AskKey) (b : Bool) → same_key a k ≡ b → (b || list_any (same_key a) rest) ≡ true → (list_any (same_key a) rest ≡ true → Among a rest) → Among a (k ∷ rest)
any_at a k rest true e h f = inl (sym ((keys_decide a k).0 e))
any_at a k rest false e h f = inr (f h)

any_among : (a : AskKey) (ks : List AskKey) → list_any (same_key a) ks ≡ true → Among a ks
any_among a [] h = cc
any_among a (k ∷ ks) h = any_at a k ks (same_key a k) refl h (any_among a ks)

or_either : (b c : Bool) → (b ≡ true) ⊎ (c ≡ true) → (b || c) ≡ true
or_either true c h = refl
or_either false c (inl e) = cc
or_either false c (inr e) = e

among_any : (a : AskKey) (ks : List AskKey) → Among a ks → list_any (same_key a) ks ≡ true
among_any a [] m = absurd m
among_any a (k ∷ ks) (inl e) = or_either (same_key a k) (list_any (same_key a) ks) (inl ((keys_decide a k).1 (sym e)))
among_any a (k ∷ ks) (inr m) = or_either (same_key a k) (list_any (same_key a) ks) (inr (among_any a ks m))

stays_if : (a k : AskKey) (ks : List AskKey) (b : Bool) → Among a ks → Among a (cond b ks (ks ++ k ∷ []))
stays_if a k ks true m = m
stays_if a k ks false m = among_left a ks (k ∷ []) m

stays : (a : AskKey) (more ks : List AskKey) → Among a ks → Among a (fold with_key ks more)
stays a [] ks m = m
stays a (k ∷ more) ks m = stays a more (with_key ks k) (stays_if a k ks (list_any (same_key k) ks) m)

there_if : (k : AskKey) (ks : List AskKey) (b : Bool) → list_any (same_key k) ks ≡ b → Among k (cond b ks (ks ++ k ∷ []))
there_if k ks true e = any_among k ks e
there_if k ks false e = among_right k ks (k ∷ []) (inl refl)

pub is_added : (a : AskKey) (more ks : List AskKey) → Among a more → Among a (fold with_key ks more)
is_added a [] ks m = absurd m
is_added a (k ∷ more) ks (inl e) = stays a more (with_key ks k) (subst (λ (v : AskKey). Among v (with_key ks k)) e (there_if k ks (list_any (same_key k) ks) refl))
is_added a (k ∷ more) ks (inr m) = is_added a more (with_key ks k) m

once_with : (k : AskKey) (ks : List AskKey) (b : Bool) → list_any (same_key k) ks ≡ b → IsOnce ks → IsOnce (cond b ks (ks ++ k ∷ []))
once_with k ks true e h = h
once_with k ks false e h = once_append ks (k ∷ []) h ((λ m. m), tt) apart
  where
    apart : (x : AskKey) → Among x ks → Among x (k ∷ []) → ⊥
    apart x m (inl same) = let yes : list_any (same_key k) ks ≡ true = among_any k ks (subst (λ (v : AskKey). Among v ks) (sym same) m) in absurd (cc)
    apart x m (inr n) = n

once_keys : (more ks : List AskKey) → IsOnce ks → IsOnce (fold with_key ks more)
once_keys [] ks h = h
once_keys (k ∷ more) ks h = once_keys more (with_key ks k) (once_with k ks (list_any (same_key k) ks) refl h)

-- ---- what is missing

not_true : (b : Bool) → not b ≡ true → b ≡ false
not_true true h = cc
not_true false h = refl

pub in_missing : (query : Query) (members : ℕ) (entries : List Entry) (p : Probe) → Among p (missing query members entries) → is_held entries p ≡ false
in_missing query members entries p m =
    let t = among_from_flat_map (missing_at entries (keys_of query)) p (range_with_len 0 members) m in
    not_true (is_held entries p) (from_filter (λ q. not (is_held entries q)) p (map (probe t.0) (keys_of query)) t.2).1

pub member_is : (entries : List Entry) (keys : List AskKey) (at : ℕ) (p : Probe) → Among p (missing_at entries keys at) → at ≡ p.at
member_is entries keys at p m =
    let t = among_from_map (probe at) p keys (from_filter (λ q. not (is_held entries q)) p (map (probe at) keys) m).0 in
    ap (λ q. q.at) t.2

pub once_missing : (query : Query) (members : ℕ) (entries : List Entry) → IsOnce (missing query members entries)
once_missing query members entries =
    let keys = keys_of query in
    once_flat (missing_at entries keys) (range_with_len 0 members) (range_once 0 members)
    (λ at. once_filter (λ q. not (is_held entries q)) (map (probe at) keys) (once_map (probe at) (λ a b e. ap (λ q. q.key) e) keys (once_keys (map key_of (patterns query)) [] tt)))
    (λ x y p m n. member_is entries keys x p m ∙ sym (member_is entries keys y p n))

-- the missing probes stand once
pub missing_distinct : (query : Query) (members : ℕ) (entries : List Entry) (ps : List Probe) → ps ≡ missing query members entries → AllPairs ◌≢◌ ps
missing_distinct query members entries ps e = pairs_differ ps (subst (λ (v : List Probe). IsOnce v) (sym e) (once_missing query members entries))

-- and are not held
pub missing_new : (query : Query) (members : ℕ) (entries : List Entry) (ps : List Probe) → ps ≡ missing query members entries → All (λ p. is_held entries p ≡ false) ps
missing_new query members entries ps e =
    All-from_recursion (λ p. is_held entries p ≡ false) ps
    (all_from (λ p. is_held entries p ≡ false) ps (λ p m. in_missing query members entries p (subst (λ (v : List Probe). Among p v) e m)))

pub below_missing : (query : Query) (members : ℕ) (entries : List Entry) (p : Probe) → Among p (missing query members entries) → p.at < members
below_missing query members entries p m =
    let t = among_from_flat_map (missing_at entries (keys_of query)) p (range_with_len 0 members) m in
    let low = range_below 0 members t.0 t.1 in
    let same = member_is entries (keys_of query) t.0 p t.2 in
    omega arith

-- and their members are those of the registry
pub missing_within : (query : Query) (members : ℕ) (entries : List Entry) (ps : List Probe) → ps ≡ missing query members entries → All (λ p. p.at < members) ps
missing_within query members entries ps e =
    All-from_recursion (λ p. p.at < members) ps
    (all_from (λ p. p.at < members) ps (λ p m. below_missing query members entries p (subst (λ (v : List Probe). Among p v) e m)))

pub below_members : (entries : List Entry) (members : ℕ) (k : AskKey) (at : ℕ) → Among at (members_of entries members k) → at < members
below_members entries members k at m =
    let low = range_below 0 members at (from_filter (λ x. is_yes (known entries (probe x k))) at (range_with_len 0 members) m).0 in
    omega arith

members_within : (entries : List Entry) (members : ℕ) (k : AskKey) → All (λ at. at < members) (members_of entries members k)
members_within entries members k = All-from_recursion (λ at. at < members) (members_of entries members k) (all_from (λ at. at < members) (members_of entries members k) (below_members entries members k))

-- and rise by number
rises_if : (x : ℕ) (b : Bool) (rest : List ℕ) → ((y : ℕ) → Among y rest → x < y) → Rises rest → Rises (cond b (x ∷ rest) rest)
rises_if x true rest above h = (all_from (λ y. x < y) rest above, h)
rises_if x false rest above h = h

rises_filter : (test : ℕ → Bool) (a n : ℕ) → Rises (filter test (range_with_len a n))
rises_filter test a zero = tt
rises_filter test a (suc n) =
    rises_if a (test a) (filter test (range_with_len (a + 1) n))
    (λ y m. let low = range_above (a + 1) n y (from_filter test y (range_with_len (a + 1) n) m).0 in omega arith)
    (rises_filter test (a + 1) n)

pub members_rise : (entries : List Entry) (members : ℕ) (k : AskKey) → Rises (members_of entries members k)
members_rise entries members k = rises_filter (λ at. is_yes (known entries (probe at k))) 0 members

chosen_within : (entries : List Entry) (members : ℕ) (ps : List Pattern) → AllByRecursion (All (λ at. at < members)) (map (λ p. members_of entries members (key_of p)) ps)
chosen_within entries members [] = tt
chosen_within entries members (p ∷ ps) = (members_within entries members (key_of p), chosen_within entries members ps)

-- the chosen members too
pub choice_within : (query : Query) (members : ℕ) (entries : List Entry) (found : List (List ℕ)) → found ≡ chosen query members entries → All (All (λ at. at < members)) found
choice_within query members entries found e =
    subst (All (All (λ at. at < members))) (sym e) (All-from_recursion (All (λ at. at < members)) (chosen query members entries) (chosen_within entries members (patterns query)))

-- ---- what is known with the answers

held_if : (b x : Bool) (o r : Option Bool) → (is_some o ≡ true → is_some r ≡ true) → is_some (cond b (Some x) o) ≡ true → is_some (cond b (Some x) r) ≡ true
held_if true x o r f h = refl
held_if false x o r f h = f h

pub held_before : (a b : List Entry) (p : Probe) → is_held a p ≡ true → is_held (a ++ b) p ≡ true
held_before [] b p h = cc
held_before (e ∷ a) b p h = held_if (same_probe p e.0) e.1 (known a p) (known (a ++ b) p) (held_before a b p) h

held_later : (b x : Bool) (o : Option Bool) → is_some o ≡ true → is_some (cond b (Some x) o) ≡ true
held_later true x o h = refl
held_later false x o h = h

pub held_behind : (a b : List Entry) (p : Probe) → is_held b p ≡ true → is_held (a ++ b) p ≡ true
held_behind [] b p h = h
held_behind (e ∷ a) b p h = held_later (same_probe p e.0) e.1 (known (a ++ b) p) (held_behind a b p h)

held_here : (b x : Bool) (o : Option Bool) → b ≡ true → is_some (cond b (Some x) o) ≡ true
held_here true x o h = refl
held_here false x o h = cc

held_among : (p : Probe) (truth : Bool) (es : List Entry) → Among (p, truth) es → is_held es p ≡ true
held_among p truth [] m = absurd m
held_among p truth (e ∷ es) (inl same) = held_here (same_probe p e.0) e.1 (known es p) ((probes_decide p e.0).1 (sym (ap (λ (f : Entry). f.0) same)))
held_among p truth (e ∷ es) (inr m) = held_later (same_probe p e.0) e.1 (known es p) (held_among p truth es m)

among_zip : (p : Probe) (ps : List Probe) (truths : List Bool) → length truths ≡ length ps → Among p ps → (truth : Bool) × Among (p, truth) (zip ps truths)
among_zip p [] truths e m = absurd m
among_zip p (q ∷ ps) [] e m = absurd (omega arith)
among_zip p (q ∷ ps) (truth ∷ truths) e (inl same) = (truth, inl (ap (λ (v : Probe). (v, truth)) same))
among_zip p (q ∷ ps) (truth ∷ truths) e (inr m) = let t = among_zip p ps truths (omega arith) m in (t.0, inr t.1)

pub told_held : (p : Probe) (ps : List Probe) (truths : List Bool) → length truths ≡ length ps → Among p ps → is_held (told ps truths) p ≡ true
told_held p ps truths e m = let t = among_zip p ps truths e m in held_among p t.0 (told ps truths) (aux_left (p, t.0) (zip ps truths) [] t.1)

module _ (query : Query) (members : ℕ) (entries : List Entry) (truths : List Bool) (long : length truths ≡ length (missing query members entries)) where
  all : List Entry
  all = told (missing query members entries) truths ++ entries

  covered_at : (at : ℕ) (k : AskKey) (b : Bool) → is_held entries (probe at k) ≡ b → Among at (range_with_len 0 members) → Among k (keys_of query) → is_held all (probe at k) ≡ true
  unfolding all
  covered_at at k true e m n = held_behind (told (missing query members entries) truths) entries (probe at k) e
  covered_at at k false e m n =
      held_before (told (missing query members entries) truths) entries (probe at k)
      (told_held (probe at k) (missing query members entries) truths long
      (among_flat_map (missing_at entries (keys_of query)) at (probe at k) (range_with_len 0 members) m (in_filter (λ q. not (is_held entries q)) (probe at k) (map (probe at) (keys_of query)) (among_map (probe at) k (keys_of query) n) (ap not e))))

  -- each member is known to answer to each key
  covered : (at : ℕ) (p : Pattern) → Among at (range_with_len 0 members) → Among p (patterns query) → is_held all (probe at (key_of p)) ≡ true
  covered at p m n = covered_at at (key_of p) (is_held entries (probe at (key_of p))) refl m (is_added (key_of p) (map key_of (patterns query)) [] (among_map key_of p (patterns query) n))

-- ---- answers that tell

module _ (graphs : List (List Triple)) where
  truth_of : Probe → Bool
  truth_of p = fits p.key.pattern (graph_of graphs p.at)

  yes_at : (b : Bool) (p : Probe) (e : Entry) (o : Option Bool) → same_probe p e.0 ≡ b → Tells graphs e → is_some (cond b (Some e.1) o) ≡ true → (is_some o ≡ true → is_yes o ≡ truth_of p) → is_yes (cond b (Some e.1) o) ≡ truth_of p
  unfolding truth_of
  yes_at true p e o same tells h f = tells ∙ ap (λ (q : Probe). fits q.key.pattern (graph_of graphs q.at)) (sym ((probes_decide p e.0).0 same))
  yes_at false p e o same tells h f = f h

  yes_is : (p : Probe) (es : List Entry) → AllByRecursion (Tells graphs) es → is_held es p ≡ true → is_yes (known es p) ≡ truth_of p
  yes_is p [] t h = cc
  yes_is p (e ∷ es) t h = yes_at (same_probe p e.0) p e (known es p) refl t.0 h (yes_is p es t.1)

  pub source_is : (es : List Entry) (at : ℕ) (p : Pattern) → AllByRecursion (Tells graphs) es → is_held es (probe at (key_of p)) ≡ true → is_yes (known es (probe at (key_of p))) ≡ fits p (graph_of graphs at)
  unfolding truth_of
  source_is es at p t h = yes_is (probe at (key_of p)) es t h ∙ key_fits p (graph_of graphs at)

  pub told_tells : (entries : List Entry) (ps : List Probe) (truths : List Bool) → All (Tells graphs) entries → All (Tells graphs) (zip ps truths) → AllByRecursion (Tells graphs) (told ps truths ++ entries)
  told_tells entries ps truths held answers =
      all_append (Tells graphs) (told ps truths) entries
      (all_reversed (Tells graphs) (zip ps truths) [] (recursion_from_All (Tells graphs) (zip ps truths) answers) tt)
      (recursion_from_All (Tells graphs) entries held)

  -- what a cache learned of answers that tell tells
  pub learned_tells : (entries : List Entry) (ps : List Probe) (truths : List Bool) → All (Tells graphs) entries → All (Tells graphs) (zip ps truths) → All (Tells graphs) (learned entries ps truths)
  learned_tells entries ps truths held answers = All-take (Tells graphs) 4096 (told ps truths ++ entries) (All-from_recursion (Tells graphs) (told ps truths ++ entries) (told_tells entries ps truths held answers))

  one_of : (es : List Entry) (e : Entry) → All (Tells graphs) es → Contains es e → Tells graphs e
  one_of es e h m = subst (Tells graphs) m.2 (h m.0 e m.1)

  either_tells : (old pairs new : List Entry) → All (Tells graphs) old → All (Tells graphs) pairs → AllByRecursion (λ e. Contains old e ⊎ Contains pairs e) new → AllByRecursion (Tells graphs) new
  either_tells old pairs [] a b h = tt
  either_tells old pairs (e ∷ es) a b h = (pick h.0, either_tells old pairs es a b h.1)
    where
      pick : Contains old e ⊎ Contains pairs e → Tells graphs e
      pick (inl m) = one_of old e a m
      pick (inr m) = one_of pairs e b m

  -- so does what it holds after want of memory
  pub kept_tells : (old pairs new : List Entry) → All (Tells graphs) old → All (Tells graphs) pairs → All (λ e. Contains old e ⊎ Contains pairs e) new → All (Tells graphs) new
  kept_tells old pairs new a b h = All-from_recursion (Tells graphs) new (either_tells old pairs new a b (recursion_from_All (λ e. Contains old e ⊎ Contains pairs e) new h))

pub chooses : ChoosesSources
unfolding all
chooses query graphs entries truths long held answers =
    let members = length graphs in
    let es = told (missing query members entries) truths ++ entries in
    let tells = told_tells graphs entries (missing query members entries) truths held answers in
    map_among (λ p. members_of es members (key_of p)) (sources graphs) (patterns query)
    (λ p n.
    filter_among (λ at. is_yes (known es (probe at (key_of p)))) (λ at. fits p (graph_of graphs at)) (range_with_len 0 members)
    (λ at m. source_is graphs es at p tells (covered query members entries truths long at p m n)))
