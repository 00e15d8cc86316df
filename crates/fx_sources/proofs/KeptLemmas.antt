-- Probes and choices where some members are left out.
use Rattle.std.proofs.Common.{◌≡◌, ◌≢◌, ◌∙◌, ap, sym, subst, refl, ℕ, zero, suc, ◌+◌, ◌-◌, ◌<◌, Bool, true, false, cond, not, ◌&&◌, List, [], ◌∷◌, ◌++◌, map, length, replicate, arith, append_assoc, All, AllPairs, Some, None, slice_get, inl, inr}
use Rattle.std.specs.Prelude.{filter}
use Rattle.std.specs.List.{AllByRecursion, flat_map, range_with_len}
use Rattle.std.proofs.lemmas.List.Elements.{All-from_recursion}
use Rattle.fx_terms.specs.declared.patterns.Pattern.{Pattern}
use Rattle.fx_terms.proofs.SetLemmas.{Among}
use Rattle.fx_algebra.specs.Units.{fits, graph_of, sources, is_kept, of_kept, AreAllKept}
use Rattle.fx_algebra.specs.declared.queries.Query.{Query}
use Rattle.fx_algebra.proofs.KeptLemmas.{filter_both, kept_sources}
use Rattle.fx_algebra.proofs.MemberLemmas.{IsOnce, pairs_differ, among_flat_map, among_map}
use Rattle.fx_keys.specs.Probes.{probe, key_of}
use Rattle.fx_keys.specs.declared.keys.AskKey.{AskKey}
use Rattle.fx_keys.specs.declared.probes.Probe.{Probe}
use Rattle.fx_sources.specs.Patterns.{patterns}
use Rattle.fx_sources.specs.Probes.{Entry, known, is_held, is_yes, told, keys_of, missing, missing_at, members_of, chosen, kept_probes, kept_members}
use Rattle.fx_sources.specs.Sources.{ChoosesKeptSources, AllProbesAreKept, AllChosenAreKept}
use Rattle.fx_sources.proofs.EntryLemmas.{range_next}
use Rattle.fx_sources.proofs.SourceLemmas.{all_from, map_among, filter_among, in_filter, from_filter, once_filter, in_missing, below_missing, member_is, once_missing, below_members, is_added, held_before, held_behind, told_held, source_is, told_tells}

-- ---- marks

-- so many marks of yes keep so many members
pub replicate_kept : (n : ℕ) → AreAllKept (replicate n true) n
replicate_kept zero at within = absurd (omega arith)
replicate_kept (suc n) zero within = refl
replicate_kept (suc n) (suc at) within = replicate_kept n at (omega arith)

pub all_kept_by : (kept marks : List Bool) (members count : ℕ) → kept ≡ marks → members ≡ count → AreAllKept marks members → AreAllKept kept count
all_kept_by kept marks members count e f all = subst (λ (v : List Bool). AreAllKept v count) (sym e) (subst (AreAllKept marks) f all)

-- what a list of marks has at a number
pub mark_is : (kept : List Bool) (at : ℕ) (mark : Bool) → Some mark ≡ slice_get kept at → mark ≡ is_kept kept at
mark_is [] at mark e = cc
mark_is (k ∷ kept) zero mark e = cc
mark_is (k ∷ kept) (suc at) mark e = mark_is kept at mark e

pub no_mark : (kept : List Bool) (at : ℕ) → None ≡ slice_get kept at → false ≡ is_kept kept at
no_mark [] at e = refl
no_mark (k ∷ kept) zero e = cc
no_mark (k ∷ kept) (suc at) e = no_mark kept at e

-- ---- lists

module _ {X : Type 0} (test : X → Bool) where
  -- what all or none of a list passes
  filter_all : (b : Bool) (xs : List X) → ((x : X) → Among x xs → test x ≡ b) → filter test xs ≡ cond b xs []
  filter_all true [] each = refl
  filter_all false [] each = refl
  filter_all true (x ∷ xs) each = let rest = filter_all true xs (λ y m. each y (inr m)) in λ i. cond (each x (inl refl) i) (x ∷ rest i) (rest i)
  filter_all false (x ∷ xs) each = let rest = filter_all false xs (λ y m. each y (inr m)) in λ i. cond (each x (inl refl) i) (x ∷ rest i) (rest i)

  append_if : (b : Bool) (x : X) (xs ys zs : List X) → xs ≡ ys ++ zs → cond b (x ∷ xs) xs ≡ cond b (x ∷ ys) ys ++ zs
  append_if true x xs ys zs e = ap (λ r. x ∷ r) e
  append_if false x xs ys zs e = e

  filter_append : (xs ys : List X) → filter test (xs ++ ys) ≡ filter test xs ++ filter test ys
  filter_append [] ys = refl
  filter_append (x ∷ xs) ys = append_if (test x) x (filter test (xs ++ ys)) (filter test xs) (filter test ys) (filter_append xs ys)

append_nothing : {X : Type 0} (xs : List X) → xs ++ [] ≡ xs
append_nothing [] = refl
append_nothing (x ∷ xs) = ap (λ r. x ∷ r) (append_nothing xs)

map_twice : {X Y Z : Type 0} (f : X → Y) (g : Y → Z) (xs : List X) → map (λ x. g (f x)) xs ≡ map g (map f xs)
map_twice f g [] = refl
map_twice f g (x ∷ xs) = ap (λ r. g (f x) ∷ r) (map_twice f g xs)

-- ---- probes

-- those of one member are kept where it is
probes_at : (kept : List Bool) (entries : List Entry) (keys : List AskKey) (at : ℕ) → kept_probes kept (missing_at entries keys at) ≡ cond (is_kept kept at) (missing_at entries keys at) []
probes_at kept entries keys at =
    filter_all (λ (p : Probe). is_kept kept p.at) (is_kept kept at) (missing_at entries keys at) (λ p m. ap (is_kept kept) (sym (member_is entries keys at p m)))

pub probes_kept : (kept : List Bool) (entries : List Entry) (keys : List AskKey) (at : ℕ) (old next : List Probe) → is_kept kept at ≡ true
    → next ≡ old ++ missing_at entries keys at → next ≡ old ++ kept_probes kept (missing_at entries keys at)
probes_kept kept entries keys at old next is e =
    e ∙ ap (λ ps. old ++ ps) (sym (probes_at kept entries keys at ∙ ap (λ b. cond b (missing_at entries keys at) []) is))

pub probes_left : (kept : List Bool) (entries : List Entry) (keys : List AskKey) (at : ℕ) (old : List Probe) → is_kept kept at ≡ false
    → old ≡ old ++ kept_probes kept (missing_at entries keys at)
probes_left kept entries keys at old is =
    sym (append_nothing old) ∙ ap (λ ps. old ++ ps) (sym (probes_at kept entries keys at ∙ ap (λ b. cond b (missing_at entries keys at) []) is))

-- what one number more gives, behind what was given before
pub more_kept : (kept : List Bool) (f : ℕ → List Probe) (done next whole : List Probe) (at end : ℕ) → at < end → next ≡ done ++ kept_probes kept (f at)
    → done ++ kept_probes kept (flat_map f (range_with_len at (end - at))) ≡ whole → next ++ kept_probes kept (flat_map f (range_with_len (at + 1) (end - (at + 1)))) ≡ whole
more_kept kept f done next whole at end lt e h =
    let rest = flat_map f (range_with_len (at + 1) (end - (at + 1))) in
    ap (λ ps. ps ++ kept_probes kept rest) e
    ∙ append_assoc done (kept_probes kept (f at)) (kept_probes kept rest)
    ∙ ap (λ ps. done ++ ps) (sym (filter_append (λ (p : Probe). is_kept kept p.at) (f at) rest))
    ∙ ap (λ numbers. done ++ kept_probes kept (flat_map f numbers)) (sym (range_next at end lt))
    ∙ h

module _ (query : Query) (members : ℕ) (entries : List Entry) (kept : List Bool) (ps : List Probe) (is : ps ≡ kept_probes kept (missing query members entries)) where
  among_missing : (p : Probe) → Among p ps → Among p (missing query members entries)
  among_missing p m = (from_filter (λ (q : Probe). is_kept kept q.at) p (missing query members entries) (subst (λ (v : List Probe). Among p v) is m)).0

  -- the missing probes of kept members stand once, are not held, and their members are those of the registry
  pub kept_distinct : AllPairs ◌≢◌ ps
  kept_distinct = pairs_differ ps (subst (λ (v : List Probe). IsOnce v) (sym is) (once_filter (λ (p : Probe). is_kept kept p.at) (missing query members entries) (once_missing query members entries)))

  pub kept_new : All (λ p. is_held entries p ≡ false) ps
  kept_new = All-from_recursion (λ p. is_held entries p ≡ false) ps (all_from (λ p. is_held entries p ≡ false) ps (λ p m. in_missing query members entries p (among_missing p m)))

  pub kept_within : All (λ p. p.at < members) ps
  kept_within = All-from_recursion (λ p. p.at < members) ps (all_from (λ p. p.at < members) ps (λ p m. below_missing query members entries p (among_missing p m)))

-- ---- members

-- the members that are chosen by one test, of which some are kept
pub both_tests : (kept : List Bool) (entries : List Entry) (members : ℕ) (k : AskKey)
    → filter (λ at. is_yes (known entries (probe at k)) && is_kept kept at) (range_with_len 0 members) ≡ kept_members kept (members_of entries members k)
both_tests kept entries members k = filter_both (λ at. is_yes (known entries (probe at k))) (is_kept kept) (range_with_len 0 members)

-- for each pattern
pub kept_of_each : (kept : List Bool) (entries : List Entry) (members : ℕ) (ps : List Pattern)
    → map (λ p. kept_members kept (members_of entries members (key_of p))) ps ≡ map (kept_members kept) (map (λ p. members_of entries members (key_of p)) ps)
kept_of_each kept entries members ps = map_twice (λ p. members_of entries members (key_of p)) (kept_members kept) ps

each_within : (kept : List Bool) (entries : List Entry) (members : ℕ) (ps : List Pattern) → AllByRecursion (All (λ at. at < members)) (map (kept_members kept) (map (λ p. members_of entries members (key_of p)) ps))
each_within kept entries members [] = tt
each_within kept entries members (p ∷ ps) =
    let here = members_of entries members (key_of p) in (
      All-from_recursion (λ at. at < members) (kept_members kept here)
          (all_from (λ at. at < members) (kept_members kept here) (λ at m. below_members entries members (key_of p) at (from_filter (is_kept kept) at here m).0)),
      each_within kept entries members ps,
    )

-- what is chosen of them is of the registry
pub kept_choice_within : (query : Query) (kept : List Bool) (members : ℕ) (entries : List Entry) (found : List (List ℕ)) → found ≡ map (kept_members kept) (chosen query members entries) → All (All (λ at. at < members)) found
kept_choice_within query kept members entries found e =
    subst (All (All (λ at. at < members))) (sym e)
    (All-from_recursion (All (λ at. at < members)) (map (kept_members kept) (chosen query members entries)) (each_within kept entries members (patterns query)))

-- ---- the sources over what is kept

and_alike : (a b c : Bool) → (c ≡ true → a ≡ b) → a && c ≡ b && c
and_alike a b true same = ap (λ v. v && true) (same refl)
and_alike true true false same = refl
and_alike true false false same = refl
and_alike false true false same = refl
and_alike false false false same = refl

-- tests that say the same of what is kept
kept_alike : (kept : List Bool) (f g : ℕ → Bool) (xs : List ℕ) → ((x : ℕ) → Among x xs → is_kept kept x ≡ true → f x ≡ g x) → kept_members kept (filter f xs) ≡ kept_members kept (filter g xs)
kept_alike kept f g xs same =
    sym (filter_both f (is_kept kept) xs)
    ∙ filter_among (λ x. f x && is_kept kept x) (λ x. g x && is_kept kept x) xs (λ x m. and_alike (f x) (g x) (is_kept kept x) (same x m))
    ∙ filter_both g (is_kept kept) xs

module _ (query : Query) (kept : List Bool) (members : ℕ) (entries : List Entry) (truths : List Bool) (long : length truths ≡ length (kept_probes kept (missing query members entries))) where
  answered : List Entry
  answered = told (kept_probes kept (missing query members entries)) truths ++ entries

  known_at : (at : ℕ) (k : AskKey) (b : Bool) → is_held entries (probe at k) ≡ b → is_kept kept at ≡ true → Among at (range_with_len 0 members) → Among k (keys_of query) → is_held answered (probe at k) ≡ true
  unfolding answered
  known_at at k true e is m n = held_behind (told (kept_probes kept (missing query members entries)) truths) entries (probe at k) e
  known_at at k false e is m n =
      held_before (told (kept_probes kept (missing query members entries)) truths) entries (probe at k)
      (told_held (probe at k) (kept_probes kept (missing query members entries)) truths long
      (in_filter (λ (p : Probe). is_kept kept p.at) (probe at k) (missing query members entries)
      (among_flat_map (missing_at entries (keys_of query)) at (probe at k) (range_with_len 0 members) m
      (in_filter (λ q. not (is_held entries q)) (probe at k) (map (probe at) (keys_of query)) (among_map (probe at) k (keys_of query) n) (ap not e)))
      is))

  -- each kept member is known to answer to each key
  known_of_kept : (at : ℕ) (p : Pattern) → is_kept kept at ≡ true → Among at (range_with_len 0 members) → Among p (patterns query) → is_held answered (probe at (key_of p)) ≡ true
  known_of_kept at p is m n = known_at at (key_of p) (is_held entries (probe at (key_of p))) refl is m (is_added (key_of p) (map key_of (patterns query)) [] (among_map key_of p (patterns query) n))

pub chooses_kept : ChoosesKeptSources
unfolding answered
chooses_kept query kept graphs entries truths long held answers =
    let members = length graphs in
    let probes = kept_probes kept (missing query members entries) in
    let es = told probes truths ++ entries in
    let tells = told_tells graphs entries probes truths held answers in
    sym (kept_of_each kept es members (patterns query))
    ∙ map_among (λ p. kept_members kept (members_of es members (key_of p))) (sources (of_kept kept graphs)) (patterns query)
    (λ p n.
    kept_alike kept (λ at. is_yes (known es (probe at (key_of p)))) (λ at. fits p (graph_of graphs at)) (range_with_len 0 members)
    (λ at m is. source_is graphs es at p tells (known_of_kept query kept members entries truths long at p is m n))
    ∙ sym (kept_sources kept graphs p))

-- ---- all are kept

pub all_probes_kept : AllProbesAreKept
all_probes_kept query kept members entries all =
    filter_all (λ (p : Probe). is_kept kept p.at) true (missing query members entries) (λ p m. all p.at (below_missing query members entries p m))

each_kept : (kept : List Bool) (members : ℕ) (entries : List Entry) (ps : List Pattern) → AreAllKept kept members
    → map (kept_members kept) (map (λ p. members_of entries members (key_of p)) ps) ≡ map (λ p. members_of entries members (key_of p)) ps
each_kept kept members entries [] all = refl
each_kept kept members entries (p ∷ ps) all =
    let here = members_of entries members (key_of p) in
    let one : kept_members kept here ≡ here = filter_all (is_kept kept) true here (λ at m. all at (below_members entries members (key_of p) at m)) in
    let rest = each_kept kept members entries ps all in
    λ i. one i ∷ rest i

pub all_chosen_kept : AllChosenAreKept
all_chosen_kept query kept members entries all = each_kept kept members entries (patterns query) all
