-- How many members are left out, and how many occurrences are down, at an address.
use Rattle.std.proofs.Common.{◌≡◌, ◌∙◌, ◌||◌, append_assoc, ap, sym, subst, refl, Option, ℕ, suc, ◌+◌, ◌<◌, ◌≤◌, Bool, true, false, List, [], ◌∷◌, ◌++◌, length, map, Some, IsPermutation, cond, slice_get, arith}
use Rattle.std.specs.Prelude.{◌≢◌, ◌&&◌, bytes_eq, nat_le}
use Rattle.std.specs.List.{AllByRecursion, list_any, sum_by}
use Rattle.std.proofs.lemmas.Bool.{lt-leb}
use Rattle.std.proofs.lemmas.List.{map-append, length-append}
use Rattle.std.proofs.lemmas.List.Elements.{recursion_from_All}
use Rattle.std.proofs.lemmas.List.Sorted.{sum_by-IsPermutation}
use Rattle.std.proofs.lemmas.List.Sums.{sum_by-cons}
use Rattle.std.proofs.lemmas.Slice.Eq.{bytes_eq-Decides}
use Rattle.fx_outside.specs.Endpoints.{EndpointParts}
use Rattle.fx_algebra.specs.declared.queries.Query.{Query}
use Rattle.fx_services.specs.Beside.{Occurrence}
use Rattle.fx_services.specs.Noted.{places}
use Rattle.fx_services.specs.ServicesAsked.{service_text}
use Rattle.fx_services.specs.declared.noted.Down.{Down}
use Rattle.fx_services.specs.declared.noted.DownCause.{DownCause}
use Rattle.fx_services.specs.declared.noted.DownCause.TheVariants as down_cause
use Rattle.fx_wire.specs.Exchanges.{Exchange, Seen}
use Rattle.fx_outcomes.specs.Calls.{AreCalls, Call, Came, HasComeTo, down_from, down_if, down_in, failed, lost, occurrences, told}
use Rattle.fx_outcomes.specs.declared.rounds.Left.{Left}
use Rattle.fx_outcomes.specs.declared.rounds.LeftCause.{LeftCause}
use Rattle.fx_outcomes.specs.declared.rounds.LeftCause.TheVariants as left_cause
use Rattle.fx_rounds.specs.Counts.{LicencesCount, NumbersAreTold, down_event, downs_told, exchanges_at, left_event, lefts_told, may_fail, numbers_at}
use Rattle.fx_rounds.specs.Licences.{Replied, down_bad, down_failure, downs_bad, downs_failed, left_address, left_bad, left_failure, lefts_bad, lefts_failed, replied_in}

-- ---- replies at an address

abbrev replied_at : List ℕ → List Replied → ℕ
replied_at a [] = 0
replied_at a (r ∷ rs) = cond {A = ℕ} (bytes_eq r.address a) 1 0 + replied_at a rs

module _ (a : List ℕ) where
  abbrev is_there : Replied → ℕ
  is_there r = cond {A = ℕ} (bytes_eq r.address a) 1 0

  as_sum : (rs : List Replied) → replied_at a rs ≡ sum_by is_there rs
  as_sum [] = refl
  as_sum (r ∷ rs) = ap (λ (n : ℕ). is_there r + n) (as_sum rs) ∙ sym (sum_by-cons is_there r rs)

  in_any_order : (rs ss : List Replied) → IsPermutation rs ss → replied_at a ss ≡ replied_at a rs
  in_any_order rs ss same = as_sum ss ∙ sum_by-IsPermutation is_there rs ss same ∙ sym (as_sum rs)

  behind : (rs ss : List Replied) → replied_at a (rs ++ ss) ≡ replied_at a rs + replied_at a ss
  behind [] ss = nothing (replied_at a ss)
    where
      nothing : (n : ℕ) → n ≡ 0 + n
      nothing n = omega arith
  behind (r ∷ rs) ss = in_front (is_there r) (replied_at a (rs ++ ss)) (replied_at a rs) (replied_at a ss) (behind rs ss)
    where
      in_front : (m n k l : ℕ) → n ≡ k + l → m + n ≡ (m + k) + l
      in_front m n k l h = omega (arith, h)

  of_exchanges : (xs : List Exchange) → replied_at a (map replied_in xs) ≡ exchanges_at a xs
  of_exchanges [] = refl
  of_exchanges (x ∷ xs) = ap (λ (n : ℕ). cond {A = ℕ} (bytes_eq x.at.iri a) 1 0 + n) (of_exchanges xs)

  -- ---- each failed, or has a bad reply

  none : (b : Bool) → cond {A = ℕ} b 0 0 ≡ 0
  none true = refl
  none false = refl

  failed_one : (m t f r : ℕ) → t ≡ f + r → m + t ≡ (m + f) + r
  failed_one m t f r h = omega (arith, h)

  bad_one : (m t f r z : ℕ) → z ≡ 0 → t ≡ f + r → m + t ≡ (z + f) + (m + r)
  bad_one m t f r z none h = omega (arith, none, h)

  of_left : (b : Bool) (address : List ℕ) (why : LeftCause) (t f : ℕ) (bads : List Replied) → bytes_eq address a ≡ b → t ≡ f + replied_at a bads → cond {A = ℕ} b (left_event why) 0 + t ≡ (cond {A = ℕ} b (left_failure why) 0 + f) + replied_at a (left_bad address why ++ bads)
  of_left b address left_cause.Failed t f bads e h = failed_one (cond {A = ℕ} b 1 0) t f (replied_at a bads) h
  of_left b address (left_cause.Bad bad) t f bads e h =
      subst (λ (c : Bool). cond {A = ℕ} b 1 0 + t ≡ (cond {A = ℕ} b 0 0 + f) + (cond {A = ℕ} c 1 0 + replied_at a bads)) (sym e) (bad_one (cond {A = ℕ} b 1 0) t f (replied_at a bads) (cond {A = ℕ} b 0 0) (none b) h)
  of_left b address (left_cause.TooLong size) t f bads e h = failed_one (cond {A = ℕ} b 0 0) t f (replied_at a bads) h

  of_down : (b : Bool) (address : List ℕ) (why : DownCause) (t f : ℕ) (bads : List Replied) → bytes_eq address a ≡ b → t ≡ f + replied_at a bads → cond {A = ℕ} b (down_event why) 0 + t ≡ (cond {A = ℕ} b (down_failure why) 0 + f) + replied_at a (down_bad address why ++ bads)
  of_down b address down_cause.Failed t f bads e h = failed_one (cond {A = ℕ} b 1 0) t f (replied_at a bads) h
  of_down b address (down_cause.Bad bad) t f bads e h =
      subst (λ (c : Bool). cond {A = ℕ} b 1 0 + t ≡ (cond {A = ℕ} b 0 0 + f) + (cond {A = ℕ} c 1 0 + replied_at a bads)) (sym e) (bad_one (cond {A = ℕ} b 1 0) t f (replied_at a bads) (cond {A = ℕ} b 0 0) (none b) h)
  of_down b address (down_cause.TooLong size) t f bads e h = failed_one (cond {A = ℕ} b 0 0) t f (replied_at a bads) h
  of_down b address down_cause.Unknown t f bads e h = failed_one (cond {A = ℕ} b 0 0) t f (replied_at a bads) h

  lefts_are : (es : List EndpointParts) (left : List Left) → lefts_told es a left ≡ lefts_failed es a left + replied_at a (lefts_bad es left)
  lefts_are es [] = omega arith
  lefts_are es (l ∷ left) = of_left (bytes_eq (left_address es l) a) (left_address es l) l.why (lefts_told es a left) (lefts_failed es a left) (lefts_bad es left) refl (lefts_are es left)

  downs_are : (down : List Down) → downs_told a down ≡ downs_failed a down + replied_at a (downs_bad down)
  downs_are [] = omega arith
  downs_are (d ∷ down) = of_down (bytes_eq d.iri a) d.iri d.why (downs_told a down) (downs_failed a down) (downs_bad down) refl (downs_are down)

  all_told : (tl td fl fd rl rd r x : ℕ) → tl ≡ fl + rl → td ≡ fd + rd → r ≡ rl + rd → r ≡ x → tl + td ≡ (fl + fd) + x
  all_told tl td fl fd rl rd r x h k l m = omega (arith, h, k, l, m)

pub licences_count : LicencesCount
licences_count es q s t xs left down it a =
    let lefts = lefts_bad es left in
    let downs = downs_bad down in
    all_told a (lefts_told es a left) (downs_told a down) (lefts_failed es a left) (downs_failed a down) (replied_at a lefts) (replied_at a downs) (replied_at a (lefts ++ downs)) (exchanges_at a it.refused) (lefts_are a es left) (downs_are a down)
    (behind a lefts downs) (in_any_order a (map replied_in it.refused) (lefts ++ downs) it.told ∙ of_exchanges a it.refused)

-- ---- by numbers

module _ (s : List Seen) (es : List EndpointParts) (q : Query) (a : List ℕ) where
  both_low : (b k : Bool) → cond {A = ℕ} (b && k) 1 0 + 0 ≤ cond {A = ℕ} b 1 0 + 0
  both_low true true = omega arith
  both_low true false = omega arith
  both_low false k = omega arith

  too_long : (b k : Bool) → cond {A = ℕ} (b && (k && false)) 1 0 + 0 ≤ cond {A = ℕ} b 0 0 + 0
  too_long true true = omega arith
  too_long true false = omega arith
  too_long false k = omega arith

  unknown : (b k : Bool) → cond {A = ℕ} (b && (false && k)) 1 0 + 0 ≤ cond {A = ℕ} b 0 0 + 0
  unknown true k = omega arith
  unknown false k = omega arith

  is_not_true : (b : Bool) → (b ≡ true → ⊥) → b ≡ false
  is_not_true true h = absurd (h refl)
  is_not_true false h = refl

  none_has : (iri : List ℕ) (ds : List EndpointParts) → AllByRecursion (λ (e : EndpointParts). e.iri ≢ iri) ds → list_any (λ (e : EndpointParts). bytes_eq e.iri iri) ds ≡ false
  none_has iri [] h = refl
  none_has iri (d ∷ ds) h =
      ap (λ (b : Bool). b || list_any (λ (e : EndpointParts). bytes_eq e.iri iri) ds) (is_not_true (bytes_eq d.iri iri) (λ e. h.0 ((bytes_eq-Decides d.iri iri).0 e))) ∙ none_has iri ds h.1

  abbrev known_at : Occurrence → Bool
  known_at o = list_any (λ (e : EndpointParts). bytes_eq e.iri o.iri) es

  abbrev is_short : Occurrence → Bool
  is_short o = nat_le (length (service_text o.group)) 67108864

  of_cause : (o : Occurrence) (why : DownCause) (own : List Exchange) → HasComeTo s es o.iri o.group (failed why) own → cond {A = ℕ} (bytes_eq o.iri a && (known_at o && is_short o)) 1 0 + 0 ≤ cond {A = ℕ} (bytes_eq o.iri a) (down_event why) 0 + 0
  of_cause o down_cause.Failed own h = both_low (bytes_eq o.iri a) (known_at o && is_short o)
  of_cause o (down_cause.Bad bad) own h = both_low (bytes_eq o.iri a) (known_at o && is_short o)
  of_cause o (down_cause.TooLong size) own h =
      let long : 67108864 < length (service_text o.group) = subst (λ (n : ℕ). 67108864 < n) h.3.1 h.3.2 in
      subst (λ (b : Bool). cond {A = ℕ} (bytes_eq o.iri a && (known_at o && b)) 1 0 + 0 ≤ cond {A = ℕ} (bytes_eq o.iri a) 0 0 + 0) (sym (lt-leb (length (service_text o.group)) 67108864 long)) (too_long (bytes_eq o.iri a) (known_at o))
  of_cause o down_cause.Unknown own h =
      subst (λ (b : Bool). cond {A = ℕ} (bytes_eq o.iri a && (b && is_short o)) 1 0 + 0 ≤ cond {A = ℕ} (bytes_eq o.iri a) 0 0 + 0)
      (sym (none_has o.iri es (recursion_from_All (λ (e : EndpointParts). e.iri ≢ o.iri) es h.0))) (unknown (bytes_eq o.iri a) (is_short o))

  nothing_low : 0 ≤ 0
  nothing_low = omega arith

  of_call : (n : ℕ) (silent : Bool) (o : Occurrence) (came : Came) (own : List Exchange) → slice_get (occurrences q) n ≡ Some o → HasComeTo s es o.iri o.group came own
      → numbers_at es q a (places (down_if n silent o.iri came)) ≤ downs_told a (down_if n silent o.iri came)
  of_call n silent o (told rows) own found h = nothing_low
  of_call n true o (failed why) own found h =
      subst (λ (x : Option Occurrence). cond {A = ℕ} (may_fail es a x) 1 0 + 0 ≤ cond {A = ℕ} (bytes_eq o.iri a) (down_event why) 0 + 0) (sym found) (of_cause o why own h)
  of_call n false o (failed why) own found h = nothing_low
  of_call n true o lost own found h = nothing_low
  of_call n false o lost own found h = nothing_low

  numbers_behind : (ks ls : List ℕ) → numbers_at es q a (ks ++ ls) ≡ numbers_at es q a ks + numbers_at es q a ls
  numbers_behind [] ls = nothing (numbers_at es q a ls)
    where
      nothing : (n : ℕ) → n ≡ 0 + n
      nothing n = omega arith
  numbers_behind (k ∷ ks) ls = in_front (cond {A = ℕ} (may_fail es a (slice_get (occurrences q) k)) 1 0) (numbers_at es q a (ks ++ ls)) (numbers_at es q a ks) (numbers_at es q a ls) (numbers_behind ks ls)
    where
      in_front : (m n k l : ℕ) → n ≡ k + l → m + n ≡ (m + k) + l
      in_front m n k l h = omega (arith, h)

  downs_behind : (ds others : List Down) → downs_told a (ds ++ others) ≡ downs_told a ds + downs_told a others
  downs_behind [] others = nothing (downs_told a others)
    where
      nothing : (n : ℕ) → n ≡ 0 + n
      nothing n = omega arith
  downs_behind (d ∷ ds) others = in_front (cond {A = ℕ} (bytes_eq d.iri a) (down_event d.why) 0) (downs_told a (ds ++ others)) (downs_told a ds) (downs_told a others) (downs_behind ds others)
    where
      in_front : (m n k l : ℕ) → n ≡ k + l → m + n ≡ (m + k) + l
      in_front m n k l h = omega (arith, h)

  low_sums : (all m n most k l : ℕ) → all ≡ m + n → most ≡ k + l → m ≤ k → n ≤ l → all ≤ most
  low_sums all m n most k l h i first rest = omega (arith, h, i, first, rest)

  -- the calls from a number on are those of the query's occurrences
  abbrev AreOf : ℕ → List Call → Type 0
  AreOf n [] = Unit {0}
  AreOf n (c ∷ cs) = (slice_get (occurrences q) n ≡ Some c.of) × AreOf (suc n) cs

  of_calls : (n : ℕ) (calls : List Call) (xs : List Exchange) → AreOf n calls → AreCalls s es calls xs → numbers_at es q a (places (down_from n calls)) ≤ downs_told a (down_from n calls)
  of_calls n [] xs are h = nothing_low
  of_calls n (c ∷ cs) xs are h =
      let first = down_if n c.of.silent c.of.iri c.came in
      let rest = down_from (suc n) cs in
      low_sums (numbers_at es q a (places (first ++ rest))) (numbers_at es q a (places first)) (numbers_at es q a (places rest)) (downs_told a (first ++ rest)) (downs_told a first) (downs_told a rest)
      (ap (numbers_at es q a) (map-append (λ (d : Down). d.place) first rest) ∙ numbers_behind (places first) (places rest)) (downs_behind first rest) (of_call n c.of.silent c.of c.came h.0 are.0 h.3) (of_calls (suc n) cs h.1 are.1 h.5)

  -- behind those in front
  at_length : (front : List Occurrence) (o : Occurrence) (rest : List Occurrence) → slice_get (front ++ o ∷ rest) (length front) ≡ Some o
  at_length [] o rest = refl
  at_length (f ∷ front) o rest = at_length front o rest

  are_of : (front : List Occurrence) (calls : List Call) (n : ℕ) → length front ≡ n → occurrences q ≡ front ++ map (λ (c : Call). c.of) calls → AreOf n calls
  are_of front [] n many is = tt
  are_of front (c ∷ cs) n many is =
      let rest = map (λ (c : Call). c.of) cs in (
        ap (λ (v : List Occurrence). slice_get v n) is ∙ ap (slice_get (front ++ c.of ∷ rest)) (sym many) ∙ at_length front c.of rest,
        are_of (front ++ c.of ∷ []) cs (suc n) (one_longer front c.of n many) (is ∙ sym (append_assoc front (c.of ∷ []) rest)),
      )
    where
      one_longer : (front : List Occurrence) (o : Occurrence) (n : ℕ) → length front ≡ n → length (front ++ o ∷ []) ≡ suc n
      one_longer front o n many = let both : length (front ++ o ∷ []) ≡ length front + 1 = length-append front (o ∷ []) in omega (arith, both, many)

pub numbers_are_told : NumbersAreTold
numbers_are_told tells alone s t es q plan block r h a =
    let calls = h.went.calls in
    subst (λ (ks : List ℕ). numbers_at es q a ks ≤ downs_told a (down_in calls)) (sym h.down_is)
    (of_calls s es q a 0 calls h.went.of_calls (are_of s es q a [] calls 0 refl (sym h.all_called)) h.went.are_calls)
