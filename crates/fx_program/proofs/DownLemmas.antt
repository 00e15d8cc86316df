-- Which occurrences of SERVICE are down that name no endpoint, and which others may be, by their numbers.
use Rattle.std.proofs.Common.{◌≡◌, ◌∙◌, ap, sym, subst, refl, ℕ, zero, suc, ◌+◌, ◌≤◌, ◌<◌, ◌||◌, ◌==◌, Bool, true, false, not, if◌then◌else◌, None, Some, slice_get, length, List, [], ◌∷◌, ◌++◌, map, inl, inr, arith}
use Rattle.fx_terms.proofs.SetLemmas.{Among}
use Rattle.fx_outside.specs.Endpoints.{EndpointParts}
use Rattle.fx_algebra.specs.Groups.{is_down}
use Rattle.fx_algebra.specs.declared.queries.Query.{Query}
use Rattle.fx_services.specs.Beside.{Occurrence}
use Rattle.fx_services.specs.Noted.{RiseWithin, places}
use Rattle.fx_services.specs.declared.noted.Down.{Down}
use Rattle.fx_services.proofs.NotedLemmas.{apart_below, no_lower, the_same}
use Rattle.fx_walks.specs.Unknown.{is_registered}
use Rattle.fx_walks.proofs.RegisteredLemmas.{registered_by}
use Rattle.fx_wire.specs.Exchanges.{Exchange, Seen}
use Rattle.fx_algebra.specs.declared.queries.Group.{Group}
use Rattle.fx_outcomes.specs.Calls.{AgreesWith, AreAllOrNone, AreCalls, Call, Came, HasComeTo, Passes, down_from, down_in, failed, lost, occurrences, told}
use Rattle.fx_outcomes.proofs.DownLemmas.{down_at, down_rises, has_gone}
use Rattle.fx_rounds.specs.Down.{unregistered}
use Rattle.fx_program.specs.Completeness.{MayBeDown}

-- ---- those that name no endpoint

apart_above : (n k : ℕ) → n < k → (n == k) ≡ false
apart_above n k high = grind (arith, high)

-- a number that isn't among others isn't among them with one more in front, if that is another
not_there : (b : Bool) (m k : ℕ) (numbers : List ℕ) → (m == k) ≡ false → is_down numbers k ≡ false → is_down (if b then numbers else m ∷ numbers) k ≡ false
not_there true m k numbers apart h = h
not_there false m k numbers apart h = ap (λ (b : Bool). b || is_down numbers k) apart ∙ h

module _ (es : List EndpointParts) where
  above : (m k : ℕ) (os : List Occurrence) → k < m → is_down (unregistered es m os) k ≡ false
  above m k [] low = refl
  above m k (o ∷ os) low = not_there (is_registered es o.iri) m k (unregistered es (suc m) os) (apart_below m k low) (above (suc m) k os (omega (arith, low)))

  -- the first
  first_at : (n : ℕ) (o : Occurrence) (os : List Occurrence) → is_down (unregistered es n (o ∷ os)) n ≡ not (is_registered es o.iri)
  first_at n o os = by (is_registered es o.iri)
    where
      by : (b : Bool) → is_down (if b then unregistered es (suc n) os else n ∷ unregistered es (suc n) os) n ≡ not b
      by true = above (suc n) n os (omega arith)
      by false = ap (λ (b : Bool). b || is_down (unregistered es (suc n) os) n) (the_same n)

  -- the numbers behind the first
  behind_first : (n k : ℕ) (o : Occurrence) (os : List Occurrence) → n < k → is_down (unregistered es n (o ∷ os)) k ≡ is_down (unregistered es (suc n) os) k
  behind_first n k o os high = by (is_registered es o.iri)
    where
      by : (b : Bool) → is_down (if b then unregistered es (suc n) os else n ∷ unregistered es (suc n) os) k ≡ is_down (unregistered es (suc n) os) k
      by true = refl
      by false = ap (λ (b : Bool). b || is_down (unregistered es (suc n) os) k) (apart_above n k high)

  from_number : (n : ℕ) (os : List Occurrence) (k : ℕ) (o : Occurrence) → slice_get os k ≡ Some o → is_down (unregistered es n os) (n + k) ≡ not (is_registered es o.iri)
  from_number n [] k o is = absurd (cc)
  from_number n (x ∷ os) zero o is =
      let same : x ≡ o = cc in
      let none : n + 0 ≡ n = omega arith in
      ap (is_down (unregistered es n (x ∷ os))) none ∙ first_at n x os ∙ ap (λ (v : Occurrence). not (is_registered es v.iri)) same
  from_number n (x ∷ os) (suc k) o is =
      let next : n + suc k ≡ suc n + k = omega arith in
      let high : n < suc n + k = omega arith in
      ap (is_down (unregistered es n (x ∷ os))) next ∙ behind_first n (suc n + k) x os high ∙ from_number (suc n) os k o is

  -- a number is among them exactly where its occurrence names no endpoint
  pub unregistered_at : (os : List Occurrence) (k : ℕ) (o : Occurrence) → slice_get os k ≡ Some o → is_down (unregistered es 0 os) k ≡ not (is_registered es o.iri)
  unregistered_at os k o is = let same : k ≡ 0 + k = omega arith in ap (is_down (unregistered es 0 os)) same ∙ from_number 0 os k o is

  -- no number behind the last is
  none_from : (n : ℕ) (os : List Occurrence) (k : ℕ) → slice_get os k ≡ None → is_down (unregistered es n os) (n + k) ≡ false
  none_from n [] k is = refl
  none_from n (x ∷ os) zero is = absurd (cc)
  none_from n (x ∷ os) (suc k) is =
      let next : n + suc k ≡ suc n + k = omega arith in
      let high : n < suc n + k = omega arith in
      ap (is_down (unregistered es n (x ∷ os))) next ∙ behind_first n (suc n + k) x os high ∙ none_from (suc n) os k is

  pub no_unregistered : (os : List Occurrence) (k : ℕ) → slice_get os k ≡ None → is_down (unregistered es 0 os) k ≡ false
  no_unregistered os k is = let same : k ≡ 0 + k = omega arith in ap (is_down (unregistered es 0 os)) same ∙ none_from 0 os k is

  not_both : (b : Bool) → b ≡ true → b ≡ false → ⊥
  not_both b h k = let clash : true ≡ false = sym h ∙ k in cc

  -- they may be down alone
  pub unregistered_may : (asked : Query) → MayBeDown es asked (unregistered es 0 (occurrences asked))
  unregistered_may asked = record {
    unknown = λ k o there none. unregistered_at (occurrences asked) k o there ∙ ap not none;
    known = λ k o there is down. absurd (not_both (is_down (unregistered es 0 (occurrences asked)) k) down (unregistered_at (occurrences asked) k o there ∙ ap not is));
    no_other = λ k none. no_unregistered (occurrences asked) k none;
  }

-- ---- numbers of two lists

or_assoc : (a b c : Bool) → (a || (b || c)) ≡ ((a || b) || c)
or_assoc true b c = refl
or_assoc false b c = refl

or_false : (a : Bool) → (a || false) ≡ a
or_false true = refl
or_false false = refl

or_same : (a b : Bool) → a ≡ true → (a || b) ≡ a
or_same true b h = refl
or_same false b h = absurd (cc)

either_down : (xs ys : List ℕ) (k : ℕ) → is_down (xs ++ ys) k ≡ (is_down xs k || is_down ys k)
either_down [] ys k = refl
either_down (x ∷ xs) ys k = ap (λ (b : Bool). (x == k) || b) (either_down xs ys k) ∙ or_assoc (x == k) (is_down xs k) (is_down ys k)

pub down_right : (xs ys : List ℕ) (k : ℕ) → is_down ys k ≡ true → is_down (xs ++ ys) k ≡ true
down_right xs ys k h = either_down xs ys k ∙ by (is_down xs k) (is_down ys k) h
  where
    by : (a b : Bool) → b ≡ true → (a || b) ≡ true
    by true b e = refl
    by false b e = e

pub down_left : (xs ys : List ℕ) (k : ℕ) → is_down ys k ≡ false → is_down (xs ++ ys) k ≡ is_down xs k
down_left xs ys k h = either_down xs ys k ∙ ap (λ (b : Bool). is_down xs k || b) h ∙ or_false (is_down xs k)

down_both : (xs ys : List ℕ) (k : ℕ) → is_down xs k ≡ true → is_down (xs ++ ys) k ≡ is_down xs k
down_both xs ys k h = either_down xs ys k ∙ or_same (is_down xs k) (is_down ys k) h

-- ---- calls by their numbers

-- the call of a number is that of the occurrence which has it
pub record CallAt (calls : List Call) (k : ℕ) (o : Occurrence) : Type 0 where
  pub call : Call
  pub there : slice_get calls k ≡ Some call
  pub of_it : call.of ≡ o
  pub among : Among call calls

pub call_at : (calls : List Call) (k : ℕ) (o : Occurrence) → slice_get (map (λ c. c.of) calls) k ≡ Some o → CallAt calls k o
call_at [] k o h = absurd (cc)
call_at (d ∷ calls) zero o h = let same : d.of ≡ o = cc in record { call = d; there = refl; of_it = same; among = inl refl }
call_at (d ∷ calls) (suc k) o h = let rest = call_at calls k o h in record { call = rest.call; there = rest.there; of_it = rest.of_it; among = inr rest.among }

of_call : (calls : List Call) (k : ℕ) (c : Call) → slice_get calls k ≡ Some c → slice_get (map (λ c. c.of) calls) k ≡ Some c.of
of_call [] k c h = absurd (cc)
of_call (d ∷ calls) zero c h = let same : d ≡ c = cc in ap (λ (v : Call). Some v.of) same
of_call (d ∷ calls) (suc k) c h = of_call calls k c h

-- a number behind that of the last call isn't down
none_above : (first last k : ℕ) (ds : List Down) → RiseWithin first last ds → last ≤ k → is_down (places ds) k ≡ false
none_above first last k [] h high = refl
none_above first last k (d ∷ ds) h high =
    let rest : suc d.place ≤ last = no_lower (suc d.place) last ds h.1 in
    ap (λ (b : Bool). b || is_down (places ds) k) (apart_above d.place k (omega (arith, rest, high))) ∙ none_above (suc d.place) last k ds h.1 high

all_before : (calls : List Call) (k : ℕ) → slice_get (map (λ c. c.of) calls) k ≡ None → length calls ≤ k
all_before [] k h = omega arith
all_before (d ∷ calls) zero h = absurd (cc)
all_before (d ∷ calls) (suc k) h = let rest : length calls ≤ k = all_before calls k h in omega (arith, rest)

no_call_down : (calls : List Call) (k : ℕ) → slice_get (map (λ c. c.of) calls) k ≡ None → is_down (places (down_in calls)) k ≡ false
no_call_down calls k h = let low : length calls ≤ k = all_before calls k h in none_above 0 (0 + length calls) k (down_from 0 calls) (down_rises 0 calls) (omega (arith, low))

pub none_down_behind : (calls : List Call) (os : List Occurrence) (k : ℕ) → AreAllOrNone calls os → slice_get os k ≡ None → is_down (places (down_in calls)) k ≡ false
none_down_behind calls os k (inl none) h = subst (λ (l : List Call). is_down (places (down_in l)) k ≡ false) (sym none) refl
none_down_behind calls os k (inr are) h = no_call_down calls k (subst (λ (l : List Occurrence). slice_get l k ≡ None) (sym are) h)

none_there : (k : ℕ) (c : Call) → slice_get [] k ≡ Some c → ⊥
none_there k c h = cc

occurrence_at : (calls : List Call) (os : List Occurrence) (k : ℕ) (c : Call) → AreAllOrNone calls os → slice_get calls k ≡ Some c → slice_get os k ≡ Some c.of
occurrence_at calls os k c (inl none) h = absurd (none_there k c (subst (λ (l : List Call). slice_get l k ≡ Some c) none h))
occurrence_at calls os k c (inr are) h = subst (λ (l : List Occurrence). slice_get l k ≡ Some c.of) are (of_call calls k c h)

module _ (before : List Seen) (es : List EndpointParts) where
  -- what it came to
  come_at : (calls : List Call) (xs : List Exchange) → AreCalls before es calls xs → (k : ℕ) (c : Call) → slice_get calls k ≡ Some c → (own : List Exchange) × HasComeTo before es c.of.iri c.of.group c.came own
  come_at [] xs h k c is = absurd (cc)
  come_at (d ∷ calls) xs h zero c is = let same : d ≡ c = cc in (h.0, subst (λ (v : Call). HasComeTo before es v.of.iri v.of.group v.came h.0) same h.3)
  come_at (d ∷ calls) xs h (suc k) c is = come_at calls h.1 h.5 k c is

  clash : (iri : List ℕ) → is_registered es iri ≡ false → is_registered es iri ≡ true → ⊥
  clash iri none is = let no : true ≡ false = sym is ∙ none in cc

  -- one that passed and names no endpoint is down
  gone_unknown : (silent : Bool) (iri : List ℕ) (g : Group) (came : Came) (own : List Exchange) → HasComeTo before es iri g came own → Passes silent came → is_registered es iri ≡ false → has_gone silent came ≡ true
  gone_unknown silent iri g (told rows) own h passes none = absurd (clash iri none (registered_by es iri h.0 h.1 h.2))
  gone_unknown true iri g (failed why) own h passes none = refl
  gone_unknown false iri g (failed why) own h passes none = absurd (cc)
  gone_unknown silent iri g lost own h passes none = absurd passes

  -- so with those that name no endpoint the same occurrences that passed are down
  pub agree_with : (asked : Query) (calls : List Call) (xs : List Exchange) → AreAllOrNone calls (occurrences asked) → AreCalls before es calls xs → AgreesWith (places (down_in calls) ++ unregistered es 0 (occurrences asked)) calls
  agree_with asked calls xs called are k c there passes passed = by (is_registered es c.of.iri) refl
    where
      here : is_down (unregistered es 0 (occurrences asked)) k ≡ not (is_registered es c.of.iri)
      here = unregistered_at es (occurrences asked) k c.of (occurrence_at calls (occurrences asked) k c called there)

      own : is_down (places (down_in calls)) k ≡ has_gone c.of.silent c.came
      own = let same : k ≡ 0 + k = omega arith in ap (is_down (places (down_in calls))) same ∙ down_at 0 calls k c there

      by : (b : Bool) → is_registered es c.of.iri ≡ b → is_down (places (down_in calls) ++ unregistered es 0 (occurrences asked)) k ≡ is_down (places (down_in calls)) k
      by true is = down_left (places (down_in calls)) (unregistered es 0 (occurrences asked)) k (here ∙ ap not is)
      by false is =
          let came = come_at calls xs are k c there in
          down_both (places (down_in calls)) (unregistered es 0 (occurrences asked)) k (own ∙ gone_unknown c.of.silent c.of.iri c.of.group c.came came.0 came.1 passes is)
