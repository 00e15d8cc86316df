-- Occurrences of SERVICE that are invoked in pieces: what is known of a piece and of those before it.
use Rattle.std.proofs.Common.{◌≡◌, ◌∙◌, ap, sym, subst, refl, ℕ, ◌+◌, ◌-◌, ◌<◌, ◌≤◌, min, Bool, cond, List, [], ◌∷◌, ◌++◌, length, take, drop, slice_range, Option, None, Some, All, IfErr, IfOk, IfSome, IsTrue, IsPermutation, Ok, Err, take-append-drop, append_assoc, arith, bytes_eq}
use Rattle.std.specs.List.{AllByRecursion}
use Rattle.std.proofs.Math.Seq.{take-add}
use Rattle.std.proofs.lemmas.Grind.{flat_map-append}
use Rattle.std.proofs.lemmas.List.{length-drop, length-take-le}
use Rattle.std.proofs.lemmas.List.Elements.{All-from_recursion, recursion_from_All}
use Rattle.std.proofs.lemmas.List.Sorted.{IsPermutation-append, IsPermutation-refl, IsPermutation-trans}
use Rattle.fx_outside.specs.Endpoints.{EndpointParts}
use Rattle.fx_terms.specs.declared.triples.Triple.{Triple}
use Rattle.fx_traffic.specs.Gains.{AreAfter, Tell, faults_at}
use Rattle.fx_traffic.proofs.GainLemmas.{gain_laws}
use Rattle.fx_wire.specs.Exchanges.{Exchange, Seen}
use Rattle.fx_pool.specs.Runs.{WiresDid}
use Rattle.fx_pool.specs.declared.jobs.Job.{Job}
use Rattle.fx_pool.specs.declared.jobs.JobReply.{JobReply}
use Rattle.fx_pool.proofs.RunLemmas.{behind}
use Rattle.fx_pool.proofs.WiresLemmas.{AllTell}
use Rattle.fx_services.specs.Beside.{AllInvoked, AreInvoked, AreSentFor, Came, Occurrence, jobs_for, jobs_of}
use Rattle.fx_services.specs.ServicesAsked.{AreRowsOver, HasServiceCause, IsServable}
use Rattle.fx_services.specs.declared.services.ServiceError.TheVariants as error
use Rattle.fx_services.proofs.InTurnLemmas.{did_in_turn, did_in_vain}
use Rattle.fx_services.proofs.SharingLemmas.{none_sent}
use Rattle.fx_services.proofs.SideLemmas.{all_lost}

-- ---- some, and others behind them

sent_by : (s t : List Seen) (es : List EndpointParts) (os : List Occurrence) (cs : List Came) (xs : List Exchange) → AreInvoked s t es os cs xs → AreSentFor es os xs
sent_by s t es [] [] xs h = h
sent_by s t es [] (c ∷ cs) xs h = absurd h
sent_by s t es (o ∷ os) [] xs h = absurd h
sent_by s t es (o ∷ os) (c ∷ cs) xs h = (h.0, h.1, h.2, h.3.sent_so, sent_by s t es os cs h.1 h.4)

none_behind : (es : List EndpointParts) (os more : List Occurrence) (xs : List Exchange) → AreSentFor es os xs → AreSentFor es (os ++ more) xs
none_behind es [] more xs h = subst (AreSentFor es more) (sym h) (none_sent es more)
none_behind es (o ∷ os) more xs h = (h.0, h.1, h.2, h.3, none_behind es os more h.1 h.4)

-- ---- pieces

module _ (tells alone : Bool) (es : List EndpointParts) where
  -- memory ran out behind them
  pub forgotten : (s t : List Seen) (os : List Occurrence) (cs : List Came) → AllInvoked tells alone s t es os (Some cs) → AllInvoked tells alone s t es os None
  forgotten s t os cs h = record {
    exchanges = h.exchanges;
    gained = h.gained;
    after_all = h.after_all;
    in_turn = h.in_turn;
    same = h.same;
    come_to = sent_by s t es os cs h.in_turn h.come_to;
    counted = tt;
    exact = λ is. tt;
  }

  -- others aren't invoked then
  not_on : (s t : List Seen) (os more : List Occurrence) → AllInvoked tells alone s t es os None → AllInvoked tells alone s t es (os ++ more) None
  not_on s t os more h = record {
    exchanges = h.exchanges;
    gained = h.gained;
    after_all = h.after_all;
    in_turn = h.in_turn;
    same = h.same;
    come_to = none_behind es os more h.in_turn h.come_to;
    counted = tt;
    exact = λ is. tt;
  }

  -- the jobs of the first so many, of which the last are a piece
  abbrev pub Begun : List Seen → List Seen → List Occurrence → ℕ → Option (List JobReply) → Type 0
  Begun s t os k replies = WiresDid tells alone s t es (jobs_of es (take k os)) replies

  module _ (s t u : List Seen) (a : AllTell tells s) (b : AllTell tells t) (os : List Occurrence) (k m : ℕ) (piece : List Occurrence) (front : take m os ≡ take k os ++ piece) (rs : List JobReply) (h : Begun s t os k (Some rs)) where
    in_turn : (o : Option (List JobReply)) → WiresDid tells alone t u es (jobs_of es piece) o → Begun s u os m (behind rs o)
    in_turn o d =
        subst (λ (v : List Job). WiresDid tells alone s u es v (behind rs o)) (sym (flat_map-append (jobs_for es) (take k os) piece) ∙ ap (jobs_of es) (sym front))
        (did_in_turn tells alone es s t u a b (jobs_of es (take k os)) (jobs_of es piece) rs h o d)

    pub some_more : (more : List JobReply) → WiresDid tells alone t u es (jobs_of es piece) (Some more) → Begun s u os m (Some (rs ++ more))
    some_more more d = in_turn (Some more) d

    -- memory ran out in the next
    pub lost_in : WiresDid tells alone t u es (jobs_of es piece) None → AllInvoked tells alone s u es os None
    lost_in d =
        subst (λ (v : List Occurrence). AllInvoked tells alone s u es v None) (take-append-drop m os)
        (not_on s u (take m os) (drop m os) (all_lost tells alone s u es (take m os) (in_turn None d)))

    -- or behind it
    pub lost_behind : (more : List JobReply) → WiresDid tells alone t u es (jobs_of es piece) (Some more) → AllInvoked tells alone s u es os None
    lost_behind more d = lost_in (did_in_vain tells alone es t u (jobs_of es piece) more d)

-- ---- some of a list

-- those behind the first k: n of them, or all that are left
pub record AreSome {X : Type 0} (all : List X) (k n : ℕ) : Type 0 where
  pub few : length (slice_range all k (k + n)) ≤ 65536
  pub within : k + n ≤ length all
  pub front : take (k + n) all ≡ take k all ++ slice_range all k (k + n)

pub are_some : {X : Type 0} (all : List X) (k n : ℕ) → k < length all → n ≡ min (length all - k) 65536 → AreSome all k n
are_some {X} all k n below is =
    let few : n ≤ length all - k = omega (arith, is) in
    let most : n ≤ 65536 = omega (arith, is) in
    let same : k + n - k ≡ n = omega arith in
    let left : length (drop k all) ≡ length all - k = length-drop k all in
    let some : slice_range all k (k + n) ≡ take n (drop k all) = ap (λ (m : ℕ). take m (drop k all)) same in
    let size : length (slice_range all k (k + n)) ≡ n = ap length some ∙ length-take-le n (drop k all) (omega (arith, few, left)) in
    record {
      few = omega (arith, size, most);
      within = omega (arith, few, below);
      front = take-add k n all ∙ ap (λ (v : List X). take k all ++ v) (sym some);
    }
