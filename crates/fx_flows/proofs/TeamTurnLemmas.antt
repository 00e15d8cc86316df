-- The batches of a step, asked for one part of them after the other.
use Rattle.std.proofs.Common.{◌≡◌, ◌∙◌, ap, sym, subst, refl, ℕ, ◌+◌, ◌<◌, ◌≤◌, Bool, List, [], ◌++◌, IfOk, IfErr, Result, Ok, Err, All, Contains, map, length, arith, append-nil, zero-le, Some, IsPermutation}
use Rattle.std.proofs.lemmas.Grind.{flat_map-append}
use Rattle.std.proofs.lemmas.List.Elements.{All-append, All-from_recursion, All-nil, All-weaker, recursion_from_All}
use Rattle.std.proofs.lemmas.List.Sorted.{All-permutation, Contains-permutation, IsPermutation-append, IsPermutation-refl}
use Rattle.fx_terms.specs.declared.triples.Triple.{Triple}
use Rattle.fx_outside.specs.Endpoints.{EndpointParts}
use Rattle.fx_algebra.specs.Graphs.{union}
use Rattle.fx_algebra.specs.Units.{row_step, step}
use Rattle.fx_algebra.specs.declared.units.Row.{Row}
use Rattle.fx_algebra.specs.declared.units.Unit as unit
use Rattle.fx_spelling.specs.Units.{IsSound}
use Rattle.fx_traffic.specs.Batches.{batches_sent, joined, unit_sent}
use Rattle.fx_traffic.specs.Gains.{TellOf, faults_at}
use Rattle.fx_traffic.specs.Sent.{Sent, Sends}
use Rattle.fx_traffic.proofs.GainLemmas.{gain_laws}
use Rattle.fx_traffic.proofs.SentLemmas.{sent_laws}
use Rattle.fx_wire.specs.Exchanges.{Exchange, Seen}
use Rattle.fx_flows.specs.Flows.{IsBatchRead, IsShort}
use Rattle.fx_flows.specs.RunLaws.{AllTell}
use Rattle.fx_flows.specs.Teams.{HasStepCause, IsStepCause, StepAsked, StepInTurn, StepRefused, StepRefusedLater, TeamLaws}
use Rattle.fx_flows.specs.declared.flows.FlowError.{FlowError}
use Rattle.fx_flows.specs.declared.flows.FlowError.TheVariants as flow
use Rattle.fx_pool.specs.Runs.{IsHonestOver}
use Rattle.fx_pool.proofs.WireLemmas.{after_itself}
use Rattle.fx_pool.proofs.WiresLemmas.{GainedBoth, all_after, all_tell, as_many, gained_both, still_tell, still_tell_of}
use Rattle.fx_flows.proofs.InPartLemmas.{in_part_together, in_part_whole, in_part_wider, unasked_in_part}
use Rattle.fx_flows.proofs.FlowLemmas.{behind, in_front}
use Rattle.fx_flows.proofs.TeamLemmas.{asked_wider, over_one_wire}

module _ (s t u v : List Seen) (es : List EndpointParts) (w : unit.Unit) (batches all : List (List Row)) (xs ys : List Exchange)
    (rises : (address : List ℕ) → faults_at s address < faults_at t address → faults_at u address < faults_at v address)
    (tells : (address : List ℕ) (g : List Triple) → All (λ (x : Seen). x.graph address ≡ Some g) u → All (λ (x : Seen). x.graph address ≡ Some g) s)
    (among : (b : List Row) → Contains batches b → Contains all b)
    (exchanges : (x : Exchange) → Contains xs x → Contains ys x) where
  its : (o : FlowError) → IsStepCause s t es w batches xs o → IsStepCause u v es w all ys o
  its o k = record { batch = k.batch; among = among k.batch k.among; asked = asked_wider s t u v es (record { unit = w; rows = k.batch }) w.members w.members xs ys rises tells (λ at m. m) exchanges o k.asked }

  step_wider : (o : FlowError) → HasStepCause s t es w batches xs o → HasStepCause u v es w all ys o
  step_wider (flow.Member at) k = its (flow.Member at) k
  step_wider (flow.BadReply at bad) k = its (flow.BadReply at bad) k
  step_wider (flow.RequestTooLong at size) k = its (flow.RequestTooLong at size) k
  step_wider flow.Memory k = tt

-- ---- one call after the other

module _ (tells alone : Bool) (s t v : List Seen) (es : List EndpointParts) (u : unit.Unit) (first others : List (List Row)) (made : List Row) (s_tells : AllTell tells s) (t_tells : AllTell tells t) (h : StepAsked tells alone s t es u first (Ok made)) where
  rows_of_both : (graph : List Triple) → step graph u (joined (first ++ others)) ≡ step graph u (joined first) ++ step graph u (joined others)
  rows_of_both graph = ap (step graph u) (flat_map-append (λ (b : List Row). b) first others) ∙ flat_map-append (row_step graph u) (joined first) (joined others)

  -- where both have rows they stand one behind the other
  abbrev after_made : Result (List Row) FlowError → Result (List Row) FlowError
  after_made (Ok more) = Ok (made ++ more)
  after_made (Err why) = Err why

  in_turn : (r : Result (List Row) FlowError) → StepAsked tells alone t v es u others r → StepAsked tells alone s v es u (first ++ others) (after_made r)
  in_turn r k = record {
    exchanges = gained.all;
    gained = gained.gained;
    honest =
        All-permutation (IsHonestOver s) (h.exchanges ++ k.exchanges) gained.all gained.same
        (All-append (IsHonestOver s) h.exchanges k.exchanges h.honest
        (All-weaker (IsHonestOver t) (IsHonestOver s) (λ x honest graph tell. honest graph (still_tell s t x.at.iri graph h.after_all tell)) k.exchanges k.honest));
    after_all = all_after tells s t v (recursion_from_All (λ (w : Seen). w.tells_log ≡ tells) s s_tells) (recursion_from_All (λ (w : Seen). w.tells_log ≡ tells) t t_tells) h.after_all k.after_all;
    failed = k.failed;
    few = (let few : k.failed ≤ length t = k.few in omega (arith, few, as_many s t h.after_all));
    unfailed = unfailed r k.unfailed;
    counted = λ is address.
        let none : h.failed ≡ 0 = h.unfailed in
        let low : faults_at t address ≤ faults_at s address + h.failed = h.counted is address in
        let high : faults_at v address ≤ faults_at t address + k.failed = k.counted is address in
        omega (arith, none, low, high);
    left = h.left ++ k.left;
    sent =
        sent_laws.any_order (batches_sent es u (first ++ others)) (h.left ++ k.left) (h.exchanges ++ k.exchanges) gained.all gained.same
        (subst (λ (l : List Sent). Sends l (h.left ++ k.left) (h.exchanges ++ k.exchanges)) (sym (flat_map-append (unit_sent es u) first others))
        (sent_laws.together (batches_sent es u first) h.left (batches_sent es u others) k.left h.exchanges k.exchanges h.sent k.sent));
    in_part =
        in_part_wider es (0 + length t) (length s) (batches_sent es u first ++ batches_sent es u others) (batches_sent es u (first ++ others)) (h.exchanges ++ k.exchanges) gained.all
        (omega (arith, as_many s t h.after_all)) all_batches gained.same
        (in_part_together es 0 (length t) (batches_sent es u first) (batches_sent es u others) h.exchanges k.exchanges
        (in_part_whole es (length s) (batches_sent es u first) h.exchanges (subst (λ (l : List Sent). Sends (batches_sent es u first) l h.exchanges) h.whole h.sent) h.in_part) k.in_part);
    whole = whole r k.whole;
    short = All-permutation IsShort (h.exchanges ++ k.exchanges) gained.all gained.same (All-append IsShort h.exchanges k.exchanges h.short k.short);
    faultless = faultless r k.faultless;
    done = done r k.done;
    cause = cause r k.cause;
  }
    where
      gained : GainedBoth tells s v h.exchanges k.exchanges
      gained = gained_both tells s t v h.exchanges k.exchanges h.gained k.gained

      all_batches : IsPermutation (batches_sent es u first ++ batches_sent es u others) (batches_sent es u (first ++ others))
      all_batches = subst (IsPermutation (batches_sent es u first ++ batches_sent es u others)) (sym (flat_map-append (unit_sent es u) first others)) (IsPermutation-refl (batches_sent es u first ++ batches_sent es u others))

      unfailed : (o : Result (List Row) FlowError) → IfOk o (λ _. k.failed ≡ 0) → IfOk (after_made o) (λ _. k.failed ≡ 0)
      unfailed (Ok more) e = e
      unfailed (Err why) e = tt

      whole : (o : Result (List Row) FlowError) → IfOk o (λ _. k.left ≡ []) → IfOk (after_made o) (λ _. h.left ++ k.left ≡ [])
      whole (Ok more) none = ap (λ (l : List Sent). l ++ k.left) h.whole ∙ none
      whole (Err why) none = tt

      faultless : (o : Result (List Row) FlowError) → IfOk o (λ _. All (IsBatchRead (λ z. z ≡ u)) k.exchanges) → IfOk (after_made o) (λ _. All (IsBatchRead (λ z. z ≡ u)) gained.all)
      faultless (Ok more) read = All-permutation (IsBatchRead (λ z. z ≡ u)) (h.exchanges ++ k.exchanges) gained.all gained.same (All-append (IsBatchRead (λ z. z ≡ u)) h.exchanges k.exchanges h.faultless read)
      faultless (Err why) read = tt

      done : (o : Result (List Row) FlowError) → IfOk o (λ rows. (graphs : List (List Triple)) → TellOf t es graphs (Contains u.members) → IsSound graphs u → IsPermutation rows (step (union graphs) u (joined others)))
          → IfOk (after_made o) (λ rows. (graphs : List (List Triple)) → TellOf s es graphs (Contains u.members) → IsSound graphs u → IsPermutation rows (step (union graphs) u (joined (first ++ others))))
      done (Ok more) d = λ graphs told sound.
          subst (IsPermutation (made ++ more)) (sym (rows_of_both (union graphs)))
          (IsPermutation-append made (step (union graphs) u (joined first)) more (step (union graphs) u (joined others)) (h.done graphs told sound) (d graphs (still_tell_of s t h.after_all es graphs (Contains u.members) told) sound))
      done (Err why) d = tt

      cause : (o : Result (List Row) FlowError) → IfErr o (HasStepCause t v es u others k.exchanges) → IfErr (after_made o) (HasStepCause s v es u (first ++ others) gained.all)
      cause (Ok more) c = tt
      cause (Err why) c =
          step_wider t v s v es u others (first ++ others) k.exchanges gained.all
          (λ address rose. omega (arith, rose, gain_laws.never_fall s t address h.after_all))
          (λ address g tell. still_tell s t address g h.after_all tell)
          (λ b m. behind first others b m)
          (λ x m. Contains-permutation (h.exchanges ++ k.exchanges) gained.all x gained.same (behind h.exchanges k.exchanges x m)) why c

step_in_turn : StepInTurn
step_in_turn tells alone s t v es u first others made more s_tells t_tells h k = in_turn tells alone s t v es u first others made s_tells t_tells h (Ok more) k

step_refused_later : StepRefusedLater
step_refused_later tells alone s t v es u first others made why s_tells t_tells h k = in_turn tells alone s t v es u first others made s_tells t_tells h (Err why) k

-- the others weren't come to
step_refused : StepRefused
step_refused tells alone s t es u first others why h = record {
  exchanges = h.exchanges;
  gained = h.gained;
  honest = h.honest;
  after_all = h.after_all;
  failed = h.failed;
  few = h.few;
  unfailed = tt;
  counted = h.counted;
  left = h.left ++ batches_sent es u others;
  sent =
      subst (λ (l : List Sent). Sends l (h.left ++ batches_sent es u others) h.exchanges) (sym (flat_map-append (unit_sent es u) first others))
      (subst (λ (x : List Exchange). Sends (batches_sent es u first ++ batches_sent es u others) (h.left ++ batches_sent es u others) x) (append-nil h.exchanges)
      (sent_laws.together (batches_sent es u first) h.left (batches_sent es u others) (batches_sent es u others) h.exchanges [] h.sent (sent_laws.nothing (batches_sent es u others))));
  in_part =
      in_part_wider es (length s + 0) (length s) (batches_sent es u first ++ batches_sent es u others) (batches_sent es u (first ++ others)) (h.exchanges ++ []) h.exchanges (omega arith)
      (subst (IsPermutation (batches_sent es u first ++ batches_sent es u others)) (sym (flat_map-append (unit_sent es u) first others)) (IsPermutation-refl (batches_sent es u first ++ batches_sent es u others)))
      (subst (λ (x : List Exchange). IsPermutation x h.exchanges) (sym (append-nil h.exchanges)) (IsPermutation-refl h.exchanges))
      (in_part_together es (length s) 0 (batches_sent es u first) (batches_sent es u others) h.exchanges [] h.in_part (unasked_in_part es u others));
  whole = tt;
  short = h.short;
  faultless = tt;
  done = tt;
  cause = step_wider s t s t es u first (first ++ others) h.exchanges h.exchanges (λ address rose. rose) (λ address g tell. tell) (λ b m. in_front first others b m) (λ x m. m) why h.cause;
}

pub team_laws : TeamLaws
team_laws = record { one_wire = over_one_wire; in_turn = step_in_turn; refused_later = step_refused_later; refused = step_refused }

-- ---- nothing was asked

pub nothing_asked : (tells alone : Bool) (wires : List Seen) (es : List EndpointParts) (u : unit.Unit) → StepAsked tells alone wires wires es u [] (Ok [])
nothing_asked tells alone wires es u = record {
  exchanges = [];
  gained = λ told. gain_laws.nothing wires;
  honest = All-nil (IsHonestOver wires);
  after_all = after_itself wires;
  failed = 0;
  few = zero-le;
  unfailed = refl;
  counted = λ is address. omega arith;
  left = [];
  sent = IsPermutation-refl [];
  in_part = in_part_wider es 0 (length wires) [] [] [] [] zero-le (IsPermutation-refl []) (IsPermutation-refl []) (unasked_in_part es u []);
  whole = refl;
  short = All-nil IsShort;
  faultless = All-nil (IsBatchRead (λ z. z ≡ u));
  done = λ graphs told sound. IsPermutation-refl [];
  cause = tt;
}

pub not_asked : (tells alone : Bool) (wires : List Seen) (es : List EndpointParts) (u : unit.Unit) (batches : List (List Row)) → StepAsked tells alone wires wires es u batches (Err flow.Memory)
not_asked tells alone wires es u batches = record {
  exchanges = [];
  gained = λ told. gain_laws.nothing wires;
  honest = All-nil (IsHonestOver wires);
  after_all = after_itself wires;
  failed = 0;
  few = zero-le;
  unfailed = tt;
  counted = λ is address. omega arith;
  left = batches_sent es u batches;
  sent = IsPermutation-refl (batches_sent es u batches);
  in_part = in_part_wider es 0 (length wires) (batches_sent es u batches) (batches_sent es u batches) [] [] zero-le (IsPermutation-refl (batches_sent es u batches)) (IsPermutation-refl []) (unasked_in_part es u batches);
  whole = tt;
  short = All-nil IsShort;
  faultless = tt;
  done = tt;
  cause = tt;
}

-- ---- in rounds

module _ {W : Type 0} (see : W → Seen) (tells alone : Bool) (told : (w : W) → (see w).tells_log ≡ tells) (es : List EndpointParts) (u : unit.Unit) (all some others : List (List Row)) (is : all ≡ some ++ others) (s t : List W) where
  they_tell : (wires : List W) → AllTell tells (map see wires)
  they_tell wires = All-from_recursion (λ (w : Seen). w.tells_log ≡ tells) (map see wires) (all_tell see tells told wires)

  pub round_on : (after : List Seen) (made more : List Row) → StepAsked tells alone (map see s) (map see t) es u some (Ok made) → StepAsked tells alone (map see t) after es u others (Ok more) → StepAsked tells alone (map see s) after es u all (Ok (made ++ more))
  round_on after made more h k = subst (λ (v : List (List Row)). StepAsked tells alone (map see s) after es u v (Ok (made ++ more))) (sym is) (step_in_turn tells alone (map see s) (map see t) after es u some others made more (they_tell s) (they_tell t) h k)

  pub round_refused_later : (after : List Seen) (made : List Row) (why : FlowError) → StepAsked tells alone (map see s) (map see t) es u some (Ok made) → StepAsked tells alone (map see t) after es u others (Err why) → StepAsked tells alone (map see s) after es u all (Err why)
  round_refused_later after made why h k = subst (λ (v : List (List Row)). StepAsked tells alone (map see s) after es u v (Err why)) (sym is) (step_refused_later tells alone (map see s) (map see t) after es u some others made why (they_tell s) (they_tell t) h k)

  pub round_refused : (why : FlowError) → StepAsked tells alone (map see s) (map see t) es u some (Err why) → StepAsked tells alone (map see s) (map see t) es u all (Err why)
  round_refused why h = subst (λ (v : List (List Row)). StepAsked tells alone (map see s) (map see t) es u v (Err why)) (sym is) (step_refused tells alone (map see s) (map see t) es u some others why h)
