-- What an exchange leaves of a gate, and what it gives.
use Rattle.std.proofs.Common.{◌≡◌, ◌∙◌, ap, sym, subst, refl, ℕ, ◌+◌, ◌<◌, ◌≤◌, Bool, true, false, List, [], ◌∷◌, ◌++◌, map, Option, Some, None, IfOk, Ok, Err, All, if◌then◌else◌, length, take, arith, append-nil, suc}
use Rattle.std.specs.Prelude.{IfSome, IsErrOf, MatchResult, Result, bytes_eq, ◌≢◌}
use Rattle.std.specs.List.{list_all}
use Rattle.std.proofs.lemmas.List.{length-map}
use Rattle.std.specs.declared.alloc.Global.{Global}
use Rattle.std.specs.declared.vec.Vec.{Vec}
use Rattle.fx_terms.specs.Graphs.{IsGraph}
use Rattle.fx_terms.specs.declared.allocation.Memory.{Memory}
use Rattle.fx_terms.specs.declared.triples.Triple.{Triple}
use Rattle.fx_outside.specs.Endpoints.{EndpointParts}
use Rattle.fx_algebra.specs.Graphs.{union}
use Rattle.fx_sources.specs.Probes.{Entry}
use Rattle.fx_sources.specs.Sources as source
use Rattle.fx_traffic.specs.Gains.{AreAfter, wires_seen}
use Rattle.fx_wire.specs.Exchanges.{Exchange, IsAfter, Seen, exchanged}
use Rattle.fx_wire.specs.Honest.{IsHonest}
use Rattle.fx_wire.specs.declared.wires.WireError.{WireError}
use Rattle.fx_wire.specs.declared.wires.WireError.TheVariants as wire
use Rattle.fx_pool.proofs.WireLemmas.{after_itself}
use Rattle.fx_pool.proofs.WiresLemmas.{all_tell}
use Rattle.fx_outcomes.specs.Mediation.{AreKnown}
use Rattle.fx_gateway.specs.Connected.{Federation, federation}
use Rattle.fx_gate_wires.specs.Gates.{AnswersOwn, FirstIsAfter, GivesOwn, IsGate, IsGiven, PassedOn}
use Rattle.fx_gate_wires.specs.Told.{first_faults, first_graph, gate_seen, is_triple, told_all, union_told}
use Rattle.fx_gate_wires.proofs.OwnLemmas.{given_is_honest, own_after, own_true}
use Rattle.fx_gate_wires.proofs.ToldLemmas.{at_own, count_elsewhere, elsewhere, told_each, union_is_graph}

-- ---- the first wire

same_graph : (w v : Seen) → IsAfter w v → v.graph ≡ w.graph
same_graph w v h = λ i address. h.same address i

module _ (at : List ℕ) (es : List EndpointParts) where
  pub gate_after : (block : ℕ) (old new : List Entry) (ws vs : List Seen) → IsGate at es old block ws → FirstIsAfter ws vs
      → ((graphs : List (List Triple)) → told_all (first_graph ws) es ≡ Some graphs → All (source.Tells graphs) new) → IsGate at es new block vs
  gate_after block old new [] vs gate h news = let some : 0 < length {A = Seen} [] = gate.some in absurd (omega (arith, some))
  gate_after block old new (w ∷ ws) [] gate h news = let many : length {A = Seen} [] ≡ length (w ∷ ws) = h.as_many in absurd (omega (arith, many))
  gate_after block old new (w ∷ ws) (v ∷ vs) gate h news = record {
    some = omega arith;
    few = (let many : length (v ∷ vs) ≡ length (w ∷ ws) = h.as_many in let few : length (w ∷ ws) ≤ 16 = gate.few in omega (arith, many, few));
    positive = gate.positive;
    small = gate.small;
    distinct = gate.distinct;
    apart = gate.apart;
    entries_are = λ graphs k. news graphs (sym (ap (λ (graph : List ℕ → Option (List Triple)). told_all graph es) (same_graph w v h.first.0)) ∙ k);
  }

  pub told_same : (m n : ℕ) (ws vs : List Seen) → FirstIsAfter ws vs → (address : List ℕ) → (gate_seen at es m vs).graph address ≡ (gate_seen at es n ws).graph address
  told_same m n [] [] h address = refl
  told_same m n [] (v ∷ vs) h address = let many : length (v ∷ vs) ≡ length {A = Seen} [] = h.as_many in absurd (omega (arith, many))
  told_same m n (w ∷ ws) [] h address = let many : length {A = Seen} [] ≡ length (w ∷ ws) = h.as_many in absurd (omega (arith, many))
  told_same m n (w ∷ ws) (v ∷ vs) h address =
      ap (λ (graph : List ℕ → Option (List Triple)). if bytes_eq address at then union_told (told_all graph es) else graph address) (same_graph w v h.first.0)

  pub counts_kept : (m n : ℕ) (ws vs : List Seen) → n ≤ m → FirstIsAfter ws vs → (address : List ℕ) → (gate_seen at es n ws).faults address ≤ (gate_seen at es m vs).faults address
  counts_kept m n ws vs le h address = by (bytes_eq address at) ws vs h
    where
      by : (b : Bool) (xs ys : List Seen) → FirstIsAfter xs ys → (if b then n else first_faults xs address) ≤ (if b then m else first_faults ys address)
      by true xs ys k = le
      by false [] [] k = omega arith
      by false [] (v ∷ ys) k = let many : length (v ∷ ys) ≡ length {A = Seen} [] = k.as_many in absurd (omega (arith, many))
      by false (w ∷ xs) [] k = let many : length {A = Seen} [] ≡ length (w ∷ xs) = k.as_many in absurd (omega (arith, many))
      by false (w ∷ xs) (v ∷ ys) k = k.first.0.kept address

  module _ (later : List ℕ) (others : List EndpointParts) (at_is : later ≡ at) (es_is : others ≡ es) where
    pub told_still : (m n : ℕ) (ws vs : List Seen) → FirstIsAfter ws vs → (address : List ℕ) → (gate_seen later others m vs).graph address ≡ (gate_seen at es n ws).graph address
    told_still m n ws vs h address =
        ap (λ (a : List ℕ). (gate_seen a others m vs).graph address) at_is ∙ ap (λ (l : List EndpointParts). (gate_seen at l m vs).graph address) es_is ∙ told_same m n ws vs h address

    pub counts_still : (m n : ℕ) (ws vs : List Seen) → n ≤ m → FirstIsAfter ws vs → (address : List ℕ) → (gate_seen at es n ws).faults address ≤ (gate_seen later others m vs).faults address
    counts_still m n ws vs le h address =
        let same : (gate_seen later others m vs).faults address ≡ (gate_seen at es m vs).faults address =
        ap (λ (a : List ℕ). (gate_seen a others m vs).faults address) at_is ∙ ap (λ (l : List EndpointParts). (gate_seen at l m vs).faults address) es_is in
        let kept = counts_kept m n ws vs le h address in
        omega (arith, same, kept)

-- ---- at another address

module _ (ws vs : List Seen) (e : EndpointParts) (request : List ℕ) (limit : ℕ) (r : Result (Vec ℕ Global) WireError) (h : PassedOn ws vs e request limit r) where
  gained : (o : Result (Vec ℕ Global) WireError) → MatchResult o (λ reply. h.later.log ≡ h.first.log ++ exchanged e request reply.items ∷ []) (λ _. h.later.log ≡ h.first.log)
      → (part : List Exchange) × (h.later.log ≡ h.first.log ++ part)
  gained (Ok reply) k = (exchanged e request reply.items ∷ [], k)
  gained (Err why) k = ([], k ∙ sym (append-nil h.first.log))

  pub passed_after : FirstIsAfter ws vs
  passed_after =
      subst (λ (l : List Seen). FirstIsAfter l vs) (sym h.before)
      (subst (FirstIsAfter (h.first ∷ h.others)) (sym h.after)
      (record { as_many = refl; first = (record { logged = λ told. gained r (h.logged told); same = h.same; kept = h.kept }, tt) }))

  module _ (at : List ℕ) (es : List EndpointParts) (count : ℕ) (other : e.iri ≢ at) where
    pub passed_honest : IfOk r (λ reply. IfSome ((gate_seen at es count ws).graph e.iri) (λ told. IsGraph told × (length reply.items ≤ limit → IsHonest told request reply.items)))
    passed_honest =
        subst (λ (o : Option (List Triple)). IfOk r (λ reply. IfSome o (λ told. IsGraph told × (length reply.items ≤ limit → IsHonest told request reply.items))))
        (sym (elsewhere at e.iri es count ws other ∙ ap (λ (l : List Seen). first_graph l e.iri) h.before)) h.honest

    before_is : (gate_seen at es count ws).faults e.iri ≡ h.first.faults e.iri
    before_is = count_elsewhere at e.iri es count ws other ∙ ap (λ (l : List Seen). first_faults l e.iri) h.before

    after_is : (gate_seen at es count vs).faults e.iri ≡ h.later.faults e.iri
    after_is = count_elsewhere at e.iri es count vs other ∙ ap (λ (l : List Seen). first_faults l e.iri) h.after

    pub passed_counted : IsErrOf r wire.Failed → (gate_seen at es count vs).faults e.iri ≡ (gate_seen at es count ws).faults e.iri + 1
    passed_counted failed = let more : h.later.faults e.iri ≡ h.first.faults e.iri + 1 = h.counted failed in omega (arith, more, before_is, after_is)

    pub passed_faultless : ¬ IsErrOf r wire.Failed → (gate_seen at es count vs).faults e.iri ≡ (gate_seen at es count ws).faults e.iri
    passed_faultless unfailed = after_is ∙ h.faultless unfailed ∙ sym before_is

-- ---- at its own

-- what a reply that is so long owes
abbrev Owed : ℕ → List ℕ → List ℕ → List Triple → Type 0
Owed limit request reply graph = IsGraph graph × (length reply ≤ limit → IsHonest graph request reply)

module _ {W : Type 0} (see : W → Seen) (tells alone : Bool) (at : List ℕ) (es : List EndpointParts) (old new : List Entry) (block : ℕ) where
  abbrev asked : List W → List W → Federation
  asked ws vs = federation (wires_seen tells alone see (take 1 ws) (take 1 vs)) es old new block

  pub first_known : (ws : List W) → IsGate at es old block (map see ws) → (graphs : List (List Triple)) → told_all (first_graph (map see ws)) es ≡ Some graphs → AreKnown (map see (take 1 ws)) es old graphs
  first_known [] gate graphs k = let some : 0 < length {A = Seen} [] = gate.some in absurd (omega (arith, some))
  first_known (w ∷ ws) gate graphs k = record { told = told_each (see w) es graphs k; entries_are = gate.entries_are graphs k }

  pub own_honest : (ws vs : List W) (count : ℕ) (address request : List ℕ) (limit : ℕ) (reply : List ℕ) → IsGate at es old block (map see ws) → address ≡ at → IsGiven (asked ws vs) request limit reply
      → IfSome ((gate_seen at es count (map see ws)).graph address) (λ told. IsGraph told × (length reply ≤ limit → IsHonest told request reply))
  own_honest ws vs count address request limit reply gate is given =
      subst (λ (o : Option (List Triple)). IfSome o (Owed limit request reply)) (sym (at_own at address es count (map see ws) is)) (by (told_all (first_graph (map see ws)) es) refl)
    where
      by_test : (graphs : List (List Triple)) → told_all (first_graph (map see ws)) es ≡ Some graphs → (b : Bool) → list_all is_triple (union graphs) ≡ b → IfSome (if b then Some (union graphs) else None) (Owed limit request reply)
      by_test graphs k true test = (union_is_graph graphs test, λ short. given_is_honest (asked ws vs) request limit reply given gate.distinct graphs (first_known ws gate graphs k))
      by_test graphs k false test = tt

      by : (o : Option (List (List Triple))) → told_all (first_graph (map see ws)) es ≡ o → IfSome (union_told o) (Owed limit request reply)
      by None k = tt
      by (Some graphs) k = by_test graphs k (list_all is_triple (union graphs)) refl

  -- whatever is given
  pub gives_honest : (ws vs : List W) (count : ℕ) (address request : List ℕ) (limit : ℕ) (r : Result (Vec ℕ Global) WireError) → IsGate at es old block (map see ws) → address ≡ at → GivesOwn (asked ws vs) request limit r
      → IfOk r (λ reply. IfSome ((gate_seen at es count (map see ws)).graph address) (λ told. IsGraph told × (length reply.items ≤ limit → IsHonest told request reply.items)))
  gives_honest ws vs count address request limit (Ok reply) gate is given = own_honest ws vs count address request limit reply.items gate is given
  gives_honest ws vs count address request limit (Err why) gate is given = tt

  -- what it keeps of ASKs stays true
  pub own_gate : (ws vs : List W) (request : List ℕ) (limit : ℕ) (r : Result (Option (Vec ℕ Global)) Memory) → IsGate at es old block (map see ws) → FirstIsAfter (map see ws) (map see vs) → AnswersOwn (asked ws vs) request limit r
      → IsGate at es new block (map see vs)
  own_gate ws vs request limit r gate h a =
      gate_after at es block old new (map see ws) (map see vs) gate h (λ graphs k. own_true (asked ws vs) request limit r a graphs (first_known ws gate graphs k))

-- ---- one wire of several

module _ {W : Type 0} (see : W → Seen) where
  split_first : (x y : W) (right ws vs : List W) → ws ≡ x ∷ right → vs ≡ y ∷ right → IsAfter (see x) (see y) → FirstIsAfter (map see ws) (map see vs)
  split_first x y right ws vs a b h =
      subst (λ (l : List W). FirstIsAfter (map see l) (map see vs)) (sym a)
      (subst (λ (l : List W). FirstIsAfter (map see (x ∷ right)) (map see l)) (sym b) (record { as_many = refl; first = (h, tt) }))

  pub split_after : (ws left right later vs : List W) → ws ≡ left ++ right → length left ≡ 1 → vs ≡ later ++ right → AreAfter (map see left) (map see later) → FirstIsAfter (map see ws) (map see vs)
  split_after ws [] right later vs a one b h = absurd (omega (arith, one))
  split_after ws (x ∷ []) right [] vs a one b h = absurd h
  split_after ws (x ∷ []) right (y ∷ []) vs a one b h = split_first x y right ws vs a b h.0
  split_after ws (x ∷ []) right (y ∷ z ∷ later) vs a one b h = absurd h.1
  split_after ws (x ∷ z ∷ left) right later vs a one b h = absurd (omega (arith, one))

  pub first_of : (ws left right : List W) → ws ≡ left ++ right → length left ≡ 1 → take 1 ws ≡ left
  first_of ws [] right a one = absurd (omega (arith, one))
  first_of ws (x ∷ []) right a one = ap (take 1) a
  first_of ws (x ∷ z ∷ left) right a one = absurd (omega (arith, one))

  as_long : (xs ys : List Seen) → AreAfter xs ys → length ys ≡ length xs
  as_long [] [] h = refl
  as_long [] (y ∷ ys) h = absurd h
  as_long (x ∷ xs) [] h = absurd h
  as_long (x ∷ xs) (y ∷ ys) h = ap suc (as_long xs ys h.1)

  pub later_one : (left later : List W) → length left ≡ 1 → AreAfter (map see left) (map see later) → length later ≡ 1
  later_one left later one h = sym (length-map later see) ∙ as_long (map see left) (map see later) h ∙ length-map left see ∙ one

-- what was asked over one of several wires
module _ {W : Type 0} (see : W → Seen) (tells alone : Bool) (told : (w : W) → (see w).tells_log ≡ tells) (es : List EndpointParts) (old new : List Entry) (block : ℕ)
    (ws left right later : List W) (parts : ws ≡ left ++ right) (one : length left ≡ 1) (request : List ℕ) (limit : ℕ) (r : Result (Option (Vec ℕ Global)) Memory)
    (a : AnswersOwn (federation (wires_seen tells alone see left later) es old new block) request limit r) where
  after_one : AreAfter (map see left) (map see later)
  after_one = own_after (federation (wires_seen tells alone see left later) es old new block) request limit r (all_tell see tells told left) a

  pub answered_over : AnswersOwn (federation (wires_seen tells alone see (take 1 ws) (take 1 (later ++ right))) es old new block) request limit r
  answered_over =
      subst (λ (l : List W). AnswersOwn (federation (wires_seen tells alone see l (take 1 (later ++ right))) es old new block) request limit r) (sym (first_of see ws left right parts one))
      (subst (λ (l : List W). AnswersOwn (federation (wires_seen tells alone see left l) es old new block) request limit r) (sym (first_of see (later ++ right) later right refl (later_one see left later one after_one))) a)

  pub after_over : FirstIsAfter (map see ws) (map see (later ++ right))
  after_over = split_after see ws left right later (later ++ right) parts one refl after_one

-- nothing was asked
pub first_itself : (ws : List Seen) → FirstIsAfter ws ws
first_itself ws = record { as_many = refl; first = after_itself (take 1 ws) }
