-- The rows that occurrences of SERVICE came to are those that the runs of their query are asked for with.
use Rattle.std.proofs.Common.{◌≡◌, ◌∙◌, ap, sym, subst, refl, inl, inr, ℕ, suc, ◌+◌, Bool, true, false, List, [], ◌∷◌, ◌++◌, map, Option, None, Some, IfSome, IsPermutation, arith, slice_get}
use Rattle.std.specs.List.{AllByRecursion, flat_map}
use Rattle.fx_terms.specs.declared.triples.Triple.{Triple}
use Rattle.fx_terms.proofs.SetLemmas.{Among, among_from}
use Rattle.fx_outside.specs.Endpoints.{EndpointParts}
use Rattle.fx_algebra.specs.Groups.{is_down, one_empty, service_rows}
use Rattle.fx_algebra.specs.Occurrences.{Occurrence as Named}
use Rattle.fx_algebra.specs.Solutions.{Bindings}
use Rattle.fx_algebra.specs.Stations.{Station}
use Rattle.fx_algebra.specs.Stations as station
use Rattle.fx_algebra.specs.declared.queries.Group.{Group}
use Rattle.fx_traffic.specs.Gains.{Tell, TellAll}
use Rattle.fx_traffic.specs.Numbers.{numbered_from, service_in}
use Rattle.fx_wire.specs.Exchanges.{Exchange, Seen}
use Rattle.fx_outcomes.specs.Calls.{AreCalls, Call, Came, HasComeTo, IsPassed, Passes, came_rows, failed, lost, occurrence_in, rows_of, told}
use Rattle.fx_services.specs.Beside.{Occurrence}
use Rattle.fx_walks.specs.GroupsAsked.{HasRows}
use Rattle.fx_walks.specs.Served.{Served, group_in}
use Rattle.fx_outcomes.specs.Mediation.{Serve}
use Rattle.fx_services.specs.ServicesAsked.{AreRowsOver}
use Rattle.fx_outcomes.proofs.DownLemmas.{has_gone}
use Rattle.fx_engine.proofs.ServiceElementLemmas.{rows_answered, rows_down}
use Rattle.fx_outcomes.proofs.TaskLemmas.{AreAtHand}

-- ---- the graph at an address

-- what is told of the address of an endpoint is the graph that serves it
pub served_at : (wires : List Seen) (es : List EndpointParts) (graphs : List (List Triple)) (services : List ℕ → List Triple) (e : EndpointParts) → Among e es → TellAll wires es graphs → Serve services es graphs
    → (graph : List Triple) × Tell wires e.iri graph × (services e.iri ≡ graph)
served_at wires [] graphs services e m h k = absurd m
served_at wires (x ∷ es) [] services e m h k = absurd h
served_at wires (x ∷ es) (graph ∷ graphs) services e (inl same) h k =
    (graph, subst (λ (v : EndpointParts). Tell wires v.iri graph) same h.0, ap (λ (v : EndpointParts). services v.iri) (sym same) ∙ k.0)
served_at wires (x ∷ es) (graph ∷ graphs) services e (inr m) h k = served_at wires es graphs services e m h.1 k.1

-- ---- what is known of each occurrence that passed

-- the rows that its reply told are those over the graph at its address
abbrev pub Fits : (List ℕ → List Triple) → Call → Type 0
Fits services c = IsPassed c × ((rows : List Bindings) → c.came ≡ told rows → AreRowsOver (services c.of.iri) c.of.group rows)

module _ (wires : List Seen) (es : List EndpointParts) (graphs : List (List Triple)) (services : List ℕ → List Triple) (tell : TellAll wires es graphs) (serve : Serve services es graphs) where
  over : (iri : List ℕ) (g : Group) (came : Came) (own : List Exchange) → HasComeTo wires es iri g came own → (rows : List Bindings) → came ≡ told rows → AreRowsOver (services iri) g rows
  over iri g (told found) own h rows is =
      let same : found ≡ rows = cc in
      let at = served_at wires es graphs services h.0 (among_from es h.0 h.1) tell serve in
      let here : services iri ≡ at.0 = ap services (sym h.2) ∙ at.2 in
      subst (λ (v : List Bindings). AreRowsOver (services iri) g v) same
      (subst (λ (v : List Triple). AreRowsOver v g found) (sym here) (h.3.1 at.0 (subst (λ (a : List ℕ). Tell wires a at.0) h.2 at.1)))
  over iri g (failed why) own h rows is = absurd (cc)
  over iri g lost own h rows is = absurd (cc)

  pub calls_fit : (calls : List Call) (xs : List Exchange) → AllByRecursion IsPassed calls → AreCalls wires es calls xs → AllByRecursion (Fits services) calls
  calls_fit [] xs p h = tt
  calls_fit (c ∷ cs) xs p h = ((p.0, over c.of.iri c.of.group c.came h.0 h.3), calls_fit cs h.1 p.1 h.5)

-- ---- station by station

-- the number of the first
abbrev first_number : List (ℕ × Named) → ℕ
first_number [] = 0
first_number (x ∷ xs) = x.0

module _ (served : Served) where
  has_rows : (number : ℕ) (silent : Bool) (iri : List ℕ) (g : Group) (came : Came) → Passes silent came → ((rows : List Bindings) → came ≡ told rows → AreRowsOver (served.graphs iri) g rows) → is_down served.down number ≡ has_gone silent came
      → IsPermutation (came_rows came) (service_rows served.graphs served.down iri (group_in served g) number)
  has_rows number silent iri g (told rows) p f down = rows_answered served number iri g (served.graphs iri) rows down refl (f rows refl)
  has_rows number true iri g (failed why) p f down = rows_down served number iri g one_empty down refl
  has_rows number false iri g (failed why) p f down = absurd (cc)
  has_rows number silent iri g lost p f down = absurd p

  -- the rows at hand of the numbers from one on, and whether they are down
  abbrev AreFrom : ℕ → List Call → Type 0
  AreFrom n cs = ((i : ℕ) → served.rows (n + i) ≡ slice_get (map rows_of cs) i) × ((i : ℕ) (c : Call) → slice_get cs i ≡ Some c → is_down served.down (n + i) ≡ has_gone c.of.silent c.came)

  later : (n : ℕ) (c : Call) (cs : List Call) → AreFrom n (c ∷ cs) → AreFrom (suc n) cs
  later n c cs h = (
    (λ i. let next : suc n + i ≡ n + suc i = omega arith in ap served.rows next ∙ h.0 (suc i)),
    λ i d is. let next : suc n + i ≡ n + suc i = omega arith in ap (is_down served.down) next ∙ h.1 (suc i) d is,
  )

  none_later : (n : ℕ) → AreFrom n [] → AreFrom (suc n) []
  none_later n h = (
    (λ i. let next : suc n + i ≡ n + suc i = omega arith in ap served.rows next ∙ h.0 (suc i)),
    λ i d is. absurd (cc),
  )

  abbrev Served_by : List Station → List Call → Type 0
  Served_by ss cs = AreAtHand served ss (map rows_of cs) × AllByRecursion (HasRows served) ss

  pub at_hand : (ss : List Station) (n : ℕ) (os : List Named) → flat_map service_in ss ≡ numbered_from n os → (cs : List Call) (others : List Occurrence) → map (λ c. c.of) cs ++ others ≡ flat_map occurrence_in ss → AreFrom n cs → AllByRecursion (Fits served.graphs) cs
      → Served_by ss cs
  at_hand [] n os numbers cs others are from fit = none cs others are
    where
      none : (cs : List Call) (others : List Occurrence) → map (λ c. c.of) cs ++ others ≡ [] → Served_by [] cs
      none cs others e = (tt, tt)
  at_hand (station.run ps filters before ∷ ss) n os numbers cs others are from fit = let rest = at_hand ss n os numbers cs others are from fit in (rest.0, (tt, rest.1))
  at_hand (station.service number silent iri g ∷ ss) n [] numbers cs others are from fit =
      let some : (number, (iri, silent)) ∷ flat_map service_in ss ≡ [] = numbers in
      absurd (cc)
  at_hand (station.service number silent iri g ∷ ss) n (o ∷ os) numbers [] others are from fit =
      let all : (number, (iri, silent)) ∷ flat_map service_in ss ≡ (n, o) ∷ numbered_from (suc n) os = numbers in
      let here : number ≡ n = ap first_number all in
      let tail : flat_map service_in ss ≡ numbered_from (suc n) os = cc in
      let lacks : served.rows number ≡ None = (let same : number ≡ n + 0 = omega (arith, here) in ap served.rows same ∙ from.0 0) in
      let rest = at_hand ss (suc n) os tail [] (flat_map occurrence_in ss) refl (none_later n from) tt in
      ((lacks, rest.0), (subst (λ (v : Option (List Bindings)). IfSome v (λ rows. IsPermutation rows (service_rows served.graphs served.down iri (group_in served g) number))) (sym lacks) tt, rest.1))
  at_hand (station.service number silent iri g ∷ ss) n (o ∷ os) numbers (c ∷ cs) others are from fit =
      let all : (number, (iri, silent)) ∷ flat_map service_in ss ≡ (n, o) ∷ numbered_from (suc n) os = numbers in
      let here : number ≡ n = ap first_number all in
      let tail : flat_map service_in ss ≡ numbered_from (suc n) os = cc in
      let it : Occurrence = record { silent = silent; iri = iri; group = g } in
      let both : c.of ∷ (map (λ c. c.of) cs ++ others) ≡ it ∷ flat_map occurrence_in ss = are in
      let is : c.of ≡ it = cc in
      let behind : map (λ c. c.of) cs ++ others ≡ flat_map occurrence_in ss = cc in
      let same : number ≡ n + 0 = omega (arith, here) in
      let has : served.rows number ≡ Some (rows_of c) = ap served.rows same ∙ from.0 0 in
      let down : is_down served.down number ≡ has_gone silent c.came = ap (is_down served.down) same ∙ from.1 0 c refl ∙ ap (λ (v : Occurrence). has_gone v.silent c.came) is in
      let passes : Passes silent c.came = subst (λ (v : Occurrence). Passes v.silent c.came) is fit.0.0 in
      let told_over : (rows : List Bindings) → c.came ≡ told rows → AreRowsOver (served.graphs iri) g rows =
      λ rows e. subst (λ (v : Occurrence). AreRowsOver (served.graphs v.iri) v.group rows) is (fit.0.1 rows e) in
      let rest = at_hand ss (suc n) os tail cs others behind (later n c cs from) fit.1 in
      let own : IsPermutation (came_rows c.came) (service_rows served.graphs served.down iri (group_in served g) number) = has_rows number silent iri g c.came passes told_over down in
      ((has, rest.0), (subst (λ (v : Option (List Bindings)). IfSome v (λ rows. IsPermutation rows (service_rows served.graphs served.down iri (group_in served g) number))) (sym has) own, rest.1))
