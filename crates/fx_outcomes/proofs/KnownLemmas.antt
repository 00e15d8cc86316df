-- The occurrences of SERVICE of an accepted query, by what the definition of its occurrences says; and those without SILENT that name an endpoint.
use Rattle.std.proofs.Common.{◌≡◌, ◌≢◌, ◌∙◌, ap, sym, subst, refl, inl, inr, ℕ, suc, Bool, true, false, List, [], ◌∷◌, map, None, Some, All, if◌then◌else◌}
use Rattle.std.specs.List.{AllByRecursion, flat_map}
use Rattle.std.proofs.lemmas.List.Elements.{All-from_recursion, recursion_from_All}
use Rattle.fx_terms.proofs.SetLemmas.{Among}
use Rattle.fx_outside.specs.Endpoints.{EndpointParts}
use Rattle.fx_algebra.specs.Cuts.{stations}
use Rattle.fx_algebra.specs.Occurrences.{Occurrence as Named, services}
use Rattle.fx_algebra.specs.Stations.{Station}
use Rattle.fx_algebra.specs.Stations as station
use Rattle.fx_algebra.specs.declared.queries.Query.{Query}
use Rattle.fx_grammar.specs.Accepted.{Accepted}
use Rattle.fx_traffic.specs.Numbers.{numbered_from, service_in}
use Rattle.fx_traffic.proofs.NumberLemmas.{stations_have_the_numbers}
use Rattle.fx_outcomes.specs.Calls.{occurrence_in, occurrences}
use Rattle.fx_depths.specs.Shallow.{IsShallow}
use Rattle.fx_depths.proofs.ServiceDepths.{services_are_shallow}
use Rattle.fx_services.specs.Beside.{AreServable, Occurrence}
use Rattle.fx_services.specs.ServicesAsked.{IsServable}
use Rattle.fx_walks.specs.Unknown.{first_unknown, is_registered, unknown_of}
use Rattle.fx_outcomes.proofs.ServableLemmas.{HasServed, servable, services_of_the_grammar}
use Rattle.fx_walks.proofs.RegisteredLemmas.{unregistered_by}

abbrev pub named_of : Occurrence → Named
named_of o = (o.iri, o.silent)

of_stations : (ss : List Station) → map (λ (p : ℕ × Named). p.1) (flat_map service_in ss) ≡ map named_of (flat_map occurrence_in ss)
of_stations [] = refl
of_stations (station.run ps filters before ∷ ss) = of_stations ss
of_stations (station.service number silent iri g ∷ ss) = ap (λ (v : List Named). (iri, silent) ∷ v) (of_stations ss)

of_numbers : (n : ℕ) (os : List Named) → map (λ (p : ℕ × Named). p.1) (numbered_from n os) ≡ os
of_numbers n [] = refl
of_numbers n (o ∷ os) = ap (λ (v : List Named). o ∷ v) (of_numbers (suc n) os)

pub services_are : (text : List ℕ) (q : Query) → Accepted text q → services q ≡ map named_of (occurrences q)
services_are text q accepted = sym (of_numbers 0 (services q)) ∙ ap (map (λ (p : ℕ × Named). p.1)) (sym (stations_have_the_numbers text q accepted)) ∙ of_stations (stations q)

-- ---- registered

plain_registered : (es : List EndpointParts) (os : List Named) → first_unknown es os ≡ None → (iri : List ℕ) → Among (iri, false) os → is_registered es iri ≡ true
plain_registered es [] h iri m = absurd m
plain_registered es ((i, true) ∷ os) h iri (inl same) = let no : true ≡ false = ap (λ (p : Named). p.1) same in absurd (cc)
plain_registered es ((i, true) ∷ os) h iri (inr m) = plain_registered es os h iri m
plain_registered es ((i, false) ∷ os) h iri m = by (is_registered es i) refl h m (λ k n. plain_registered es os k iri n)
  where
    by : (b : Bool) → is_registered es i ≡ b → (if b then first_unknown es os else Some i) ≡ None → Among (iri, false) ((i, false) ∷ os) → (first_unknown es os ≡ None → Among (iri, false) os → is_registered es iri ≡ true) → is_registered es iri ≡ true
    by true is k (inl same) f = let here : i ≡ iri = ap (λ (p : Named). p.0) same in ap (is_registered es) (sym here) ∙ is
    by true is k (inr m) f = f k m
    by false is k m f = absurd (cc)

among_named : (o : Occurrence) (os : List Occurrence) → Among o os → Among (named_of o) (map named_of os)
among_named o [] m = absurd m
among_named o (x ∷ os) (inl same) = inl (ap named_of same)
among_named o (x ∷ os) (inr m) = inr (among_named o os m)

-- where each occurrence without SILENT names an endpoint, one has its address
pub plain_is_known : (es : List EndpointParts) (text : List ℕ) (q : Query) → Accepted text q → unknown_of es q ≡ None → (o : Occurrence) → Among o (occurrences q) → o.silent ≡ false → All (λ (e : EndpointParts). e.iri ≢ o.iri) es → ⊥
plain_is_known es text q accepted known o m plain none =
    let its : Among (o.iri, false) (services q) =
    subst (λ (v : List Named). Among (o.iri, false) v) (sym (services_are text q accepted)) (subst (λ (b : Bool). Among (o.iri, b) (map named_of (occurrences q))) plain (among_named o (occurrences q) m)) in
    let is : is_registered es o.iri ≡ true = plain_registered es (services q) known o.iri its in
    let isnt : is_registered es o.iri ≡ false = unregistered_by es o.iri none in
    absurd (cc)

-- ---- what can be sent

each_servable : (ss : List Station) → AllByRecursion HasServed ss → AllByRecursion IsShallow ss → AllByRecursion (λ (o : Occurrence). IsServable o.group) (flat_map occurrence_in ss)
each_servable [] h k = tt
each_servable (station.run ps filters before ∷ ss) h k = each_servable ss h.1 k.1
each_servable (station.service number silent iri g ∷ ss) h k = (servable g h.0 k.0, each_servable ss h.1 k.1)

-- the text of each occurrence of an accepted query is accepted
pub occurrences_servable : (text : List ℕ) (q : Query) → Accepted text q → AreServable (occurrences q)
occurrences_servable text q accepted =
    All-from_recursion (λ (o : Occurrence). IsServable o.group) (occurrences q)
    (each_servable (stations q) (recursion_from_All HasServed (stations q) (services_of_the_grammar text q accepted)) (recursion_from_All IsShallow (stations q) (services_are_shallow text q accepted)))
