-- Endpoints by their numbers and their names, and as many graphs as endpoints.
use Rattle.std.proofs.Common.{◌≡◌, ◌∙◌, ap, sym, refl, ℕ, zero, suc, ◌<◌, List, [], ◌∷◌, length, Some, arith}
use Rattle.std.specs.Prelude.{slice_get}
use Rattle.fx_terms.specs.declared.triples.Triple.{Triple}
use Rattle.fx_outside.specs.Endpoints.{EndpointParts}
use Rattle.fx_traffic.specs.Gains.{TellAll}
use Rattle.fx_wire.specs.Exchanges.{Seen}
use Rattle.fx_outcomes.specs.Mediation.{HasName}

pub as_many_graphs : (wires : List Seen) (es : List EndpointParts) (graphs : List (List Triple)) → TellAll wires es graphs → length graphs ≡ length es
as_many_graphs wires [] [] h = refl
as_many_graphs wires [] (g ∷ graphs) h = absurd h
as_many_graphs wires (e ∷ es) [] h = absurd h
as_many_graphs wires (e ∷ es) (g ∷ graphs) h = let rest = as_many_graphs wires es graphs h.1 in omega arith

-- ---- the cause of a refusal, with the name of the endpoint

-- the endpoint that is named is the one at that number
pub its_name : (es : List EndpointParts) (at it : ℕ) (e : EndpointParts) (name : List ℕ) → it ≡ at → slice_get es at ≡ Some e → HasName es it name → e.name ≡ name
its_name es at it e name same found has =
    let one : Some has.0 ≡ Some e = sym has.1 ∙ ap (slice_get es) same ∙ found in
    let both : has.0 ≡ e = cc in
    sym (ap (λ (d : EndpointParts). d.name) both) ∙ has.2

pub get_below : (es : List EndpointParts) (at : ℕ) (e : EndpointParts) → slice_get es at ≡ Some e → at < length es
get_below [] at e h = absurd (cc)
get_below (d ∷ es) zero e h = omega arith
get_below (d ∷ es) (suc at) e h = let rest = get_below es at e h in omega arith

pub below : (es : List EndpointParts) (at it : ℕ) (e : EndpointParts) → it ≡ at → slice_get es at ≡ Some e → it < length es
below es at it e same found = let low = get_below es at e found in omega (arith, same, low)
