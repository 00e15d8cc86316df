-- What asking leaves of wires where nothing was asked for, and which endpoint a number names.
use Rattle.std.proofs.Common.{◌≡◌, ℕ, zero, suc, ◌<◌, ◌≤◌, Bool, true, false, List, [], ◌∷◌, Some, Contains, ltb, ltb-true, ltb-false, slice_get, inl, inr, ◌⊎◌, arith}
use Rattle.fx_terms.proofs.SetLemmas.{Among, contains_from}
use Rattle.fx_outside.specs.Endpoints.{EndpointParts}
use Rattle.fx_traffic.proofs.GainLemmas.{gain_laws}
use Rattle.fx_wire.specs.Exchanges.{Seen}
use Rattle.fx_pool.proofs.WireLemmas.{after_itself}
use Rattle.fx_services.specs.Went.{Went}

pub went_nowhere : (tells alone : Bool) (wires : List Seen) → Went tells alone 0 wires wires []
went_nowhere tells alone wires = record { gained = λ told. gain_laws.nothing wires; after_all = after_itself wires; counted = λ is address. omega arith }

get_among : (es : List EndpointParts) (at : ℕ) (e : EndpointParts) → slice_get es at ≡ Some e → Among e es
get_among [] at e h = absurd (cc)
get_among (d ∷ es) zero e h = let same : d ≡ e = cc in inl same
get_among (d ∷ es) (suc at) e h = inr (get_among es at e h)

pub found_here : (es : List EndpointParts) (at : ℕ) (e : EndpointParts) → slice_get es at ≡ Some e → Contains es e
found_here es at e h = contains_from es e (get_among es at e h)

pub long_or_short : (n : ℕ) (b : Bool) → ltb 67108864 n ≡ b → (67108864 < n) ⊎ (n ≤ 67108864)
long_or_short n true h = inl (ltb-true 67108864 n h)
long_or_short n false h = inr (ltb-false 67108864 n h)
