-- What connections are told that are served one after another.
use Rattle.std.proofs.Common.{sym, subst, ℕ, List, [], ◌∷◌}
use Rattle.std.specs.Prelude.{All}
use Rattle.std.proofs.lemmas.List.Elements.{All-cons, All-nil}
use Rattle.fx_terms.specs.declared.triples.Triple.{Triple}
use Rattle.fx_outcomes.specs.Mediation.{AreKnown, Serve}
use Rattle.fx_outcomes.specs.Outcomes.{AllTell}
use Rattle.fx_traffic.specs.Gains.{AreAfter}
use Rattle.fx_pool.proofs.WireLemmas.{after_itself}
use Rattle.fx_pool.proofs.WiresLemmas.{all_after, still_tell_all}
use Rattle.fx_gateway.proofs.ToldLemmas.{are_after, are_told, stay_true}
use Rattle.fx_serve.specs.Connections.{AreServed, Connection, Known, Members, WasServed, asked_between}
use Rattle.fx_serve.specs.Laws.{IsToldOver, ServedAreTold, WiresAreAfter}

-- ---- wires

one_after : (m : Members) (now : Known) (c : Connection) → AllTell m.tells now.wires → WasServed (asked_between m now c.behind) c → AreAfter now.wires c.behind.wires
one_after m now c alike was = are_after c.before c.after (asked_between m now c.behind) c.given was.connected alike

pub wires_after : WiresAreAfter
wires_after m first last [] alike h = subst (λ (k : Known). AreAfter first.wires k.wires) (sym h) (after_itself first.wires)
wires_after m first last (c ∷ cs) alike h =
    all_after m.tells first.wires c.behind.wires last.wires alike h.0.alike (one_after m first c alike h.0) (wires_after m c.behind last cs h.0.alike h.1)

-- ---- what is told

module _ (m : Members) (graphs : List (List Triple)) (services : List ℕ → List Triple) (serve : Serve services m.endpoints graphs) where
  still_known : (now : Known) (c : Connection) → AllTell m.tells now.wires → WasServed (asked_between m now c.behind) c → AreKnown now.wires m.endpoints now.entries graphs → AreKnown c.behind.wires m.endpoints c.behind.entries graphs
  still_known now c alike was k = record {
    told = still_tell_all now.wires c.behind.wires (one_after m now c alike was) m.endpoints graphs k.told;
    entries_are = stay_true c.before c.after (asked_between m now c.behind) c.given was.connected graphs k;
  }

  told_from : (first last : Known) (cs : List Connection) → AllTell m.tells first.wires → AreServed m first cs last → AreKnown first.wires m.endpoints first.entries graphs → All (IsToldOver m.endpoints graphs services) cs
  told_from first last [] alike h k = All-nil (IsToldOver m.endpoints graphs services)
  told_from first last (c ∷ cs) alike h k =
      All-cons (IsToldOver m.endpoints graphs services) c cs (λ tells. are_told c.before c.after (asked_between m first c.behind) c.given h.0.connected tells graphs k services serve)
      (told_from c.behind last cs h.0.alike h.1 (still_known first c alike h.0 k))

pub are_told_all : ServedAreTold
are_told_all m first last cs alike h graphs k services serve = told_from m graphs services serve first last cs alike h k
