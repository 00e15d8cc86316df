-- Connections that were served one after another, and what came in and went out at the door.
use Rattle.std.proofs.Common.{◌≡◌, ◌∙◌, ap, sym, subst, ℕ, suc, ◌+◌, ◌≤◌, List, [], ◌∷◌, ◌++◌, map, length, append_assoc, append-nil, arith}
use Rattle.std.specs.Prelude.{All}
use Rattle.std.proofs.lemmas.List.Elements.{All-append, All-nil}
use Rattle.std.proofs.lemmas.List.{map-append}
use Rattle.fx_outside.specs.Doors.{DoorSeen, Output}
use Rattle.fx_outside.specs.Endpoints.{EndpointParts}
use Rattle.fx_outcomes.specs.Outcomes.{AllTell}
use Rattle.fx_serve.specs.Connections.{AreServed, Connection, HaveCome, IsFresh, IsReplied, Known, Members, WasServed, asked_between, input_of, kept_of, lines_from, lines_of}
use Rattle.fx_serve.specs.Serving.{WereServed}
use Rattle.fx_serve.proofs.ToldLemmas.{are_told_all}

-- ---- lines

-- those of one more
pub lines_more : (es : List EndpointParts) (n k : ℕ) (cs : List Connection) (c : Connection) → k ≡ n + length cs → lines_from es n (cs ++ c ∷ []) ≡ lines_from es n cs ++ lines_of es k c.given
lines_more es n k [] c h = append-nil (lines_of es n c.given) ∙ ap (λ j. lines_of es j c.given) {x = n} {y = k} (omega (arith, h))
lines_more es n k (x ∷ cs) c h =
    ap (λ v. lines_of es n x.given ++ v) (lines_more es (suc n) k cs c (omega (arith, h))) ∙ sym (append_assoc (lines_of es n x.given) (lines_from es (suc n) cs) (lines_of es k c.given))

-- ---- one after another

pub served_then : (m : Members) (first now later : Known) (cs ds : List Connection) → AreServed m first cs now → AreServed m now ds later → AreServed m first (cs ++ ds) later
served_then m first now later [] ds h k = subst (λ (at : Known). AreServed m at ds later) h k
served_then m first now later (c ∷ cs) ds h k = (h.0, served_then m c.behind now later cs ds h.1 k)

pub served_one : (m : Members) (now later : Known) (c : Connection) → WasServed (asked_between m now later) c → c.behind ≡ later → AreServed m now (c ∷ []) later
served_one m now later c was is = (subst (λ (k : Known). WasServed (asked_between m now k) c) (sym is) was, sym is)

pub were_served : (m : Members) (first now last : Known) (cs lost : List Connection) → AllTell m.tells first.wires → AreServed m first cs now → All IsReplied cs → AreServed m now lost last → length lost ≤ 1 → WereServed m first last cs lost
were_served m first now last cs lost alike h replied k few = record { served = served_then m first now last cs lost h k; replied = replied; few = few; told = are_told_all m first now cs alike h }

-- ---- at the door

pub come_then : (before mid after : DoorSeen) (cs ds : List Connection) (unanswered : List (List ℕ)) → HaveCome before mid cs [] → HaveCome mid after ds unanswered → HaveCome before after (cs ++ ds) unanswered
come_then before mid after cs ds unanswered h k = record {
  fresh = All-append IsFresh cs ds h.fresh k.fresh;
  went_out = k.went_out ∙ ap (λ (os : List Output). os ++ map kept_of ds) h.went_out ∙ append_assoc before.outputs (map kept_of cs) (map kept_of ds) ∙ ap (λ (os : List Output). before.outputs ++ os) (sym (map-append kept_of cs ds));
  came_in =
      h.came_in
      ∙ ap (λ (is : List (List ℕ)). map input_of cs ++ is) k.came_in
      ∙ sym (append_assoc (map input_of cs) (map input_of ds) (unanswered ++ after.inputs))
      ∙ ap (λ (is : List (List ℕ)). is ++ (unanswered ++ after.inputs)) (sym (map-append input_of cs ds));
}

-- the connections alone, where no other came
pub come_cut : (before mid after : DoorSeen) (cs : List Connection) (unanswered : List (List ℕ)) → HaveCome before mid cs [] → HaveCome mid after [] unanswered → HaveCome before after cs unanswered
come_cut before mid after cs unanswered h k = subst (λ (ds : List Connection). HaveCome before after ds unanswered) (append-nil cs) (come_then before mid after cs [] unanswered h k)

pub none_came : (before after : DoorSeen) → after.outputs ≡ before.outputs → after.inputs ≡ before.inputs → HaveCome before after [] []
none_came before after o i = record { fresh = All-nil IsFresh; went_out = o ∙ sym (append-nil before.outputs); came_in = sym i }

-- a door whose inputs and outputs are the same
pub come_from : (before mid after : DoorSeen) (cs : List Connection) (unanswered : List (List ℕ)) → mid.outputs ≡ before.outputs → mid.inputs ≡ before.inputs → HaveCome mid after cs unanswered → HaveCome before after cs unanswered
come_from before mid after cs unanswered o i h = come_then before mid after [] cs unanswered (none_came before mid o i) h
