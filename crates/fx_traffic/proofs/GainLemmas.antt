-- What wires gained adds up.
use Rattle.std.proofs.Common.{◌≡◌, ◌∙◌, ap, sym, subst, refl, ℕ, zero, suc, ◌≤◌, List, [], ◌∷◌, ◌++◌, Some, slice_get, arith, IsPermutation, append_assoc, append-nil}
use Rattle.std.proofs.lemmas.List.Sums.{sum_by-append, sum_by-cons}
use Rattle.std.proofs.lemmas.List.Sorted.{IsPermutation-refl, IsPermutation-append_right, IsPermutation-trans}
use Rattle.fx_terms.specs.declared.triples.Triple.{Triple}
use Rattle.fx_outside.specs.Endpoints.{EndpointParts}
use Rattle.fx_wire.specs.Exchanges.{Exchange, Seen}
use Rattle.fx_traffic.specs.Gains.{FaultsAddUp, FaultsNeverFall, GainLaws, GainedBeside, GainedInTurn, GainsOfBoth, HaveGained, NothingGained, Tell, TellAll, TellEach, TellOf, faults_at}
use Rattle.fx_traffic.proofs.SentLemmas.{middle_changes}

nothing_gained : NothingGained
nothing_gained [] = refl
nothing_gained (wire ∷ wires) = ([], [], refl, sym (append-nil wire.log), nothing_gained wires)

-- what the first wire gained in both calls, before what the others did
with_first : (before later : List Seen) (wire after : Seen) (own more rest other : List Exchange) → after.log ≡ wire.log ++ (own ++ more) → GainsOfBoth before later rest other → GainsOfBoth (wire ∷ before) (after ∷ later) (own ++ rest) (more ++ other)
with_first before later wire after own more rest other e both = record {
  all = (own ++ more) ++ both.all;
  gained = (own ++ more, both.all, refl, e, both.gained);
  same =
      IsPermutation-trans ((own ++ rest) ++ (more ++ other)) ((own ++ more) ++ (rest ++ other)) ((own ++ more) ++ both.all) (middle_changes own rest more other)
      (IsPermutation-append_right (own ++ more) (rest ++ other) both.all both.same);
}

gained_in_turn : GainedInTurn
gained_in_turn [] [] [] xs ys h k = record {
  all = [];
  gained = refl;
  same = subst (λ (v : List Exchange). IsPermutation (v ++ ys) []) (sym h) (subst (λ (v : List Exchange). IsPermutation v []) (sym k) (IsPermutation-refl []));
}
gained_in_turn [] [] (a ∷ after) xs ys h k = absurd k
gained_in_turn [] (b ∷ between) after xs ys h k = absurd h
gained_in_turn (w ∷ wires) [] after xs ys h k = absurd h
gained_in_turn (w ∷ wires) (b ∷ between) [] xs ys h k = absurd k
gained_in_turn (w ∷ wires) (b ∷ between) (a ∷ after) xs ys h k =
    subst (λ (v : List Exchange). GainsOfBoth (w ∷ wires) (a ∷ after) v ys) (sym h.2)
    (subst (λ (v : List Exchange). GainsOfBoth (w ∷ wires) (a ∷ after) (h.0 ++ h.1) v) (sym k.2)
    (with_first wires after w a h.0 k.0 h.1 k.1 (k.3 ∙ ap (λ (v : List Exchange). v ++ k.0) h.3 ∙ append_assoc w.log h.0 k.0) (gained_in_turn wires between after h.1 k.1 h.4 k.4)))

gained_beside : GainedBeside
gained_beside [] [] others others_later xs ys h k = subst (λ (v : List Exchange). HaveGained others others_later (v ++ ys)) (sym h) k
gained_beside [] (l ∷ laters) others others_later xs ys h k = absurd h
gained_beside (w ∷ wires) [] others others_later xs ys h k = absurd h
gained_beside (w ∷ wires) (l ∷ laters) others others_later xs ys h k =
    (h.0, h.1 ++ ys, ap (λ (v : List Exchange). v ++ ys) h.2 ∙ append_assoc h.0 h.1 ys, h.3, gained_beside wires laters others others_later h.1 ys h.4 k)

faults_add_up : FaultsAddUp
faults_add_up wires others address = sum_by-append (λ (w : Seen). w.faults address) wires others

faults_never_fall : FaultsNeverFall
faults_never_fall [] [] address h = omega arith
faults_never_fall [] (l ∷ laters) address h = absurd h
faults_never_fall (w ∷ wires) [] address h = absurd h
faults_never_fall (w ∷ wires) (l ∷ laters) address h =
    let here : w.faults address ≤ l.faults address = h.0.kept address in
    let rest : faults_at wires address ≤ faults_at laters address = faults_never_fall wires laters address h.1 in
    omega (arith, here, rest, sum_by-cons (λ (s : Seen). s.faults address) w wires, sum_by-cons (λ (s : Seen). s.faults address) l laters)

tell_each : TellEach
tell_each wires [] graphs h at e found = cc
tell_each wires (f ∷ endpoints) [] h at e found = absurd h
tell_each wires (f ∷ endpoints) (g ∷ graphs) h zero e found = let same : f ≡ e = cc in subst (λ (v : EndpointParts). Tell wires v.iri g) same h.0
tell_each wires (f ∷ endpoints) (g ∷ graphs) h (suc at) e found = tell_each wires endpoints graphs h.1 at e found

-- so they tell the graphs of any numbers
pub told_of : (wires : List Seen) (endpoints : List EndpointParts) (graphs : List (List Triple)) (Of : ℕ → Type 0) → TellAll wires endpoints graphs → TellOf wires endpoints graphs Of
told_of wires endpoints graphs Of h = λ at e of found. tell_each wires endpoints graphs h at e found

pub gain_laws : GainLaws
gain_laws = record { nothing = nothing_gained; in_turn = gained_in_turn; beside = gained_beside; add_up = faults_add_up; never_fall = faults_never_fall; each_tells = tell_each }
