-- What holds of the parcels of a run after every list of events.
use Rattle.std.proofs.Common.{◌≡◌, ◌∙◌, ap, sym, subst, refl, ℕ, ◌+◌, List, [], ◌∷◌, ◌++◌, All, IsPermutation, sum_by, arith, append-nil}
use Rattle.std.proofs.lemmas.Grind.{flat_map-append}
use Rattle.std.proofs.lemmas.List.{map-append}
use Rattle.std.proofs.lemmas.List.Elements.{All-append, All-from_recursion}
use Rattle.std.proofs.lemmas.List.Sums.{sum_by-append, sum_by-cons}
use Rattle.fx_terms.specs.declared.triples.Triple.{Triple}
use Rattle.fx_algebra.specs.declared.units.Row.{Row}
use Rattle.fx_algebra.specs.declared.units.Unit as unit
use Rattle.fx_steps.specs.Steps.{stepped}
use Rattle.fx_traffic.specs.Batches.{IsRunSent}
use Rattle.fx_flows.specs.FlowLaw.{Changes, Event, FlowsAreKept, Leads, State, begun, finish, owed, put, take, there}
use Rattle.fx_flows.specs.Parcels.{Finished, IsFinished, IsParcelOf, IsStepOf, created, made, made_by, next_of, of_finished, parcels, sent_in_turn}
use Rattle.fx_flows.specs.declared.parcels.RunShape.{RunShape}
use Rattle.fx_flows.specs.declared.parcels.Parcel.{Parcel}
use Rattle.fx_flows.proofs.ParcelLemmas.{all_entered, all_rows, first_of_all, may_be_sent, next_of_step}

module _ (graph : List Triple) (us : List unit.Unit) (c : RunShape) (batches : List (List Row)) where
  record Holds (s : State) : Type 0 where
    fin : All (IsFinished c) s.spent
    is : All (IsStepOf graph us) s.spent
    even : (h : Parcel → ℕ) → sum_by h (parcels c 0 batches) + sum_by h (created s.spent) ≡ sum_by h (of_finished s.spent) + (sum_by h s.held + sum_by h s.waiting)
    done : s.done ≡ made c s.spent

  one_event : (s : State) (e : Event) (t : State) → Holds s → Changes graph us c s e t → Holds t
  one_event s (put p) t h k = record {
    fin = subst (All (IsFinished c)) (sym k.2) h.fin;
    is = subst (All (IsStepOf graph us)) (sym k.2) h.is;
    even = λ w. subst (λ (v : List Finished). sum_by w (parcels c 0 batches) + sum_by w (created v) ≡ sum_by w (of_finished v) + (sum_by w t.held + sum_by w t.waiting)) (sym k.2)
        (let e = h.even w in let one = k.0 w in let other = k.1 w in omega (arith, e, one, other, sum_by-cons w p t.held, sum_by-cons w p s.waiting));
    done = k.3 ∙ h.done ∙ ap (made c) (sym k.2);
  }
  one_event s (take p) t h k = record {
    fin = subst (All (IsFinished c)) (sym k.2) h.fin;
    is = subst (All (IsStepOf graph us)) (sym k.2) h.is;
    even = λ w. subst (λ (v : List Finished). sum_by w (parcels c 0 batches) + sum_by w (created v) ≡ sum_by w (of_finished v) + (sum_by w t.held + sum_by w t.waiting)) (sym k.2)
        (let e = h.even w in let one = k.0 w in let other = k.1 w in omega (arith, e, one, other, sum_by-cons w p s.held, sum_by-cons w p t.waiting));
    done = k.3 ∙ h.done ∙ ap (made c) (sym k.2);
  }
  one_event s (finish f) t h k = record {
    fin = subst (All (IsFinished c)) (sym k.4) (All-append (IsFinished c) s.spent (f ∷ []) h.fin (All-from_recursion (IsFinished c) (f ∷ []) (k.0, tt)));
    is = subst (All (IsStepOf graph us)) (sym k.4) (All-append (IsStepOf graph us) s.spent (f ∷ []) h.is (All-from_recursion (IsStepOf graph us) (f ∷ []) (k.1, tt)));
    even = λ w. subst (λ (v : List Finished). sum_by w (parcels c 0 batches) + sum_by w (created v) ≡ sum_by w (of_finished v) + (sum_by w t.held + sum_by w t.waiting)) (sym k.4)
        (let e = h.even w in
        let hands = k.2 w in
        let waits = k.3 w in
        let made_is : sum_by w (created (s.spent ++ f ∷ [])) ≡ sum_by w (created s.spent) + sum_by w (next_of f) =
        ap (sum_by w) (flat_map-append next_of s.spent (f ∷ []) ∙ ap (λ (v : List Parcel). created s.spent ++ v) (append-nil (next_of f))) ∙ sum_by-append w (created s.spent) (next_of f) in
        let ended : sum_by w (of_finished (s.spent ++ f ∷ [])) ≡ sum_by w (of_finished s.spent) + w f.of =
        ap (sum_by w) (map-append (λ (g : Finished). g.of) s.spent (f ∷ [])) ∙ sum_by-append w (of_finished s.spent) (f.of ∷ []) ∙ (let one = sum_by-cons w f.of [] in omega (arith, one)) in
        omega (arith, e, hands, waits, made_is, ended, sum_by-cons w f.of t.held, sum_by-append w (next_of f) s.held));
    done =
        k.5 ∙ ap (λ (v : List Row). v ++ made_by c f) h.done
        ∙ sym (flat_map-append (made_by c) s.spent (f ∷ []) ∙ ap (λ (v : List Row). made c s.spent ++ v) (append-nil (made_by c f)))
        ∙ ap (made c) (sym k.4);
  }

  all_events : (s : State) (events : List Event) (t : State) → Holds s → Leads graph us c s events t → Holds t
  all_events s [] t h k = subst Holds k h
  all_events s (e ∷ events) t h k = all_events k.0 events t (one_event s e k.0 h k.1) k.2

  at_the_begin : Holds (begun c batches)
  at_the_begin = record {
    fin = All-from_recursion (IsFinished c) [] tt;
    is = All-from_recursion (IsStepOf graph us) [] tt;
    even = λ w. omega arith;
    done = refl;
  }

pub flows_are_kept : FlowsAreKept
flows_are_kept es graph us c rows batches events s positive units some cut leads =
    let h = all_events graph us c batches (begun c batches) events s (at_the_begin graph us c batches) leads in
    let no_left : (w : Parcel → ℕ) → sum_by w (parcels c 0 batches) + sum_by w (created s.spent) ≡ (sum_by w (of_finished s.spent) + sum_by w (s.held ++ s.waiting)) + sum_by w [] = λ w.
    (let e = h.even w in let b = sum_by-append w s.held s.waiting in let nil : sum_by w [] ≡ 0 = refl in omega (arith, e, b, nil)) in
    let all_there : (w : Parcel → ℕ) → sum_by w (parcels c 0 batches ++ created s.spent) ≡ sum_by w (there s) = λ w.
    (let e = h.even w in omega (arith, e, sum_by-append w (parcels c 0 batches) (created s.spent), sum_by-append w (of_finished s.spent) (s.held ++ s.waiting), sum_by-append w s.held s.waiting)) in
    let both : (w : Parcel → ℕ) → sum_by w (s.held ++ s.waiting) ≡ sum_by w s.held + sum_by w s.waiting = λ w. sum_by-append w s.held s.waiting in
    record {
      all = h.even;
      first = first_of_all es graph us c positive units batches s.spent (s.held ++ s.waiting) [] h.fin h.is no_left (there s) all_there;
      next = λ k u at more. next_of_step es graph us c positive units batches s.spent (s.held ++ s.waiting) [] h.fin h.is no_left k u at more (there s) all_there;
      entered = all_entered es graph us c positive units batches s.spent (s.held ++ s.waiting) [] h.fin h.is no_left rows cut;
      rows_are =
          subst (λ (v : List Row). IsPermutation (v ++ owed graph us (s.held ++ s.waiting)) (stepped graph us rows)) (sym h.done)
          (all_rows graph us c units rows batches s.spent (s.held ++ s.waiting) cut.of_rows h.fin h.is (λ w. let e = h.even w in let b = both w in omega (arith, e, b)));
      sent =
          subst (λ (v : List Parcel). IsRunSent es graph c.block 1 us rows (sent_in_turn es 0 us v)) (append-nil (of_finished s.spent))
          (may_be_sent es graph us c positive units batches s.spent [] (s.held ++ s.waiting) h.fin h.is (λ w. let e = h.even w in let b = both w in let nil : sum_by w [] ≡ 0 = refl in omega (arith, e, b, nil)) (All-from_recursion (IsParcelOf c) [] tt) rows cut);
    }
