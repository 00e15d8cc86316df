-- What the runs of a query send, and with the texts of its occurrences of SERVICE all that it sends.
use Rattle.std.proofs.Common.{◌≡◌, ◌∙◌, ap, sym, subst, refl, ◌⊎◌, ℕ, List, [], ◌∷◌, ◌++◌, append_assoc, IsPermutation}
use Rattle.std.specs.List.{flat_map}
use Rattle.std.proofs.lemmas.List.Sorted.{IsPermutation-refl, IsPermutation-trans, IsPermutation-append}
use Rattle.fx_terms.specs.declared.triples.Triple.{Triple}
use Rattle.fx_outside.specs.Endpoints.{EndpointParts}
use Rattle.fx_algebra.specs.Solutions.{Bindings}
use Rattle.fx_algebra.specs.Stations.{Station}
use Rattle.fx_algebra.specs.Stations as station
use Rattle.fx_traffic.specs.Sent.{Sent}
use Rattle.fx_traffic.specs.Traffic.{AreStationsSent, IsServiceSent}
use Rattle.fx_traffic.proofs.SentLemmas.{middle_changes}
use Rattle.fx_outcomes.specs.Calls.{occurrence_in}
use Rattle.fx_services.specs.Beside.{Occurrence}
use Rattle.fx_walks.specs.RunsSent.{AreRunsSent}

-- each occurrence has its one text, or nothing
abbrev pub AreCalled : List EndpointParts → List Occurrence → List Sent → Type 0
AreCalled endpoints [] wanted = wanted ≡ []
AreCalled endpoints (o ∷ os) wanted = (own : List Sent) × (rest : List Sent) × (wanted ≡ own ++ rest) × ((own ≡ []) ⊎ IsServiceSent endpoints o.iri o.group own) × AreCalled endpoints os rest

module _ (endpoints : List EndpointParts) (graphs : List (List Triple)) (block : ℕ) where
  -- what runs and occurrences send is, in some order, what the stations send
  pub record SentByAll (stations : List Station) (seeds : List (List Bindings)) (runs texts : List Sent) : Type 0 where
    pub all : List Sent
    pub sent : AreStationsSent endpoints graphs block stations seeds all
    pub same : IsPermutation (runs ++ texts) all

  pub sent_by_all : (stations : List Station) (seeds : List (List Bindings)) (runs texts : List Sent) → AreRunsSent endpoints graphs block stations seeds runs → AreCalled endpoints (flat_map occurrence_in stations) texts
      → SentByAll stations seeds runs texts
  sent_by_all [] [] runs texts h k = record {
    all = [];
    sent = refl;
    same = subst (λ (v : List Sent). IsPermutation v []) (sym (ap (λ (v : List Sent). v ++ texts) h ∙ k)) (IsPermutation-refl []);
  }
  sent_by_all [] (rows ∷ seeds) runs texts h k = absurd h
  sent_by_all (s ∷ stations) [] runs texts h k = absurd h
  sent_by_all (station.run ps filters before ∷ stations) (rows ∷ seeds) runs texts h k =
      let rest = sent_by_all stations seeds h.1 texts h.4 k in
      record {
        all = h.0 ++ rest.all;
        sent = (h.0, rest.all, refl, h.3, rest.sent);
        same = subst (λ (v : List Sent). IsPermutation v (h.0 ++ rest.all)) (sym (ap (λ (v : List Sent). v ++ texts) h.2 ∙ append_assoc h.0 h.1 texts)) (IsPermutation-append h.0 h.0 (h.1 ++ texts) rest.all (IsPermutation-refl h.0) rest.same);
      }
  sent_by_all (station.service number silent iri g ∷ stations) (rows ∷ seeds) runs texts h k =
      let rest = sent_by_all stations seeds h.1 k.1 h.4 k.4 in
      let mine : runs ≡ h.1 = h.2 ∙ ap (λ (v : List Sent). v ++ h.1) h.3 in
      let moved : IsPermutation (([] ++ h.1) ++ (k.0 ++ k.1)) (([] ++ k.0) ++ (h.1 ++ k.1)) = middle_changes [] h.1 k.0 k.1 in
      record {
        all = k.0 ++ rest.all;
        sent = (k.0, rest.all, refl, k.3, rest.sent);
        same =
            subst (λ (v : List Sent). IsPermutation (v ++ texts) (k.0 ++ rest.all)) (sym mine)
            (subst (λ (v : List Sent). IsPermutation (h.1 ++ v) (k.0 ++ rest.all)) (sym k.2)
            (IsPermutation-trans (h.1 ++ (k.0 ++ k.1)) (k.0 ++ (h.1 ++ k.1)) (k.0 ++ rest.all) moved (IsPermutation-append k.0 k.0 (h.1 ++ k.1) rest.all (IsPermutation-refl k.0) rest.same)));
      }
