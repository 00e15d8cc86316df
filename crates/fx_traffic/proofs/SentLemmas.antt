-- What was sent adds up.
use Rattle.std.proofs.Common.{◌∙◌, ap, sym, subst, List, ◌++◌, map, IsPermutation, append_assoc}
use Rattle.std.proofs.lemmas.List.{map-append}
use Rattle.std.proofs.lemmas.List.Sorted.{IsPermutation-refl, IsPermutation-append, IsPermutation-append_comm, IsPermutation-append_left, IsPermutation-append_right, IsPermutation-map, IsPermutation-sym, IsPermutation-trans}
use Rattle.fx_traffic.specs.Sent.{NothingSent, Sent, SentInAnyOrder, SentInPart, SentLaws, SentTogether, sent_of}

-- the two in the middle change places
pub middle_changes : {X : Type 0} (us vs ws xs : List X) → IsPermutation ((us ++ vs) ++ (ws ++ xs)) ((us ++ ws) ++ (vs ++ xs))
middle_changes {X} us vs ws xs =
    subst (λ (all : List X). IsPermutation all ((us ++ ws) ++ (vs ++ xs))) (sym (append_assoc us vs (ws ++ xs)))
    (subst (λ (all : List X). IsPermutation (us ++ (vs ++ (ws ++ xs))) all) (sym (append_assoc us ws (vs ++ xs)))
    (IsPermutation-append_right us (vs ++ (ws ++ xs)) (ws ++ (vs ++ xs)) behind))
  where
    behind : IsPermutation (vs ++ (ws ++ xs)) (ws ++ (vs ++ xs))
    behind =
        subst (λ (all : List X). IsPermutation all (ws ++ (vs ++ xs))) (append_assoc vs ws xs)
        (subst (λ (all : List X). IsPermutation ((vs ++ ws) ++ xs) all) (append_assoc ws vs xs) (IsPermutation-append_left xs (vs ++ ws) (ws ++ vs) (IsPermutation-append_comm vs ws)))

nothing_sent : NothingSent
nothing_sent wanted = IsPermutation-refl wanted

sent_together : SentTogether
sent_together wanted left also_wanted also_left xs ys h k =
    subst (λ (v : List Sent). IsPermutation (v ++ (left ++ also_left)) (wanted ++ also_wanted)) (sym (map-append sent_of xs ys))
    (IsPermutation-trans _ _ _ (middle_changes (map sent_of xs) (map sent_of ys) left also_left) (IsPermutation-append (map sent_of xs ++ left) wanted (map sent_of ys ++ also_left) also_wanted h k))

sent_in_any_order : SentInAnyOrder
sent_in_any_order wanted left xs ys same h =
    IsPermutation-trans (map sent_of ys ++ left) (map sent_of xs ++ left) wanted
    (IsPermutation-append_left left (map sent_of ys) (map sent_of xs) (IsPermutation-map sent_of ys xs (IsPermutation-sym xs ys same))) h

sent_in_part : SentInPart
sent_in_part wanted left xs ys h =
    subst (λ (v : List Sent). IsPermutation v wanted) (ap (λ (v : List Sent). v ++ left) (map-append sent_of xs ys) ∙ append_assoc (map sent_of xs) (map sent_of ys) left) h

pub sent_laws : SentLaws
sent_laws = record { nothing = nothing_sent; together = sent_together; any_order = sent_in_any_order; in_part = sent_in_part }
