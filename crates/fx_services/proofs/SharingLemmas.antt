-- What was sent for occurrences of SERVICE, shared out to them.
use Rattle.std.proofs.Common.{◌≡◌, ap, sym, subst, refl, inl, List, [], ◌∷◌, ◌++◌, map, length, Option, None, Some, IfSome, IsPermutation, ◌≤◌, arith}
use Rattle.std.specs.List.{AllByRecursion, flat_map}
use Rattle.std.proofs.lemmas.List.Elements.{All-from_recursion, recursion_from_All}
use Rattle.std.proofs.lemmas.List.Sorted.{All-permutation, IsPermutation-refl, IsPermutation-sym}
use Rattle.fx_outside.specs.Endpoints.{EndpointParts}
use Rattle.fx_traffic.specs.Sent.{Sent, Sends, sent_of}
use Rattle.fx_wire.specs.Exchanges.{Exchange}
use Rattle.fx_pool.proofs.MoveLemmas.{followed, made_moved, only_itself}
use Rattle.fx_services.specs.Beside.{AreSentFor, IsSentFor, Occurrence}

-- nothing was sent for one
pub unsent : (es : List EndpointParts) (o : Occurrence) → IsSentFor es o []
unsent es o = record { wanted = []; left = []; sent = IsPermutation-refl []; text = inl refl }

pub none_sent : (es : List EndpointParts) (os : List Occurrence) → AreSentFor es os []
none_sent es [] = refl
none_sent es (o ∷ os) = ([], [], refl, unsent es o, none_sent es os)

-- ---- a text that was wanted, with the exchange that sent it, if one did

abbrev pub Shared : Type 0
Shared = Sent × Option Exchange

abbrev pub text_in : Shared → Sent
text_in p = p.0

abbrev pub made_of : Option Exchange → List Exchange
made_of None = []
made_of (Some x) = x ∷ []

abbrev pub made_in : Shared → List Exchange
made_in p = made_of p.1

abbrev pub all_made : List Shared → List Exchange
all_made ps = flat_map made_in ps

abbrev pub Fits : Shared → Type 0
Fits p = IfSome p.1 (λ x. sent_of x ≡ p.0)

pub left_by : (s : Sent) (own : Option Exchange) → IfSome own (λ x. sent_of x ≡ s) → (left : List Sent) × Sends (s ∷ []) left (made_of own)
left_by s None h = (s ∷ [], IsPermutation-refl (s ∷ []))
left_by s (Some x) h = ([], subst (λ (v : Sent). IsPermutation (sent_of x ∷ []) (v ∷ [])) h (IsPermutation-refl (sent_of x ∷ [])))

-- ---- all of them

abbrev by_exchange : Exchange → Shared
by_exchange x = (sent_of x, Some x)

abbrev by_none : Sent → Shared
by_none s = (s, None)

abbrev both : List Exchange → List Sent → List Shared
both xs left = map by_exchange xs ++ map by_none left

texts_both : (xs : List Exchange) (left : List Sent) → map text_in (both xs left) ≡ map sent_of xs ++ left
texts_both [] [] = refl
texts_both [] (s ∷ left) = ap (λ (v : List Sent). s ∷ v) (texts_both [] left)
texts_both (x ∷ xs) left = ap (λ (v : List Sent). sent_of x ∷ v) (texts_both xs left)

made_both : (xs : List Exchange) (left : List Sent) → all_made (both xs left) ≡ xs
made_both [] [] = refl
made_both [] (s ∷ left) = made_both [] left
made_both (x ∷ xs) left = ap (λ (v : List Exchange). x ∷ v) (made_both xs left)

fit_both : (xs : List Exchange) (left : List Sent) → AllByRecursion Fits (both xs left)
fit_both [] [] = tt
fit_both [] (s ∷ left) = (tt, fit_both [] left)
fit_both (x ∷ xs) left = (refl, fit_both xs left)

made_in_any_order : (ps qs : List Shared) → IsPermutation ps qs → IsPermutation (all_made ps) (all_made qs)
made_in_any_order [] qs p = subst (λ (v : List Shared). IsPermutation [] (all_made v)) (sym (only_itself [] qs (omega arith) p)) (IsPermutation-refl [])
made_in_any_order (x ∷ ps) qs p = made_moved x made_in (x ∷ ps) qs p

pub record AreShared (wanted : List Sent) (xs : List Exchange) : Type 0 where
  pub list : List Shared
  pub texts : map text_in list ≡ wanted
  pub fit : AllByRecursion Fits list
  pub same : IsPermutation (all_made list) xs

pub all_shared : (wanted left : List Sent) (xs : List Exchange) → Sends wanted left xs → AreShared wanted xs
all_shared wanted left xs sent =
    let moved = followed text_in (both xs left) wanted (subst (λ (v : List Sent). IsPermutation v wanted) (sym (texts_both xs left)) sent) in
    record {
      list = moved.list;
      texts = moved.makes;
      fit = recursion_from_All Fits moved.list (All-permutation Fits (both xs left) moved.list moved.same (All-from_recursion Fits (both xs left) (fit_both xs left)));
      same =
          IsPermutation-sym xs (all_made moved.list)
          (subst (λ (v : List Exchange). IsPermutation v (all_made moved.list)) (made_both xs left) (made_in_any_order (both xs left) moved.list moved.same));
    }
