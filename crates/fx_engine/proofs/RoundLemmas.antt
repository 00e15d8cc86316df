-- How a round ends where a batch was refused.
use Rattle.std.proofs.Common.{◌≡◌, ◌∙◌, ap, sym, subst, refl, inl, inr, ℕ, zero, suc, ◌<◌, Bool, true, false, List, [], ◌∷◌, length, Result, Ok, Err, Some, slice_get, arith}
use Rattle.std.specs.Prelude.{get_or}
use Rattle.fx_outcomes.specs.Mediation.{IsPlaced}
use Rattle.fx_outside.specs.Endpoints.{EndpointParts}
use Rattle.fx_algebra.specs.Solutions.{Bindings}
use Rattle.fx_algebra.specs.declared.queries.Query.{Query}
use Rattle.fx_grammar.specs.Accepted.{Accepted}
use Rattle.fx_plan.specs.declared.parts.Part.{Part}
use Rattle.fx_flows.specs.declared.flows.FlowError.{FlowError}
use Rattle.fx_flows.specs.declared.flows.FlowError.TheVariants as flow
use Rattle.fx_wire.specs.Exchanges.{Seen}
use Rattle.fx_services.specs.Noted.{places}
use Rattle.fx_services.specs.declared.noted.Down.{Down}
use Rattle.fx_services.specs.declared.services.ServiceError.{ServiceError}
use Rattle.fx_outcomes.specs.Calls.{occurrences}
use Rattle.fx_outcomes.specs.Invocations.{AreInvoked, IsStopped}
use Rattle.fx_outcomes.specs.RoundEnds.{IsEndFor, IsFirstOf, IsWhether, LeavesOut, RoundEnded}
use Rattle.fx_outcomes.specs.Rounds.{IsLeftBy, IsMarked, IsRequired}
use Rattle.fx_outcomes.specs.declared.rounds.Left.{Left}
use Rattle.fx_outcomes.specs.declared.rounds.LeftCause.TheVariants as cause
use Rattle.fx_pool.specs.declared.jobs.BadReply.{BadReply}
use Rattle.fx_outcomes.specs.declared.federated.FedError.{FedError}
use Rattle.fx_outcomes.specs.declared.federated.FedError.TheVariants as fed
use Rattle.fx_outcomes.specs.declared.rounds.Ended.{Ended}
use Rattle.fx_outcomes.specs.declared.rounds.Ended.TheVariants as ended
use Rattle.fx_engine.specs.declared.rows.RowsError.TheVariants as rows_error
use Rattle.fx_engine.proofs.RefusalLemmas.{all_abandoned, all_lost, all_refused, refused_as_told, run_refused, told_instead}
use Rattle.fx_pool.proofs.WiresLemmas.{AllTell}

-- ---- whether the member that a refusal names is left out

module _ (es : List EndpointParts) (why : FlowError) (at : ℕ) (e : EndpointParts) (b : Bool) (found : slice_get es at ≡ Some e) (optional : b ≡ e.optional) where
  whether : (c : Bool) → e.optional ≡ c → (l : Left) → IsLeftBy why l → l.at ≡ at → (IsMarked false es at → IsRequired es why) → IsWhether es why c
  whether true is l its number required = (l, its, (e, ap (λ (n : ℕ). slice_get es n) number ∙ found, is))
  whether false is l its number required = required (e, found, is)

  as_it_is : (l : Left) → IsLeftBy why l → l.at ≡ at → (IsMarked false es at → IsRequired es why) → IsWhether es why b
  as_it_is l its number required = subst (IsWhether es why) (sym optional) (whether e.optional refl l its number required)

there : (es : List EndpointParts) (at : ℕ) (d : EndpointParts) → at < length es → slice_get es at ≡ Some (get_or es at d)
there [] at d low = absurd (omega (arith, low))
there (e ∷ es) zero d low = refl
there (e ∷ es) (suc at) d low = there es at d (omega (arith, low))

found_at : (es : List EndpointParts) (at : ℕ) (e : EndpointParts) → at < length es → e ≡ get_or es at e → slice_get es at ≡ Some e
found_at es at e low is = there es at e low ∙ ap (λ (x : EndpointParts). Some x) (sym is)

pub of_member : (es : List EndpointParts) (why : FlowError) (at : ℕ) (e : EndpointParts) (b : Bool) → why ≡ flow.Member at → IsPlaced (length es) why → e ≡ get_or es at e → b ≡ e.optional → IsWhether es why b
of_member es why at e b is placed found optional =
    subst (λ (w : FlowError). IsWhether es w b) (sym is) (as_it_is es (flow.Member at) at e b (found_at es at e (subst (IsPlaced (length es)) is placed) found) optional (record { at = at; why = cause.Failed }) refl refl (λ m. m))

pub of_bad_reply : (es : List EndpointParts) (why : FlowError) (at : ℕ) (bad : BadReply) (e : EndpointParts) (b : Bool) → why ≡ flow.BadReply at bad → IsPlaced (length es) why → e ≡ get_or es at e → b ≡ e.optional → IsWhether es why b
of_bad_reply es why at bad e b is placed found optional =
    subst (λ (w : FlowError). IsWhether es w b) (sym is) (as_it_is es (flow.BadReply at bad) at e b (found_at es at e (subst (IsPlaced (length es)) is placed) found) optional (record { at = at; why = cause.Bad bad }) refl refl (λ m. m))

pub of_long_text : (es : List EndpointParts) (why : FlowError) (at size : ℕ) (e : EndpointParts) (b : Bool) → why ≡ flow.RequestTooLong at size → IsPlaced (length es) why → e ≡ get_or es at e → b ≡ e.optional → IsWhether es why b
of_long_text es why at size e b is placed found optional =
    subst (λ (w : FlowError). IsWhether es w b) (sym is) (as_it_is es (flow.RequestTooLong at size) at e b (found_at es at e (subst (IsPlaced (length es)) is placed) found) optional (record { at = at; why = cause.TooLong size }) refl refl (λ m. m))

-- ---- how the round ends

module _ (tells alone : Bool) (s t u : List Seen) (a : AllTell tells s) (b : AllTell tells t) (es : List EndpointParts) (q : Query) (text : List ℕ) (accepted : Accepted text q) (plan : List Part) (block : ℕ) (found : List (List Bindings)) where
  -- each occurrence of SERVICE passed
  pub ended_for : (down : List Down) → AreInvoked tells alone s t es (occurrences q) down found → (why : FlowError) → refused_as_told es q plan found block tells alone t u (rows_error.Flow why) → (r : Result Ended FedError) (gone : List Down) → gone ≡ down
      → IsEndFor es gone why r → RoundEnded tells alone s u es q plan block r
  ended_for down i why k (Ok (ended.Answered outcome)) gone same is = absurd is
  ended_for down i why k (Ok (ended.Abandoned r)) gone same is =
      let l = is.0 in
      all_abandoned tells alone s t u a b es q text accepted plan block found down i why k l.0 l.1 l.2 r l.3 (subst (λ (v : List Down). r.down ≡ places v) same is.1)
  ended_for down i why k (Err fed.Memory) gone same is = all_lost tells alone s t u a b es q text accepted plan block found down i (IsRequired es) (LeavesOut es) why k tt
  ended_for down i why k (Err (fed.Member name)) gone same is = all_refused tells alone s t u a b es q text accepted plan block found down i (IsRequired es) (LeavesOut es) why (fed.Member name) k is.0 is.1
  ended_for down i why k (Err (fed.Service iri)) gone same is = all_refused tells alone s t u a b es q text accepted plan block found down i (IsRequired es) (LeavesOut es) why (fed.Service iri) k is.0 is.1
  ended_for down i why k (Err (fed.BadReply name bad)) gone same is = all_refused tells alone s t u a b es q text accepted plan block found down i (IsRequired es) (LeavesOut es) why (fed.BadReply name bad) k is.0 is.1
  ended_for down i why k (Err (fed.RequestTooLong name size)) gone same is = all_refused tells alone s t u a b es q text accepted plan block found down i (IsRequired es) (LeavesOut es) why (fed.RequestTooLong name size) k is.0 is.1
  ended_for down i why k (Err (fed.UnknownService iri)) gone same is = all_refused tells alone s t u a b es q text accepted plan block found down i (IsRequired es) (LeavesOut es) why (fed.UnknownService iri) k is.0 is.1

  -- one was refused
  pub refused_first : (error : ServiceError) → IsStopped tells alone s t es (occurrences q) found error → (why : FlowError) → refused_as_told es q plan found block tells alone t u (rows_error.Flow why) → (e : FedError)
      → IsFirstOf es why error e → RoundEnded tells alone s u es q plan block (Err e)
  refused_first error h why k e (inl is) = run_refused tells alone s t u a b es q text accepted plan block found error h (IsRequired es) (LeavesOut es) why e k is.0 is.1
  refused_first error h why k e (inr is) = told_instead tells alone s t u a b es q text accepted plan block found error h (IsRequired es) (LeavesOut es) why k e is.0 is.1
