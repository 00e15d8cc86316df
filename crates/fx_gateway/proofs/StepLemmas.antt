-- The steps of serving a connection, one after the other.
use Rattle.std.proofs.Common.{◌≡◌, ◌∙◌, ap, sym, subst, refl, inl, inr, ℕ, List, ◌++◌, Ok, Err, IsTrue}
use Rattle.std.specs.Prelude.{Result}
use Rattle.fx_outside.specs.Faults.{HasRisen}
use Rattle.fx_outside.specs.Streams.{AppendsPart}
use Rattle.fx_outside.specs.declared.streams.Ends.{Ghosts}
use Rattle.fx_terms.specs.declared.allocation.Memory.{Memory}
use Rattle.fx_algebra.specs.declared.queries.Query.{Query}
use Rattle.fx_grammar.specs.Accepted.{Accepted}
use Rattle.fx_http.specs.Requests.{Asks}
use Rattle.fx_member.specs.Served.{IsLaidOut, Told}
use Rattle.fx_member.specs.declared.serving.ServeError.{ServeError}
use Rattle.fx_member.specs.declared.serving.ServeError.TheVariants as lost
use Rattle.fx_gateway.specs.Connected.{Connected, Federation, IsGated, IsLost, IsRefusal, IsUnasked, LinkSeen, link_seen}
use Rattle.fx_gateway.specs.Replies.{unasked_with}
use Rattle.fx_gateway.specs.Steps.{IsAskedReply, IsPrepared, IsWritten, unreplied}
use Rattle.fx_gateway.specs.declared.connections.GateError.{GateError}
use Rattle.fx_gateway.specs.declared.connections.GateError.TheVariants as error
use Rattle.fx_gateway.specs.declared.connections.Gated.{Gated}
use Rattle.fx_gateway.specs.declared.connections.GatedReply.{GatedReply}

-- ---- up to the reply

module _ (link : LinkSeen) (f : Federation) where
  pub refused_gated : IsUnasked f → (t : Told) → IsRefusal link t → (status : ℕ) (reply : List ℕ) → IsLaidOut t status reply → (made : GatedReply) → made.gated ≡ unasked_with status → made.bytes.items ≡ reply
      → IsGated link f made.gated made.bytes.items
  refused_gated u t refusal status reply laid made with_status bytes = inl (record {
    unasked = u;
    t = t;
    refusal = refusal;
    gated_is = with_status ∙ ap unasked_with laid.is_status;
    laid_out = bytes ∙ laid.is_reply;
  })

  module _ (text : List ℕ) (asks : IsTrue link.tells_left → Asks link.left (Ok text)) (q : Query) (a : Accepted text q) where
    pub asked_gated : (reply : GatedReply) → IsAskedReply f q (Ok reply) → IsGated link f reply.gated reply.bytes.items
    asked_gated reply r = inr (record { result = r.given; asked = record { text = text; asks = asks; query = q; accepted = a; federated = r.federated }; replied = r.replied })

    pub asked_lost : (why : Memory) → IsAskedReply f q (Err why) → IsLost link f
    asked_lost why r = inr (r.given, record { text = text; asks = asks; query = q; accepted = a; federated = r.federated })

-- ---- the whole

abbrev failed : ServeError → Result GatedReply ServeError
failed e = Err e

module _ {L : Type 0} (l : Ghosts L) (a b : L) (f : Federation) (held : IsTrue l.tells_held → l.held b ≡ l.held a) where
  pub written_connected : (c : L) (reply : GatedReply) (result : Result Gated GateError) → IsGated (link_seen l a) f reply.gated reply.bytes.items → l.write_faults b ≡ l.write_faults a
      → IsWritten (link_seen l b) (link_seen l c) reply result → Connected (link_seen l a) (link_seen l c) f result
  written_connected c reply (Ok gated) h faults w =
      (reply.bytes.items, subst (λ (g : Gated). IsGated (link_seen l a) f g reply.bytes.items) (sym w.0) h, λ told. w.1 told ∙ ap (λ (v : List ℕ). v ++ reply.bytes.items) (held told))
  written_connected c reply (Err (error.WriteFault gated)) h faults w = (
    reply.bytes.items,
    subst (λ (g : Gated). IsGated (link_seen l a) f g reply.bytes.items) (sym w.0) h,
    λ told. subst (λ (v : List ℕ). AppendsPart v (l.held c) reply.bytes.items) (held told) (w.1 told),
    subst (λ (n : ℕ). HasRisen n (l.write_faults c)) faults w.2,
  )
  written_connected c reply (Err error.ReadFault) h faults w = absurd w
  written_connected c reply (Err error.Memory) h faults w = absurd w

  pub unreplied_connected : (e : ServeError) (why : GateError) → why ≡ unreplied e → IsPrepared (link_seen l a) f (Err e) → (failed e ≡ failed lost.ReadFault → HasRisen (l.read_faults a) (l.read_faults b))
      → Connected (link_seen l a) (link_seen l b) f (Err why)
  unreplied_connected e why is p risen = subst (λ (v : GateError). Connected (link_seen l a) (link_seen l b) f (Err v)) (sym is) (by e p risen)
    where
      by : (e : ServeError) → IsPrepared (link_seen l a) f (Err e) → (failed e ≡ failed lost.ReadFault → HasRisen (l.read_faults a) (l.read_faults b)) → Connected (link_seen l a) (link_seen l b) f (Err (unreplied e))
      by lost.ReadFault p risen = (p, held, risen refl)
      by lost.WriteFault p risen = absurd p
      by lost.Memory p risen = (p, held)
