-- What the job of an ASK came to, by its reply.
use Rattle.std.proofs.Common.{◌≡◌, subst, sym, ◌<◌, ◌≤◌, length, Bool, List, [], ◌∷◌, ℕ, arith}
use Rattle.fx_algebra.specs.Solutions.{Bindings}
use Rattle.fx_algebra.specs.declared.answers.Answer.TheVariants as answer
use Rattle.fx_founds.specs.declared.founds.Found.{Found}
use Rattle.fx_outside.specs.Endpoints.{EndpointParts}
use Rattle.fx_wire.specs.Exchanges.{Exchange, exchanged}
use Rattle.fx_pool.specs.Jobs.{IsBadReply, IsDone, IsReplyTo}
use Rattle.fx_pool.specs.Posting.{IsPosted, IsSent, exchanges_of}
use Rattle.fx_pool.specs.Reading.{HasResults}
use Rattle.fx_pool.specs.declared.jobs.BadReply.{BadReply}
use Rattle.fx_pool.specs.declared.jobs.Job.{Job}
use Rattle.fx_pool.specs.declared.jobs.JobReply.{JobReply}
use Rattle.fx_pool.specs.declared.jobs.JobReply.TheVariants as reply
use Rattle.fx_pool.specs.declared.jobs.Work.{Work}
use Rattle.fx_pool.specs.declared.jobs.Work.TheVariants as work
use Rattle.fx_pool.specs.declared.posting.Posted.{Posted}
use Rattle.fx_pool.specs.declared.posting.Posted.TheVariants as posted

-- the text was sent, and P holds of its request and of the reply
pub record IsReplied (e : EndpointParts) (text : List ℕ) (own : List Exchange) (P : List ℕ → List ℕ → Type 0) : Type 0 where
  pub request : List ℕ
  pub bytes : List ℕ
  pub posts : IsSent e text request
  pub exchanged_so : own ≡ exchanged e request bytes ∷ []
  pub told : P request bytes

module _ (es : List EndpointParts) (at : ℕ) (text : List ℕ) (own : List Exchange) where
  abbrev asking : Work
  asking = work.Ask text

  abbrev Came : JobReply → Type 0
  Came r = IsDone es (record { at = at; work = work.Ask text }) r own

  pub truth_replied : (truth : Bool) → (d : Came (reply.Truth truth)) → IsReplied d.endpoint text own (λ request bytes. HasResults bytes (answer.Truth truth))
  truth_replied truth d = by d.posted d.sent d.told d.exchanged
    where
      by : (o : Posted) → IsPosted d.endpoint text o → IsReplyTo asking o (reply.Truth truth) → own ≡ exchanges_of d.endpoint o → IsReplied d.endpoint text own (λ request bytes. HasResults bytes (answer.Truth truth))
      by (posted.Replied request bytes) s t is = record { request = request; bytes = bytes; posts = s; exchanged_so = is; told = t }
      by posted.Failed s t is = absurd (cc)
      by (posted.TooLong size) s t is = absurd (cc)

  pub bad_replied : (bad : BadReply) → (d : Came (reply.Bad bad)) → IsReplied d.endpoint text own (λ request bytes. IsBadReply asking request bytes bad)
  bad_replied bad d = by d.posted d.sent d.told d.exchanged
    where
      by : (o : Posted) → IsPosted d.endpoint text o → IsReplyTo asking o (reply.Bad bad) → own ≡ exchanges_of d.endpoint o → IsReplied d.endpoint text own (λ request bytes. IsBadReply asking request bytes bad)
      by (posted.Replied request bytes) s t is = record { request = request; bytes = bytes; posts = s; exchanged_so = is; told = t }
      by posted.Failed s t is = absurd (cc)
      by (posted.TooLong size) s t is = absurd (cc)

  pub too_long : (size : ℕ) → Came (reply.TooLong size) → (size ≡ length text) × (67108864 < size)
  too_long size d = by d.posted d.sent d.told
    where
      by : (o : Posted) → IsPosted d.endpoint text o → IsReplyTo asking o (reply.TooLong size) → (size ≡ length text) × (67108864 < size)
      by (posted.Replied request bytes) s t = absurd t
      by posted.Failed s t = absurd (cc)
      by (posted.TooLong other) s t = let same : size ≡ other = cc in subst (λ (n : ℕ). (n ≡ length text) × (67108864 < n)) (sym same) s

  -- no rows are told
  pub none_found : (founds : List Found) → Came (reply.Found founds) → ⊥
  none_found founds d = by d.posted d.told
    where
      by : (o : Posted) → IsReplyTo asking o (reply.Found founds) → ⊥
      by (posted.Replied request bytes) t = t
      by posted.Failed t = cc
      by (posted.TooLong size) t = cc

  pub no_table : (rows : List Bindings) → Came (reply.Table rows) → ⊥
  no_table rows d = by d.posted d.told
    where
      by : (o : Posted) → IsReplyTo asking o (reply.Table rows) → ⊥
      by (posted.Replied request bytes) t = t
      by posted.Failed t = cc
      by (posted.TooLong size) t = cc

-- a job was done by one exchange at most
pub one_at_most : (es : List EndpointParts) (j : Job) (r : JobReply) (xs : List Exchange) → IsDone es j r xs → length xs ≤ 1
one_at_most es j r xs d = subst (λ (v : List Exchange). length v ≤ 1) (sym d.exchanged) (by d.endpoint d.posted)
  where
    by : (e : EndpointParts) (o : Posted) → length (exchanges_of e o) ≤ 1
    by e (posted.Replied request bytes) = omega arith
    by e posted.Failed = omega arith
    by e (posted.TooLong size) = omega arith
