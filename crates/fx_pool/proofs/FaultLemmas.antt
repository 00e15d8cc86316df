-- A reply that is read has no fault, and one that is too long has no other.
use Rattle.std.proofs.Common.{◌≡◌, ◌∙◌, ap, sym, subst, ◌<◌, ◌≤◌, length, Bool, List, ℕ, Ok, Err, arith}
use Rattle.fx_terms.specs.declared.triples.Triple.{Triple}
use Rattle.fx_algebra.specs.declared.answers.Answer.{Answer}
use Rattle.fx_algebra.specs.declared.answers.Answer.TheVariants.{Truth}
use Rattle.fx_bound.specs.Answers.{IsAnswered, read_answer}
use Rattle.fx_bound.specs.Parts.{IsBatch, Parts}
use Rattle.fx_bound.specs.declared.faults.BatchError.{BatchError}
use Rattle.fx_bound.specs.declared.faults.BatchError.TheVariants as batch
use Rattle.fx_bound.proofs.AnswerLemmas.{tells_graph}
use Rattle.fx_http.specs.Answers.{IsOrMemory}
use Rattle.fx_http.specs.Replies.{Replies}
use Rattle.fx_http.specs.declared.replies.ReplyError.{ReplyError}
use Rattle.fx_http.specs.declared.replies.ReplyError.TheVariants as reply
use Rattle.fx_http.proofs.ReplyLaws.{only_answer, reply_unique}
use Rattle.fx_results.specs.Reading.{read_results}
use Rattle.fx_values.specs.Answers.{IsAnswered as IsBlockAnswered, read_answer as read_values}
use Rattle.fx_values.specs.Parts.{IsValues, Parts as ValuesParts}
use Rattle.fx_values.specs.declared.faults.ValuesError.{ValuesError}
use Rattle.fx_values.specs.declared.faults.ValuesError.TheVariants as values
use Rattle.fx_values.proofs.AnswerLemmas.{tells_graph as block_tells}
use Rattle.fx_pool.specs.Reading.{Carried, an_ask, a_batch, a_values, HasFault, HasResults, HasUnfit, IsBatchFault, IsUnfit, IsValuesFault}
use Rattle.fx_pool.specs.declared.faults.ReplyFault.{ReplyFault}
use Rattle.fx_pool.specs.declared.faults.ReplyFault.TheVariants.{Batch, Foreign, Http, NotTable, NotTruth, Results, Values}

-- bytes that are refused aren't read
refused_unread : (bytes : List ℕ) (e : ReplyError) (body : List ℕ) → Replies bytes (Err e) → Replies bytes (Ok body) → ⊥
refused_unread bytes reply.TooLong body h k = let short : length bytes ≤ 67108864 = k.0 in let long : 67108864 < length bytes = h in absurd (omega (arith, short, long))
refused_unread bytes reply.Head body h k = let same : IsOrMemory (Err reply.Head) (Ok body) = only_answer bytes (Err reply.Head) h (Ok body) k in cc
refused_unread bytes (reply.Status code) body h k = let same : IsOrMemory (Err (reply.Status code)) (Ok body) = only_answer bytes (Err (reply.Status code)) h (Ok body) k in cc
refused_unread bytes reply.Coding body h k = let same : IsOrMemory (Err reply.Coding) (Ok body) = only_answer bytes (Err reply.Coding) h (Ok body) k in cc
refused_unread bytes reply.ContentType body h k = let same : IsOrMemory (Err reply.ContentType) (Ok body) = only_answer bytes (Err reply.ContentType) h (Ok body) k in cc
refused_unread bytes reply.Length body h k = let same : IsOrMemory (Err reply.Length) (Ok body) = only_answer bytes (Err reply.Length) h (Ok body) k in cc
refused_unread bytes reply.Chunk body h k = let same : IsOrMemory (Err reply.Chunk) (Ok body) = only_answer bytes (Err reply.Chunk) h (Ok body) k in cc
refused_unread bytes reply.Memory body h k = absurd h.1

pub same_results : (bytes : List ℕ) (told other : Answer) → HasResults bytes told → HasResults bytes other → told ≡ other
same_results bytes told other h k = let body : h.body ≡ k.body = reply_unique bytes h.body k.body h.replied.1 k.replied.1 in let same = sym h.read ∙ ap read_results body ∙ k.read in cc

-- ---- results that fit have no fault

module _ (carried : Carried) (bytes : List ℕ) (told : Answer) (results : HasResults bytes told) (fit : (why : ReplyFault) → IsUnfit carried told why → ⊥) where
  fits : (why : ReplyFault) → HasUnfit carried bytes why → ⊥
  fits why h = fit why (subst (λ (v : Answer). IsUnfit carried v why) (same_results bytes h.told told h.results results) h.unfit)

  pub faultless_by : (why : ReplyFault) → HasFault carried bytes why → ⊥
  faultless_by (Http e) h = refused_unread bytes e results.body h results.replied
  faultless_by (Results e) h =
      let body : h.body ≡ results.body = reply_unique bytes h.body results.body h.replied.1 results.replied.1 in
      let read : Err e ≡ Ok told = sym h.unread ∙ ap read_results body ∙ results.read in
      cc
  faultless_by (Batch e) h = fits (Batch e) h
  faultless_by (Values e) h = fits (Values e) h
  faultless_by NotTruth h = fits NotTruth h
  faultless_by NotTable h = fits NotTable h
  faultless_by (Foreign row) h = fits (Foreign row) h

-- ---- batches

no_batch_fault : (p : Parts) (graph : List Triple) (told : Answer) (e : BatchError) → IsBatch p → IsAnswered graph p told → read_answer p told ≡ Err e → IsBatchFault e → ⊥
no_batch_fault p graph told batch.NotTable known answered h f = tells_graph p told (Err batch.NotTable) known h graph answered
no_batch_fault p graph told (batch.Foreign row) known answered h f = tells_graph p told (Err (batch.Foreign row)) known h graph answered
no_batch_fault p graph told (batch.Mixed row) known answered h f = tells_graph p told (Err (batch.Mixed row)) known h graph answered
no_batch_fault p graph told (batch.Partial row) known answered h f = tells_graph p told (Err (batch.Partial row)) known h graph answered
no_batch_fault p graph told batch.Memory known answered h f = absurd f

batch_fits : (p : Parts) (graph : List Triple) (told : Answer) → IsBatch p → IsAnswered graph p told → (why : ReplyFault) → IsUnfit (a_batch p) told why → ⊥
batch_fits p graph told known answered (Http e) h = absurd h
batch_fits p graph told known answered (Results e) h = absurd h
batch_fits p graph told known answered (Batch e) h = no_batch_fault p graph told e known answered h.0 h.1
batch_fits p graph told known answered (Values e) h = absurd h
batch_fits p graph told known answered NotTruth h = absurd h
batch_fits p graph told known answered NotTable h = absurd h
batch_fits p graph told known answered (Foreign row) h = absurd h

-- what tells a batch's answer over a graph has no fault
pub faultless : (p : Parts) (graph : List Triple) (bytes : List ℕ) (told : Answer) (why : ReplyFault) → IsBatch p → IsAnswered graph p told → HasResults bytes told → HasFault (a_batch p) bytes why → ⊥
faultless p graph bytes told why known answered results h = faultless_by (a_batch p) bytes told results (batch_fits p graph told known answered) why h

no_values_fault : (p : ValuesParts) (graph : List Triple) (told : Answer) (e : ValuesError) → IsValues p → IsBlockAnswered graph p told → read_values p told ≡ Err e → IsValuesFault e → ⊥
no_values_fault p graph told values.NotTable known answered h f = block_tells p told (Err values.NotTable) known h graph answered
no_values_fault p graph told (values.Foreign row) known answered h f = block_tells p told (Err (values.Foreign row)) known h graph answered
no_values_fault p graph told (values.Partial row) known answered h f = block_tells p told (Err (values.Partial row)) known h graph answered
no_values_fault p graph told (values.Mixed row) known answered h f = block_tells p told (Err (values.Mixed row)) known h graph answered
no_values_fault p graph told values.Memory known answered h f = absurd f

block_fits : (p : ValuesParts) (graph : List Triple) (told : Answer) → IsValues p → IsBlockAnswered graph p told → (why : ReplyFault) → IsUnfit (a_values p) told why → ⊥
block_fits p graph told known answered (Http e) h = absurd h
block_fits p graph told known answered (Results e) h = absurd h
block_fits p graph told known answered (Batch e) h = absurd h
block_fits p graph told known answered (Values e) h = no_values_fault p graph told e known answered h.0 h.1
block_fits p graph told known answered NotTruth h = absurd h
block_fits p graph told known answered NotTable h = absurd h
block_fits p graph told known answered (Foreign row) h = absurd h

-- so it is of the answer to a VALUES block
pub block_faultless : (p : ValuesParts) (graph : List Triple) (bytes : List ℕ) (told : Answer) (why : ReplyFault) → IsValues p → IsBlockAnswered graph p told → HasResults bytes told → HasFault (a_values p) bytes why → ⊥
block_faultless p graph bytes told why known answered results h = faultless_by (a_values p) bytes told results (block_fits p graph told known answered) why h

-- ---- a reply that is too long

long_read : (carried : Carried) (bytes : List ℕ) (why : ReplyFault) → 67108864 < length bytes → HasUnfit carried bytes why → ⊥
long_read carried bytes why l h = let short : length bytes ≤ 67108864 = h.results.replied.0 in absurd (omega (arith, l, short))

-- it has no other fault, whatever its request carries
pub long_fault : (carried : Carried) (bytes : List ℕ) (why : ReplyFault) → 67108864 < length bytes → HasFault carried bytes why → why ≡ Http reply.TooLong
long_fault carried bytes (Http e) l h =
    let one : Err reply.TooLong ≡ Err e = only_answer bytes (Err reply.TooLong) l (Err e) h in
    let same : e ≡ reply.TooLong = cc in
    ap Http same
long_fault carried bytes (Results e) l h = let short : length bytes ≤ 67108864 = h.replied.0 in absurd (omega (arith, l, short))
long_fault carried bytes (Batch e) l h = absurd (long_read carried bytes (Batch e) l h)
long_fault carried bytes (Values e) l h = absurd (long_read carried bytes (Values e) l h)
long_fault carried bytes NotTruth l h = absurd (long_read carried bytes NotTruth l h)
long_fault carried bytes NotTable l h = absurd (long_read carried bytes NotTable l h)
long_fault carried bytes (Foreign row) l h = absurd (long_read carried bytes (Foreign row) l h)

-- ---- replies to an ASK

truth_fits : (truth : Bool) (why : ReplyFault) → IsUnfit an_ask (Truth truth) why → ⊥
truth_fits truth (Http e) h = absurd h
truth_fits truth (Results e) h = absurd h
truth_fits truth (Batch e) h = absurd h
truth_fits truth (Values e) h = absurd h
truth_fits truth NotTruth h = absurd h
truth_fits truth NotTable h = absurd h
truth_fits truth (Foreign row) h = absurd h

-- a truth value has no fault
pub truth_faultless : (bytes : List ℕ) (truth : Bool) (why : ReplyFault) → HasResults bytes (Truth truth) → HasFault an_ask bytes why → ⊥
truth_faultless bytes truth why results h = faultless_by an_ask bytes (Truth truth) results (truth_fits truth) why h
