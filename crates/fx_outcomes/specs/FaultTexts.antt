-- The name of a reply's fault, as it is printed.
use Rattle.std.specs.Prelude.{ℕ, List, ◌++◌, codes, Option, Some, None}
use Rattle.std.specs.Fmt.{decimal}
use Rattle.fx_http.specs.declared.replies.ReplyError.{ReplyError}
use Rattle.fx_http.specs.declared.replies.ReplyError.TheVariants as reply
use Rattle.fx_results.specs.declared.faults.ResultsError.{ResultsError}
use Rattle.fx_results.specs.declared.faults.ResultsError.TheVariants as results
use Rattle.fx_results.specs.declared.faults.ShapeFault.{ShapeFault}
use Rattle.fx_results.specs.declared.faults.ShapeFault.TheVariants as shape
use Rattle.fx_bound.specs.declared.faults.BatchError.{BatchError}
use Rattle.fx_bound.specs.declared.faults.BatchError.TheVariants as batch
use Rattle.fx_values.specs.declared.faults.ValuesError.{ValuesError}
use Rattle.fx_values.specs.declared.faults.ValuesError.TheVariants as values
use Rattle.fx_pool.specs.declared.faults.ReplyFault.{ReplyFault}
use Rattle.fx_pool.specs.declared.faults.ReplyFault.TheVariants.{Http, Results, Batch, Values, NotTruth, NotTable, Foreign}

abbrev pub http_words : ReplyError → List ℕ
http_words reply.TooLong = codes "TooLong"
http_words reply.Head = codes "Head"
http_words (reply.Status code) = codes "Status"
http_words reply.Coding = codes "Coding"
http_words reply.ContentType = codes "ContentType"
http_words reply.Length = codes "Length"
http_words reply.Chunk = codes "Chunk"
http_words reply.Memory = codes "Memory"

abbrev pub shape_words : ShapeFault → List ℕ
shape_words shape.Root = codes "Shape Root"
shape_words shape.Head = codes "Shape Head"
shape_words shape.Columns = codes "Shape Columns"
shape_words shape.Results = codes "Shape Results"
shape_words shape.Bindings = codes "Shape Bindings"
shape_words shape.Row = codes "Shape Row"
shape_words shape.Truth = codes "Shape Truth"

abbrev pub results_words : ResultsError → List ℕ
results_words results.BadJson = codes "BadJson"
results_words (results.Shape what) = shape_words what
results_words results.Blank = codes "Blank"
results_words results.BadTerm = codes "BadTerm"
results_words results.Memory = codes "Memory"

abbrev pub batch_words : BatchError → List ℕ
batch_words batch.NotTable = codes "NotTable"
batch_words (batch.Foreign row) = codes "Foreign"
batch_words (batch.Mixed row) = codes "Mixed"
batch_words (batch.Partial row) = codes "Partial"
batch_words batch.Memory = codes "Memory"

abbrev pub values_words : ValuesError → List ℕ
values_words values.NotTable = codes "NotTable"
values_words (values.Foreign row) = codes "Foreign"
values_words (values.Partial row) = codes "Partial"
values_words (values.Mixed row) = codes "Mixed"
values_words values.Memory = codes "Memory"

-- all but the number
abbrev pub fault_words : ReplyFault → List ℕ
fault_words (Http e) = http_words e
fault_words (Results e) = results_words e
fault_words (Batch e) = batch_words e
fault_words (Values e) = values_words e
fault_words NotTruth = codes "NotTruth"
fault_words NotTable = codes "NotTable"
fault_words (Foreign row) = codes "Foreign"

abbrev pub http_code : ReplyError → Option ℕ
http_code (reply.Status code) = Some code
http_code e = None

-- the number behind the words, where there is one
abbrev pub fault_code : ReplyFault → Option ℕ
fault_code (Http e) = http_code e
fault_code e = None

-- words, and a number behind a space
abbrev pub with_code : List ℕ → Option ℕ → List ℕ
with_code words None = words
with_code words (Some code) = words ++ (codes " " ++ decimal code)

-- the innermost name without its fields, but a status with its code and a shape with its part
abbrev pub fault_text : ReplyFault → List ℕ
fault_text why = with_code (fault_words why) (fault_code why)
