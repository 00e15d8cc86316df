-- What an answer says where want of memory, and nothing else, is free.
use Rattle.std.specs.Prelude.{◌≡◌, [], ◌∷◌, Option, Some, None, ◌++◌, ℕ, ◌+◌, ◌-◌, ◌≤◌, ◌<◌, List, length, drop, slice_index, Result, Ok, Err}
use Rattle.std.specs.String.{string_bytes}
use Rattle.std.specs.Char.{encode_utf8}
use Rattle.fx_ntriples.specs.declared.faults.NtError.{NtError}
use Rattle.fx_ntriples.specs.declared.faults.NtError.TheVariants as error
use Rattle.fx_ntriples.specs.declared.faults.Stop.{Stop}
use Rattle.fx_ntriples.specs.declared.faults.Stop.TheVariants.{At, Memory}
use Rattle.fx_ntriples.specs.declared.quotes.Spelled.{Spelled}
use Rattle.fx_ntriples.specs.declared.quotes.Spelled.TheVariants.{Slice, Decoded}
use Rattle.std.specs.declared.vec.Vec.{Vec}
use Rattle.std.specs.declared.alloc.Global.{Global}
use Rattle.fx_terms.specs.declared.triples.Triple.{Triple}
use Rattle.fx_ntriples.specs.declared.reading.Halt.{Halt}
use Rattle.fx_ntriples.specs.declared.reading.Halt.TheVariants as halt
use Rattle.fx_ntriples.specs.Reading.{Lines, all, fault}
use Rattle.fx_ntriples.specs.Quotes.{Got, got, stop, Escape, names, escaped}

-- unless memory ran out, the answer is the wanted one
abbrev pub Answers : {X : Type 0} → Result X NtError → Result X NtError → Type 0
Answers (Ok x) wanted = wanted ≡ Ok x
Answers (Err error.Memory) wanted = Unit {0}
Answers (Err e) wanted = wanted ≡ Err e

-- unless memory ran out, what is read of a line and where it ends, or the fault and its place
abbrev pub Reads : {A : Type 0} → List ℕ → Result (A × ℕ) Stop → Got A → Type 0
Reads line (Ok v) wanted = (v.1 ≤ length line) × (wanted ≡ got v.0 (drop v.1 line))
Reads line (Err (At k place)) wanted = (place ≤ length line) × (wanted ≡ stop k (drop place line))
Reads line (Err Memory) wanted = Unit {0}

abbrev pub text_of : Spelled → List ℕ
text_of (Slice s) = s.now
text_of (Decoded s) = string_bytes s

-- the same of what stands between signs
abbrev pub ReadsText : List ℕ → Result (Spelled × ℕ) Stop → Got (List ℕ) → Type 0
ReadsText line (Ok v) wanted = (v.1 ≤ length line) × (wanted ≡ got (text_of v.0) (drop v.1 line))
ReadsText line (Err (At k place)) wanted = (place ≤ length line) × (wanted ≡ stop k (drop place line))
ReadsText line (Err Memory) wanted = Unit {0}

-- the character that an escape behind the backslash at a place names, and where it ends, behind an ASCII character; or the fault
-- and its place
abbrev pub ReadsEscape : List ℕ → ℕ → Result (ℕ × ℕ) Stop → Escape → Type 0
ReadsEscape line at (Ok v) wanted = (at + 1 < v.1) × (v.1 ≤ length line) × (slice_index line (v.1 - 1) < 128) × (wanted ≡ names (encode_utf8 v.0) (v.1 - (at + 1)))
ReadsEscape line at (Err (At k place)) wanted = (place ≤ length line) × ((more : ℕ → Got (List ℕ)) → escaped wanted (drop at line) more ≡ stop k (drop place line))
ReadsEscape line at (Err Memory) wanted = Unit {0}

-- unless memory ran out, the triples of lines, or where the line begins in which a fault stands, and how far behind
abbrev pub AnswersLines : List ℕ → Result (Vec Triple Global) Halt → Lines → Type 0
AnswersLines bytes (Ok v) wanted = wanted ≡ all v.items
AnswersLines bytes (Err (halt.At k start place)) wanted = (start ≤ length bytes) × (place ≤ length (drop start bytes)) × (wanted ≡ fault k start place)
AnswersLines bytes (Err halt.Memory) wanted = Unit {0}

-- what a line says, as a list
abbrev pub triples_of : Option Triple → List Triple
triples_of None = []
triples_of (Some t) = t ∷ []

-- unless memory ran out, triples have grown by what a line says, or the fault and its place
abbrev pub Pushes : List ℕ → Result (Unit {0}) Stop → List Triple → List Triple → Got (Option Triple) → Type 0
Pushes line (Ok u) old new wanted = (t : Option Triple) × (rest : List ℕ) × (wanted ≡ got t rest) × (new ≡ old ++ triples_of t)
Pushes line (Err (At k place)) old new wanted = (place ≤ length line) × (wanted ≡ stop k (drop place line))
Pushes line (Err Memory) old new wanted = Unit {0}

-- the same stop, of a line that begins at a place
abbrev pub stopped_at : Stop → ℕ → Halt
stopped_at (At k place) start = halt.At k start place
stopped_at Memory start = halt.Memory
