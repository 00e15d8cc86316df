use Rattle.std.proofs.Common.{ℕ, List, subst}
use Rattle.std.specs.List.{slice_split}
use Rattle.std.proofs.lemmas.Str.{is_utf8-from_IsUtf8}
use Rattle.fx_ntriples.specs.Answers.{Answers}
use Rattle.fx_ntriples.specs.Reading.{answered, read_lines, is_line_end}
use Rattle.fx_ntriples.proofs.Utf8Refused.{only_there}
use Rattle.fx_ntriples.proofs.reading.read.Goals as goal

pub returns-in-Ok : goal.returns-in-Ok
returns-in-Ok c =
    rw (is_utf8-from_IsUtf8 c.args.bytes.now c.in-Ok.ensures.found.1)
    (subst (λ (b : List ℕ). Answers c.graph.result (answered b (read_lines 0 (slice_split is_line_end b)))) c.in-Ok.ensures.found.0 c.graph.ensures)

pub returns-in-Err : goal.returns-in-Err
returns-in-Err c = only_there c.args.bytes.now _ c.in-Err.ensures.refused
