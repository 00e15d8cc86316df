use Rattle.std.proofs.Common.{subst}
use Rattle.fx_ntriples.specs.Answers.{Answers}
use Rattle.fx_ntriples.specs.Reading.{read_document}
use Rattle.fx_ntriples.specs.Forms.{IsDocument}
use Rattle.fx_ntriples.proofs.Complete.{document_reads}
use Rattle.fx_ntriples.proofs.Sound.{document_spelled}
use Rattle.fx_ntriples.proofs.Placed.{bad_stands, blank_stands, relative_stands, bad_only, blank_only, relative_only, told_bad, told_blank, told_relative}
use Rattle.fx_ntriples.proofs.Answered.{answers_only, answers_found}
use Rattle.fx_ntriples.proofs.Utf8Refused.{stops_utf8, only_there, told_utf8}
use Rattle.fx_ntriples.proofs.reading.read_graph.Goals as goal

pub returns-clause-only : goal.returns-clause-only
returns-clause-only c = λ g h. answers_only c.read.result g (subst (Answers c.read.result) (document_reads c.args.bytes.now g h) c.read.ensures)

pub returns-clause-found : goal.returns-clause-found
returns-clause-found c = answers_found (IsDocument c.args.bytes.now) c.read.result (read_document c.args.bytes.now) c.read.ensures (document_spelled c.args.bytes.now)

pub returns-clause-bad : goal.returns-clause-bad
returns-clause-bad c = λ l d h. bad_stands c.args.bytes.now l d (told_bad c.read.result (read_document c.args.bytes.now) l d c.read.ensures h)

pub returns-clause-blank : goal.returns-clause-blank
returns-clause-blank c = λ l d h. blank_stands c.args.bytes.now l d (told_blank c.read.result (read_document c.args.bytes.now) l d c.read.ensures h)

pub returns-clause-relative : goal.returns-clause-relative
returns-clause-relative c = λ l d h. relative_stands c.args.bytes.now l d (told_relative c.read.result (read_document c.args.bytes.now) l d c.read.ensures h)

pub returns-clause-bad_utf8 : goal.returns-clause-bad_utf8
returns-clause-bad_utf8 c = λ n h. stops_utf8 c.args.bytes.now n (told_utf8 c.read.result (read_document c.args.bytes.now) n c.read.ensures h)

pub returns-clause-bad_utf8_only : goal.returns-clause-bad_utf8_only
returns-clause-bad_utf8_only c = λ n h. subst (Answers c.read.result) (only_there c.args.bytes.now n h) c.read.ensures

pub returns-clause-bad_only : goal.returns-clause-bad_only
returns-clause-bad_only c = λ u l d h. subst (Answers c.read.result) (bad_only c.args.bytes.now l d u h) c.read.ensures

pub returns-clause-blank_only : goal.returns-clause-blank_only
returns-clause-blank_only c = λ u l d h. subst (Answers c.read.result) (blank_only c.args.bytes.now l d u h) c.read.ensures

pub returns-clause-relative_only : goal.returns-clause-relative_only
returns-clause-relative_only c = λ u l d h. subst (Answers c.read.result) (relative_only c.args.bytes.now l d u h) c.read.ensures
