use Rattle.std.proofs.Common.{◌≡◌, subst, ℕ, List, ◌++◌}
use Rattle.std.specs.Fmt.{decimal}
use Rattle.std.specs.Prelude.{OnErr, OnOk, codes}
use Rattle.fx_outside.specs.Streams.{AppendsFront, AppendsPart}
use Rattle.fx_local.specs.Serving.{ending_text}
use Rattle.fx_serve.proofs.StepLemmas.{pieces_are}
use Rattle.fx_serve.proofs.serving.write_served.Goals as goal

pub returns-clause-whole : goal.returns-clause-whole
returns-clause-whole g c = λ told.
    subst (λ (text : List ℕ). OnOk c.write_pieces.result (g.E.Ends.held c.write_pieces.new.err ≡ g.E.Ends.held c.args.err.now ++ text)) (pieces_are (codes "connection ") (decimal c.args.number) (codes ": ") (ending_text c.args.served.now.ending) c.args.served.now.lines.items)
    (rw (c.as_bytes.ensures.value, c.as_bytes-2.ensures.value, c.format-number.ensures.text, c.ending_text-ending.ensures, c.as_slice.ensures.value) at (c.write_pieces.ensures.whole told))

pub returns-clause-front : goal.returns-clause-front
returns-clause-front g c = λ told.
    subst (λ (text : List ℕ). AppendsFront (g.E.Ends.held c.args.err.now) (g.E.Ends.held c.write_pieces.new.err) text) (pieces_are (codes "connection ") (decimal c.args.number) (codes ": ") (ending_text c.args.served.now.ending) c.args.served.now.lines.items)
    (rw (c.as_bytes.ensures.value, c.as_bytes-2.ensures.value, c.format-number.ensures.text, c.ending_text-ending.ensures, c.as_slice.ensures.value) at (c.write_pieces.ensures.front told))

pub returns-clause-part : goal.returns-clause-part
returns-clause-part g c = λ told.
    subst (λ (text : List ℕ). OnErr c.write_pieces.result (AppendsPart (g.E.Ends.held c.args.err.now) (g.E.Ends.held c.write_pieces.new.err) text)) (pieces_are (codes "connection ") (decimal c.args.number) (codes ": ") (ending_text c.args.served.now.ending) c.args.served.now.lines.items)
    (rw (c.as_bytes.ensures.value, c.as_bytes-2.ensures.value, c.format-number.ensures.text, c.ending_text-ending.ensures, c.as_slice.ensures.value) at (c.write_pieces.ensures.part told))
