use Rattle.fx_local.proofs.serving.write_ending.Goals as goal

pub returns-clause-whole : goal.returns-clause-whole
returns-clause-whole g c = λ told. rw (c.as_bytes.ensures.value, c.as_bytes-2.ensures.value, c.format-number.ensures.text, c.ending_text-ending.ensures) at (c.write_pieces.ensures.whole told)

pub returns-clause-front : goal.returns-clause-front
returns-clause-front g c = λ told. rw (c.as_bytes.ensures.value, c.as_bytes-2.ensures.value, c.format-number.ensures.text, c.ending_text-ending.ensures) at (c.write_pieces.ensures.front told)

pub returns-clause-part : goal.returns-clause-part
returns-clause-part g c = λ told. rw (c.as_bytes.ensures.value, c.as_bytes-2.ensures.value, c.format-number.ensures.text, c.ending_text-ending.ensures) at (c.write_pieces.ensures.part told)
