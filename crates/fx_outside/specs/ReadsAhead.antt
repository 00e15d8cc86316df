-- What is known of a stream that is read ahead of what is asked for.
use Rattle.std.specs.Prelude.{ℕ, List}
use Rattle.std.specs.declared.option.Option.{Option}
use Rattle.std.specs.Io.Buffered.{reader_inner, reader_remaining}
use Rattle.fx_outside.specs.declared.read_ahead.ReadAhead.{ReadAhead}

-- the stream that it stands over
abbrev pub stream_behind : {S : Type 0} → ReadAhead S → S
stream_behind ahead = reader_inner ahead.reader

-- what was read ahead and isn't asked for yet, and then what is left of the stream, where that is known
abbrev pub left_of : {S : Type 0} → (S → Option (List ℕ)) → ReadAhead S → Option (List ℕ)
left_of left ahead = reader_remaining left ahead.reader
