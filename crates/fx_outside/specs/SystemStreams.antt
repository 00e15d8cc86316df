-- What is known of a writer of std.
use Rattle.std.specs.Prelude.{ℕ}
use Rattle.fx_outside.specs.declared.system_streams.StdSink.{StdSink}

-- the writer that it stands over
abbrev pub writer_of : {W : Type 0} → StdSink W → W
writer_of sink = sink.writer

-- how many writes have failed
abbrev pub faults_of_sink : {W : Type 0} → StdSink W → ℕ
faults_of_sink sink = sink.faults
