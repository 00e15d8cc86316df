-- What is known of a stream whose peer isn't waited for without end.
use Rattle.fx_outside.specs.declared.patience.Patient.{Patient}

-- the stream that it stands over
abbrev pub stream_within : {S C : Type 0} → Patient S C → S
stream_within patient = patient.stream
