-- What is known of a stream of std.
use Rattle.std.specs.Prelude.{◌≡◌, ℕ}
use Rattle.fx_outside.specs.declared.system_links.StdLink.{StdLink}

-- the stream that it stands over
abbrev pub stream_of : {S : Type 0} → StdLink S → S
stream_of link = link.stream

-- how many reads have failed
abbrev pub read_faults_of : {S : Type 0} → StdLink S → ℕ
read_faults_of link = link.read_faults

-- how many writes have failed
abbrev pub write_faults_of : {S : Type 0} → StdLink S → ℕ
write_faults_of link = link.write_faults

-- a link without a fault
pub record IsFaultless {S : Type 0} (link : StdLink S) : Type 0 where
  pub reads : read_faults_of link ≡ 0
  pub writes : write_faults_of link ≡ 0
