-- What is known of a wire over TCP.
use Rattle.std.specs.Prelude.{ℕ, List}
use Rattle.fx_wire.specs.declared.tcp_wires.TcpWire.{TcpWire}
use Rattle.fx_outside.specs.NameCounts.{count_of}

-- how many exchanges at an address have failed
abbrev pub faults_of_wire : {R : Type 0} → TcpWire R → List ℕ → ℕ
faults_of_wire wire address = count_of wire.faults address
