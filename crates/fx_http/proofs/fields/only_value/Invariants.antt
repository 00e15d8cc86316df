use Rattle.std.proofs.Common.{◌≡◌, map, drop}
use Rattle.std.specs.Option.{option_copied}
use Rattle.httparse.specs.Spans.{header_bytes}
use Rattle.fx_http.specs.Fields.{values, only}
use Rattle.fx_http.proofs.FieldLemmas.{onward}
use Rattle.fx_http.proofs.fields.only_value.Given as goal

-- the value so far and what is left decide
abbrev pub invariant-loop-header : goal.invariant-loop-header
invariant-loop-header l = onward (option_copied l.found) (values l.name (map (header_bytes l.bytes) (drop l.header-index l.headers))) ≡ only (values l.name (map (header_bytes l.bytes) l.headers))
