use Rattle.std.proofs.Common.{◌≡◌, map, drop}
use Rattle.httparse.specs.Spans.{header_bytes}
use Rattle.fx_http.specs.Fields.{is_missing}
use Rattle.fx_http.proofs.fields.is_missing.Given as goal

-- what is left decides
abbrev pub invariant-loop-header : goal.invariant-loop-header
invariant-loop-header l = is_missing l.name (map (header_bytes l.bytes) (drop l.header-index l.headers)) ≡ is_missing l.name (map (header_bytes l.bytes) l.headers)
