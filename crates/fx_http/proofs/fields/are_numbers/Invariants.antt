use Rattle.std.proofs.Common.{◌≡◌, map, drop}
use Rattle.std.specs.List.{list_all}
use Rattle.httparse.specs.Spans.{header_bytes}
use Rattle.fx_http.specs.Fields.{values, is_number}
use Rattle.fx_http.proofs.fields.are_numbers.Given as goal

-- what is left decides
abbrev pub invariant-loop-header : goal.invariant-loop-header
invariant-loop-header l = list_all is_number (values l.name (map (header_bytes l.bytes) (drop l.header-index l.headers))) ≡ list_all is_number (values l.name (map (header_bytes l.bytes) l.headers))
