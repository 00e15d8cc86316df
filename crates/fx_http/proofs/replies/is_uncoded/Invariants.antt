use Rattle.std.proofs.Common.{◌≡◌, map, drop}
use Rattle.std.specs.Prelude.{codes}
use Rattle.std.specs.List.{list_all}
use Rattle.httparse.specs.Spans.{header_bytes}
use Rattle.fx_http.specs.Fields.{values}
use Rattle.fx_http.specs.Replies.{is_identity}
use Rattle.fx_http.proofs.replies.is_uncoded.Given as goal

-- what is left decides
abbrev pub invariant-loop-header : goal.invariant-loop-header
invariant-loop-header l = list_all is_identity (values (codes "content-encoding") (map (header_bytes l.front) (drop l.header-index l.headers))) ≡ list_all is_identity (values (codes "content-encoding") (map (header_bytes l.front) l.headers))
