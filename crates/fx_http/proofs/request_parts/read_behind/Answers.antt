use Rattle.std.proofs.Common.{◌∙◌, refl, ap, map, take}
use Rattle.httparse.specs.Spans.{header_bytes}
use Rattle.fx_http.specs.Forms.{query_part}
use Rattle.fx_http.proofs.ReadRequestLaws.{gives_as, asks_behind, body_behind, part_behind, ok_as}
use Rattle.fx_http.proofs.request_parts.read_behind.Goals as goal

pub returns-clause-found : goal.returns-clause-found
returns-clause-found g c t =
    gives_as c.read_parts.result _ _
    (asks_behind c.args.front.now c.read_spans-head.new.headers c.read_spans-head.result c.read_spans-head.ensures c.of.result.now c.query_part.result.now
    (map (header_bytes c.args.front.now) (take c.read_spans-head.result.headers c.read_spans-head.new.headers))
    c.of.ensures (c.query_part.ensures ∙ ap query_part c.of-2.ensures) refl _)
    (c.read_parts.ensures.found t)

pub returns-clause-taken : goal.returns-clause-taken
returns-clause-taken g c t =
    ok_as c.read_parts.result _ _
    (λ text h. body_behind c.args.front.now c.read_spans-head.new.headers c.read_spans-head.result c.read_spans-head.ensures c.of.result.now c.query_part.result.now
    (map (header_bytes c.args.front.now) (take c.read_spans-head.result.headers c.read_spans-head.new.headers))
    c.of.ensures (c.query_part.ensures ∙ ap query_part c.of-2.ensures) refl _ _ h)
    (c.read_parts.ensures.taken t)

pub returns-clause-within : goal.returns-clause-within
returns-clause-within g c t =
    part_behind c.args.front.now c.read_spans-head.new.headers c.read_spans-head.result c.read_spans-head.ensures c.of.result.now c.query_part.result.now
    (map (header_bytes c.args.front.now) (take c.read_spans-head.result.headers c.read_spans-head.new.headers))
    c.of.ensures (c.query_part.ensures ∙ ap query_part c.of-2.ensures) refl _ _ (c.read_parts.ensures.within t)
