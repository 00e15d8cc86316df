use Rattle.std.proofs.Common.{◌∙◌, sym, rules, option_map}
use Rattle.url.specs.Parts.{nonempty_host}
use Rattle.url.specs.Host.{host_text}
use Rattle.fx_sources.proofs.LineLemmas.{entry_is, flagged_is}
use Rattle.fx_sources.proofs.lines.entry_at.Goals as goal

pub invariant_of-result : goal.invariant_of-result
invariant_of-result c =
    flagged_is c.args.flags c.in-Some.endpoint c.with_flags-endpoint.result _ c.with_flags-endpoint.ensures
    (entry_is c.args.name.now c.args.iri c.in-Ok.url (option_map host_text (nonempty_host c.in-Ok.url)) c.in-Some.endpoint _
    (sym c.in_ok-endpoint.ensures ∙ c.in-Some.is)
    c.text.ensures.valid
    (rw c.text.ensures.value at c.in-Ok.ensures)
    (c.in_ok-url.ensures.ok ∙ c.as_str.ensures.value)
    (search rules))
