use Rattle.std.proofs.Common.{◌≡◌, ◌∙◌, ℕ, List, string_bytes, subst}
use Rattle.std.specs.Prelude.{IfOk}
use Rattle.fx_commands.specs.Generator.{member_graph}
use Rattle.fx_commands.proofs.GeneratorLemmas.{summary_is}
use Rattle.fx_commands.proofs.generated.summary.Goals as goal

pub returns : goal.returns
returns g c =
    let size = c.args.size in
    subst (λ (l : List ℕ). IfOk c.text_of.result (λ text. string_bytes text ≡ l))
    (summary_is size c.in_ok-held.triples c.in_ok-held.held c.in_ok-rows.rows c.as_slice.result.now (c.as_slice.ensures.value ∙ c.in_ok-members.ensures) c.in_ok-held.ensures.0 c.in_ok-held.ensures.1 (c.in_ok-rows.ensures (member_graph size 0) (member_graph size 1) (member_graph size 2) (c.as_slice-2.ensures.value ∙ c.in_ok-members.ensures)))
    c.text_of.ensures
