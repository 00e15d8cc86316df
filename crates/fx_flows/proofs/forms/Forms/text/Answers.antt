use Rattle.std.proofs.Common.{◌≡◌, ◌∙◌, ap, sym, true, false}
use Rattle.fx_traffic.specs.Batches.{block_of}
use Rattle.fx_flows.specs.Forms.{Formed}
use Rattle.fx_flows.proofs.FormLemmas.{block_kept, plain_kept, text_by_block, text_by_branches}
use Rattle.fx_flows.proofs.forms.Forms.text.Goals as goal

pub returns-in-Some : goal.returns-in-Some
returns-in-Some c =
    let e = c.args.endpoint.now in
    let p = c.args.self.now.parts in
    let takes : e.values ≡ true = sym c.takes_values.ensures ∙ c.if-takes_values.true in
    let is : c.get.result.now ≡ block_of p = c.get.ensures ∙ block_kept c.self.inside.block c.in-Some.batch _ p c.in-Some.is c.self.invariant.block_is (ap (λ (f : Formed). f.parts) c.self.view_is) in
    text_by_block e p takes c.get.result.now is _ c.block_text.ensures

pub returns-in-Some-plain : goal.returns-in-Some-plain
returns-in-Some-plain c =
    let e = c.args.endpoint.now in
    let p = c.args.self.now.parts in
    let takes : e.values ≡ false = sym c.takes_values.ensures ∙ c.if-takes_values.false in
    let is : c.get-in-Some-plain.result.now ≡ p = c.get-in-Some-plain.ensures ∙ plain_kept c.self.inside.plain c.in-Some-plain.batch _ p c.in-Some-plain.is c.self.invariant.plain_is (ap (λ (f : Formed). f.parts) c.self.view_is) in
    text_by_branches e p takes c.get-in-Some-plain.result.now is _ c.plain_text.ensures
