use Rattle.std.proofs.Common.{ap, sym, ◌∙◌}
use Rattle.std.specs.List.{insert}
use Rattle.fx_algebra.specs.Solutions.{place_in}
use Rattle.fx_algebra.proofs.PairLemmas.{put_at}
use Rattle.fx_values.proofs.tellings.put_pair.Goals as goal

pub returns : goal.returns
returns c =
    c.in_ok-insert.ensures.items
    ∙ (λ i. insert c.args.pairs.now.items ((c.place_of-place.ensures.exact ∙ ap (λ v. place_in v c.args.name.now) c.as_slice.ensures.value) i) (c.in_ok-name.ensures i, c.in_ok-term.ensures i))
    ∙ sym (put_at c.args.pairs.now.items c.args.name.now c.args.term.now c.requires)
