use Rattle.std.proofs.Common.{◌∙◌}
use Rattle.fx_walks.proofs.ElementLemmas.{own_filters}
use Rattle.fx_engine.proofs.groups.left_joined.Goals as goal

pub returns-clause-given : goal.returns-clause-given
returns-clause-given c =
    rw (c.as_slice.ensures.value ∙ c.in_ok-filters.ensures ∙ own_filters c.args.group.now) at c.in_ok-left_join_with.ensures
