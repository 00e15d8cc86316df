-- The law is the lemma of `UnionLemmas`.
use Rattle.fx_founds.proofs.UnionLemmas.{members_have_the_union}
use Rattle.fx_founds.proofs.members_have_the_union.Goals as goal

pub returns : goal.returns
returns c = members_have_the_union
