use Rattle.std.proofs.Common.{sym}
use Rattle.fx_sources.proofs.KeptLemmas.{probes_kept, probes_left}
use Rattle.fx_sources.proofs.choices.add_kept.Goals as goal

pub returns-in_ok-add_missing : goal.returns-in_ok-add_missing
returns-in_ok-add_missing c =
    probes_kept c.args.kept.now c.args.cache.now c.args.keys.now c.args.at c.args.probes.now.items c.add_missing.new.probes.items (sym c.if-is_kept.ensures) c.in_ok-add_missing.ensures

pub returns-else-is_kept : goal.returns-else-is_kept
returns-else-is_kept c = probes_left c.args.kept.now c.args.cache.now c.args.keys.now c.args.at c.args.probes.now.items (sym c.if-is_kept.ensures)
