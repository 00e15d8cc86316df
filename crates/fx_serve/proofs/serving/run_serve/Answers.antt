use Rattle.std.proofs.Common.{◌∙◌, sym, subst, refl, List, [], inl, map}
use Rattle.fx_pool.proofs.WireLemmas.{after_itself}
use Rattle.fx_pool.proofs.WiresLemmas.{all_tell}
use Rattle.fx_sources.specs.Probes.{Entry}
use Rattle.fx_traffic.specs.Gains.{seen}
use Rattle.fx_local.specs.Counts.{CountsOnly}
use Rattle.fx_local.specs.Files.{file_read}
use Rattle.fx_local.specs.Lines.{no_memory}
use Rattle.fx_local.specs.RefusalStatuses.{registry_status}
use Rattle.fx_local.specs.RegistryFiles.{registry_line}
use Rattle.fx_local.specs.Serving.{once_more}
use Rattle.fx_local.specs.declared.statuses.Status.{Status}
use Rattle.fx_local.specs.declared.statuses.Status.TheVariants as status
use Rattle.fx_local.proofs.CountLemmas.{only_read}
use Rattle.fx_local.proofs.GainLemmas.{gains_alone}
use Rattle.fx_serve.specs.Connections.{known, members_of}
use Rattle.fx_serve.specs.Serving.{IsServeReported, IsServingReported}
use Rattle.fx_serve.proofs.RegistryLemmas.{refused_otherwise, refused_reported, served_reported, unserved, want_otherwise}
use Rattle.fx_serve.proofs.ServingLemmas.{report_after}
use Rattle.fx_serve.proofs.serving.run_serve.Goals as goal

pub returns-in-Err-clause-reported : goal.returns-in-Err-clause-reported
returns-in-Err-clause-reported g c =
    let r = file_read (g.F.Files.seen c.args.files.now) (g.F.Files.seen c.load_registry.new.files) c.args.asked.registry.now in
    let w = seen g.W.Wire c.args.wires.now c.args.wires.now in
    let door = g.D.Door.seen c.args.door.now in
    let last = registry_line c.in-Err.refusal c.args.asked.registry.now in (
      [],
      last,
      subst (λ (s : Status). IsServeReported r w door door c.args.asked.address.now c.args.asked.count c.args.asked.block s [] last) (sym c.status.ensures)
          (refused_reported r w door c.args.asked.address.now c.args.asked.count c.args.asked.block c.in-Err.refusal refl c.in-Err.ensures.outcome),
      λ told. gains_alone _ _ _ _ last (c.write_registry_refusal.ensures told),
      λ is. absurd (refused_otherwise c.in-Err.refusal (sym c.status.ensures ∙ is)),
    )

pub returns-in-Err-new-clause-reported : goal.returns-in-Err-new-clause-reported
returns-in-Err-new-clause-reported g c =
    let w = seen g.W.Wire c.args.wires.now c.args.wires.now in
    let door = g.D.Door.seen c.args.door.now in (
      [],
      no_memory,
      inl (unserved w door no_memory refl),
      λ told. gains_alone _ _ _ _ no_memory (c.write_no_memory.ensures told),
      λ is. absurd (want_otherwise is),
    )

pub returns-clause-reported : goal.returns-clause-reported
returns-clause-reported g c =
    let r = file_read (g.F.Files.seen c.args.files.now) (g.F.Files.seen c.load_registry.new.files) c.args.asked.registry.now in
    let w = seen g.W.Wire c.args.wires.now c.serve_members.new.wires in
    let before = g.D.Door.seen c.args.door.now in
    let after = g.D.Door.seen c.serve_members.new.door in
    let laws = g.met.W.Wire g.world.𝓛 g.world.𝓜 g.world.𝓡 ((λ s x. x), (λ x. x), (λ x. x), λ x. x) in
    let told = c.serve_members.ensures.reported in
    let m = members_of g.W.Wire c.in-Ok.members c.args.asked.block in
    let reported = subst (λ (old : List Entry). IsServingReported m before after (once_more before c.args.asked.address.now) c.args.asked.count (known (map g.W.Wire.seen c.args.wires.now) old) (known (map g.W.Wire.seen c.serve_members.new.wires) c.serve_members.new.cache) c.serve_members.result told.0 told.1)
    c.in-Ok-new.ensures told.2 in (
      told.0,
      told.1,
      served_reported r w before after c.args.asked.address.now c.args.asked.count c.args.asked.block c.serve_members.result told.0 told.1
          (record { endpoints = c.in-Ok.members; registered = c.in-Ok.ensures.outcome; registry = c.endpoints.ensures.valid; alike = all_tell g.W.Wire.seen g.W.Wire.tells_log laws.told c.args.wires.now; entries = c.serve_members.new.cache; reported = reported }),
      told.3,
      told.4,
    )

pub returns-in-Err-clause-wired : goal.returns-in-Err-clause-wired
returns-in-Err-clause-wired g c = after_itself (map g.W.Wire.seen c.args.wires.now)

pub returns-clause-wired : goal.returns-clause-wired
returns-clause-wired g c =
    let laws = g.met.W.Wire g.world.𝓛 g.world.𝓜 g.world.𝓡 ((λ s x. x), (λ x. x), (λ x. x), λ x. x) in
    report_after (members_of g.W.Wire c.in-Ok.members c.args.asked.block) (g.D.Door.seen c.args.door.now) (g.D.Door.seen c.serve_members.new.door) (once_more (g.D.Door.seen c.args.door.now) c.args.asked.address.now) c.args.asked.count (known (map g.W.Wire.seen c.args.wires.now) _) (known (map g.W.Wire.seen c.serve_members.new.wires) c.serve_members.new.cache) c.serve_members.result _ _ (all_tell g.W.Wire.seen g.W.Wire.tells_log laws.told c.args.wires.now) c.serve_members.ensures.reported.2

pub returns-in-Err-new-clause-wired : goal.returns-in-Err-new-clause-wired
returns-in-Err-new-clause-wired g c = after_itself (map g.W.Wire.seen c.args.wires.now)

pub returns-in-Err-clause-read_faults : goal.returns-in-Err-clause-read_faults
returns-in-Err-clause-read_faults g c =
    let before = (g.F.Files.seen c.args.files.now).faults in
    let after = (g.F.Files.seen c.load_registry.new.files).faults in
    subst (λ (s : Status). CountsOnly status.ReadFault s before after) (sym c.status.ensures) (only_read c.args.asked.registry.now (registry_status c.in-Err.refusal) before after c.in-Err.ensures.counted)

pub returns-in-Err-new-clause-read_faults : goal.returns-in-Err-new-clause-read_faults
returns-in-Err-new-clause-read_faults g c = inl c.in-Ok.ensures.counted

pub returns-clause-read_faults : goal.returns-clause-read_faults
returns-clause-read_faults g c = inl c.in-Ok.ensures.counted
