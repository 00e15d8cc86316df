use Rattle.std.proofs.Common.{◌≡◌, ap, sym, subst, refl, ℕ, List, [], ◌++◌, Option, Some, IsTrue, map, string_bytes, take}
use Rattle.fx_pool.proofs.WireLemmas.{after_itself}
use Rattle.fx_wire.specs.Exchanges.{Seen}
use Rattle.fx_traffic.specs.Gains.{WiresSeen, wires_seen}
use Rattle.fx_words.specs.Commands.{Asked, asked, gated, over_members, planned}
use Rattle.fx_program.specs.Completeness.{Completes}
use Rattle.fx_local.specs.Files.{file_read}
use Rattle.fx_commands.specs.Explain.{IsExplainWritten, IsExplanation}
use Rattle.fx_program.specs.Headline.{Headline}
use Rattle.fx_local.specs.Lines.{Gains, usage_line, no_memory}
use Rattle.fx_local.specs.Local.{IsAnswer}
use Rattle.fx_commands.specs.Query.{IsQueryWritten, IsUnionAnswer}
use Rattle.fx_program.specs.Runs.{Reports, WritesGiven, wires_used}
use Rattle.fx_local.specs.Sinks.{IsCutShort, sink_written}
use Rattle.fx_local.specs.declared.statuses.Status.TheVariants as status
use Rattle.fx_program.proofs.CompletenessLemmas.{explain_completes, local_completes, making_completes, member_completes, query_completes, serve_completes, want_completes}
use Rattle.fx_local.proofs.GainLemmas.{gains_alone}
use Rattle.fx_program.proofs.HeadlineLemmas.{explain_headline, local_headline, making_headline, no_headline, query_headline, usage_gives_nothing, want_gives_nothing}
use Rattle.fx_program.proofs.ReportLemmas.{file_counts, file_reported, gated_counts, gated_cut, gated_reported, gated_written, making_counts, making_cut, making_reported, making_written, members_counts, members_cut, members_reported, members_written, memory_reported, nothing_written, plan_counts, plan_cut, plan_reported, plan_written, serving_counts, serving_reported, usage_reported}
use Rattle.fx_commands.proofs.FaultLemmas.{counts_down}
use Rattle.fx_program.proofs.UsedLemmas.{on_same, on_taken, on_used, used_after, used_down, used_left}
use Rattle.fx_program.proofs.running.run.Goals as goal

-- ---- words that are no command

pub returns-in-Err-Usage-clause-reported : goal.returns-in-Err-Usage-clause-reported
returns-in-Err-Usage-clause-reported g c =
    let err = sink_written g.E.Ends.tells_held g.E.Ends.held g.E.Ends.write_faults c.args.err.now c.write_usage.new.err in
    let a = asked (map (λ w. string_bytes w) c.args.words.now) in
    let read = file_read (g.F.Files.seen c.args.files.now) (g.F.Files.seen c.args.files.now) in
    let door = g.D.Door.seen c.args.door.now in
    on_same g.W.Wire.seen g.W.Wire.tells_log g.W.Wire.counts_alone
    (λ (w : WiresSeen). (lines : List ℕ) × (text : List ℕ) × Reports read w door door a status.Usage lines text err × (IsTrue g.E.Ends.tells_held → Gains (g.E.Ends.held c.args.err.now ++ lines) (g.E.Ends.held c.write_usage.new.err) (g.E.Ends.write_faults c.args.err.now) (g.E.Ends.write_faults c.write_usage.new.err) text))
    (wires_used a) c.args.wires.now
    ([], usage_line, usage_reported read _ door a err (rw c.in-Err-Usage.field-0-is at c.in-Err-Usage.ensures.asked) refl, λ tells. gains_alone _ _ _ _ usage_line (c.write_usage.ensures tells))

pub returns-in-Err-Usage-clause-given : goal.returns-in-Err-Usage-clause-given
returns-in-Err-Usage-clause-given g c =
    let a = asked (map (λ w. string_bytes w) c.args.words.now) in
    let read = file_read (g.F.Files.seen c.args.files.now) (g.F.Files.seen c.args.files.now) in
    let out = sink_written g.O.Ends.tells_held g.O.Ends.held g.O.Ends.write_faults c.args.out.now c.args.out.now in
    let err = sink_written g.E.Ends.tells_held g.E.Ends.held g.E.Ends.write_faults c.args.err.now c.write_usage.new.err in
    on_same g.W.Wire.seen g.W.Wire.tells_log g.W.Wire.counts_alone (λ (w : WiresSeen). WritesGiven read w a status.Usage out err) (wires_used a) c.args.wires.now (usage_gives_nothing read _ a out err)

pub returns-in-Err-Usage-clause-wired : goal.returns-in-Err-Usage-clause-wired
returns-in-Err-Usage-clause-wired g c = after_itself (map g.W.Wire.seen c.args.wires.now)

pub returns-in-Err-Memory-clause-headline : goal.returns-in-Err-Memory-clause-headline
returns-in-Err-Memory-clause-headline g c =
    let a = asked (map (λ w. string_bytes w) c.args.words.now) in
    let read = file_read (g.F.Files.seen c.args.files.now) (g.F.Files.seen c.args.files.now) in
    let out = sink_written g.O.Ends.tells_held g.O.Ends.held g.O.Ends.write_faults c.args.out.now c.args.out.now in
    let err = sink_written g.E.Ends.tells_held g.E.Ends.held g.E.Ends.write_faults c.args.err.now c.write_refusal.new.err in
    on_same g.W.Wire.seen g.W.Wire.tells_log g.W.Wire.counts_alone (λ (w : WiresSeen). Headline read w a status.NoMemory out err) (wires_used a) c.args.wires.now (no_headline read _ a out err)

pub returns-in-Err-Memory-clause-given : goal.returns-in-Err-Memory-clause-given
returns-in-Err-Memory-clause-given g c =
    let a = asked (map (λ w. string_bytes w) c.args.words.now) in
    let read = file_read (g.F.Files.seen c.args.files.now) (g.F.Files.seen c.args.files.now) in
    let out = sink_written g.O.Ends.tells_held g.O.Ends.held g.O.Ends.write_faults c.args.out.now c.args.out.now in
    let err = sink_written g.E.Ends.tells_held g.E.Ends.held g.E.Ends.write_faults c.args.err.now c.write_refusal.new.err in
    on_same g.W.Wire.seen g.W.Wire.tells_log g.W.Wire.counts_alone (λ (w : WiresSeen). WritesGiven read w a status.NoMemory out err) (wires_used a) c.args.wires.now (want_gives_nothing read _ a out err)

pub returns-in-Err-Memory-clause-completes : goal.returns-in-Err-Memory-clause-completes
returns-in-Err-Memory-clause-completes g c =
    let a = asked (map (λ w. string_bytes w) c.args.words.now) in
    let read = file_read (g.F.Files.seen c.args.files.now) (g.F.Files.seen c.args.files.now) in
    let door = g.D.Door.seen c.args.door.now in
    let out = sink_written g.O.Ends.tells_held g.O.Ends.held g.O.Ends.write_faults c.args.out.now c.args.out.now in
    let err = sink_written g.E.Ends.tells_held g.E.Ends.held g.E.Ends.write_faults c.args.err.now c.write_refusal.new.err in
    on_same g.W.Wire.seen g.W.Wire.tells_log g.W.Wire.counts_alone (λ (w : WiresSeen). Completes read w door door a status.NoMemory out err) (wires_used a) c.args.wires.now (want_completes read _ door door a out err)

pub returns-in-Err-Memory-clause-reported : goal.returns-in-Err-Memory-clause-reported
returns-in-Err-Memory-clause-reported g c =
    let err = sink_written g.E.Ends.tells_held g.E.Ends.held g.E.Ends.write_faults c.args.err.now c.write_refusal.new.err in
    let a = asked (map (λ w. string_bytes w) c.args.words.now) in
    let read = file_read (g.F.Files.seen c.args.files.now) (g.F.Files.seen c.args.files.now) in
    let door = g.D.Door.seen c.args.door.now in
    on_same g.W.Wire.seen g.W.Wire.tells_log g.W.Wire.counts_alone
    (λ (w : WiresSeen). (lines : List ℕ) × (text : List ℕ) × Reports read w door door a status.NoMemory lines text err × (IsTrue g.E.Ends.tells_held → Gains (g.E.Ends.held c.args.err.now ++ lines) (g.E.Ends.held c.write_refusal.new.err) (g.E.Ends.write_faults c.args.err.now) (g.E.Ends.write_faults c.write_refusal.new.err) text))
    (wires_used a) c.args.wires.now
    ([], no_memory, memory_reported read _ door a err refl, λ tells. gains_alone _ _ _ _ no_memory (c.write_refusal.ensures tells))

pub returns-in-Err-Memory-clause-wired : goal.returns-in-Err-Memory-clause-wired
returns-in-Err-Memory-clause-wired g c = after_itself (map g.W.Wire.seen c.args.wires.now)

pub returns-in-Err-Memory-clause-written : goal.returns-in-Err-Memory-clause-written
returns-in-Err-Memory-clause-written g c = λ told. nothing_written (file_read (g.F.Files.seen c.args.files.now) (g.F.Files.seen c.args.files.now)) _ _ _

-- ---- `local`

pub returns-in-Ok-Local-clause-headline : goal.returns-in-Ok-Local-clause-headline
returns-in-Ok-Local-clause-headline g c =
    let a = asked (map (λ w. string_bytes w) c.args.words.now) in
    let w : WiresSeen = wires_seen g.W.Wire.tells_log g.W.Wire.counts_alone g.W.Wire.seen (take (wires_used a) c.args.wires.now) (take (wires_used a) c.args.wires.now) in
    let read = file_read (g.F.Files.seen c.args.files.now) (g.F.Files.seen c.run_local.new.files) in
    let out = sink_written g.O.Ends.tells_held g.O.Ends.held g.O.Ends.write_faults c.args.out.now c.run_local.new.out in
    let err = sink_written g.E.Ends.tells_held g.E.Ends.held g.E.Ends.write_faults c.args.err.now c.run_local.new.err in
    on_same g.W.Wire.seen g.W.Wire.tells_log g.W.Wire.counts_alone (λ (w : WiresSeen). Headline read w a c.run_local.result out err) (wires_used a) c.args.wires.now
    (subst (λ (o : Option Asked). Headline read w o c.run_local.result out err) (sym (rw c.in-Ok-Local.field-0-is at c.in-Ok-Local.ensures.asked))
    (local_headline (read c.in-Ok-Local.graph.now) (read c.in-Ok-Local.query.now) c.run_local.result out err c.run_local.ensures.written c.run_local.ensures.lines))

pub returns-in-Ok-Local-clause-given : goal.returns-in-Ok-Local-clause-given
returns-in-Ok-Local-clause-given g c =
    let a = asked (map (λ w. string_bytes w) c.args.words.now) in
    let w : WiresSeen = wires_seen g.W.Wire.tells_log g.W.Wire.counts_alone g.W.Wire.seen (take (wires_used a) c.args.wires.now) (take (wires_used a) c.args.wires.now) in
    let read = file_read (g.F.Files.seen c.args.files.now) (g.F.Files.seen c.run_local.new.files) in
    let out = sink_written g.O.Ends.tells_held g.O.Ends.held g.O.Ends.write_faults c.args.out.now c.run_local.new.out in
    let err = sink_written g.E.Ends.tells_held g.E.Ends.held g.E.Ends.write_faults c.args.err.now c.run_local.new.err in
    on_same g.W.Wire.seen g.W.Wire.tells_log g.W.Wire.counts_alone (λ (w : WiresSeen). WritesGiven read w a c.run_local.result out err) (wires_used a) c.args.wires.now
    (subst (λ (o : Option Asked). WritesGiven read w o c.run_local.result out err) (sym (rw c.in-Ok-Local.field-0-is at c.in-Ok-Local.ensures.asked))
    tt)

pub returns-in-Ok-Local-clause-completes : goal.returns-in-Ok-Local-clause-completes
returns-in-Ok-Local-clause-completes g c =
    let a = asked (map (λ w. string_bytes w) c.args.words.now) in
    let w : WiresSeen = wires_seen g.W.Wire.tells_log g.W.Wire.counts_alone g.W.Wire.seen (take (wires_used a) c.args.wires.now) (take (wires_used a) c.args.wires.now) in
    let read = file_read (g.F.Files.seen c.args.files.now) (g.F.Files.seen c.run_local.new.files) in
    let door = g.D.Door.seen c.args.door.now in
    let out = sink_written g.O.Ends.tells_held g.O.Ends.held g.O.Ends.write_faults c.args.out.now c.run_local.new.out in
    let err = sink_written g.E.Ends.tells_held g.E.Ends.held g.E.Ends.write_faults c.args.err.now c.run_local.new.err in
    let told = c.run_local.ensures.reported in
    on_same g.W.Wire.seen g.W.Wire.tells_log g.W.Wire.counts_alone (λ (w : WiresSeen). Completes read w door door a c.run_local.result out err) (wires_used a) c.args.wires.now
    (subst (λ (o : Option Asked). Completes read w door door o c.run_local.result out err) (sym (rw c.in-Ok-Local.field-0-is at c.in-Ok-Local.ensures.asked))
    (local_completes (read c.in-Ok-Local.graph.now) (read c.in-Ok-Local.query.now) c.run_local.result told.0 out err (IsAnswer (read c.in-Ok-Local.graph.now) (read c.in-Ok-Local.query.now)) told.1 c.run_local.ensures.write_fault))

pub returns-in-Ok-Local-clause-reported : goal.returns-in-Ok-Local-clause-reported
returns-in-Ok-Local-clause-reported g c =
    let err = sink_written g.E.Ends.tells_held g.E.Ends.held g.E.Ends.write_faults c.args.err.now c.run_local.new.err in
    let a = asked (map (λ w. string_bytes w) c.args.words.now) in
    let read = file_read (g.F.Files.seen c.args.files.now) (g.F.Files.seen c.run_local.new.files) in
    let door = g.D.Door.seen c.args.door.now in
    let told = c.run_local.ensures.reported in
    on_same g.W.Wire.seen g.W.Wire.tells_log g.W.Wire.counts_alone
    (λ (w : WiresSeen). (lines : List ℕ) × (text : List ℕ) × Reports read w door door a c.run_local.result lines text err × (IsTrue g.E.Ends.tells_held → Gains (g.E.Ends.held c.args.err.now ++ lines) (g.E.Ends.held c.run_local.new.err) (g.E.Ends.write_faults c.args.err.now) (g.E.Ends.write_faults c.run_local.new.err) text))
    (wires_used a) c.args.wires.now
    ([], told.0, file_reported read _ door a err c.in-Ok-Local.graph.now c.in-Ok-Local.query.now c.run_local.result told.0 (rw c.in-Ok-Local.field-0-is at c.in-Ok-Local.ensures.asked) told.1 refl, λ tells. gains_alone _ _ _ _ told.0 (told.2 tells))

pub returns-in-Ok-Local-clause-wired : goal.returns-in-Ok-Local-clause-wired
returns-in-Ok-Local-clause-wired g c = after_itself (map g.W.Wire.seen c.args.wires.now)

pub returns-in-Ok-Local-clause-endpoint_faults : goal.returns-in-Ok-Local-clause-endpoint_faults
returns-in-Ok-Local-clause-endpoint_faults g c = λ alone done. file_counts _ _ _ _ c.in-Ok-Local.graph.now c.in-Ok-Local.query.now (rw c.in-Ok-Local.field-0-is at c.in-Ok-Local.ensures.asked)

-- ---- `query`

pub returns-in-Ok-Query-clause-headline : goal.returns-in-Ok-Query-clause-headline
returns-in-Ok-Query-clause-headline g c =
    let a = asked (map (λ w. string_bytes w) c.args.words.now) in
    let is : a ≡ Some (over_members c.in-Ok-Query.registry.now c.in-Ok-Query.query.now c.in-Ok-Query.workers c.in-Ok-Query.block) = rw c.in-Ok-Query.field-0-is at c.in-Ok-Query.ensures.asked in
    let w : WiresSeen = wires_seen g.W.Wire.tells_log g.W.Wire.counts_alone g.W.Wire.seen c.split_at_mut-used.result.0.now c.run_query.new.wires in
    let read = file_read (g.F.Files.seen c.args.files.now) (g.F.Files.seen c.run_query.new.files) in
    let out = sink_written g.O.Ends.tells_held g.O.Ends.held g.O.Ends.write_faults c.args.out.now c.run_query.new.out in
    let err = sink_written g.E.Ends.tells_held g.E.Ends.held g.E.Ends.write_faults c.args.err.now c.run_query.new.err in
    let told = c.run_query.ensures.reported in
    on_used g.W.Wire.seen g.W.Wire.tells_log g.W.Wire.counts_alone (λ (w : WiresSeen). Headline read w a c.run_query.result out err) (wires_used a) c.in-Ok-Query.workers c.min.result c.args.wires.now c.split_at_mut-used.result.0.now c.split_at_mut-used.result.1.now c.run_query.new.wires
    (ap wires_used is) c.min.ensures c.split_at_mut-used.ensures.front c.split_at_mut-used.ensures.back
    (subst (λ (o : Option Asked). Headline read w o c.run_query.result out err) (sym is)
    (query_headline w (read c.in-Ok-Query.registry.now) (read c.in-Ok-Query.query.now) c.in-Ok-Query.block c.run_query.result told.0 out err told.1 told.2 c.run_query.ensures.done c.run_query.ensures.cut))

pub returns-in-Ok-Query-clause-given : goal.returns-in-Ok-Query-clause-given
returns-in-Ok-Query-clause-given g c =
    let a = asked (map (λ w. string_bytes w) c.args.words.now) in
    let is : a ≡ Some (over_members c.in-Ok-Query.registry.now c.in-Ok-Query.query.now c.in-Ok-Query.workers c.in-Ok-Query.block) = rw c.in-Ok-Query.field-0-is at c.in-Ok-Query.ensures.asked in
    let w : WiresSeen = wires_seen g.W.Wire.tells_log g.W.Wire.counts_alone g.W.Wire.seen c.split_at_mut-used.result.0.now c.run_query.new.wires in
    let read = file_read (g.F.Files.seen c.args.files.now) (g.F.Files.seen c.run_query.new.files) in
    let out = sink_written g.O.Ends.tells_held g.O.Ends.held g.O.Ends.write_faults c.args.out.now c.run_query.new.out in
    let err = sink_written g.E.Ends.tells_held g.E.Ends.held g.E.Ends.write_faults c.args.err.now c.run_query.new.err in
    on_used g.W.Wire.seen g.W.Wire.tells_log g.W.Wire.counts_alone (λ (w : WiresSeen). WritesGiven read w a c.run_query.result out err) (wires_used a) c.in-Ok-Query.workers c.min.result c.args.wires.now c.split_at_mut-used.result.0.now c.split_at_mut-used.result.1.now c.run_query.new.wires
    (ap wires_used is) c.min.ensures c.split_at_mut-used.ensures.front c.split_at_mut-used.ensures.back
    (subst (λ (o : Option Asked). WritesGiven read w o c.run_query.result out err) (sym is)
    (c.run_query.ensures.done, c.run_query.ensures.cut))

pub returns-in-Ok-Query-clause-completes : goal.returns-in-Ok-Query-clause-completes
returns-in-Ok-Query-clause-completes g c =
    let a = asked (map (λ w. string_bytes w) c.args.words.now) in
    let is : a ≡ Some (over_members c.in-Ok-Query.registry.now c.in-Ok-Query.query.now c.in-Ok-Query.workers c.in-Ok-Query.block) = rw c.in-Ok-Query.field-0-is at c.in-Ok-Query.ensures.asked in
    let w : WiresSeen = wires_seen g.W.Wire.tells_log g.W.Wire.counts_alone g.W.Wire.seen c.split_at_mut-used.result.0.now c.run_query.new.wires in
    let read = file_read (g.F.Files.seen c.args.files.now) (g.F.Files.seen c.run_query.new.files) in
    let door = g.D.Door.seen c.args.door.now in
    let out = sink_written g.O.Ends.tells_held g.O.Ends.held g.O.Ends.write_faults c.args.out.now c.run_query.new.out in
    let err = sink_written g.E.Ends.tells_held g.E.Ends.held g.E.Ends.write_faults c.args.err.now c.run_query.new.err in
    let told = c.run_query.ensures.reported in
    on_used g.W.Wire.seen g.W.Wire.tells_log g.W.Wire.counts_alone (λ (w : WiresSeen). Completes read w door door a c.run_query.result out err) (wires_used a) c.in-Ok-Query.workers c.min.result c.args.wires.now c.split_at_mut-used.result.0.now c.split_at_mut-used.result.1.now c.run_query.new.wires
    (ap wires_used is) c.min.ensures c.split_at_mut-used.ensures.front c.split_at_mut-used.ensures.back
    (subst (λ (o : Option Asked). Completes read w door door o c.run_query.result out err) (sym is)
    (query_completes w (read c.in-Ok-Query.registry.now) (read c.in-Ok-Query.query.now) c.in-Ok-Query.block c.run_query.result told.0 out err (IsUnionAnswer w.before (read c.in-Ok-Query.registry.now) (read c.in-Ok-Query.query.now)) told.1 c.run_query.ensures.write_fault))

pub returns-in-Ok-Query-clause-reported : goal.returns-in-Ok-Query-clause-reported
returns-in-Ok-Query-clause-reported g c =
    let err = sink_written g.E.Ends.tells_held g.E.Ends.held g.E.Ends.write_faults c.args.err.now c.run_query.new.err in
    let a = asked (map (λ w. string_bytes w) c.args.words.now) in
    let is : a ≡ Some (over_members c.in-Ok-Query.registry.now c.in-Ok-Query.query.now c.in-Ok-Query.workers c.in-Ok-Query.block) = rw c.in-Ok-Query.field-0-is at c.in-Ok-Query.ensures.asked in
    let w : WiresSeen = wires_seen g.W.Wire.tells_log g.W.Wire.counts_alone g.W.Wire.seen c.split_at_mut-used.result.0.now c.run_query.new.wires in
    let read = file_read (g.F.Files.seen c.args.files.now) (g.F.Files.seen c.run_query.new.files) in
    let door = g.D.Door.seen c.args.door.now in
    let told = c.run_query.ensures.reported in
    on_used g.W.Wire.seen g.W.Wire.tells_log g.W.Wire.counts_alone
    (λ (w : WiresSeen). (lines : List ℕ) × (text : List ℕ) × Reports read w door door a c.run_query.result lines text err × (IsTrue g.E.Ends.tells_held → Gains (g.E.Ends.held c.args.err.now ++ lines) (g.E.Ends.held c.run_query.new.err) (g.E.Ends.write_faults c.args.err.now) (g.E.Ends.write_faults c.run_query.new.err) text))
    (wires_used a) c.in-Ok-Query.workers c.min.result c.args.wires.now c.split_at_mut-used.result.0.now c.split_at_mut-used.result.1.now c.run_query.new.wires
    (ap wires_used is) c.min.ensures c.split_at_mut-used.ensures.front c.split_at_mut-used.ensures.back
    ([], told.0, members_reported read w door a err c.in-Ok-Query.registry.now c.in-Ok-Query.query.now c.in-Ok-Query.workers c.in-Ok-Query.block c.run_query.result told.0 is told.1, λ tells. gains_alone _ _ _ _ told.0 (told.2 tells))

pub returns-in-Ok-Query-clause-wired : goal.returns-in-Ok-Query-clause-wired
returns-in-Ok-Query-clause-wired g c = used_after g.W.Wire.seen c.args.wires.now c.split_at_mut-used.result.0.now c.split_at_mut-used.result.1.now c.run_query.new.wires c.split_at_mut-used.ensures.value c.run_query.ensures.wired

pub returns-in-Ok-Query-clause-written : goal.returns-in-Ok-Query-clause-written
returns-in-Ok-Query-clause-written g c = λ tells.
    let a = asked (map (λ w. string_bytes w) c.args.words.now) in
    let is : a ≡ Some (over_members c.in-Ok-Query.registry.now c.in-Ok-Query.query.now c.in-Ok-Query.workers c.in-Ok-Query.block) = rw c.in-Ok-Query.field-0-is at c.in-Ok-Query.ensures.asked in
    let read = file_read (g.F.Files.seen c.args.files.now) (g.F.Files.seen c.run_query.new.files) in
    let old = g.O.Ends.held c.args.out.now in
    let new = g.O.Ends.held c.run_query.new.out in
    members_written read (map g.W.Wire.seen (take (wires_used a) c.args.wires.now)) a c.in-Ok-Query.registry.now c.in-Ok-Query.query.now c.in-Ok-Query.workers c.in-Ok-Query.block c.run_query.result old new is
    (on_taken g.W.Wire.seen (λ (l : List Seen). IsQueryWritten l (read c.in-Ok-Query.registry.now) (read c.in-Ok-Query.query.now) c.run_query.result old new) (wires_used a) c.in-Ok-Query.workers c.min.result c.args.wires.now c.split_at_mut-used.result.0.now
    (ap wires_used is) c.min.ensures c.split_at_mut-used.ensures.front (c.run_query.ensures.written tells))

pub returns-in-Ok-Query-clause-write_fault : goal.returns-in-Ok-Query-clause-write_fault
returns-in-Ok-Query-clause-write_fault g c = λ cut.
    let a = asked (map (λ w. string_bytes w) c.args.words.now) in
    let is : a ≡ Some (over_members c.in-Ok-Query.registry.now c.in-Ok-Query.query.now c.in-Ok-Query.workers c.in-Ok-Query.block) = rw c.in-Ok-Query.field-0-is at c.in-Ok-Query.ensures.asked in
    let read = file_read (g.F.Files.seen c.args.files.now) (g.F.Files.seen c.run_query.new.files) in
    let out = sink_written g.O.Ends.tells_held g.O.Ends.held g.O.Ends.write_faults c.args.out.now c.run_query.new.out in
    let err = sink_written g.E.Ends.tells_held g.E.Ends.held g.E.Ends.write_faults c.args.err.now c.run_query.new.err in
    members_cut read (map g.W.Wire.seen (take (wires_used a) c.args.wires.now)) a c.in-Ok-Query.registry.now c.in-Ok-Query.query.now c.in-Ok-Query.workers c.in-Ok-Query.block out err is
    (on_taken g.W.Wire.seen (λ (l : List Seen). IsCutShort (IsUnionAnswer l (read c.in-Ok-Query.registry.now) (read c.in-Ok-Query.query.now)) out err) (wires_used a) c.in-Ok-Query.workers c.min.result c.args.wires.now c.split_at_mut-used.result.0.now
    (ap wires_used is) c.min.ensures c.split_at_mut-used.ensures.front (c.run_query.ensures.write_fault cut))

pub returns-in-Ok-Query-clause-endpoint_faults : goal.returns-in-Ok-Query-clause-endpoint_faults
returns-in-Ok-Query-clause-endpoint_faults g c = λ alone done.
    let a = asked (map (λ w. string_bytes w) c.args.words.now) in
    let is : a ≡ Some (over_members c.in-Ok-Query.registry.now c.in-Ok-Query.query.now c.in-Ok-Query.workers c.in-Ok-Query.block) = rw c.in-Ok-Query.field-0-is at c.in-Ok-Query.ensures.asked in
    let w : WiresSeen = wires_seen g.W.Wire.tells_log g.W.Wire.counts_alone g.W.Wire.seen c.split_at_mut-used.result.0.now c.run_query.new.wires in
    let read = file_read (g.F.Files.seen c.args.files.now) (g.F.Files.seen c.run_query.new.files) in
    let out = sink_written g.O.Ends.tells_held g.O.Ends.held g.O.Ends.write_faults c.args.out.now c.run_query.new.out in
    let err = sink_written g.E.Ends.tells_held g.E.Ends.held g.E.Ends.write_faults c.args.err.now c.run_query.new.err in
    members_counts read a _ _ err c.in-Ok-Query.registry.now c.in-Ok-Query.query.now c.in-Ok-Query.workers c.in-Ok-Query.block is
    (used_down g.W.Wire.seen (read c.in-Ok-Query.registry.now) (read c.in-Ok-Query.query.now) err c.args.wires.now c.split_at_mut-used.result.0.now c.split_at_mut-used.result.1.now c.run_query.new.wires c.split_at_mut-used.ensures.value
    (counts_down w (read c.in-Ok-Query.registry.now) (read c.in-Ok-Query.query.now) c.in-Ok-Query.block out err (c.run_query.ensures.done done) alone))

-- ---- `explain`

pub returns-in-Ok-Explain-clause-endpoint_faults : goal.returns-in-Ok-Explain-clause-endpoint_faults
returns-in-Ok-Explain-clause-endpoint_faults g c = λ alone done.
    let a = asked (map (λ w. string_bytes w) c.args.words.now) in
    let is : a ≡ Some (planned c.in-Ok-Explain.registry.now c.in-Ok-Explain.query.now) = rw c.in-Ok-Explain.field-0-is at c.in-Ok-Explain.ensures.asked in
    let read = file_read (g.F.Files.seen c.args.files.now) (g.F.Files.seen c.run_explain.new.files) in
    let err = sink_written g.E.Ends.tells_held g.E.Ends.held g.E.Ends.write_faults c.args.err.now c.run_explain.new.err in
    plan_counts read a _ _ err c.in-Ok-Explain.registry.now c.in-Ok-Explain.query.now is
    (used_left g.W.Wire.seen (read c.in-Ok-Explain.registry.now) err c.args.wires.now c.split_at_mut-used-in-Ok-Explain.result.0.now c.split_at_mut-used-in-Ok-Explain.result.1.now c.run_explain.new.wires c.split_at_mut-used-in-Ok-Explain.ensures.value (c.run_explain.ensures.endpoint_faults alone done))

pub returns-in-Ok-Explain-clause-written : goal.returns-in-Ok-Explain-clause-written
returns-in-Ok-Explain-clause-written g c = λ tells.
    let a = asked (map (λ w. string_bytes w) c.args.words.now) in
    let is : a ≡ Some (planned c.in-Ok-Explain.registry.now c.in-Ok-Explain.query.now) = rw c.in-Ok-Explain.field-0-is at c.in-Ok-Explain.ensures.asked in
    let read = file_read (g.F.Files.seen c.args.files.now) (g.F.Files.seen c.run_explain.new.files) in
    let old = g.O.Ends.held c.args.out.now in
    let new = g.O.Ends.held c.run_explain.new.out in
    plan_written read (map g.W.Wire.seen (take (wires_used a) c.args.wires.now)) a c.in-Ok-Explain.registry.now c.in-Ok-Explain.query.now c.run_explain.result old new is
    (on_taken g.W.Wire.seen (λ (l : List Seen). IsExplainWritten l (read c.in-Ok-Explain.registry.now) (read c.in-Ok-Explain.query.now) c.run_explain.result old new) (wires_used a) 4 c.min-in-Ok-Explain.result c.args.wires.now c.split_at_mut-used-in-Ok-Explain.result.0.now
    (ap wires_used is) c.min-in-Ok-Explain.ensures c.split_at_mut-used-in-Ok-Explain.ensures.front (c.run_explain.ensures.written tells))

pub returns-in-Ok-Explain-clause-write_fault : goal.returns-in-Ok-Explain-clause-write_fault
returns-in-Ok-Explain-clause-write_fault g c = λ cut.
    let a = asked (map (λ w. string_bytes w) c.args.words.now) in
    let is : a ≡ Some (planned c.in-Ok-Explain.registry.now c.in-Ok-Explain.query.now) = rw c.in-Ok-Explain.field-0-is at c.in-Ok-Explain.ensures.asked in
    let read = file_read (g.F.Files.seen c.args.files.now) (g.F.Files.seen c.run_explain.new.files) in
    let out = sink_written g.O.Ends.tells_held g.O.Ends.held g.O.Ends.write_faults c.args.out.now c.run_explain.new.out in
    let err = sink_written g.E.Ends.tells_held g.E.Ends.held g.E.Ends.write_faults c.args.err.now c.run_explain.new.err in
    plan_cut read (map g.W.Wire.seen (take (wires_used a) c.args.wires.now)) a c.in-Ok-Explain.registry.now c.in-Ok-Explain.query.now out err is
    (on_taken g.W.Wire.seen (λ (l : List Seen). IsCutShort (IsExplanation l (read c.in-Ok-Explain.registry.now) (read c.in-Ok-Explain.query.now)) out err) (wires_used a) 4 c.min-in-Ok-Explain.result c.args.wires.now c.split_at_mut-used-in-Ok-Explain.result.0.now
    (ap wires_used is) c.min-in-Ok-Explain.ensures c.split_at_mut-used-in-Ok-Explain.ensures.front (c.run_explain.ensures.write_fault cut))

pub returns-in-Ok-Explain-clause-headline : goal.returns-in-Ok-Explain-clause-headline
returns-in-Ok-Explain-clause-headline g c =
    let a = asked (map (λ w. string_bytes w) c.args.words.now) in
    let is : a ≡ Some (planned c.in-Ok-Explain.registry.now c.in-Ok-Explain.query.now) = rw c.in-Ok-Explain.field-0-is at c.in-Ok-Explain.ensures.asked in
    let w : WiresSeen = wires_seen g.W.Wire.tells_log g.W.Wire.counts_alone g.W.Wire.seen c.split_at_mut-used-in-Ok-Explain.result.0.now c.run_explain.new.wires in
    let read = file_read (g.F.Files.seen c.args.files.now) (g.F.Files.seen c.run_explain.new.files) in
    let out = sink_written g.O.Ends.tells_held g.O.Ends.held g.O.Ends.write_faults c.args.out.now c.run_explain.new.out in
    let err = sink_written g.E.Ends.tells_held g.E.Ends.held g.E.Ends.write_faults c.args.err.now c.run_explain.new.err in
    let told = c.run_explain.ensures.reported in
    on_used g.W.Wire.seen g.W.Wire.tells_log g.W.Wire.counts_alone (λ (w : WiresSeen). Headline read w a c.run_explain.result out err) (wires_used a) 4 c.min-in-Ok-Explain.result c.args.wires.now c.split_at_mut-used-in-Ok-Explain.result.0.now c.split_at_mut-used-in-Ok-Explain.result.1.now c.run_explain.new.wires
    (ap wires_used is) c.min-in-Ok-Explain.ensures c.split_at_mut-used-in-Ok-Explain.ensures.front c.split_at_mut-used-in-Ok-Explain.ensures.back
    (subst (λ (o : Option Asked). Headline read w o c.run_explain.result out err) (sym is)
    (explain_headline w (read c.in-Ok-Explain.registry.now) (read c.in-Ok-Explain.query.now) c.run_explain.result told.0 out err told.1 told.2 c.run_explain.ensures.done c.run_explain.ensures.cut))

pub returns-in-Ok-Explain-clause-given : goal.returns-in-Ok-Explain-clause-given
returns-in-Ok-Explain-clause-given g c =
    let a = asked (map (λ w. string_bytes w) c.args.words.now) in
    let is : a ≡ Some (planned c.in-Ok-Explain.registry.now c.in-Ok-Explain.query.now) = rw c.in-Ok-Explain.field-0-is at c.in-Ok-Explain.ensures.asked in
    let w : WiresSeen = wires_seen g.W.Wire.tells_log g.W.Wire.counts_alone g.W.Wire.seen c.split_at_mut-used-in-Ok-Explain.result.0.now c.run_explain.new.wires in
    let read = file_read (g.F.Files.seen c.args.files.now) (g.F.Files.seen c.run_explain.new.files) in
    let out = sink_written g.O.Ends.tells_held g.O.Ends.held g.O.Ends.write_faults c.args.out.now c.run_explain.new.out in
    let err = sink_written g.E.Ends.tells_held g.E.Ends.held g.E.Ends.write_faults c.args.err.now c.run_explain.new.err in
    on_used g.W.Wire.seen g.W.Wire.tells_log g.W.Wire.counts_alone (λ (w : WiresSeen). WritesGiven read w a c.run_explain.result out err) (wires_used a) 4 c.min-in-Ok-Explain.result c.args.wires.now c.split_at_mut-used-in-Ok-Explain.result.0.now c.split_at_mut-used-in-Ok-Explain.result.1.now c.run_explain.new.wires
    (ap wires_used is) c.min-in-Ok-Explain.ensures c.split_at_mut-used-in-Ok-Explain.ensures.front c.split_at_mut-used-in-Ok-Explain.ensures.back
    (subst (λ (o : Option Asked). WritesGiven read w o c.run_explain.result out err) (sym is)
    (c.run_explain.ensures.done, c.run_explain.ensures.cut))

pub returns-in-Ok-Explain-clause-completes : goal.returns-in-Ok-Explain-clause-completes
returns-in-Ok-Explain-clause-completes g c =
    let a = asked (map (λ w. string_bytes w) c.args.words.now) in
    let is : a ≡ Some (planned c.in-Ok-Explain.registry.now c.in-Ok-Explain.query.now) = rw c.in-Ok-Explain.field-0-is at c.in-Ok-Explain.ensures.asked in
    let w : WiresSeen = wires_seen g.W.Wire.tells_log g.W.Wire.counts_alone g.W.Wire.seen c.split_at_mut-used-in-Ok-Explain.result.0.now c.run_explain.new.wires in
    let read = file_read (g.F.Files.seen c.args.files.now) (g.F.Files.seen c.run_explain.new.files) in
    let door = g.D.Door.seen c.args.door.now in
    let out = sink_written g.O.Ends.tells_held g.O.Ends.held g.O.Ends.write_faults c.args.out.now c.run_explain.new.out in
    let err = sink_written g.E.Ends.tells_held g.E.Ends.held g.E.Ends.write_faults c.args.err.now c.run_explain.new.err in
    let told = c.run_explain.ensures.reported in
    on_used g.W.Wire.seen g.W.Wire.tells_log g.W.Wire.counts_alone (λ (w : WiresSeen). Completes read w door door a c.run_explain.result out err) (wires_used a) 4 c.min-in-Ok-Explain.result c.args.wires.now c.split_at_mut-used-in-Ok-Explain.result.0.now c.split_at_mut-used-in-Ok-Explain.result.1.now c.run_explain.new.wires
    (ap wires_used is) c.min-in-Ok-Explain.ensures c.split_at_mut-used-in-Ok-Explain.ensures.front c.split_at_mut-used-in-Ok-Explain.ensures.back
    (subst (λ (o : Option Asked). Completes read w door door o c.run_explain.result out err) (sym is)
    (explain_completes w (read c.in-Ok-Explain.registry.now) (read c.in-Ok-Explain.query.now) c.run_explain.result told.0 out err (IsExplanation w.before (read c.in-Ok-Explain.registry.now) (read c.in-Ok-Explain.query.now)) told.1 c.run_explain.ensures.write_fault))

pub returns-in-Ok-Explain-clause-reported : goal.returns-in-Ok-Explain-clause-reported
returns-in-Ok-Explain-clause-reported g c =
    let err = sink_written g.E.Ends.tells_held g.E.Ends.held g.E.Ends.write_faults c.args.err.now c.run_explain.new.err in
    let a = asked (map (λ w. string_bytes w) c.args.words.now) in
    let is : a ≡ Some (planned c.in-Ok-Explain.registry.now c.in-Ok-Explain.query.now) = rw c.in-Ok-Explain.field-0-is at c.in-Ok-Explain.ensures.asked in
    let w : WiresSeen = wires_seen g.W.Wire.tells_log g.W.Wire.counts_alone g.W.Wire.seen c.split_at_mut-used-in-Ok-Explain.result.0.now c.run_explain.new.wires in
    let read = file_read (g.F.Files.seen c.args.files.now) (g.F.Files.seen c.run_explain.new.files) in
    let door = g.D.Door.seen c.args.door.now in
    let told = c.run_explain.ensures.reported in
    on_used g.W.Wire.seen g.W.Wire.tells_log g.W.Wire.counts_alone
    (λ (w : WiresSeen). (lines : List ℕ) × (text : List ℕ) × Reports read w door door a c.run_explain.result lines text err × (IsTrue g.E.Ends.tells_held → Gains (g.E.Ends.held c.args.err.now ++ lines) (g.E.Ends.held c.run_explain.new.err) (g.E.Ends.write_faults c.args.err.now) (g.E.Ends.write_faults c.run_explain.new.err) text))
    (wires_used a) 4 c.min-in-Ok-Explain.result c.args.wires.now c.split_at_mut-used-in-Ok-Explain.result.0.now c.split_at_mut-used-in-Ok-Explain.result.1.now c.run_explain.new.wires
    (ap wires_used is) c.min-in-Ok-Explain.ensures c.split_at_mut-used-in-Ok-Explain.ensures.front c.split_at_mut-used-in-Ok-Explain.ensures.back
    ([], told.0, plan_reported read w door a err c.in-Ok-Explain.registry.now c.in-Ok-Explain.query.now c.run_explain.result told.0 is told.1, λ tells. gains_alone _ _ _ _ told.0 (told.2 tells))

pub returns-in-Ok-Explain-clause-wired : goal.returns-in-Ok-Explain-clause-wired
returns-in-Ok-Explain-clause-wired g c = used_after g.W.Wire.seen c.args.wires.now c.split_at_mut-used-in-Ok-Explain.result.0.now c.split_at_mut-used-in-Ok-Explain.result.1.now c.run_explain.new.wires c.split_at_mut-used-in-Ok-Explain.ensures.value c.run_explain.ensures.wired

-- ---- `member`

pub returns-in-Ok-Member-clause-completes : goal.returns-in-Ok-Member-clause-completes
returns-in-Ok-Member-clause-completes g c =
    let a = asked (map (λ w. string_bytes w) c.args.words.now) in
    let w : WiresSeen = wires_seen g.W.Wire.tells_log g.W.Wire.counts_alone g.W.Wire.seen (take (wires_used a) c.args.wires.now) (take (wires_used a) c.args.wires.now) in
    let read = file_read (g.F.Files.seen c.args.files.now) (g.F.Files.seen c.run_member.new.files) in
    let door = g.D.Door.seen c.args.door.now in
    let later = g.D.Door.seen c.run_member.new.door in
    let out = sink_written g.O.Ends.tells_held g.O.Ends.held g.O.Ends.write_faults c.args.out.now c.args.out.now in
    let err = sink_written g.E.Ends.tells_held g.E.Ends.held g.E.Ends.write_faults c.args.err.now c.run_member.new.err in
    let told = c.run_member.ensures.reported in
    on_same g.W.Wire.seen g.W.Wire.tells_log g.W.Wire.counts_alone (λ (w : WiresSeen). Completes read w door later a c.run_member.result out err) (wires_used a) c.args.wires.now
    (subst (λ (o : Option Asked). Completes read w door later o c.run_member.result out err) (sym (rw c.in-Ok-Member.field-0-is at c.in-Ok-Member.ensures.asked))
    (member_completes (read c.in-Ok-Member.graph.now) door later c.in-Ok-Member.address.now c.in-Ok-Member.count c.run_member.result told.0 told.1 err told.2 c.run_member.ensures.write_fault))

pub returns-in-Ok-Member-clause-reported : goal.returns-in-Ok-Member-clause-reported
returns-in-Ok-Member-clause-reported g c =
    let err = sink_written g.E.Ends.tells_held g.E.Ends.held g.E.Ends.write_faults c.args.err.now c.run_member.new.err in
    let a = asked (map (λ w. string_bytes w) c.args.words.now) in
    let read = file_read (g.F.Files.seen c.args.files.now) (g.F.Files.seen c.run_member.new.files) in
    let door = g.D.Door.seen c.args.door.now in
    let later = g.D.Door.seen c.run_member.new.door in
    let told = c.run_member.ensures.reported in
    on_same g.W.Wire.seen g.W.Wire.tells_log g.W.Wire.counts_alone
    (λ (w : WiresSeen). (lines : List ℕ) × (text : List ℕ) × Reports read w door later a c.run_member.result lines text err × (IsTrue g.E.Ends.tells_held → Gains (g.E.Ends.held c.args.err.now ++ lines) (g.E.Ends.held c.run_member.new.err) (g.E.Ends.write_faults c.args.err.now) (g.E.Ends.write_faults c.run_member.new.err) text))
    (wires_used a) c.args.wires.now
    (told.0, told.1, serving_reported read _ door later a err c.in-Ok-Member.graph.now c.in-Ok-Member.address.now c.in-Ok-Member.count c.run_member.result told.0 told.1 (rw c.in-Ok-Member.field-0-is at c.in-Ok-Member.ensures.asked) told.2 refl told.4, told.3)

pub returns-in-Ok-Member-clause-given : goal.returns-in-Ok-Member-clause-given
returns-in-Ok-Member-clause-given g c =
    let a = asked (map (λ w. string_bytes w) c.args.words.now) in
    let w : WiresSeen = wires_seen g.W.Wire.tells_log g.W.Wire.counts_alone g.W.Wire.seen (take (wires_used a) c.args.wires.now) (take (wires_used a) c.args.wires.now) in
    let read = file_read (g.F.Files.seen c.args.files.now) (g.F.Files.seen c.run_member.new.files) in
    let out = sink_written g.O.Ends.tells_held g.O.Ends.held g.O.Ends.write_faults c.args.out.now c.args.out.now in
    let err = sink_written g.E.Ends.tells_held g.E.Ends.held g.E.Ends.write_faults c.args.err.now c.run_member.new.err in
    on_same g.W.Wire.seen g.W.Wire.tells_log g.W.Wire.counts_alone (λ (w : WiresSeen). WritesGiven read w a c.run_member.result out err) (wires_used a) c.args.wires.now
    (subst (λ (o : Option Asked). WritesGiven read w o c.run_member.result out err) (sym (rw c.in-Ok-Member.field-0-is at c.in-Ok-Member.ensures.asked)) tt)

pub returns-in-Ok-Member-clause-wired : goal.returns-in-Ok-Member-clause-wired
returns-in-Ok-Member-clause-wired g c = after_itself (map g.W.Wire.seen c.args.wires.now)

pub returns-in-Ok-Member-clause-endpoint_faults : goal.returns-in-Ok-Member-clause-endpoint_faults
returns-in-Ok-Member-clause-endpoint_faults g c = λ alone done. serving_counts _ _ _ _ c.in-Ok-Member.graph.now c.in-Ok-Member.address.now c.in-Ok-Member.count (rw c.in-Ok-Member.field-0-is at c.in-Ok-Member.ensures.asked)

-- ---- `serve`

pub returns-in-Ok-Serve-clause-headline : goal.returns-in-Ok-Serve-clause-headline
returns-in-Ok-Serve-clause-headline g c =
    let a = asked (map (λ w. string_bytes w) c.args.words.now) in
    let is : a ≡ Some (gated c.in-Ok-Serve.registry.now c.in-Ok-Serve.address.now c.in-Ok-Serve.count c.in-Ok-Serve.workers c.in-Ok-Serve.block) = rw c.in-Ok-Serve.field-0-is at c.in-Ok-Serve.ensures.asked in
    let w : WiresSeen = wires_seen g.W.Wire.tells_log g.W.Wire.counts_alone g.W.Wire.seen c.split_at_mut-used-in-Ok-Serve.result.0.now c.run_serve.new.wires in
    let read = file_read (g.F.Files.seen c.args.files.now) (g.F.Files.seen c.run_serve.new.files) in
    let out = sink_written g.O.Ends.tells_held g.O.Ends.held g.O.Ends.write_faults c.args.out.now c.args.out.now in
    let err = sink_written g.E.Ends.tells_held g.E.Ends.held g.E.Ends.write_faults c.args.err.now c.run_serve.new.err in
    on_used g.W.Wire.seen g.W.Wire.tells_log g.W.Wire.counts_alone (λ (w : WiresSeen). Headline read w a c.run_serve.result out err) (wires_used a) c.in-Ok-Serve.workers c.min-in-Ok-Serve.result c.args.wires.now c.split_at_mut-used-in-Ok-Serve.result.0.now c.split_at_mut-used-in-Ok-Serve.result.1.now c.run_serve.new.wires
    (ap wires_used is) c.min-in-Ok-Serve.ensures c.split_at_mut-used-in-Ok-Serve.ensures.front c.split_at_mut-used-in-Ok-Serve.ensures.back
    (subst (λ (o : Option Asked). Headline read w o c.run_serve.result out err) (sym is) tt)

pub returns-in-Ok-Serve-clause-given : goal.returns-in-Ok-Serve-clause-given
returns-in-Ok-Serve-clause-given g c =
    let a = asked (map (λ w. string_bytes w) c.args.words.now) in
    let is : a ≡ Some (gated c.in-Ok-Serve.registry.now c.in-Ok-Serve.address.now c.in-Ok-Serve.count c.in-Ok-Serve.workers c.in-Ok-Serve.block) = rw c.in-Ok-Serve.field-0-is at c.in-Ok-Serve.ensures.asked in
    let w : WiresSeen = wires_seen g.W.Wire.tells_log g.W.Wire.counts_alone g.W.Wire.seen c.split_at_mut-used-in-Ok-Serve.result.0.now c.run_serve.new.wires in
    let read = file_read (g.F.Files.seen c.args.files.now) (g.F.Files.seen c.run_serve.new.files) in
    let out = sink_written g.O.Ends.tells_held g.O.Ends.held g.O.Ends.write_faults c.args.out.now c.args.out.now in
    let err = sink_written g.E.Ends.tells_held g.E.Ends.held g.E.Ends.write_faults c.args.err.now c.run_serve.new.err in
    on_used g.W.Wire.seen g.W.Wire.tells_log g.W.Wire.counts_alone (λ (w : WiresSeen). WritesGiven read w a c.run_serve.result out err) (wires_used a) c.in-Ok-Serve.workers c.min-in-Ok-Serve.result c.args.wires.now c.split_at_mut-used-in-Ok-Serve.result.0.now c.split_at_mut-used-in-Ok-Serve.result.1.now c.run_serve.new.wires
    (ap wires_used is) c.min-in-Ok-Serve.ensures c.split_at_mut-used-in-Ok-Serve.ensures.front c.split_at_mut-used-in-Ok-Serve.ensures.back
    (subst (λ (o : Option Asked). WritesGiven read w o c.run_serve.result out err) (sym is) tt)

pub returns-in-Ok-Serve-clause-completes : goal.returns-in-Ok-Serve-clause-completes
returns-in-Ok-Serve-clause-completes g c =
    let a = asked (map (λ w. string_bytes w) c.args.words.now) in
    let is : a ≡ Some (gated c.in-Ok-Serve.registry.now c.in-Ok-Serve.address.now c.in-Ok-Serve.count c.in-Ok-Serve.workers c.in-Ok-Serve.block) = rw c.in-Ok-Serve.field-0-is at c.in-Ok-Serve.ensures.asked in
    let w : WiresSeen = wires_seen g.W.Wire.tells_log g.W.Wire.counts_alone g.W.Wire.seen c.split_at_mut-used-in-Ok-Serve.result.0.now c.run_serve.new.wires in
    let read = file_read (g.F.Files.seen c.args.files.now) (g.F.Files.seen c.run_serve.new.files) in
    let door = g.D.Door.seen c.args.door.now in
    let later = g.D.Door.seen c.run_serve.new.door in
    let out = sink_written g.O.Ends.tells_held g.O.Ends.held g.O.Ends.write_faults c.args.out.now c.args.out.now in
    let err = sink_written g.E.Ends.tells_held g.E.Ends.held g.E.Ends.write_faults c.args.err.now c.run_serve.new.err in
    let told = c.run_serve.ensures.reported in
    on_used g.W.Wire.seen g.W.Wire.tells_log g.W.Wire.counts_alone (λ (w : WiresSeen). Completes read w door later a c.run_serve.result out err) (wires_used a) c.in-Ok-Serve.workers c.min-in-Ok-Serve.result c.args.wires.now c.split_at_mut-used-in-Ok-Serve.result.0.now c.split_at_mut-used-in-Ok-Serve.result.1.now c.run_serve.new.wires
    (ap wires_used is) c.min-in-Ok-Serve.ensures c.split_at_mut-used-in-Ok-Serve.ensures.front c.split_at_mut-used-in-Ok-Serve.ensures.back
    (subst (λ (o : Option Asked). Completes read w door later o c.run_serve.result out err) (sym is)
    (serve_completes (read c.in-Ok-Serve.registry.now) w door later c.in-Ok-Serve.address.now c.in-Ok-Serve.count c.in-Ok-Serve.block c.run_serve.result told.0 told.1 err told.2 c.run_serve.ensures.write_fault))

pub returns-in-Ok-Serve-clause-reported : goal.returns-in-Ok-Serve-clause-reported
returns-in-Ok-Serve-clause-reported g c =
    let a = asked (map (λ w. string_bytes w) c.args.words.now) in
    let is : a ≡ Some (gated c.in-Ok-Serve.registry.now c.in-Ok-Serve.address.now c.in-Ok-Serve.count c.in-Ok-Serve.workers c.in-Ok-Serve.block) = rw c.in-Ok-Serve.field-0-is at c.in-Ok-Serve.ensures.asked in
    let w : WiresSeen = wires_seen g.W.Wire.tells_log g.W.Wire.counts_alone g.W.Wire.seen c.split_at_mut-used-in-Ok-Serve.result.0.now c.run_serve.new.wires in
    let read = file_read (g.F.Files.seen c.args.files.now) (g.F.Files.seen c.run_serve.new.files) in
    let door = g.D.Door.seen c.args.door.now in
    let later = g.D.Door.seen c.run_serve.new.door in
    let err = sink_written g.E.Ends.tells_held g.E.Ends.held g.E.Ends.write_faults c.args.err.now c.run_serve.new.err in
    let told = c.run_serve.ensures.reported in
    on_used g.W.Wire.seen g.W.Wire.tells_log g.W.Wire.counts_alone
    (λ (w : WiresSeen). (lines : List ℕ) × (text : List ℕ) × Reports read w door later a c.run_serve.result lines text err × (IsTrue g.E.Ends.tells_held → Gains (g.E.Ends.held c.args.err.now ++ lines) (g.E.Ends.held c.run_serve.new.err) (g.E.Ends.write_faults c.args.err.now) (g.E.Ends.write_faults c.run_serve.new.err) text))
    (wires_used a) c.in-Ok-Serve.workers c.min-in-Ok-Serve.result c.args.wires.now c.split_at_mut-used-in-Ok-Serve.result.0.now c.split_at_mut-used-in-Ok-Serve.result.1.now c.run_serve.new.wires
    (ap wires_used is) c.min-in-Ok-Serve.ensures c.split_at_mut-used-in-Ok-Serve.ensures.front c.split_at_mut-used-in-Ok-Serve.ensures.back
    (told.0, told.1, gated_reported read w door later a err c.in-Ok-Serve.registry.now c.in-Ok-Serve.address.now c.in-Ok-Serve.count c.in-Ok-Serve.workers c.in-Ok-Serve.block c.run_serve.result told.0 told.1 is told.2 told.4, told.3)

pub returns-in-Ok-Serve-clause-wired : goal.returns-in-Ok-Serve-clause-wired
returns-in-Ok-Serve-clause-wired g c = used_after g.W.Wire.seen c.args.wires.now c.split_at_mut-used-in-Ok-Serve.result.0.now c.split_at_mut-used-in-Ok-Serve.result.1.now c.run_serve.new.wires c.split_at_mut-used-in-Ok-Serve.ensures.value c.run_serve.ensures.wired

pub returns-in-Ok-Serve-clause-written : goal.returns-in-Ok-Serve-clause-written
returns-in-Ok-Serve-clause-written g c = λ tells.
    gated_written (file_read (g.F.Files.seen c.args.files.now) (g.F.Files.seen c.run_serve.new.files)) _ _ c.in-Ok-Serve.registry.now c.in-Ok-Serve.address.now c.in-Ok-Serve.count c.in-Ok-Serve.workers c.in-Ok-Serve.block c.run_serve.result (g.O.Ends.held c.args.out.now) (rw c.in-Ok-Serve.field-0-is at c.in-Ok-Serve.ensures.asked)

pub returns-in-Ok-Serve-clause-write_fault : goal.returns-in-Ok-Serve-clause-write_fault
returns-in-Ok-Serve-clause-write_fault g c = λ cut.
    let out = sink_written g.O.Ends.tells_held g.O.Ends.held g.O.Ends.write_faults c.args.out.now c.args.out.now in
    let err = sink_written g.E.Ends.tells_held g.E.Ends.held g.E.Ends.write_faults c.args.err.now c.run_serve.new.err in
    gated_cut (file_read (g.F.Files.seen c.args.files.now) (g.F.Files.seen c.run_serve.new.files)) _ _ c.in-Ok-Serve.registry.now c.in-Ok-Serve.address.now c.in-Ok-Serve.count c.in-Ok-Serve.workers c.in-Ok-Serve.block out err (rw c.in-Ok-Serve.field-0-is at c.in-Ok-Serve.ensures.asked) (λ _. refl, refl) (c.run_serve.ensures.write_fault cut)

pub returns-in-Ok-Serve-clause-endpoint_faults : goal.returns-in-Ok-Serve-clause-endpoint_faults
returns-in-Ok-Serve-clause-endpoint_faults g c = λ alone done.
    gated_counts _ _ _ _ _ c.in-Ok-Serve.registry.now c.in-Ok-Serve.address.now c.in-Ok-Serve.count c.in-Ok-Serve.workers c.in-Ok-Serve.block (rw c.in-Ok-Serve.field-0-is at c.in-Ok-Serve.ensures.asked)

-- ---- `generate`

pub returns-in-Ok-Generate-clause-headline : goal.returns-in-Ok-Generate-clause-headline
returns-in-Ok-Generate-clause-headline g c =
    let a = asked (map (λ w. string_bytes w) c.args.words.now) in
    let read = file_read (g.F.Files.seen c.args.files.now) (g.F.Files.seen c.args.files.now) in
    let out = sink_written g.O.Ends.tells_held g.O.Ends.held g.O.Ends.write_faults c.args.out.now c.run_generate.new.out in
    let err = sink_written g.E.Ends.tells_held g.E.Ends.held g.E.Ends.write_faults c.args.err.now c.run_generate.new.err in
    let told = c.run_generate.ensures.reported in
    on_same g.W.Wire.seen g.W.Wire.tells_log g.W.Wire.counts_alone (λ (w : WiresSeen). Headline read w a c.run_generate.result out err) (wires_used a) c.args.wires.now
    (subst (λ (o : Option Asked). Headline read (wires_seen g.W.Wire.tells_log g.W.Wire.counts_alone g.W.Wire.seen (take (wires_used a) c.args.wires.now) (take (wires_used a) c.args.wires.now)) o c.run_generate.result out err) (sym (rw c.in-Ok-Generate.field-0-is at c.in-Ok-Generate.ensures.asked))
    (making_headline c.in-Ok-Generate.size c.run_generate.result told.0 out err told.1 told.2 c.run_generate.ensures.written))

pub returns-in-Ok-Generate-clause-given : goal.returns-in-Ok-Generate-clause-given
returns-in-Ok-Generate-clause-given g c =
    let a = asked (map (λ w. string_bytes w) c.args.words.now) in
    let read = file_read (g.F.Files.seen c.args.files.now) (g.F.Files.seen c.args.files.now) in
    let out = sink_written g.O.Ends.tells_held g.O.Ends.held g.O.Ends.write_faults c.args.out.now c.run_generate.new.out in
    let err = sink_written g.E.Ends.tells_held g.E.Ends.held g.E.Ends.write_faults c.args.err.now c.run_generate.new.err in
    on_same g.W.Wire.seen g.W.Wire.tells_log g.W.Wire.counts_alone (λ (w : WiresSeen). WritesGiven read w a c.run_generate.result out err) (wires_used a) c.args.wires.now
    (subst (λ (o : Option Asked). WritesGiven read (wires_seen g.W.Wire.tells_log g.W.Wire.counts_alone g.W.Wire.seen (take (wires_used a) c.args.wires.now) (take (wires_used a) c.args.wires.now)) o c.run_generate.result out err) (sym (rw c.in-Ok-Generate.field-0-is at c.in-Ok-Generate.ensures.asked))
    tt)

pub returns-in-Ok-Generate-clause-completes : goal.returns-in-Ok-Generate-clause-completes
returns-in-Ok-Generate-clause-completes g c =
    let a = asked (map (λ w. string_bytes w) c.args.words.now) in
    let read = file_read (g.F.Files.seen c.args.files.now) (g.F.Files.seen c.args.files.now) in
    let door = g.D.Door.seen c.args.door.now in
    let out = sink_written g.O.Ends.tells_held g.O.Ends.held g.O.Ends.write_faults c.args.out.now c.run_generate.new.out in
    let err = sink_written g.E.Ends.tells_held g.E.Ends.held g.E.Ends.write_faults c.args.err.now c.run_generate.new.err in
    let told = c.run_generate.ensures.reported in
    on_same g.W.Wire.seen g.W.Wire.tells_log g.W.Wire.counts_alone (λ (w : WiresSeen). Completes read w door door a c.run_generate.result out err) (wires_used a) c.args.wires.now
    (subst (λ (o : Option Asked). Completes read (wires_seen g.W.Wire.tells_log g.W.Wire.counts_alone g.W.Wire.seen (take (wires_used a) c.args.wires.now) (take (wires_used a) c.args.wires.now)) door door o c.run_generate.result out err) (sym (rw c.in-Ok-Generate.field-0-is at c.in-Ok-Generate.ensures.asked))
    (making_completes c.run_generate.result told.0 out told.1 (λ cut. (c.run_generate.ensures.write_fault cut).0)))

pub returns-in-Ok-Generate-clause-reported : goal.returns-in-Ok-Generate-clause-reported
returns-in-Ok-Generate-clause-reported g c =
    let err = sink_written g.E.Ends.tells_held g.E.Ends.held g.E.Ends.write_faults c.args.err.now c.run_generate.new.err in
    let a = asked (map (λ w. string_bytes w) c.args.words.now) in
    let read = file_read (g.F.Files.seen c.args.files.now) (g.F.Files.seen c.args.files.now) in
    let door = g.D.Door.seen c.args.door.now in
    let told = c.run_generate.ensures.reported in
    on_same g.W.Wire.seen g.W.Wire.tells_log g.W.Wire.counts_alone
    (λ (w : WiresSeen). (lines : List ℕ) × (text : List ℕ) × Reports read w door door a c.run_generate.result lines text err × (IsTrue g.E.Ends.tells_held → Gains (g.E.Ends.held c.args.err.now ++ lines) (g.E.Ends.held c.run_generate.new.err) (g.E.Ends.write_faults c.args.err.now) (g.E.Ends.write_faults c.run_generate.new.err) text))
    (wires_used a) c.args.wires.now
    ([], told.0, making_reported read _ door a err c.in-Ok-Generate.size c.run_generate.result told.0 (rw c.in-Ok-Generate.field-0-is at c.in-Ok-Generate.ensures.asked) told.1 refl, λ tells. gains_alone _ _ _ _ told.0 (told.2 tells))

pub returns-in-Ok-Generate-clause-wired : goal.returns-in-Ok-Generate-clause-wired
returns-in-Ok-Generate-clause-wired g c = after_itself (map g.W.Wire.seen c.args.wires.now)

pub returns-in-Ok-Generate-clause-written : goal.returns-in-Ok-Generate-clause-written
returns-in-Ok-Generate-clause-written g c = λ tells.
    let a = asked (map (λ w. string_bytes w) c.args.words.now) in
    let read = file_read (g.F.Files.seen c.args.files.now) (g.F.Files.seen c.args.files.now) in
    making_written read (map g.W.Wire.seen (take (wires_used a) c.args.wires.now)) a c.in-Ok-Generate.size c.run_generate.result (g.O.Ends.held c.args.out.now) (g.O.Ends.held c.run_generate.new.out) (rw c.in-Ok-Generate.field-0-is at c.in-Ok-Generate.ensures.asked) (c.run_generate.ensures.written tells)

pub returns-in-Ok-Generate-clause-write_fault : goal.returns-in-Ok-Generate-clause-write_fault
returns-in-Ok-Generate-clause-write_fault g c = λ cut.
    let a = asked (map (λ w. string_bytes w) c.args.words.now) in
    let read = file_read (g.F.Files.seen c.args.files.now) (g.F.Files.seen c.args.files.now) in
    let out = sink_written g.O.Ends.tells_held g.O.Ends.held g.O.Ends.write_faults c.args.out.now c.run_generate.new.out in
    let err = sink_written g.E.Ends.tells_held g.E.Ends.held g.E.Ends.write_faults c.args.err.now c.run_generate.new.err in
    making_cut read (map g.W.Wire.seen (take (wires_used a) c.args.wires.now)) a c.in-Ok-Generate.size out err (rw c.in-Ok-Generate.field-0-is at c.in-Ok-Generate.ensures.asked) (c.run_generate.ensures.write_fault cut)

pub returns-in-Ok-Generate-clause-endpoint_faults : goal.returns-in-Ok-Generate-clause-endpoint_faults
returns-in-Ok-Generate-clause-endpoint_faults g c = λ alone done. making_counts _ _ _ _ c.in-Ok-Generate.size (rw c.in-Ok-Generate.field-0-is at c.in-Ok-Generate.ensures.asked)
