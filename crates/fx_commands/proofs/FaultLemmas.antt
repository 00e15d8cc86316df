-- How many faults an answer counts, and what is told of them.
use Rattle.std.proofs.Common.{ℕ, List, IsTrue, Ok}
use Rattle.fx_outside.specs.Endpoints.{EndpointParts}
use Rattle.fx_algebra.specs.declared.queries.Query.{Query}
use Rattle.fx_sources.specs.Registries.{IsRegistry}
use Rattle.fx_traffic.specs.Gains.{WiresSeen}
use Rattle.fx_outcomes.specs.declared.rounds.OutcomeInRounds.{OutcomeInRounds}
use Rattle.fx_rounds.proofs.AnsweredLemmas.{answers_rest_on_this, faults_are_told}
use Rattle.fx_rounds.proofs.PlannedLemmas.{plans_count_none, plans_rest_on_this}
use Rattle.fx_local.specs.Files.{FileRead}
use Rattle.fx_commands.specs.Asking.{WasAsked}
use Rattle.fx_commands.specs.Explain.{CountsLeft, IsExplainDone}
use Rattle.fx_commands.specs.MemberSteps.{IsAnswerDone}
use Rattle.fx_commands.specs.Query.{CountsDown, CountsDownBy, IsOutcomeWritten, IsQueryDone}
use Rattle.fx_local.specs.Sinks.{SinkWritten}

-- ---- an answer

counts_of : (w : WiresSeen) (es : List EndpointParts) (asked : Query) (block : ℕ) (all : OutcomeInRounds) (out err : SinkWritten) → IsRegistry es → WasAsked w es asked block (Ok all) → IsOutcomeWritten es all out err → IsTrue w.alone → CountsDownBy es asked w.before w.after err
counts_of w es asked block all out err registry given wrote is =
    let rests = answers_rest_on_this w es asked given.entries block all given.alike registry given.in_rounds in
    record {
      rounds = all.abandoned;
      noted = all.outcome.down;
      kept = rests.0;
      left_out = rests.1.left_out;
      leave = rests.1.leave;
      down = rests.1.down;
      lines = wrote.1;
      counted = rests.1.counted;
      exact = λ none. faults_are_told w es asked given.entries block all given.in_rounds is none;
    }

-- of a query that was parsed
pub counts_down_by : (w : WiresSeen) (es : List EndpointParts) (asked : Query) (block : ℕ) (out err : SinkWritten) → IsAnswerDone w es asked block out err → IsTrue w.alone → CountsDownBy es asked w.before w.after err
counts_down_by w es asked block out err (all, registry, given, wrote) is = counts_of w es asked block all out err registry given wrote is

pub counts_down : (w : WiresSeen) (r q : FileRead) (block : ℕ) (out err : SinkWritten) → IsQueryDone w r q block out err → IsTrue w.alone → CountsDown r q w.before w.after err
counts_down w r q block out err (all, f, wrote) is = record {
  endpoints = f.endpoints;
  registered = f.registered;
  asked = f.asked;
  accepted = f.accepted;
  counts = counts_of w f.endpoints f.asked block all out err f.registry f.federated wrote is;
}

-- ---- a plan

pub counts_left : (w : WiresSeen) (r q : FileRead) (out err : SinkWritten) → IsExplainDone w r q out err → IsTrue w.alone → CountsLeft r w.before w.after err
counts_left w r q out err (p, f, wrote) is =
    let rests = plans_rest_on_this w f.endpoints f.asked f.planned.entries p f.registry f.planned.in_rounds in
    record {
      endpoints = f.endpoints;
      registered = f.registered;
      counts = record {
        rounds = p.abandoned;
        kept = rests.0;
        left_out = rests.1.left_out;
        leave = rests.1.leave;
        lines = wrote.1;
        counted = rests.1.counted;
        exact = λ none. plans_count_none w f.endpoints f.asked f.planned.entries p f.planned.in_rounds is none;
      };
    }
