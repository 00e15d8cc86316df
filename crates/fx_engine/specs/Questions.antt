-- What comes of a query behind its occurrences of SERVICE.
use Rattle.std.specs.Prelude.{List, Result, Err, All, length}
use Rattle.fx_algebra.specs.Solutions.{Bindings}
use Rattle.fx_algebra.specs.declared.answers.Answer.{Answer}
use Rattle.fx_plan.specs.declared.parts.Part.{Part}
use Rattle.fx_services.specs.declared.noted.Down.{Down}
use Rattle.fx_services.specs.declared.services.ServiceError.{ServiceError}
use Rattle.fx_wire.specs.Exchanges.{Seen}
use Rattle.fx_outcomes.specs.Calls.{occurrences}
use Rattle.fx_engine.specs.RowsAsked.{CanBeAsked}
use Rattle.fx_outcomes.specs.Invocations.{AreInvoked, IsStopped}
use Rattle.fx_outcomes.specs.Outcomes.{AllTell}
use Rattle.fx_outcomes.specs.RoundEnds.{RoundEnded}
use Rattle.fx_walks.specs.Tasks.{tasks_with}
use Rattle.fx_engine.specs.Walks.{AnswerAsked}
use Rattle.fx_traffic.specs.Gains.{WiresSeen}
use Rattle.fx_outcomes.specs.declared.federated.FedError.{FedError}
use Rattle.fx_outcomes.specs.declared.rounds.Ended.{Ended}
use Rattle.fx_engine.specs.declared.questions.Question.{Question}
use Rattle.fx_engine.specs.declared.rows.RowsError.{RowsError}

-- the tasks of a plan can be asked for, whatever the rows of its occurrences of SERVICE
abbrev pub CanBePut : Question → List Part → Type 0
CanBePut q plan = (found : List (List Bindings)) → All (CanBeAsked (length q.registry.now)) (tasks_with plan found)

-- the query was answered by its plan, from these rows of its occurrences of SERVICE
abbrev pub AnsweredBy : WiresSeen → Question → List Part → List (List Bindings) → Result Answer RowsError → Type 0
AnsweredBy w q plan rows answer = AnswerAsked w q.registry.now q.block (tasks_with plan rows) q.query.now answer

-- its occurrences of SERVICE were invoked, and then its runs were asked for
abbrev pub EndedBy : WiresSeen → Question → List Part → Result Ended FedError → Type 0
EndedBy w q plan result = RoundEnded w.tells w.alone w.before w.after q.registry.now q.query.now plan q.block result

-- so they were, if all occurrences of SERVICE had been invoked before and had these rows, and these of them were down
abbrev pub EndedBehindAll : WiresSeen → Question → List Part → List Down → List (List Bindings) → Result Ended FedError → Type 0
EndedBehindAll w q plan down rows result =
    (start : List Seen) → AllTell w.tells start → AreInvoked w.tells w.alone start w.before q.registry.now (occurrences q.query.now) down rows
    → RoundEnded w.tells w.alone start w.after q.registry.now q.query.now plan q.block result

-- and if the first of them had these rows, and the next, which isn't silent, had none for this reason
abbrev pub OutcomedBehindStop : WiresSeen → Question → List Part → List (List Bindings) → ServiceError → FedError → Type 0
OutcomedBehindStop w q plan rows why error =
    (start : List Seen) → AllTell w.tells start → IsStopped w.tells w.alone start w.before q.registry.now (occurrences q.query.now) rows why
    → RoundEnded w.tells w.alone start w.after q.registry.now q.query.now plan q.block (Err error)
