-- How the replies to probes are sorted: the answers, and the members that are left out for want of one.
use Rattle.std.specs.Prelude.{◌≡◌, ◌⊎◌, ◌++◌, ℕ, Bool, true, false, List, [], ◌∷◌, All, Option, Some, None, Result, Ok, Err, map, filter_map, replicate}
use Rattle.fx_outside.specs.Endpoints.{EndpointParts}
use Rattle.fx_algebra.specs.Units.{is_kept}
use Rattle.fx_keys.specs.declared.probes.Probe.{Probe}
use Rattle.fx_flows.specs.declared.flows.FlowError.{FlowError}
use Rattle.fx_flows.specs.declared.flows.FlowError.TheVariants as flow
use Rattle.fx_pool.specs.declared.jobs.JobReply.{JobReply}
use Rattle.fx_pool.specs.declared.jobs.JobReply.TheVariants as reply
use Rattle.fx_outcomes.specs.AskSteps.{IsRefusal}
use Rattle.fx_outcomes.specs.Rounds.{ComeByMember, IsLeftBy, IsMarked, MayAllLeave, RiseByNumber, everybody, without, without_all}
use Rattle.fx_outcomes.specs.declared.rounds.Answers.{Answers}
use Rattle.fx_outcomes.specs.declared.rounds.Left.{Left}

-- ---- probes with the replies to them

-- a probe, and the reply to it
abbrev pub Replied : Type 0
Replied = Probe × JobReply

abbrev pub answer_of : Probe → JobReply → Option (Probe × Bool)
answer_of p (reply.Truth truth) = Some (p, truth)
answer_of p r = None

-- the probes that have an answer, each with it
abbrev pub answered : List Replied → List (Probe × Bool)
answered pairs = filter_map (λ x. answer_of x.0 x.1) pairs

abbrev pub IsAnswer : JobReply → Type 0
IsAnswer r = (truth : Bool) × (r ≡ reply.Truth truth)

-- ---- what they come to

-- the member is left out for the first of its probes that has no answer
pub record IsLeftFor (pairs : List Replied) (l : Left) : Type 0 where
  pub before : List Replied
  pub probe : Probe
  pub reply : JobReply
  pub behind : List Replied
  pub split : pairs ≡ before ++ (probe, reply) ∷ behind
  pub first : All (λ x. x.0.at ≡ probe.at → IsAnswer x.1) before
  pub why : FlowError
  pub refused : IsRefusal probe.at reply why
  pub named : IsLeftBy why l

-- the probe has an answer, or its member may be left out, and is
abbrev pub IsPassed : List EndpointParts → List Bool → Replied → Type 0
IsPassed endpoints kept x = IsAnswer x.1 ⊎ (IsMarked true endpoints x.0.at × (is_kept kept x.0.at ≡ false))

-- the probes that have an answer, in order, and the members that are left out for those that have none
pub record AreSorted (endpoints : List EndpointParts) (pairs : List Replied) (a : Answers) : Type 0 where
  pub probes_are : a.probes.items ≡ map (λ x. x.0) (answered pairs)
  pub truths_are : a.truths.items ≡ map (λ x. x.1) (answered pairs)
  pub passed : All (IsPassed endpoints a.kept.items) pairs
  pub left_for : All (IsLeftFor pairs) a.left.items
  pub may_leave : MayAllLeave endpoints (everybody endpoints) a.left.items
  pub those_kept : a.kept.items ≡ without_all a.left.items (everybody endpoints)
  pub by_number : ComeByMember 0 (map (λ x. x.0) pairs) → RiseByNumber 0 a.left.items

-- the first probe without an answer whose member mustn't be left out is refused so
pub record IsFirstRefused (endpoints : List EndpointParts) (pairs : List Replied) (e : FlowError) : Type 0 where
  pub before : List Replied
  pub probe : Probe
  pub reply : JobReply
  pub behind : List Replied
  pub split : pairs ≡ before ++ (probe, reply) ∷ behind
  pub passed : All (λ x. IsAnswer x.1 ⊎ IsMarked true endpoints x.0.at) before
  pub refused : IsRefusal probe.at reply e
  pub required : IsMarked false endpoints probe.at

abbrev pub AreSortedOut : List EndpointParts → List Replied → Result Answers FlowError → Type 0
AreSortedOut endpoints pairs (Ok a) = AreSorted endpoints pairs a
AreSortedOut endpoints pairs (Err flow.Memory) = Unit {0}
AreSortedOut endpoints pairs (Err e) = IsFirstRefused endpoints pairs e

-- ---- one after the other

-- there is no answer yet, and so many members are kept
pub record AreNone (members : ℕ) (a : Answers) : Type 0 where
  pub probes : a.probes.items ≡ []
  pub truths : a.truths.items ≡ []
  pub kept : a.kept.items ≡ replicate members true
  pub left : a.left.items ≡ []

-- one more has an answer
pub record IsAdded (p : Probe) (truth : Bool) (before after : Answers) : Type 0 where
  pub probes : after.probes.items ≡ before.probes.items ++ p ∷ []
  pub truths : after.truths.items ≡ before.truths.items ++ truth ∷ []
  pub kept : after.kept.items ≡ before.kept.items
  pub left : after.left.items ≡ before.left.items

-- the member was left out before, and nothing changes
pub record IsOut (at : ℕ) (before after : Answers) : Type 0 where
  pub gone : is_kept before.kept.items at ≡ false
  pub kept : after.kept.items ≡ before.kept.items
  pub left : after.left.items ≡ before.left.items

-- or it is left out now
pub record Leaves (at : ℕ) (why : FlowError) (before after : Answers) : Type 0 where
  pub was_kept : is_kept before.kept.items at ≡ true
  pub it : Left
  pub named : IsLeftBy why it
  pub kept : after.kept.items ≡ without at before.kept.items
  pub left : after.left.items ≡ before.left.items ++ it ∷ []

pub record IsLeftOut (at : ℕ) (why : FlowError) (before after : Answers) : Type 0 where
  pub probes : after.probes.items ≡ before.probes.items
  pub truths : after.truths.items ≡ before.truths.items
  pub out : IsOut at before after ⊎ Leaves at why before after

-- one more without an answer, whose member may be left out
pub record IsPassedOver (endpoints : List EndpointParts) (p : Probe) (r : JobReply) (before after : Answers) : Type 0 where
  pub why : FlowError
  pub refused : IsRefusal p.at r why
  pub optional : IsMarked true endpoints p.at
  pub out : IsLeftOut p.at why before after

pub record IsAnswered (p : Probe) (r : JobReply) (before after : Answers) : Type 0 where
  pub truth : Bool
  pub told : r ≡ reply.Truth truth
  pub added : IsAdded p truth before after

abbrev pub IsTakenIn : List EndpointParts → Probe → JobReply → Answers → Answers → Result (Unit {0}) FlowError → Type 0
IsTakenIn endpoints p r before after (Ok done) = IsAnswered p r before after ⊎ IsPassedOver endpoints p r before after
IsTakenIn endpoints p r before after (Err flow.Memory) = Unit {0}
IsTakenIn endpoints p r before after (Err e) = IsRefusal p.at r e × IsMarked false endpoints p.at
