-- Rounds: a query is asked of the members that are kept, and anew where one of them is left out.
use Rattle.std.specs.Prelude.{◌≡◌, ◌≤◌, ◌+◌, ◌++◌, ℕ, Bool, true, false, cond, List, [], ◌∷◌, All, IfErr, IfOk, IsPermutation, IsTrue, Option, None, Result, Some, filter, length, map, replicate, reverse, slice_get, slice_set}
use Rattle.std.proofs.Common.{suc}
use Rattle.std.specs.List.{flat_map, zip}
use Rattle.fx_terms.specs.declared.patterns.Pattern.{Pattern}
use Rattle.fx_terms.specs.declared.triples.Triple.{Triple}
use Rattle.fx_outside.specs.Endpoints.{EndpointParts}
use Rattle.fx_algebra.specs.Units.{is_kept}
use Rattle.fx_http.specs.Requests.{request_of}
use Rattle.fx_keys.specs.Probes.{key_of}
use Rattle.fx_keys.specs.declared.probes.Probe.{Probe}
use Rattle.fx_sources.specs.Probes.{Entry, kept_members, kept_probes, members_of}
use Rattle.fx_sources.specs.Sources.{ask_text}
use Rattle.fx_sources.specs.Sources as source
use Rattle.fx_traffic.specs.Gains.{AreAfter, HaveGained, TellAll, WiresSeen, faults_at}
use Rattle.fx_traffic.specs.Sent.{Sent, Sends}
use Rattle.fx_traffic.specs.Traffic.{AreAsksSent}
use Rattle.fx_wire.specs.Exchanges.{Exchange, Seen}
use Rattle.fx_pool.specs.Jobs.{is_at}
use Rattle.fx_flows.specs.declared.flows.FlowError.{FlowError}
use Rattle.fx_flows.specs.declared.flows.FlowError.TheVariants as flow
use Rattle.fx_outcomes.specs.Asks.{HasFailedAsk, HasProbeCause, IsAnsweredBy, IsAskRead, IsProbeCause}
use Rattle.fx_outcomes.specs.declared.rounds.Answers.{Answers}
use Rattle.fx_outcomes.specs.declared.rounds.Left.{Left}
use Rattle.fx_outcomes.specs.declared.rounds.LeftCause.TheVariants as cause

-- ---- who is left out

-- it is the member that the refusal names, for what the refusal says
abbrev pub IsLeftBy : FlowError → Left → Type 0
IsLeftBy (flow.Member at) l = l ≡ record { at = at; why = cause.Failed }
IsLeftBy (flow.BadReply at bad) l = l ≡ record { at = at; why = cause.Bad bad }
IsLeftBy (flow.RequestTooLong at size) l = l ≡ record { at = at; why = cause.TooLong size }
IsLeftBy flow.Memory l = ⊥

-- the refusal names nobody: memory ran out
abbrev pub IsNobodys : FlowError → Type 0
IsNobodys (flow.Member at) = ⊥
IsNobodys (flow.BadReply at bad) = ⊥
IsNobodys (flow.RequestTooLong at size) = ⊥
IsNobodys flow.Memory = Unit {0}

-- the endpoint of this number may be left out, or it mustn't be
abbrev pub IsMarked : Bool → List EndpointParts → ℕ → Type 0
IsMarked optional endpoints at = (e : EndpointParts) × (slice_get endpoints at ≡ Some e) × (e.optional ≡ optional)

-- the endpoint that the refusal names, if it names one, mustn't be left out
abbrev pub IsRequired : List EndpointParts → FlowError → Type 0
IsRequired endpoints (flow.Member at) = IsMarked false endpoints at
IsRequired endpoints (flow.BadReply at bad) = IsMarked false endpoints at
IsRequired endpoints (flow.RequestTooLong at size) = IsMarked false endpoints at
IsRequired endpoints flow.Memory = Unit {0}

-- ---- who is kept

-- the marks of who is kept, where the member of this number isn't any more
abbrev pub without : ℕ → List Bool → List Bool
without at kept = slice_set kept at false

-- and where these aren't
abbrev pub without_all : List Left → List Bool → List Bool
without_all [] kept = kept
without_all (l ∷ left) kept = without_all left (without l.at kept)

-- it is the number of an endpoint that may be left out, and was kept
pub record MayLeave (endpoints : List EndpointParts) (kept : List Bool) (l : Left) : Type 0 where
  pub optional : IsMarked true endpoints l.at
  pub was_kept : is_kept kept l.at ≡ true

-- each of these, one after the other
abbrev pub MayAllLeave : List EndpointParts → List Bool → List Left → Type 0
MayAllLeave endpoints kept [] = Unit {0}
MayAllLeave endpoints kept (l ∷ left) = MayLeave endpoints kept l × MayAllLeave endpoints (without l.at kept) left

-- all members are kept
abbrev pub everybody : List EndpointParts → List Bool
everybody endpoints = replicate (length endpoints) true

-- each has a greater number than the one before it, and the first at least this
abbrev pub RiseByNumber : ℕ → List Left → Type 0
RiseByNumber low [] = Unit {0}
RiseByNumber low (l ∷ left) = (low ≤ l.at) × RiseByNumber (suc l.at) left

-- ---- ASKs

-- those of a member stand together, in the order of the members' numbers, from this one on
abbrev pub ComeByMember : ℕ → List Probe → Type 0
ComeByMember low [] = Unit {0}
ComeByMember low (p ∷ probes) = (low ≤ p.at) × ComeByMember p.at probes

-- The probes with their answers are some of those that were asked for, and all that were of members that are kept. Who is left out has one without an answer; they are listed by number, where the
-- probes come by member.
pub record AreAnswers (endpoints : List EndpointParts) (probes : List Probe) (a : Answers) : Type 0 where
  pub many : length a.truths.items ≡ length a.probes.items
  pub unanswered : List Probe
  pub split : IsPermutation (a.probes.items ++ unanswered) probes
  pub of_kept : kept_probes a.kept.items a.probes.items ≡ kept_probes a.kept.items probes
  pub may_leave : MayAllLeave endpoints (everybody endpoints) a.left.items
  pub those_kept : a.kept.items ≡ without_all a.left.items (everybody endpoints)
  pub by_number : ComeByMember 0 probes → RiseByNumber 0 a.left.items

-- it is left out for the cause that one of its probes has no answer
pub record IsLeftAtAsk (before after : List Seen) (endpoints : List EndpointParts) (probes : List Probe) (xs : List Exchange) (l : Left) : Type 0 where
  pub why : FlowError
  pub named : IsLeftBy why l
  pub cause : IsProbeCause before after endpoints probes xs why

-- the ASK of a probe, for this endpoint
abbrev pub ask_for : EndpointParts → Probe → Sent
ask_for e p = record { at = e; request = request_of e (ask_text p.key.pattern) }

-- what wasn't sent for a probe that has no answer for this cause: its ASK, where the exchange failed or the text is too long
abbrev pub unsent_to : Option EndpointParts → Probe → FlowError → List Sent
unsent_to None p why = []
unsent_to (Some e) p (flow.Member at) = ask_for e p ∷ []
unsent_to (Some e) p (flow.RequestTooLong at size) = ask_for e p ∷ []
unsent_to (Some e) p (flow.BadReply at bad) = []
unsent_to (Some e) p flow.Memory = []

-- an exchange failed
abbrev pub is_failed : FlowError → ℕ
is_failed (flow.Member at) = 1
is_failed (flow.BadReply at bad) = 0
is_failed (flow.RequestTooLong at size) = 0
is_failed flow.Memory = 0

-- for how many of these at an address it did
abbrev pub failed_at : List EndpointParts → List ℕ → List (Probe × FlowError) → ℕ
failed_at endpoints address [] = 0
failed_at endpoints address (m ∷ missed) = cond {A = ℕ} (is_at address (slice_get endpoints m.0.at)) (is_failed m.1) 0 + failed_at endpoints address missed

-- Each probe has an answer, or a cause of its own for which it has none. No address has more of these whose exchange failed than its count of faults rose by. And of all ASKs those of them alone weren't sent whose
-- exchange failed or whose text is too long.
pub record AreMissed (before after : List Seen) (endpoints : List EndpointParts) (probes : List Probe) (xs : List Exchange) (left : List Sent) (a : Answers) : Type 0 where
  pub missed : List (Probe × FlowError)
  pub split : IsPermutation (a.probes.items ++ map (λ m. m.0) missed) probes
  pub each : All (λ m. IsProbeCause before after endpoints (m.0 ∷ []) xs m.1) missed
  pub counted : (address : List ℕ) → faults_at before address + failed_at endpoints address missed ≤ faults_at after address
  pub unsent : left ≡ flat_map (λ m. unsent_to (slice_get endpoints m.0.at) m.0 m.1) missed

-- Probes were asked for over wires, each once: what was exchanged, and which of the probes' ASKs that is. Their answers, which tell whether the keys fit where the graphs of the
-- endpoints are told; and who is left out, each for its own cause; or the cause of a refusal, at an endpoint that mustn't be left out. With answers each probe was asked for, also of members that are left out, and what they
-- answered is among the answers. Where nobody is left out each ASK was sent, and each reply read, without a fault.
pub record AskedMembers (tells alone : Bool) (before after : List Seen) (endpoints : List EndpointParts) (probes : List Probe) (result : Result Answers FlowError) : Type 0 where
  pub exchanges : List Exchange
  pub gained : IsTrue tells → HaveGained before after exchanges
  pub after_all : AreAfter before after
  pub asked : List Probe
  pub unasked : List Probe
  pub split : IsPermutation (asked ++ unasked) probes
  pub wanted : List Sent
  pub left : List Sent
  pub texts : AreAsksSent endpoints asked wanted
  pub sent : Sends wanted left exchanges
  pub fit : IfOk result (AreAnswers endpoints probes)
  pub answered : IfOk result (λ a. All (IsAnsweredBy endpoints exchanges) (zip a.probes.items a.truths.items))
  pub told : IfOk result (λ a. (graphs : List (List Triple)) → TellAll before endpoints graphs → All (source.Tells graphs) (zip a.probes.items a.truths.items))
  pub causes : IfOk result (λ a. All (IsLeftAtAsk before after endpoints probes exchanges) a.left.items)
  pub quiet : IsTrue alone → IfOk result (λ a. a.left.items ≡ [] → (address : List ℕ) → faults_at after address ≡ faults_at before address)
  pub whole : IfOk result (λ a. a.left.items ≡ [] → left ≡ [])
  pub faultless : IfOk result (λ a. a.left.items ≡ [] → All (IsAskRead probes) exchanges)
  pub each_asked : IfOk result (λ _. unasked ≡ [])
  pub missed : IfOk result (AreMissed before after endpoints probes exchanges left)
  pub cause : IfErr result (HasProbeCause before after endpoints probes exchanges)
  pub failed : IfErr result (HasFailedAsk before after endpoints probes left)
  pub required : IfErr result (IsRequired endpoints)

abbrev pub AskedMembersOver : WiresSeen → List EndpointParts → List Probe → Result Answers FlowError → Type 0
AskedMembersOver w endpoints probes answers = AskedMembers w.tells w.alone w.before w.after endpoints probes answers

-- ---- the choice

-- what is known of kept members: the answers of theirs, the last first, and then what was known before
abbrev pub kept_entries : List Bool → List Entry → List Entry → List Entry
kept_entries kept answers old = reverse (filter (λ e. is_kept kept e.0.at) answers) ++ old

-- the kept members whose answer to the key of a pattern is yes
abbrev pub kept_choice : List Bool → List Entry → ℕ → Pattern → List ℕ
kept_choice kept entries members p = kept_members kept (members_of entries members (key_of p))

-- who is kept was kept before
abbrev pub AreStillKept : List Bool → List Bool → Type 0
AreStillKept kept before = (at : ℕ) → is_kept kept at ≡ true → is_kept before at ≡ true
