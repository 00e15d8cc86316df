-- Rules over symbols: the ways to make one (`fx_rules`) at the alphabet of Turtle.
use Rattle.std.specs.Prelude.{Bool, if◌then◌else◌, List, Option, Result}
use Rattle.fx_rules.specs.Rule as rules
pub use Rattle.fx_rules.specs.Rule.{made, shape_of, seq, after, before}
use Rattle.fx_turtle.specs.Symbols.{Symbol, is, kind_of}
use Rattle.fx_turtle.specs.declared.kinds.Kind.{Kind}
use Rattle.fx_turtle.specs.declared.kinds.Kind.TheVariants as k
use Rattle.fx_turtle.specs.declared.refusals.TurtleKind.{TurtleKind}
use Rattle.fx_turtle.specs.declared.refusals.TurtleKind.TheVariants.{Relative, Unexpected}

-- an IRI that isn't absolute is refused wherever reading comes to it
abbrev pub why_of : TurtleKind → Kind → TurtleKind
why_of why kind = if is k.Relative kind then Relative else why

abbrev pub alphabet : rules.Alphabet Symbol Kind TurtleKind
alphabet = record { kind_of = kind_of; is = is; unexpected = Unexpected; why_of = why_of }

abbrev pub Refusal : Type 0
Refusal = rules.Refusal TurtleKind

abbrev pub Outcome : Type 0 → Type 0
Outcome A = rules.Outcome Symbol TurtleKind A

-- ---- rules, and the ways to make one

abbrev pub Rule : Type 0 → Type 1
Rule A = rules.Rule Symbol Kind TurtleKind A

abbrev pub Shape : Type 0
Shape = rules.Shape Kind

abbrev pub one : {A : Type 0} → (Kind → Bool) → (Symbol → Result A TurtleKind) → Rule A
one kinds value = rules.one alphabet kinds value

abbrev pub token : Kind → Rule (Unit {0})
token kind = rules.token alphabet kind

abbrev pub refusing : {A : Type 0} → TurtleKind → (Kind → Bool) → Rule A
refusing why kinds = rules.refusing alphabet why kinds

abbrev pub either : {A : Type 0} → Rule A → Rule A → Rule A
either a b = rules.either alphabet a b

abbrev pub opt : {A : Type 0} → Rule A → Rule (Option A)
opt a = rules.opt alphabet a

abbrev pub many_from : {S A : Type 0} → Shape → (S → Rule A) → (S → A → S) → S → Rule (List A)
many_from shape rule step s = rules.many_from alphabet shape rule step s

abbrev pub many : {A : Type 0} → Rule A → Rule (List A)
many a = rules.many alphabet a

abbrev pub chain : {A : Type 0} → Kind → Rule A → Rule (List A)
chain mark a = rules.chain alphabet mark a

-- ---- all the symbols

abbrev pub stops_whole : {A : Type 0} → Rule A → List Symbol → Refusal → Type 0
stops_whole r symbols refusal = rules.stops_whole alphabet r symbols refusal

abbrev pub read_whole : {A : Type 0} → Rule A → List Symbol → Outcome A
read_whole r symbols = rules.read_whole alphabet r symbols

-- ---- the laws of a rule of which each choice is decided by the next symbol

abbrev pub ReadAsSpelled : {A : Type 0} → Rule A → Type 0
ReadAsSpelled r = rules.ReadAsSpelled alphabet r

abbrev pub RefusedAsStopped : {A : Type 0} → Rule A → Type 0
RefusedAsStopped r = rules.RefusedAsStopped alphabet r

abbrev pub SpelledOrStopped : {A : Type 0} → Rule A → Type 0
SpelledOrStopped r = rules.SpelledOrStopped alphabet r

abbrev pub RefusedForGood : {A : Type 0} → Rule A → Type 0
RefusedForGood r = rules.RefusedForGood alphabet r

abbrev pub RefusedTheSame : {A : Type 0} → Rule A → Type 0
RefusedTheSame r = rules.RefusedTheSame alphabet r

abbrev pub RefusedFitly : {A : Type 0} → Rule A → Type 0
RefusedFitly r = rules.RefusedFitly alphabet r
