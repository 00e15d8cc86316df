-- Rules over tokens as the grammar sees them: the ways to make one (`fx_rules`) at the grammar's alphabet, and what loops read
-- that read by such rules.
use Rattle.std.specs.Prelude.{ℕ, Bool, if◌then◌else◌, List, ◌++◌, Option, Result, Ok}
use Rattle.std.specs.List.{flat_map}
use Rattle.fx_rules.specs.Rule as rules
pub use Rattle.fx_rules.specs.Rule.{and_then, Apart, made, shape_of, Shaped, then_by, seq, after, before, with_depth, EndsAsSpelled}
unfoldable pub use Rattle.fx_rules.specs.Rule.{depth}
use Rattle.fx_grammar.specs.Kinds.{is, kind_of}
use Rattle.fx_grammar.specs.declared.kinds.Kind.{Kind}
use Rattle.fx_grammar.specs.declared.kinds.Kind.TheVariants as k
use Rattle.fx_grammar.specs.declared.kinds.Token.{Token}
use Rattle.fx_grammar.specs.declared.refusals.SyntaxKind.{SyntaxKind}
use Rattle.fx_grammar.specs.declared.refusals.SyntaxKind.TheVariants.{TooDeep, RelativeIri, Unsupported, Unexpected}

-- tokens that are refused wherever reading comes to them, for a reason of their own
abbrev pub why_of : SyntaxKind → Kind → SyntaxKind
why_of why kind = if is k.TooDeep kind then TooDeep else (if is k.Relative kind then RelativeIri else (if is k.InnerService kind then Unsupported else why))

abbrev pub alphabet : rules.Alphabet Token Kind SyntaxKind
alphabet = record { kind_of = kind_of; is = is; unexpected = Unexpected; why_of = why_of }

-- ---- what is read, and what is refused

abbrev pub Refusal : Type 0
Refusal = rules.Refusal SyntaxKind

abbrev pub Outcome : Type 0 → Type 0
Outcome A = rules.Outcome Token SyntaxKind A

abbrev pub why_at : SyntaxKind → List Token → SyntaxKind
why_at why ts = rules.why_at alphabet why ts

abbrev pub refuse : {A : Type 0} → SyntaxKind → List Token → Outcome A
refuse why ts = rules.refuse alphabet why ts

-- the next token is of these kinds
abbrev pub sees : (Kind → Bool) → List Token → Bool
sees p ts = rules.sees alphabet p ts

-- ---- rules, and the ways to make one

abbrev pub Rule : Type 0 → Type 1
Rule A = rules.Rule Token Kind SyntaxKind A

abbrev pub Shape : Type 0
Shape = rules.Shape Kind

abbrev pub Depth : Type 0 → Type 1
Depth A = rules.Depth Token SyntaxKind A

abbrev pub one : {A : Type 0} → (Kind → Bool) → (Token → Result A SyntaxKind) → Rule A
one kinds value = rules.one alphabet kinds value

abbrev pub token : Kind → Rule (Unit {0})
token kind = rules.token alphabet kind

abbrev pub refusing : {A : Type 0} → SyntaxKind → (Kind → Bool) → Rule A
refusing why kinds = rules.refusing alphabet why kinds

abbrev pub either : {A : Type 0} → Rule A → Rule A → Rule A
either a b = rules.either alphabet a b

abbrev pub opt : {A : Type 0} → Rule A → Rule (Option A)
opt a = rules.opt alphabet a

abbrev pub many_from : {S A : Type 0} → Shape → (S → Rule A) → (S → A → S) → S → Rule (List A)
many_from shape rule step s = rules.many_from alphabet shape rule step s

abbrev pub many : {A : Type 0} → Rule A → Rule (List A)
many a = rules.many alphabet a

abbrev pub chain : {A : Type 0} → Kind → Rule A → Rule (List A)
chain mark a = rules.chain alphabet mark a

abbrev pub some : {A : Type 0} → Rule A → Rule (List A)
some a = rules.some alphabet a

abbrev pub nothing : {A : Type 0} → Rule A
nothing = rules.nothing alphabet

abbrev pub nested : {A : Type 0} → (Rule A → Rule A) → ℕ → Rule A
nested rule n = rules.nested alphabet rule n

-- ---- all the tokens

abbrev pub stops_whole : {A : Type 0} → Rule A → List Token → Refusal → Type 0
stops_whole r ts refusal = rules.stops_whole alphabet r ts refusal

abbrev pub read_whole : {A : Type 0} → Rule A → List Token → Outcome A
read_whole r ts = rules.read_whole alphabet r ts

-- ---- the laws of a rule of which each choice is decided by the next token

abbrev pub ReadAsSpelled : {A : Type 0} → Rule A → Type 0
ReadAsSpelled r = rules.ReadAsSpelled alphabet r

abbrev pub RefusedAsStopped : {A : Type 0} → Rule A → Type 0
RefusedAsStopped r = rules.RefusedAsStopped alphabet r

abbrev pub SpelledOrStopped : {A : Type 0} → Rule A → Type 0
SpelledOrStopped r = rules.SpelledOrStopped alphabet r

abbrev pub RefusedForGood : {A : Type 0} → Rule A → Type 0
RefusedForGood r = rules.RefusedForGood alphabet r

abbrev pub RefusedTheSame : {A : Type 0} → Rule A → Type 0
RefusedTheSame r = rules.RefusedTheSame alphabet r

abbrev pub RefusedFitly : {A : Type 0} → Rule A → Type 0
RefusedFitly r = rules.RefusedFitly alphabet r

-- ---- what loops read

-- a loop that reads any number: what was read before, in front
unfoldable pub with_front : {A : Type 0} → List A → Outcome (List A) → Outcome (List A)
with_front front o = and_then o (λ xs rest. Ok (front ++ xs, rest))

-- the same, where each that is read gives some parts
unfoldable pub with_each : {A B : Type 0} → (A → List B) → List B → Outcome (List A) → Outcome (List B)
with_each parts front o = and_then o (λ xs rest. Ok (front ++ flat_map parts xs, rest))

-- what stands behind the first of a chain
unfoldable pub more : {A : Type 0} → Kind → Rule A → List Token → Outcome (List A)
more mark a ts = (many (after (token mark) a)).read ts

unfoldable pub any_number : {A : Type 0} → Rule A → List Token → Outcome (List A)
any_number a ts = (many a).read ts

-- any number, each under what those before it left
unfoldable pub any_number_from : {S A : Type 0} → Shape → (S → Rule A) → (S → A → S) → S → List Token → Outcome (List A)
any_number_from shape rule step s ts = (many_from shape rule step s).read ts
