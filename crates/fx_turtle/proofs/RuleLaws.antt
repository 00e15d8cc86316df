-- What each way to make a rule keeps (`fx_rules`), at the alphabet of Turtle.
use Rattle.std.proofs.Common.{◌≡◌, Bool, true, false, cond, Result, refl}
use Rattle.fx_rules.specs.Rule as rules
use Rattle.fx_rules.specs.Rule.{Apart, Shaped}
use Rattle.fx_rules.proofs.RuleKept as kept
use Rattle.fx_turtle.specs.Rule.{alphabet, Rule, Shape, one, token, refusing, made, seq, after, before, either, opt, many_from, many, chain}
use Rattle.fx_turtle.specs.Symbols.{Symbol, is}
use Rattle.fx_turtle.specs.declared.kinds.Kind.{Kind}
use Rattle.fx_turtle.specs.declared.kinds.Kind.TheVariants as k
use Rattle.fx_turtle.specs.declared.refusals.TurtleKind.{TurtleKind}
use Rattle.fx_turtle.specs.declared.refusals.TurtleKind.TheVariants.{Relative}

-- a reason stays what it is where it is looked at once more
own_reason : (a : Bool) (why : TurtleKind) → cond a Relative why ≡ cond a Relative (cond a Relative why)
own_reason true why = refl
own_reason false why = refl

pub settled : rules.Settled alphabet
settled why kind = own_reason (is k.Relative kind) why

abbrev pub Kept : {A : Type 0} → Rule A → Type 0
Kept r = kept.Kept alphabet r

pub kept_one : {A : Type 0} (kinds : Kind → Bool) (value : Symbol → Result A TurtleKind) → Kept (one kinds value)
kept_one kinds value = kept.kept_one alphabet settled kinds value

pub kept_token : (kind : Kind) → Kept (token kind)
kept_token kind = kept.kept_token alphabet settled kind

pub kept_refusing : (A : Type 0) (why : TurtleKind) (kinds : Kind → Bool) → Kept (refusing {A = A} why kinds)
kept_refusing A why kinds = kept.kept_refusing alphabet settled A why kinds

pub kept_made : {A B : Type 0} (f : A → B) {a : Rule A} → Kept a → Kept (made f a)
kept_made f {a} k = kept.kept_made alphabet settled f {a = a} k

pub kept_seq : {A B : Type 0} {a : Rule A} {b : Rule B} → Kept a → Kept b → Apart b.begins a.goes_on → Kept (seq a b)
kept_seq {a = a} {b = b} ka kb apart = kept.kept_seq alphabet settled {a = a} {b = b} ka kb apart

pub kept_after : {A B : Type 0} {a : Rule A} {b : Rule B} → Kept a → Kept b → Apart b.begins a.goes_on → Kept (after a b)
kept_after {a = a} {b = b} ka kb apart = kept.kept_after alphabet settled {a = a} {b = b} ka kb apart

pub kept_before : {A B : Type 0} {a : Rule A} {b : Rule B} → Kept a → Kept b → Apart b.begins a.goes_on → Kept (before a b)
kept_before {a = a} {b = b} ka kb apart = kept.kept_before alphabet settled {a = a} {b = b} ka kb apart

pub kept_either : {A : Type 0} {a b : Rule A} → Kept a → Kept b → a.empty ≡ false → b.empty ≡ false → Apart b.begins a.begins → Kept (either a b)
kept_either {a = a} {b = b} ka kb na nb apart = kept.kept_either alphabet settled {a = a} {b = b} ka kb na nb apart

pub kept_opt : {A : Type 0} {a : Rule A} → Kept a → a.empty ≡ false → Kept (opt a)
kept_opt {a = a} k na = kept.kept_opt alphabet settled {a = a} k na

pub kept_many_from : {S A : Type 0} (shape : Shape) (rule : S → Rule A) (step : S → A → S) → ((s : S) → Kept (rule s)) → ((s : S) → Shaped shape (rule s)) → shape.empty ≡ false → Apart shape.begins shape.goes_on → (s : S) → Kept (many_from shape rule step s)
kept_many_from shape rule step k fits na apart s = kept.kept_many_from alphabet settled shape rule step k fits na apart s

pub kept_many : {A : Type 0} {a : Rule A} → Kept a → a.empty ≡ false → Apart a.begins a.goes_on → Kept (many a)
kept_many {a = a} k na apart = kept.kept_many alphabet settled {a = a} k na apart

pub kept_chain : {A : Type 0} (mark : Kind) {a : Rule A} → Kept a → a.empty ≡ false → Apart (is mark) a.goes_on → Kept (chain mark a)
kept_chain mark {a} k na apart = kept.kept_chain alphabet settled mark {a = a} k na apart
