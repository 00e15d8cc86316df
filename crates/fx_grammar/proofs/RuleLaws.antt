-- The laws of rules (`fx_rules`) at the grammar's alphabet: what each way to make a rule keeps, and what follows of all the tokens.
use Rattle.std.proofs.Common.{◌≡◌, ℕ, ◌≤◌, Bool, true, false, ◌||◌, cond, List, [], ◌∷◌, length, Result, Ok, Err, refl}
use Rattle.fx_rules.specs.Rule as rules
use Rattle.fx_rules.proofs.RuleKept as kept
use Rattle.fx_rules.proofs.RuleLaws as laws
pub use Rattle.fx_rules.proofs.RuleLaws.{same_shape, Shortens}
use Rattle.fx_rules.proofs.RuleWhole as whole
use Rattle.fx_grammar.specs.Kinds.{is}
use Rattle.fx_grammar.specs.declared.kinds.Kind.{Kind}
use Rattle.fx_grammar.specs.declared.kinds.Kind.TheVariants as k
use Rattle.fx_grammar.specs.declared.kinds.Token.{Token}
use Rattle.fx_grammar.specs.declared.refusals.SyntaxKind.{SyntaxKind}
use Rattle.fx_grammar.specs.declared.refusals.SyntaxKind.TheVariants.{TooDeep, RelativeIri, Unsupported}
use Rattle.fx_grammar.specs.Rule.{alphabet, and_then, Refusal, sees, Rule, Apart, Shape, shape_of, Shaped, Depth, with_depth, one, token, refusing, made, then_by, seq, after, before, either, opt, many_from, many, chain, some, nothing, nested, read_whole, ReadAsSpelled, RefusedAsStopped, SpelledOrStopped, EndsAsSpelled, RefusedForGood, RefusedTheSame, RefusedFitly}

-- a reason stays what it is where it is looked at once more
own_reason : (a b c : Bool) (why : SyntaxKind) →
    cond a TooDeep (cond b RelativeIri (cond c Unsupported why)) ≡ cond a TooDeep (cond b RelativeIri (cond c Unsupported (cond a TooDeep (cond b RelativeIri (cond c Unsupported why)))))
own_reason true b c why = refl
own_reason false true c why = refl
own_reason false false true why = refl
own_reason false false false why = refl

settled : rules.Settled alphabet
settled why kind = own_reason (is k.TooDeep kind) (is k.Relative kind) (is k.InnerService kind) why

-- ---- reading and spelling are the same

abbrev pub Lawful : {A : Type 0} → Rule A → Type 0
Lawful r = laws.Lawful alphabet r

pub lawful_item : {A : Type 0} (mark : Kind) (a : Rule A) → Lawful a → Lawful (after (token mark) a)
lawful_item mark a l = laws.lawful_item alphabet mark a l

pub sees-left : (p q : Kind → Bool) (ts : List Token) → sees p ts ≡ true → sees (λ kind. p kind || q kind) ts ≡ true
sees-left p q ts e = laws.sees-left alphabet p q ts e

pub sees-right : (p q : Kind → Bool) (ts : List Token) → sees q ts ≡ true → sees (λ kind. p kind || q kind) ts ≡ true
sees-right p q ts e = laws.sees-right alphabet p q ts e

pub sees-apart : (p q : Kind → Bool) (ts : List Token) → Apart p q → sees p ts ≡ true → sees q ts ≡ false
sees-apart p q ts apart e = laws.sees-apart alphabet p q ts apart e

pub shortens : {A : Type 0} (a : Rule A) → Lawful a → a.empty ≡ false → (ts : List Token) → Shortens ts (a.read ts)
shortens a l na ts = laws.shortens alphabet a l na ts

module _ {S A : Type 0} (shape : Shape) (rule : S → Rule A) (step : S → A → S) (l : (s : S) → Lawful (rule s)) (fits : (s : S) → Shaped shape (rule s)) (na : shape.empty ≡ false) where
  pub shortens_from : (s : S) (ts : List Token) → Shortens ts ((rule s).read ts)
  shortens_from s ts = laws.shortens_from alphabet shape rule step l fits na s ts

  -- one turn of any number
  pub turn_is : (s : S) (ts : List Token) → (many_from shape rule step s).read ts
      ≡ cond (sees shape.begins ts) (and_then ((rule s).read ts) (λ x mid. and_then ((many_from shape rule step (step s x)).read mid) (λ xs rest. Ok (x ∷ xs, rest)))) (Ok ([], ts))
  unfolding laws.turn_of
  turn_is s ts = laws.turn_is alphabet shape rule step l fits na s ts

-- ---- all laws together

abbrev pub Kept : {A : Type 0} → Rule A → Type 0
Kept r = kept.Kept alphabet r

pub kept_one : {A : Type 0} (kinds : Kind → Bool) (value : Token → Result A SyntaxKind) → Kept (one kinds value)
kept_one kinds value = kept.kept_one alphabet settled kinds value

pub kept_token : (kind : Kind) → Kept (token kind)
kept_token kind = kept.kept_token alphabet settled kind

pub kept_refusing : (A : Type 0) (why : SyntaxKind) (kinds : Kind → Bool) → Kept (refusing {A = A} why kinds)
kept_refusing A why kinds = kept.kept_refusing alphabet settled A why kinds

pub kept_made : {A B : Type 0} (f : A → B) {a : Rule A} → Kept a → Kept (made f a)
kept_made f {a} k = kept.kept_made alphabet settled f {a = a} k

pub kept_then_by : {A B : Type 0} {a : Rule A} (shape : Shape) (b : A → Rule B) → Kept a → ((x : A) → Kept (b x)) → ((x : A) → Shaped shape (b x)) → Apart shape.begins a.goes_on → Kept (then_by a shape b)
kept_then_by {a = a} shape b ka kb fits apart = kept.kept_then_by alphabet settled {a = a} shape b ka kb fits apart

pub kept_seq : {A B : Type 0} {a : Rule A} {b : Rule B} → Kept a → Kept b → Apart b.begins a.goes_on → Kept (seq a b)
kept_seq {a = a} {b = b} ka kb apart = kept.kept_seq alphabet settled {a = a} {b = b} ka kb apart

pub kept_after : {A B : Type 0} {a : Rule A} {b : Rule B} → Kept a → Kept b → Apart b.begins a.goes_on → Kept (after a b)
kept_after {a = a} {b = b} ka kb apart = kept.kept_after alphabet settled {a = a} {b = b} ka kb apart

pub kept_before : {A B : Type 0} {a : Rule A} {b : Rule B} → Kept a → Kept b → Apart b.begins a.goes_on → Kept (before a b)
kept_before {a = a} {b = b} ka kb apart = kept.kept_before alphabet settled {a = a} {b = b} ka kb apart

pub kept_either : {A : Type 0} {a b : Rule A} → Kept a → Kept b → a.empty ≡ false → b.empty ≡ false → Apart b.begins a.begins → Kept (either a b)
kept_either {a = a} {b = b} ka kb na nb apart = kept.kept_either alphabet settled {a = a} {b = b} ka kb na nb apart

pub kept_opt : {A : Type 0} {a : Rule A} → Kept a → a.empty ≡ false → Kept (opt a)
kept_opt {a = a} k na = kept.kept_opt alphabet settled {a = a} k na

pub kept_many_from : {S A : Type 0} (shape : Shape) (rule : S → Rule A) (step : S → A → S) → ((s : S) → Kept (rule s)) → ((s : S) → Shaped shape (rule s)) → shape.empty ≡ false → Apart shape.begins shape.goes_on → (s : S) → Kept (many_from shape rule step s)
kept_many_from shape rule step k fits na apart s = kept.kept_many_from alphabet settled shape rule step k fits na apart s

pub kept_many : {A : Type 0} {a : Rule A} → Kept a → a.empty ≡ false → Apart a.begins a.goes_on → Kept (many a)
kept_many {a = a} k na apart = kept.kept_many alphabet settled {a = a} k na apart

pub kept_chain : {A : Type 0} (mark : Kind) {a : Rule A} → Kept a → a.empty ≡ false → Apart (is mark) a.goes_on → Kept (chain mark a)
kept_chain mark {a} k na apart = kept.kept_chain alphabet settled mark {a = a} k na apart

pub kept_some : {A : Type 0} {a : Rule A} → Kept a → a.empty ≡ false → Apart a.begins a.goes_on → Kept (some a)
kept_some {a = a} k na apart = kept.kept_some alphabet settled {a = a} k na apart

pub kept_nested : {A : Type 0} (rule : Rule A → Rule A)
    → ((d : Depth A) → Shaped (shape_of (rule nothing)) (rule (with_depth (shape_of (rule nothing)) d)))
    → (shape_of (rule nothing)).empty ≡ false
    → ((d : Depth A) → Kept (with_depth (shape_of (rule nothing)) d) → Kept (rule (with_depth (shape_of (rule nothing)) d)))
    → (n : ℕ) → Kept (nested rule n)
kept_nested rule fits takes keeps n = kept.kept_nested alphabet settled rule fits takes keeps n

-- ---- all the tokens

pub read_as_spelled : {A : Type 0} (r : Rule A) → Kept r → ReadAsSpelled r
read_as_spelled r k = whole.read_as_spelled alphabet r k.law

pub refused_as_stopped : {A : Type 0} (r : Rule A) → Kept r → RefusedAsStopped r
refused_as_stopped r k = whole.refused_as_stopped alphabet r k.law k.exact

pub spelled_or_stopped : {A : Type 0} (r : Rule A) → Kept r → SpelledOrStopped r
spelled_or_stopped r k = whole.spelled_or_stopped alphabet r k.law k.exact

pub ends_as_spelled : {A : Type 0} (r : Rule A) → Kept r → EndsAsSpelled r
ends_as_spelled r k = whole.ends_as_spelled alphabet settled r k.law k.local k.exact

pub refused_for_good : {A : Type 0} (r : Rule A) → Kept r → RefusedForGood r
refused_for_good r k = whole.refused_for_good alphabet settled r k.law k.local k.exact

pub refused_the_same : {A : Type 0} (r : Rule A) → Kept r → RefusedTheSame r
refused_the_same r k = whole.refused_the_same alphabet settled r k.law k.local k.exact

pub refused_fitly : {A : Type 0} (r : Rule A) → Kept r → RefusedFitly r
refused_fitly r k = whole.refused_fitly alphabet settled r k.law k.local k.exact

-- a refusal stands within the tokens, or behind the last
pub left_within : {A : Type 0} (r : Rule A) → Kept r → (ts : List Token) (refusal : Refusal) → read_whole r ts ≡ Err refusal → refusal.left ≤ length ts
left_within r k ts refusal e = whole.left_within alphabet settled r k.law k.local ts refusal e
