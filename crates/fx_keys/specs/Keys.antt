-- The key of a triple pattern: the pattern with its variables numbered by first occurrence in subject, predicate, object.
use Rattle.std.specs.Prelude.{◌≡◌, ℕ, zero, suc, Bool, true, false, ◌&&◌, if◌then◌else◌, List, [], ◌∷◌, codes, refl}
use Rattle.std.proofs.Common.{ap, sym, subst}
use mathlib.Core.Bool.{true≢false}
use Rattle.std.specs.Bool.{Decides}
use Rattle.std.specs.Ordering.{is_eq, eq_by_cmp}
use Rattle.fx_terms.specs.Texts.{text_cmp, texts_total, one_text}
use Rattle.fx_terms.specs.declared.terms.Term.{Term}
use Rattle.fx_terms.specs.declared.patterns.Pattern.{Pattern}
use Rattle.fx_terms.specs.declared.patterns.PatternTerm.{PatternTerm}
use Rattle.fx_terms.specs.declared.patterns.PatternTerm.TheVariants.{Variable, Constant}
use Rattle.fx_terms.specs.Terms.{term_cmp, terms_total, form_of}
use Rattle.fx_terms.proofs.OrderLemmas.{exact_terms}
use Rattle.std.specs.Cmp.{Equal-is}
use Rattle.std.proofs.lemmas.Cmp.{tied_itself}
use Rattle.fx_algebra.specs.Scopes.{once, pattern_names}

-- ---- keys

-- the name of a number: a pattern has three variables at most
abbrev pub numbered : ℕ → List ℕ
numbered zero = codes "v0"
numbered (suc zero) = codes "v1"
numbered (suc (suc n)) = codes "v2"

-- how many names stand before the first that is this one
abbrev pub place : List (List ℕ) → List ℕ → ℕ
place [] name = 0
place (n ∷ ns) name = if is_eq (text_cmp n name) then 0 else suc (place ns name)

-- a part with its variable under another name
abbrev pub renamed_part : (List ℕ → List ℕ) → PatternTerm → PatternTerm
renamed_part f (Variable name) = Variable (f name)
renamed_part f (Constant term) = Constant term

-- a pattern with its variables under other names
abbrev pub renamed : (List ℕ → List ℕ) → Pattern → Pattern
renamed f p = record { subject = renamed_part f p.subject; predicate = renamed_part f p.predicate; object = renamed_part f p.object }

-- the name that a name has by its place among names
abbrev pub name_among : List (List ℕ) → List ℕ → List ℕ
name_among names name = numbered (place names name)

-- the key of a pattern
abbrev pub key : Pattern → Pattern
key p = renamed (name_among (once (pattern_names p))) p

-- ---- equality of patterns, as a test

abbrev pub same_part : PatternTerm → PatternTerm → Bool
same_part (Variable a) (Variable b) = eq_by_cmp text_cmp a b
same_part (Variable a) (Constant t) = false
same_part (Constant s) (Variable b) = false
same_part (Constant s) (Constant t) = eq_by_cmp term_cmp s t

abbrev pub same_pattern : Pattern → Pattern → Bool
same_pattern p q = same_part p.subject q.subject && (same_part p.predicate q.predicate && same_part p.object q.object)

pub and_first : (a b : Bool) → (a && b) ≡ true → a ≡ true
and_first true b h = refl
and_first false b h = h

pub and_second : (a b : Bool) → (a && b) ≡ true → b ≡ true
and_second true b h = h
and_second false b h = absurd (true≢false (sym h))

pub both_from : (a b : Bool) → a ≡ true → b ≡ true → (a && b) ≡ true
both_from a b h k i = h i && k i

text_itself : (a : List ℕ) → eq_by_cmp text_cmp a a ≡ true
text_itself a = ap is_eq (tied_itself texts_total a)

term_itself : (t : Term) → eq_by_cmp term_cmp t t ≡ true
term_itself t = ap is_eq (tied_itself terms_total t)

part_itself : (a : PatternTerm) → same_part a a ≡ true
part_itself (Variable a) = text_itself a
part_itself (Constant t) = term_itself t

one_part : (a b : PatternTerm) → same_part a b ≡ true → a ≡ b
one_part (Variable a) (Variable b) h = ap Variable (one_text a b h)
one_part (Variable a) (Constant t) h = absurd (true≢false (sym h))
one_part (Constant s) (Variable b) h = absurd (true≢false (sym h))
one_part (Constant s) (Constant t) h = ap Constant (exact_terms s t ((Equal-is (term_cmp s t)).0 h))

-- the test tells all patterns apart
pub patterns_decide : (p q : Pattern) → Decides (same_pattern p q) (p ≡ q)
patterns_decide p q = (
  λ h.
      let s = one_part p.subject q.subject (and_first _ _ h) in
      let t = and_second (same_part p.subject q.subject) _ h in
      let u = one_part p.predicate q.predicate (and_first _ _ t) in
      let v = one_part p.object q.object (and_second (same_part p.predicate q.predicate) _ t) in
      λ i. record { subject = s i; predicate = u i; object = v i },
  λ e. subst (λ r. same_pattern p r ≡ true) e (both_from _ _ (part_itself p.subject) (both_from _ _ (part_itself p.predicate) (part_itself p.object))),
)

-- ---- a text of a part, by which keys are hashed

abbrev pub text_of : PatternTerm → List ℕ
text_of (Variable name) = name
text_of (Constant term) = form_of term
