-- The text of units where the same names are known.
use Rattle.std.proofs.Common.{◌≡◌, ◌∙◌, ap, sym, refl, ℕ, not, ◌||◌, List, [], ◌∷◌, ◌++◌, fold, length}
use Rattle.std.specs.Fmt.{decimal}
use Rattle.std.specs.Prelude.{codes}
use Rattle.fx_outside.specs.Endpoints.{EndpointParts}
use Rattle.fx_algebra.specs.BasicGraphPatterns.{variables}
use Rattle.fx_algebra.specs.Scopes.{is_among, once, with_name}
use Rattle.fx_algebra.specs.Printed.{Word, condition, element_step, element_words, group_step, fixed, joined, pattern_words, printed, spaced}
use Rattle.fx_algebra.specs.declared.expressions.Expr.{Expr}
use Rattle.fx_algebra.specs.declared.queries.Element.{Element-F, fold-roll-Element}
use Rattle.fx_algebra.specs.declared.queries.Element.TheVariants as element
use Rattle.fx_algebra.specs.declared.units.Unit as unit
use Rattle.fx_terms.specs.declared.patterns.Pattern.{Pattern}
use Rattle.fx_plan.specs.Explained.{filter_line, filter_lines, pattern_line, kind, member_names, pattern_lines, unit_texts}
use Rattle.fx_plan.specs.Plans.{free}
use Rattle.fx_plan.proofs.NameLemmas.{among_both, among_fold, among_once, filter_same}

-- the same names are known
abbrev pub Same : List (List ℕ) → List (List ℕ) → Type 0
Same a b = (name : List ℕ) → is_among a name ≡ is_among b name

free_same : (a b : List (List ℕ)) → Same a b → (u : unit.Unit) → free a u ≡ free b u
free_same a b h u = ap length (filter_same (λ n. not (is_among a n)) (λ n. not (is_among b n)) (λ n. ap not (h n)) (once (variables u.patterns)))

with_more : (a b : List (List ℕ)) → Same a b → (more : List (List ℕ)) → Same (a ++ more) (b ++ more)
with_more a b h more name = among_both a more name ∙ ap (λ v. v || is_among more name) (h name) ∙ sym (among_both b more name)

pub texts_same : (endpoints : List EndpointParts) (a b : List (List ℕ)) → Same a b → (us : List unit.Unit) → unit_texts endpoints a us ≡ unit_texts endpoints b us
texts_same endpoints a b h [] = refl
texts_same endpoints a b h (u ∷ us) = λ i.
    ((kind u.group ++ (member_names endpoints u.members ++ (codes " " ++ (decimal (free_same a b h u i) ++ codes " free\n")))) ++ (pattern_lines u.patterns ++ filter_lines u.filters))
    ++ texts_same endpoints (a ++ variables u.patterns) (b ++ variables u.patterns) (with_more a b h (variables u.patterns)) us i

pub same_once : (names : List (List ℕ)) → Same (once names) names
same_once names = among_once names

pub same_fold : (names more : List (List ℕ)) → Same (fold with_name names more) (names ++ more)
same_fold names more name = among_fold names more name ∙ sym (among_both names more name)

-- ---- lines

triple_words : (p : Pattern) → element_words (element.Triple p) ≡ pattern_words p
triple_words p = ap element_words (sym (element.rolls-Triple p)) ∙ fold-roll-Element (List Word) (List Word) element_step group_step (Element-F.Triple p)

filter_words : (e : Expr) → element_words (element.Filter e) ≡ fixed (codes "FILTER") ∷ condition (printed e)
filter_words e = ap element_words (sym (element.rolls-Filter e)) ∙ fold-roll-Element (List Word) (List Word) element_step group_step (Element-F.Filter e)

-- each word of an element stands behind a space
pub pattern_line_is : (p : Pattern) → pattern_line p ≡ 32 ∷ (spaced (pattern_words p) ++ 10 ∷ [])
pattern_line_is p = ap (λ (words : List Word). codes "  " ++ (joined words ++ codes "\n")) (triple_words p)

pub filter_line_is : (e : Expr) → filter_line e ≡ 32 ∷ (spaced (fixed (codes "FILTER") ∷ condition (printed e)) ++ 10 ∷ [])
filter_line_is e = ap (λ (words : List Word). codes "  " ++ (joined words ++ codes "\n")) (filter_words e)
