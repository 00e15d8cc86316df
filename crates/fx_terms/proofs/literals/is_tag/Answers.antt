use Rattle.std.proofs.Common.{◌≡◌, ◌∙◌, ap, sym, refl, rules, tests, Bool, true, false, ◌&&◌, List, lit<, [], ◌∷◌, Option, Some}
use Rattle.std.specs.List.{list_all}
use Rattle.std.proofs.lemmas.Iterator.{YieldsList}
use Rattle.std.proofs.lemmas.Iterator.Search.{all_from_yields_List}
use Rattle.std.proofs.lemmas.Iterator.Splits.{YieldsList-from_str_split}
use Rattle.fx_terms.specs.Literals as spec
use Rattle.fx_terms.proofs.literals.is_tag.Goals as goal

-- the first item, and what comes after it
behind_first : {S A B : Type 0} {steps : S → Option A → S → Type 0} {v : A → B} {s t : S} (ys : List B) (x : A) → YieldsList steps v s ys → steps s (Some x) t → (rest : List B) × (ys ≡ v x ∷ rest) × YieldsList steps v t rest
behind_first [] x road step = absurd (road.runs x _ step)
behind_first (y ∷ ys) x road step = let first = road.runs.1 x _ step in (ys, ap (λ z. z ∷ ys) (sym first.0), record { runs = first.1 })

both : (a b c : Bool) → a ≡ true → b ≡ c → b ≡ (a && c)
both true b c e h = h
both false b c e h = cc

neither : (a c : Bool) → a ≡ false → false ≡ (a && c)
neither false c e = refl
neither true c e = cc

pub returns-then-is_letters : goal.returns-then-is_letters
returns-then-is_letters c =
    let road = YieldsList-from_str_split 45 c.args.tag.now (lit< tt) c.split-parts.ensures.text c.split-parts.ensures.has_more c.split-parts.ensures.pattern in
    let more = behind_first {t = c.next.new.self} _ c.in-Some.first road c.in-Some.ensures.steps in
    let rest : c.all.result ≡ list_all spec.is_letters_or_digits more.0 = all_from_yields_List spec.is_letters_or_digits _ _ c.all.result c.all.ensures.ran more.2 (λ x b q h. search (rules, tests)) in
    both (spec.is_letters c.in-Some.first.now) c.all.result _ (sym c.is_letters.ensures ∙ c.if-is_letters.true) rest ∙ ap spec.are_tag_parts (sym more.1)

pub returns-else-is_letters : goal.returns-else-is_letters
returns-else-is_letters c =
    let road = YieldsList-from_str_split 45 c.args.tag.now (lit< tt) c.split-parts.ensures.text c.split-parts.ensures.has_more c.split-parts.ensures.pattern in
    let more = behind_first {t = c.next.new.self} _ c.in-Some.first road c.in-Some.ensures.steps in
    c.if-is_letters.false ∙ (neither (spec.is_letters c.in-Some.first.now) _ (sym c.is_letters.ensures ∙ c.if-is_letters.false) ∙ ap spec.are_tag_parts (sym more.1))
