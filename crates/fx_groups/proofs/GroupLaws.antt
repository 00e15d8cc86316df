-- The elements of a group, each under the names of those before it.
use Rattle.std.proofs.Common.{◌≡◌, ℕ, ◌<◌, true, false, List, [], ◌++◌, length, Ok, Err, refl, ap, ◌∙◌}
use Rattle.fx_algebra.specs.declared.queries.Element.{Element}
use Rattle.fx_algebra.specs.declared.queries.Group.{roll-Group}
use Rattle.fx_grammar.specs.declared.kinds.Token.{Token}
use Rattle.std.specs.List.{flat_map}
use Rattle.fx_grammar.specs.Rule.{Outcome, Refusal, and_then, sees, shape_of, with_each, any_number_from}
use Rattle.fx_grammar.specs.Grammar.{Prefixes, item, items, items_from, with_elements, group, group_of, inside, first_triples}
use Rattle.fx_grammar.proofs.GrammarLaws.{item_law, item_fits, item_takes}
use Rattle.fx_readers.proofs.Loops.{from_each_turn, from_each_fails, from_each_ends, from_smaller}

module _ (ps : Prefixes) (n : ℕ) where
  pub items_turn : (names : List (List ℕ)) (front : List Element) (ts next : List Token) (x : List Element) → sees (item ps (group ps n) []).begins ts ≡ true → (item ps (group ps n) names).read ts ≡ Ok (x, next)
      → with_each (λ es. es) (front ++ x) (items_from ps (group ps n) (with_elements names x) next) ≡ with_each (λ es. es) front (items_from ps (group ps n) names ts)
  unfolding items_from
  items_turn names front ts next x b e = from_each_turn (shape_of (item ps (group ps n) [])) (item ps (group ps n)) with_elements (item_law ps n) (item_fits ps n) (item_takes ps n) (λ es. es) names front ts next x b e

  pub items_fail : (names : List (List ℕ)) (front : List Element) (ts : List Token) (r : Refusal) → sees (item ps (group ps n) []).begins ts ≡ true → (item ps (group ps n) names).read ts ≡ Err r → with_each (λ es. es) front (items_from ps (group ps n) names ts) ≡ Err r
  unfolding items_from
  items_fail names front ts r b e = from_each_fails (shape_of (item ps (group ps n) [])) (item ps (group ps n)) with_elements (item_law ps n) (item_fits ps n) (item_takes ps n) (λ es. es) names front ts r b e

  pub items_end : (names : List (List ℕ)) (front : List Element) (ts : List Token) → sees (item ps (group ps n) []).begins ts ≡ false → with_each (λ es. es) front (items_from ps (group ps n) names ts) ≡ Ok (front, ts)
  unfolding items_from
  items_end names front ts b = from_each_ends (shape_of (item ps (group ps n) [])) (item ps (group ps n)) with_elements (item_law ps n) (item_fits ps n) (item_takes ps n) (λ es. es) names front ts b

  pub items_smaller : (names : List (List ℕ)) (ts next : List Token) (x : List Element) → (item ps (group ps n) names).read ts ≡ Ok (x, next) → length next < length ts
  items_smaller names ts next x e = from_smaller (shape_of (item ps (group ps n) [])) (item ps (group ps n)) with_elements (item_law ps n) (item_fits ps n) (item_takes ps n) names ts next x e

  -- the inside of a group, by its elements
  inside_is : (ts mid : List Token) (first : List Element) (names : List (List ℕ)) → (first_triples ps).read ts ≡ Ok (first, mid) → names ≡ with_elements [] first
      → (inside ps (group ps n)).read ts ≡ and_then (with_each (λ es. es) first (items_from ps (group ps n) names mid)) (λ es rest. Ok (roll-Group (record { elements = es }), rest))
  unfolding inside with_each items items_from any_number_from
  inside_is ts mid first names e f = rw (e, f) (go ((items ps (group ps n) (with_elements [] first)).read mid))
    where
      go : (o : Outcome (List (List Element)))
          → and_then (and_then {B = List Element × List (List Element)} o (λ y rest. Ok ((first, y), rest))) (λ p rest. Ok (group_of p.0 p.1, rest))
          ≡ and_then (and_then o (λ xs rest. Ok (first ++ flat_map (λ es. es) xs, rest))) (λ es rest. Ok (roll-Group (record { elements = es }), rest))
      go (Ok p) = refl
      go (Err r) = refl

  pub inside_unread : (ts : List Token) (r : Refusal) → (first_triples ps).read ts ≡ Err r → (inside ps (group ps n)).read ts ≡ Err r
  unfolding inside
  inside_unread ts r e = rw e refl

  pub inside_made : (ts mid rest : List Token) (first es : List Element) (names : List (List ℕ)) → (first_triples ps).read ts ≡ Ok (first, mid) → names ≡ with_elements [] first
      → with_each (λ es. es) first (items_from ps (group ps n) names mid) ≡ Ok (es, rest) → (inside ps (group ps n)).read ts ≡ Ok (roll-Group (record { elements = es }), rest)
  inside_made ts mid rest first es names e f h = inside_is ts mid first names e f ∙ ap (λ (o : Outcome (List Element)). and_then o (λ es rest. Ok (roll-Group (record { elements = es }), rest))) h

  pub inside_refused : (ts mid : List Token) (first : List Element) (names : List (List ℕ)) (r : Refusal) → (first_triples ps).read ts ≡ Ok (first, mid) → names ≡ with_elements [] first
      → with_each (λ es. es) first (items_from ps (group ps n) names mid) ≡ Err r → (inside ps (group ps n)).read ts ≡ Err r
  inside_refused ts mid first names r e f h = inside_is ts mid first names e f ∙ ap (λ (o : Outcome (List Element)). and_then o (λ es rest. Ok (roll-Group (record { elements = es }), rest))) h
