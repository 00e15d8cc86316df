-- The text that asks whether a pattern fits is accepted as its query, which has no SERVICE.
use Rattle.std.proofs.Common.{◌≡◌, ◌∙◌, ap, sym, subst, refl, ℕ, ◌≤◌, Bool, true, ◌&&◌, ◌++◌, List, [], ◌∷◌, max, arith, inl, inr, append-nil}
use Rattle.std.specs.Prelude.{codes}
use Rattle.fx_terms.specs.declared.terms.Term.TheVariants.{Iri, Literal}
use Rattle.fx_terms.specs.declared.patterns.Pattern.{Pattern}
use Rattle.fx_terms.specs.declared.patterns.PatternTerm.{PatternTerm}
use Rattle.fx_terms.specs.declared.patterns.PatternTerm.TheVariants.{Variable, Constant}
use Rattle.fx_algebra.specs.Occurrences.{Occurrence, all_of, element_occurrences, group_occurrences, of_element, services}
use Rattle.fx_algebra.specs.Printed.{Word, fixed, pattern_words, element_step, group_step, element_words, group_words, query_words, form_words, order_words}
use Rattle.fx_algebra.specs.declared.queries.Element.{Element-F, fold-roll-Element}
use Rattle.fx_algebra.specs.declared.queries.Element.TheVariants as element
use Rattle.fx_algebra.specs.declared.queries.Group.{Group, roll-Group, fold-roll-Group}
use Rattle.fx_grammar.specs.Accepted.{Accepted}
use Rattle.fx_spelling.specs.Printable.{AreFine, IsTriple, IsVerb, IsPrintable, Held, brackets, held, held_element, hold_element, hold_group, is_verb}
use Rattle.fx_spelling.proofs.Queries.{printed_is_accepted}
use Rattle.fx_spelling.proofs.Saying.{fine_both}
use Rattle.fx_spelling.proofs.Terms.{fine_triple}
use Rattle.fx_sources.specs.Sources.{ask_query, ask_text}

module _ (p : Pattern) where
  abbrev group : Group
  group = roll-Group (record { elements = element.Triple p ∷ [] })

  triple_words : element_words (element.Triple p) ≡ pattern_words p
  triple_words = ap element_words (sym (element.rolls-Triple p)) ∙ fold-roll-Element (List Word) (List Word) element_step group_step (Element-F.Triple p)

  group_is : group_words group ≡ fixed (codes "{") ∷ (pattern_words p ++ fixed (codes "}") ∷ [])
  group_is = fold-roll-Group (List Word) (List Word) element_step group_step (record { elements = element.Triple p ∷ [] }) ∙ ap (λ (v : List Word). fixed (codes "{") ∷ ((v ++ []) ++ fixed (codes "}") ∷ [])) triple_words

  words_are : query_words (ask_query p) ≡ fixed (codes "ASK") ∷ fixed (codes "WHERE") ∷ fixed (codes "{") ∷ (pattern_words p ++ fixed (codes "}") ∷ [])
  unfolding query_words form_words order_words
  words_are = ap (λ (v : List Word). fixed (codes "ASK") ∷ fixed (codes "WHERE") ∷ v) (append-nil (group_words group) ∙ group_is)

  fine : IsTriple p → AreFine (fixed (codes "ASK") ∷ fixed (codes "WHERE") ∷ fixed (codes "{") ∷ (pattern_words p ++ fixed (codes "}") ∷ []))
  fine h = (inr (inl refl), (inr (inl refl), (inl refl, fine_both (pattern_words p) (fixed (codes "}") ∷ []) (fine_triple p h) (inl refl, tt))))

  held_triple : held_element (element.Triple p) ≡ hold_element (Element-F.Triple p)
  held_triple = ap held_element (sym (element.rolls-Triple p)) ∙ fold-roll-Element Held Held hold_element hold_group (Element-F.Triple p)

  held_is : held group ≡ hold_group (record { elements = hold_element (Element-F.Triple p) ∷ [] })
  held_is = fold-roll-Group Held Held hold_element hold_group (record { elements = element.Triple p ∷ [] }) ∙ ap (λ (h : Held). hold_group (record { elements = h ∷ [] })) held_triple

  verb : (part : PatternTerm) → IsVerb part → is_verb part ≡ true
  verb (Variable name) h = refl
  verb (Constant (Iri a)) h = refl
  verb (Constant (Literal l)) h = absurd h

  printable : IsTriple p → IsPrintable (ask_query p)
  printable h = record {
    words = subst AreFine (sym words_are) (fine h);
    form = tt;
    group = ap (λ (x : Held). x.good) held_is ∙ ap (λ (b : Bool). (b && true) && true) (verb p.predicate h.predicate);
    order = refl;
    inline = refl;
  }

  few : brackets (ask_query p) ≤ 64
  few = let one : (held group).nest ≡ 1 = ap (λ (x : Held). x.nest) held_is in subst (λ (n : ℕ). max n 0 ≤ 64) (sym one) (omega arith)

  pub ask_accepted : IsTriple p → Accepted (ask_text p) (ask_query p)
  ask_accepted h = printed_is_accepted (ask_query p) (printable h) few

  pub no_services : services (ask_query p) ≡ []
  no_services =
      fold-roll-Group (List Occurrence) (List Occurrence) element_occurrences group_occurrences (record { elements = element.Triple p ∷ [] })
      ∙ ap (λ v. all_of (v ∷ [])) (ap of_element (sym (element.rolls-Triple p)) ∙ fold-roll-Element (List Occurrence) (List Occurrence) element_occurrences group_occurrences (Element-F.Triple p))
