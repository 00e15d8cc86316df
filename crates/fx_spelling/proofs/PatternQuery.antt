-- The printed query of a pattern is accepted as that query.
use Rattle.std.proofs.Common.{◌≡◌, ℕ, true, false, List, [], ◌∷◌, ◌++◌, Some, None, refl, sym, ap, ◌∙◌, subst, arith, append_assoc, append-nil, inl, inr}
use Rattle.std.specs.Prelude.{codes}
use Rattle.fx_terms.specs.declared.patterns.Pattern.{Pattern}
use Rattle.fx_terms.specs.declared.patterns.PatternTerm.{PatternTerm}
use Rattle.fx_terms.specs.declared.patterns.PatternTerm.TheVariants.{Variable, Constant}
use Rattle.fx_algebra.specs.Printed.{Word, fixed, joined, pattern_words, column_words, element_step, group_step, element_words, group_words, query_words, form_words, order_words}
use Rattle.fx_algebra.specs.Scopes.{once, scope, part_names, pattern_names, element_names, group_names, mentions, group_mentions}
use Rattle.fx_algebra.specs.declared.queries.Element.{Element-F, fold-roll-Element}
use Rattle.fx_algebra.specs.declared.queries.Element.TheVariants as element
use Rattle.fx_algebra.specs.declared.queries.Group.{Group, roll-Group, fold-roll-Group}
use Rattle.fx_grammar.specs.Grammar as grammar
use Rattle.fx_grammar.specs.Rule.{Rule, nested}
use Rattle.fx_algebra.specs.declared.queries.Form.TheVariants as form
use Rattle.fx_grammar.specs.declared.parts.Main.{Main}
use Rattle.fx_grammar.specs.Accepted.{Accepted}
use Rattle.fx_spelling.specs.Printable.{AreFine, IsPart, IsTriple, AreNames, said, pattern_query, PatternQueryIsAccepted}
use Rattle.fx_grammar.specs.declared.kinds.Kind.TheVariants as k
use Rattle.fx_grammar.specs.declared.kinds.Token.{Token}
use Rattle.fx_grammar.specs.declared.kinds.Token.TheVariants as token
use Rattle.fx_grammar.specs.declared.parts.Head.TheVariants as head
use Rattle.fx_spelling.proofs.Spelling.{mark_said, braces_said, nested_said}
use Rattle.fx_spelling.proofs.Terms.{triples_said, run_is, verb_part, fine_triple, calm_triple}
use Rattle.fx_spelling.proofs.Saying.{fine_both, said_both}
use Rattle.fx_spelling.proofs.Placing.{Passes, passes_calm, passes_both, passes_behind, passes_braces, passes_less}
use Rattle.fx_spelling.proofs.Accepting.{accepted_so}
use Rattle.fx_spelling.proofs.Columns.{columns_read, once_once, once_names, names_both, fine_columns, calm_columns, named, selected_said}

module _ (p : Pattern) where
  words : List Word
  words = fixed (codes "SELECT") ∷ (column_words (once (pattern_names p)) ++ (fixed (codes "WHERE") ∷ fixed (codes "{") ∷ (pattern_words p ++ fixed (codes "}") ∷ [])))

  triple_words : element_words (element.Triple p) ≡ pattern_words p
  triple_words = ap element_words (sym (element.rolls-Triple p)) ∙ fold-roll-Element (List Word) (List Word) element_step group_step (Element-F.Triple p)

  group_is : group_words (roll-Group (record { elements = element.Triple p ∷ [] })) ≡ fixed (codes "{") ∷ (pattern_words p ++ fixed (codes "}") ∷ [])
  group_is = fold-roll-Group (List Word) (List Word) element_step group_step (record { elements = element.Triple p ∷ [] }) ∙ ap (λ (v : List Word). fixed (codes "{") ∷ ((v ++ []) ++ fixed (codes "}") ∷ [])) triple_words

  words_are : query_words (pattern_query p) ≡ words
  unfolding query_words form_words order_words words
  words_are =
      ap (λ (v : List Word). fixed (codes "SELECT") ∷ v)
      (append_assoc (column_words (once (pattern_names p))) (fixed (codes "WHERE") ∷ []) (group_words (roll-Group (record { elements = element.Triple p ∷ [] })) ++ [])
      ∙ ap (λ (v : List Word). column_words (once (pattern_names p)) ++ (fixed (codes "WHERE") ∷ v)) (append-nil (group_words (roll-Group (record { elements = element.Triple p ∷ [] }))) ∙ group_is))

  part_is_named : (t : PatternTerm) → IsPart t → AreNames (part_names t)
  part_is_named (Variable name) h = (h, tt)
  part_is_named (Constant t) h = tt

  all_named : IsTriple p → AreNames (once (pattern_names p))
  all_named h =
      once_names (pattern_names p) (names_both (part_names p.subject) (part_names p.predicate ++ part_names p.object) (part_is_named p.subject h.subject)
      (names_both (part_names p.predicate) (part_names p.object) (part_is_named p.predicate (verb_part p.predicate h.predicate)) (part_is_named p.object h.object)))

  fine : IsTriple p → AreFine words
  unfolding words
  fine h = (
    inr (inl refl),
    fine_both (column_words (once (pattern_names p))) (fixed (codes "WHERE") ∷ fixed (codes "{") ∷ (pattern_words p ++ fixed (codes "}") ∷ [])) (fine_columns (once (pattern_names p)) (all_named h))
        (inr (inl refl), (inl refl, fine_both (pattern_words p) (fixed (codes "}") ∷ []) (fine_triple p h) (inl refl, tt))),
  )

  tokens : List Token
  tokens = token.Plain k.Select ∷ (said (column_words (once (pattern_names p))) ++ (token.Plain k.Where ∷ token.Plain k.LeftBrace ∷ (said (pattern_words p) ++ token.Plain k.RightBrace ∷ [])))

  tokens_are : said words ≡ tokens
  unfolding words tokens
  tokens_are =
      ap (λ (v : List Token). token.Plain k.Select ∷ v)
      (said_both (column_words (once (pattern_names p))) (fixed (codes "WHERE") ∷ fixed (codes "{") ∷ (pattern_words p ++ fixed (codes "}") ∷ []))
      ∙ ap (λ (v : List Token). said (column_words (once (pattern_names p))) ++ (token.Plain k.Where ∷ token.Plain k.LeftBrace ∷ v)) (said_both (pattern_words p) (fixed (codes "}") ∷ [])))

  passes : Passes true 64 tokens
  unfolding tokens
  passes =
      let group = passes_less true 1 64 (token.Plain k.LeftBrace ∷ (said (pattern_words p) ++ token.Plain k.RightBrace ∷ [])) (omega arith) (passes_braces true 0 (said (pattern_words p)) (passes_calm true 0 (said (pattern_words p)) (calm_triple p))) in
      let behind = passes_behind true 64 (token.Plain k.Where) (token.Plain k.LeftBrace ∷ (said (pattern_words p) ++ token.Plain k.RightBrace ∷ [])) refl group in
      passes_behind true 64 (token.Plain k.Select) (said (column_words (once (pattern_names p))) ++ (token.Plain k.Where ∷ token.Plain k.LeftBrace ∷ (said (pattern_words p) ++ token.Plain k.RightBrace ∷ []))) refl
      (passes_both true 64 (said (column_words (once (pattern_names p)))) (token.Plain k.Where ∷ token.Plain k.LeftBrace ∷ (said (pattern_words p) ++ token.Plain k.RightBrace ∷ [])) (passes_calm true 64 (said (column_words (once (pattern_names p)))) (calm_columns (once (pattern_names p)))) behind)

  -- ---- spelled

  inside_said : (inner : Rule Group) → IsTriple p → (grammar.inside [] inner).spells (said (pattern_words p)) (roll-Group (record { elements = element.Triple p ∷ [] }))
  unfolding grammar.inside grammar.first_triples grammar.items
  inside_said inner h =
      let run = triples_said [] p [] h tt in
      let said_so = subst (λ (v : List Token). (grammar.triples []).spells v (p ∷ [])) (sym (run_is [] p []) ∙ append-nil (said (pattern_words p))) run in
      ((element.Triple p ∷ [], []), (said (pattern_words p), [], sym (append-nil (said (pattern_words p))), (Some (p ∷ []), inl said_so, refl), refl), refl)

  group_said : IsTriple p → (grammar.whole_group []).spells (token.Plain k.LeftBrace ∷ (said (pattern_words p) ++ token.Plain k.RightBrace ∷ [])) (roll-Group (record { elements = element.Triple p ∷ [] }))
  unfolding grammar.whole_group grammar.group grammar.braced
  group_said h =
      nested_said (grammar.braced []) 63 _ _ (braces_said (grammar.inside [] (nested (grammar.braced []) 63)) (said (pattern_words p)) (roll-Group (record { elements = element.Triple p ∷ [] })) (inside_said (nested (grammar.braced []) 63) h))

  main_of : Main
  main_of = record { head = head.Select false (named (once (pattern_names p))); group = roll-Group (record { elements = element.Triple p ∷ [] }); modifiers = record { order = []; limits = grammar.limits_of None None } }

  head_said : grammar.query_head.spells (token.Plain k.Select ∷ said (column_words (once (pattern_names p)))) (head.Select false (named (once (pattern_names p))))
  unfolding grammar.query_head grammar.select_head grammar.distinct
  head_said = inl ((None, named (once (pattern_names p))), ((tt, (None, named (once (pattern_names p)))), (token.Plain k.Select ∷ [], said (column_words (once (pattern_names p))), refl, mark_said k.Select, ([], said (column_words (once (pattern_names p))), refl, refl, selected_said (once (pattern_names p)))), refl), refl)

  where_said : IsTriple p → (grammar.where_group []).spells (token.Plain k.Where ∷ token.Plain k.LeftBrace ∷ (said (pattern_words p) ++ token.Plain k.RightBrace ∷ [])) (roll-Group (record { elements = element.Triple p ∷ [] }))
  unfolding grammar.where_group
  where_said h = ((Some tt, roll-Group (record { elements = element.Triple p ∷ [] })), (token.Plain k.Where ∷ [], token.Plain k.LeftBrace ∷ (said (pattern_words p) ++ token.Plain k.RightBrace ∷ []), refl, inl (mark_said k.Where), group_said h), refl)

  nothing_behind : (grammar.modifiers []).spells [] (record { order = []; limits = grammar.limits_of None None })
  unfolding grammar.modifiers grammar.order
  nothing_behind = (([], None), ([], [], refl, (None, refl, refl), refl), refl)

  main_said : IsTriple p → (grammar.main []).spells tokens main_of
  unfolding grammar.main tokens main_of
  main_said h =
      let group = token.Plain k.Where ∷ token.Plain k.LeftBrace ∷ (said (pattern_words p) ++ token.Plain k.RightBrace ∷ []) in (
        (head.Select false (named (once (pattern_names p))), (roll-Group (record { elements = element.Triple p ∷ [] }), record { order = []; limits = grammar.limits_of None None })),
        (token.Plain k.Select ∷ said (column_words (once (pattern_names p))), group, refl, head_said, (group, [], sym (append-nil group), where_said h, nothing_behind)),
        refl,
      )

  names_in : group_mentions (roll-Group (record { elements = element.Triple p ∷ [] })) ≡ pattern_names p
  names_in =
      fold-roll-Group (List (List ℕ)) (List (List ℕ)) element_names group_names (record { elements = element.Triple p ∷ [] })
      ∙ ap (λ (v : List (List ℕ)). v ++ []) (ap mentions (sym (element.rolls-Triple p)) ∙ fold-roll-Element (List (List ℕ)) (List (List ℕ)) element_names group_names (Element-F.Triple p))
      ∙ append-nil (pattern_names p)

  no_columns : once (pattern_names p) ≡ [] → once (scope (roll-Group (record { elements = element.Triple p ∷ [] })) ++ []) ≡ []
  no_columns e = ap (λ (v : List (List ℕ)). once (once v ++ [])) names_in ∙ ap (λ (v : List (List ℕ)). once (v ++ [])) e

  query_is : pattern_query p ≡ grammar.query_of main_of None
  unfolding main_of
  query_is =
      ap (λ (v : List (List ℕ)). record { form = form.Select false v; group = roll-Group (record { elements = element.Triple p ∷ [] }); order = []; offset = 0; limit = None; inline = None })
      (sym (columns_read (once (pattern_names p)) (roll-Group (record { elements = element.Triple p ∷ [] })) None (once_once (pattern_names p)) no_columns))

  spelled : IsTriple p → grammar.query.spells tokens (pattern_query p)
  unfolding grammar.query grammar.prologue grammar.body
  spelled h = (([], pattern_query p), ([], tokens, refl, refl, ((main_of, None), (tokens, [], sym (append-nil tokens), main_said h, refl), query_is)), refl)

pub pattern_query_is_accepted : PatternQueryIsAccepted
pattern_query_is_accepted p h =
    subst (λ (v : List Word). Accepted (joined v) (pattern_query p)) (sym (words_are p))
    (accepted_so (words p) (pattern_query p) (fine p h) (subst (Passes true 64) (sym (tokens_are p)) (passes p)) (subst (λ (v : List Token). grammar.query.spells v (pattern_query p)) (sym (tokens_are p)) (spelled p h)))
