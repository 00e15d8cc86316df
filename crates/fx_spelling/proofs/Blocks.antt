-- A printed block of VALUES is spelled by its tokens.
use Rattle.std.proofs.Common.{◌≡◌, ℕ, ◌≤◌, Bool, true, false, not, cond, List, [], ◌∷◌, ◌++◌, length, map, Option, Some, None, Ok, Err, refl, sym, ap, ◌∙◌, subst, arith, inl, inr}
use Rattle.std.specs.Prelude.{codes, ◌==◌}
use Rattle.std.specs.List.{flat_map, list_all}
use Rattle.std.proofs.lemmas.Bool.{and_parts, not-true}
use Rattle.fx_terms.specs.declared.terms.Term.{Term}
use Rattle.fx_terms.specs.declared.terms.Term.TheVariants.{Iri, Literal}
use Rattle.fx_algebra.specs.Scopes.{is_among}
use Rattle.fx_algebra.specs.Printed.{fixed, variable, in_brackets, value_word, row_words, block}
use Rattle.fx_algebra.specs.declared.queries.Inline.{Inline}
use Rattle.fx_grammar.specs.Rule.{many}
use Rattle.fx_grammar.specs.Grammar as grammar
use Rattle.fx_grammar.specs.Grammar.{Prefixes}
use Rattle.fx_grammar.specs.declared.refusals.SyntaxKind.TheVariants.{RepeatedName, ValuesWidth}
use Rattle.fx_algebra.specs.Measures.{is_some}
use Rattle.fx_spelling.specs.Printable.{AreFine, IsFine, said, word_tokens, are_new, are_wide, is_block, block_nest}
use Rattle.fx_grammar.specs.declared.kinds.Kind.TheVariants as k
use Rattle.fx_grammar.specs.declared.kinds.Token.{Token}
use Rattle.fx_grammar.specs.declared.kinds.Token.TheVariants as token
use Rattle.fx_spelling.proofs.Saying.{said_both}
use Rattle.fx_spelling.proofs.Spelling.{mark_said, after_said, parens_said, braces_said}
use Rattle.fx_spelling.proofs.Terms.{iri_said, literal_said, datatype_in_said, calm_term}
use Rattle.fx_spelling.proofs.Placing.{Passes, passes_none, passes_both, passes_less, passes_calm, passes_parens, passes_braces, is_calm, calm_both}
use Rattle.fx_spelling.proofs.Columns.{names_said, calm_names}
use Rattle.fx_spelling.proofs.Expressions.{fine_split, said_brackets, fine_brackets}

columns_from : (names columns : List (List ℕ)) → are_new names columns ≡ true → (grammar.columns names).spells (flat_map (λ n. token.Variable n ∷ []) columns) columns
unfolding grammar.columns grammar.new_column
columns_from names [] h = refl
columns_from names (c ∷ columns) h =
    let t = and_parts (not (is_among names c)) (are_new (names ++ c ∷ []) columns) h in
    (token.Variable c ∷ [], flat_map (λ n. token.Variable n ∷ []) columns, refl, (token.Variable c, refl, refl, ap (λ (b : Bool). cond b (Err RepeatedName) (Ok c)) (not-true (is_among names c) t.0)), columns_from (names ++ c ∷ []) columns t.1)

columns_said : (columns : List (List ℕ)) → are_new [] columns ≡ true → (grammar.columns []).spells (said (map (λ n. variable n) columns)) columns
columns_said columns h = subst (λ (v : List Token). (grammar.columns []).spells v columns) (sym (names_said columns)) (columns_from [] columns h)

calm_value : (v : Option Term) → list_all is_calm (word_tokens (value_word v)) ≡ true
calm_value None = refl
calm_value (Some t) = calm_term t

calm_values : (row : List (Option Term)) → list_all is_calm (said (map value_word row)) ≡ true
calm_values [] = refl
calm_values (v ∷ row) = calm_both (word_tokens (value_word v)) (said (map value_word row)) (calm_value v) (calm_values row)

pub row_passes : (serves : Bool) (row : List (Option Term)) → Passes serves 1 (said (row_words row))
row_passes serves row = subst (Passes serves 1) (sym (said_brackets (map value_word row))) (passes_parens serves 0 (said (map value_word row)) (passes_calm serves 0 (said (map value_word row)) (calm_values row)))

rows_pass : (serves : Bool) (rows : List (List (Option Term))) → Passes serves 1 (said (flat_map row_words rows))
rows_pass serves [] = passes_none serves 1
rows_pass serves (row ∷ rows) = subst (Passes serves 1) (sym (said_both (row_words row) (flat_map row_words rows))) (passes_both serves 1 (said (row_words row)) (said (flat_map row_words rows)) (row_passes serves row) (rows_pass serves rows))

abbrev columns_tokens : Inline → List Token
columns_tokens inline = token.Plain k.LeftParen ∷ (said (map (λ n. variable n) inline.columns) ++ token.Plain k.RightParen ∷ [])

abbrev rows_tokens : Inline → List Token
rows_tokens inline = token.Plain k.LeftBrace ∷ (said (flat_map row_words inline.rows) ++ token.Plain k.RightBrace ∷ [])

block_tokens : (inline : Inline) → said (block inline) ≡ columns_tokens inline ++ rows_tokens inline
unfolding block
block_tokens inline =
    said_both (in_brackets (map (λ n. variable n) inline.columns)) (fixed (codes "{") ∷ (flat_map row_words inline.rows ++ fixed (codes "}") ∷ []))
    ∙ ap (λ (v : List Token). v ++ said (fixed (codes "{") ∷ (flat_map row_words inline.rows ++ fixed (codes "}") ∷ []))) (said_brackets (map (λ n. variable n) inline.columns))
    ∙ ap (λ (v : List Token). columns_tokens inline ++ token.Plain k.LeftBrace ∷ v) (said_both (flat_map row_words inline.rows) (fixed (codes "}") ∷ []))

rows_in_braces : (serves : Bool) (rows : List (List (Option Term))) → Passes serves (cond (is_some rows) 2 1) (token.Plain k.LeftBrace ∷ (said (flat_map row_words rows) ++ token.Plain k.RightBrace ∷ []))
rows_in_braces serves [] = passes_braces serves 0 [] (passes_none serves 0)
rows_in_braces serves (row ∷ rows) = passes_braces serves 1 (said (flat_map row_words (row ∷ rows))) (rows_pass serves (row ∷ rows))

at_least_one : (inline : Inline) → 1 ≤ block_nest inline
at_least_one inline = go (is_some inline.rows)
  where
    go : (b : Bool) → 1 ≤ cond b 2 1
    go true = omega arith
    go false = omega arith

pub block_passes : (serves : Bool) (inline : Inline) → Passes serves (block_nest inline) (said (block inline))
block_passes serves inline =
    subst (Passes serves (block_nest inline)) (sym (block_tokens inline))
    (passes_both serves (block_nest inline) (columns_tokens inline) (rows_tokens inline)
    (passes_less serves 1 (block_nest inline) (columns_tokens inline) (at_least_one inline) (passes_parens serves 0 (said (map (λ n. variable n) inline.columns)) (passes_calm serves 0 (said (map (λ n. variable n) inline.columns)) (calm_names inline.columns))))
    (rows_in_braces serves inline.rows))

module _ (ps : Prefixes) where
  value_said : (v : Option Term) → IsFine (value_word v) → (grammar.value ps).spells (word_tokens (value_word v)) v
  unfolding grammar.value
  value_said None h = inr (inl (tt, mark_said k.Undef, refl))
  value_said (Some (Iri a)) h = inl (a, iri_said ps a, refl)
  value_said (Some (Literal l)) h = inr (inr (Literal l, literal_said (grammar.datatype_in false ps) (datatype_in_said ps false) l h, refl))

  values_said : (row : List (Option Term)) → AreFine (map value_word row) → (many (grammar.value ps)).spells (said (map value_word row)) row
  values_said [] h = refl
  values_said (v ∷ row) h = (word_tokens (value_word v), said (map value_word row), refl, value_said v h.0, values_said row h.1)

  row_said : (width : ℕ) (row : List (Option Term)) → (length row == width) ≡ true → AreFine (row_words row) → (grammar.row ps width).spells (said (row_words row)) row
  unfolding grammar.row grammar.row_end
  row_said width row h f =
      subst (λ (v : List Token). (grammar.row ps width).spells v row) (sym (said_brackets (map value_word row))) (
        (row, tt),
        (
          token.Plain k.LeftParen ∷ said (map value_word row),
          token.Plain k.RightParen ∷ [],
          refl,
          after_said k.LeftParen (many (grammar.value ps)) (said (map value_word row)) row (values_said row (fine_brackets (map value_word row) f)),
          (token.Plain k.RightParen, refl, refl, ap (λ (b : Bool). cond b (Ok tt) (Err ValuesWidth)) h),
        ),
        refl,
      )

  rows_said : (width : ℕ) (rows : List (List (Option Term))) → are_wide width rows ≡ true → AreFine (flat_map row_words rows) → (many (grammar.row ps width)).spells (said (flat_map row_words rows)) rows
  rows_said width [] h f = refl
  rows_said width (row ∷ rows) h f =
      let t = and_parts (length row == width) (are_wide width rows) h in
      let u = fine_split (row_words row) (flat_map row_words rows) f in
      (said (row_words row), said (flat_map row_words rows), said_both (row_words row) (flat_map row_words rows), row_said width row t.0 u.0, rows_said width rows t.1 u.1)

  pub block_said : (inline : Inline) → is_block inline ≡ true → AreFine (block inline) → (grammar.block ps).spells (said (block inline)) inline
  unfolding grammar.block grammar.wide_block grammar.rows block
  block_said inline h f =
      let t = and_parts (are_new [] inline.columns) (are_wide (length inline.columns) inline.rows) h in
      let u = fine_split (in_brackets (map (λ n. variable n) inline.columns)) (fixed (codes "{") ∷ (flat_map row_words inline.rows ++ fixed (codes "}") ∷ [])) f in
      let w = fine_split (flat_map row_words inline.rows) (fixed (codes "}") ∷ []) u.1.1 in
      subst (λ (v : List Token). (grammar.block ps).spells v inline) (sym (block_tokens inline))
      (inr (
        (inline.columns, inline.rows),
        (
          columns_tokens inline,
          rows_tokens inline,
          refl,
          parens_said (grammar.columns []) (said (map (λ n. variable n) inline.columns)) inline.columns (columns_said inline.columns t.0),
          braces_said (many (grammar.row ps (length inline.columns))) (said (flat_map row_words inline.rows)) inline.rows (rows_said (length inline.columns) inline.rows t.1 w.0),
        ),
        refl,
      ))
