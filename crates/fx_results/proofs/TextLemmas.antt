-- The document of an answer is read as its data.
use Rattle.std.proofs.Common.{◌≡◌, ◌∙◌, ℕ, ◌≤◌, Bool, true, false, ◌==◌, List, [], ◌∷◌, ◌++◌, map, length, Option, Some, bytes_eq, cond, option_map, option_and_then, refl, sym, ap, arith, append_assoc, append-nil}
use Rattle.std.specs.Ordering.{is_lt}
use Rattle.std.specs.List.{list_all}
use Rattle.std.specs.FinMap.Entries.{below_all}
use Rattle.json.specs.Json as json
use Rattle.json.specs.Lex.{tokens}
use Rattle.json.specs.Tree as tree
use Rattle.json.proofs.Printed.Tokens.{tokens-print}
use Rattle.json.proofs.Printed.Trees.{value-json_tokens, ArePrintable-json_tokens}
use Rattle.serde_json.specs.Data.{Data, Items, string, object, put}
use Rattle.serde_json.specs.Read.{read, of_json, of_items, of_members, max_depth}
use Rattle.serde_json.specs.View.{items_of}
use Rattle.serde_json.specs.Written.{outline, items_outline, members_outline, compact_text}
use Rattle.json.specs.Token.{Token}
use Rattle.serde_json.proofs.Texts.{print-outline}
use Rattle.fx_terms.specs.Datatypes.{xsd_string}
use Rattle.fx_terms.specs.Texts.{text_cmp}
use Rattle.fx_terms.specs.declared.terms.Term.{Term}
use Rattle.fx_terms.specs.declared.terms.Term.TheVariants.{Iri, Literal}
use Rattle.fx_algebra.specs.Solutions.{Bindings, rises}
use Rattle.fx_algebra.specs.declared.answers.Answer.{Answer}
use Rattle.fx_algebra.specs.declared.answers.Answer.TheVariants.{Table, Truth}
use Rattle.fx_results.specs.Documents.{answer_data, term_data, untagged_data, tagged_data, plain_data, typed_data, row_members, row_data}
use Rattle.fx_results.proofs.ReadingLemmas.{both}
use Rattle.fx_results.proofs.Rows.{all_below, put-row_members, is_gt-text_cmp}

-- data without numbers, with members in order, that nest no deeper than a bound
record Plain (d : Data) (bound : ℕ) : Type 0 where
  numbers : tree.HasNumbers (outline d)
  back : of_json (outline d) ≡ Some d
  shallow : tree.depth (outline d) ≤ bound

record PlainItems (ds : Items) (bound : ℕ) : Type 0 where
  numbers : tree.ItemsHaveNumbers (items_outline ds)
  back : of_items (items_outline ds) ≡ Some ds
  shallow : tree.items_depth (items_outline ds) ≤ bound

-- ---- terms

plain-choice : (b : Bool) (x y : Data) → Plain x 1 → Plain y 1 → Plain (cond b x y) 1
plain-choice true x y h g = h
plain-choice false x y h g = g

untagged_plain : (form datatype : List ℕ) → Plain (untagged_data form datatype) 1
untagged_plain form datatype = plain-choice (bytes_eq datatype xsd_string) (plain_data form) (typed_data form datatype)
    (record { numbers = (tt, (tt, tt)); back = refl; shallow = omega arith })
    (record { numbers = (tt, (tt, (tt, tt))); back = refl; shallow = omega arith })

term_plain : (t : Term) → Plain (term_data t) 1
term_plain (Iri text) = record { numbers = (tt, (tt, tt)); back = refl; shallow = omega arith }
term_plain (Literal l) = plain-choice (length l.tag == 0) (untagged_data l.form l.datatype) (tagged_data l.form l.tag) (untagged_plain l.form l.datatype) (record { numbers = (tt, (tt, (tt, tt))); back = refl; shallow = omega arith })

-- ---- rows

row_numbers : (row : Bindings) → tree.MembersHaveNumbers (members_outline (row_members row))
row_numbers [] = tt
row_numbers (e ∷ es) = ((term_plain e.1).numbers, row_numbers es)

row_shallow : (row : Bindings) → tree.members_depth (members_outline (row_members row)) ≤ 1
row_shallow [] = omega arith
row_shallow (e ∷ es) = omega (arith, (term_plain e.1).shallow, row_shallow es)

-- a name of a rising row lies above those before it
below_middle : (name : List ℕ) (done : Bindings) (e : List ℕ × Term) (rest : Bindings) → below_all text_cmp name (done ++ e ∷ rest) ≡ true → is_lt (text_cmp name e.0) ≡ true
below_middle name [] e rest h = (both (is_lt (text_cmp name e.0)) (below_all text_cmp name rest) h).0
below_middle name (f ∷ fs) e rest h = below_middle name fs e rest (both (is_lt (text_cmp name f.0)) (below_all text_cmp name (fs ++ e ∷ rest)) h).1

all_below-rises : (done : Bindings) (e : List ℕ × Term) (rest : Bindings) → rises (done ++ e ∷ rest) ≡ true → all_below e.0 done ≡ true
all_below-rises [] e rest h = refl
all_below-rises (f ∷ fs) e rest h =
    let t = both (below_all text_cmp f.0 (fs ++ e ∷ rest)) (rises (fs ++ e ∷ rest)) h in
    rw (is_gt-text_cmp f.0 e.0 (below_middle f.0 fs e rest t.0), all_below-rises fs e rest t.1) refl

row_back : (done row : Bindings) → rises (done ++ row) ≡ true → of_members (members_outline (row_members row)) (row_members done) ≡ Some (row_members (done ++ row))
row_back done [] h = ap (λ r. Some (row_members r)) (sym (append-nil done))
row_back done (e ∷ es) h =
    let regroup = append_assoc done (e ∷ []) es in
    ap (option_and_then (λ d. of_members (members_outline (row_members es)) (put e.0 d (row_members done)))) (term_plain e.1).back
    ∙ ap (of_members (members_outline (row_members es))) (put-row_members e done (all_below-rises done e es h))
    ∙ row_back (done ++ e ∷ []) es (ap rises regroup ∙ h)
    ∙ ap (λ r. Some (row_members r)) regroup

row_plain : (row : Bindings) → rises row ≡ true → Plain (row_data row) 2
row_plain row h = record {
  numbers = row_numbers row;
  back = ap (option_map object) (row_back [] row h);
  shallow = omega (arith, row_shallow row);
}

rows_plain : (rows : List Bindings) → list_all rises rows ≡ true → PlainItems (items_of (map row_data rows)) 2
rows_plain [] h = record { numbers = tt; back = refl; shallow = omega arith }
rows_plain (r ∷ rs) h =
    let t = both (rises r) (list_all rises rs) h in
    let here = row_plain r t.0 in
    let later = rows_plain rs t.1 in
    record {
      numbers = (here.numbers, later.numbers);
      back = rw (here.back, later.back) refl;
      shallow = omega (arith, here.shallow, later.shallow);
    }

-- ---- columns

names_plain : (names : List (List ℕ)) → PlainItems (items_of (map string names)) 0
names_plain [] = record { numbers = tt; back = refl; shallow = omega arith }
names_plain (n ∷ ns) =
    let later = names_plain ns in
    record {
      numbers = (tt, later.numbers);
      back = rw later.back refl;
      shallow = omega (arith, later.shallow);
    }

-- ---- answers

-- each row has its names in order
abbrev pub rows_rise : Answer → Bool
rows_rise (Table columns rows) = list_all rises rows
rows_rise (Truth truth) = true

answer_plain : (answer : Answer) → rows_rise answer ≡ true → Plain (answer_data answer) 5
answer_plain (Truth truth) h = record { numbers = (tt, (tt, tt)); back = refl; shallow = omega arith }
answer_plain (Table columns rows) h =
    let names = names_plain columns in
    let bindings = rows_plain rows h in
    record {
      numbers = ((names.numbers, tt), ((bindings.numbers, tt), tt));
      back = rw (names.back, bindings.back) refl;
      shallow = omega (arith, names.shallow, bindings.shallow);
    }

-- what is read, where nothing follows
abbrev whole : Option (json.Json × List Token) → Option Data
whole o = option_and_then of_json (option_and_then (λ p. json.if_last p.0 p.1) o)

plain_reads : (d : Data) → Plain d 5 → read (compact_text d) ≡ Some d
plain_reads d plain =
    let j = outline d in
    let same : tokens (compact_text d) ≡ tree.json_tokens j = ap tokens (sym (print-outline d)) ∙ tokens-print (tree.json_tokens j) (ArePrintable-json_tokens j plain.numbers) in
    ap (λ ts. whole (json.value max_depth ts)) (same ∙ sym (append-nil (tree.json_tokens j)))
    ∙ ap whole (value-json_tokens j max_depth [] (omega (arith, plain.shallow)))
    ∙ plain.back

pub document_reads : (answer : Answer) → rows_rise answer ≡ true → read (compact_text (answer_data answer)) ≡ Some (answer_data answer)
document_reads answer h = plain_reads (answer_data answer) (answer_plain answer h)
