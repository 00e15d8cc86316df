-- The worked examples, by reading them.
use Rattle.std.proofs.Common.{◌≡◌, ℕ, true, List, [], ◌∷◌, Ok, Err, refl}
use Rattle.std.specs.Str.{chars, is_utf8}
use lib.Utf8.{encode}
use Rattle.std.specs.List.{AllByRecursion}
use Rattle.fx_rules.specs.Rule.{read_from, to_end, read_whole}
use Rattle.fx_terms.specs.declared.triples.Triple.{Triple}
use Rattle.fx_tokens.specs.Decoding.{escape, unescaped, prefix, behind_colon, local}
use Rattle.fx_tokens.specs.Scan as scan
use Rattle.fx_turtle.specs.Examples.{documents, DocumentsAreRead, refusals, RefusalsStand}
use Rattle.fx_turtle.specs.Grammar.{left_out, iri_name, datatype, text_suffix, literal, object, subject, verb, property, more_properties, properties, triples, declaration, statement, statements, document}
use Rattle.fx_turtle.specs.Documents.{IsTurtle, IsRefused}
use Rattle.fx_turtle.specs.declared.refusals.TurtleKind.{TurtleKind}
use Rattle.fx_turtle.proofs.Deciding.{lexed, lex, turn, turned, behind_comment, fault_by, quote_fault, of_tokens, decides}

-- what is left to compute
abbrev DocumentsCompute : List (List ℕ × List Triple) → Type 0
DocumentsCompute [] = Unit {0}
DocumentsCompute (d ∷ ds) = (is_utf8 d.0 ≡ true) × (of_tokens d.0 (lexed d.0) ≡ Ok d.1) × DocumentsCompute ds

abbrev RefusalsCompute : List (List ℕ × (TurtleKind × ℕ)) → Type 0
RefusalsCompute [] = Unit {0}
RefusalsCompute (r ∷ rs) = (is_utf8 r.0 ≡ true) × (of_tokens r.0 (lexed r.0) ≡ Err r.1) × RefusalsCompute rs

all_documents : (ds : List (List ℕ × List Triple)) → DocumentsCompute ds → AllByRecursion (λ d. IsTurtle d.0 d.1) ds
all_documents [] h = tt
all_documents (d ∷ ds) h = (decides d.0 (Ok d.1) h.0 h.1, all_documents ds h.2)

all_refusals : (rs : List (List ℕ × (TurtleKind × ℕ))) → RefusalsCompute rs → AllByRecursion (λ r. IsRefused r.0 r.1.0 r.1.1) rs
all_refusals [] h = tt
all_refusals (r ∷ rs) h = (decides r.0 (Err r.1) h.0 h.1, all_refusals rs h.2)

documents_compute : DocumentsCompute documents
unfolding chars is_utf8 encode read_from to_end read_whole escape unescaped prefix behind_colon local scan.one scan.skip scan.digit scan.hexes scan.short_code scan.long_code scan.code scan.iri_part scan.iri scan.name_part scan.local_escape scan.local_start scan.local_char scan.local_part scan.local scan.colon_local scan.long_prefix scan.prefix_name scan.variable scan.blank scan.tag_part scan.tag scan.signed scan.exponent scan.pointed scan.dot_exponent scan.powered scan.unsigned scan.decimal scan.escape scan.text_part scan.short scan.long_part scan.quoted_once scan.quoted scan.three scan.long scan.string scan.word scan.pair scan.mark scan.early scan.longest left_out iri_name datatype text_suffix literal object subject verb property more_properties properties triples declaration statement statements document lexed lex turn turned behind_comment fault_by quote_fault
documents_compute = (refl, refl, (refl, refl, (refl, refl, (refl, refl, (refl, refl, (refl, refl, (refl, refl, tt)))))))

refusals_compute : RefusalsCompute refusals
unfolding chars is_utf8 encode read_from to_end read_whole escape unescaped prefix behind_colon local scan.one scan.skip scan.digit scan.hexes scan.short_code scan.long_code scan.code scan.iri_part scan.iri scan.name_part scan.local_escape scan.local_start scan.local_char scan.local_part scan.local scan.colon_local scan.long_prefix scan.prefix_name scan.variable scan.blank scan.tag_part scan.tag scan.signed scan.exponent scan.pointed scan.dot_exponent scan.powered scan.unsigned scan.decimal scan.escape scan.text_part scan.short scan.long_part scan.quoted_once scan.quoted scan.three scan.long scan.string scan.word scan.pair scan.mark scan.early scan.longest left_out iri_name datatype text_suffix literal object subject verb property more_properties properties triples declaration statement statements document lexed lex turn turned behind_comment fault_by quote_fault
refusals_compute = (refl, refl, (refl, refl, (refl, refl, (refl, refl, (refl, refl, (refl, refl, (refl, refl, (refl, refl, (refl, refl, (refl, refl, (refl, refl, (refl, refl, tt))))))))))))

pub documents_are_read_hold : DocumentsAreRead
documents_are_read_hold = all_documents documents documents_compute

pub refusals_stand_hold : RefusalsStand
refusals_stand_hold = all_refusals refusals refusals_compute
