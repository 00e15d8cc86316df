-- What is written reads back.
use Rattle.std.proofs.Common.{◌≡◌, ◌∙◌, true, ◌&&◌, List, [], ◌∷◌, ℕ, refl, ap}
use Rattle.std.specs.List.{list_all}
use Rattle.std.specs.Str.{chars}
use Rattle.std.proofs.lemmas.List.Sorted.{IsPermutation-refl}
use Rattle.fx_terms.specs.Names.{is_name}
use Rattle.fx_algebra.specs.Solutions.{Bindings, rises}
use Rattle.fx_algebra.specs.declared.answers.Answer.{Answer}
use Rattle.fx_algebra.specs.declared.answers.Answer.TheVariants.{Table, Truth}
use Rattle.fx_results.specs.Documents.{answer_data, document}
use Rattle.fx_results.specs.Meanings.{is_answer, is_row, ReadsBack, DenotesItself, SameAnswer}
use Rattle.fx_results.specs.Reading.{and_then, answer_in, are_distinct}
use Rattle.fx_results.proofs.DataLemmas.{answer_reads}
use Rattle.fx_results.proofs.ReadingLemmas.{both, data_is}
use Rattle.fx_results.proofs.TextLemmas.{rows_rise, document_reads}

all_rise : (columns : List (List ℕ)) (rows : List Bindings) → list_all (is_row columns) rows ≡ true → list_all rises rows ≡ true
all_rise columns [] h = refl
all_rise columns (r ∷ rs) h = let t = both (is_row columns r) (list_all (is_row columns) rs) h in rw ((both (rises r) _ t.0).0, all_rise columns rs t.1) refl

answer_rises : (answer : Answer) → is_answer answer ≡ true → rows_rise answer ≡ true
answer_rises (Table columns rows) h = all_rise columns rows (both (list_all (λ name. is_name (chars name)) columns && are_distinct columns) (list_all (is_row columns) rows) h).1
answer_rises (Truth truth) h = refl

pub reads_back : ReadsBack
reads_back answer h utf8 = ap (λ r. and_then r answer_in) (data_is (document answer) (answer_data answer) utf8 (document_reads answer (answer_rises answer h))) ∙ answer_reads answer h

same_answer : (answer : Answer) → SameAnswer answer answer
same_answer (Table columns rows) = (IsPermutation-refl columns, IsPermutation-refl rows)
same_answer (Truth truth) = refl

pub denotes_itself : DenotesItself
denotes_itself answer h utf8 = record { told = answer; read = reads_back answer h utf8; same = same_answer answer }
