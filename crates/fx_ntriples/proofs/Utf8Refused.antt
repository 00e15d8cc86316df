-- Bytes are refused as no UTF-8 exactly where they stop being it.
use Rattle.std.proofs.Common.{◌≡◌, ℕ, Bool, true, false, cond, List, refl, ap, subst, Result, Ok, Err}
use Rattle.std.specs.List.{slice_split}
use Rattle.std.specs.Str.{is_utf8}
use Rattle.std.proofs.lemmas.Str.{is_utf8-from_IsUtf8}
use Rattle.fx_terms.specs.Utf8.{StopsUtf8, utf8_fault}
use Rattle.fx_terms.proofs.Utf8Stops.{stops_there, same_place}
use Rattle.fx_ntriples.specs.declared.faults.Fault.TheVariants as fault_is
use Rattle.fx_ntriples.specs.declared.faults.NtError.{NtError}
use Rattle.fx_ntriples.specs.declared.faults.NtError.TheVariants as error
use Rattle.fx_ntriples.specs.declared.faults.NtError.TheVariants.{BadUtf8}
use Rattle.fx_ntriples.specs.Answers.{Answers}
use Rattle.fx_ntriples.specs.Reading.{is_line_end, Lines, all, fault, read_lines, answered, read_document}
use Rattle.fx_ntriples.proofs.Answered.{not_utf8}

pub only_there : (bytes : List ℕ) (n : ℕ) → StopsUtf8 bytes n → read_document bytes ≡ Err (BadUtf8 n)
only_there bytes n h = rw (not_utf8 bytes h.faulty) (ap (λ k. Err (BadUtf8 k)) (same_place bytes (utf8_fault bytes) n (stops_there bytes h.faulty) h))

line_answer : (bytes : List ℕ) (ls : Lines) (n : ℕ) → answered bytes ls ≡ Err (BadUtf8 n) → ⊥
line_answer bytes (all ts) n h = cc
line_answer bytes (fault fault_is.Bad at place) n h = cc
line_answer bytes (fault fault_is.Blank at place) n h = cc
line_answer bytes (fault fault_is.Relative at place) n h = cc

stops_test : (bytes : List ℕ) (n : ℕ) (v : Bool) → is_utf8 bytes ≡ v → cond v (answered bytes (read_lines 0 (slice_split is_line_end bytes))) (Err (BadUtf8 (utf8_fault bytes))) ≡ Err (BadUtf8 n) → StopsUtf8 bytes n
stops_test bytes n true e h = absurd (line_answer bytes (read_lines 0 (slice_split is_line_end bytes)) n h)
stops_test bytes n false e h =
    let same : utf8_fault bytes ≡ n = cc in
    subst (StopsUtf8 bytes) same (stops_there bytes (λ u. let yes = is_utf8-from_IsUtf8 bytes u in cc))

pub stops_utf8 : (bytes : List ℕ) (n : ℕ) → read_document bytes ≡ Err (BadUtf8 n) → StopsUtf8 bytes n
stops_utf8 bytes n h = stops_test bytes n (is_utf8 bytes) refl h

pub told_utf8 : {X : Type 0} (r : Result X NtError) (wanted : Result X NtError) (n : ℕ) → Answers r wanted → r ≡ Err (BadUtf8 n) → wanted ≡ Err (BadUtf8 n)
told_utf8 (Ok x) wanted n a h = absurd (cc)
told_utf8 (Err error.Memory) wanted n a h = absurd (cc)
told_utf8 (Err (BadUtf8 p)) wanted n a h = cc
told_utf8 (Err (error.Bad m d)) wanted n a h = absurd (cc)
told_utf8 (Err (error.Blank m d)) wanted n a h = absurd (cc)
told_utf8 (Err (error.Relative m d)) wanted n a h = absurd (cc)
