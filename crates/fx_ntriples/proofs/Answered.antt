-- From the one answer to what it says.
use Rattle.std.proofs.Common.{◌≡◌, Bool, true, false, ℕ, List, Result, Ok, Err, refl}
use Rattle.std.specs.Prelude.{MatchResult, IfOk}
use Rattle.std.specs.Str.{IsUtf8, is_utf8}
use Rattle.std.proofs.lemmas.Str.{IsUtf8-from_is_utf8}
use Rattle.fx_ntriples.specs.declared.faults.NtError.{NtError}
use Rattle.fx_ntriples.specs.declared.faults.NtError.TheVariants.{BadUtf8, Bad, Blank, Relative, Memory}
use Rattle.fx_ntriples.specs.Answers.{Answers}

pub answers_only : {X : Type 0} (r : Result X NtError) (x : X) → Answers r (Ok x) → MatchResult r (λ g. g ≡ x) (λ e. e ≡ Memory)
answers_only (Ok y) x h = cc
answers_only (Err Memory) x h = refl
answers_only (Err (BadUtf8 p)) x h = absurd (cc)
answers_only (Err (Bad l c)) x h = absurd (cc)
answers_only (Err (Blank l c)) x h = absurd (cc)
answers_only (Err (Relative l c)) x h = absurd (cc)

pub answers_found : {X : Type 0} (P : X → Type 0) (r wanted : Result X NtError) → Answers r wanted → ((x : X) → wanted ≡ Ok x → P x) → IfOk r P
answers_found P (Ok y) wanted h f = f y h
answers_found P (Err e) wanted h f = tt

not_utf8_test : (bytes : List ℕ) (v : Bool) → is_utf8 bytes ≡ v → (IsUtf8 bytes → ⊥) → v ≡ false
not_utf8_test bytes true e h = absurd (h (IsUtf8-from_is_utf8 bytes e))
not_utf8_test bytes false e h = refl

pub not_utf8 : (bytes : List ℕ) → (IsUtf8 bytes → ⊥) → is_utf8 bytes ≡ false
not_utf8 bytes h = not_utf8_test bytes (is_utf8 bytes) refl h
