-- The steps along a tag.
use Rattle.std.proofs.Common.{◌≡◌, ℕ, ◌+◌, ◌<◌, Bool, true, false, List, length, drop, get_or, refl, arith, add-one, drop-cons}
use Rattle.std.proofs.lemmas.Bool.Decides.{nat_tests}
use Rattle.fx_ntriples.specs.Reading.{in_part, tag_len}

-- a byte of a part is ASCII
pub in_part_ascii : (first : Bool) (b : ℕ) → in_part first b ≡ true → b < 128
in_part_ascii true b h = grind (arith, nat_tests)
in_part_ascii false b h = grind (arith, nat_tests)

pub part_here : (first empty : Bool) (line : List ℕ) (at : ℕ) → at < length line → in_part first (get_or line at 0) ≡ true → tag_len first empty (drop at line) ≡ 1 + tag_len first false (drop (at + 1) line)
unfolding tag_len
part_here first empty line at h e = rw (drop-cons line at 0 h, add-one at, e) refl

pub dash_here : (first : Bool) (line : List ℕ) (at : ℕ) → at < length line → in_part first (get_or line at 0) ≡ false → get_or line at 0 ≡ 45 → tag_len first false (drop at line) ≡ 1 + tag_len false true (drop (at + 1) line)
unfolding tag_len
dash_here first line at h e d = rw (drop-cons line at 0 h, add-one at, e, d) refl
