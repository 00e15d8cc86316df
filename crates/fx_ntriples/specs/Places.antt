-- Where a refusal stands.
use Rattle.std.specs.Prelude.{ℕ, ◌+◌, Bool, false, not, ◌&&◌, ◌||◌, ◌==◌, if◌then◌else◌, List, [], ◌∷◌, take, drop, count_by, nat_lt, nat_le}
use Rattle.fx_ntriples.specs.declared.faults.Fault.{Fault}
use Rattle.fx_ntriples.specs.declared.faults.Fault.TheVariants as fault
use Rattle.fx_ntriples.specs.declared.faults.NtError.{NtError}
use Rattle.fx_ntriples.specs.declared.faults.NtError.TheVariants.{Bad, Blank, Relative}

abbrev pub begins_with_line_feed : List ℕ → Bool
begins_with_line_feed [] = false
begins_with_line_feed (b ∷ s) = b == 10

-- CR or LF; of CR LF the LF alone
abbrev pub ends_line : ℕ → List ℕ → Bool
ends_line b s = b == 10 || (b == 13 && not (begins_with_line_feed s))

-- how many line ends a text has
abbrev pub line_ends : List ℕ → ℕ
line_ends [] = 0
line_ends (b ∷ s) = (if ends_line b s then 1 else 0) + line_ends s

-- the first byte of a character in UTF-8
abbrev pub is_char_start : ℕ → Bool
is_char_start b = nat_lt b 0x80 || nat_le 0xC0 b

-- how many characters a text has: as many as bytes that begin one
abbrev pub char_count : List ℕ → ℕ
char_count text = count_by is_char_start text

-- a fault so many bytes behind the beginning of a line: the line's number, and the number of the character in it, both from 1
abbrev pub at_place : List ℕ → Fault → ℕ → ℕ → NtError
at_place bytes fault.Bad start place = Bad (line_ends (take start bytes) + 1) (char_count (take place (drop start bytes)) + 1)
at_place bytes fault.Blank start place = Blank (line_ends (take start bytes) + 1) (char_count (take place (drop start bytes)) + 1)
at_place bytes fault.Relative start place = Relative (line_ends (take start bytes) + 1) (char_count (take place (drop start bytes)) + 1)
