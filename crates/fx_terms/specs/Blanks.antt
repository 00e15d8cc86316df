-- Blanks and line ends.
use Rattle.std.specs.Prelude.{ℕ, Bool, ◌||◌, ◌==◌}

-- a space or a tab
abbrev pub is_blank : ℕ → Bool
is_blank c = c == 32 || c == 9

-- LF or CR
abbrev pub is_line_end : ℕ → Bool
is_line_end c = c == 10 || c == 13
