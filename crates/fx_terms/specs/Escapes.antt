-- What stands behind the backslash of an escape, in N-Triples and in SPARQL (RDF 1.1 N-Triples, section 7, UCHAR and ECHAR; SPARQL 1.1,
-- sections 19.2 and 19.7).
use Rattle.std.specs.Prelude.{ℕ, ◌+◌, ◌*◌, ◌||◌, ◌==◌, if◌then◌else◌, List, [], ◌∷◌, Option, Some, None}
use Rattle.std.specs.Char.{digit_value}

-- the number that hexadecimal digits write, behind those that write another
abbrev pub hex_value : ℕ → List ℕ → ℕ
hex_value high [] = high
hex_value high (d ∷ ds) = hex_value (high * 16 + digit_value d) ds

-- ECHAR: the character that a letter names
abbrev pub letter_escape : ℕ → Option ℕ
letter_escape c =
    if c == 116 then Some 9
    else (if c == 98 then Some 8
    else (if c == 110 then Some 10
    else (if c == 114 then Some 13
    else (if c == 102 then Some 12
    else (if c == 34 || c == 39 || c == 92 then Some c else None)))))
