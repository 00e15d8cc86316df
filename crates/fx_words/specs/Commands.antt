-- How the words of a command line are read.
use Rattle.std.specs.Prelude.{◌≡◌, ℕ, Bool, false, List, [], ◌∷◌, Option, Some, None, Result, Ok, Err, codes, if◌then◌else◌, option_map, option_and_then, ◌==◌, ◌&&◌, not, length, map, take, drop, nat_le, nat_lt, ◌≤◌, String, string_bytes}
use Rattle.std.specs.Borrow.{Bor}
use Rattle.std.specs.Str.{all_ascii_digits, bytes_eq}
use Rattle.std.specs.Str.Parse.{digits_value}
use Rattle.fx_words.specs.declared.commands.Command.{Command}
use Rattle.fx_words.specs.declared.commands.Command.TheVariants.{Local, Query, Explain, Member, Serve, Generate}
use Rattle.fx_words.specs.declared.commands.CommandError.{CommandError}
use Rattle.fx_words.specs.declared.commands.CommandError.TheVariants.{Usage, Memory}

abbrev pub local_word : List ℕ
local_word = codes "local"

abbrev pub query_word : List ℕ
query_word = codes "query"

abbrev pub explain_word : List ℕ
explain_word = codes "explain"

abbrev pub member_word : List ℕ
member_word = codes "member"

abbrev pub serve_word : List ℕ
serve_word = codes "serve"

abbrev pub generate_word : List ℕ
generate_word = codes "generate"

abbrev pub end_of_options : List ℕ
end_of_options = codes "--"

-- a word that begins with a dash and is longer than that
abbrev pub is_option : List ℕ → Bool
is_option [] = false
is_option (b ∷ []) = false
is_option (b ∷ c ∷ bs) = b == 45

-- an element before those that there are, if there are any
abbrev pub in_front : {X : Type 0} → Option X → Option (List X) → Option (List X)
in_front None rest = None
in_front (Some x) None = None
in_front (Some x) (Some xs) = Some (x ∷ xs)

-- the words that are no options: behind -- every word is one, and before it no option may stand
abbrev pub positionals : List (List ℕ) → Option (List (List ℕ))
positionals [] = Some []
positionals (w ∷ ws) = if bytes_eq w end_of_options then Some ws else if is_option w then None else in_front (Some w) (positionals ws)

-- what a command is asked to do: to answer the query of a file over the graph of a file, or over the members of a registry, with so
-- many workers and so many rows in a block; to print the plan of a query over such members; to serve the graph of a file at an
-- address, for so many connections; to serve the members of a registry so, as if they were one, for so many connections, with so
-- many workers and so many rows in a block; or to make members of a size, and to count with them
pub data Asked : Type 0 where
  over_file : List ℕ → List ℕ → Asked
  over_members : List ℕ → List ℕ → ℕ → ℕ → Asked
  planned : List ℕ → List ℕ → Asked
  served : List ℕ → List ℕ → ℕ → Asked
  gated : List ℕ → List ℕ → ℕ → ℕ → ℕ → Asked
  generated : ℕ → Asked

-- two files
abbrev pub two_files : List (List ℕ) → Option (List ℕ × List ℕ)
two_files [] = None
two_files (g ∷ []) = None
two_files (g ∷ q ∷ []) = Some (g, q)
two_files (g ∷ q ∷ w ∷ ws) = None

-- a command that has two files
abbrev pub of_files : (List ℕ → List ℕ → Asked) → Option (List ℕ × List ℕ) → Option Asked
of_files make None = None
of_files make (Some p) = Some (make p.0 p.1)

-- 1 to 20 digits
abbrev pub is_digits : List ℕ → Bool
is_digits word = not (length word == 0) && nat_le (length word) 20 && all_ascii_digits word

-- a number that is at least 1 and at most so much
abbrev pub in_range : ℕ → ℕ → Option ℕ
in_range most n = if n == 0 then None else if nat_lt most n then None else Some n

-- the number that a word says, which is at least 1 and at most so much
abbrev pub number_to : ℕ → List ℕ → Option ℕ
number_to most word = if is_digits word then in_range most (digits_value 10 word) else None

-- the number of connections that a word says, within 64 bits
abbrev pub count_of : List ℕ → Option ℕ
count_of word = number_to 18446744073709551615 word

-- serving where the number is one
abbrev pub of_count : List ℕ → List ℕ → Option ℕ → Option Asked
of_count graph address None = None
of_count graph address (Some count) = Some (served graph address count)

-- a file, an address, and a number, without which there are as many connections as a number can say
abbrev pub member_asked : List (List ℕ) → Option Asked
member_asked [] = None
member_asked (g ∷ []) = None
member_asked (g ∷ a ∷ []) = Some (served g a 18446744073709551615)
member_asked (g ∷ a ∷ c ∷ []) = of_count g a (count_of c)
member_asked (g ∷ a ∷ c ∷ w ∷ ws) = None

-- making where the number is one
abbrev pub of_size : Option ℕ → Option Asked
of_size None = None
of_size (Some size) = Some (generated size)

-- a size, up to 10,000
abbrev pub generate_asked : List (List ℕ) → Option Asked
generate_asked [] = None
generate_asked (n ∷ []) = of_size (number_to 10000 n)
generate_asked (n ∷ w ∷ ws) = None

-- ---- the options of `query` and `serve`

-- what the words of such a command give: those that are no options, and the values that each option is given
pub record QueryWords : Type 0 where
  pub positionals : List (List ℕ)
  pub workers : List (List ℕ)
  pub blocks : List (List ℕ)

-- positionals alone
abbrev pub plain : List (List ℕ) → QueryWords
plain words = record { positionals = words; workers = []; blocks = [] }

abbrev pub with_positional : List ℕ → Option QueryWords → Option QueryWords
with_positional word rest = option_map (λ (g : QueryWords). record { positionals = word ∷ g.positionals; workers = g.workers; blocks = g.blocks }) rest

abbrev pub with_workers : List ℕ → Option QueryWords → Option QueryWords
with_workers value rest = option_map (λ (g : QueryWords). record { positionals = g.positionals; workers = value ∷ g.workers; blocks = g.blocks }) rest

abbrev pub with_block : List ℕ → Option QueryWords → Option QueryWords
with_block value rest = option_map (λ (g : QueryWords). record { positionals = g.positionals; workers = g.workers; blocks = value ∷ g.blocks }) rest

abbrev pub workers_option : List ℕ
workers_option = codes "--workers"

abbrev pub block_option : List ℕ
block_option = codes "--block"

-- what stands behind a front of a word, if it has this front
abbrev pub value_in : List ℕ → List ℕ → Option (List ℕ)
value_in front word = if bytes_eq (take (length front) word) front then Some (drop (length front) word) else None

-- what a word gives with those behind it, where it holds these values of options, or none
abbrev pub by_values : Option (List ℕ) → Option (List ℕ) → List ℕ → Option QueryWords → Option QueryWords
by_values (Some value) block word rest = with_workers value rest
by_values None (Some value) word rest = with_block value rest
by_values None None word rest = if is_option word then None else with_positional word rest

-- what a word gives with those behind it, where it is an option with its value behind an equals sign, or a positional
abbrev pub by_itself : List ℕ → Option QueryWords → Option QueryWords
by_itself word rest = by_values (value_in (codes "--workers=") word) (value_in (codes "--block=") word) word rest

-- What words give, if no other options than these two stand in them, and each has a value. Behind -- every word is a positional. A
-- word that begins with a dash is taken as a value too, and refused as one, since it is no number.
abbrev pub query_words : List (List ℕ) → Option QueryWords
query_words [] = Some (plain [])
query_words (w ∷ []) =
    if bytes_eq w end_of_options then Some (plain [])
    else if bytes_eq w workers_option then None
    else if bytes_eq w block_option then None
    else by_itself w (Some (plain []))
query_words (w ∷ v ∷ ws) =
    if bytes_eq w end_of_options then Some (plain (v ∷ ws))
    else if bytes_eq w workers_option then with_workers v (query_words ws)
    else if bytes_eq w block_option then with_block v (query_words ws)
    else by_itself w (query_words (v ∷ ws))

-- The number that an option is given, which is at least 1 and at most so much: it stands once, or not at all, and then there is
-- a number for it.
abbrev pub number_of : ℕ → ℕ → List (List ℕ) → Option ℕ
number_of most default [] = Some default
number_of most default (v ∷ []) = number_to most v
number_of most default (v ∷ w ∷ ws) = None

-- two files and two numbers, where there are such
abbrev pub query_parts : Option (List ℕ × List ℕ) → Option ℕ → Option ℕ → Option Asked
query_parts (Some files) (Some workers) (Some block) = Some (over_members files.0 files.1 workers block)
query_parts (Some files) (Some workers) None = None
query_parts (Some files) None block = None
query_parts None workers block = None

-- two files, 1 to 16 workers, and 1 to 64 rows in a block
abbrev pub query_asked : QueryWords → Option Asked
query_asked g = query_parts (two_files g.positionals) (number_of 16 4 g.workers) (number_of 64 15 g.blocks)

-- the first two of words
abbrev pub first_two : List (List ℕ) → Option (List ℕ × List ℕ)
first_two [] = None
first_two (r ∷ []) = None
first_two (r ∷ a ∷ ws) = Some (r, a)

-- the number of connections that words give: one of them says it, or there is none, and then there are as many connections as a
-- number can say
abbrev pub counted : List (List ℕ) → Option ℕ
counted words = number_of 18446744073709551615 18446744073709551615 words

-- a file, an address and three numbers, where there are such
abbrev pub gated_parts : Option (List ℕ × List ℕ) → Option ℕ → Option ℕ → Option ℕ → Option Asked
gated_parts (Some places) (Some count) (Some workers) (Some block) = Some (gated places.0 places.1 count workers block)
gated_parts (Some places) (Some count) (Some workers) None = None
gated_parts (Some places) (Some count) None block = None
gated_parts (Some places) None workers block = None
gated_parts None count workers block = None

-- a file, an address, a number of connections, 1 to 16 workers, and 1 to 64 rows in a block
abbrev pub serve_asked : QueryWords → Option Asked
serve_asked g = gated_parts (first_two g.positionals) (counted (drop 2 g.positionals)) (number_of 16 4 g.workers) (number_of 64 15 g.blocks)

-- ---- commands

-- what the words ask for, where they are a command that is built
abbrev pub asked : List (List ℕ) → Option Asked
asked [] = None
asked (c ∷ ws) =
    if bytes_eq c local_word then of_files over_file (option_and_then two_files (positionals ws))
    else if bytes_eq c query_word then option_and_then query_asked (query_words ws)
    else if bytes_eq c explain_word then of_files planned (option_and_then two_files (positionals ws))
    else if bytes_eq c member_word then option_and_then member_asked (positionals ws)
    else if bytes_eq c serve_word then option_and_then serve_asked (query_words ws)
    else if bytes_eq c generate_word then option_and_then generate_asked (positionals ws)
    else None

-- the same of words as they are held
abbrev pub asked_in : {Z : Type 0} → List (String Z) → Option Asked
asked_in words = asked (map (λ w. string_bytes w) words)

-- ---- answers, where want of memory alone is free

abbrev pub asked_by : Command → Asked
asked_by (Local g q) = over_file g.now q.now
asked_by (Query r q workers block) = over_members r.now q.now workers block
asked_by (Explain r q) = planned r.now q.now
asked_by (Member g a n) = served g.now a.now n
asked_by (Serve r a n workers block) = gated r.now a.now n workers block
asked_by (Generate size) = generated size

-- unless memory ran out, the answer is the command that the words are
abbrev pub GivesCommand : Result Command CommandError → Option Asked → Type 0
GivesCommand (Ok command) wanted = wanted ≡ Some (asked_by command)
GivesCommand (Err Usage) wanted = wanted ≡ None
GivesCommand (Err Memory) wanted = Unit {0}

-- the numbers of a query, of a served federation and of making are within their limits
abbrev pub IsWithin : Command → Type 0
IsWithin (Query r q workers block) = (1 ≤ workers) × (workers ≤ 16) × (1 ≤ block) × (block ≤ 64)
IsWithin (Local g q) = Unit {0}
IsWithin (Explain r q) = Unit {0}
IsWithin (Member g a n) = Unit {0}
IsWithin (Serve r a n workers block) = (1 ≤ workers) × (workers ≤ 16) × (1 ≤ block) × (block ≤ 64)
IsWithin (Generate size) = (1 ≤ size) × (size ≤ 10000)

-- unless memory ran out, the answer is the two files that the words are
abbrev pub GivesFiles : Result (Bor (List ℕ) × Bor (List ℕ)) CommandError → Option (List ℕ × List ℕ) → Type 0
GivesFiles (Ok p) wanted = wanted ≡ Some (p.0.now, p.1.now)
GivesFiles (Err Usage) wanted = wanted ≡ None
GivesFiles (Err Memory) wanted = Unit {0}
