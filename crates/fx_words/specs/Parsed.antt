-- The commands as the parser of words has them, and what is read of its matches.
use Rattle.std.specs.Prelude.{Bool, true, false, List, [], ◌∷◌, Option, Some, None, codes}
use Rattle.clap.specs.Walk.{Row, Rule, Text, first_of}
use Rattle.clap.specs.Simple.{App, new_app, new_rule, on_top, with_rule}
use Rattle.clap.specs.declared.builder.action.ArgAction.TheVariants.{Set}
use Rattle.clap.specs.declared.error.kind.ErrorKind.{ErrorKind}
use Rattle.clap.specs.declared.error.kind.ErrorKind.TheVariants.{OutOfMemory}
use Rattle.fx_words.specs.declared.commands.CommandError.{CommandError}
use Rattle.fx_words.specs.declared.commands.CommandError.TheVariants.{Usage, Memory}
use Rattle.fx_words.specs.Commands.{Asked, count_of, counted, gated_parts, number_of, number_to, of_count, of_size, query_parts, served}

-- a positional argument, and an option with a value
abbrev pub positional : Text → Bool → Rule
positional id required = record (new_rule id) { required = required; action = Some Set }

abbrev pub valued : Text → Rule
valued name = record (new_rule name) { long = Some name; action = Some Set }

-- a command without help and version
abbrev pub bare : Text → App
bare name = on_top (λ s. record s { disable_help_flag = true; disable_version_flag = true }) (new_app name)

-- a command that asks for two positionals
abbrev pub two_places : Text → Text → Text → App
two_places name first second = with_rule (with_rule (bare name) (positional first true)) (positional second true)

-- NAME FILE QUERY
abbrev pub files_app : Text → App
files_app name = two_places name (codes "FILE") (codes "QUERY")

-- query REGISTRY QUERY [--workers N] [--block B]
abbrev pub query_app : App
query_app = with_rule (with_rule (two_places (codes "query") (codes "REGISTRY") (codes "QUERY")) (valued (codes "workers"))) (valued (codes "block"))

-- member GRAPH ADDRESS [COUNT]
abbrev pub member_app : App
member_app = with_rule (two_places (codes "member") (codes "GRAPH") (codes "ADDRESS")) (positional (codes "COUNT") false)

-- serve REGISTRY ADDRESS [COUNT] [--workers N] [--block B]
abbrev pub serve_app : App
serve_app =
    let places = with_rule (two_places (codes "serve") (codes "REGISTRY") (codes "ADDRESS")) (positional (codes "COUNT") false) in
    with_rule (with_rule places (valued (codes "workers"))) (valued (codes "block"))

-- generate N
abbrev pub generate_app : App
generate_app = with_rule (bare (codes "generate")) (positional (codes "N") true)

-- ---- what is read

-- the value of an option, if there is one
abbrev pub given : Option Text → List Text
given None = []
given (Some v) = v ∷ []

abbrev pub two_given : Option Text → Option Text → Option (Text × Text)
two_given None second = None
two_given (Some first) None = None
two_given (Some first) (Some second) = Some (first, second)

abbrev pub query_given : Option Text → Option Text → Option Text → Option Text → Option Asked
query_given registry query workers block = query_parts (two_given registry query) (number_of 16 4 (given workers)) (number_of 64 15 (given block))

abbrev pub serve_given : Option Text → Option Text → Option Text → Option Text → Option Text → Option Asked
serve_given registry address count workers block =
    gated_parts (two_given registry address) (counted (given count)) (number_of 16 4 (given workers)) (number_of 64 15 (given block))

abbrev pub served_by : Option (Text × Text) → Option Text → Option Asked
served_by None count = None
served_by (Some p) None = Some (served p.0 p.1 18446744073709551615)
served_by (Some p) (Some count) = of_count p.0 p.1 (count_of count)

abbrev pub generate_given : Option Text → Option Asked
generate_given None = None
generate_given (Some size) = of_size (number_to 10000 size)

abbrev pub files_read : List Row → Option (Text × Text)
files_read rows = two_given (first_of (codes "FILE") rows) (first_of (codes "QUERY") rows)

abbrev pub query_read : List Row → Option Asked
query_read rows = query_given (first_of (codes "REGISTRY") rows) (first_of (codes "QUERY") rows) (first_of (codes "workers") rows) (first_of (codes "block") rows)

abbrev pub member_read : List Row → Option Asked
member_read rows = served_by (two_given (first_of (codes "GRAPH") rows) (first_of (codes "ADDRESS") rows)) (first_of (codes "COUNT") rows)

abbrev pub serve_read : List Row → Option Asked
serve_read rows =
    serve_given (first_of (codes "REGISTRY") rows) (first_of (codes "ADDRESS") rows) (first_of (codes "COUNT") rows) (first_of (codes "workers") rows) (first_of (codes "block") rows)

abbrev pub generate_read : List Row → Option Asked
generate_read rows = generate_given (first_of (codes "N") rows)

-- ---- faults

-- what an error of the parser is here
abbrev pub refusal_of : ErrorKind → CommandError
refusal_of OutOfMemory = Memory
refusal_of _ = Usage
