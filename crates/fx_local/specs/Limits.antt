-- How many bytes a file may have.
use Rattle.std.specs.Prelude.{ℕ}

-- the file of a graph
abbrev pub graph_limit : ℕ
graph_limit = 134217728

-- the file of a query
abbrev pub query_limit : ℕ
query_limit = 1048576

-- the file of a registry
abbrev pub registry_limit : ℕ
registry_limit = 1048576
