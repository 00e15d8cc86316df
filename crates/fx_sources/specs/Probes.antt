-- What is known of probes, what is missing, and what is chosen by it.
use Rattle.std.specs.Prelude.{ℕ, Bool, false, not, if◌then◌else◌, List, [], ◌∷◌, ◌++◌, map, filter, fold, take, reverse, Option, Some, None, is_some}
use Rattle.std.specs.List.{flat_map, list_any, range_with_len, zip}
use Rattle.std.specs.Map.{lookup}
use Rattle.fx_algebra.specs.Units.{is_kept}
use Rattle.fx_algebra.specs.declared.queries.Query.{Query}
use Rattle.fx_keys.specs.Probes.{key_of, probe, same_key, same_probe}
use Rattle.fx_keys.specs.declared.keys.AskKey.{AskKey}
use Rattle.fx_keys.specs.declared.probes.Probe.{Probe}
use Rattle.fx_sources.specs.Patterns.{patterns}

-- ---- what is known

-- a probe, and whether its key fits the graph of its member
abbrev pub Entry : Type 0
Entry = Probe × Bool

-- what the entries say of a probe: the first that speaks of it decides
abbrev pub known : List Entry → Probe → Option Bool
known entries p = lookup (same_probe p) entries

abbrev pub is_held : List Entry → Probe → Bool
is_held entries p = is_some (known entries p)

-- probes with their truths, the last first
abbrev pub told : List Probe → List Bool → List Entry
told probes truths = reverse (zip probes truths)

-- the entries after a cache learned: the newest 4,096
abbrev pub learned : List Entry → List Probe → List Bool → List Entry
learned entries probes truths = take 4096 (told probes truths ++ entries)

-- ---- what is missing

-- the keys with one more at their end, where they lack it
abbrev pub with_key : List AskKey → AskKey → List AskKey
with_key keys k = if list_any (same_key k) keys then keys else keys ++ k ∷ []

-- the keys of a query, each once, at its first place
abbrev pub keys_of : Query → List AskKey
keys_of query = fold with_key [] (map key_of (patterns query))

-- the probes of a member that the entries don't hold
abbrev pub missing_at : List Entry → List AskKey → ℕ → List Probe
missing_at entries keys at = filter (λ p. not (is_held entries p)) (map (probe at) keys)

-- the probes that the entries don't hold, each once, by member, then by first occurrence of the key
abbrev pub missing : Query → ℕ → List Entry → List Probe
missing query members entries = flat_map (missing_at entries (keys_of query)) (range_with_len 0 members)

-- ---- what is chosen

abbrev pub is_yes : Option Bool → Bool
is_yes (Some truth) = truth
is_yes None = false

-- the members, by number, whose answer to a key is yes
abbrev pub members_of : List Entry → ℕ → AskKey → List ℕ
members_of entries members k = filter (λ at. is_yes (known entries (probe at k))) (range_with_len 0 members)

-- these members for each pattern of a query
abbrev pub chosen : Query → ℕ → List Entry → List (List ℕ)
chosen query members entries = map (λ p. members_of entries members (key_of p)) (patterns query)

-- ---- members that are left out

-- the probes of members that are kept
abbrev pub kept_probes : List Bool → List Probe → List Probe
kept_probes kept probes = filter (λ p. is_kept kept p.at) probes

-- those of some members that are kept
abbrev pub kept_members : List Bool → List ℕ → List ℕ
kept_members kept members = filter (is_kept kept) members
