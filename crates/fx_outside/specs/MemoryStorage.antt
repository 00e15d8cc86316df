-- What files in memory hold, and what their calls give.
use Rattle.std.specs.Prelude.{◌≡◌, ℕ, ◌+◌, Bool, List, [], ◌∷◌, Option, Some, None, if◌then◌else◌, cond, String, Vec, string_bytes, bytes_eq, ◌&&◌, ◌==◌}
use Rattle.std.specs.List.{list_any}
use Rattle.std.specs.declared.alloc.Global.{Global}
use Rattle.fx_outside.specs.declared.memory_storage.MemoryFiles.{MemoryFiles}
use Rattle.fx_outside.specs.NameCounts.{count_of}

-- the content of a name: that of the first file with this name
abbrev pub content_of : List (String Global × Vec ℕ Global) → List ℕ → Option (List ℕ)
content_of [] name = None
content_of (file ∷ files) name = if bytes_eq (string_bytes file.0) name then Some file.1.items else content_of files name

-- whether this call of this name is to fail
abbrev pub fails_at : List (String Global × ℕ) → List ℕ → ℕ → Bool
fails_at fails name number = list_any (λ (pair : String Global × ℕ). bytes_eq (string_bytes pair.0) name && (pair.1 == number)) fails

-- what this call of this name gives: the content of the name, unless the call is to fail
abbrev pub given_at : List (String Global × Vec ℕ Global) → List (String Global × ℕ) → List ℕ → ℕ → Option (List ℕ)
given_at files fails name number = if fails_at fails name number then None else content_of files name

-- the content of a name
abbrev pub content_in : MemoryFiles → List ℕ → Option (List ℕ)
content_in m name = content_of m.files.items name

-- how many calls of a name have failed
abbrev pub faults_in : MemoryFiles → List ℕ → ℕ
faults_in m name = count_of m.faults name

-- how many calls of a name were made
abbrev pub calls_of : MemoryFiles → List ℕ → ℕ
calls_of m name = count_of m.calls name

-- the content that the next call of a name gives from, or nothing where it fails
abbrev pub next_given : MemoryFiles → List ℕ → Option (List ℕ)
next_given m name = given_at m.files.items m.fails.items name (calls_of m name + 1)

-- files that were just made
pub record IsFreshFiles (m : MemoryFiles) (files : List (String Global × Vec ℕ Global)) (fails : List (String Global × ℕ)) : Type 0 where
  pub contents : (name : List ℕ) → content_in m name ≡ content_of files name
  pub faultless : (name : List ℕ) → faults_in m name ≡ 0
  pub uncalled : (name : List ℕ) → calls_of m name ≡ 0
  pub given : (name : List ℕ) → next_given m name ≡ given_at files fails name 1
  pub filed : m.files.items ≡ files
  pub failing : m.fails.items ≡ fails

-- files after one call of a name: its calls are one more, and what they hold and what fails is the same
pub record IsAfterCall (before after : MemoryFiles) (name : List ℕ) : Type 0 where
  pub called : (other : List ℕ) → calls_of after other ≡ calls_of before other + cond (bytes_eq name other) 1 0
  pub filed : after.files ≡ before.files
  pub failing : after.fails ≡ before.fails
