-- Words of a command with the options of a query, and two positionals or three: these go to their places, and options hold values.
use Rattle.std.proofs.Common.{◌≡◌, ◌∙◌, ◌||◌, arith, length, ℕ, Bool, true, false, true≢false, not, List, [], ◌∷◌, ◌++◌, Option, Some, None, if◌then◌else◌, cond, refl, sym, ap, ap₂, codes, drop, find, option_map, option_and_then, bytes_eq, slice_get, is_some, IsUtf8}
use Rattle.std.specs.Option.{option_map_or}
use Rattle.clap.specs.Lexer.{long_of, short_of}
use Rattle.clap.specs.Walk.{Held, Row, Rule, Step, Text, Walk, after_flag, after_step, arg_by_id, arg_by_index, arg_by_long, arg_by_short, finished, first_of, has_row, idle, long_met, long_or_other, next, option, option_met, option_word, short_or_plain, trailing, used, value, walked, word_met}
use Rattle.clap.specs.Walk.{Waiting, is_pending, settled_rows}
use Rattle.clap.specs.Facts.{explicit_source}
use Rattle.clap.specs.Simple.{Shape, built, is_simple, matches_of}
use Rattle.clap.specs.Kinds.{check_kinds, or_else}
use Rattle.clap.specs.Takes.{is_given}
use Rattle.clap.specs.Faults.{bundle_fault, check_fault, fault_of, flag_word_fault, is_simple_and_free, long_fault, other_fault, positional_fault, settle_fault, step_fault, stray_fault, use_fault, word_fault}
use Rattle.fx_words.specs.Commands.{Asked, QueryWords, counted, first_two, gated_parts, number_of, plain, query_asked, query_parts, query_words, serve_asked, two_files, with_positional}
use Rattle.fx_words.specs.Parsed.{given, query_app, query_given, query_read, serve_app, serve_given, serve_read}
use Rattle.fx_words.proofs.LookLemmas.{Bad, held}
use Rattle.fx_words.proofs.StepLemmas.{Goes, HasNoDefaults, IsKnown, IsPlace, Settles, and_false, at, bad_as, bad_end, bad_first, bad_second, bad_turn, closes, end_check, end_rows, goes_behind, goes_plain}
use Rattle.fx_words.proofs.StepLemmas.{known, none_bad, nothing_waits, one_value, one_waits, said, same_end, same_fault, stray_bad, stray_behind, stray_plain, strange_bad, tail_fault, twice_bad, use_passes, use_refused, used_once, walk_end}
use Rattle.fx_words.proofs.PlaceLemmas.{AreUtf8}
use Rattle.fx_words.proofs.MeetLemmas.{Meets, meets_as, meets_bad, meets_wanted, one_level, rest_utf8}
use Rattle.fx_words.proofs.OptionLemmas.{IsNoNumber, Name, Sort, asking, block, closing, giving, option_named, rule_for, simple, sort, strange, text_of, with_value, words_for, workers}

abbrev registry_id : Text
registry_id = codes "REGISTRY"

abbrev count_id : Text
count_id = codes "COUNT"

-- the second place of a command, which has a third or not
abbrev second_id : Bool → Text
second_id true = codes "ADDRESS"
second_id false = codes "QUERY"

-- it is none of the others
record IsApart (id : Text) : Type 0 where
  from_registry : bytes_eq id registry_id ≡ false
  from_count : bytes_eq id count_id ≡ false
  from_workers : bytes_eq id (codes "workers") ≡ false
  from_block : bytes_eq id (codes "block") ≡ false
  registry_from : bytes_eq registry_id id ≡ false
  count_from : bytes_eq count_id id ≡ false
  workers_from : bytes_eq (codes "workers") id ≡ false
  block_from : bytes_eq (codes "block") id ≡ false
  itself : bytes_eq id id ≡ true

is_apart : (t : Bool) → IsApart (second_id t)
is_apart true = record {
  from_registry = refl;
  from_count = refl;
  from_workers = refl;
  from_block = refl;
  registry_from = refl;
  count_from = refl;
  workers_from = refl;
  block_from = refl;
  itself = refl;
}
is_apart false = record {
  from_registry = refl;
  from_count = refl;
  from_workers = refl;
  from_block = refl;
  registry_from = refl;
  count_from = refl;
  workers_from = refl;
  block_from = refl;
  itself = refl;
}

-- ---- what the words ask for, behind others

-- the positionals that were read, of a command that has a third or not
data Files (t : Bool) : Type 0 where
  no_file : Files t
  one_file : Text → Files t
  both_files : Text → Text → Files t
  three_files : t ≡ true → Text → Text → Text → Files t

abbrev listed : {t : Bool} → Files t → List Text
listed no_file = []
listed (one_file p) = p ∷ []
listed (both_files p q) = p ∷ q ∷ []
listed (three_files e p q r) = p ∷ q ∷ r ∷ []

abbrev place : {t : Bool} → Files t → ℕ
place no_file = 1
place (one_file p) = 2
place (both_files p q) = 3
place (three_files e p q r) = 4

abbrev ahead : {t : Bool} → Files t → Option Text → Option Text → QueryWords → QueryWords
ahead files w b g = record { positionals = listed files ++ g.positionals; workers = given w ++ g.workers; blocks = given b ++ g.blocks }

abbrev words_from : Bool → List Text → Option QueryWords
words_from true ws = Some (plain ws)
words_from false ws = query_words ws

-- what words ask for of a command: without a number of workers, or of rows in a block, nothing
record IsAsked (ask : QueryWords → Option Asked) : Type 0 where
  no_workers : (g : QueryWords) → number_of 16 4 g.workers ≡ None → ask g ≡ None
  no_block : (g : QueryWords) → number_of 64 15 g.blocks ≡ None → ask g ≡ None

-- the value that an option has, and the values once it has this one
abbrev value_for : Name → Option Text → Option Text → Option Text
value_for workers w b = w
value_for block w b = b

abbrev workers_with : Name → Text → Option Text → Option Text
workers_with workers x w = Some x
workers_with block x w = w

abbrev block_with : Name → Text → Option Text → Option Text
block_with workers x b = b
block_with block x b = Some x

-- a value that is no number
one_number : (most default : ℕ) (w : Option Text) (v : Text) (rest : List Text) → IsNoNumber v → number_of most default (given w ++ v ∷ rest) ≡ None
one_number most default None v [] n = n most
one_number most default None v (x ∷ rest) n = refl
one_number most default (Some y) v rest n = refl

module _ (t : Bool) (ask : QueryWords → Option Asked) where
  abbrev wanted : Files t → Option Text → Option Text → Option QueryWords → Option Asked
  wanted files w b rest = option_and_then (λ g. ask (ahead files w b g)) rest

  -- another positional than there are places
  stray_file : (files : Files t) (v : Text) (w b : Option Text) (rest : Option QueryWords)
      → ((g : QueryWords) → ask (ahead files w b (record { positionals = v ∷ g.positionals; workers = g.workers; blocks = g.blocks })) ≡ None)
      → wanted files w b (with_positional v rest) ≡ None
  stray_file files v w b None n = refl
  stray_file files v w b (Some g) n = n g

  first_file : (v : Text) (w b : Option Text) (rest : Option QueryWords) → wanted no_file w b (with_positional v rest) ≡ wanted (one_file v) w b rest
  first_file v w b None = refl
  first_file v w b (Some g) = refl

  second_file : (p v : Text) (w b : Option Text) (rest : Option QueryWords) → wanted (one_file p) w b (with_positional v rest) ≡ wanted (both_files p v) w b rest
  second_file p v w b None = refl
  second_file p v w b (Some g) = refl

  third_file : (e : t ≡ true) (p q v : Text) (w b : Option Text) (rest : Option QueryWords) → wanted (both_files p q) w b (with_positional v rest) ≡ wanted (three_files e p q v) w b rest
  third_file e p q v w b None = refl
  third_file e p q v w b (Some g) = refl

  first_value : (o : Name) (files : Files t) (w b : Option Text) (x : Text) (rest : Option QueryWords) → value_for o w b ≡ None
      → wanted files w b (with_value o x rest) ≡ wanted files (workers_with o x w) (block_with o x b) rest
  first_value workers files w b x None e = refl
  first_value block files w b x None e = refl
  first_value workers files None b x (Some g) e = refl
  first_value workers files (Some y) b x (Some g) e = absurd (true≢false (ap is_some e))
  first_value block files w None x (Some g) e = refl
  first_value block files w (Some y) x (Some g) e = absurd (true≢false (ap is_some e))

  module _ (a : IsAsked ask) where
    second_value : (o : Name) (files : Files t) (w b : Option Text) (x y : Text) (rest : Option QueryWords) → value_for o w b ≡ Some y → wanted files w b (with_value o x rest) ≡ None
    second_value workers files w b x y None e = refl
    second_value block files w b x y None e = refl
    second_value workers files None b x y (Some g) e = absurd (true≢false (sym (ap is_some e)))
    second_value workers files (Some z) b x y (Some g) e = a.no_workers (ahead files (Some z) b (record { positionals = g.positionals; workers = x ∷ g.workers; blocks = g.blocks })) refl
    second_value block files w None x y (Some g) e = absurd (true≢false (sym (ap is_some e)))
    second_value block files w (Some z) x y (Some g) e = a.no_block (ahead files w (Some z) (record { positionals = g.positionals; workers = g.workers; blocks = x ∷ g.blocks })) refl

    refused_value : (o : Name) (files : Files t) (w b : Option Text) (v : Text) (rest : Option QueryWords) → IsNoNumber v → wanted files w b (with_value o v rest) ≡ None
    refused_value workers files w b v None n = refl
    refused_value block files w b v None n = refl
    refused_value workers files w b v (Some g) n =
        a.no_workers (ahead files w b (record { positionals = g.positionals; workers = v ∷ g.workers; blocks = g.blocks })) (one_number 16 4 w v g.workers n)
    refused_value block files w b v (Some g) n =
        a.no_block (ahead files w b (record { positionals = g.positionals; workers = g.workers; blocks = v ∷ g.blocks })) (one_number 64 15 b v g.blocks n)

-- ---- rows by their ids

abbrev row_with : Text → List Row → Option Row
row_with id rows = find (λ r. bytes_eq r.id id) rows

pub has_found : (id : Text) (rows : List Row) → has_row id rows ≡ is_some (row_with id rows)
has_found id [] = refl
has_found id (r ∷ rows) = go (bytes_eq r.id id) (has_found id rows)
  where
    go : (t : Bool) → has_row id rows ≡ is_some (row_with id rows) → (t || has_row id rows) ≡ is_some (cond t (Some r) (row_with id rows))
    go true e = refl
    go false e = e

found_other : (id : Text) (rows : List Row) (r : Row) → bytes_eq r.id id ≡ false → row_with id (rows ++ r ∷ []) ≡ row_with id rows
found_other id [] r e = ap (λ b. cond b (Some r) None) e
found_other id (x ∷ rows) r e = ap (λ o. cond (bytes_eq x.id id) (Some x) o) (found_other id rows r e)

found_new : (id : Text) (rows : List Row) (r : Row) → bytes_eq r.id id ≡ true → row_with id rows ≡ None → row_with id (rows ++ r ∷ []) ≡ Some r
found_new id [] r e none = ap (λ b. cond b (Some r) None) e
found_new id (x ∷ rows) r e none = go (bytes_eq x.id id) none (found_new id rows r e)
  where
    go : (t : Bool) → cond t (Some x) (row_with id rows) ≡ None → (row_with id rows ≡ None → row_with id (rows ++ r ∷ []) ≡ Some r) → cond t (Some x) (row_with id (rows ++ r ∷ [])) ≡ Some r
    go true n h = absurd (true≢false (ap is_some n))
    go false n h = h n

-- the rows hold these positionals and values
record Holds (t : Bool) (rows : List Row) (files : Files t) (w b : Option Text) : Type 0 where
  registry : row_with registry_id rows ≡ option_map (said registry_id) (slice_get (listed files) 0)
  second : row_with (second_id t) rows ≡ option_map (said (second_id t)) (slice_get (listed files) 1)
  count : row_with count_id rows ≡ option_map (said count_id) (slice_get (listed files) 2)
  workers_row : row_with (codes "workers") rows ≡ option_map (said (codes "workers")) w
  block_row : row_with (codes "block") rows ≡ option_map (said (codes "block")) b

holds_nothing : (t : Bool) → Holds t [] no_file None None
holds_nothing t = record { registry = refl; second = refl; count = refl; workers_row = refl; block_row = refl }

module _ (t : Bool) (rows : List Row) (w b : Option Text) where
  holds_first : (v : Text) → Holds t rows no_file w b → Holds t (rows ++ said registry_id v ∷ []) (one_file v) w b
  holds_first v h = record {
    registry = found_new registry_id rows (said registry_id v) refl h.registry;
    second = found_other (second_id t) rows (said registry_id v) (is_apart t).registry_from ∙ h.second;
    count = found_other count_id rows (said registry_id v) refl ∙ h.count;
    workers_row = found_other (codes "workers") rows (said registry_id v) refl ∙ h.workers_row;
    block_row = found_other (codes "block") rows (said registry_id v) refl ∙ h.block_row;
  }

  holds_second : (p v : Text) → Holds t rows (one_file p) w b → Holds t (rows ++ said (second_id t) v ∷ []) (both_files p v) w b
  holds_second p v h =
      let apart = is_apart t in
      record {
        registry = found_other registry_id rows (said (second_id t) v) apart.from_registry ∙ h.registry;
        second = found_new (second_id t) rows (said (second_id t) v) apart.itself h.second;
        count = found_other count_id rows (said (second_id t) v) apart.from_count ∙ h.count;
        workers_row = found_other (codes "workers") rows (said (second_id t) v) apart.from_workers ∙ h.workers_row;
        block_row = found_other (codes "block") rows (said (second_id t) v) apart.from_block ∙ h.block_row;
      }

  holds_third : (e : t ≡ true) (p q v : Text) → Holds t rows (both_files p q) w b → Holds t (rows ++ said count_id v ∷ []) (three_files e p q v) w b
  holds_third e p q v h = record {
    registry = found_other registry_id rows (said count_id v) refl ∙ h.registry;
    second = found_other (second_id t) rows (said count_id v) (is_apart t).count_from ∙ h.second;
    count = found_new count_id rows (said count_id v) refl h.count;
    workers_row = found_other (codes "workers") rows (said count_id v) refl ∙ h.workers_row;
    block_row = found_other (codes "block") rows (said count_id v) refl ∙ h.block_row;
  }

  holds_value : (o : Name) (files : Files t) (x : Text) → value_for o w b ≡ None → Holds t rows files w b → Holds t (rows ++ said (text_of o) x ∷ []) files (workers_with o x w) (block_with o x b)
  holds_value workers files x e h = record {
    registry = found_other registry_id rows (said (codes "workers") x) refl ∙ h.registry;
    second = found_other (second_id t) rows (said (codes "workers") x) (is_apart t).workers_from ∙ h.second;
    count = found_other count_id rows (said (codes "workers") x) refl ∙ h.count;
    workers_row = found_new (codes "workers") rows (said (codes "workers") x) refl (h.workers_row ∙ ap (option_map (said (codes "workers"))) e);
    block_row = found_other (codes "block") rows (said (codes "workers") x) refl ∙ h.block_row;
  }
  holds_value block files x e h = record {
    registry = found_other registry_id rows (said (codes "block") x) refl ∙ h.registry;
    second = found_other (second_id t) rows (said (codes "block") x) (is_apart t).block_from ∙ h.second;
    count = found_other count_id rows (said (codes "block") x) refl ∙ h.count;
    workers_row = found_other (codes "workers") rows (said (codes "block") x) refl ∙ h.workers_row;
    block_row = found_new (codes "block") rows (said (codes "block") x) refl (h.block_row ∙ ap (option_map (said (codes "block"))) e);
  }

  -- whether there is a row
  has_value : (o : Name) (files : Files t) → Holds t rows files w b → has_row (text_of o) rows ≡ is_some (value_for o w b)
  has_value workers files h = has_found (codes "workers") rows ∙ ap is_some h.workers_row ∙ mapped w
    where
      mapped : (x : Option Text) → is_some (option_map (said (codes "workers")) x) ≡ is_some x
      mapped None = refl
      mapped (Some v) = refl
  has_value block files h = has_found (codes "block") rows ∙ ap is_some h.block_row ∙ mapped b
    where
      mapped : (x : Option Text) → is_some (option_map (said (codes "block")) x) ≡ is_some x
      mapped None = refl
      mapped (Some v) = refl

  no_registry : Holds t rows no_file w b → has_row registry_id rows ≡ false
  no_registry h = has_found registry_id rows ∙ ap is_some h.registry

  no_second : (p : Text) → Holds t rows (one_file p) w b → has_row (second_id t) rows ≡ false
  no_second p h = has_found (second_id t) rows ∙ ap is_some h.second

  no_count : (p q : Text) → Holds t rows (both_files p q) w b → has_row count_id rows ≡ false
  no_count p q h = has_found count_id rows ∙ ap is_some h.count

-- what the rows say
first_said : (rows : List Row) (id : Text) (x : Option Text) → row_with id rows ≡ option_map (said id) x → first_of id rows ≡ x
first_said rows id x e = ap (option_and_then (λ (r : Row). slice_get r.values 0)) e ∙ go x
  where
    go : (y : Option Text) → option_and_then (λ (r : Row). slice_get r.values 0) (option_map (said id) y) ≡ y
    go None = refl
    go (Some v) = refl

no_more : (x : Option Text) → given x ++ [] ≡ given x
no_more None = refl
no_more (Some v) = refl

-- ---- a command of this form

record IsForm (three : Bool) (ask : QueryWords → Option Asked) (read : List Row → Option Asked) (s : Shape) : Type 0 where
  once : s.args_override_self ≡ false
  plain_rules : HasNoDefaults s.rules
  registry : IsPlace s 1 registry_id
  second : IsPlace s 2 (second_id three)
  third : three ≡ true → IsPlace s 3 count_id
  no_third : three ≡ false → arg_by_index s.rules 3 ≡ None
  no_fourth : arg_by_index s.rules 4 ≡ None
  options : (o : Name) → arg_by_id s.rules (text_of o) ≡ Some (rule_for o)
  by_long : (name : Text) → arg_by_long s.rules name ≡ option_named name
  no_short : (x : ℕ) → arg_by_short s.rules x ≡ None
  checks : (rows : List Row) → check_fault s rows false ≡ check_kinds false false (not (is_given registry_id rows) || (not (is_given (second_id three) rows) || false))
  asks : IsAsked ask
  too_few : (w b : List Text) (p : Text) → (ask (record { positionals = []; workers = w; blocks = b }) ≡ None) × (ask (record { positionals = p ∷ []; workers = w; blocks = b }) ≡ None)
  two_at_most : three ≡ false → (w b : List Text) (p q v : Text) (more : List Text) → ask (record { positionals = p ∷ q ∷ v ∷ more; workers = w; blocks = b }) ≡ None
  three_at_most : (w b : List Text) (p q r v : Text) (more : List Text) → ask (record { positionals = p ∷ q ∷ r ∷ v ∷ more; workers = w; blocks = b }) ≡ None
  reads : (files : Files three) (w b : Option Text) (rows : List Row) → Holds three rows files w b → (p q : Text) (more : List Text) → listed files ≡ p ∷ q ∷ more
      → ask (record { positionals = listed files ++ []; workers = given w ++ []; blocks = given b ++ [] }) ≡ read rows

module _ (three : Bool) (ask : QueryWords → Option Asked) (read : List Row → Option Asked) (s : Shape) (c : IsForm three ask read s) where
  option_known : (o : Name) → IsKnown s (text_of o)
  option_known o = record { long = Some (text_of o); index = None; required = false; by_id = c.options o }

  named_by : (o : Name) → arg_by_long s.rules (text_of o) ≡ Some (rule_for o)
  named_by workers = c.by_long (codes "workers")
  named_by block = c.by_long (codes "block")

  -- ---- the words of options

  module _ (rows : List Row) (pending : Option (Text × List Text)) (k : ℕ) (v : Text) (o : Name) (x : Option Text) (d : bytes_eq v (45 ∷ 45 ∷ []) ≡ false) (l : long_of v ≡ Some (text_of o, x)) where
    -- the fault of a word that is an option
    option_word_fault : other_fault s None v (held rows pending) ≡ long_fault s.rules s.args_override_self (Some (rule_for o)) x (held rows pending)
    option_word_fault =
        let h = held rows pending in
        ap (λ (t : Bool). if t then [] else flag_word_fault s.rules s.args_override_self (long_of v) v h) d
        ∙ ap (λ q. flag_word_fault s.rules s.args_override_self q v h) l
        ∙ ap (λ q. long_fault s.rules s.args_override_self q x h) (named_by o)

    -- and what it is
    option_word_met : word_met s.rules [] false idle k v (held rows pending)
        ≡ after_flag s.rules idle v (option_met s.rules (rule_for o) x (held rows pending)).0 (option_met s.rules (rule_for o) x (held rows pending)).1
    option_word_met =
        let h = held rows pending in
        ap (λ (t : Bool). if t then (h, trailing k) else long_or_other s.rules idle v (long_of v) h) d
        ∙ ap (λ q. long_or_other s.rules idle v q h) l
        ∙ ap (λ q. after_flag s.rules idle v (long_met s.rules q x h).0 (long_met s.rules q x h).1) (named_by o)

  module _ (rows : List Row) (pending : Option (Text × List Text)) (done : List Row) (k : ℕ) (v : Text) (o : Name) (g : Settles s rows pending done) where
    -- an option without a value
    goes_asking : bytes_eq v (45 ∷ 45 ∷ []) ≡ false → long_of v ≡ Some (text_of o, None) → Goes s (at rows pending idle k false) v (at done (Some (text_of o, [])) (option (text_of o)) k false)
    unfolding walked
    goes_asking d l = record {
      passes = ap (λ (m : Held × Step). or_else (word_fault s [] false idle v (held rows pending)) (step_fault s k m.0 m.1)) (option_word_met rows pending k v o None d l)
          ∙ ap (λ ks. or_else ks []) (option_word_fault rows pending k v o None d l ∙ g.passes);
      after = ap (λ (m : Held × Step). after_step s.rules v (at rows pending idle k false) m.0 m.1) (option_word_met rows pending k v o None d l)
          ∙ ap (λ rs. at rs (Some (text_of o, [])) (option (text_of o)) k false) g.rows_are;
    }

    -- an option with its value
    goes_giving : (x : Text) → has_row (text_of o) done ≡ false → bytes_eq v (45 ∷ 45 ∷ []) ≡ false → long_of v ≡ Some (text_of o, Some x)
        → Goes s (at rows pending idle k false) v (at (done ++ said (text_of o) x ∷ []) None idle k false)
    unfolding walked
    goes_giving x none d l = record {
      passes = ap (λ (m : Held × Step). or_else (word_fault s [] false idle v (held rows pending)) (step_fault s k m.0 m.1)) (option_word_met rows pending k v o (Some x) d l)
          ∙ ap (λ ks. or_else ks []) (option_word_fault rows pending k v o (Some x) d l ∙ value_passes x none);
      after = ap (λ (m : Held × Step). after_step s.rules v (at rows pending idle k false) m.0 m.1) (option_word_met rows pending k v o (Some x) d l)
          ∙ ap (λ rs. at (used (rule_for o) (x ∷ []) rs) None idle k false) g.rows_are
          ∙ ap (λ rs. at rs None idle k false) (used_once (text_of o) (Some (text_of o)) None false x done none);
    }
      where
        value_passes : (x : Text) → has_row (text_of o) done ≡ false → long_fault s.rules s.args_override_self (Some (rule_for o)) (Some x) (held rows pending) ≡ []
        value_passes x none =
            ap (λ ks. or_else ks (use_fault s.args_override_self (rule_for o) (x ∷ []) (settled_rows s.rules pending rows))) g.passes
            ∙ ap₂ (λ (again : Bool) (rs : List Row). use_fault again (rule_for o) (x ∷ []) rs) c.once g.rows_are
            ∙ use_passes (text_of o) (Some (text_of o)) None false x done none

    -- which it had before
    twice_given : (x : Text) (ws : List Text) → has_row (text_of o) done ≡ true → bytes_eq v (45 ∷ 45 ∷ []) ≡ false → long_of v ≡ Some (text_of o, Some x)
        → Bad (tail_fault s (at rows pending idle k false) (v ∷ ws))
    twice_given x ws has d l = bad_turn s _ v ws (bad_first _ _ (bad_as _ _ (option_word_fault rows pending k v o (Some x) d l) (bad_second _ _
        (bad_as _ _ (ap₂ (λ (again : Bool) (rs : List Row). use_fault again (rule_for o) (x ∷ []) rs) c.once g.rows_are) (use_refused (text_of o) (Some (text_of o)) None false x done has)))))

  -- an option where what waits is refused
  option_bad : (rows : List Row) (pending : Option (Text × List Text)) (v : Text) (o : Name) (x : Option Text) → bytes_eq v (45 ∷ 45 ∷ []) ≡ false → long_of v ≡ Some (text_of o, x)
      → Bad (settle_fault s.rules s.args_override_self (held rows pending)) → Bad (other_fault s None v (held rows pending))
  option_bad rows pending v o None d l h = bad_as _ _ (option_word_fault rows pending 1 v o None d l) h
  option_bad rows pending v o (Some x) d l h = bad_as _ _ (option_word_fault rows pending 1 v o (Some x) d l) (bad_first _ _ h)

  -- ---- a walk that fails whatever follows

  place_bad : (rows : List Row) (pending : Option (Text × List Text)) (id : Text) (k : ℕ) → IsPlace s k id → Bad (settle_fault s.rules s.args_override_self (held rows pending))
      → Bad (step_fault s k (held rows pending) value)
  place_bad rows pending id k p h =
      let a = one_value id None (Some k) p.required in
      bad_as _ _ (ap (λ q. option_map_or (λ y. positional_fault s.rules s.args_override_self y (held rows pending)) q (stray_fault s)) p.by_index
      ∙ ap (λ (t : Bool). if t then [] else settle_fault s.rules s.args_override_self (held rows pending)) (and_false (is_pending a pending))) h

  no_place_bad : (rows : List Row) (pending : Option (Text × List Text)) (k : ℕ) → arg_by_index s.rules k ≡ None → Bad (step_fault s k (held rows pending) value)
  no_place_bad rows pending k none = bad_as _ _ (ap (λ o. option_map_or (λ y. positional_fault s.rules s.args_override_self y (held rows pending)) o (stray_fault s)) none) (stray_bad s)

  step_bad : (rows : List Row) (pending : Option (Text × List Text)) (files : Files three) → Bad (settle_fault s.rules s.args_override_self (held rows pending))
      → Bad (step_fault s (place files) (held rows pending) value)
  step_bad rows pending no_file h = place_bad rows pending registry_id 1 c.registry h
  step_bad rows pending (one_file p) h = place_bad rows pending (second_id three) 2 c.second h
  step_bad rows pending (both_files p q) h = go three refl
    where
      go : (b : Bool) → three ≡ b → Bad (step_fault s 3 (held rows pending) value)
      go true e = place_bad rows pending count_id 3 (c.third e) h
      go false e = no_place_bad rows pending 3 (c.no_third e)
  step_bad rows pending (three_files e p q r) h = no_place_bad rows pending 4 c.no_fourth

  -- what waits is refused, behind the end of options
  fails_behind : (rows : List Row) (pending : Option (Text × List Text)) (waiting : Waiting) (files : Files three) (ws : List Text)
      → Bad (settle_fault s.rules s.args_override_self (held rows pending)) → Bad (tail_fault s (at rows pending waiting (place files) true) ws)
  fails_behind rows pending waiting files [] h = bad_end s _ h
  fails_behind rows pending waiting files (v ∷ ws) h = bad_turn s _ v ws (step_bad rows pending files h)

  plain_met : (rows : List Row) (pending : Option (Text × List Text)) (k : ℕ) (v : Text) → bytes_eq v (45 ∷ 45 ∷ []) ≡ false → long_of v ≡ None → short_of v ≡ None
      → word_met s.rules [] false idle k v (held rows pending) ≡ (held rows pending, value)
  plain_met rows pending k v d l sh =
      let h = held rows pending in
      ap (λ (t : Bool). if t then (h, trailing k) else long_or_other s.rules idle v (long_of v) h) d
      ∙ ap (λ o. long_or_other s.rules idle v o h) l
      ∙ ap (λ o. short_or_plain s.rules idle v o h) sh

  -- and before it
  fails_before : (rows : List Row) (pending : Option (Text × List Text)) (files : Files three) (ws : List Text) → AreUtf8 ws → Bad (settle_fault s.rules s.args_override_self (held rows pending))
      → Bad (tail_fault s (at rows pending idle (place files) false) ws)
  fails_before rows pending files [] u h = bad_end s _ h
  fails_before rows pending files (v ∷ ws) u h = go (sort s c.by_long c.no_short v u.0)
    where
      go : Sort s v → Bad (tail_fault s (at rows pending idle (place files) false) (v ∷ ws))
      go (closing d words n) = bad_as _ _ (same_fault s _ v _ ws (closes s rows pending (place files) v d)) (fails_behind rows pending idle files ws h)
      go (asking o d l words n) = bad_turn s _ v ws (bad_first _ _ (option_bad rows pending v o None d l h))
      go (giving o x d l words n) = bad_turn s _ v ws (bad_first _ _ (option_bad rows pending v o (Some x) d l h))
      go (strange e words n) = strange_bad s rows pending (place files) v ws e
      go (simple d l sh words) = bad_turn s _ v ws (bad_second _ _ (bad_as _ _ (ap (λ (m : Held × Step). step_fault s (place files) m.0 m.1) (plain_met rows pending (place files) v d l sh)) (step_bad rows pending files h)))

  -- ---- a walk from any state on

  abbrev Agrees : Walk → List Text → Option Asked → Type 0
  Agrees walk ws goal = Meets read (tail_fault s walk ws) (finished s.rules (walk_end s walk ws)) goal

  agrees_next : (walk : Walk) (v : Text) (after : Walk) (ws : List Text) (goal : Option Asked) → Goes s walk v after → Agrees after ws goal → Agrees walk (v ∷ ws) goal
  agrees_next walk v after ws goal g m = meets_as read _ _ _ _ goal (same_fault s walk v after ws g) (ap (finished s.rules) (same_end s walk v after ws g)) m

  abbrev AllAgree : List Text → Type 0
  AllAgree ws = (files : Files three) (w b : Option Text) (rows : List Row) (pending : Option (Text × List Text)) (done : List Row) → Settles s rows pending done → Holds three done files w b → (t : Bool)
      → Agrees (at rows pending idle (place files) t) ws (wanted three ask files w b (words_from t ws))

  abbrev AllWait : List Text → Type 0
  AllWait ws = (o : Name) (files : Files three) (w b : Option Text) (done : List Row) → Holds three done files w b
      → Agrees (at done (Some (text_of o, [])) (option (text_of o)) (place files) false) ws (wanted three ask files w b (words_for o ws))

  -- ---- the end

  module _ (rows : List Row) (w b : Option Text) where
    given_row : (id : Text) (o : Option Row) → row_with id rows ≡ o → is_given id rows ≡ option_map_or (λ r. explicit_source r.source) o false
    given_row id o e = ap (λ q. option_map_or (λ (r : Row). explicit_source r.source) q false) e

    checked : (p q : Bool) → is_given registry_id rows ≡ p → is_given (second_id three) rows ≡ q → check_fault s rows false ≡ check_kinds false false (not p || (not q || false))
    checked p q e f = c.checks rows ∙ ap₂ (λ x y. check_kinds false false (not x || (not y || false))) e f

    all_given : (p q : Text) → row_with registry_id rows ≡ Some (said registry_id p) → row_with (second_id three) rows ≡ Some (said (second_id three) q) → check_fault s rows false ≡ []
    all_given p q e f = checked true true (given_row registry_id (Some (said registry_id p)) e) (given_row (second_id three) (Some (said (second_id three) q)) f)

    at_end : (files : Files three) → Holds three rows files w b → Meets read (check_fault s rows false) rows (wanted three ask files w b (Some (plain [])))
    at_end no_file h = meets_bad read _ rows _
        (bad_as _ _ (c.checks rows ∙ ap (λ x. check_kinds false false (not x || (not (is_given (second_id three) rows) || false))) (given_row registry_id None h.registry)) tt)
        (c.too_few (given w ++ []) (given b ++ []) []).0
    at_end (one_file p) h = meets_bad read _ rows _
        (bad_as _ _ (checked true false (given_row registry_id (Some (said registry_id p)) h.registry) (given_row (second_id three) None h.second)) tt) (c.too_few (given w ++ []) (given b ++ []) p).1
    at_end (both_files p q) h = meets_as read _ [] rows rows _ (all_given p q h.registry h.second) refl (c.reads (both_files p q) w b rows h p q [] refl)
    at_end (three_files e p q r) h = meets_as read _ [] rows rows _ (all_given p q h.registry h.second) refl (c.reads (three_files e p q r) w b rows h p q (r ∷ []) refl)

  end_agrees : (files : Files three) (w b : Option Text) (rows : List Row) (pending : Option (Text × List Text)) (done : List Row) → Settles s rows pending done → Holds three done files w b → (t : Bool)
      → Agrees (at rows pending idle (place files) t) [] (wanted three ask files w b (Some (plain [])))
  end_agrees files w b rows pending done g h t =
      meets_as read _ _ _ _ _ (end_check s rows pending idle (place files) t done c.plain_rules g) (end_rows s rows pending idle (place files) t done c.plain_rules g) (at_end done w b files h)

  -- ---- one word more

  module _ (v : Text) (ws : List Text) (all : AllAgree ws) (w b : Option Text) (rows : List Row) (pending : Option (Text × List Text)) (done : List Row) (g : Settles s rows pending done) where
    -- a word behind the end of options
    behind : (files : Files three) → Holds three done files w b → Agrees (at rows pending idle (place files) true) (v ∷ ws) (wanted three ask files w b (Some (plain (v ∷ ws))))
    behind no_file h = agrees_next _ v _ ws _ (goes_behind s rows pending 1 v registry_id done g c.registry)
        (all (one_file v) w b done (Some (registry_id, v ∷ [])) (done ++ said registry_id v ∷ []) (one_waits s registry_id v done c.once (known s 1 registry_id c.registry) (no_registry three done w b h))
        (holds_first three done w b v h) true)
    behind (one_file p) h = agrees_next _ v _ ws _ (goes_behind s rows pending 2 v (second_id three) done g c.second)
        (all (both_files p v) w b done (Some ((second_id three), v ∷ [])) (done ++ said (second_id three) v ∷ []) (one_waits s (second_id three) v done c.once (known s 2 (second_id three) c.second) (no_second three done w b p h))
        (holds_second three done w b p v h) true)
    behind (both_files p q) h = go three refl
      where
        go : (x : Bool) → three ≡ x → Agrees (at rows pending idle 3 true) (v ∷ ws) (wanted three ask (both_files p q) w b (Some (plain (v ∷ ws))))
        go true e = agrees_next _ v _ ws _ (goes_behind s rows pending 3 v count_id done g (c.third e))
            (all (three_files e p q v) w b done (Some (count_id, v ∷ [])) (done ++ said count_id v ∷ []) (one_waits s count_id v done c.once (known s 3 count_id (c.third e)) (no_count three done w b p q h))
            (holds_third three done w b e p q v h) true)
        go false e = meets_bad read _ _ _ (stray_behind s rows pending 3 v ws (c.no_third e)) (c.two_at_most e (given w ++ []) (given b ++ []) p q v ws)
    behind (three_files e p q r) h = meets_bad read _ _ _ (stray_behind s rows pending 4 v ws c.no_fourth) (c.three_at_most (given w ++ []) (given b ++ []) p q r v ws)

    -- a plain word
    before : (files : Files three) → Holds three done files w b → bytes_eq v (45 ∷ 45 ∷ []) ≡ false → long_of v ≡ None → short_of v ≡ None
        → Agrees (at rows pending idle (place files) false) (v ∷ ws) (wanted three ask files w b (with_positional v (query_words ws)))
    before no_file h d l sh = meets_wanted read _ _ _ _ (first_file three ask v w b (query_words ws)) (agrees_next _ v _ ws _ (goes_plain s rows pending 1 v registry_id done g c.registry d l sh)
        (all (one_file v) w b done (Some (registry_id, v ∷ [])) (done ++ said registry_id v ∷ []) (one_waits s registry_id v done c.once (known s 1 registry_id c.registry) (no_registry three done w b h))
        (holds_first three done w b v h) false))
    before (one_file p) h d l sh = meets_wanted read _ _ _ _ (second_file three ask p v w b (query_words ws)) (agrees_next _ v _ ws _ (goes_plain s rows pending 2 v (second_id three) done g c.second d l sh)
        (all (both_files p v) w b done (Some ((second_id three), v ∷ [])) (done ++ said (second_id three) v ∷ []) (one_waits s (second_id three) v done c.once (known s 2 (second_id three) c.second) (no_second three done w b p h))
        (holds_second three done w b p v h) false))
    before (both_files p q) h d l sh = go three refl
      where
        go : (x : Bool) → three ≡ x → Agrees (at rows pending idle 3 false) (v ∷ ws) (wanted three ask (both_files p q) w b (with_positional v (query_words ws)))
        go true e = meets_wanted read _ _ _ _ (third_file three ask e p q v w b (query_words ws)) (agrees_next _ v _ ws _ (goes_plain s rows pending 3 v count_id done g (c.third e) d l sh)
            (all (three_files e p q v) w b done (Some (count_id, v ∷ [])) (done ++ said count_id v ∷ []) (one_waits s count_id v done c.once (known s 3 count_id (c.third e)) (no_count three done w b p q h))
            (holds_third three done w b e p q v h) false))
        go false e = meets_bad read _ _ _ (stray_plain s rows pending 3 v ws (c.no_third e) d l sh)
            (stray_file three ask (both_files p q) v w b (query_words ws) (λ r. c.two_at_most e (given w ++ r.workers) (given b ++ r.blocks) p q v r.positionals))
    before (three_files e p q r) h d l sh = meets_bad read _ _ _ (stray_plain s rows pending 4 v ws c.no_fourth d l sh)
        (stray_file three ask (three_files e p q r) v w b (query_words ws) (λ x. c.three_at_most (given w ++ x.workers) (given b ++ x.blocks) p q r v x.positionals))

    -- an option with its value
    gives : (files : Files three) → Holds three done files w b → (o : Name) (x : Text) (had : Option Text) → value_for o w b ≡ had → bytes_eq v (45 ∷ 45 ∷ []) ≡ false → long_of v ≡ Some (text_of o, Some x)
        → Agrees (at rows pending idle (place files) false) (v ∷ ws) (wanted three ask files w b (with_value o x (query_words ws)))
    gives files h o x None e d l = meets_wanted read _ _ _ _ (first_value three ask o files w b x (query_words ws) e)
        (agrees_next _ v _ ws _ (goes_giving rows pending done (place files) v o g x (has_value three done w b o files h ∙ ap is_some e) d l)
        (all files (workers_with o x w) (block_with o x b) (done ++ said (text_of o) x ∷ []) None (done ++ said (text_of o) x ∷ []) (nothing_waits s _) (holds_value three done w b o files x e h) false))
    gives files h o x (Some y) e d l =
        meets_bad read _ _ _ (twice_given rows pending done (place files) v o g x ws (has_value three done w b o files h ∙ ap is_some e) d l) (second_value three ask c.asks o files w b x y (query_words ws) e)

    -- any word
    open_word : AllWait ws → (files : Files three) → Holds three done files w b → Sort s v → Agrees (at rows pending idle (place files) false) (v ∷ ws) (wanted three ask files w b (query_words (v ∷ ws)))
    open_word wait files h (closing d words n) = meets_wanted read _ _ _ _ (ap (wanted three ask files w b) (words ws))
        (agrees_next _ v _ ws _ (closes s rows pending (place files) v d) (all files w b rows pending done g h true))
    open_word wait files h (asking o d l words n) = meets_wanted read _ _ _ _ (ap (wanted three ask files w b) (words ws))
        (agrees_next _ v _ ws _ (goes_asking rows pending done (place files) v o g d l) (wait o files w b done h))
    open_word wait files h (giving o x d l words n) = meets_wanted read _ _ _ _ (ap (wanted three ask files w b) (words ws)) (gives files h o x (value_for o w b) refl d l)
    open_word wait files h (strange e words n) = meets_bad read _ _ _ (strange_bad s rows pending (place files) v ws e) (ap (wanted three ask files w b) (words ws))
    open_word wait files h (simple d l sh words) = meets_wanted read _ _ _ _ (ap (wanted three ask files w b) (words ws)) (before files h d l sh)

  -- a word that an option waits for
  module _ (v : Text) (ws : List Text) (o : Name) (files : Files three) (w b : Option Text) (done : List Row) (h : Holds three done files w b) where
    abbrev waits : Walk
    waits = at done (Some (text_of o, [])) (option (text_of o)) (place files) false

    unmet : Bad (settle_fault s.rules s.args_override_self (held done (Some (text_of o, []))))
    unmet = none_bad s (text_of o) done (option_known o)

    -- it is the value
    value_met : bytes_eq v (45 ∷ 45 ∷ []) ≡ false → long_of v ≡ None → short_of v ≡ None
        → word_met s.rules [] false (option (text_of o)) (place files) v (held done (Some (text_of o, []))) ≡ (held done (Some (text_of o, v ∷ [])), next idle)
    value_met d l sh =
        let p = held done (Some (text_of o, [])) in
        ap (λ (t : Bool). if t then (p, trailing (place files)) else long_or_other s.rules (option (text_of o)) v (long_of v) p) d
        ∙ ap (λ q. long_or_other s.rules (option (text_of o)) v q p) l
        ∙ ap (λ q. short_or_plain s.rules (option (text_of o)) v q p) sh
        ∙ ap (option_step (text_of o)) (c.options o)
        ∙ counted o
      where
        option_step : Text → Option Rule → Held × Step
        option_step id q = ((option_word q id v (held done (Some (id, [])))).0, next (option_word q id v (held done (Some (id, [])))).1)

        counted : (n : Name) → option_step (text_of n) (Some (rule_for n)) ≡ (held done (Some (text_of n, v ∷ [])), next idle)
        counted workers = refl
        counted block = refl

    goes_value : bytes_eq v (45 ∷ 45 ∷ []) ≡ false → long_of v ≡ None → short_of v ≡ None → Goes s waits v (at done (Some (text_of o, v ∷ [])) idle (place files) false)
    unfolding walked
    goes_value d l sh = record {
      passes = ap (λ (m : Held × Step). or_else (word_fault s [] false (option (text_of o)) v (held done (Some (text_of o, [])))) (step_fault s (place files) m.0 m.1)) (value_met d l sh)
          ∙ ap (λ (t : Bool). or_else (if t then [] else flag_word_fault s.rules s.args_override_self (long_of v) v (held done (Some (text_of o, [])))) []) d
          ∙ ap (λ q. or_else (flag_word_fault s.rules s.args_override_self q v (held done (Some (text_of o, [])))) []) l
          ∙ ap (λ q. or_else (option_map_or (λ flags. bundle_fault s.rules s.args_override_self flags (held done (Some (text_of o, [])))) q []) []) sh;
      after = ap (λ (m : Held × Step). after_step s.rules v waits m.0 m.1) (value_met d l sh);
    }

    goes_closing : bytes_eq v (45 ∷ 45 ∷ []) ≡ true → Goes s waits v (at done (Some (text_of o, [])) (option (text_of o)) (place files) true)
    unfolding walked
    goes_closing d =
        let p = held done (Some (text_of o, [])) in
        let met : word_met s.rules [] false (option (text_of o)) (place files) v p ≡ (p, trailing (place files)) =
        ap (λ (t : Bool). if t then (p, trailing (place files)) else long_or_other s.rules (option (text_of o)) v (long_of v) p) d in
        record {
          passes = ap (λ (m : Held × Step). or_else (word_fault s [] false (option (text_of o)) v p) (step_fault s (place files) m.0 m.1)) met
              ∙ ap (λ (t : Bool). or_else (if t then [] else flag_word_fault s.rules s.args_override_self (long_of v) v p) []) d;
          after = ap (λ (m : Held × Step). after_step s.rules v waits m.0 m.1) met;
        }

    taken : AllAgree ws → AreUtf8 ws → (had : Option Text) → value_for o w b ≡ had → bytes_eq v (45 ∷ 45 ∷ []) ≡ false → long_of v ≡ None → short_of v ≡ None
        → Agrees waits (v ∷ ws) (wanted three ask files w b (with_value o v (query_words ws)))
    taken all u None e d l sh = meets_wanted read _ _ _ _ (first_value three ask o files w b v (query_words ws) e) (agrees_next _ v _ ws _ (goes_value d l sh)
        (all files (workers_with o v w) (block_with o v b) done (Some (text_of o, v ∷ [])) (done ++ said (text_of o) v ∷ [])
        (one_waits s (text_of o) v done c.once (option_known o) (has_value three done w b o files h ∙ ap is_some e)) (holds_value three done w b o files v e h) false))
    taken all u (Some y) e d l sh = meets_bad read _ _ _ (bad_as _ _ (same_fault s waits v _ ws (goes_value d l sh))
        (fails_before done (Some (text_of o, v ∷ [])) files ws u (twice_bad s (text_of o) v done c.once (option_known o) (has_value three done w b o files h ∙ ap is_some e)))) (second_value three ask c.asks o files w b v y (query_words ws) e)

    waited : AllAgree ws → AreUtf8 ws → Sort s v → Agrees waits (v ∷ ws) (wanted three ask files w b (with_value o v (query_words ws)))
    waited all u (closing d words n) = meets_bad read _ _ _ (bad_as _ _ (same_fault s waits v _ ws (goes_closing d)) (fails_behind done (Some (text_of o, [])) (option (text_of o)) files ws unmet))
        (refused_value three ask c.asks o files w b v (query_words ws) n)
    waited all u (asking p d l words n) = meets_bad read _ _ _ (bad_turn s waits v ws (bad_first _ _ (option_bad done (Some (text_of o, [])) v p None d l unmet))) (refused_value three ask c.asks o files w b v (query_words ws) n)
    waited all u (giving p x d l words n) = meets_bad read _ _ _ (bad_turn s waits v ws (bad_first _ _ (option_bad done (Some (text_of o, [])) v p (Some x) d l unmet)))
        (refused_value three ask c.asks o files w b v (query_words ws) n)
    waited all u (strange e words n) = meets_bad read _ _ _ (bad_turn s waits v ws (bad_first _ _ (e done (Some (text_of o, []))))) (refused_value three ask c.asks o files w b v (query_words ws) n)
    waited all u (simple d l sh words) = taken all u (value_for o w b) refl d l sh

  -- ---- all words

  all_word : (v : Text) (ws : List Text) → IsUtf8 v → AllAgree ws → AllWait ws → AllAgree (v ∷ ws)
  all_word v ws u all wait files w b rows pending done g h true = behind v ws all w b rows pending done g files h
  all_word v ws u all wait files w b rows pending done g h false = open_word v ws all w b rows pending done g wait files h (sort s c.by_long c.no_short v u)

  agree : (ws : List Text) → AreUtf8 ws → AllAgree ws × AllWait ws
  agree [] u = (ended, λ o files w b done h. meets_bad read _ _ _ (bad_end s _ (none_bad s (text_of o) done (option_known o))) refl)
    where
      ended : AllAgree []
      ended files w b rows pending done g h true = end_agrees files w b rows pending done g h true
      ended files w b rows pending done g h false = end_agrees files w b rows pending done g h false
  agree (v ∷ ws) u =
      let rest = agree ws u.1 in
      (all_word v ws u.0 rest.0 rest.1, λ o files w b done h. waited v ws o files w b done h rest.0 u.1 (sort s c.by_long c.no_short v u.0))

  all_agree : (ws : List Text) → AreUtf8 ws → Agrees (at [] None idle 1 false) ws (option_and_then ask (query_words ws))
  all_agree ws u = meets_wanted read _ _ _ _ (same (query_words ws)) ((agree ws u).0 no_file None None [] None [] (nothing_waits s []) (holds_nothing three) false)
    where
      same : (rest : Option QueryWords) → option_and_then ask rest ≡ wanted three ask no_file None None rest
      same None = refl
      same (Some g) = refl

-- ---- the commands

query_no_workers : (files : Option (Text × Text)) (b : Option ℕ) → query_parts files None b ≡ None
query_no_workers None b = refl
query_no_workers (Some p) b = refl

query_no_block : (files : Option (Text × Text)) (w : Option ℕ) → query_parts files w None ≡ None
query_no_block None w = refl
query_no_block (Some p) None = refl
query_no_block (Some p) (Some n) = refl

query_asks : IsAsked query_asked
query_asks = record {
  no_workers = λ g e. ap (λ n. query_parts (two_files g.positionals) n (number_of 64 15 g.blocks)) e ∙ query_no_workers (two_files g.positionals) (number_of 64 15 g.blocks);
  no_block = λ g e. ap (λ n. query_parts (two_files g.positionals) (number_of 16 4 g.workers) n) e ∙ query_no_block (two_files g.positionals) (number_of 16 4 g.workers);
}

query_reads : (files : Files false) (w b : Option Text) (rows : List Row) → Holds false rows files w b → (p q : Text) (more : List Text) → listed files ≡ p ∷ q ∷ more
    → query_asked (record { positionals = listed files ++ []; workers = given w ++ []; blocks = given b ++ [] }) ≡ query_read rows
query_reads no_file w b rows h p q more e = absurd (omega (arith, ap length e))
query_reads (one_file x) w b rows h p q more e = absurd (omega (arith, ap length e))
query_reads (both_files x y) w b rows h p q more e =
    ap₂ (λ v z. query_parts (Some (x, y)) (number_of 16 4 v) (number_of 64 15 z)) (no_more w) (no_more b)
    ∙ sym (ap₂ (λ v z. query_given v z (first_of (codes "workers") rows) (first_of (codes "block") rows)) (first_said rows registry_id (Some x) h.registry) (first_said rows (codes "QUERY") (Some y) h.second)
    ∙ ap₂ (λ v z. query_given (Some x) (Some y) v z) (first_said rows (codes "workers") w h.workers_row) (first_said rows (codes "block") b h.block_row))
query_reads (three_files is x y z) w b rows h p q more e = absurd (true≢false (sym is))

abbrev query_shape : Shape
query_shape = (built query_app).top

is_query : IsForm false query_asked query_read query_shape
is_query = record {
  once = refl;
  plain_rules = (refl, (refl, (refl, (refl, tt))));
  registry = record { required = true; by_id = refl; by_index = refl; next = refl };
  second = record { required = true; by_id = refl; by_index = refl; next = refl };
  third = λ e. absurd (true≢false (sym e));
  no_third = λ e. refl;
  no_fourth = refl;
  options = by_name;
  by_long = λ name. refl;
  no_short = λ x. refl;
  checks = λ rows. refl;
  asks = query_asks;
  too_few = λ w b p. (refl, refl);
  two_at_most = λ e w b p q v more. refl;
  three_at_most = λ w b p q r v more. refl;
  reads = query_reads;
}
  where
    by_name : (o : Name) → arg_by_id query_shape.rules (text_of o) ≡ Some (rule_for o)
    by_name workers = refl
    by_name block = refl

pub query_simple : is_simple_and_free query_app ≡ true
query_simple = refl

pub query_plain : is_simple query_app ≡ true
query_plain = refl

pub query_meet : (words : List Text) → AreUtf8 words → Meets query_read (fault_of query_app words) (matches_of query_app words) (option_and_then query_asked (query_words (drop 1 words)))
query_meet words u =
    let ws = drop 1 words in
    meets_as query_read _ _ _ _ _ (one_level query_shape ws) refl (all_agree false query_asked query_read query_shape is_query ws (rest_utf8 words u))

-- ---- a served federation

gated_no_workers : (places : Option (Text × Text)) (count b : Option ℕ) → gated_parts places count None b ≡ None
gated_no_workers None count b = refl
gated_no_workers (Some p) None b = refl
gated_no_workers (Some p) (Some n) b = refl

gated_no_block : (places : Option (Text × Text)) (count w : Option ℕ) → gated_parts places count w None ≡ None
gated_no_block None count w = refl
gated_no_block (Some p) None w = refl
gated_no_block (Some p) (Some n) None = refl
gated_no_block (Some p) (Some n) (Some w) = refl

gated_no_count : (places : Option (Text × Text)) (w b : Option ℕ) → gated_parts places None w b ≡ None
gated_no_count None w b = refl
gated_no_count (Some p) w b = refl

serve_asks : IsAsked serve_asked
serve_asks = record {
  no_workers = λ g e. ap (λ n. gated_parts (first_two g.positionals) (counted (drop 2 g.positionals)) n (number_of 64 15 g.blocks)) e
      ∙ gated_no_workers (first_two g.positionals) (counted (drop 2 g.positionals)) (number_of 64 15 g.blocks);
  no_block = λ g e. ap (λ n. gated_parts (first_two g.positionals) (counted (drop 2 g.positionals)) (number_of 16 4 g.workers) n) e
      ∙ gated_no_block (first_two g.positionals) (counted (drop 2 g.positionals)) (number_of 16 4 g.workers);
}

-- what rows say of a registry, an address, and a count or none
serve_said : (w b : Option Text) (rows : List Row) (x y : Text) (n : Option Text) → first_of registry_id rows ≡ Some x → first_of (codes "ADDRESS") rows ≡ Some y → first_of count_id rows ≡ n
    → first_of (codes "workers") rows ≡ w → first_of (codes "block") rows ≡ b
    → gated_parts (Some (x, y)) (counted (given n)) (number_of 16 4 (given w ++ [])) (number_of 64 15 (given b ++ [])) ≡ serve_read rows
serve_said w b rows x y n e f g h k =
    ap₂ (λ v z. gated_parts (Some (x, y)) (counted (given n)) (number_of 16 4 v) (number_of 64 15 z)) (no_more w) (no_more b)
    ∙ sym (λ i. serve_given (e i) (f i) (g i) (h i) (k i))

serve_reads : (files : Files true) (w b : Option Text) (rows : List Row) → Holds true rows files w b → (p q : Text) (more : List Text) → listed files ≡ p ∷ q ∷ more
    → serve_asked (record { positionals = listed files ++ []; workers = given w ++ []; blocks = given b ++ [] }) ≡ serve_read rows
serve_reads no_file w b rows h p q more e = absurd (omega (arith, ap length e))
serve_reads (one_file x) w b rows h p q more e = absurd (omega (arith, ap length e))
serve_reads (both_files x y) w b rows h p q more e = serve_said w b rows x y None (first_said rows registry_id (Some x) h.registry) (first_said rows (codes "ADDRESS") (Some y) h.second)
    (first_said rows count_id None h.count) (first_said rows (codes "workers") w h.workers_row) (first_said rows (codes "block") b h.block_row)
serve_reads (three_files is x y z) w b rows h p q more e = serve_said w b rows x y (Some z) (first_said rows registry_id (Some x) h.registry) (first_said rows (codes "ADDRESS") (Some y) h.second)
    (first_said rows count_id (Some z) h.count) (first_said rows (codes "workers") w h.workers_row) (first_said rows (codes "block") b h.block_row)

abbrev serve_shape : Shape
serve_shape = (built serve_app).top

is_serve : IsForm true serve_asked serve_read serve_shape
is_serve = record {
  once = refl;
  plain_rules = (refl, (refl, (refl, (refl, (refl, tt)))));
  registry = record { required = true; by_id = refl; by_index = refl; next = refl };
  second = record { required = true; by_id = refl; by_index = refl; next = refl };
  third = λ e. record { required = false; by_id = refl; by_index = refl; next = refl };
  no_third = λ e. absurd (true≢false e);
  no_fourth = refl;
  options = by_name;
  by_long = λ name. refl;
  no_short = λ x. refl;
  checks = λ rows. refl;
  asks = serve_asks;
  too_few = λ w b p. (refl, refl);
  two_at_most = λ e w b p q v more. absurd (true≢false e);
  three_at_most = λ w b p q r v more. gated_no_count (Some (p, q)) (number_of 16 4 w) (number_of 64 15 b);
  reads = serve_reads;
}
  where
    by_name : (o : Name) → arg_by_id serve_shape.rules (text_of o) ≡ Some (rule_for o)
    by_name workers = refl
    by_name block = refl

pub serve_simple : is_simple_and_free serve_app ≡ true
serve_simple = refl

pub serve_plain : is_simple serve_app ≡ true
serve_plain = refl

pub serve_meet : (words : List Text) → AreUtf8 words → Meets serve_read (fault_of serve_app words) (matches_of serve_app words) (option_and_then serve_asked (query_words (drop 1 words)))
serve_meet words u =
    let ws = drop 1 words in
    meets_as serve_read _ _ _ _ _ (one_level serve_shape ws) refl (all_agree true serve_asked serve_read serve_shape is_serve ws (rest_utf8 words u))
