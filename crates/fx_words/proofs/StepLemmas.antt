-- What the parser makes of one word more, where each argument takes one value.
use Rattle.std.proofs.Common.{◌≡◌, ◌∙◌, suc, ◌+◌, ◌==◌, ◌&&◌, ◌||◌, ℕ, Bool, true, false, true≢false, List, [], ◌∷◌, ◌++◌, Option, Some, None, if◌then◌else◌, refl, sym, ap, subst, length, min, fold, bytes_eq, append-nil}
use Rattle.std.specs.Option.{option_map_or}
use Rattle.clap.specs.Lexer.{long_of, short_of, usize_max}
use Rattle.clap.specs.Values.{reading_of}
use Rattle.clap.specs.Walk.{Held, Row, Rule, Step, Text, Waiting, Walk, after_step, arg_by_id, arg_by_index, at_row, default_rows, finished, has_row, idle, is_pending, long_or_other, more_values, pushed, reading_by, settled, settled_rows, short_or_plain, takes_several, to_positional, trailing, used, used_by_id, value, walked, with_default, with_values, without, word_met}
use Rattle.clap.specs.Simple.{Shape}
use Rattle.clap.specs.Kinds.{Kinds, or_else}
use Rattle.clap.specs.Faults.{bundle_fault, check_fault, defaults_fault, default_fault, flag_word_fault, given_default_fault, positional_fault, settle_fault, step_fault, stray_fault, turn_fault, use_fault, walk_fault, word_fault}
use Rattle.clap.specs.declared.builder.action.ArgAction.TheVariants.{Set}
use Rattle.clap.specs.declared.error.kind.ErrorKind.TheVariants.{ArgumentConflict}
use Rattle.clap.specs.declared.builder.value_parser.ValueParser.TheVariants as vp
use Rattle.clap.specs.declared.parser.matches.ValueSource.TheVariants.{CommandLine}
use Rattle.fx_words.proofs.LookLemmas.{Bad, IsStrange, held}

-- an argument that takes one value, as a built command has it
abbrev pub one_value : Text → Option Text → Option ℕ → Bool → Rule
one_value id long index required = record {
  id = id;
  long = long;
  aliases = [];
  short = None;
  short_aliases = [];
  index = index;
  action = Some Set;
  range = Some (record { start_inclusive = 1; end_inclusive = 1 });
  value_names = 0;
  defaults = [];
  missing = [];
  trailing_var_arg = false;
  parser = Some vp.String;
  ignore_case = false;
  required = required;
  is_simple = true;
  is_free = true;
}

-- the row of an argument that was given a value
abbrev pub said : Text → Text → Row
said id v = record { id = id; values = v ∷ []; count = None; source = Some CommandLine; reading = reading_of vp.String }

-- the walk between two words
abbrev pub at : List Row → Option (Text × List Text) → Waiting → ℕ → Bool → Walk
at rows pending waiting position is_trailing = record { held = held rows pending; waiting = waiting; position = position; is_trailing = is_trailing; stopped = None }

-- ---- faults

pub bad_first : (a b : Kinds) → Bad a → Bad (or_else a b)
bad_first [] b h = absurd h
bad_first (k ∷ ks) b h = tt

pub bad_second : (a b : Kinds) → Bad b → Bad (or_else a b)
bad_second [] b h = h
bad_second (k ∷ ks) b h = tt

pub bad_as : (a b : Kinds) → a ≡ b → Bad b → Bad a
bad_as a b e h = subst Bad (sym e) h

pub stray_bad : (s : Shape) → Bad (stray_fault s)
stray_bad s = go s.is_leaf
  where
    go : (leaf : Bool) → Bad (stray_fault (record s { is_leaf = leaf }))
    go true = tt
    go false = tt

-- ---- rows

pub and_false : (b : Bool) → (b && false) ≡ false
and_false true = refl
and_false false = refl

pub or_false : (b : Bool) → (b || false) ≡ b
or_false true = refl
or_false false = refl

pub at_absent : (id : Text) (change : Row → List Row) (missing rows : List Row) → has_row id rows ≡ false → at_row id change missing rows ≡ rows ++ missing
at_absent id change missing [] none = refl
at_absent id change missing (r ∷ rs) none = go (bytes_eq r.id id) none (at_absent id change missing rs)
  where
    go : (t : Bool) → (t || has_row id rs) ≡ false → (has_row id rs ≡ false → at_row id change missing rs ≡ rs ++ missing)
        → (if t then change r ++ rs else r ∷ at_row id change missing rs) ≡ r ∷ (rs ++ missing)
    go true n more = absurd (true≢false n)
    go false n more = ap (λ xs. r ∷ xs) (more n)

-- a use of an argument that has no row yet adds one
pub used_once : (id : Text) (long : Option Text) (index : Option ℕ) (required : Bool) (v : Text) (rows : List Row) → has_row id rows ≡ false
    → used (one_value id long index required) (v ∷ []) rows ≡ rows ++ said id v ∷ []
used_once id long index required v rows none =
    let kept : without id rows ≡ rows = at_absent id (λ _. []) [] rows none ∙ append-nil rows in
    ap (λ rs. with_values id (reading_of vp.String) CommandLine (v ∷ []) rs) kept ∙ at_absent id (more_values CommandLine (v ∷ [])) (said id v ∷ []) rows none

-- it passes there, and is refused where the argument has a row
pub use_passes : (id : Text) (long : Option Text) (index : Option ℕ) (required : Bool) (v : Text) (rows : List Row) → has_row id rows ≡ false
    → use_fault false (one_value id long index required) (v ∷ []) rows ≡ []
use_passes id long index required v rows none = ap (λ b. or_else (if b && true then ArgumentConflict ∷ [] else []) []) none

pub use_refused : (id : Text) (long : Option Text) (index : Option ℕ) (required : Bool) (v : Text) (rows : List Row) → has_row id rows ≡ true
    → Bad (use_fault false (one_value id long index required) (v ∷ []) rows)
use_refused id long index required v rows has = bad_as _ (ArgumentConflict ∷ []) (ap (λ b. or_else (if b && true then ArgumentConflict ∷ [] else []) []) has) tt

pub has_row_more : (id : Text) (rows : List Row) (r : Row) → has_row id (rows ++ r ∷ []) ≡ (has_row id rows || bytes_eq r.id id)
has_row_more id [] r = or_false _
has_row_more id (x ∷ rows) r = ap (λ b. bytes_eq x.id id || b) (has_row_more id rows r) ∙ sym (or_assoc (bytes_eq x.id id) (has_row id rows) (bytes_eq r.id id))
  where
    or_assoc : (a b c : Bool) → ((a || b) || c) ≡ (a || (b || c))
    or_assoc true b c = refl
    or_assoc false b c = refl

-- ---- what a command is of which the arguments take one value each

-- no argument has a default
abbrev pub HasNoDefaults : List Rule → Type 0
HasNoDefaults [] = Unit {0}
HasNoDefaults (a ∷ rest) = (a.defaults ≡ []) × HasNoDefaults rest

-- the argument of an id takes one value
pub record IsKnown (s : Shape) (id : Text) : Type 0 where
  pub long : Option Text
  pub index : Option ℕ
  pub required : Bool
  pub by_id : arg_by_id s.rules id ≡ Some (one_value id long index required)

-- the word at this place goes to the argument of this id
pub record IsPlace (s : Shape) (position : ℕ) (id : Text) : Type 0 where
  pub required : Bool
  pub by_id : arg_by_id s.rules id ≡ Some (one_value id None (Some position) required)
  pub by_index : arg_by_index s.rules position ≡ Some (one_value id None (Some position) required)
  pub next : min (position + 1) usize_max ≡ suc position

abbrev pub known : (s : Shape) (position : ℕ) (id : Text) → IsPlace s position id → IsKnown s id
known s position id p = record { long = None; index = Some position; required = p.required; by_id = p.by_id }

-- what is held comes to these rows
pub record Settles (s : Shape) (rows : List Row) (pending : Option (Text × List Text)) (done : List Row) : Type 0 where
  pub rows_are : settled_rows s.rules pending rows ≡ done
  pub passes : settle_fault s.rules s.args_override_self (held rows pending) ≡ []

module _ (s : Shape) where
  pub nothing_waits : (done : List Row) → Settles s done None done
  nothing_waits done = record { rows_are = refl; passes = refl }

  -- an argument with a value waits, and has none yet
  pub one_waits : (id v : Text) (rows : List Row) → s.args_override_self ≡ false → IsKnown s id → has_row id rows ≡ false → Settles s rows (Some (id, v ∷ [])) (rows ++ said id v ∷ [])
  one_waits id v rows once k none = record {
    rows_are = ap (λ o. used_by_id o (v ∷ []) rows) k.by_id ∙ used_once id k.long k.index k.required v rows none;
    passes = ap (λ o. option_map_or (λ a. use_fault s.args_override_self a (v ∷ []) rows) o []) k.by_id
        ∙ ap (λ again. use_fault again (one_value id k.long k.index k.required) (v ∷ []) rows) once
        ∙ use_passes id k.long k.index k.required v rows none;
  }

  -- an argument with a value waits, which it had before
  pub twice_bad : (id v : Text) (rows : List Row) → s.args_override_self ≡ false → IsKnown s id → has_row id rows ≡ true → Bad (settle_fault s.rules s.args_override_self (held rows (Some (id, v ∷ []))))
  twice_bad id v rows once k has = bad_as _ _ (ap (λ o. option_map_or (λ a. use_fault s.args_override_self a (v ∷ []) rows) o []) k.by_id
      ∙ ap (λ again. use_fault again (one_value id k.long k.index k.required) (v ∷ []) rows) once)
      (use_refused id k.long k.index k.required v rows has)

  -- an argument without a value waits
  pub none_bad : (id : Text) (rows : List Row) → IsKnown s id → Bad (settle_fault s.rules s.args_override_self (held rows (Some (id, []))))
  none_bad id rows k = bad_as _ _ (ap (λ o. option_map_or (λ a. use_fault s.args_override_self a [] rows) o []) k.by_id) tt

  -- ---- a walk, and what comes behind it

  abbrev pub end_fault : Held → Kinds
  end_fault end = or_else (settle_fault s.rules s.args_override_self end) (or_else (defaults_fault (settled s.rules end).rows s.rules) (check_fault s (finished s.rules end) false))

  abbrev pub walk_end : Walk → List Text → Held
  walk_end w ws = (fold (walked s.rules []) w ws).held

  abbrev pub tail_fault : Walk → List Text → Kinds
  tail_fault w ws = or_else (walk_fault s [] w ws) (end_fault (walk_end w ws))

  -- a walk goes on as that behind a word which passes
  pub record Goes (w : Walk) (v : Text) (next : Walk) : Type 0 where
    pub passes : turn_fault s [] w v ≡ []
    pub after : walked s.rules [] w v ≡ next

  pub same_fault : (w : Walk) (v : Text) (next : Walk) (ws : List Text) → Goes w v next → tail_fault w (v ∷ ws) ≡ tail_fault next ws
  unfolding walk_fault
  same_fault w v next ws g =
      ap (λ ks. or_else (or_else ks (walk_fault s [] (walked s.rules [] w v) ws)) (end_fault (walk_end (walked s.rules [] w v) ws))) g.passes ∙ ap (λ (u : Walk). tail_fault u ws) g.after

  pub same_end : (w : Walk) (v : Text) (next : Walk) (ws : List Text) → Goes w v next → walk_end w (v ∷ ws) ≡ walk_end next ws
  same_end w v next ws g = ap (λ (u : Walk). walk_end u ws) g.after

  pub bad_turn : (w : Walk) (v : Text) (ws : List Text) → Bad (turn_fault s [] w v) → Bad (tail_fault w (v ∷ ws))
  unfolding walk_fault
  bad_turn w v ws h = bad_first _ _ (bad_first _ _ h)

  pub bad_end : (w : Walk) → Bad (settle_fault s.rules s.args_override_self w.held) → Bad (tail_fault w [])
  unfolding walk_fault
  bad_end w h = bad_first _ _ h

  -- ---- the end

  defaulted : (rows : List Row) (a : Rule) → a.defaults ≡ [] → with_default rows a ≡ rows
  defaulted rows a none = ap (λ ds. if has_row a.id rows then rows else default_rows a.id (reading_by a) ds rows) none ∙ go (has_row a.id rows)
    where
      go : (b : Bool) → (if b then rows else rows) ≡ rows
      go true = refl
      go false = refl

  no_default_fault : (rows : List Row) (a : Rule) → a.defaults ≡ [] → default_fault rows a ≡ []
  no_default_fault rows a none = ap (λ ds. if has_row a.id rows || length ds == 0 then [] else given_default_fault a ds) none ∙ go (has_row a.id rows)
    where
      go : (b : Bool) → (if b || true then [] else given_default_fault a []) ≡ []
      go true = refl
      go false = refl

  all_defaulted : (rules : List Rule) (rows : List Row) → HasNoDefaults rules → fold with_default rows rules ≡ rows
  all_defaulted [] rows h = refl
  all_defaulted (a ∷ rest) rows h = ap (λ rs. fold with_default rs rest) (defaulted rows a h.0) ∙ all_defaulted rest rows h.1

  no_defaults_fault : (rules : List Rule) (rows : List Row) → HasNoDefaults rules → defaults_fault rows rules ≡ []
  unfolding defaults_fault
  no_defaults_fault [] rows h = refl
  no_defaults_fault (a ∷ rest) rows h =
      ap (λ ks. or_else ks (defaults_fault (with_default rows a) rest)) (no_default_fault rows a h.0) ∙ ap (λ rs. defaults_fault rs rest) (defaulted rows a h.0) ∙ no_defaults_fault rest rows h.1

  -- the rows at the end
  pub end_rows : (rows : List Row) (pending : Option (Text × List Text)) (waiting : Waiting) (position : ℕ) (t : Bool) (done : List Row) → HasNoDefaults s.rules → Settles s rows pending done
      → finished s.rules (walk_end (at rows pending waiting position t) []) ≡ done
  end_rows rows pending waiting position t done plain g = ap (λ rs. fold with_default rs s.rules) g.rows_are ∙ all_defaulted s.rules done plain

  -- and the fault there
  pub end_check : (rows : List Row) (pending : Option (Text × List Text)) (waiting : Waiting) (position : ℕ) (t : Bool) (done : List Row) → HasNoDefaults s.rules → Settles s rows pending done
      → tail_fault (at rows pending waiting position t) [] ≡ check_fault s done false
  unfolding walk_fault
  end_check rows pending waiting position t done plain g =
      ap (λ ks. or_else ks (or_else (defaults_fault (settled_rows s.rules pending rows) s.rules) (check_fault s (fold with_default (settled_rows s.rules pending rows) s.rules) false))) g.passes
      ∙ ap (λ rs. or_else (defaults_fault rs s.rules) (check_fault s (fold with_default rs s.rules) false)) g.rows_are
      ∙ ap (λ ks. or_else ks (check_fault s (fold with_default done s.rules) false)) (no_defaults_fault s.rules done plain)
      ∙ ap (λ rs. check_fault s rs false) (all_defaulted s.rules done plain)

  -- ---- words

  -- the end of options
  pub closes : (rows : List Row) (pending : Option (Text × List Text)) (position : ℕ) (v : Text) → bytes_eq v (45 ∷ 45 ∷ []) ≡ true
      → Goes (at rows pending idle position false) v (at rows pending idle position true)
  unfolding walked
  closes rows pending position v d =
      let h = held rows pending in
      let met : word_met s.rules [] false idle position v h ≡ (h, trailing position) = ap (λ (b : Bool). if b then (h, trailing position) else long_or_other s.rules idle v (long_of v) h) d in
      record {
        passes = ap (λ (m : Held × Step). or_else (word_fault s [] false idle v h) (step_fault s position m.0 m.1)) met
            ∙ ap (λ (b : Bool). or_else (if b then [] else flag_word_fault s.rules s.args_override_self (long_of v) v h) []) d;
        after = ap (λ (m : Held × Step). after_step s.rules v (at rows pending idle position false) m.0 m.1) met;
      }

  -- an option that is refused
  pub strange_bad : (rows : List Row) (pending : Option (Text × List Text)) (position : ℕ) (v : Text) (ws : List Text) → IsStrange s v → Bad (tail_fault (at rows pending idle position false) (v ∷ ws))
  strange_bad rows pending position v ws h = bad_turn _ v ws (bad_first _ _ (h rows pending))

  -- what a word is that goes to a positional
  plain_met : (rows : List Row) (pending : Option (Text × List Text)) (position : ℕ) (v : Text) → bytes_eq v (45 ∷ 45 ∷ []) ≡ false → long_of v ≡ None → short_of v ≡ None
      → word_met s.rules [] false idle position v (held rows pending) ≡ (held rows pending, value)
  plain_met rows pending position v d l sh =
      let h = held rows pending in
      ap (λ (b : Bool). if b then (h, trailing position) else long_or_other s.rules idle v (long_of v) h) d
      ∙ ap (λ o. long_or_other s.rules idle v o h) l
      ∙ ap (λ o. short_or_plain s.rules idle v o h) sh

  plain_passes : (rows : List Row) (pending : Option (Text × List Text)) (v : Text) → bytes_eq v (45 ∷ 45 ∷ []) ≡ false → long_of v ≡ None → short_of v ≡ None
      → word_fault s [] false idle v (held rows pending) ≡ []
  plain_passes rows pending v d l sh =
      let h = held rows pending in
      ap (λ (b : Bool). if b then [] else flag_word_fault s.rules s.args_override_self (long_of v) v h) d
      ∙ ap (λ o. flag_word_fault s.rules s.args_override_self o v h) l
      ∙ ap (λ o. option_map_or (λ flags. bundle_fault s.rules s.args_override_self flags h) o []) sh

  -- the walk once a word went to its positional
  module _ (rows : List Row) (pending : Option (Text × List Text)) (position : ℕ) (v : Text) where
    not_held : (a : Rule) → takes_several a ≡ false → (is_pending a pending && takes_several a) ≡ false
    not_held a one = ap (λ b. is_pending a pending && b) one ∙ and_false (is_pending a pending)

    placed_walk : (id : Text) (t : Bool) (done : List Row) → Settles s rows pending done → (p : IsPlace s position id)
        → to_positional s.rules (arg_by_index s.rules position) v (at rows pending idle position t) (held rows pending) ≡ at done (Some (id, v ∷ [])) idle (suc position) t
    placed_walk id t done g p =
        let a = one_value id None (Some position) p.required in
        ap (λ o. to_positional s.rules o v (at rows pending idle position t) (held rows pending)) p.by_index
        ∙ (λ i. record {
          held = pushed id v (if not_held a refl i then held rows pending else settled s.rules (held rows pending));
          waiting = idle;
          position = min (position + 1) usize_max;
          is_trailing = or_false t i;
          stopped = None;
        })
        ∙ (λ i. at (g.rows_are i) (Some (id, v ∷ [])) idle (p.next i) t)

    place_passes : (id : Text) (done : List Row) → Settles s rows pending done → (p : IsPlace s position id) → step_fault s position (held rows pending) value ≡ []
    place_passes id done g p =
        let a = one_value id None (Some position) p.required in
        ap (λ o. option_map_or (λ x. positional_fault s.rules s.args_override_self x (held rows pending)) o (stray_fault s)) p.by_index
        ∙ ap (λ (b : Bool). if b then [] else settle_fault s.rules s.args_override_self (held rows pending)) (not_held a refl)
        ∙ g.passes

    no_place_bad : arg_by_index s.rules position ≡ None → Bad (step_fault s position (held rows pending) value)
    no_place_bad none = bad_as _ _ (ap (λ o. option_map_or (λ x. positional_fault s.rules s.args_override_self x (held rows pending)) o (stray_fault s)) none) (stray_bad s)

    -- a word behind the end of options, or a plain one, goes to its place
    pub goes_behind : (id : Text) (done : List Row) → Settles s rows pending done → IsPlace s position id
        → Goes (at rows pending idle position true) v (at done (Some (id, v ∷ [])) idle (suc position) true)
    unfolding walked
    goes_behind id done g p = record { passes = place_passes id done g p; after = placed_walk id true done g p }

    pub goes_plain : (id : Text) (done : List Row) → Settles s rows pending done → IsPlace s position id → bytes_eq v (45 ∷ 45 ∷ []) ≡ false → long_of v ≡ None → short_of v ≡ None
        → Goes (at rows pending idle position false) v (at done (Some (id, v ∷ [])) idle (suc position) false)
    unfolding walked
    goes_plain id done g p d l sh =
        let met = plain_met rows pending position v d l sh in
        record {
          passes = ap (λ (m : Held × Step). or_else (word_fault s [] false idle v (held rows pending)) (step_fault s position m.0 m.1)) met
              ∙ ap (λ ks. or_else ks (step_fault s position (held rows pending) value)) (plain_passes rows pending v d l sh)
              ∙ place_passes id done g p;
          after = ap (λ (m : Held × Step). after_step s.rules v (at rows pending idle position false) m.0 m.1) met ∙ placed_walk id false done g p;
        }

    -- and is refused where there is none
    pub stray_behind : (ws : List Text) → arg_by_index s.rules position ≡ None → Bad (tail_fault (at rows pending idle position true) (v ∷ ws))
    stray_behind ws none = bad_turn _ v ws (no_place_bad none)

    pub stray_plain : (ws : List Text) → arg_by_index s.rules position ≡ None → bytes_eq v (45 ∷ 45 ∷ []) ≡ false → long_of v ≡ None → short_of v ≡ None
        → Bad (tail_fault (at rows pending idle position false) (v ∷ ws))
    stray_plain ws none d l sh = bad_turn _ v ws (bad_second _ _
        (bad_as _ _ (ap (λ (m : Held × Step). step_fault s position m.0 m.1) (plain_met rows pending position v d l sh)) (no_place_bad none)))
