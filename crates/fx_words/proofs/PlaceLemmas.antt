-- Words of a command without options: each goes to the next place.
use Rattle.std.proofs.Common.{◌≡◌, ◌∙◌, ◌||◌, suc, ℕ, Bool, true, false, List, [], ◌∷◌, ◌++◌, Option, Some, None, if◌then◌else◌, refl, sym, ap, subst, map, bytes_eq, option_and_then, IsUtf8}
use Rattle.std.specs.List.{list_any}
use Rattle.clap.specs.Lexer.{long_of, short_of}
use Rattle.clap.specs.Walk.{Row, Text, Walk, arg_by_index, arg_by_long, arg_by_short, finished, has_row, idle}
use Rattle.clap.specs.Simple.{Shape}
use Rattle.clap.specs.Faults.{check_fault}
use Rattle.fx_words.specs.Commands.{in_front, is_option, positionals}
use Rattle.fx_words.proofs.LookLemmas.{Bad, Look, dashes, look, plain, strange}
use Rattle.fx_words.proofs.StepLemmas.{Goes, HasNoDefaults, IsPlace, Settles, at, bad_as, closes, end_check, end_rows, goes_behind, goes_plain, known, one_waits, said, same_end, same_fault, strange_bad, stray_behind, stray_plain, tail_fault, walk_end}

-- each text is valid
abbrev pub AreUtf8 : List Text → Type 0
AreUtf8 [] = Unit {0}
AreUtf8 (w ∷ ws) = IsUtf8 w × AreUtf8 ws

-- the words that are left, where the end of options was read or was not
abbrev pub positionals_from : Bool → List Text → Option (List Text)
positionals_from true ws = Some ws
positionals_from false ws = positionals ws

-- the rows with those of words that go to these places in turn, where there are enough
abbrev pub placed : List Text → List Text → List Row → Option (List Row)
placed [] ids done = Some done
placed (y ∷ ys) [] done = None
placed (y ∷ ys) (id ∷ ids) done = placed ys ids (done ++ said id y ∷ [])

-- the ids of the places from this one on, none of which stands among those before
abbrev pub Places : Shape → ℕ → List Text → List Text → Type 0
Places s position before [] = arg_by_index s.rules position ≡ None
Places s position before (id ∷ ids) = IsPlace s position id × (list_any (λ b. bytes_eq b id) before ≡ false) × Places s (suc position) (before ++ id ∷ []) ids

-- the ids of rows
abbrev ids_of : List Row → List Text
ids_of rows = map (λ (r : Row). r.id) rows

ids_more : (rows : List Row) (r : Row) → ids_of (rows ++ r ∷ []) ≡ ids_of rows ++ r.id ∷ []
ids_more [] r = refl
ids_more (x ∷ rows) r = ap (λ ids. x.id ∷ ids) (ids_more rows r)

has_id : (id : Text) (rows : List Row) → has_row id rows ≡ list_any (λ b. bytes_eq b id) (ids_of rows)
has_id id [] = refl
has_id id (r ∷ rows) = ap (λ b. bytes_eq r.id id || b) (has_id id rows)

-- where a walk ends: at a fault, or at these rows
abbrev pub Ends : Shape → Walk → List Text → Option (List Row) → Type 0
Ends s w ws None = Bad (tail_fault s w ws)
Ends s w ws (Some rows) = (tail_fault s w ws ≡ check_fault s rows false) × (finished s.rules (walk_end s w ws) ≡ rows)

module _ (s : Shape) (once : s.args_override_self ≡ false) (plain_rules : HasNoDefaults s.rules) (no_long : (name : Text) → arg_by_long s.rules name ≡ None)
    (no_short : (x : ℕ) → arg_by_short s.rules x ≡ None) where
  ends_next : (w : Walk) (v : Text) (next : Walk) (ws : List Text) → Goes s w v next → (o : Option (List Row)) → Ends s next ws o → Ends s w (v ∷ ws) o
  ends_next w v next ws g None h = bad_as _ _ (same_fault s w v next ws g) h
  ends_next w v next ws g (Some rows) h = (same_fault s w v next ws g ∙ h.0, ap (finished s.rules) (same_end s w v next ws g) ∙ h.1)

  -- so from each place on, whatever waits
  abbrev pub AllEnd : List Text → Type 0
  AllEnd ws = (ids : List Text) (position : ℕ) (before : List Text) (rows : List Row) (pending : Option (Text × List Text)) (done : List Row) → Settles s rows pending done → ids_of done ≡ before
      → Places s position before ids → (t : Bool) → Ends s (at rows pending idle position t) ws (option_and_then (λ ys. placed ys ids done) (positionals_from t ws))

  -- a word that goes to a place, and those behind it
  module _ (v : Text) (ws : List Text) (all : AllEnd ws) (id : Text) (ids : List Text) (position : ℕ) (before : List Text) (rows : List Row) (pending : Option (Text × List Text))
      (done : List Row) (g : Settles s rows pending done) (is : ids_of done ≡ before) (p : Places s position before (id ∷ ids)) where
    rest : (t : Bool) → Ends s (at done (Some (id, v ∷ [])) idle (suc position) t) ws (option_and_then (λ ys. placed ys ids (done ++ said id v ∷ [])) (positionals_from t ws))
    rest t =
        let none : has_row id done ≡ false = has_id id done ∙ ap (list_any (λ b. bytes_eq b id)) is ∙ p.1 in
        all ids (suc position) (before ++ id ∷ []) done (Some (id, v ∷ [])) (done ++ said id v ∷ []) (one_waits s id v done once (known s position id p.0) none)
        (ids_more done (said id v) ∙ ap (λ xs. xs ++ id ∷ []) is) p.2 t

    behind_end : Ends s (at rows pending idle position true) (v ∷ ws) (placed ws ids (done ++ said id v ∷ []))
    behind_end = ends_next _ v _ ws (goes_behind s rows pending position v id done g p.0) _ (rest true)

    before_end : bytes_eq v (45 ∷ 45 ∷ []) ≡ false → long_of v ≡ None → short_of v ≡ None
        → Ends s (at rows pending idle position false) (v ∷ ws) (option_and_then (λ ys. placed ys ids (done ++ said id v ∷ [])) (positionals ws))
    before_end d l sh = ends_next _ v _ ws (goes_plain s rows pending position v id done g p.0 d l sh) _ (rest false)

  module _ (v : Text) (ws : List Text) (all : AllEnd ws) (position : ℕ) (before : List Text) (rows : List Row) (pending : Option (Text × List Text)) (done : List Row)
      (g : Settles s rows pending done) (is : ids_of done ≡ before) where
    abbrev Wanted : List Text → Option (List Text) → Type 0
    Wanted ids words = Ends s (at rows pending idle position false) (v ∷ ws) (option_and_then (λ ys. placed ys ids done) words)

    words_are : (ids : List Text) (words : Option (List Text)) → positionals (v ∷ ws) ≡ words → Wanted ids words → Wanted ids (positionals (v ∷ ws))
    words_are ids words e h = subst (Wanted ids) (sym e) h

    fits : (id : Text) (ids : List Text) (words : Option (List Text)) → Ends s (at rows pending idle position false) (v ∷ ws) (option_and_then (λ ys. placed ys ids (done ++ said id v ∷ [])) words)
        → Wanted (id ∷ ids) (in_front (Some v) words)
    fits id ids None h = h
    fits id ids (Some ys) h = h

    stray : (words : Option (List Text)) → Bad (tail_fault s (at rows pending idle position false) (v ∷ ws)) → Wanted [] (in_front (Some v) words)
    stray None h = h
    stray (Some ys) h = h

    open_words : bytes_eq v (45 ∷ 45 ∷ []) ≡ false → (o : Bool) → is_option v ≡ o → positionals (v ∷ ws) ≡ (if o then None else in_front (Some v) (positionals ws))
    open_words d o e = ap (λ (b : Bool). if b then Some ws else if is_option v then None else in_front (Some v) (positionals ws)) d
        ∙ ap (λ (b : Bool). if b then None else in_front (Some v) (positionals ws)) e

    by_look : Look s v → (ids : List Text) → Places s position before ids → Wanted ids (positionals (v ∷ ws))
    by_look (dashes d) ids p = words_are ids (Some ws) (ap (λ (b : Bool). if b then Some ws else if is_option v then None else in_front (Some v) (positionals ws)) d)
        (ends_next _ v _ ws (closes s rows pending position v d) _ (all ids position before rows pending done g is p true))
    by_look (strange d o h) ids p = words_are ids None (open_words d true o) (strange_bad s rows pending position v ws h)
    by_look (plain d o l sh) [] p = words_are [] (in_front (Some v) (positionals ws)) (open_words d false o) (stray (positionals ws) (stray_plain s rows pending position v ws p d l sh))
    by_look (plain d o l sh) (id ∷ ids) p = words_are (id ∷ ids) (in_front (Some v) (positionals ws)) (open_words d false o)
        (fits id ids (positionals ws) (before_end v ws all id ids position before rows pending done g is p d l sh))

  word : (v : Text) (ws : List Text) → IsUtf8 v → AllEnd ws → AllEnd (v ∷ ws)
  word v ws u all [] position before rows pending done g is p true = stray_behind s rows pending position v ws p
  word v ws u all (id ∷ ids) position before rows pending done g is p true = behind_end v ws all id ids position before rows pending done g is p
  word v ws u all ids position before rows pending done g is p false = by_look v ws all position before rows pending done g is (look s no_long no_short v u) ids p

  no_word : AllEnd []
  no_word ids position before rows pending done g is p true =
      (end_check s rows pending idle position true done plain_rules g, end_rows s rows pending idle position true done plain_rules g)
  no_word ids position before rows pending done g is p false =
      (end_check s rows pending idle position false done plain_rules g, end_rows s rows pending idle position false done plain_rules g)

  pub all_end : (ws : List Text) → AreUtf8 ws → AllEnd ws
  all_end [] u = no_word
  all_end (v ∷ ws) u = word v ws u.0 (all_end ws u.1)
