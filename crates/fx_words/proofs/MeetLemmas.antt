-- What a parse comes to, and what the words ask for, side by side.
use Rattle.std.proofs.Common.{◌≡◌, false, is_some, List, [], ◌∷◌, Option, Some, None, refl, sym, ap₂, subst, map, drop, option_and_then, string_bytes, String}
use Rattle.std.proofs.lemmas.Str.{IsUtf8-string_bytes}
use Rattle.clap.specs.Walk.{Row, Text, finished, idle, nothing_held, walk}
use Rattle.clap.specs.Simple.{App, Shape, entered}
use Rattle.clap.specs.Kinds.{IsAmong, Kinds}
use Rattle.clap.specs.Faults.{built_fault, check_fault, entered_fault, level_fault}
use Rattle.clap.specs.declared.error.kind.ErrorKind.{ErrorKind}
use Rattle.fx_words.proofs.LookLemmas.{Bad}
use Rattle.fx_words.proofs.StepLemmas.{at, tail_fault, walk_end}
use Rattle.fx_words.proofs.PlaceLemmas.{AreUtf8, Ends, placed}

-- without a fault the words ask for what is read of the rows, with one for nothing
abbrev pub Meets : {X : Type 0} → (List Row → Option X) → Kinds → List Row → Option X → Type 0
Meets read [] rows wanted = wanted ≡ read rows
Meets read (k ∷ ks) rows wanted = wanted ≡ None

module _ {X : Type 0} (read : List Row → Option X) where
  pub meets_as : (a b : Kinds) (rows now : List Row) (wanted : Option X) → a ≡ b → rows ≡ now → Meets read b now wanted → Meets read a rows wanted
  meets_as a b rows now wanted e f m = subst (λ ks. Meets read ks rows wanted) (sym e) (subst (λ rs. Meets read b rs wanted) (sym f) m)

  pub meets_bad : (ks : Kinds) (rows : List Row) (wanted : Option X) → Bad ks → wanted ≡ None → Meets read ks rows wanted
  meets_bad [] rows wanted h e = absurd h
  meets_bad (k ∷ ks) rows wanted h e = e

  pub meets_ok : (ks : Kinds) (rows : List Row) (wanted : Option X) → ks ≡ [] → Meets read ks rows wanted → wanted ≡ read rows
  meets_ok ks rows wanted e m = subst (λ k. Meets read k rows wanted) e m

  pub meets_fault : (ks : Kinds) (k : ErrorKind) (rows : List Row) (wanted : Option X) → IsAmong k ks → Meets read ks rows wanted → wanted ≡ None
  meets_fault [] k rows wanted h m = absurd h
  meets_fault (x ∷ ks) k rows wanted h m = m

  pub meets_wanted : (ks : Kinds) (rows : List Row) (a b : Option X) → a ≡ b → Meets read ks rows b → Meets read ks rows a
  meets_wanted ks rows a b e m = subst (Meets read ks rows) (sym e) m

-- what places make of these words is what they ask for
abbrev pub Fits : {X : Type 0} → (List Row → Option X) → Shape → Option (List Row) → Option X → Type 0
Fits read s None wanted = wanted ≡ None
Fits read s (Some rows) wanted = Meets read (check_fault s rows false) rows wanted

module _ {X : Type 0} (read : List Row → Option X) (wanted : List Text → Option X) (s : Shape) (ids : List Text) (fits : (ys : List Text) → Fits read s (placed ys ids []) (wanted ys)) where
  ends_meet : (ws : List Text) (o : Option (List Row)) (goal : Option X) → Ends s (at [] None idle 1 false) ws o → Fits read s o goal
      → Meets read (tail_fault s (at [] None idle 1 false) ws) (finished s.rules (walk_end s (at [] None idle 1 false) ws)) goal
  ends_meet ws None goal e f = meets_bad read _ _ goal e f
  ends_meet ws (Some rows) goal e f = meets_as read _ _ _ _ goal e.0 e.1 f

  pub words_meet : (ws : List Text) (words : Option (List Text)) → Ends s (at [] None idle 1 false) ws (option_and_then (λ ys. placed ys ids []) words)
      → Meets read (tail_fault s (at [] None idle 1 false) ws) (finished s.rules (walk_end s (at [] None idle 1 false) ws)) (option_and_then wanted words)
  words_meet ws None e = ends_meet ws None None e refl
  words_meet ws (Some ys) e = ends_meet ws (placed ys ids []) (wanted ys) e (fits ys)

-- ---- a command without subcommands

module _ (s : Shape) where
  abbrev alone : App
  alone = record { top = s; subs = [] }

  not_entered : (stop : Option (Text × List Text)) → entered alone stop ≡ None
  not_entered None = refl
  not_entered (Some p) = refl

  not_below : (stop : Option (Text × List Text)) → entered_fault alone stop ≡ []
  not_below None = refl
  not_below (Some p) = refl

  pub one_level : (ws : List Text) → built_fault alone nothing_held ws ≡ tail_fault s (at [] None idle 1 false) ws
  one_level ws =
      let stop = (walk s.rules [] nothing_held ws).stopped in
      ap₂ (λ (o : Option (Text × List Row)) (ks : Kinds). level_fault s [] nothing_held ws (is_some o) ks) (not_entered stop) (not_below stop)

-- ---- the words are texts

pub are_utf8 : {Z : Type 0} (words : List (String Z)) → AreUtf8 (map (λ w. string_bytes w) words)
are_utf8 [] = tt
are_utf8 (w ∷ ws) = (IsUtf8-string_bytes w, are_utf8 ws)

pub rest_utf8 : (words : List Text) → AreUtf8 words → AreUtf8 (drop 1 words)
rest_utf8 [] u = tt
rest_utf8 (w ∷ ws) u = u.1
