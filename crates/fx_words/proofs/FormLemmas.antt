-- The commands without options, as the parser reads them.
use Rattle.std.proofs.Common.{◌≡◌, true, false, List, [], ◌∷◌, None, refl, codes, drop, option_and_then}
use Rattle.clap.specs.Walk.{Text}
use Rattle.clap.specs.Simple.{Shape, built, is_simple, matches_of}
use Rattle.clap.specs.Faults.{fault_of, is_simple_and_free}
use Rattle.fx_words.specs.Commands.{generate_asked, member_asked, positionals, two_files}
use Rattle.fx_words.specs.Parsed.{files_app, files_read, generate_app, generate_read, member_app, member_read}
use Rattle.fx_words.proofs.StepLemmas.{nothing_waits}
use Rattle.fx_words.proofs.PlaceLemmas.{AreUtf8, Places, all_end, placed}
use Rattle.fx_words.proofs.MeetLemmas.{Fits, Meets, meets_as, one_level, rest_utf8, words_meet}

-- ---- two files

module _ (name : Text) where
  abbrev files : Shape
  files = (built (files_app name)).top

  files_places : Places files 1 [] (codes "FILE" ∷ codes "QUERY" ∷ [])
  files_places = (record { required = true; by_id = refl; by_index = refl; next = refl }, refl, (record { required = true; by_id = refl; by_index = refl; next = refl }, refl, refl))

  files_fit : (ys : List Text) → Fits files_read files (placed ys (codes "FILE" ∷ codes "QUERY" ∷ []) []) (two_files ys)
  files_fit [] = refl
  files_fit (a ∷ []) = refl
  files_fit (a ∷ b ∷ []) = refl
  files_fit (a ∷ b ∷ c ∷ ys) = refl

  pub files_simple : is_simple_and_free (files_app name) ≡ true
  files_simple = refl

  pub files_plain : is_simple (files_app name) ≡ true
  files_plain = refl

  pub files_meet : (words : List Text) → AreUtf8 words → Meets files_read (fault_of (files_app name) words) (matches_of (files_app name) words) (option_and_then two_files (positionals (drop 1 words)))
  files_meet words u =
      let ws = drop 1 words in
      meets_as files_read _ _ _ _ _ (one_level files ws) refl
      (words_meet files_read two_files files (codes "FILE" ∷ codes "QUERY" ∷ []) files_fit ws (positionals ws)
      (all_end files refl (refl, (refl, tt)) (λ n. refl) (λ x. refl) ws (rest_utf8 words u) _ 1 [] [] None [] (nothing_waits files []) refl files_places false))

-- ---- a file, an address and a count

abbrev member : Shape
member = (built member_app).top

abbrev member_ids : List Text
member_ids = codes "GRAPH" ∷ codes "ADDRESS" ∷ codes "COUNT" ∷ []

member_places : Places member 1 [] member_ids
member_places = (
  record { required = true; by_id = refl; by_index = refl; next = refl },
  refl,
  (
    record { required = true; by_id = refl; by_index = refl; next = refl },
    refl,
    (record { required = false; by_id = refl; by_index = refl; next = refl }, refl, refl),
  ),
)

member_fit : (ys : List Text) → Fits member_read member (placed ys member_ids []) (member_asked ys)
member_fit [] = refl
member_fit (a ∷ []) = refl
member_fit (a ∷ b ∷ []) = refl
member_fit (a ∷ b ∷ c ∷ []) = refl
member_fit (a ∷ b ∷ c ∷ d ∷ ys) = refl

pub member_simple : is_simple_and_free member_app ≡ true
member_simple = refl

pub member_plain : is_simple member_app ≡ true
member_plain = refl

pub member_meet : (words : List Text) → AreUtf8 words → Meets member_read (fault_of member_app words) (matches_of member_app words) (option_and_then member_asked (positionals (drop 1 words)))
member_meet words u =
    let ws = drop 1 words in
    meets_as member_read _ _ _ _ _ (one_level member ws) refl
    (words_meet member_read member_asked member member_ids member_fit ws (positionals ws)
    (all_end member refl (refl, (refl, (refl, tt))) (λ n. refl) (λ x. refl) ws (rest_utf8 words u) _ 1 [] [] None [] (nothing_waits member []) refl member_places false))

-- ---- a size

abbrev generate : Shape
generate = (built generate_app).top

generate_places : Places generate 1 [] (codes "N" ∷ [])
generate_places = (record { required = true; by_id = refl; by_index = refl; next = refl }, refl, refl)

generate_fit : (ys : List Text) → Fits generate_read generate (placed ys (codes "N" ∷ []) []) (generate_asked ys)
generate_fit [] = refl
generate_fit (a ∷ []) = refl
generate_fit (a ∷ b ∷ ys) = refl

pub generate_simple : is_simple_and_free generate_app ≡ true
generate_simple = refl

pub generate_plain : is_simple generate_app ≡ true
generate_plain = refl

pub generate_meet : (words : List Text) → AreUtf8 words → Meets generate_read (fault_of generate_app words) (matches_of generate_app words) (option_and_then generate_asked (positionals (drop 1 words)))
generate_meet words u =
    let ws = drop 1 words in
    meets_as generate_read _ _ _ _ _ (one_level generate ws) refl
    (words_meet generate_read generate_asked generate (codes "N" ∷ []) generate_fit ws (positionals ws)
    (all_end generate refl (refl, tt) (λ n. refl) (λ x. refl) ws (rest_utf8 words u) _ 1 [] [] None [] (nothing_waits generate []) refl generate_places false))
