-- What is read, a turn at a time.
use Rattle.std.proofs.Common.{◌≡◌, ◌∙◌, ℕ, Bool, true, false, ◌&&◌, List, [], ◌∷◌, ◌++◌, Some, None, Result, Ok, Err, refl, sym, ap, append_assoc, append-nil, String, Global}
use Rattle.std.specs.Str.{IsUtf8, is_utf8}
use Rattle.std.proofs.lemmas.Str.{IsUtf8-from_is_utf8, is_utf8-from_IsUtf8}
use Rattle.std.specs.declared.cmp.Ordering.{Ordering}
use Rattle.std.specs.declared.cmp.Ordering.TheVariants.{Less}
use Rattle.std.specs.Ordering.{is_lt}
use Rattle.std.specs.List.{AllByRecursion}
use Rattle.std.specs.List.Sorted.{IsStrictlySortedBy}
use Rattle.std.specs.FinMap.Entries.{below_all}
use Rattle.std.specs.Map.{keys_of}
use Rattle.std.specs.String.{string_cmp, string_bytes}
use Rattle.serde_json.specs.Data.{Data, Members, member}
use Rattle.serde_json.specs.View.{view, members_view}
use Rattle.serde_json.proofs.Views.{Entry}
use Rattle.fx_terms.specs.Texts.{text_cmp}
use Rattle.serde_json.specs.Read.{read}
use Rattle.fx_terms.specs.declared.terms.Term.{Term}
use Rattle.fx_algebra.specs.Solutions.{Bindings, rises}
use Rattle.fx_results.specs.declared.faults.ResultsError.{ResultsError}
use Rattle.fx_results.specs.declared.faults.ResultsError.TheVariants.{BadJson}
use Rattle.fx_results.specs.Reading.{and_then, terms_in, term_in, data_in}

-- what is read, behind what has been read
abbrev pub behind : {X : Type 0} → List X → Result (List X) ResultsError → Result (List X) ResultsError
behind done left = and_then left (λ more. Ok (done ++ more))

pub behind_one : {X : Type 0} (done : List X) (x : X) (left : Result (List X) ResultsError) → behind (done ++ x ∷ []) left ≡ behind done (and_then left (λ more. Ok (x ∷ more)))
behind_one done x (Ok more) = ap Ok (append_assoc done (x ∷ []) more)
behind_one done x (Err e) = refl

pub behind_all : {X : Type 0} (done : List X) → behind done (Ok []) ≡ Ok done
behind_all done = ap Ok (append-nil done)

pub both : (a b : Bool) → (a && b) ≡ true → (a ≡ true) × (b ≡ true)
both true b h = (refl, h)
both false b h = cc

-- ---- terms

pub terms_turn : (done : Bindings) (name column : List ℕ) (d : Data) (rest : Members) (term : Term) → column ≡ name → term_in d ≡ Ok term → behind (done ++ (column, term) ∷ []) (terms_in rest) ≡ behind done (terms_in (member name d rest))
terms_turn done name column d rest term same e =
    behind_one done (column, term) (terms_in rest)
    ∙ (λ j. behind done (and_then (terms_in rest) (λ more. Ok ((same j, term) ∷ more))))
    ∙ sym (ap (λ t. behind done (and_then t (λ term. and_then (terms_in rest) (λ more. Ok ((name, term) ∷ more))))) e)

-- the parts of a list of terms that is read
split : (t : Result Term ResultsError) (r : Result Bindings ResultsError) (name : List ℕ) (pairs : Bindings) → and_then t (λ term. and_then r (λ more. Ok ((name, term) ∷ more))) ≡ Ok pairs
    → (term : Term) × (more : Bindings) × (r ≡ Ok more) × (pairs ≡ (name, term) ∷ more)
split (Ok term) (Ok more) name pairs h = (term, more, refl, cc)
split (Ok term) (Err e) name pairs h = cc
split (Err e) r name pairs h = cc

less : (o : Ordering) → o ≡ Less → is_lt o ≡ true
less o h = rw h refl

below_terms : (name : String Global) (entries : List Entry) (pairs : Bindings) → AllByRecursion (λ k. string_cmp name k ≡ Less) (keys_of entries) → terms_in (members_view entries) ≡ Ok pairs → below_all text_cmp (string_bytes name) pairs ≡ true
below_terms name [] pairs h e = let none : pairs ≡ [] = cc in rw none refl
below_terms name (x ∷ xs) pairs h e =
    let s = split (term_in (view x.1)) (terms_in (members_view xs)) (string_bytes x.0) pairs e in
    rw (s.3, less _ h.0) (below_terms name xs s.1 h.1 s.2)

-- the names of members rise, and so do those of their terms
pub rises_terms : (entries : List Entry) (pairs : Bindings) → IsStrictlySortedBy string_cmp (keys_of entries) → terms_in (members_view entries) ≡ Ok pairs → rises pairs ≡ true
unfolding IsStrictlySortedBy
rises_terms [] pairs h e = let none : pairs ≡ [] = cc in rw none refl
rises_terms (x ∷ xs) pairs h e =
    let s = split (term_in (view x.1)) (terms_in (members_view xs)) (string_bytes x.0) pairs e in
    rw (s.3, below_terms x.0 xs s.1 h.0 s.2) (rises_terms xs s.1 h.1 s.2)

-- ---- bytes

pub data_is : (bytes : List ℕ) (d : Data) → IsUtf8 bytes → read bytes ≡ Some d → data_in bytes ≡ Ok d
data_is bytes d utf8 e = rw (is_utf8-from_IsUtf8 bytes utf8) (rw e refl)

no_data_at : (b : Bool) (bytes : List ℕ) → is_utf8 bytes ≡ b → (IsUtf8 bytes → read bytes ≡ None) → data_in bytes ≡ Err BadJson
no_data_at true bytes e none = rw e (rw (none (IsUtf8-from_is_utf8 bytes e)) refl)
no_data_at false bytes e none = rw e refl

pub no_data : (bytes : List ℕ) → (IsUtf8 bytes → read bytes ≡ None) → data_in bytes ≡ Err BadJson
no_data bytes none = no_data_at (is_utf8 bytes) bytes refl none
