-- What a batch is made with holds of it, and its text is accepted.
use Rattle.std.proofs.Common.{◌≡◌, ◌∙◌, ap, sym, subst, ℕ, ◌<◌, ◌≤◌, ◌^◌, List, [], ◌∷◌, ◌++◌, map, length, Option, Some, arith, append_assoc}
use Rattle.std.specs.Prelude.{All}
use Rattle.std.specs.List.{AllByRecursion}
use Rattle.std.proofs.lemmas.List.Concat.{flat_map-append}
use Rattle.std.proofs.lemmas.List.Elements.{All-from_recursion, recursion_from_All}
use Rattle.fx_algebra.specs.Printed.{Word, printed_query, spaced, spelling}
use Rattle.fx_algebra.specs.declared.units.Row.{Row}
use Rattle.fx_algebra.specs.declared.units.Unit as unit
use Rattle.fx_grammar.specs.Accepted.{Accepted}
use Rattle.fx_spelling.specs.Units.{IsFit}
use Rattle.fx_bound.specs.Made.{IsMade}
use Rattle.fx_bound.specs.Parts.{AreKnown, IsBatch, IsKnown, Parts, branch_of, places, printed_by, printed_words, query_of, text_of}
use Rattle.fx_bound.specs.Reading.{unit_names}
use Rattle.fx_bound.specs.Sent.{all_words}
use Rattle.fx_bound.specs.Texts.{HasTerms}
use Rattle.fx_founds.specs.Uniting.{Place, branches}
use Rattle.fx_bound.specs.declared.branches.Branch.{Branch}
use Rattle.fx_bound.proofs.AcceptLemmas.{batch_is_accepted}
use Rattle.fx_bound.proofs.TextLemmas.{text_is}

terms_known : (rows : List Row) → AllByRecursion (λ r. IsKnown r.solution) rows → AllByRecursion (λ r. HasTerms r.solution) rows
terms_known [] h = tt
terms_known (r ∷ rows) h = (h.0.terms, terms_known rows h.1)

pub text_accepted : (p : Parts) (text : List ℕ) → IsBatch p → Some text ≡ text_of p → Accepted text (query_of p)
text_accepted p text known e = by (places p) (λ h. h) e
  where
    terms : All (λ (r : Row). HasTerms r.solution) p.rows
    terms = All-from_recursion (λ (r : Row). HasTerms r.solution) p.rows (terms_known p.rows (recursion_from_All (λ (r : Row). IsKnown r.solution) p.rows known.known))

    by : (bs : List Place) → (0 < length bs → 0 < length (places p)) → Some text ≡ printed_by (query_of p) bs → Accepted text (query_of p)
    by [] f h = absurd (cc)
    by (b ∷ bs) f h =
        let same : text ≡ printed_query (query_of p) = cc in
        subst (λ (v : List ℕ). Accepted v (query_of p)) (sym same) (batch_is_accepted p.unit p.rows known.fit terms known.few known.named (f (omega arith)))

pub made : (u : unit.Unit) (rows : List Row) (names : List (List ℕ)) (slice bs : List Branch) (text : Option (List ℕ)) → IsFit u → length rows ≤ 64 → AreKnown rows
    → names ≡ unit_names u → length names < 2 ^ 64 → bs ≡ map (branch_of u) (branches u rows) → slice ≡ bs → text ≡ printed_words (all_words u names slice) slice → IsMade (record { unit = u; rows = rows }) bs text
made u rows names slice bs text fit few known named short bs_are slice_is printed =
    let all : slice ≡ map (branch_of u) (branches u rows) = slice_is ∙ bs_are in
    record {
      known = record { fit = fit; named = subst (λ (v : List (List ℕ)). length v < 2 ^ 64) named short; few = few; known = known };
      branches_are = bs_are;
      text_is = printed ∙ (λ i. printed_words (all_words u (named i) (all i)) (all i)) ∙ text_is u (branches u rows);
    }

pub made_of_copies : (u copy : unit.Unit) (rows copies : List Row) (bs : List Branch) (text : Option (List ℕ)) → copy ≡ u → copies ≡ rows → IsMade (record { unit = u; rows = rows }) bs text → IsMade (record { unit = copy; rows = copies }) bs text
made_of_copies u copy rows copies bs text e f made = subst (λ (p : Parts). IsMade p bs text) (λ i. record { unit = sym e i; rows = sym f i }) made

-- three parts of a text, one after another
pub three : (old first second : List ℕ) (a b c : List Word) → first ≡ old ++ spaced a → second ≡ first ++ spaced b → second ++ spaced c ≡ old ++ spaced (a ++ (b ++ c))
three old first second a b c e f =
    ap (λ (v : List ℕ). v ++ spaced c) (f ∙ ap (λ (v : List ℕ). v ++ spaced b) e)
    ∙ append_assoc (old ++ spaced a) (spaced b) (spaced c)
    ∙ append_assoc old (spaced a) (spaced b ++ spaced c)
    ∙ ap (λ (v : List ℕ). old ++ (spaced a ++ v)) (sym (flat_map-append (λ (word : Word). 32 ∷ spelling word) b c))
    ∙ ap (λ (v : List ℕ). old ++ v) (sym (flat_map-append (λ (word : Word). 32 ∷ spelling word) a (b ++ c)))
