-- One turn of the loops over the parts of an expression.
use Rattle.std.proofs.Common.{◌≡◌, ◌∙◌, ◌||◌, Bool, true, false, List, ◌∷◌, Option, Some, None, refl, sym, ap}
use Rattle.std.specs.List.{list_any}
use Rattle.std.specs.Prelude.{is_none}
use Rattle.fx_terms.specs.declared.terms.Term.{Term}
use Rattle.fx_algebra.specs.Values.{first_of}

or_false : (b : Bool) → (b || false) ≡ b
or_false true = refl
or_false false = refl

or_true : (b : Bool) → (b || true) ≡ true
or_true true = refl
or_true false = refl

or_assoc : (a b c : Bool) → ((a || b) || c) ≡ (a || (b || c))
or_assoc true b c = refl
or_assoc false b c = refl

-- whether a truth decides, and whether one before was the error, behind a truth that doesn't decide
pub record Known (decides : Option Bool → Bool) (unsure : Bool) (left all : List (Option Bool)) : Type 0 where
  pub sure : list_any decides left ≡ list_any decides all
  pub errors : (unsure || list_any is_none left) ≡ list_any is_none all

went_on : (decides : Option Bool → Bool) (v : Option Bool) (before now : Bool) (from left all : List (Option Bool)) → from ≡ v ∷ left → decides v ≡ false → now ≡ (before || is_none v) → list_any decides from ≡ list_any decides all → (before || list_any is_none from) ≡ list_any is_none all → Known decides now left all
went_on decides v before now from left all split undecided so sure errors = record {
  sure = sym (ap (λ (b : Bool). b || list_any decides left) undecided) ∙ sym (ap (list_any decides) split) ∙ sure;
  errors = ap (λ (b : Bool). b || list_any is_none left) so ∙ or_assoc before (is_none v) (list_any is_none left) ∙ sym (ap (λ (ts : List (Option Bool)). before || list_any is_none ts) split) ∙ errors;
}

pub behind_truth : (decides : Option Bool → Bool) (v : Option Bool) (b before now : Bool) (from left all : List (Option Bool)) → from ≡ v ∷ left → v ≡ Some b → decides (Some b) ≡ false → now ≡ before → list_any decides from ≡ list_any decides all → (before || list_any is_none from) ≡ list_any is_none all → Known decides now left all
behind_truth decides v b before now from left all split is undecided same sure errors =
    went_on decides v before now from left all split (ap decides is ∙ undecided) (same ∙ sym (ap (λ (o : Option Bool). before || is_none o) is ∙ or_false before)) sure errors

pub behind_error : (decides : Option Bool → Bool) (v : Option Bool) (before now : Bool) (from left all : List (Option Bool)) → from ≡ v ∷ left → v ≡ None → decides None ≡ false → now ≡ true → list_any decides from ≡ list_any decides all → (before || list_any is_none from) ≡ list_any is_none all → Known decides now left all
behind_error decides v before now from left all split is undecided noted sure errors =
    went_on decides v before now from left all split (ap decides is ∙ undecided) (noted ∙ sym (ap (λ (o : Option Bool). before || is_none o) is ∙ or_true before)) sure errors

-- the first value, behind one that is the error
pub behind_none : (v : Option Term) (from left all : List (Option Term)) → from ≡ v ∷ left → v ≡ None → first_of from ≡ first_of all → first_of left ≡ first_of all
behind_none v from left all split is so = sym (ap (λ (o : Option Term). first_of (o ∷ left)) is) ∙ sym (ap first_of split) ∙ so
