-- What is known of the parts of what was read.
use Rattle.std.proofs.Common.{◌≡◌, ◌∙◌, ap, refl, ℕ, Bool, true, false, ◌&&◌, ◌||◌, if◌then◌else◌, List, [], ◌∷◌, ◌⊎◌, inl, inr, Option, Some, None, Result, Ok, Err, option_map, option_and_then}
use Rattle.std.specs.Option.{ok_or}
use Rattle.std.specs.Result.{result_ok}
use Rattle.std.specs.declared.cmp.Ordering.{Ordering}
use Rattle.std.specs.Ordering.{is_eq}
use Rattle.std.proofs.lemmas.Cmp.{tied_itself}
use Rattle.serde_json.specs.Data.{Data, Items, Members, array, boolean, null, number, object, string}
use Rattle.serde_json.specs.Find.{as_array, as_bool, as_object, as_str, get}
use Rattle.fx_terms.specs.Texts.{text_cmp, texts_total}
use Rattle.fx_terms.proofs.SetLemmas.{Among}
use Rattle.fx_algebra.proofs.ForcedLemmas.{name_from}
use Rattle.fx_algebra.specs.Scopes.{is_among}
use Rattle.fx_results.specs.Reading.{and_then, is_object, items_at, text_at}
use Rattle.fx_results.specs.declared.faults.ResultsError.{ResultsError}
use Rattle.fx_laws_results.specs.Told.{Has}

module _ {X Y : Type 0} where
  pub then_ok : (r : Result X ResultsError) (f : X → Result Y ResultsError) (y : Y) → and_then r f ≡ Ok y → (x : X) × (r ≡ Ok x) × (f x ≡ Ok y)
  then_ok (Ok x) f y e = (x, refl, e)
  then_ok (Err w) f y e = absurd (cc)

  pub then_some : (o : Option X) (f : X → Option Y) (y : Y) → option_and_then f o ≡ Some y → (x : X) × (o ≡ Some x) × (f x ≡ Some y)
  then_some None f y e = absurd (cc)
  then_some (Some x) f y e = (x, refl, e)

  pub map_some : (o : Option X) (f : X → Y) (y : Y) → option_map f o ≡ Some y → (x : X) × (o ≡ Some x) × (f x ≡ y)
  map_some None f y e = absurd (cc)
  map_some (Some x) f y e = (x, refl, inside e)
    where
      inside : Some (f x) ≡ Some y → f x ≡ y
      inside k = cc

module _ {X : Type 0} where
  pub or_ok : (o : Option X) (w : ResultsError) (x : X) → ok_or o w ≡ Ok x → o ≡ Some x
  or_ok None w x e = absurd (cc)
  or_ok (Some z) w x e = cc

  pub out_ok : (x y : X) → ◌≡◌ {A = Result X ResultsError} (Ok x) (Ok y) → x ≡ y
  out_ok x y e = cc

  pub result_some : {E : Type 0} (r : Result X E) (x : X) → result_ok r ≡ Some x → r ≡ Ok x
  result_some (Ok z) x e = cc
  result_some (Err w) x e = absurd (cc)

  pub if_some : (b : Bool) (o : Option X) (x : X) → (if b then o else None) ≡ Some x → (b ≡ true) × (o ≡ Some x)
  if_some true o x e = (refl, e)
  if_some false o x e = absurd (cc)

-- ---- values

pub string_of : (d : Data) (s : List ℕ) → as_str d ≡ Some s → d ≡ string s
string_of null s e = absurd (cc)
string_of (boolean b) s e = absurd (cc)
string_of (number n) s e = absurd (cc)
string_of (string t) s e = cc
string_of (array ds) s e = absurd (cc)
string_of (object ms) s e = absurd (cc)

pub array_of : (d : Data) (ds : Items) → as_array d ≡ Some ds → d ≡ array ds
array_of null ds e = absurd (cc)
array_of (boolean b) ds e = absurd (cc)
array_of (number n) ds e = absurd (cc)
array_of (string t) ds e = absurd (cc)
array_of (array is) ds e = cc
array_of (object ms) ds e = absurd (cc)

pub object_of : (d : Data) (ms : Members) → as_object d ≡ Some ms → d ≡ object ms
object_of null ms e = absurd (cc)
object_of (boolean b) ms e = absurd (cc)
object_of (number n) ms e = absurd (cc)
object_of (string t) ms e = absurd (cc)
object_of (array is) ms e = absurd (cc)
object_of (object ns) ms e = cc

pub truth_of : (d : Data) (b : Bool) → as_bool d ≡ Some b → d ≡ boolean b
truth_of null b e = absurd (cc)
truth_of (boolean c) b e = cc
truth_of (number n) b e = absurd (cc)
truth_of (string t) b e = absurd (cc)
truth_of (array is) b e = absurd (cc)
truth_of (object ns) b e = absurd (cc)

-- what is an object has members
pub members_of : (d : Data) → is_object d ≡ true → (ms : Members) × (d ≡ object ms)
members_of null e = absurd (cc)
members_of (boolean c) e = absurd (cc)
members_of (number n) e = absurd (cc)
members_of (string t) e = absurd (cc)
members_of (array is) e = absurd (cc)
members_of (object ms) e = (ms, refl)

-- what has a member is an object
pub is_one : (d : Data) (name : List ℕ) (v : Data) → Has d name v → is_object d ≡ true
is_one null name v e = absurd (cc)
is_one (boolean c) name v e = absurd (cc)
is_one (number n) name v e = absurd (cc)
is_one (string t) name v e = absurd (cc)
is_one (array is) name v e = absurd (cc)
is_one (object ms) name v e = refl

pub text_there : (name : List ℕ) (d : Data) (s : List ℕ) → text_at name d ≡ Some s → Has d name (string s)
text_there name d s e = let t = then_some (get name d) as_str s e in t.1 ∙ ap Some (string_of t.0 s t.2)

pub items_there : (name : List ℕ) (d : Data) (ds : Items) → items_at name d ≡ Some ds → Has d name (array ds)
items_there name d ds e = let t = then_some (get name d) as_array ds e in t.1 ∙ ap Some (array_of t.0 ds t.2)

-- ---- names

or_cases : (a b : Bool) → (a || b) ≡ true → (a ≡ true) ⊎ (b ≡ true)
or_cases true b e = inl refl
or_cases false b e = inr e

or_right : (a : Bool) → (a || true) ≡ true
or_right true = refl
or_right false = refl

pub and_true : (b c : Bool) → (b && c) ≡ true → (b ≡ true) × (c ≡ true)
and_true true c e = (refl, e)
and_true false c e = absurd (cc)

pub one_of : (names : List (List ℕ)) (name : List ℕ) → is_among names name ≡ true → Among name names
one_of [] name e = absurd (cc)
one_of (n ∷ ns) name e = by (one_of ns name) (or_cases (is_eq (text_cmp n name)) (is_among ns name) e)
  where
    by : (is_among ns name ≡ true → Among name ns) → (is_eq (text_cmp n name) ≡ true) ⊎ (is_among ns name ≡ true) → Among name (n ∷ ns)
    by rest (inl h) = inl (name_from n name h)
    by rest (inr h) = inr (rest h)

pub is_one_of : (names : List (List ℕ)) (name : List ℕ) → Among name names → is_among names name ≡ true
is_one_of [] name m = absurd m
is_one_of (n ∷ ns) name (inl e) = ap (λ (v : List ℕ). is_eq (text_cmp v name) || is_among ns name) e ∙ ap (λ (b : Ordering). is_eq b || is_among ns name) (tied_itself texts_total name)
is_one_of (n ∷ ns) name (inr m) = ap (λ (b : Bool). is_eq (text_cmp n name) || b) (is_one_of ns name m) ∙ or_right (is_eq (text_cmp n name))
