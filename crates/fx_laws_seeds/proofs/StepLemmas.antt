-- The steps of a group whose elements stand in front of an operator and behind it.
use Rattle.std.proofs.Common.{◌≡◌, ◌∙◌, ap, sym, refl, ℕ, suc, ◌+◌, Bool, true, false, cond, ◌&&◌, ◌||◌, List, [], ◌∷◌, ◌++◌, map, length, Option, is_none, append-nil, append_assoc, length-append, arith}
use Rattle.std.specs.List.{cons_option, flat_map, list_all, list_any}
use Rattle.fx_terms.specs.declared.triples.Triple.{Triple}
use Rattle.fx_terms.specs.declared.patterns.Pattern.{Pattern}
use Rattle.fx_algebra.proofs.CutLemmas.{part_of}
use Rattle.fx_algebra.specs.BasicGraphPatterns.{bgp, variables}
use Rattle.fx_algebra.specs.Groups.{Operator, Part, Step, after, apply, condition, conditions_of, keeps_run, names_of_part, operator, part_services, parts_services, pattern, run, seeds_of, stations_of, steps_of, with_condition, with_part, with_pattern}
use Rattle.fx_algebra.specs.Operators.{join}
use Rattle.fx_algebra.specs.Scopes.{once}
use Rattle.fx_algebra.specs.Solutions.{Bindings}
use Rattle.fx_algebra.specs.Stations as station
use Rattle.fx_algebra.specs.declared.expressions.Expr.{Expr}
use Rattle.fx_algebra.specs.declared.queries.Element.{Element}
use Rattle.fx_laws_seeds.specs.Seeds.{filter_of, filters_in, is_operator, pattern_of, patterns_in, without_filters}
use Rattle.fx_laws_seeds.proofs.ElementLemmas.{IsPart, is_condition, is_other, is_pattern, known}

-- ---- in front and behind

with_pattern_in_front : (p : Pattern) (ss : List Step) (o : Operator) (ts : List Step) → with_pattern p (ss ++ (apply o ∷ ts)) ≡ with_pattern p ss ++ (apply o ∷ ts)
with_pattern_in_front p [] o ts = refl
with_pattern_in_front p (run ps ∷ ss) o ts = refl
with_pattern_in_front p (apply u ∷ ss) o ts = refl

with_part_in_front : (x : Part) (ss : List Step) (o : Operator) (ts : List Step) → with_part x (ss ++ (apply o ∷ ts)) ≡ with_part x ss ++ (apply o ∷ ts)
with_part_in_front (pattern p) ss o ts = with_pattern_in_front p ss o ts
with_part_in_front (condition e) ss o ts = refl
with_part_in_front (operator u) ss o ts = refl

pub steps_in_front : (xs : List Part) (o : Operator) (ys : List Part) → steps_of (xs ++ (operator o ∷ ys)) ≡ steps_of xs ++ (apply o ∷ steps_of ys)
steps_in_front [] o ys = refl
steps_in_front (x ∷ xs) o ys = ap (with_part x) (steps_in_front xs o ys) ∙ with_part_in_front x (steps_of xs) o (steps_of ys)

-- what steps have together
abbrev pub steps_services : List Step → ℕ
steps_services [] = 0
steps_services (run ps ∷ ss) = steps_services ss
steps_services (apply o ∷ ss) = o.services + steps_services ss

abbrev pub steps_names : List Step → List (List ℕ)
steps_names [] = []
steps_names (run ps ∷ ss) = variables ps ++ steps_names ss
steps_names (apply o ∷ ss) = o.cut.names ++ steps_names ss

part_counts : (x : Part) (ss : List Step) → steps_services (with_part x ss) ≡ part_services x + steps_services ss
part_counts (pattern p) [] = refl
part_counts (pattern p) (run ps ∷ ss) = let e : steps_services ss ≡ 0 + steps_services ss = omega arith in e
part_counts (pattern p) (apply o ∷ ss) = let e : o.services + steps_services ss ≡ 0 + (o.services + steps_services ss) = omega arith in e
part_counts (condition c) ss = let e : steps_services ss ≡ 0 + steps_services ss = omega arith in e
part_counts (operator o) ss = refl

pub steps_count : (xs : List Part) → steps_services (steps_of xs) ≡ parts_services xs
steps_count [] = refl
steps_count (x ∷ xs) = part_counts x (steps_of xs) ∙ ap (λ n. part_services x + n) (steps_count xs)

part_names : (x : Part) (ss : List Step) → steps_names (with_part x ss) ≡ names_of_part x ++ steps_names ss
part_names (pattern p) [] = append_assoc (names_of_part (pattern p)) [] []
part_names (pattern p) (run ps ∷ ss) = append_assoc (names_of_part (pattern p)) (variables ps) (steps_names ss)
part_names (pattern p) (apply o ∷ ss) = append_assoc (names_of_part (pattern p)) [] (o.cut.names ++ steps_names ss)
part_names (condition c) ss = refl
part_names (operator o) ss = refl

pub steps_bind : (xs : List Part) → steps_names (steps_of xs) ≡ flat_map names_of_part xs
steps_bind [] = refl
steps_bind (x ∷ xs) = part_names x (steps_of xs) ∙ ap (λ (v : List (List ℕ)). names_of_part x ++ v) (steps_bind xs)

-- stations and seeds of both
pub stations_behind : (filters : List Expr) (n : ℕ) (before : List (List ℕ)) (ss ts : List Step) →
    stations_of filters n before (ss ++ ts) ≡ stations_of filters n before ss ++ stations_of filters (n + steps_services ss) (before ++ steps_names ss) ts
stations_behind filters n before [] ts = ap (λ (m : ℕ). stations_of filters m before ts) (same n) ∙ ap (λ (v : List (List ℕ)). stations_of filters (n + 0) v ts) (sym (append-nil before))
  where
    same : (n : ℕ) → n ≡ n + 0
    same n = omega arith
stations_behind filters n before (run ps ∷ ss) ts =
    ap (λ (v : List station.Station). station.run ps filters (once before) ∷ v)
    (stations_behind filters n (before ++ variables ps) ss ts
    ∙ ap (λ (v : List (List ℕ)). stations_of filters n (before ++ variables ps) ss ++ stations_of filters (n + steps_services ss) v ts) (append_assoc before (variables ps) (steps_names ss)))
stations_behind filters n before (apply o ∷ ss) ts =
    ap (λ (v : List station.Station). o.cut.stations n before ++ v)
    (stations_behind filters (n + o.services) (before ++ o.cut.names) ss ts
    ∙ (ap (λ (v : List (List ℕ)). stations_of filters (n + o.services) (before ++ o.cut.names) ss ++ stations_of filters (n + o.services + steps_services ss) v ts) (append_assoc before o.cut.names (steps_names ss))
    ∙ ap (λ (m : ℕ). stations_of filters (n + o.services) (before ++ o.cut.names) ss ++ stations_of filters m (before ++ (o.cut.names ++ steps_names ss)) ts) (both n o.services (steps_services ss))))
    ∙ sym (append_assoc (o.cut.stations n before) (stations_of filters (n + o.services) (before ++ o.cut.names) ss) (stations_of filters (n + (o.services + steps_services ss)) (before ++ (o.cut.names ++ steps_names ss)) ts))
  where
    both : (a b c : ℕ) → a + b + c ≡ a + (b + c)
    both a b c = omega arith

pub seeds_behind : (graph : List Triple) (n : ℕ) (rows : List Bindings) (ss ts : List Step) →
    seeds_of graph n rows (ss ++ ts) ≡ seeds_of graph n rows ss ++ seeds_of graph (n + steps_services ss) (after graph n rows ss) ts
seeds_behind graph n rows [] ts = ap (λ (m : ℕ). seeds_of graph m rows ts) (same n)
  where
    same : (n : ℕ) → n ≡ n + 0
    same n = omega arith
seeds_behind graph n rows (run ps ∷ ss) ts = ap (λ (v : List (List Bindings)). rows ∷ v) (seeds_behind graph n (join rows (bgp graph ps)) ss ts)
seeds_behind graph n rows (apply o ∷ ss) ts =
    ap (λ (v : List (List Bindings)). o.cut.seeds graph n rows ++ v)
    (seeds_behind graph (n + o.services) (o.rows graph n rows) ss ts
    ∙ ap (λ (m : ℕ). seeds_of graph (n + o.services) (o.rows graph n rows) ss ++ seeds_of graph m (after graph (n + o.services) (o.rows graph n rows) ss) ts) (both n o.services (steps_services ss)))
    ∙ sym (append_assoc (o.cut.seeds graph n rows) (seeds_of graph (n + o.services) (o.rows graph n rows) ss) (seeds_of graph (n + (o.services + steps_services ss)) (after graph (n + o.services) (o.rows graph n rows) ss) ts))
  where
    both : (a b c : ℕ) → a + b + c ≡ a + (b + c)
    both a b c = omega arith

-- how many stations there are doesn't hang on the filters
pub stations_many : (fs gs : List Expr) (n : ℕ) (before : List (List ℕ)) (ss : List Step) → length (stations_of fs n before ss) ≡ length (stations_of gs n before ss)
stations_many fs gs n before [] = refl
stations_many fs gs n before (run ps ∷ ss) = ap suc (stations_many fs gs n (before ++ variables ps) ss)
stations_many fs gs n before (apply o ∷ ss) =
    length-append (o.cut.stations n before) (stations_of fs (n + o.services) (before ++ o.cut.names) ss)
    ∙ (ap (λ (m : ℕ). length (o.cut.stations n before) + m) (stations_many fs gs (n + o.services) (before ++ o.cut.names) ss)
    ∙ sym (length-append (o.cut.stations n before) (stations_of gs (n + o.services) (before ++ o.cut.names) ss)))

-- ---- elements

-- one run of all patterns, if there are any
abbrev pub one_run : List Pattern → List Step
one_run [] = []
one_run (p ∷ ps) = run (p ∷ ps) ∷ []

module _ (graphs : List ℕ → List Triple) (down : List ℕ) where
  abbrev pub parts_of : List Element → List Part
  parts_of es = map (part_of graphs down) es

  -- without filters the steps are the same
  bare_head : (x : Part) (p : Option Pattern) (c : Option Expr) (e : Element) (xs : List Element) → IsPart x p c → (rest : List Element) → part_of graphs down e ≡ x
      → steps_of (parts_of rest) ≡ steps_of (parts_of xs) → steps_of (parts_of (cond (is_none c) (e ∷ rest) rest)) ≡ steps_of (parts_of (e ∷ xs))
  bare_head x p c e xs (is_pattern q a b d) rest f h =
      ap (λ (v : Option Expr). steps_of (parts_of (cond (is_none v) (e ∷ rest) rest))) d ∙ ap (with_part (part_of graphs down e)) h
  bare_head x p c e xs (is_condition k a b d) rest f h =
      ap (λ (v : Option Expr). steps_of (parts_of (cond (is_none v) (e ∷ rest) rest))) d ∙ (h ∙ sym (ap (λ (v : Part). with_part v (steps_of (parts_of xs))) (f ∙ a)))
  bare_head x p c e xs (is_other o a b d) rest f h =
      ap (λ (v : Option Expr). steps_of (parts_of (cond (is_none v) (e ∷ rest) rest))) d ∙ ap (with_part (part_of graphs down e)) h

  pub bare_steps : (es : List Element) → steps_of (parts_of (without_filters es)) ≡ steps_of (parts_of es)
  bare_steps [] = refl
  bare_steps (e ∷ es) = bare_head (part_of graphs down e) (pattern_of e) (filter_of e) e es (known graphs down e) (without_filters es) refl (bare_steps es)

  bare_condition : (e : Element) (rest : List Element) (x : Part) (p : Option Pattern) (c : Option Expr) → IsPart x p c → part_of graphs down e ≡ x → conditions_of (parts_of rest) ≡ [] → conditions_of (parts_of (cond (is_none c) (e ∷ rest) rest)) ≡ []
  bare_condition e rest x p c (is_pattern q a b d) f h =
      ap (λ (v : Option Expr). conditions_of (parts_of (cond (is_none v) (e ∷ rest) rest))) d ∙ (ap (λ (v : Part). with_condition v (conditions_of (parts_of rest))) (f ∙ a) ∙ h)
  bare_condition e rest x p c (is_condition k a b d) f h = ap (λ (v : Option Expr). conditions_of (parts_of (cond (is_none v) (e ∷ rest) rest))) d ∙ h
  bare_condition e rest x p c (is_other o a b d) f h =
      ap (λ (v : Option Expr). conditions_of (parts_of (cond (is_none v) (e ∷ rest) rest))) d ∙ (ap (λ (v : Part). with_condition v (conditions_of (parts_of rest))) (f ∙ a) ∙ h)

  pub bare_conditions : (es : List Element) → conditions_of (parts_of (without_filters es)) ≡ []
  bare_conditions [] = refl
  bare_conditions (e ∷ es) = bare_condition e (without_filters es) (part_of graphs down e) (pattern_of e) (filter_of e) (known graphs down e) refl (bare_conditions es)

  -- ---- triple patterns and filters

  pattern_in_front : (p : Pattern) (ps : List Pattern) → with_pattern p (one_run ps) ≡ one_run (p ∷ ps)
  pattern_in_front p [] = refl
  pattern_in_front p (q ∷ qs) = refl

  -- the steps, the filters, and whether there is another element
  pub record Simple (es : List Element) : Type 0 where
    pub steps : steps_of (parts_of es) ≡ one_run (patterns_in es)
    pub conditions : conditions_of (parts_of es) ≡ filters_in es
    pub keeps : list_all keeps_run (parts_of es) ≡ true

  or_parts : (a b : Bool) → (a || b) ≡ false → (a ≡ false) × (b ≡ false)
  or_parts true b e = absurd (cc)
  or_parts false b e = (refl, e)

  simple_head : (es : List Element) (x : Part) (p : Option Pattern) (c : Option Expr) → IsPart x p c → (is_none p && is_none c) ≡ false → Simple es
      → (with_part x (steps_of (parts_of es)) ≡ one_run (cons_option p (patterns_in es))) × (with_condition x (conditions_of (parts_of es)) ≡ cons_option c (filters_in es)) × (keeps_run x ≡ true)
  simple_head es x p c (is_pattern q a b d) found h = (
    ap (λ (v : Part). with_part v (steps_of (parts_of es))) a
        ∙ (ap (with_pattern q) h.steps
        ∙ (pattern_in_front q (patterns_in es) ∙ ap (λ (v : Option Pattern). one_run (cons_option v (patterns_in es))) (sym b))),
    ap (λ (v : Part). with_condition v (conditions_of (parts_of es))) a ∙ (h.conditions ∙ ap (λ (v : Option Expr). cons_option v (filters_in es)) (sym d)),
    ap keeps_run a,
  )
  simple_head es x p c (is_condition k a b d) found h = (
    ap (λ (v : Part). with_part v (steps_of (parts_of es))) a ∙ (h.steps ∙ ap (λ (v : Option Pattern). one_run (cons_option v (patterns_in es))) (sym b)),
    ap (λ (v : Part). with_condition v (conditions_of (parts_of es))) a
        ∙ (ap (λ (v : List Expr). k ∷ v) h.conditions ∙ ap (λ (v : Option Expr). cons_option v (filters_in es)) (sym d)),
    ap keeps_run a,
  )
  simple_head es x p c (is_other o a b d) found h =
      let both : (is_none p && is_none c) ≡ true = ap (λ (v : Option Pattern). is_none v && is_none c) b ∙ ap is_none d in
      absurd (cc)

  pub simple : (es : List Element) → list_any is_operator es ≡ false → Simple es
  simple [] h = record { steps = refl; conditions = refl; keeps = refl }
  simple (e ∷ es) h =
      let both = or_parts (is_operator e) (list_any is_operator es) h in
      let rest = simple es both.1 in
      let head = simple_head es (part_of graphs down e) (pattern_of e) (filter_of e) (known graphs down e) both.0 rest in
      record { steps = head.0; conditions = head.1; keeps = ap (λ (b : Bool). b && list_all keeps_run (parts_of es)) head.2 ∙ rest.keeps }

  -- ---- an operator among others

  other_head : (x : Part) (p : Option Pattern) (c : Option Expr) → IsPart x p c → (is_none p && is_none c) ≡ true → keeps_run x ≡ false
  other_head x p c (is_pattern q a b d) found = let none : (is_none p && is_none c) ≡ false = ap (λ (v : Option Pattern). is_none v && is_none c) b in absurd (cc)
  other_head x p c (is_condition k a b d) found =
      let none : (is_none p && is_none c) ≡ false = ap (λ (v : Option Pattern). is_none v && is_none c) b ∙ ap is_none d in
      absurd (cc)
  other_head x p c (is_other o a b d) found = ap keeps_run a

  and_no : (b : Bool) → (b && false) ≡ false
  and_no true = refl
  and_no false = refl

  pub other : (es : List Element) → list_any is_operator es ≡ true → list_all keeps_run (parts_of es) ≡ false
  other [] h = absurd (cc)
  other (e ∷ es) h = by (is_operator e) refl (other es) h
    where
      by : (b : Bool) → is_operator e ≡ b → (list_any is_operator es ≡ true → list_all keeps_run (parts_of es) ≡ false) → (b || list_any is_operator es) ≡ true → list_all keeps_run (parts_of (e ∷ es)) ≡ false
      by true f rest k = ap (λ (b : Bool). b && list_all keeps_run (parts_of es)) (other_head (part_of graphs down e) (pattern_of e) (filter_of e) (known graphs down e) f)
      by false f rest k = ap (λ (b : Bool). keeps_run (part_of graphs down e) && b) (rest k) ∙ and_no (keeps_run (part_of graphs down e))
