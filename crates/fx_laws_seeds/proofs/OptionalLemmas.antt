-- What is asked for of an OPTIONAL.
use Rattle.std.proofs.Common.{◌≡◌, ◌∙◌, ap, sym, subst, refl, ℕ, ◌+◌, ◌<◌, Bool, true, false, List, [], ◌∷◌, ◌++◌, length, arith}
use Rattle.std.proofs.lemmas.List.{map-append}
use Rattle.std.specs.List.{list_any}
use Rattle.fx_terms.specs.declared.patterns.Pattern.{Pattern}
use Rattle.fx_algebra.proofs.CutLemmas.{has_the_names, meanings_alike, part_of}
use Rattle.fx_algebra.proofs.OperatorLemmas.{filtered_by_none}
use Rattle.fx_algebra.specs.Groups.{Meaning, Operator, Part, Step, after, apply, conditions_of, element_meaning, group_meaning, meaning, names_before, one_empty, operator, optional_cut, rows_before, run, seeds_of, stations_of, steps_of}
use Rattle.fx_algebra.specs.Operators.{filtered, left_join}
use Rattle.fx_algebra.specs.Scopes.{group_mentions, once}
use Rattle.fx_algebra.specs.Solutions.{Bindings}
use Rattle.fx_algebra.specs.Stations as station
use Rattle.fx_algebra.specs.declared.expressions.Expr.{Expr}
use Rattle.fx_algebra.specs.declared.queries.Element.{Element, Element-F, fold-roll-Element}
use Rattle.fx_algebra.specs.declared.queries.Element.TheVariants as element
use Rattle.fx_algebra.specs.declared.queries.Group.{fold-roll-Group}
use Rattle.fx_evaluation.proofs.CountLemmas.{services_count}
use Rattle.fx_laws_seeds.specs.Seeds.{OptionalRunHasTheRowsOnItsLeft, OtherOptionalsGoByThemselves, Place, StandsBehind, behind, filters_in, group_of, is_operator, patterns_in, rows_at, seeds_at, services_in, stations_at, with_optional, without_filters}
use Rattle.fx_laws_seeds.proofs.StepLemmas.{bare_conditions, bare_steps, one_run, other, parts_of, seeds_behind, simple, stations_behind, stations_many, steps_bind, steps_count, steps_in_front, steps_names, steps_services}

one_run_is : (ps : List Pattern) → 0 < length ps → one_run ps ≡ run ps ∷ []
one_run_is [] h = absurd (omega arith)
one_run_is (p ∷ ps) h = refl

module _ (at : Place) where
  abbrev parts : List Element → List Part
  parts es = parts_of at.graphs at.down es

  layer : (es : List Element) → meaning at.graphs at.down (group_of es) ≡ group_meaning (record { elements = parts es })
  layer es = fold-roll-Group Part Meaning (element_meaning at.graphs at.down) group_meaning (record { elements = es })

  stations_are : (es : List Element) → stations_at at (group_of es) ≡ stations_of (conditions_of (parts es)) at.number [] (steps_of (parts es))
  stations_are es = ap (λ (m : Meaning). m.cut.stations at.number []) (layer es)

  seeds_are : (es : List Element) → seeds_at at (group_of es) ≡ seeds_of at.graph at.number one_empty (steps_of (parts es))
  seeds_are es = ap (λ (m : Meaning). m.cut.seeds at.graph at.number one_empty) (layer es)

  -- as many stations as seeds in front
  as_many : (fs : List Expr) (es : List Element) → length (stations_of fs at.number [] (steps_of (parts es))) ≡ length (seeds_at at (group_of es))
  as_many fs es =
      stations_many fs (conditions_of (parts es)) at.number [] (steps_of (parts es))
      ∙ (sym (ap length (stations_are es))
      ∙ sym ((meanings_alike at.graphs at.graphs at.down at.down (group_of es)).cut.many at.graph at.number at.number one_empty []))

  module _ (front inside rest : List Element) where
    abbrev own : Meaning
    own = meaning at.graphs at.down (group_of inside)

    abbrev optional : Operator
    optional = record { tree = element.Optional own.tree; services = own.services; rows = λ graph number rows. left_join rows (own.rows graph number) own.filters; cut = optional_cut own }

    optional_is : part_of at.graphs at.down (element.Optional (group_of inside)) ≡ operator optional
    optional_is =
        ap (part_of at.graphs at.down) (sym (element.rolls-Optional (group_of inside)))
        ∙ fold-roll-Element Part Meaning (element_meaning at.graphs at.down) group_meaning (Element-F.Optional (group_of inside))

    abbrev all : List Element
    all = front ++ (element.Optional (group_of inside) ∷ rest)

    steps_are : steps_of (parts all) ≡ steps_of (parts front) ++ (apply optional ∷ steps_of (parts rest))
    steps_are =
        ap steps_of (map-append (part_of at.graphs at.down) front (element.Optional (group_of inside) ∷ rest)
        ∙ ap (λ (v : Part). parts front ++ (v ∷ parts rest)) optional_is)
        ∙ steps_in_front (parts front) optional (parts rest)

    -- what stands in front: how many occurrences there are, and which names and rows
    abbrev number : ℕ
    number = at.number + steps_services (steps_of (parts front))

    abbrev names : List (List ℕ)
    names = steps_names (steps_of (parts front))

    abbrev rows : List Bindings
    rows = after at.graph at.number one_empty (steps_of (parts front))

    stands : StandsBehind (seeds_at at (group_of front)) (optional.cut.seeds at.graph number rows) (optional.cut.stations number names) (seeds_at at (group_of all)) (stations_at at (group_of all))
    stands = record {
      stations_in_front = stations_of (conditions_of (parts all)) at.number [] (steps_of (parts front));
      stations_behind = stations_of (conditions_of (parts all)) (number + optional.services) (names ++ optional.cut.names) (steps_of (parts rest));
      seeds_behind = seeds_of at.graph (number + optional.services) (optional.rows at.graph number rows) (steps_of (parts rest));
      as_many = as_many (conditions_of (parts all)) front;
      stations_are =
          stations_are all
          ∙ (ap (stations_of (conditions_of (parts all)) at.number []) steps_are
          ∙ stations_behind (conditions_of (parts all)) at.number [] (steps_of (parts front)) (apply optional ∷ steps_of (parts rest)));
      seeds_are =
          seeds_are all
          ∙ (ap (seeds_of at.graph at.number one_empty) steps_are
          ∙ (seeds_behind at.graph at.number one_empty (steps_of (parts front)) (apply optional ∷ steps_of (parts rest))
          ∙ ap (λ (v : List (List Bindings)). v ++ (optional.cut.seeds at.graph number rows ++ seeds_of at.graph (number + optional.services) (optional.rows at.graph number rows) (steps_of (parts rest)))) (sym (seeds_are front))));
    }

    rows_are : rows_at at (group_of (without_filters front)) ≡ rows
    rows_are =
        ap (λ (m : Meaning). filtered m.filters (m.rows at.graph at.number)) (layer (without_filters front))
        ∙ (ap (λ (fs : List Expr). filtered fs (after at.graph at.number one_empty (steps_of (parts (without_filters front))))) (bare_conditions at.graphs at.down front)
        ∙ (filtered_by_none (after at.graph at.number one_empty (steps_of (parts (without_filters front))))
        ∙ ap (after at.graph at.number one_empty) (bare_steps at.graphs at.down front)))

    names_are : names ≡ group_mentions (group_of front)
    names_are = steps_bind (parts front) ∙ (sym (ap (λ (m : Meaning). m.cut.names) (layer front)) ∙ has_the_names (group_of front) at.graphs at.down)

    count_is : steps_services (steps_of (parts front)) ≡ services_in front
    count_is = steps_count (parts front) ∙ (sym (ap (λ (m : Meaning). m.services) (layer front)) ∙ services_count at.graphs at.down (group_of front))

    -- of triple patterns and filters alone
    abbrev own_steps : List Step
    own_steps = run (patterns_in inside) ∷ []

    simple_own : list_any is_operator inside ≡ false → 0 < length (patterns_in inside)
        → (optional.cut.stations number names ≡ station.run (patterns_in inside) (filters_in inside) (once names) ∷ []) × (optional.cut.seeds at.graph number rows ≡ rows ∷ [])
    simple_own h some =
        let s = simple at.graphs at.down inside h in
        let steps : steps_of (parts inside) ≡ own_steps = s.steps ∙ one_run_is (patterns_in inside) some in (
          ap (λ (m : Meaning). (optional_cut m).stations number names) (layer inside)
              ∙ (ap (λ (b : Bool). stations_of (conditions_of (parts inside)) number (names_before b names) (steps_of (parts inside))) s.keeps
              ∙ (ap (λ (fs : List Expr). stations_of fs number names (steps_of (parts inside))) s.conditions ∙ ap (stations_of (filters_in inside) number names) steps)),
          ap (λ (m : Meaning). (optional_cut m).seeds at.graph number rows) (layer inside)
              ∙ (ap (λ (b : Bool). seeds_of at.graph number (rows_before b rows) (steps_of (parts inside))) s.keeps ∙ ap (seeds_of at.graph number rows) steps),
        )

    pub optional_run : list_any is_operator inside ≡ false → 0 < length (patterns_in inside)
        → StandsBehind (seeds_at at (group_of front)) (rows_at at (group_of (without_filters front)) ∷ [])
        (station.run (patterns_in inside) (filters_in inside) (once (group_mentions (group_of front))) ∷ []) (seeds_at at (with_optional front inside rest)) (stations_at at (with_optional front inside rest))
    optional_run h some =
        let own_is = simple_own h some in
        subst (λ (v : List (List Bindings)). StandsBehind (seeds_at at (group_of front)) v
        (station.run (patterns_in inside) (filters_in inside) (once (group_mentions (group_of front))) ∷ []) (seeds_at at (group_of all)) (stations_at at (group_of all)))
        (own_is.1 ∙ ap (λ (v : List Bindings). v ∷ []) (sym rows_are))
        (subst (λ (v : List station.Station). StandsBehind (seeds_at at (group_of front)) (optional.cut.seeds at.graph number rows) v (seeds_at at (group_of all)) (stations_at at (group_of all)))
        (own_is.0 ∙ ap (λ (v : List (List ℕ)). station.run (patterns_in inside) (filters_in inside) (once v) ∷ []) names_are)
        stands)

    -- of others

    apart : list_any is_operator inside ≡ true → own.is_simple ≡ false
    apart h = ap (λ (m : Meaning). m.is_simple) (layer inside) ∙ other at.graphs at.down inside h

    pub optional_apart : list_any is_operator inside ≡ true
        → StandsBehind (seeds_at at (group_of front)) (seeds_at (behind at (services_in front)) (group_of inside)) (stations_at (behind at (services_in front)) (group_of inside))
        (seeds_at at (with_optional front inside rest)) (stations_at at (with_optional front inside rest))
    optional_apart h =
        subst (λ (v : List (List Bindings)). StandsBehind (seeds_at at (group_of front)) v (stations_at (behind at (services_in front)) (group_of inside)) (seeds_at at (group_of all)) (stations_at at (group_of all)))
        (ap (λ (b : Bool). own.cut.seeds at.graph number (rows_before b rows)) (apart h) ∙ ap (λ (n : ℕ). own.cut.seeds at.graph (at.number + n) one_empty) count_is)
        (subst (λ (v : List station.Station). StandsBehind (seeds_at at (group_of front)) (optional.cut.seeds at.graph number rows) v (seeds_at at (group_of all)) (stations_at at (group_of all)))
        (ap (λ (b : Bool). own.cut.stations number (names_before b names)) (apart h) ∙ ap (λ (n : ℕ). own.cut.stations (at.number + n) []) count_is)
        stands)

pub optional_run_has_the_rows_on_its_left : OptionalRunHasTheRowsOnItsLeft
optional_run_has_the_rows_on_its_left at front inside rest h some = optional_run at front inside rest h some

pub other_optionals_go_by_themselves : OtherOptionalsGoByThemselves
other_optionals_go_by_themselves at front inside rest h = optional_apart at front inside rest h
