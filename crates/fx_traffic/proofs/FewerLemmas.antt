-- What may be sent of rows hangs on their solutions, so it may be sent of other rows among which these solutions stand.
use Rattle.std.proofs.Common.{◌≡◌, ◌∙◌, ap, sym, subst, refl, ℕ, zero, suc, ◌+◌, ◌*◌, ◌/◌, ◌<◌, ◌≤◌, Bool, true, false, cond, List, [], ◌∷◌, ◌++◌, length, map, filter, get_or, Option, None, Some, arith, IsPermutation, append-nil, append_assoc, div-mul-le_self, length-append, zero-le}
use Rattle.std.specs.Prelude.{set, slice_get}
use Rattle.std.specs.List.{AllByRecursion, flat_map, list_any, swap}
use Rattle.std.proofs.Math.Nat.{div-zero}
use Rattle.std.proofs.lemmas.Grind.{flat_map-append}
use Rattle.std.proofs.lemmas.List.{length-map, map-append, map-set}
use Rattle.std.proofs.lemmas.List.Elements.{All-from_recursion, filter-append, recursion_from_All}
use Rattle.std.proofs.lemmas.List.Sorted.{IsPermutation-refl, IsPermutation-sym, IsPermutation-trans, IsPermutation-append_left, IsPermutation-keeps, IsPermutation-map, IsPermutation-swap, length_permutation}
use Rattle.std.proofs.lemmas.Nat.{le-div}
use Rattle.fx_terms.specs.declared.terms.Term.{Term}
use Rattle.fx_terms.specs.declared.triples.Triple.{Triple}
use Rattle.fx_outside.specs.Endpoints.{EndpointParts}
use Rattle.fx_algebra.specs.Answers.{is_empty_list}
use Rattle.fx_algebra.specs.BasicGraphPatterns.{bgp}
use Rattle.fx_algebra.specs.Conditions.{holds}
use Rattle.fx_algebra.specs.Graphs.{union}
use Rattle.fx_algebra.specs.Operators.{filtered, join, merges}
use Rattle.fx_algebra.specs.Printed.{printed_query}
use Rattle.fx_algebra.specs.Solutions.{Bindings}
use Rattle.fx_algebra.specs.Stations as station
use Rattle.fx_algebra.specs.Units.{row_of, sources, step}
use Rattle.fx_algebra.specs.declared.queries.Element.TheVariants as element
use Rattle.fx_algebra.specs.declared.queries.Form.TheVariants as form
use Rattle.fx_algebra.specs.declared.queries.Group.{Group, roll-Group}
use Rattle.fx_algebra.specs.declared.queries.Query.{Query}
use Rattle.fx_algebra.specs.declared.units.Row.{Row}
use Rattle.fx_algebra.specs.declared.units.Unit as unit
use Rattle.fx_algebra.proofs.JoinLemmas.{same_join}
use Rattle.fx_algebra.proofs.OperatorLemmas.{filtered_moves}
use Rattle.fx_plan.specs.Plans.{plan}
use Rattle.fx_bound.specs.Batches.{batch_query, branch_group}
use Rattle.fx_bound.specs.Parts.{printed_by}
use Rattle.fx_bound.specs.Reading.{all_columns, columns_of}
use Rattle.fx_renaming.specs.Branches.{bound_expr, bound_pattern}
use Rattle.fx_founds.specs.Uniting.{Place, branches, is_worth_asking, places_from}
use Rattle.fx_values.specs.Parts.{printed_by as printed_block}
use Rattle.fx_values.specs.Values.{cells, columns, renamed, values_query}
use Rattle.fx_steps.specs.Steps.{numbered, solutions_of}
use Rattle.fx_steps.proofs.StepLemmas.{numbered_solutions, step_solutions}
use Rattle.fx_traffic.specs.Batches.{IsRunSent, IsSized, IsStepSent, batches_sent, joined, text_for, text_in, text_sent, to_endpoint, unit_sent}
use Rattle.fx_traffic.specs.Fewer.{FewerLaws, NumbersAreFree, PlanOfMore, RunOfMore, StationOfMore}
use Rattle.fx_traffic.specs.Sent.{Sent}
use Rattle.fx_traffic.specs.Traffic.{SentUnless}

-- ---- a list whose images are these in another order

module _ {X Y : Type 0} (f : X → Y) where
  map_get : (xs : List X) (i : ℕ) (d : X) → f (get_or xs i d) ≡ get_or (map f xs) i (f d)
  map_get [] i d = refl
  map_get (x ∷ xs) zero d = refl
  map_get (x ∷ xs) (suc i) d = map_get xs i d

  map_swap : (xs : List X) (i j : ℕ) → map f (swap xs i j) ≡ swap (map f xs) i j
  map_swap [] i j = refl
  map_swap (d ∷ xs) i j =
      let all = d ∷ xs in
      map-set f (set all i (get_or all j d)) j (get_or all i d)
      ∙ ap (λ (v : List Y). set v j (f (get_or all i d))) (map-set f all i (get_or all j d))
      ∙ ap (λ (y : Y). set (set (map f all) i y) j (f (get_or all i d))) (map_get all j d)
      ∙ ap (λ (y : Y). set (set (map f all) i (get_or (map f all) j (f d))) j y) (map_get all i d)

  record IsOrdered (others : List X) (images : List Y) : Type 0 where
    list : List X
    are : map f list ≡ images
    moved : IsPermutation list others

  -- the list may be put in the order in which the images stand
  in_their_order : (others : List X) (images : List Y) → IsPermutation (map f others) images → IsOrdered others images
  in_their_order others images h =
      IsPermutation-keeps (map f others) (IsOrdered others) (record { list = others; are = refl; moved = IsPermutation-refl others })
      (λ l i j low high o.
      let long : length o.list ≡ length l = sym (length-map o.list f) ∙ ap length o.are in
      let changed = swap o.list i j in
      record {
        list = changed;
        are = map_swap o.list i j ∙ ap (λ (v : List Y). swap v i j) o.are;
        moved =
            IsPermutation-trans changed o.list others
            (IsPermutation-sym o.list changed (IsPermutation-swap o.list changed i j (omega (arith, low, long)) (omega (arith, high, long)) refl)) o.moved;
      }) images h

  record IsCutIn (list : List X) (front back : List Y) : Type 0 where
    first : List X
    rest : List X
    is : list ≡ first ++ rest
    front_is : map f first ≡ front
    back_is : map f rest ≡ back

  cut_in : (front back : List Y) (list : List X) → map f list ≡ front ++ back → IsCutIn list front back
  cut_in [] back list e = record { first = []; rest = list; is = refl; front_is = refl; back_is = e }
  cut_in (y ∷ ys) back [] e = absurd (cc)
  cut_in (y ∷ ys) back (x ∷ xs) e =
      let head : f x ≡ y = cc in
      let tail : map f xs ≡ ys ++ back = cc in
      let k = cut_in ys back xs tail in
      record {
        first = x ∷ k.first;
        rest = k.rest;
        is = ap (λ (v : List X). x ∷ v) k.is;
        front_is = ap (λ (z : Y). z ∷ map f k.first) head ∙ ap (λ (v : List Y). y ∷ v) k.front_is;
        back_is = k.back_is;
      }

-- ---- what is sent of a batch hangs on its solutions

-- rows with these solutions, all under one number
abbrev bare : List Bindings → List Row
bare ss = map (row_of 0) ss

abbrev bare_place : Place → Place
bare_place b = record { number = b.number; row = row_of 0 b.row.solution }

bare_places : (n : ℕ) (rows : List Row) → places_from n (bare (solutions_of rows)) ≡ map bare_place (places_from n rows)
bare_places n [] = refl
bare_places n (r ∷ rows) = ap (λ (v : List Place). record { number = n; row = row_of 0 r.solution } ∷ v) (bare_places (suc n) rows)

worth_asking : (u : unit.Unit) (bs : List Place) → filter (is_worth_asking u) (map bare_place bs) ≡ map bare_place (filter (is_worth_asking u) bs)
worth_asking u [] = refl
worth_asking u (b ∷ bs) =
    ap (λ (v : List Place). cond (is_worth_asking u b) (bare_place b ∷ v) v) (worth_asking u bs) ∙ by (is_worth_asking u b)
  where
    by : (c : Bool) → cond c (bare_place b ∷ map bare_place (filter (is_worth_asking u) bs)) (map bare_place (filter (is_worth_asking u) bs)) ≡ map bare_place (cond c (b ∷ filter (is_worth_asking u) bs) (filter (is_worth_asking u) bs))
    by true = refl
    by false = refl

bare_columns : (u : unit.Unit) (bs : List Place) → all_columns u (map bare_place bs) ≡ all_columns u bs
bare_columns u [] = refl
bare_columns u (b ∷ bs) = ap (λ (v : List (List ℕ)). columns_of u b ++ v) (bare_columns u bs)

bare_groups : (u : unit.Unit) (bs : List Place) → map (branch_group u) (map bare_place bs) ≡ map (branch_group u) bs
bare_groups u [] = refl
bare_groups u (b ∷ bs) = ap (λ (v : List Group). branch_group u b ∷ v) (bare_groups u bs)

bare_query : (u : unit.Unit) (bs : List Place) → batch_query u (map bare_place bs) ≡ batch_query u bs
bare_query u bs =
    let columns = bare_columns u bs in
    let groups = bare_groups u bs in
    λ i. record { form = form.Select false (columns i); group = roll-Group (record { elements = element.Union (groups i) ∷ [] }); order = []; offset = 0; limit = None; inline = None }

bare_printed : (u : unit.Unit) (bs : List Place) → printed_by (batch_query u (map bare_place bs)) (map bare_place bs) ≡ printed_by (batch_query u bs) bs
bare_printed u [] = refl
bare_printed u (b ∷ bs) = ap (λ (q : Query). Some (printed_query q)) (bare_query u (b ∷ bs))

bare_cells : (u : unit.Unit) (bs : List Place) → map (cells u) (map bare_place bs) ≡ map (cells u) bs
bare_cells u [] = refl
bare_cells u (b ∷ bs) = ap (λ (v : List (List (Option Term))). cells u b ∷ v) (bare_cells u bs)

bare_block : (u : unit.Unit) (bs : List Place) → values_query u (map bare_place bs) ≡ values_query u bs
bare_block u bs =
    let rows = bare_cells u bs in
    λ i. record {
      form = form.Select false (columns u);
      group = roll-Group (record {
        elements =
            element.Values (record { columns = columns u; rows = rows i })
            ∷ (map (λ p. element.Triple (bound_pattern (renamed u) [] p)) u.patterns ++ map (λ e. element.Filter (bound_expr (renamed u) [] e)) u.filters);
      });
      order = [];
      offset = 0;
      limit = None;
      inline = None;
    }

bare_block_printed : (u : unit.Unit) (bs : List Place) → printed_block (values_query u (map bare_place bs)) (map bare_place bs) ≡ printed_block (values_query u bs) bs
bare_block_printed u [] = refl
bare_block_printed u (b ∷ bs) = ap (λ (q : Query). Some (printed_query q)) (bare_block u (b ∷ bs))

-- in whatever form an endpoint takes it
bare_text : (e : EndpointParts) (u : unit.Unit) (batch : List Row) → text_for e (record { unit = u; rows = bare (solutions_of batch) }) ≡ text_for e (record { unit = u; rows = batch })
bare_text e u batch = by e.values
  where
    by : (b : Bool) → text_in b (record { unit = u; rows = bare (solutions_of batch) }) ≡ text_in b (record { unit = u; rows = batch })
    by true =
        ap (λ (bs : List Place). printed_block (values_query u (filter (is_worth_asking u) bs)) (filter (is_worth_asking u) bs)) (bare_places 0 batch)
        ∙ ap (λ (bs : List Place). printed_block (values_query u bs) bs) (worth_asking u (places_from 0 batch))
        ∙ bare_block_printed u (branches u batch)
    by false =
        ap (λ (bs : List Place). printed_by (batch_query u (filter (is_worth_asking u) bs)) (filter (is_worth_asking u) bs)) (bare_places 0 batch)
        ∙ ap (λ (bs : List Place). printed_by (batch_query u bs) bs) (worth_asking u (places_from 0 batch))
        ∙ bare_printed u (branches u batch)

module _ (endpoints : List EndpointParts) (u : unit.Unit) where
  bare_member : (batch : List Row) (o : Option EndpointParts) → to_endpoint u (bare (solutions_of batch)) o ≡ to_endpoint u batch o
  bare_member batch None = refl
  bare_member batch (Some e) = ap (text_sent e) (bare_text e u batch)

  bare_unit : (batch : List Row) → unit_sent endpoints u (bare (solutions_of batch)) ≡ unit_sent endpoints u batch
  bare_unit batch = ap (λ (f : ℕ → List Sent). flat_map f u.members) (λ i at. bare_member batch (slice_get endpoints at) i)

  bare_batches : (batches : List (List Row)) → flat_map (λ ss. unit_sent endpoints u (bare ss)) (map solutions_of batches) ≡ batches_sent endpoints u batches
  bare_batches [] = refl
  bare_batches (b ∷ batches) =
      ap (λ (v : List Sent). v ++ flat_map (λ ss. unit_sent endpoints u (bare ss)) (map solutions_of batches)) (bare_unit b)
      ∙ ap (λ (v : List Sent). unit_sent endpoints u b ++ v) (bare_batches batches)

  same_sent : (batches others : List (List Row)) → map solutions_of others ≡ map solutions_of batches → batches_sent endpoints u batches ≡ batches_sent endpoints u others
  same_sent batches others same =
      sym (bare_batches batches) ∙ ap (λ (v : List (List Bindings)). flat_map (λ ss. unit_sent endpoints u (bare ss)) v) (sym same) ∙ bare_batches others

-- ---- the batches among other rows

solutions_joined : (batches : List (List Row)) → solutions_of (joined batches) ≡ joined (map solutions_of batches)
solutions_joined [] = refl
solutions_joined (b ∷ batches) =
    map-append (λ (r : Row). r.solution) b (joined batches) ∙ ap (λ (v : List Bindings). solutions_of b ++ v) (solutions_joined batches)

record IsBatchedAs (batches : List (List Row)) (list : List Row) : Type 0 where
  others : List (List Row)
  rest : List Row
  is : list ≡ joined others ++ rest
  same : map solutions_of others ≡ map solutions_of batches

in_front_of : (first back more rest list : List Row) → list ≡ first ++ back → back ≡ more ++ rest → list ≡ (first ++ more) ++ rest
in_front_of first back more rest list e f = e ∙ ap (λ (v : List Row). first ++ v) f ∙ sym (append_assoc first more rest)

both_fronts : (first front : List Bindings) (more rest : List (List Bindings)) → first ≡ front → more ≡ rest → first ∷ more ≡ front ∷ rest
both_fronts first front more rest e f = ap (λ (v : List Bindings). v ∷ more) e ∙ ap (λ (v : List (List Bindings)). front ∷ v) f

batched_as : (batches : List (List Row)) (unused : List Bindings) (list : List Row) → solutions_of list ≡ joined (map solutions_of batches) ++ unused → IsBatchedAs batches list
batched_as [] unused list e = record { others = []; rest = list; is = refl; same = refl }
batched_as (b ∷ batches) unused list e =
    let back = joined (map solutions_of batches) ++ unused in
    let k = cut_in (λ (r : Row). r.solution) (solutions_of b) back list (e ∙ append_assoc (solutions_of b) (joined (map solutions_of batches)) unused) in
    let more = batched_as batches unused k.rest k.back_is in
    record {
      others = k.first ∷ more.others;
      rest = more.rest;
      is = in_front_of k.first k.rest (joined more.others) more.rest list k.is more.is;
      same = both_fronts (solutions_of k.first) (solutions_of b) (map solutions_of more.others) (map solutions_of batches) k.front_is more.same;
    }

abbrev IsLong : ℕ → List Bindings → Type 0
IsLong block ss = (0 < length ss) × (length ss ≤ block)

sized_solutions : (block : ℕ) (batches : List (List Row)) → AllByRecursion (IsSized block) batches → AllByRecursion (IsLong block) (map solutions_of batches)
sized_solutions block [] h = tt
sized_solutions block (b ∷ batches) h =
    let long : length (solutions_of b) ≡ length b = length-map b (λ (r : Row). r.solution) in
    let low : 0 < length b = h.0.0 in
    let high : length b ≤ block = h.0.1 in
    ((omega (arith, long, low), omega (arith, long, high)), sized_solutions block batches h.1)

sized_batches : (block : ℕ) (batches : List (List Row)) → AllByRecursion (IsLong block) (map solutions_of batches) → AllByRecursion (IsSized block) batches
sized_batches block [] h = tt
sized_batches block (b ∷ batches) h =
    let long : length (solutions_of b) ≡ length b = length-map b (λ (r : Row). r.solution) in
    let low : 0 < length (solutions_of b) = h.0.0 in
    let high : length (solutions_of b) ≤ block = h.0.1 in
    ((omega (arith, long, low), omega (arith, long, high)), sized_batches block batches h.1)

-- batches of rows are found again among others, under their numbers
record AreAmong (batches : List (List Row)) (others : List Row) : Type 0 where
  found : List (List Row)
  unused : List Row
  of_rows : IsPermutation (joined found ++ unused) others
  same : map solutions_of found ≡ map solutions_of batches

solutions_apart : (batches : List (List Row)) (unused : List Row) (gone : List Bindings) → solutions_of (joined batches ++ unused) ++ gone ≡ joined (map solutions_of batches) ++ (solutions_of unused ++ gone)
solutions_apart batches unused gone =
    ap (λ (v : List Bindings). v ++ gone) (map-append (λ (r : Row). r.solution) (joined batches) unused)
    ∙ ap (λ (v : List Bindings). (v ++ solutions_of unused) ++ gone) (solutions_joined batches)
    ∙ append_assoc (joined (map solutions_of batches)) (solutions_of unused) gone

found_again : (batches : List (List Row)) (unused others : List Row) (gone : List Bindings) → IsPermutation (solutions_of (joined batches ++ unused) ++ gone) (solutions_of others) → AreAmong batches others
found_again batches unused others gone moved =
    let back = solutions_of unused ++ gone in
    let whole = joined (map solutions_of batches) ++ back in
    let there : IsPermutation whole (solutions_of others) = subst (λ (v : List Bindings). IsPermutation v (solutions_of others)) (solutions_apart batches unused gone) moved in
    let o = in_their_order (λ (r : Row). r.solution) others whole (IsPermutation-sym whole (solutions_of others) there) in
    let k = batched_as batches back o.list o.are in
    record { found = k.others; unused = k.rest; of_rows = subst (λ (v : List Row). IsPermutation v others) k.is o.moved; same = k.same }

-- ---- a step

step_of_more : (endpoints : List EndpointParts) (u : unit.Unit) (block most more : ℕ) (rows others : List Row) (gone : List Bindings) (wanted : List Sent) → most ≤ more → IsPermutation (solutions_of rows ++ gone) (solutions_of others)
    → IsStepSent endpoints u rows block most wanted → IsStepSent endpoints u others block more wanted
step_of_more endpoints u block most more rows others gone wanted le moved h =
    let all = joined h.batches ++ h.cut.unused in
    let k =
    found_again h.batches h.cut.unused others gone
    (IsPermutation-trans (solutions_of all ++ gone) (solutions_of rows ++ gone) (solutions_of others)
    (IsPermutation-append_left gone (solutions_of all) (solutions_of rows) (IsPermutation-map (λ (r : Row). r.solution) all rows h.cut.of_rows)) moved) in
    let long : length k.found ≡ length h.batches = sym (length-map k.found solutions_of) ∙ ap length k.same ∙ length-map h.batches solutions_of in
    let few : length h.batches ≤ most = h.cut.few in
    record {
      batches = k.found;
      cut = record {
        unused = k.unused;
        of_rows = k.of_rows;
        sized =
            All-from_recursion (IsSized block) k.found
            (sized_batches block k.found (subst (AllByRecursion (IsLong block)) (sym k.same) (sized_solutions block h.batches (recursion_from_All (IsSized block) h.batches h.cut.sized))));
        few = omega (arith, long, few, le);
      };
      texts = h.texts ∙ same_sent endpoints u h.batches k.found k.same;
    }

-- ---- a run

whole_blocks : (m n block : ℕ) → m ≤ n → m / block ≤ n / block
whole_blocks m n zero le = let none : m / zero ≡ zero = div-zero m in subst (λ (k : ℕ). k ≤ n / zero) (sym none) zero-le
whole_blocks m n (suc block) le =
    le-div (m / suc block) n (suc block) (omega arith) (let whole : m / suc block * suc block ≤ m = div-mul-le_self m (suc block) in omega (arith, whole, le))

rows_behind : (graph : List Triple) (u : unit.Unit) (rows others : List Row) (gone : List Bindings) → IsPermutation (solutions_of rows ++ gone) (solutions_of others)
    → IsPermutation (solutions_of (step graph u rows) ++ filtered u.filters (join gone (bgp graph u.patterns))) (solutions_of (step graph u others))
rows_behind graph u rows others gone moved =
    let run = bgp graph u.patterns in
    let before = solutions_of rows in
    let is : filtered u.filters (join (before ++ gone) run) ≡ solutions_of (step graph u rows) ++ filtered u.filters (join gone run) =
    ap (filtered u.filters) (flat_map-append (merges run) before gone)
    ∙ filter-append (holds u.filters) (join before run) (join gone run)
    ∙ ap (λ (v : List Bindings). v ++ filtered u.filters (join gone run)) (sym (step_solutions graph u rows)) in
    subst (λ (v : List Bindings). IsPermutation v (solutions_of (step graph u others))) is
    (subst (λ (v : List Bindings). IsPermutation (filtered u.filters (join (before ++ gone) run)) v) (sym (step_solutions graph u others))
    (filtered_moves u.filters (join (before ++ gone) run) (join (solutions_of others) run) (same_join (before ++ gone) (solutions_of others) run run moved (IsPermutation-refl run))))

run_from_more : (endpoints : List EndpointParts) (graph : List Triple) (block most more : ℕ) (us : List unit.Unit) (rows others : List Row) (gone : List Bindings) (wanted : List Sent)
    → most ≤ more → IsPermutation (solutions_of rows ++ gone) (solutions_of others) → IsRunSent endpoints graph block most us rows wanted → IsRunSent endpoints graph block more us others wanted
run_from_more endpoints graph block most more [] rows others gone wanted le moved h = h
run_from_more endpoints graph block most more (u ∷ us) rows others gone wanted le moved h =
    let here : length (solutions_of rows) ≡ length rows = length-map rows (λ (r : Row). r.solution) in
    let there : length (solutions_of others) ≡ length others = length-map others (λ (r : Row). r.solution) in
    let both : length (solutions_of others) ≡ length (solutions_of rows ++ gone) = length_permutation (solutions_of rows ++ gone) (solutions_of others) moved in
    let fewer : length rows ≤ length others = omega (arith, here, there, both, length-append (solutions_of rows) gone) in
    let blocks : length rows / block ≤ length others / block = whole_blocks (length rows) (length others) block fewer in
    let next : most + length rows / block ≤ more + length others / block = omega (arith, le, blocks) in (
      h.0,
      h.1,
      h.2,
      step_of_more endpoints u block (most + length rows / block) (more + length others / block) rows others gone h.0 next moved h.3,
      run_from_more endpoints graph block (most + length rows / block) (more + length others / block) us (step graph u rows) (step graph u others) (filtered u.filters (join gone (bgp graph u.patterns))) h.1 next
          (rows_behind graph u rows others gone moved) h.4,
    )

numbers_are_free : NumbersAreFree
numbers_are_free endpoints graph block most us rows others wanted moved h =
    run_from_more endpoints graph block most most us rows others [] wanted (omega arith) (subst (λ (v : List Bindings). IsPermutation v (solutions_of others)) (sym (append-nil (solutions_of rows))) moved) h

run_of_more : RunOfMore
run_of_more endpoints graph block us found gone rows wanted moved h =
    run_from_more endpoints graph block 1 1 us (numbered 0 found) (numbered 0 rows) gone wanted (omega arith)
    (subst (λ (v : List Bindings). IsPermutation (v ++ gone) (solutions_of (numbered 0 rows))) (sym (numbered_solutions 0 found))
    (subst (λ (v : List Bindings). IsPermutation (found ++ gone) v) (sym (numbered_solutions 0 rows)) moved)) h

either_way : (b : Bool) (wanted : List Sent) (A B : Type 0) → (A → B) → SentUnless b wanted A → SentUnless b wanted B
either_way true wanted A B f h = h
either_way false wanted A B f h = f h

plan_of_more : PlanOfMore
plan_of_more endpoints graph block run members filters before found gone rows wanted moved h =
    let us = plan run members filters before in
    either_way (list_any is_empty_list members) wanted (IsRunSent endpoints graph block 1 us (numbered 0 found) wanted) (IsRunSent endpoints graph block 1 us (numbered 0 rows) wanted)
    (run_of_more endpoints graph block us found gone rows wanted moved) h

station_of_more : StationOfMore
station_of_more endpoints graphs block (station.run ps filters before) found gone rows wanted moved h = plan_of_more endpoints (union graphs) block ps (map (sources graphs) ps) filters before found gone rows wanted moved h
station_of_more endpoints graphs block (station.service number silent iri g) found gone rows wanted moved h = h

pub fewer_laws : FewerLaws
fewer_laws = record { numbers = numbers_are_free; run = run_of_more; plan = plan_of_more; station = station_of_more }
