use Rattle.std.proofs.Common.{◌≡◌, ◌∙◌, ◌+◌, ◌-◌, ◌<◌, ◌++◌, ap, sym, length, take, drop, [], List, Option, arith}
use Rattle.std.specs.List.{filter_map}
use Rattle.std.specs.Option.{option_to_list}
use Rattle.std.proofs.lemmas.List.{length-drop}
use Rattle.fx_terms.specs.declared.triples.Triple.{Triple}
use Rattle.fx_algebra.specs.Answers.{has_rows}
use Rattle.fx_algebra.specs.BasicGraphPatterns.{parts_of, forced}
use Rattle.fx_algebra.specs.Solutions.{Bindings}
use Rattle.fx_store.specs.Orders.{in_order}
use Rattle.fx_store.specs.Lookups.{tried, fits_under}
use Rattle.fx_store.proofs.FindLemmas.{nothing, something, fits_in_front, tried_behind, all_tried}
use Rattle.fx_store.proofs.RunLemmas.{as_many}
use Rattle.fx_store.proofs.SearchLemmas.{there}
use Rattle.fx_store.proofs.WalkLemmas.{rows_more, run_length}
use Rattle.fx_store.proofs.finding.some_fits_in.Goals as goal

pub loop-place-preserved : goal.loop-place-preserved
loop-place-preserved g c =
    let run = c.args.run in
    let x = c.look-triple.result.now in
    let f : Triple → Option Bindings = λ t. forced c.args.row.now (parts_of c.args.pattern.now t) in
    record {
      none =
          sym (rows_more (in_order run.order c.args.orders.now) run.start c.loop-place.place x (omega arith) c.look-triple.ensures.triple f)
          ∙ ap (λ (rows : List Bindings). rows ++ option_to_list (f x)) c.loop-place.invariant.none
          ∙ nothing (f x) (sym c.fits.ensures ∙ c.if-fits.false);
      steps = omega (arith, c.loop-place.invariant.steps, c.look-triple.ensures.step);
    }

-- the one that fits is in the run
pub returns-then-fits-clause-some : goal.returns-then-fits-clause-some
returns-then-fits-clause-some g c =
    let run = c.args.run in
    let x = c.look-triple.result.now in
    let ts = drop run.start (in_order run.order c.args.orders.now) in
    let f : Triple → Option Bindings = λ t. forced c.args.row.now (parts_of c.args.pattern.now t) in
    let one : filter_map f (take (c.loop-place.place + 1 - run.start) ts) ≡ option_to_list (f x) =
    sym (rows_more (in_order run.order c.args.orders.now) run.start c.loop-place.place x (omega arith) c.look-triple.ensures.triple f)
    ∙ ap (λ (rows : List Bindings). rows ++ option_to_list (f x)) c.loop-place.invariant.none in
    sym (fits_in_front f (c.loop-place.place + 1 - run.start) (run.end - run.start) ts (omega arith) (ap has_rows one ∙ something (f x) (sym c.fits.ensures ∙ c.if-fits.true)))

pub returns-then-fits-clause-steps : goal.returns-then-fits-clause-steps
returns-then-fits-clause-steps g c =
    let run = c.args.run in
    let xs = in_order run.order c.args.orders.now in
    let x = c.look-triple.result.now in
    let f : Triple → Option Bindings = λ t. forced c.args.row.now (parts_of c.args.pattern.now t) in
    let within = there xs c.loop-place.place x c.look-triple.ensures.triple in
    let more : c.loop-place.place - run.start < tried (fits_under c.args.pattern.now c.args.row.now) (take (run.end - run.start) (drop run.start xs)) =
    tried_behind f (run.end - run.start) (c.loop-place.place - run.start) (drop run.start xs) (omega arith) (omega (arith, length-drop run.start xs, within)) c.loop-place.invariant.none in
    omega (arith, more, c.loop-place.invariant.steps, c.look-triple.ensures.step)

-- at the end none of the run fits
pub returns-clause-some : goal.returns-clause-some
returns-clause-some g c =
    let run = c.args.run in
    let ts = drop run.start (in_order run.order c.args.orders.now) in
    let f : Triple → Option Bindings = λ t. forced c.args.row.now (parts_of c.args.pattern.now t) in
    let whole : run.end - run.start ≡ c.loop-place.place - run.start = omega (arith, c.requires.rises) in
    sym (ap has_rows (ap (λ n. filter_map f (take n ts)) whole ∙ c.loop-place.invariant.none))

pub returns-clause-steps : goal.returns-clause-steps
returns-clause-steps g c =
    let run = c.args.run in
    let graph = c.args.orders.now in
    let xs = in_order run.order graph in
    let f : Triple → Option Bindings = λ t. forced c.args.row.now (parts_of c.args.pattern.now t) in
    let whole : run.end - run.start ≡ c.loop-place.place - run.start = omega (arith, c.requires.rises) in
    let none : filter_map f (take (run.end - run.start) (drop run.start xs)) ≡ [] = ap (λ n. filter_map f (take n (drop run.start xs))) whole ∙ c.loop-place.invariant.none in
    let long : length (take (run.end - run.start) (drop run.start xs)) ≡ run.end - run.start = run_length xs run.start run.end c.requires.rises (omega (arith, as_many run.order graph, c.requires.ends)) in
    let all : tried (fits_under c.args.pattern.now c.args.row.now) (take (run.end - run.start) (drop run.start xs)) ≡ length (take (run.end - run.start) (drop run.start xs)) =
    all_tried f (take (run.end - run.start) (drop run.start xs)) none in
    omega (arith, all, long, whole, c.loop-place.invariant.steps)
