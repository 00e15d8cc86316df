use Rattle.std.proofs.Common.{◌≡◌, ◌+◌, ◌∙◌, [], ◌∷◌, ◌++◌, None, true, false, refl, sym, ap, drop, arith}
use Rattle.std.proofs.lemmas.List.{drop_more}
use Rattle.serde_json.specs.View.{view, items_view}
use Rattle.fx_algebra.specs.Scopes.{is_among}
use Rattle.fx_results.specs.Reading.{columns_of, names_in}
use Rattle.fx_results.proofs.ColumnLemmas.{once_behind, once_behind_one, once_behind_repeated, are_distinct-one, item_named, stands_so, absent_so}
use Rattle.fx_results.proofs.columns.Columns.read.Goals as goal

pub returns-then-not-is_new : goal.returns-then-not-is_new
returns-then-not-is_new c =
    let done = c.loop-item.names.items in
    let i = c.loop-item.item-index in
    let xs = c.args.items.now in
    let x = c.item-item.result in
    let name = c.in_ok-name.name in
    let rest = drop (i + 1) xs in
    let here : drop i xs ≡ x ∷ rest = drop_more xs i x (omega arith) ∙ ap (λ y. y ∷ rest) (sym c.item-item.is) in
    let old : c.in_ok-is_new.is_new ≡ false = cc in
    let stands : is_among done name ≡ true = stands_so (is_among done name) (sym old ∙ c.in_ok-is_new.ensures.new) in
    let none : columns_of (items_view xs) ≡ None =
    sym c.loop-item.invariant.left
    ∙ ap (λ vs. once_behind done (names_in (items_view vs))) here
    ∙ ap (once_behind done) (item_named (view x) (items_view rest) _ name c.in_ok-name.ensures)
    ∙ once_behind_repeated done name (names_in (items_view rest)) stands in
    rw c.no_columns.ensures (rw none refl)

pub loop-item-preserved : goal.loop-item-preserved
loop-item-preserved c =
    let done = c.loop-item.names.items in
    let i = c.loop-item.item-index in
    let xs = c.args.items.now in
    let x = c.item-item.result in
    let name = c.in_ok-name.name in
    let rest = drop (i + 1) xs in
    let here : drop i xs ≡ x ∷ rest = drop_more xs i x (omega arith) ∙ ap (λ y. y ∷ rest) (sym c.item-item.is) in
    let new : c.in_ok-is_new.is_new ≡ true = cc in
    let absent : is_among done name ≡ false = absent_so (is_among done name) (sym new ∙ c.in_ok-is_new.ensures.new) in
    let more : c.add.new.names.items ≡ done ++ name ∷ [] = c.in_ok-is_new.ensures.put new in
    record {
      index = c.in_ok-is_new.ensures.found new;
      distinct = rw more (are_distinct-one done name c.loop-item.invariant.distinct absent);
      left = ap (λ ns. once_behind ns (names_in (items_view rest))) more
          ∙ once_behind_one done name (names_in (items_view rest))
          ∙ sym (ap (once_behind done) (item_named (view x) (items_view rest) _ name c.in_ok-name.ensures))
          ∙ sym (ap (λ vs. once_behind done (names_in (items_view vs))) here)
          ∙ c.loop-item.invariant.left;
    }
