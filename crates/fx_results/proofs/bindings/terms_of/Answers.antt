use Rattle.std.proofs.Common.{◌≡◌, ◌∙◌, sym, ap, true, string_bytes, Ok}
use Rattle.serde_json.specs.View.{view, members_view}
use Rattle.fx_algebra.specs.Scopes.{is_among}
use Rattle.fx_results.specs.Reading.{are_columns, terms_in}
use Rattle.fx_results.proofs.ReadingLemmas.{behind, terms_turn, rises_terms, both, behind_all}
use Rattle.fx_results.proofs.ColumnLemmas.{found_is}
use Rattle.fx_results.proofs.bindings.terms_of.Goals as goal

pub loop-name-preserved : goal.loop-name-preserved
loop-name-preserved c =
    let name = string_bytes c.in-Some.name.now in
    let rest = c.next.new.self in
    let d = view c.in-Some.value.now in
    let step = c.in-Some.ensures.steps in
    let columns : are_columns c.args.columns.now (members_view rest) ≡ true = (both (is_among c.args.columns.now name) _ (ap (λ es. are_columns c.args.columns.now (members_view es)) (sym step) ∙ c.loop-name.invariant.columns)).1 in
    let column : c.in_ok-copy.field-0 ≡ name = c.in_ok-copy.ensures ∙ found_is _ _ _ c.in-Some-find.ensures ∙ c.as_str.ensures.value in
    record {
      left = ap (λ ps. behind ps (terms_in (members_view rest))) c.in_ok-push.ensures.items
          ∙ terms_turn c.loop-name.pairs.items name _ d (members_view rest) c.in_ok-term.term column c.in_ok-term.ensures
          ∙ ap (λ es. behind c.loop-name.pairs.items (terms_in (members_view es))) (sym step)
          ∙ c.loop-name.invariant.left;
      columns = columns;
    }

pub returns-clause-rise : goal.returns-clause-rise
returns-clause-rise c =
    let all : terms_in (members_view c.args.members.now.entries) ≡ Ok c.loop-name.pairs.items = sym c.loop-name.invariant.left ∙ ap (λ es. behind c.loop-name.pairs.items (terms_in (members_view es))) c.in-None.ensures.steps.0 ∙ behind_all c.loop-name.pairs.items in
    rises_terms c.args.members.now.entries c.loop-name.pairs.items c.len.ensures.ordered all
