-- The filters of a group at its end.
use Rattle.std.proofs.Common.{◌≡◌, ◌∙◌, ap, sym, subst, ℕ, List, IsPermutation}
use Rattle.fx_terms.specs.declared.triples.Triple.{Triple}
use Rattle.fx_outside.specs.Endpoints.{EndpointParts}
use Rattle.fx_algebra.specs.Graphs.{union}
use Rattle.fx_algebra.specs.Groups.{group_rows}
use Rattle.fx_algebra.specs.Operators.{filtered}
use Rattle.fx_algebra.specs.Solutions.{Bindings}
use Rattle.fx_algebra.specs.declared.expressions.Expr.{Expr}
use Rattle.fx_algebra.specs.declared.queries.Group.{Group}
use Rattle.fx_steps.proofs.FewerLemmas.{fewer_laws}
use Rattle.fx_traffic.specs.Sent.{Sent}
use Rattle.fx_walks.specs.GroupsAsked.{GroupGiven, UnfilteredGiven}
use Rattle.fx_walks.specs.Served.{group_in}
use Rattle.fx_walks.specs.SectionSteps.{group_of}
use Rattle.fx_walks.specs.declared.tasks.Task.{Task}
use Rattle.fx_walks.proofs.ServedLemmas.{same_filters}

-- where they are applied, the rows are the group's
pub group_filtered : (endpoints : List EndpointParts) (block : ℕ) (tasks : List Task) (next later : ℕ) (g : Group) (graphs : List (List Triple)) (wanted : List Sent) (found rows : List Bindings)
    → UnfilteredGiven endpoints block tasks next later g graphs wanted found → rows ≡ filtered (group_of g).filters found → GroupGiven endpoints block tasks next later g graphs wanted rows
group_filtered endpoints block tasks next later g graphs wanted found rows h e = λ served number rest is.
    let m = group_in served g in
    let k = h served number rest is in (
      k.0,
      subst (λ (v : List Bindings). IsPermutation v (group_rows m (union graphs) number)) (sym (e ∙ ap (λ (v : List Expr). filtered v found) (sym (same_filters served g))))
          (fewer_laws.at_the_end m.filters found (m.rows (union graphs) number) k.1),
    )
