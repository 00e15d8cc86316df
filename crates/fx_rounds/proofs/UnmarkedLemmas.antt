-- Where no member may be left out, nobody is, and there is one round.
use Rattle.std.proofs.Common.{◌≡◌, ◌∙◌, ap, sym, refl, ℕ, Bool, true, false, List, [], ◌∷◌}
use Rattle.std.specs.Prelude.{All}
use Rattle.std.proofs.lemmas.List.Elements.{All-contains}
use Rattle.fx_outside.specs.Endpoints.{EndpointParts}
use Rattle.fx_algebra.specs.declared.queries.Query.{Query}
use Rattle.fx_plan.specs.declared.parts.Part.{Part}
use Rattle.fx_services.proofs.WentLemmas.{found_here}
use Rattle.fx_wire.specs.Exchanges.{Seen}
use Rattle.fx_outcomes.specs.InRounds.{plan_over}
use Rattle.fx_outcomes.specs.RoundEnds.{AreAbandoned}
use Rattle.fx_outcomes.specs.Rounds.{IsMarked, MayAllLeave, everybody, without_all}
use Rattle.fx_outcomes.specs.declared.rounds.Left.{Left}
use Rattle.fx_outcomes.specs.declared.rounds.Round.{Round}
use Rattle.fx_rounds.specs.LeftOut.{IsUnmarked, NobodyIsLeft}

true_false : true ≡ false → ⊥
true_false same = cc

pub never_marked : (es : List EndpointParts) → All IsUnmarked es → (at : ℕ) → IsMarked true es at → ⊥
never_marked es none at m = true_false (sym m.2 ∙ All-contains IsUnmarked es m.0 none (found_here es at m.0 m.1))

pub nobody_left : (es : List EndpointParts) → All IsUnmarked es → (kept : List Bool) (left : List Left) → MayAllLeave es kept left → left ≡ []
nobody_left es none kept [] h = refl
nobody_left es none kept (l ∷ left) h = absurd (never_marked es none l.at h.0.optional)

-- so no round was abandoned
pub one_round : (tells alone : Bool) (s t : List Seen) (es : List EndpointParts) → All IsUnmarked es → (q : Query) (plan : List Bool → List Part) (block : ℕ) (kept last : List Bool) (rounds : List Round) → AreAbandoned tells alone s t es q plan block kept last rounds
    → (t ≡ s) × (last ≡ kept) × (rounds ≡ [])
one_round tells alone s t es none q plan block kept last [] c = (c.0, c.1, refl)
one_round tells alone s t es none q plan block kept last (r ∷ rounds) c = absurd (never_marked es none c.1.left.at c.1.optional)

pub nobody_is_left : NobodyIsLeft
nobody_is_left tells alone s t es q old new block result it none =
    let nobody : it.answers.left.items ≡ [] = nobody_left es none (everybody es) it.answers.left.items it.asking.fit.may_leave in
    let one = one_round tells alone it.asked it.went.between es none q (plan_over es q old it.answers) block it.answers.kept.items it.went.last_kept it.went.abandoned it.went.rounds in
    (nobody, one.2, one.1 ∙ it.asking.fit.those_kept ∙ ap (λ (v : List Left). without_all v (everybody es)) nobody)
