use Rattle.std.proofs.Common.{◌++◌, ◌∷◌, [], Ok, Err, Option, drop, subst}
use Rattle.std.specs.Prelude.{IfSome}
use Rattle.std.specs.Str.{chars}
use Rattle.std.proofs.lemmas.Result.{err_from_is_err_and}
use Rattle.fx_tokens.specs.Reads.{AnswersNext}
use Rattle.fx_tokens.specs.Scan.{Barren}
use Rattle.fx_tokens.specs.declared.Next.{Next}
use Rattle.fx_turtle.proofs.WindowTokens.{reads_none, reads_next}
use Rattle.fx_turtle.proofs.windows.scan.Goals as goal

pub each-init : goal.each-init
each-init c = ([], reads_none c.args.text.now c.args.from.place c.requires.place, c.requires.barren)

pub next_token-requires-clause-place : goal.next_token-requires-clause-place
next_token-requires-clause-place c = c.each.invariant.1.cut

pub next_token-requires-clause-barren : goal.next_token-requires-clause-barren
next_token-requires-clause-barren c = c.each.invariant.2

pub returns-in_err-next-clause-refused : goal.returns-in_err-next-clause-refused
returns-in_err-next-clause-refused c =
    let p = err_from_is_err_and c.from_residual.result c.from_residual.ensures.1 in
    rw (p.1, p.2) (c.each.invariant.1.reads (Err _) c.in_err-next.ensures.refused)

pub each-preserved : goal.each-preserved
each-preserved c =
    let next = subst (λ (o : Option Next). AnswersNext c.args.text.now c.each.to.place o) c.in-Some.is c.in_ok-next.ensures.found in (
      c.each.invariant.0 ++ c.in-Some.next.token ∷ [],
      reads_next c.args.text.now c.args.from.place c.each.to.place c.each.invariant.0 c.in-Some.next.token c.each.invariant.1 next,
      subst (λ (o : Option Next). IfSome o (λ n. Barren n.barren (chars (drop n.token.end c.args.text.now)))) c.in-Some.is c.in_ok-next.ensures.barren,
    )

pub returns-clause-found : goal.returns-clause-found
returns-clause-found c =
    (c.each.invariant.0 ++ [], c.each.invariant.1.reads (Ok []) (subst (λ (o : Option Next). AnswersNext c.args.text.now c.each.to.place o) c.in_default.is c.in_ok-next.ensures.found))
