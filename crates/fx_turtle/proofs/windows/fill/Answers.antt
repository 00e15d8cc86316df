use Rattle.std.proofs.Common.{All, inl, inr, List, Option, drop, sym, subst}
use Rattle.std.specs.Prelude.{IfSome}
use Rattle.std.specs.Str.{chars}
use Rattle.fx_tokens.specs.Reads.{AnswersNext}
use Rattle.fx_tokens.specs.Scan.{Barren}
use Rattle.fx_tokens.specs.declared.Next.{Next}
use Rattle.fx_tokens.specs.declared.Token as read
use Rattle.fx_turtle.specs.Symbols.{symbols}
use Rattle.fx_turtle.specs.Windows.{ReadsTo, EndsInDot, DotsEnd}
use Rattle.fx_turtle.proofs.WindowTokens.{IsOther, others_none, others_next, no_dots, dot_ends, reads_none, reads_next, ends_in_dot}
use Rattle.fx_turtle.proofs.windows.fill.Goals as goal

pub each-init : goal.each-init
each-init c = record {
  others = subst (λ (v : List read.Token). All (IsOther c.args.text.now) v) (sym c.clear.ensures.items) (others_none c.args.text.now);
  reads = subst (λ (v : List read.Token). ReadsTo c.args.text.now c.args.from.place c.args.from.place v) (sym c.clear.ensures.items) (reads_none c.args.text.now c.args.from.place c.requires.place);
  barren = c.requires.barren;
}

pub returns-then-is_dot-clause-filled : goal.returns-then-is_dot-clause-filled
returns-then-is_dot-clause-filled c =
    let next = subst (λ (o : Option Next). AnswersNext c.args.text.now c.each.to.place o) c.in-Some.is c.in_ok-next.ensures.found in
    record {
      reads = subst (λ (v : List read.Token). ReadsTo c.args.text.now c.args.from.place c.in-Some.next.token.end v) (sym c.in_ok-push.ensures.items)
          (reads_next c.args.text.now c.args.from.place c.each.to.place c.each.window.items c.in-Some.next.token c.each.invariant.reads next);
      barren = subst (λ (o : Option Next). IfSome o (λ n. Barren n.barren (chars (drop n.token.end c.args.text.now)))) c.in-Some.is c.in_ok-next.ensures.barren;
      short = subst (λ (v : List read.Token). DotsEnd c.args.text.now v) (sym c.in_ok-push.ensures.items) (dot_ends c.args.text.now c.each.window.items c.in-Some.next.token c.each.invariant.others);
      closed = inl
          (subst (λ (v : List read.Token). EndsInDot (symbols c.args.text.now v)) (sym c.in_ok-push.ensures.items)
          (ends_in_dot c.args.text.now c.each.window.items c.in-Some.next.token (c.is_dot.ensures.dot c.if-is_dot.true)));
    }

pub each-preserved : goal.each-preserved
each-preserved c =
    let next = subst (λ (o : Option Next). AnswersNext c.args.text.now c.each.to.place o) c.in-Some.is c.in_ok-next.ensures.found in
    record {
      others = subst (λ (v : List read.Token). All (IsOther c.args.text.now) v) (sym c.in_ok-push.ensures.items)
          (others_next c.args.text.now c.each.window.items c.in-Some.next.token c.each.invariant.others (λ e. let is = c.is_dot.ensures.other e in cc (is, c.if-is_dot.false)));
      reads = subst (λ (v : List read.Token). ReadsTo c.args.text.now c.args.from.place c.in-Some.next.token.end v) (sym c.in_ok-push.ensures.items)
          (reads_next c.args.text.now c.args.from.place c.each.to.place c.each.window.items c.in-Some.next.token c.each.invariant.reads next);
      barren = subst (λ (o : Option Next). IfSome o (λ n. Barren n.barren (chars (drop n.token.end c.args.text.now)))) c.in-Some.is c.in_ok-next.ensures.barren;
    }

pub returns-clause-filled : goal.returns-clause-filled
returns-clause-filled c = record {
  reads = c.each.invariant.reads;
  barren = c.each.invariant.barren;
  short = no_dots c.args.text.now c.each.window.items c.each.invariant.others;
  closed = inr (subst (λ (o : Option Next). AnswersNext c.args.text.now c.each.to.place o) c.in_default.is c.in_ok-next.ensures.found);
}
