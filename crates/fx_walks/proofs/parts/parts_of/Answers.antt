use Rattle.std.proofs.Common.{◌≡◌, ◌∙◌, ◌++◌, ap, sym, subst, ℕ, List, [], ◌∷◌, ◌≤◌, length, map, take, drop, append_assoc}
use Rattle.std.proofs.lemmas.Iterator.Adapters.{YieldsList-from_vec}
use Rattle.std.proofs.lemmas.Iterator.Consumers.{YieldsList-end}
use Rattle.std.specs.List.{flat_map}
use Rattle.std.specs.Vec.Iter.{into_iter_len}
use Rattle.fx_terms.specs.declared.patterns.Pattern.{Pattern}
use Rattle.fx_algebra.specs.declared.expressions.Expr.{Expr}
use Rattle.fx_plan.specs.declared.parts.Part.{Part}
use Rattle.fx_walks.specs.Sections.{part_of_run, parts_by, run_patterns}
use Rattle.fx_walks.specs.declared.sections.Section.{Section}
use Rattle.fx_walks.specs.declared.sections.Section.TheVariants.{Run, Service}
use Rattle.fx_walks.proofs.PartLemmas.{after_run, after_service, has_sources, none_left, nothing_behind}
use Rattle.fx_walks.proofs.parts.parts_of.Goals as goal

pub loop-section-init : goal.loop-section-init
loop-section-init c =
    let is = c.into_iter-section-iterator.ensures.into_iter_gives.0 in
    record {
      whole = is;
      left = record {
        parts_are = ap (λ (v : List Part). v ++ parts_by c.into_iter-section-iterator.result.rest.items c.args.sources.now) c.new-parts.ensures.items ∙ ap (λ (r : List Section). parts_by r c.args.sources.now) is;
        many = c.requires ∙ ap (λ (r : List Section). length (flat_map run_patterns r)) (sym is);
      };
    }

pub split_at-requires : goal.split_at-requires
split_at-requires c =
    let ss = c.next.new.self.rest.items in
    let here : c.loop-section.section-iterator.rest.items ≡ Run c.in-Run.patterns c.in-Run.filters c.in-Run.bound ∷ ss = c.in-Some.ensures.steps.0 ∙ ap (λ (s : Section). s ∷ ss) c.in-Run.is in
    subst (λ (n : ℕ). n ≤ length c.loop-section.left.now) (sym (ap length c.as_slice.ensures))
    (has_sources c.loop-section.parts.items c.loop-section.section-iterator.rest.items c.loop-section.left.now (parts_by c.args.sections.items c.args.sources.now) c.in-Run.patterns c.in-Run.filters c.in-Run.bound ss c.loop-section.invariant.left here)

pub loop-section-preserved-in-Run : goal.loop-section-preserved-in-Run
loop-section-preserved-in-Run c =
    let left = c.loop-section.left.now in
    let n = ap length c.as_slice.ensures in
    let ss = c.next.new.self.rest.items in
    let own = c.split_at.result.0.now in
    let here : c.loop-section.section-iterator.rest.items ≡ Run c.in-Run.patterns c.in-Run.filters c.in-Run.bound ∷ ss = c.in-Some.ensures.steps.0 ∙ ap (λ (s : Section). s ∷ ss) c.in-Run.is in
    record {
      whole = append_assoc c.loop-section.yielded (c.in-Some.section ∷ []) c.next.new.self.rest.items ∙ ap (λ (v : List Section). c.loop-section.yielded ++ v) (sym c.in-Some.ensures.steps.0) ∙ c.loop-section.invariant.whole;
      left =
          after_run c.loop-section.parts.items c.push.new.self.items c.loop-section.section-iterator.rest.items left own c.split_at.result.1.now (parts_by c.args.sections.items c.args.sources.now) c.in-Run.patterns c.in-Run.filters c.in-Run.bound ss
          c.in_ok-part_of_run-in-Run.field-0 c.loop-section.invariant.left here
          (c.split_at.ensures.front ∙ ap (λ (k : ℕ). take k left) n)
          (c.split_at.ensures.back ∙ ap (λ (k : ℕ). drop k left) n)
          (c.in_ok-part_of_run-in-Run.ensures
          ∙ ap (λ (ps : List Pattern). part_of_run ps c.as_slice-in-Run-2.result.now c.in-Run.bound own) c.as_slice-in-Run.ensures
          ∙ ap (λ (es : List Expr). part_of_run c.in-Run.patterns es c.in-Run.bound own) c.as_slice-in-Run-2.ensures)
          c.in_ok-push-in-Run.ensures.items;
    }

pub loop-section-preserved : goal.loop-section-preserved
loop-section-preserved c =
    let ss = c.next.new.self.rest.items in
    let here : c.loop-section.section-iterator.rest.items ≡ Service c.in-Service.iri ∷ ss = c.in-Some.ensures.steps.0 ∙ ap (λ (s : Section). s ∷ ss) c.in-Service.is in
    record {
      whole = append_assoc c.loop-section.yielded (c.in-Some.section ∷ []) c.next.new.self.rest.items ∙ ap (λ (v : List Section). c.loop-section.yielded ++ v) (sym c.in-Some.ensures.steps.0) ∙ c.loop-section.invariant.whole;
      left =
          after_service c.loop-section.parts.items c.push-in-Service.new.self.items c.loop-section.section-iterator.rest.items c.loop-section.left.now (parts_by c.args.sections.items c.args.sources.now) c.in-Service.iri ss c.loop-section.invariant.left here
          c.in_ok-push-in-Service.ensures.items;
    }

pub returns : goal.returns
returns c =
    let gives = c.into_iter-section-iterator.ensures.into_iter_gives in
    let fits = c.args.sections.ok in
    let whole : into_iter_len c.into_iter-section-iterator.result ≡ length c.args.sections.items = gives.1 ∙ fits.0 in
    let all : (map (λ s. s) c.loop-section.yielded ≡ c.args.sections.items) × (length c.loop-section.yielded ≡ length c.args.sections.items) =
    YieldsList-end (YieldsList-from_vec {s = c.into_iter-section-iterator.result} c.args.sections.items gives.0 whole) c.loop-section.yielded c.loop-section.section-iterator c.loop-section.yielded_by c.next.result c.next.new.self c.in-None.is c.next.ensures.steps in
    let rest = c.loop-section.section-iterator.rest.items in
    none_left c.loop-section.parts.items rest c.loop-section.left.now (parts_by c.args.sections.items c.args.sources.now) c.loop-section.invariant.left (nothing_behind c.loop-section.yielded rest c.args.sections.items c.loop-section.invariant.whole all.1)
