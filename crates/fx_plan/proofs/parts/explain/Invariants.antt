use Rattle.std.proofs.Common.{◌≡◌, ◌++◌, ◌≤◌, drop, string_bytes}
use Rattle.fx_plan.specs.Explained as spec
use Rattle.fx_plan.proofs.parts.explain.Given as goal

-- what is left completes the text
abbrev pub invariant-loop-part : goal.invariant-loop-part
invariant-loop-part l = record {
  text : string_bytes l.text ++ spec.part_texts l.endpoints l.number (drop l.part-index l.parts) ≡ spec.explained l.parts l.endpoints;
  number : l.number ≤ l.part-index;
}
