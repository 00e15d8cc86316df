use Rattle.std.proofs.Common.{◌≡◌, ◌++◌, ◌∷◌, [], map, drop, take, string_bytes, if◌then◌else◌}
use Rattle.std.specs.List.{flat_map}
use Rattle.std.specs.Prelude.{codes}
use Rattle.fx_algebra.specs.Printed as spec
use Rattle.fx_print.proofs.groups.+print.Given as goal

abbrev pub invariant-push_elements-loop-element : goal.invariant-push_elements-loop-element
invariant-push_elements-loop-element l =
    string_bytes l.text ++ spec.spaced (flat_map (λ words. words) (map spec.element_words (drop l.element-index l.elements)))
    ≡ string_bytes l.initial.text ++ spec.spaced (flat_map (λ words. words) (map spec.element_words l.elements))

abbrev pub invariant-push_union-loop-group : goal.invariant-push_union-loop-group
invariant-push_union-loop-group l =
    let words = map spec.group_words (drop l.group-index l.groups) in
    string_bytes l.text ++ spec.spaced (if l.is_first then spec.separated (spec.fixed (codes "UNION")) words else spec.marked (spec.fixed (codes "UNION")) words)
    ≡ string_bytes l.initial.text ++ spec.spaced (spec.separated (spec.fixed (codes "UNION")) (map spec.group_words l.groups))
