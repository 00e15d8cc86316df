use Rattle.std.proofs.Common.{◌≡◌, ◌++◌, ◌∷◌, [], map, drop, take, string_bytes, if◌then◌else◌}
use Rattle.std.specs.List.{flat_map}
use Rattle.std.specs.Prelude.{codes}
use Rattle.fx_algebra.specs.Printed as spec
use Rattle.fx_print.proofs.expressions.+print.Given as goal

abbrev pub invariant-push_chain-loop-part : goal.invariant-push_chain-loop-part
invariant-push_chain-loop-part l =
    let words = map (spec.in_place l.place) (map spec.printed (drop l.part-index l.parts)) in
    string_bytes l.text ++ spec.spaced (if l.is_first then spec.separated (spec.fixed l.mark) words else spec.marked (spec.fixed l.mark) words)
    ≡ string_bytes l.initial.text ++ spec.spaced (spec.chained (spec.fixed l.mark) l.place (map spec.printed l.parts))

abbrev pub invariant-push_signed-loop-sign : goal.invariant-push_signed-loop-sign
invariant-push_signed-loop-sign l =
    string_bytes l.text ++ spec.spaced (spec.signed (map (λ part. (part.0, spec.printed part.1)) (drop l.sign-index l.parts)))
    ≡ string_bytes l.initial.text ++ spec.spaced (spec.signed (map (λ part. (part.0, spec.printed part.1)) l.parts))
