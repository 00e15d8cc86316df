use Rattle.std.proofs.Common.{◌≡◌, ◌++◌, map, take, string_bytes}
use Rattle.fx_algebra.specs.Printed.{spaced, variable}
use Rattle.fx_values.specs.Sent.{others}
use Rattle.fx_values.proofs.texts.push_others.Given as goal

abbrev pub invariant-loop-pair : goal.invariant-loop-pair
invariant-loop-pair l = string_bytes l.text ≡ string_bytes l.initial.text ++ spaced (map (λ n. variable n) (others (take l.pair-index l.sent)))
