use Rattle.std.proofs.Common.{◌≡◌, ◌++◌, map, take, string_bytes}
use Rattle.fx_algebra.specs.Printed.{spaced, variable}
use Rattle.fx_bound.proofs.texts.push_sent_names.Given as goal

abbrev pub invariant-loop-pair : goal.invariant-loop-pair
invariant-loop-pair l = string_bytes l.text ≡ string_bytes l.initial.text ++ spaced (map (λ n. variable n) (map (λ e. e.0) (take l.pair-index l.sent)))
