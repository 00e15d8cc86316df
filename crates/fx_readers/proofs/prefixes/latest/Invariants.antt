use Rattle.std.proofs.Common.{◌≡◌, ℕ, List, drop}
use Rattle.fx_grammar.specs.Grammar.{declared, if_later}
use Rattle.fx_readers.specs.Prefixes.{found}
use Rattle.fx_readers.proofs.prefixes.latest.Given as goal

-- the last of those that are left, or else what was found
abbrev pub invariant-loop-declaration : goal.invariant-loop-declaration
invariant-loop-declaration l = (q : List ℕ) → if_later (declared (drop l.declaration-index l.declared) q) (found l.latest.entries q) ≡ declared l.declared q
