-- Probes: a member that is asked whether a key fits its graph. Keys and probes, their equality, and what is hashed of them.
use Rattle.std.specs.Prelude.{◌≡◌, ℕ, Bool, ◌&&◌, ◌==◌, ◌++◌}
use Rattle.std.proofs.Common.{ap}
use Rattle.std.specs.Bool.{Decides}
use Rattle.std.specs.Cmp.{unsigned_Decides}
use Rattle.std.specs.Hash as fed
use Rattle.fx_terms.specs.declared.patterns.Pattern.{Pattern}
use Rattle.fx_keys.specs.Keys.{key, same_pattern, patterns_decide, text_of, and_first, and_second, both_from}
use Rattle.fx_keys.specs.declared.keys.AskKey.{AskKey}
use Rattle.fx_keys.specs.declared.probes.Probe.{Probe}

abbrev pub same_key : AskKey → AskKey → Bool
same_key a b = same_pattern a.pattern b.pattern

abbrev pub same_probe : Probe → Probe → Bool
same_probe a b = (a.at == b.at) && same_key a.key b.key

-- the key of a pattern
abbrev pub key_of : Pattern → AskKey
key_of p = record { pattern = key p }

-- the probe of a member, by its number, with a key
abbrev pub probe : ℕ → AskKey → Probe
probe at k = record { at = at; key = k }

-- ---- the tests tell all keys and all probes apart

pub keys_decide : (a b : AskKey) → Decides (same_key a b) (a ≡ b)
keys_decide a b = (λ h. let p = (patterns_decide a.pattern b.pattern).0 h in λ i. record { pattern = p i }, λ e. (patterns_decide a.pattern b.pattern).1 (ap (λ k. k.pattern) e))

pub probes_decide : (p q : Probe) → Decides (same_probe p q) (p ≡ q)
probes_decide p q = (
  λ h.
      let at = (unsigned_Decides p.at q.at).0 (and_first _ _ h) in
      let k = (keys_decide p.key q.key).0 (and_second (p.at == q.at) _ h) in
      λ i. record { at = at i; key = k i },
  λ e. both_from _ _ ((unsigned_Decides p.at q.at).1 (ap (λ r. r.at) e)) ((keys_decide p.key q.key).1 (ap (λ r. r.key) e)),
)

-- ---- what is hashed

abbrev pub key_writes : AskKey → fed.HashWrites
key_writes k = fed.str (text_of k.pattern.subject) ++ (fed.str (text_of k.pattern.predicate) ++ fed.str (text_of k.pattern.object))

abbrev pub probe_writes : Probe → fed.HashWrites
probe_writes p = fed.u32 p.at ++ key_writes p.key
