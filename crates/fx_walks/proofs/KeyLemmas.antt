-- The probes of an accepted query have keys that are triples of the grammar.
use Rattle.std.proofs.Common.{subst, refl, ℕ, zero, suc, ◌<◌, Bool, true, false, cond, not, List, [], ◌∷◌, ◌++◌, map, codes, arith}
use Rattle.std.specs.Prelude.{All, fold}
use Rattle.std.specs.List.{AllByRecursion, flat_map, list_any, range_with_len}
use Rattle.std.specs.Str.{IsAscii, chars}
use Rattle.std.proofs.lemmas.List.Elements.{All-from_recursion, recursion_from_All}
use Rattle.std.proofs.lemmas.Str.{IsAscii-append, IsUtf8-from_ascii}
use Rattle.fx_terms.specs.Names.{IsName}
use Rattle.fx_terms.specs.declared.terms.Term.TheVariants.{Iri, Literal}
use Rattle.fx_terms.specs.declared.patterns.Pattern.{Pattern}
use Rattle.fx_terms.specs.declared.patterns.PatternTerm.{PatternTerm}
use Rattle.fx_terms.specs.declared.patterns.PatternTerm.TheVariants.{Variable, Constant}
use Rattle.fx_algebra.specs.Cuts.{stations}
use Rattle.fx_algebra.specs.Scopes.{once, pattern_names}
use Rattle.fx_algebra.specs.Stations.{Station}
use Rattle.fx_algebra.specs.Stations as station
use Rattle.fx_algebra.specs.declared.queries.Query.{Query}
use Rattle.fx_grammar.specs.Accepted.{Accepted}
use Rattle.fx_spelling.specs.Printable.{IsPart, IsTriple, IsVerb}
use Rattle.fx_spelling.specs.Runs.{HasRun}
use Rattle.fx_spelling.proofs.Runs.{runs_are_of_the_grammar}
use Rattle.fx_keys.specs.Keys.{key, name_among, numbered, place, renamed_part}
use Rattle.fx_keys.specs.Probes.{key_of, probe, same_key}
use Rattle.fx_keys.specs.declared.keys.AskKey.{AskKey}
use Rattle.fx_keys.specs.declared.probes.Probe.{Probe}
use Rattle.fx_sources.specs.Patterns.{patterns}
use Rattle.fx_sources.specs.Probes.{Entry, is_held, keys_of, missing, missing_at, with_key}
use Rattle.fx_walks.specs.Sections.{run_patterns, section_of}
use Rattle.fx_walks.proofs.SectionLemmas.{runs_have}

-- ---- a key

one_ascii : (c : ℕ) → c < 128 → IsAscii (c ∷ [])
one_ascii c low zero = low
one_ascii c low (suc i) = omega arith

letter_and : (c : ℕ) → c < 128 → IsAscii (118 ∷ c ∷ [])
letter_and c low = IsAscii-append (118 ∷ []) (c ∷ []) (one_ascii 118 (omega arith)) (one_ascii c low)

numbered_is_name : (n : ℕ) → IsName (numbered n)
unfolding chars
numbered_is_name zero = record { utf8 = IsUtf8-from_ascii (codes "v0") (letter_and 48 (omega arith)); name = refl }
numbered_is_name (suc zero) = record { utf8 = IsUtf8-from_ascii (codes "v1") (letter_and 49 (omega arith)); name = refl }
numbered_is_name (suc (suc n)) = record { utf8 = IsUtf8-from_ascii (codes "v2") (letter_and 50 (omega arith)); name = refl }

module _ (f : List ℕ → List ℕ) (names : (name : List ℕ) → IsName (f name)) where
  part_renamed : (part : PatternTerm) → IsPart part → IsPart (renamed_part f part)
  part_renamed (Variable name) h = names name
  part_renamed (Constant t) h = h

  verb_renamed : (part : PatternTerm) → IsVerb part → IsVerb (renamed_part f part)
  verb_renamed (Variable name) h = names name
  verb_renamed (Constant (Iri a)) h = h
  verb_renamed (Constant (Literal l)) h = absurd h

key_is_triple : (p : Pattern) → IsTriple p → IsTriple (key p)
key_is_triple p h =
    let f = name_among (once (pattern_names p)) in
    let names : (name : List ℕ) → IsName (f name) = λ name. numbered_is_name (place (once (pattern_names p)) name) in
    record { subject = part_renamed f names p.subject h.subject; predicate = verb_renamed f names p.predicate h.predicate; object = part_renamed f names p.object h.object }

-- ---- keys, each once

all_both : {X : Type 0} (P : X → Type 0) (xs ys : List X) → AllByRecursion P xs → AllByRecursion P ys → AllByRecursion P (xs ++ ys)
all_both P [] ys h k = k
all_both P (x ∷ xs) ys h k = (h.0, all_both P xs ys h.1 k)

abbrev IsKey : AskKey → Type 0
IsKey k = IsTriple k.pattern

one_more : (b : Bool) (keys : List AskKey) (k : AskKey) → AllByRecursion IsKey keys → IsKey k → AllByRecursion IsKey (cond b keys (keys ++ k ∷ []))
one_more true keys k h i = h
one_more false keys k h i = all_both IsKey keys (k ∷ []) h (i, tt)

all_more : (ks keys : List AskKey) → AllByRecursion IsKey keys → AllByRecursion IsKey ks → AllByRecursion IsKey (fold with_key keys ks)
all_more [] keys h i = h
all_more (k ∷ ks) keys h i = all_more ks (with_key keys k) (one_more (list_any (same_key k) keys) keys k h i.0) i.1

of_patterns : (ps : List Pattern) → AllByRecursion IsTriple ps → AllByRecursion IsKey (map key_of ps)
of_patterns [] h = tt
of_patterns (p ∷ ps) h = (key_is_triple p h.0, of_patterns ps h.1)

-- ---- probes

abbrev IsProbe : Probe → Type 0
IsProbe p = IsTriple p.key.pattern

if_kept : (b : Bool) (p : Probe) (rest : List Probe) → IsProbe p → AllByRecursion IsProbe rest → AllByRecursion IsProbe (cond b (p ∷ rest) rest)
if_kept true p rest h i = (h, i)
if_kept false p rest h i = i

at_member : (entries : List Entry) (keys : List AskKey) (at : ℕ) → AllByRecursion IsKey keys → AllByRecursion IsProbe (missing_at entries keys at)
at_member entries [] at h = tt
at_member entries (k ∷ keys) at h = if_kept (not (is_held entries (probe at k))) (probe at k) (missing_at entries keys at) h.0 (at_member entries keys at h.1)

at_members : (entries : List Entry) (keys : List AskKey) (members : List ℕ) → AllByRecursion IsKey keys → AllByRecursion IsProbe (flat_map (missing_at entries keys) members)
at_members entries keys [] h = tt
at_members entries keys (at ∷ members) h = all_both IsProbe (missing_at entries keys at) (flat_map (missing_at entries keys) members) (at_member entries keys at h) (at_members entries keys members h)

-- ---- of a query

of_runs : (ss : List Station) → AllByRecursion HasRun ss → AllByRecursion IsTriple (flat_map run_patterns (map section_of ss))
of_runs [] h = tt
of_runs (station.run ps filters before ∷ ss) h = all_both IsTriple ps (flat_map run_patterns (map section_of ss)) (recursion_from_All IsTriple ps h.0.triples) (of_runs ss h.1)
of_runs (station.service number silent iri g ∷ ss) h = of_runs ss h.1

pub probes_are_triples : (text : List ℕ) (q : Query) → Accepted text q → (members : ℕ) (entries : List Entry) → All (λ p. IsTriple p.key.pattern) (missing q members entries)
probes_are_triples text q accepted members entries =
    let runs = of_runs (stations q) (recursion_from_All HasRun (stations q) (runs_are_of_the_grammar text q accepted)) in
    let triples = subst (AllByRecursion IsTriple) (runs_have q) runs in
    All-from_recursion IsProbe (missing q members entries)
    (at_members entries (keys_of q) (range_with_len 0 members) (all_more (map key_of (patterns q)) [] tt (of_patterns (patterns q) triples)))
