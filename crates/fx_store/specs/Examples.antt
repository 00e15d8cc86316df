-- How many steps a look-up takes at most, written out.
use Rattle.std.specs.Prelude.{◌≡◌, ◌+◌, ◌*◌, List, length, filter}
use Rattle.std.proofs.Common.{◌∙◌, ap, refl}
use Rattle.fx_terms.specs.declared.triples.Triple.{Triple}
use Rattle.fx_terms.specs.declared.patterns.Pattern.{Pattern}
use Rattle.fx_algebra.specs.Solutions.{Bindings}
use Rattle.fx_store.specs.Lookups.{binary_digits, has_parts, known_of, most_steps}

no_digit : binary_digits 0 ≡ 0
no_digit = refl

one_digit : binary_digits 1 ≡ 1
one_digit = refl

pub eleven_digits : binary_digits 1024 ≡ 11
eleven_digits = refl

-- one of 1,024 triples
pub one_of_many : (graph : List Triple) (p : Pattern) (s : Bindings) → length graph ≡ 1024 → length (filter (has_parts (known_of p s)) graph) ≡ 1 → most_steps graph p s ≡ 23
one_of_many graph p s e f = ap (λ n. 2 * binary_digits n + length (filter (has_parts (known_of p s)) graph)) e ∙ ap (λ n. 2 * 11 + n) f

-- the one triple of a graph
pub the_only_one : (graph : List Triple) (p : Pattern) (s : Bindings) → length graph ≡ 1 → length (filter (has_parts (known_of p s)) graph) ≡ 1 → most_steps graph p s ≡ 3
the_only_one graph p s e f = ap (λ n. 2 * binary_digits n + length (filter (has_parts (known_of p s)) graph)) e ∙ ap (λ n. 2 * 1 + n) f
