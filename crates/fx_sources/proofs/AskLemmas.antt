-- What the query that asks for a pattern answers.
use Rattle.std.proofs.Common.{◌≡◌, ◌∙◌, ap, sym, true, ◌&&◌, List, [], ◌∷◌, Option, Some, None, is_some, false}
use Rattle.std.specs.List.{filter_map}
use Rattle.fx_terms.specs.declared.patterns.Pattern.{Pattern}
use Rattle.fx_algebra.specs.Answers.{element_pattern, group_patterns, has_rows, no_graphs, pattern_in, patterns_of, IsPlain}
use Rattle.fx_algebra.specs.BasicGraphPatterns.{bgp}
use Rattle.fx_algebra.specs.declared.answers.Answer.TheVariants.{Truth}
use Rattle.fx_algebra.specs.declared.queries.Element.{Element-F, fold-roll-Element}
use Rattle.fx_algebra.specs.declared.queries.Element.TheVariants as element
use Rattle.fx_algebra.specs.declared.queries.Form.TheVariants as form
use Rattle.fx_algebra.specs.declared.queries.Group.{roll-Group, fold-roll-Group}
use Rattle.fx_algebra.specs.declared.queries.Query.{Query}
use Rattle.fx_algebra.proofs.PlainLemmas.{plain_rows}
use Rattle.fx_sources.specs.Sources.{AskTellsFits}

-- the rows of a query don't depend on its form
plain : Pattern → Query
plain p = record { form = form.Select false []; group = roll-Group (record { elements = element.Triple p ∷ [] }); order = []; offset = 0; limit = None; inline = None }

pattern_is : (p : Pattern) → pattern_in (element.Triple p) ≡ Some p
pattern_is p = ap pattern_in (sym (element.rolls-Triple p)) ∙ fold-roll-Element (Option Pattern) (List Pattern) element_pattern group_patterns (Element-F.Triple p)

alone : (p : Pattern) → patterns_of (plain p).group ≡ p ∷ []
unfolding plain
alone p =
    fold-roll-Group (Option Pattern) (List Pattern) element_pattern group_patterns (record { elements = element.Triple p ∷ [] })
    ∙ ap (λ (o : Option Pattern). filter_map (λ q. q) (o ∷ [])) (pattern_is p)

is_plain_query : (p : Pattern) → IsPlain (plain p)
unfolding plain
is_plain_query p = ap (λ (o : Option Pattern). (is_some o && true) && true) (pattern_is p)

pub ask_tells : AskTellsFits
unfolding plain
ask_tells p graph = ap (λ rows. Truth (has_rows rows)) (plain_rows (plain p) graph no_graphs [] (is_plain_query p) ∙ ap (bgp graph) (alone p))
