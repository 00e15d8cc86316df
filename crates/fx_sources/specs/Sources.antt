-- The query that asks for the sources of a pattern, and what its answers tell (source selection by ASK, as in FedX).
use Rattle.std.specs.Prelude.{◌≡◌, ℕ, Bool, List, [], ◌∷◌, ◌++◌, map, length, All, None}
use Rattle.std.specs.List.{zip}
use Rattle.fx_terms.specs.declared.patterns.Pattern.{Pattern}
use Rattle.fx_terms.specs.declared.triples.Triple.{Triple}
use Rattle.fx_algebra.specs.Answers.{answer_alone}
use Rattle.fx_algebra.specs.Printed.{printed_query}
use Rattle.fx_algebra.specs.Units.{fits, graph_of, sources, of_kept, AreAllKept}
use Rattle.fx_algebra.specs.declared.answers.Answer.TheVariants.{Truth}
use Rattle.fx_algebra.specs.declared.queries.Element.TheVariants as element
use Rattle.fx_algebra.specs.declared.queries.Form.TheVariants as form
use Rattle.fx_algebra.specs.declared.queries.Group.{roll-Group}
use Rattle.fx_algebra.specs.declared.queries.Query.{Query}
use Rattle.fx_keys.specs.Keys.{key}
use Rattle.fx_sources.specs.Patterns.{patterns}
use Rattle.fx_sources.specs.Probes.{Entry, chosen, missing, told, kept_probes, kept_members}

-- ---- asking

-- the query that asks whether a pattern fits
abbrev pub ask_query : Pattern → Query
ask_query p = record { form = form.Ask; group = roll-Group (record { elements = element.Triple p ∷ [] }); order = []; offset = 0; limit = None; inline = None }

-- the text that asks
abbrev pub ask_text : Pattern → List ℕ
ask_text p = printed_query (ask_query p)

-- ---- laws

-- the answer over a graph is whether the pattern fits
abbrev pub AskTellsFits : Type 0
AskTellsFits = (p : Pattern) (graph : List Triple) → answer_alone (ask_query p) graph ≡ Truth (fits p graph)

-- a pattern fits exactly where its key does
abbrev pub KeyFitsAlike : Type 0
KeyFitsAlike = (p : Pattern) (graph : List Triple) → fits (key p) graph ≡ fits p graph

-- an entry tells whether its key fits the graph of its member
abbrev pub Tells : List (List Triple) → Entry → Type 0
Tells graphs e = e.1 ≡ fits e.0.key.pattern (graph_of graphs e.0.at)

-- where each entry tells that, and each answer to what is missing, the chosen members are the sources
abbrev pub ChoosesSources : Type 0
ChoosesSources = (query : Query) (graphs : List (List Triple)) (entries : List Entry) (truths : List Bool)
    → length truths ≡ length (missing query (length graphs) entries)
    → All (Tells graphs) entries
    → All (Tells graphs) (zip (missing query (length graphs) entries) truths)
    → chosen query (length graphs) (told (missing query (length graphs) entries) truths ++ entries) ≡ map (sources graphs) (patterns query)

-- where each entry tells that, and each answer to what is missing of the kept members, those of the chosen members that are kept are the
-- sources over the graphs with an empty one in the place of each other member
abbrev pub ChoosesKeptSources : Type 0
ChoosesKeptSources = (query : Query) (kept : List Bool) (graphs : List (List Triple)) (entries : List Entry) (truths : List Bool)
    → length truths ≡ length (kept_probes kept (missing query (length graphs) entries))
    → All (Tells graphs) entries
    → All (Tells graphs) (zip (kept_probes kept (missing query (length graphs) entries)) truths)
    → map (kept_members kept) (chosen query (length graphs) (told (kept_probes kept (missing query (length graphs) entries)) truths ++ entries))
    ≡ map (sources (of_kept kept graphs)) (patterns query)

-- where each member is kept, so is each probe that is missing
abbrev pub AllProbesAreKept : Type 0
AllProbesAreKept = (query : Query) (kept : List Bool) (members : ℕ) (entries : List Entry) → AreAllKept kept members
    → kept_probes kept (missing query members entries) ≡ missing query members entries

-- and each member that is chosen
abbrev pub AllChosenAreKept : Type 0
AllChosenAreKept = (query : Query) (kept : List Bool) (members : ℕ) (entries : List Entry) → AreAllKept kept members
    → map (kept_members kept) (chosen query members entries) ≡ chosen query members entries
