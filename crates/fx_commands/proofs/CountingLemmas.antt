-- The query of `count_rows` is accepted from its text, and has no SERVICE; and what the members give for it is counted.
use Rattle.std.proofs.Common.{◌≡◌, ◌∙◌, ap, sym, subst, refl, ℕ, zero, suc, ◌<◌, ◌≤◌, Bool, true, false, List, [], ◌∷◌, ◌++◌, map, length, max, codes, Some, None, Ok, Err, inl, inr, arith}
use Rattle.std.specs.Prelude.{All, Result, nat_le, bytes_eq, if◌then◌else◌}
use Rattle.std.specs.List.{flat_map, list_all}
use Rattle.std.specs.Str.{IsAscii}
use Rattle.std.proofs.lemmas.Bool.{and_parts}
use Rattle.std.proofs.lemmas.List.Elements.{All-from_recursion}
use Rattle.std.proofs.lemmas.Bool.Decides.{nat_tests}
use Rattle.std.proofs.lemmas.Str.{IsUtf8-from_ascii, chars-IsAscii}
use Rattle.fx_terms.specs.Datatypes.{xsd_integer}
use Rattle.fx_terms.specs.Iris.{IsIri}
use Rattle.fx_terms.specs.Names.{IsName, is_name, named}
use Rattle.fx_terms.specs.Terms.{IsTerm}
use Rattle.fx_terms.specs.declared.patterns.Pattern.{Pattern}
use Rattle.fx_terms.specs.declared.triples.Triple.{Triple}
use Rattle.fx_algebra.specs.Answers.{answer, answer_alone, form_answer, no_graphs, with_inline}
use Rattle.fx_algebra.specs.Graphs.{union}
use Rattle.fx_algebra.specs.Groups.{Meaning, Part, pattern, condition, meaning, element_meaning, group_meaning, group_rows}
use Rattle.fx_algebra.specs.Measures.{Measured, measure_step, measured, condition_nest, placed}
use Rattle.fx_algebra.specs.Occurrences as service
use Rattle.fx_algebra.specs.Printed.{Word, fixed, variable, term, joined, condition as condition_words, element_step, element_words, form_words, group_step, group_words, in_place, order_words, pattern_words, print_step, printed, printed_query, query_words}
use Rattle.fx_algebra.specs.Printed as words
use Rattle.fx_algebra.specs.Scopes.{once, with_name}
use Rattle.fx_algebra.specs.declared.answers.Answer.{Answer}
use Rattle.fx_algebra.specs.declared.expressions.Compare.TheVariants.{Less}
use Rattle.fx_algebra.specs.declared.expressions.Expr.{Expr-F, fold-roll-Expr, roll-Expr}
use Rattle.fx_algebra.specs.declared.queries.Element.{Element, Element-F, fold-roll-Element}
use Rattle.fx_algebra.specs.declared.queries.Element.TheVariants as element
use Rattle.fx_algebra.specs.declared.queries.Form.TheVariants as form
use Rattle.fx_algebra.specs.declared.queries.Group.{Group, fold-roll-Group, roll-Group}
use Rattle.fx_algebra.proofs.CutLemmas.{part_of}
use Rattle.fx_grammar.specs.Accepted.{Accepted, IsSpellable}
use Rattle.fx_spelling.specs.Printable.{AreFine, Held, IsPrintable, brackets, held, held_element, hold_element, hold_group}
use Rattle.fx_spelling.proofs.Queries.{printed_is_accepted}
use Rattle.fx_spelling.proofs.Saying.{fine_both}
use Rattle.fx_spelling.proofs.Terms.{fine_triple}
use Rattle.fx_sources.specs.Probes.{Entry}
use Rattle.fx_traffic.specs.Gains.{TellAll, WiresSeen}
use Rattle.fx_outcomes.specs.Calls.{AreAllOrNone, Call, down_in, occurrence_in, occurrences}
use Rattle.fx_services.specs.Beside.{Occurrence}
use Rattle.fx_services.specs.Noted.{places}
use Rattle.fx_walks.specs.Unknown.{first_unknown, unknown_of}
use Rattle.fx_services.specs.declared.noted.Down.{Down}
use Rattle.fx_services.specs.declared.noted.DownCause.TheVariants as cause
use Rattle.fx_outcomes.specs.declared.federated.FedError.{FedError}
use Rattle.fx_outcomes.specs.declared.federated.FedError.TheVariants as fed
use Rattle.fx_outcomes.specs.declared.rounds.OutcomeInRounds.{OutcomeInRounds}
use Rattle.fx_commands.specs.Counting.{IsOfMember, IsRowCount, WasCounted, age, first_address, generated_elements, generated_members, generated_query, generated_text, is_young, knows, linked, rows_in, second_address, thirty}
use Rattle.fx_commands.specs.MemberSteps.{IsAnswered}
use Rattle.fx_commands.proofs.QueryLemmas.{known_from_nothing}
use Rattle.fx_outcomes.specs.Mediation.{Serve}
use Rattle.fx_outcomes.specs.InRounds.{FederatedInRounds, WentInRounds}
use Rattle.fx_outcomes.specs.Outcomes.{AllTell}
use Rattle.fx_outcomes.specs.Rounds.{everybody}
use Rattle.fx_algebra.specs.Units.{of_kept}
use Rattle.fx_algebra.proofs.KeptLemmas.{all_kept}
use Rattle.fx_sources.proofs.KeptLemmas.{replicate_kept}
use Rattle.fx_rounds.specs.LeftOut.{IsUnmarked}
use Rattle.fx_rounds.specs.Refused.{IsFirstFailed}
use Rattle.fx_rounds.proofs.DownLemmas.{no_refused}
use Rattle.fx_rounds.proofs.LicenceLemmas.{last_down}
use Rattle.fx_rounds.proofs.LeftOutLemmas.{answers_went}
use Rattle.fx_rounds.proofs.RefusedLemmas.{services_failed}
use Rattle.fx_rounds.proofs.UnmarkedLemmas.{nobody_is_left}

-- ---- the elements of the query

abbrev first : Pattern
first = linked (codes "a") knows (codes "b")

abbrev second : Pattern
second = linked (codes "b") knows (codes "c")

abbrev third : Pattern
third = linked (codes "c") age (codes "n")

abbrev group : Group
group = roll-Group (record { elements = generated_elements })

-- what is so of each of them
each : {A : Type 0} (f : Element → A) (a b c d : A) → f (element.Triple first) ≡ a → f (element.Triple second) ≡ b → f (element.Triple third) ≡ c → f (element.Filter is_young) ≡ d → map f generated_elements ≡ a ∷ b ∷ c ∷ d ∷ []
each {A} f a b c d h i j k =
    ap (λ (v : A). v ∷ f (element.Triple second) ∷ f (element.Triple third) ∷ f (element.Filter is_young) ∷ []) h
    ∙ ap (λ (v : A). a ∷ v ∷ f (element.Triple third) ∷ f (element.Filter is_young) ∷ []) i
    ∙ ap (λ (v : A). a ∷ b ∷ v ∷ f (element.Filter is_young) ∷ []) j
    ∙ ap (λ (v : A). a ∷ b ∷ c ∷ v ∷ []) k

-- ---- the words of the query

young_printed : printed is_young ≡ print_step (Expr-F.Compare Less (print_step (Expr-F.Variable (codes "n"))) (print_step (Expr-F.Constant thirty)))
young_printed =
    fold-roll-Expr words.Printed print_step (Expr-F.Compare Less (roll-Expr (Expr-F.Variable (codes "n"))) (roll-Expr (Expr-F.Constant thirty)))
    ∙ ap (λ (v : words.Printed). print_step (Expr-F.Compare Less v (printed (roll-Expr (Expr-F.Constant thirty))))) (fold-roll-Expr words.Printed print_step (Expr-F.Variable (codes "n")))
    ∙ ap (λ (v : words.Printed). print_step (Expr-F.Compare Less (print_step (Expr-F.Variable (codes "n"))) v)) (fold-roll-Expr words.Printed print_step (Expr-F.Constant thirty))

triple_words : (p : Pattern) → element_words (element.Triple p) ≡ pattern_words p
triple_words p = ap element_words (sym (element.rolls-Triple p)) ∙ fold-roll-Element (List Word) (List Word) element_step group_step (Element-F.Triple p)

abbrev young_words : List Word
young_words = fixed (codes "FILTER") ∷ fixed (codes "(") ∷ variable (codes "n") ∷ fixed (codes "<") ∷ term thirty ∷ fixed (codes ")") ∷ []

filter_words : element_words (element.Filter is_young) ≡ young_words
unfolding condition_words in_place
filter_words =
    ap element_words (sym (element.rolls-Filter is_young))
    ∙ fold-roll-Element (List Word) (List Word) element_step group_step (Element-F.Filter is_young)
    ∙ ap (λ (v : words.Printed). fixed (codes "FILTER") ∷ condition_words v) young_printed

group_is : group_words group ≡ group_step (record { elements = pattern_words first ∷ pattern_words second ∷ pattern_words third ∷ young_words ∷ [] })
group_is =
    fold-roll-Group (List Word) (List Word) element_step group_step (record { elements = generated_elements })
    ∙ ap (λ (l : List (List Word)). group_step (record { elements = l })) (each element_words (pattern_words first) (pattern_words second) (pattern_words third) young_words (triple_words first) (triple_words second) (triple_words third) filter_words)

abbrev written : List Word
written =
    fixed (codes "SELECT") ∷ variable (codes "a") ∷ variable (codes "c") ∷ fixed (codes "WHERE") ∷ fixed (codes "{")
    ∷ (pattern_words first ++ (pattern_words second ++ (pattern_words third ++ (young_words ++ fixed (codes "}") ∷ []))))

words_are : query_words generated_query ≡ written
unfolding query_words form_words order_words
words_are = ap (λ (v : List Word). form_words (form.Select false (codes "a" ∷ codes "c" ∷ [])) ++ (v ++ [])) group_is

text_is : printed_query generated_query ≡ generated_text
text_is = ap joined words_are

-- ---- its names and terms

below : (c : ℕ) → nat_le c 127 ≡ true → c < 128
below c h = grind (arith, nat_tests)

all_ascii : (text : List ℕ) → list_all (λ c. nat_le c 127) text ≡ true → IsAscii text
all_ascii [] h i = omega arith
all_ascii (c ∷ cs) h zero = below c (and_parts (nat_le c 127) (list_all (λ d. nat_le d 127) cs) h).0
all_ascii (c ∷ cs) h (suc i) = all_ascii cs (and_parts (nat_le c 127) (list_all (λ d. nat_le d 127) cs) h).1 i

a_name : (text : List ℕ) → IsAscii text → is_name text ≡ true → IsName text
a_name text ascii h = record { utf8 = IsUtf8-from_ascii text ascii; name = ap (named text) (ap is_name (chars-IsAscii text ascii) ∙ h) }

named_a : IsName (codes "a")
named_a = a_name (codes "a") (all_ascii (codes "a") refl) refl

named_b : IsName (codes "b")
named_b = a_name (codes "b") (all_ascii (codes "b") refl) refl

named_c : IsName (codes "c")
named_c = a_name (codes "c") (all_ascii (codes "c") refl) refl

named_n : IsName (codes "n")
named_n = a_name (codes "n") (all_ascii (codes "n") refl) refl

knows_iri : IsIri knows
knows_iri = record { utf8 = IsUtf8-from_ascii knows (all_ascii knows refl); iri = refl }

age_iri : IsIri age
age_iri = record { utf8 = IsUtf8-from_ascii age (all_ascii age refl); iri = refl }

integer_iri : IsIri xsd_integer
integer_iri = record { utf8 = IsUtf8-from_ascii xsd_integer (all_ascii xsd_integer refl); iri = refl }

thirty_term : IsTerm thirty
thirty_term = record { form = IsUtf8-from_ascii (codes "30") (all_ascii (codes "30") refl); datatype = integer_iri; fits = refl; tag = λ h. absurd (omega (arith, h)) }

fine : AreFine written
fine = (
  inr (inl refl),
  (
    named_a,
    (
      named_c,
      (
        inr (inl refl),
        (
          inl refl,
          fine_both (pattern_words first) (pattern_words second ++ (pattern_words third ++ (young_words ++ fixed (codes "}") ∷ []))) (fine_triple first (record { subject = named_a; predicate = knows_iri; object = named_b }))
              (fine_both (pattern_words second) (pattern_words third ++ (young_words ++ fixed (codes "}") ∷ [])) (fine_triple second (record { subject = named_b; predicate = knows_iri; object = named_c }))
              (fine_both (pattern_words third) (young_words ++ fixed (codes "}") ∷ []) (fine_triple third (record { subject = named_c; predicate = age_iri; object = named_n })) (inr (inl refl), (inl refl, (named_n, (inl refl, (thirty_term, (inl refl, (inl refl, tt))))))))),
        ),
      ),
    ),
  ),
)

-- ---- its brackets

young_measured : measured is_young ≡ measure_step (Expr-F.Compare Less (measure_step (Expr-F.Variable (codes "n"))) (measure_step (Expr-F.Constant thirty)))
young_measured =
    fold-roll-Expr Measured measure_step (Expr-F.Compare Less (roll-Expr (Expr-F.Variable (codes "n"))) (roll-Expr (Expr-F.Constant thirty)))
    ∙ ap (λ (v : Measured). measure_step (Expr-F.Compare Less v (measured (roll-Expr (Expr-F.Constant thirty))))) (fold-roll-Expr Measured measure_step (Expr-F.Variable (codes "n")))
    ∙ ap (λ (v : Measured). measure_step (Expr-F.Compare Less (measure_step (Expr-F.Variable (codes "n"))) v)) (fold-roll-Expr Measured measure_step (Expr-F.Constant thirty))

triple_held : (p : Pattern) → held_element (element.Triple p) ≡ hold_element (Element-F.Triple p)
triple_held p = ap held_element (sym (element.rolls-Triple p)) ∙ fold-roll-Element Held Held hold_element hold_group (Element-F.Triple p)

abbrev young_held : Held
young_held = record { nest = 1; good = true; serves = false; names = []; binds = None }

filter_held : held_element (element.Filter is_young) ≡ young_held
unfolding placed
filter_held =
    ap held_element (sym (element.rolls-Filter is_young))
    ∙ fold-roll-Element Held Held hold_element hold_group (Element-F.Filter is_young)
    ∙ ap (λ (m : Measured). record { nest = condition_nest m; good = m.good; serves = false; names = []; binds = None }) young_measured

held_is : held group ≡ hold_group (record { elements = hold_element (Element-F.Triple first) ∷ hold_element (Element-F.Triple second) ∷ hold_element (Element-F.Triple third) ∷ young_held ∷ [] })
held_is =
    fold-roll-Group Held Held hold_element hold_group (record { elements = generated_elements })
    ∙ ap (λ (l : List Held). hold_group (record { elements = l })) (each held_element (hold_element (Element-F.Triple first)) (hold_element (Element-F.Triple second)) (hold_element (Element-F.Triple third)) young_held (triple_held first) (triple_held second) (triple_held third) filter_held)

columns_once : once (codes "a" ∷ codes "c" ∷ []) ≡ codes "a" ∷ codes "c" ∷ []
unfolding with_name
columns_once = refl

some_columns : (P : Type 0) → codes "a" ∷ codes "c" ∷ [] ≡ [] → P
some_columns P h = absurd (cc)

printable : IsPrintable generated_query
printable = record {
  words = subst AreFine (sym words_are) fine;
  form = (columns_once, λ h. some_columns _ h);
  group = ap (λ (x : Held). x.good) held_is;
  order = refl;
  inline = refl;
}

few : brackets generated_query ≤ 64
few = let two : (held group).nest ≡ 2 = ap (λ (x : Held). x.nest) held_is in subst (λ (n : ℕ). max n 0 ≤ 64) (sym two) (omega arith)

pub query_accepted : Accepted generated_text generated_query
query_accepted = subst (λ (t : List ℕ). Accepted t generated_query) text_is (printed_is_accepted generated_query printable few)

pub query_spellable : IsSpellable generated_query
query_spellable = (generated_text, query_accepted)

-- ---- it has no SERVICE

triple_none : (p : Pattern) → service.of_element (element.Triple p) ≡ []
triple_none p = ap service.of_element (sym (element.rolls-Triple p)) ∙ fold-roll-Element (List service.Occurrence) (List service.Occurrence) service.element_occurrences service.group_occurrences (Element-F.Triple p)

filter_none : service.of_element (element.Filter is_young) ≡ []
filter_none = ap service.of_element (sym (element.rolls-Filter is_young)) ∙ fold-roll-Element (List service.Occurrence) (List service.Occurrence) service.element_occurrences service.group_occurrences (Element-F.Filter is_young)

no_services : service.services generated_query ≡ []
no_services =
    fold-roll-Group (List service.Occurrence) (List service.Occurrence) service.element_occurrences service.group_occurrences (record { elements = generated_elements })
    ∙ ap service.all_of (each service.of_element [] [] [] [] (triple_none first) (triple_none second) (triple_none third) filter_none)

triple_is : (graphs : List ℕ → List Triple) (p : Pattern) → part_of graphs [] (element.Triple p) ≡ pattern p
triple_is graphs p = ap (part_of graphs []) (sym (element.rolls-Triple p)) ∙ fold-roll-Element Part Meaning (element_meaning graphs []) group_meaning (Element-F.Triple p)

filter_is : (graphs : List ℕ → List Triple) → part_of graphs [] (element.Filter is_young) ≡ condition is_young
filter_is graphs = ap (part_of graphs []) (sym (element.rolls-Filter is_young)) ∙ fold-roll-Element Part Meaning (element_meaning graphs []) group_meaning (Element-F.Filter is_young)

abbrev plain_meaning : Meaning
plain_meaning = group_meaning (record { elements = pattern first ∷ pattern second ∷ pattern third ∷ condition is_young ∷ [] })

meaning_is : (graphs : List ℕ → List Triple) → meaning graphs [] group ≡ plain_meaning
meaning_is graphs =
    fold-roll-Group Part Meaning (element_meaning graphs []) group_meaning (record { elements = generated_elements })
    ∙ ap (λ (l : List Part). group_meaning (record { elements = l })) (each (part_of graphs []) (pattern first) (pattern second) (pattern third) (condition is_young) (triple_is graphs first) (triple_is graphs second) (triple_is graphs third) (filter_is graphs))

-- whatever graphs other endpoints have, its answer is the same
answers_alike : (graph : List Triple) (graphs : List ℕ → List Triple) → answer generated_query graph graphs [] ≡ answer_alone generated_query graph
answers_alike graph graphs = ap (λ (m : Meaning). form_answer generated_query generated_query.form (with_inline None (group_rows m graph 0))) (meaning_is graphs ∙ sym (meaning_is no_graphs))

none_occur : occurrences generated_query ≡ []
none_occur = ap (λ (m : Meaning). flat_map occurrence_in (m.cut.stations 0 [])) (meaning_is no_graphs)

no_call : (calls : List Call) (os : List Occurrence) → os ≡ [] → AreAllOrNone calls os → calls ≡ []
no_call calls os none (inl empty) = empty
no_call [] os none (inr are) = refl
no_call (c ∷ cs) os none (inr are) = absurd (not_empty (are ∙ none))
  where
    not_empty : c.of ∷ map (λ (d : Call). d.of) cs ≡ [] → ⊥
    not_empty h = cc

-- ---- what the members give

-- each address has the graph that is told there
abbrev graph_at : List Triple → List Triple → List Triple → List ℕ → List Triple
graph_at a b c address = if bytes_eq address first_address then a else if bytes_eq address second_address then b else c

serves : (a b c : List Triple) → Serve (graph_at a b c) generated_members (a ∷ b ∷ c ∷ [])
serves a b c = (refl, (refl, (refl, tt)))

-- queries can't do without any of the members
unmarked : All IsUnmarked generated_members
unmarked = All-from_recursion IsUnmarked generated_members (refl, (refl, (refl, tt)))

module _ (w : WiresSeen) (entries : List Entry) where
  abbrev Given : Result OutcomeInRounds FedError → Type 0
  Given r = FederatedInRounds w.tells w.alone w.before w.after generated_members generated_query [] entries 15 r

  abbrev Went : Result OutcomeInRounds FedError → Type 0
  Went r = WentInRounds w.tells w.alone w.before w.after generated_members generated_query [] entries 15 r

  none_down : (all : OutcomeInRounds) (it : Went (Ok all)) → all.outcome.down ≡ []
  none_down all it =
      last_down all (down_in it.went.last.calls) it.went.ended it.told it.went.last.down
      ∙ ap down_in (no_call it.went.last.calls (occurrences generated_query) none_occur it.went.last.called)

  -- each member is kept
  of_each : (a b c : List Triple) (all : OutcomeInRounds) (it : Went (Ok all)) → of_kept it.went.last_kept (a ∷ b ∷ c ∷ []) ≡ a ∷ b ∷ c ∷ []
  of_each a b c all it =
      let none = nobody_is_left w.tells w.alone w.before w.after generated_members generated_query [] entries 15 (Ok all) it unmarked in
      ap (λ (v : List Bool). of_kept v (a ∷ b ∷ c ∷ [])) none.2 ∙ all_kept (everybody generated_members) (a ∷ b ∷ c ∷ []) (replicate_kept 3)

  answer_is : (all : OutcomeInRounds) (a b c : List Triple) → Went (Ok all) → TellAll w.before generated_members (a ∷ b ∷ c ∷ []) → all.outcome.answer ≡ answer_alone generated_query (union (a ∷ b ∷ c ∷ []))
  answer_is all a b c it told =
      let graphs = a ∷ b ∷ c ∷ [] in
      it.answer graphs (known_from_nothing w.before generated_members graphs told) (graph_at a b c) (serves a b c)
      ∙ ap (λ (v : List (List Triple)). answer generated_query (union v) (graph_at a b c) (places all.outcome.down)) (of_each a b c all it)
      ∙ ap (λ (noted : List Down). answer generated_query (union graphs) (graph_at a b c) (places noted)) (none_down all it)
      ∙ answers_alike (union graphs) (graph_at a b c)

  row_count : (all : OutcomeInRounds) → Went (Ok all) → IsRowCount w.before (length (rows_in all.outcome.answer))
  row_count all it [] told = absurd told
  row_count all it (a ∷ []) told = absurd told.1
  row_count all it (a ∷ b ∷ []) told = absurd told.1.1
  row_count all it (a ∷ b ∷ c ∷ []) told = ap (λ (x : Answer). length (rows_in x)) (answer_is all a b c it told)
  row_count all it (a ∷ b ∷ c ∷ d ∷ graphs) told = absurd told.1.1.1

  known_service : (iri : List ℕ) → unknown_of generated_members generated_query ≡ Some iri → ⊥
  known_service iri h = not_both (sym h ∙ ap (first_unknown generated_members) no_services)
    where
      not_both : Some iri ≡ None → ⊥
      not_both h = cc

  -- no occurrence of SERVICE is refused, since there is none
  no_service : (iri : List ℕ) → IsFirstFailed w generated_members generated_query iri → ⊥
  no_service iri k = no_refused k.calls cause.Failed iri (no_call k.calls (occurrences generated_query) none_occur (inr k.all_called)) k.first

  of_member : (e : FedError) → AllTell w.tells w.before → Given (Err e) → IsOfMember e
  of_member (fed.Member name) alike f = tt
  of_member (fed.Service iri) alike f = absurd (no_service iri (services_failed w generated_members generated_query entries 15 iri alike f).1)
  of_member (fed.BadReply name bad) alike f = tt
  of_member (fed.RequestTooLong name size) alike f = tt
  of_member (fed.UnknownService iri) alike f = absurd (known_service iri f.known)
  of_member fed.Memory alike f = tt

-- ---- what is counted

none_given : (all : OutcomeInRounds) → Ok all ≡ Err fed.Memory → ⊥
none_given all h = cc

the_want : (r : Result OutcomeInRounds FedError) (e : FedError) → r ≡ Err e → r ≡ Err fed.Memory → e ≡ fed.Memory
the_want r e a b = cc

pub counted : (w : WiresSeen) (all : OutcomeInRounds) (count : ℕ) → count ≡ length (rows_in all.outcome.answer) → IsAnswered w generated_members generated_query 15 (Ok all) → IsRowCount w.before count
counted w all count is (inl none) = absurd (none_given all none.1)
counted w all count is (inr given) =
    subst (IsRowCount w.before) (sym is)
    (row_count w given.entries all (answers_went w.tells w.alone w.before w.after generated_members generated_query [] given.entries 15 all given.in_rounds))

pub was_counted : (w : WiresSeen) (all : OutcomeInRounds) (count : ℕ) → count ≡ length (rows_in all.outcome.answer) → IsAnswered w generated_members generated_query 15 (Ok all) → WasCounted w (Ok count)
was_counted w all count is (inl none) = absurd (none_given all none.1)
was_counted w all count is (inr given) = inr (Ok all, given, ap Ok is)

pub was_refused : (w : WiresSeen) (e : FedError) → IsAnswered w generated_members generated_query 15 (Err e) → WasCounted w (Err e)
was_refused w e (inl none) = inl (none.0, ap Err (the_want (Err e) e refl none.1))
was_refused w e (inr given) = inr (Err e, given, refl)

pub refused_by : (w : WiresSeen) (e : FedError) → IsAnswered w generated_members generated_query 15 (Err e) → IsOfMember e
refused_by w e (inl none) = subst IsOfMember (sym (the_want (Err e) e refl none.1)) tt
refused_by w e (inr given) = of_member w given.entries e given.alike given.in_rounds
