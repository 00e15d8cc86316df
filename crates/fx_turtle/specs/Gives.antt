-- What a function that reads ensures: the rule's outcome, unless memory runs out.
use Rattle.std.specs.Prelude.{◌≡◌, ℕ, List, [], ◌∷◌, ◌++◌, length, Option, Some, Result, Ok, Err}
use Rattle.std.specs.List.{flat_map}
use Rattle.fx_terms.specs.Literals.{LiteralParts}
use Rattle.fx_terms.specs.declared.terms.Term.{Term}
use Rattle.fx_terms.specs.declared.terms.Term.TheVariants as term
use Rattle.fx_terms.specs.declared.triples.Triple.{Triple}
use Rattle.fx_rules.specs.Rule.{and_then, why_at}
use Rattle.fx_grammar.specs.Grammar.{Prefixes, declared, option_list, annotated}
use Rattle.fx_grammar.specs.declared.parts.Annotation.TheVariants as annotation
use Rattle.fx_turtle.specs.Grammar.{text_of, text_suffix, object, Property, triples_of, Statement, declare, triples_in}
use Rattle.fx_turtle.specs.Rule.{alphabet, Outcome, Rule, made, seq, one, opt, chain}
use Rattle.fx_turtle.specs.Sources.{Tokened, left}
use Rattle.fx_turtle.specs.Symbols.{Symbol, is}
use Rattle.fx_turtle.specs.declared.faults.Fault.{Fault}
use Rattle.fx_turtle.specs.declared.faults.Fault.TheVariants.{Refused, Memory}
use Rattle.fx_turtle.specs.declared.kinds.Kind.TheVariants as k
use Rattle.fx_turtle.specs.declared.refusals.TurtleKind.{TurtleKind}

abbrev pub IsRefusal : {A : Type 0} → Fault → Outcome A → Type 0
IsRefusal Memory outcome = Unit {0}
IsRefusal (Refused why left) outcome = outcome ≡ Err (record { why = why; left = left })

abbrev pub Gives : {X A : Type 0} → (X → A × List Symbol) → Result X Fault → Outcome A → Type 0
Gives view (Ok x) outcome = outcome ≡ Ok (view x)
Gives view (Err fault) outcome = IsRefusal fault outcome

-- a value and the place behind it, as a rule reads from a place on
abbrev pub GivesAt : {A : Type 0} → Tokened → ℕ → Result (A × ℕ) Fault → Rule A → Type 0
GivesAt source at result rule = Gives (λ x. (x.0, left source x.1)) result (rule.read (left source at))

-- the same of a literal
abbrev pub GivesLiteral : Tokened → ℕ → Result (LiteralParts × ℕ) Fault → Rule Term → Type 0
GivesLiteral source at result rule = Gives (λ x. (term.Literal x.0, left source x.1)) result (rule.read (left source at))

-- a text with what stands behind it, and a literal by that
abbrev pub texted : Prefixes → Rule Term
texted ps = made (λ p. annotated p.0 p.1) (seq (one (is k.Text) text_of) (opt (text_suffix ps)))

abbrev pub tagged : List ℕ → List ℕ → Term
tagged form tag = annotated form (Some (annotation.Tag tag))

abbrev pub typed : List ℕ → List ℕ → Term
typed form datatype = annotated form (Some (annotation.Datatype datatype))

-- the refusal of the first of some symbols, for a reason
abbrev pub Refuses : Fault → TurtleKind → List Symbol → Type 0
Refuses Memory why ts = Unit {0}
Refuses (Refused said left) why ts = (said ≡ why_at alphabet why ts) × (left ≡ length ts)

-- what is read, made parts of a list, behind what was there before
unfoldable pub added : {A B : Type 0} → List B → (A → List B) → Outcome A → Outcome (List B)
added front parts o = and_then o (λ x rest. Ok (front ++ parts x, rest))

-- the place behind what a rule reads from a place on, which was added to a list
abbrev pub Adds : {A : Type 0} → Tokened → ℕ → List Triple → List Triple → Result ℕ Fault → (A → List Triple) → Rule A → Type 0
Adds source at old new result parts rule = Gives (λ next. (new, left source next)) result (added old parts (rule.read (left source at)))

-- one triple, and those of a verb
abbrev pub triple_of : List ℕ → List ℕ → Term → List Triple
triple_of subject predicate object = record { subject = subject; predicate = predicate; object = object } ∷ []

abbrev pub objects : Prefixes → Rule (List Term)
objects ps = chain k.Comma (object ps)

abbrev pub object_triples : List ℕ → List ℕ → List Term → List Triple
object_triples subject predicate said = flat_map (triple_of subject predicate) said

-- those of a verb and its objects, where there is one
abbrev pub optional_triples : List ℕ → Option Property → List Triple
optional_triples subject property = triples_of subject (option_list property)

-- what a statement leaves of the prefixes and triples before it: one more of either, as it says
abbrev pub Took : Tokened → Prefixes → Prefixes → List Triple → List Triple → Result ℕ Fault → Outcome Statement → Type 0
Took source ps qs old new (Ok next) outcome = (s : Statement) × (outcome ≡ Ok (s, left source next)) × ((q : List ℕ) → declared qs q ≡ declared (declare ps s) q) × (new ≡ old ++ triples_in s)
Took source ps qs old new (Err fault) outcome = IsRefusal fault outcome

abbrev pub Takes : Tokened → ℕ → Prefixes → Prefixes → List Triple → List Triple → Result ℕ Fault → Rule Statement → Type 0
Takes source at ps qs old new result rule = Took source ps qs old new result (rule.read (left source at))
