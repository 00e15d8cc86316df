-- One symbol that is read: what it is picked as is what its rule gives.
use Rattle.std.proofs.Common.{◌≡◌, ◌∙◌, ℕ, Bool, true, false, cond, List, [], ◌∷◌, Some, None, Result, Ok, Err, refl, ap}
use Rattle.std.specs.Str.{bytes_eq}
use Rattle.fx_terms.specs.Datatypes.{lang_string}
use Rattle.fx_terms.specs.Iris.{read_iri}
use Rattle.fx_terms.specs.declared.iris.TermError.{TermError}
use Rattle.fx_tokens.specs.Decoding.{iri_text}
use Rattle.fx_grammar.specs.Grammar.{Prefixes, not_lang_string}
use Rattle.fx_grammar.specs.declared.refusals.SyntaxKind.{SyntaxKind}
use Rattle.fx_grammar.specs.declared.refusals.SyntaxKind.TheVariants as syntax
use Rattle.fx_rules.specs.Rule.{and_then, refuse, valued}
use Rattle.fx_turtle.specs.Gives.{IsRefusal, Refuses}
use Rattle.fx_turtle.specs.Grammar.{is_iri_name, as_turtle, named_by, iri_of, iri_name, datatype}
use Rattle.fx_turtle.specs.Rule.{alphabet, Outcome, Refusal, one, opt}
use Rattle.fx_turtle.specs.Sources.{picked, named}
use Rattle.fx_turtle.specs.Symbols as symbol
use Rattle.fx_turtle.specs.Symbols.{Symbol, kind_of}
use Rattle.fx_turtle.specs.declared.faults.Fault.{Fault}
use Rattle.fx_turtle.specs.declared.faults.Fault.TheVariants as fault
use Rattle.fx_turtle.specs.declared.kinds.Kind.{Kind}
use Rattle.fx_turtle.specs.declared.kinds.Kind.TheVariants as k
use Rattle.fx_turtle.specs.declared.refusals.TurtleKind.{TurtleKind}
use Rattle.fx_turtle.specs.declared.refusals.TurtleKind.TheVariants.{Unexpected, BadLiteral}

-- a refusal of the next symbol is that of what refuses it
pub refused_as : {A : Type 0} (f : Fault) (why : TurtleKind) (ts : List Symbol) (o : Outcome A) → Refuses f why ts → o ≡ refuse alphabet why ts → IsRefusal f o
refused_as fault.Memory why ts o h e = tt
refused_as (fault.Refused said left) why ts o h e = rw (h.0, h.1) e

-- a refusal that is handed on, from what refuses to what then refuses too
pub hands_on : {A B : Type 0} (f : Fault) (o : Outcome A) (w : Outcome B) → IsRefusal f o → ((r : Refusal) → o ≡ Err r → w ≡ Err r) → IsRefusal f w
hands_on fault.Memory o w h g = tt
hands_on (fault.Refused why left) o w h g = g _ h

module _ {A : Type 0} (kinds : Kind → Bool) (value : Symbol → Result A TurtleKind) where
  pub one_ends : (ts : List Symbol) → ts ≡ [] → (one kinds value).read ts ≡ refuse alphabet Unexpected ts
  one_ends ts e = rw e refl

  module _ (ts rest : List Symbol) (s : Symbol) (here : ts ≡ s ∷ rest) where
    pub kinds_some : (o : Result A TurtleKind) → Some o ≡ picked kinds value s → kinds (kind_of s) ≡ true
    kinds_some o e = go (kinds (kind_of s)) e
      where
        go : (b : Bool) → Some o ≡ cond b (Some (value s)) None → b ≡ true
        go true e = refl
        go false e = absurd (cc e)

    pub kinds_none : None ≡ picked kinds value s → kinds (kind_of s) ≡ false
    kinds_none e = go (kinds (kind_of s)) e
      where
        go : (b : Bool) → None ≡ cond b (Some (value s)) None → b ≡ false
        go true e = absurd (cc e)
        go false e = refl

    value_some : (o : Result A TurtleKind) → Some o ≡ picked kinds value s → value s ≡ o
    value_some o e = go (kinds (kind_of s)) e
      where
        go : (b : Bool) → Some o ≡ cond b (Some (value s)) None → value s ≡ o
        go true e = cc e
        go false e = absurd (cc e)

    pub one_some : (o : Result A TurtleKind) → Some o ≡ picked kinds value s → (one kinds value).read ts ≡ valued alphabet o ts rest
    one_some o e = rw (here, kinds_some o e, value_some o e) refl

    pub one_none : None ≡ picked kinds value s → (one kinds value).read ts ≡ refuse alphabet Unexpected ts
    one_none e = rw (here, kinds_none e) refl

    pub opt_some : (o : Result A TurtleKind) → Some o ≡ picked kinds value s → (opt (one kinds value)).read ts ≡ and_then (valued alphabet o ts rest) (λ x rest. Ok (Some x, rest))
    opt_some o e = rw (here, kinds_some o e, value_some o e) refl

    pub opt_none : None ≡ picked kinds value s → (opt (one kinds value)).read ts ≡ Ok (None, ts)
    opt_none e = rw (here, kinds_none e) refl

-- ---- names of IRIs

pub named_iri : (ps : Prefixes) (form : List ℕ) → named (read_iri (iri_text form)) ≡ picked is_iri_name (λ s. as_turtle (named_by ps s)) (symbol.iri_of form)
named_iri ps form = go (read_iri (iri_text form))
  where
    go : (o : Result (List ℕ) TermError) → named o ≡ picked is_iri_name (λ s. as_turtle (named_by ps s)) (symbol.iri_or o)
    go (Ok iri) = refl
    go (Err e) = refl

abbrev not_lang : Outcome (List ℕ) → List Symbol → Outcome (List ℕ)
not_lang (Ok p) ts = cond (bytes_eq p.0 lang_string) (refuse alphabet BadLiteral ts) (Ok p)
not_lang (Err r) ts = Err r

lang_value : (o : Result (List ℕ) SyntaxKind) (ts rest : List Symbol) → valued alphabet (as_turtle (not_lang_string o)) ts rest ≡ not_lang (valued alphabet (as_turtle o) ts rest) ts
lang_value (Err why) ts rest = refl
lang_value (Ok iri) ts rest = go (bytes_eq iri lang_string)
  where
    go : (b : Bool) → valued alphabet (as_turtle (cond b (Err syntax.BadLiteral) (Ok iri))) ts rest ≡ cond b (refuse alphabet BadLiteral ts) (Ok (iri, rest))
    go true = refl
    go false = refl

datatype_first : (ps : Prefixes) (b : Bool) (s : Symbol) (rest : List Symbol)
    → cond b (valued alphabet (as_turtle (not_lang_string (named_by ps s))) (s ∷ rest) rest) (refuse alphabet Unexpected (s ∷ rest))
    ≡ not_lang (cond b (valued alphabet (as_turtle (named_by ps s)) (s ∷ rest) rest) (refuse alphabet Unexpected (s ∷ rest))) (s ∷ rest)
datatype_first ps true s rest = lang_value (named_by ps s) (s ∷ rest) rest
datatype_first ps false s rest = refl

datatype_read : (ps : Prefixes) (ts : List Symbol) → (datatype ps).read ts ≡ not_lang ((iri_name ps).read ts) ts
unfolding datatype iri_name
datatype_read ps [] = refl
datatype_read ps (s ∷ rest) = datatype_first ps (is_iri_name (kind_of s)) s rest

module _ (ps : Prefixes) (ts : List Symbol) where
  pub datatype_fails : (r : Refusal) → (iri_name ps).read ts ≡ Err r → (datatype ps).read ts ≡ Err r
  datatype_fails r e = datatype_read ps ts ∙ ap (λ (o : Outcome (List ℕ)). not_lang o ts) e

  pub datatype_bad : (iri : List ℕ) (rest : List Symbol) → (iri_name ps).read ts ≡ Ok (iri, rest) → bytes_eq iri lang_string ≡ true → (datatype ps).read ts ≡ refuse alphabet BadLiteral ts
  datatype_bad iri rest e b = datatype_read ps ts ∙ ap (λ (o : Outcome (List ℕ)). not_lang o ts) e ∙ ap (λ (x : Bool). cond x (refuse alphabet BadLiteral ts) (Ok (iri, rest))) b

  pub datatype_good : (iri : List ℕ) (rest : List Symbol) → (iri_name ps).read ts ≡ Ok (iri, rest) → bytes_eq iri lang_string ≡ false → (datatype ps).read ts ≡ Ok (iri, rest)
  datatype_good iri rest e b = datatype_read ps ts ∙ ap (λ (o : Outcome (List ℕ)). not_lang o ts) e ∙ ap (λ (x : Bool). cond x (refuse alphabet BadLiteral ts) (Ok (iri, rest))) b

pub alone_iri : (form : List ℕ) → named (read_iri (iri_text form)) ≡ picked (symbol.is k.Iri) iri_of (symbol.iri_of form)
alone_iri form = go (read_iri (iri_text form))
  where
    go : (o : Result (List ℕ) TermError) → named o ≡ picked (symbol.is k.Iri) iri_of (symbol.iri_or o)
    go (Ok iri) = refl
    go (Err e) = refl
