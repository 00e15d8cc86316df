-- What the triples of a subject are read as, part by part.
use Rattle.std.proofs.Common.{◌≡◌, ◌∙◌, ℕ, Bool, true, false, cond, ◌||◌, Option, Some, None, List, [], ◌∷◌, ◌++◌, Ok, Err, refl, sym, ap, append-nil}
use Rattle.std.specs.List.{flat_map}
use Rattle.std.specs.Option.{unwrap_or}
use Rattle.std.proofs.lemmas.List.Concat.{flat_map_single}
use Rattle.std.proofs.lemmas.Grind.{flat_map-append}
use Rattle.fx_terms.specs.declared.terms.Term.{Term}
use Rattle.fx_terms.specs.declared.triples.Triple.{Triple}
use Rattle.fx_grammar.specs.Grammar.{Prefixes, option_list}
use Rattle.fx_rules.specs.Rule.{and_then, sees}
use Rattle.fx_rules.proofs.RuleLaws as laws
use Rattle.fx_turtle.specs.Gives.{added, triple_of, optional_triples}
use Rattle.fx_turtle.specs.Grammar.{Property, property_triples, triples_of, iri_name, object, verb, property, more_properties, properties, subject, triples}
use Rattle.fx_turtle.specs.Rule.{alphabet, Outcome, Refusal, token, after, many, chain, opt}
use Rattle.fx_turtle.specs.Symbols.{Symbol, kind_of}
use Rattle.fx_turtle.specs.declared.kinds.Kind.TheVariants as k
use Rattle.fx_turtle.proofs.GrammarLaws.{kept_object, kept_property}
use Rattle.fx_turtle.proofs.Loops.{rest_of, headed_read, headed_fails}
use Rattle.fx_turtle.proofs.RuleLaws.{kept_opt}

pub object_law : (ps : Prefixes) → laws.Lawful alphabet (object ps)
object_law ps = (kept_object ps).law

pub opt_property_law : (ps : Prefixes) → laws.Lawful alphabet (opt (property ps))
unfolding property verb iri_name
opt_property_law ps = (kept_opt {a = property ps} (kept_property ps) refl).law

-- the triples of a verb's objects
objects_map : (s : List ℕ) (p : Property) → flat_map (triple_of s p.0) p.1 ≡ property_triples s p
objects_map s p = flat_map_single (λ object. record { subject = s; predicate = p.0; object = object }) p.1

flat_twice : {A B C : Type 0} (f : B → List C) (g : A → List B) (xs : List A) → flat_map f (flat_map g xs) ≡ flat_map (λ x. flat_map f (g x)) xs
flat_twice f g [] = refl
flat_twice f g (x ∷ xs) = flat_map-append f (g x) (flat_map g xs) ∙ ap (λ v. flat_map f (g x) ++ v) (flat_twice f g xs)

pub properties_whole : (s : List ℕ) (p : Property) (more : List (Option Property)) → triples_of s (p ∷ flat_map option_list more) ≡ property_triples s p ++ flat_map (optional_triples s) more
properties_whole s p more = ap (λ v. property_triples s p ++ v) (flat_twice (property_triples s) option_list more)

module _ (ps : Prefixes) (ts : List Symbol) (s : List ℕ) (front : List Triple) where
  -- ---- a verb, and then its objects

  property_is : (v : List ℕ) (mid : List Symbol) → (verb ps).read ts ≡ Ok (v, mid) → added front (flat_map (triple_of s v)) ((chain k.Comma (object ps)).read mid) ≡ added front (property_triples s) ((property ps).read ts)
  unfolding property added
  property_is v mid e = sym (rw e (go ((chain k.Comma (object ps)).read mid)))
    where
      go : (o : Outcome (List Term)) → and_then (and_then {B = Property} o (λ os rest. Ok ((v, os), rest))) (λ p rest. Ok (front ++ property_triples s p, rest)) ≡ and_then o (λ os rest. Ok (front ++ flat_map (triple_of s v) os, rest))
      go (Ok p) = ap (λ w. Ok (front ++ w, p.1)) (sym (objects_map s (v, p.0)))
      go (Err r) = refl

  pub property_same : (v : List ℕ) (mid : List Symbol) → (verb ps).read ts ≡ Ok (v, mid) → added front (flat_map (triple_of s v)) ((chain k.Comma (object ps)).read mid) ≡ added front (property_triples s) ((property ps).read ts)
  property_same = property_is

  pub property_fails : (r : Refusal) → (verb ps).read ts ≡ Err r → added front (property_triples s) ((property ps).read ts) ≡ Err r
  unfolding property added
  property_fails r e = rw e refl

  -- ---- the same, where a verb stands next

  begins_so : sees alphabet (property ps).begins ts ≡ sees alphabet (verb ps).begins ts
  unfolding property verb iri_name
  begins_so = start ts
    where
      go : (c : Bool) → (c || false) ≡ c
      go true = refl
      go false = refl

      start : (us : List Symbol) → sees alphabet (property ps).begins us ≡ sees alphabet (verb ps).begins us
      start [] = refl
      start (u ∷ us) = go ((verb ps).begins (kind_of u))

  abbrev option_of : Outcome (Option (List ℕ)) → Option (List ℕ)
  option_of (Ok p) = p.0
  option_of (Err r) = None

  abbrev opt_by : Bool → Outcome (List ℕ) → Outcome (Option (List ℕ))
  opt_by b o = cond b (and_then o (λ x rest. Ok (Some x, rest))) (Ok (None, ts))

  some_by : (b : Bool) (o : Outcome (List ℕ)) (v : List ℕ) (mid : List Symbol) → opt_by b o ≡ Ok (Some v, mid) → (b ≡ true) × (o ≡ Ok (v, mid))
  some_by true (Ok p) v mid e = (refl, ap (λ (x : List ℕ). Ok (x, p.1)) (ap (λ (o : Outcome (Option (List ℕ))). unwrap_or (option_of o) []) e) ∙ ap (λ (x : List Symbol). Ok (v, x)) (ap rest_of e))
  some_by true (Err f) v mid e = absurd (cc e)
  some_by false o v mid e = let g : None ≡ Some v = ap option_of e in absurd (cc g)

  none_by : (b : Bool) (o : Outcome (List ℕ)) (mid : List Symbol) → opt_by b o ≡ Ok (None, mid) → (b ≡ false) × (ts ≡ mid)
  none_by true (Ok p) mid e = let g : Some p.0 ≡ None = ap option_of e in absurd (cc g)
  none_by true (Err f) mid e = absurd (cc e)
  none_by false o mid e = (refl, ap rest_of e)

  fails_by : (b : Bool) (o : Outcome (List ℕ)) (r : Refusal) → opt_by b o ≡ Err r → (b ≡ true) × (o ≡ Err r)
  fails_by true (Ok p) r e = absurd (cc e)
  fails_by true (Err f) r e = (refl, cc e)
  fails_by false o r e = absurd (cc e)

  abbrev whole : Outcome (List Triple)
  whole = added front (optional_triples s) ((opt (property ps)).read ts)

  pub opt_property_some : (v : List ℕ) (mid : List Symbol) → (opt (verb ps)).read ts ≡ Ok (Some v, mid) → added front (flat_map (triple_of s v)) ((chain k.Comma (object ps)).read mid) ≡ whole
  unfolding added
  opt_property_some v mid e =
      let p = some_by (sees alphabet (verb ps).begins ts) ((verb ps).read ts) v mid e in
      property_is v mid p.1 ∙ sym (rw (begins_so, p.0) (go ((property ps).read ts)))
    where
      go : (o : Outcome Property) → and_then (and_then o (λ x rest. Ok (Some x, rest))) (λ x rest. Ok (front ++ optional_triples s x, rest)) ≡ and_then o (λ p rest. Ok (front ++ property_triples s p, rest))
      go (Ok p) = ap (λ w. Ok (front ++ w, p.1)) (append-nil (property_triples s p.0))
      go (Err r) = refl

  pub opt_property_none : (mid : List Symbol) → (opt (verb ps)).read ts ≡ Ok (None, mid) → whole ≡ Ok (front, mid)
  unfolding added
  opt_property_none mid e =
      let p = none_by (sees alphabet (verb ps).begins ts) ((verb ps).read ts) mid e in
      rw (begins_so, p.0) (ap (λ w. Ok (w, ts)) (append-nil front) ∙ ap (λ (x : List Symbol). Ok (front, x)) p.1)

  pub opt_property_fails : (r : Refusal) → (opt (verb ps)).read ts ≡ Err r → whole ≡ Err r
  unfolding added property
  opt_property_fails r e =
      let p = fails_by (sees alphabet (verb ps).begins ts) ((verb ps).read ts) r e in
      rw (begins_so, p.0, p.1) refl

-- ---- a subject, and what is said of it

module _ (ps : Prefixes) (ts : List Symbol) (front : List Triple) where
  pub triples_same : (s : List ℕ) (mid : List Symbol) → (subject ps).read ts ≡ Ok (s, mid) → added front (triples_of s) ((properties ps).read mid) ≡ added front (λ said. said) ((triples ps).read ts)
  unfolding triples added
  triples_same s mid e = sym (rw e (go ((properties ps).read mid)))
    where
      go : (o : Outcome (List Property)) → and_then (and_then (and_then {B = List ℕ × List Property} o (λ y rest. Ok ((s, y), rest))) (λ p rest. Ok (triples_of p.0 p.1, rest))) (λ said rest. Ok (front ++ said, rest)) ≡ and_then o (λ x rest. Ok (front ++ triples_of s x, rest))
      go (Ok p) = refl
      go (Err r) = refl

  pub triples_fail : (r : Refusal) → (subject ps).read ts ≡ Err r → added front (λ said. said) ((triples ps).read ts) ≡ Err r
  unfolding triples added
  triples_fail r e = rw e refl

-- ---- what was said of it, and its objects, each behind the first

module _ (ps : Prefixes) (s : List ℕ) where
  pub properties_first : (front all : List Triple) (ts mid : List Symbol) → added front (property_triples s) ((property ps).read ts) ≡ Ok (all, mid)
      → added all (flat_map (optional_triples s)) ((many (after (token k.Semicolon) (opt (property ps)))).read mid) ≡ added front (triples_of s) ((properties ps).read ts)
  unfolding properties more_properties
  properties_first front all ts mid e =
      headed_read (property ps) (many (after (token k.Semicolon) (opt (property ps)))) (λ p. p.0 ∷ flat_map option_list p.1) (property_triples s) (optional_triples s) (triples_of s) (properties_whole s) front all ts mid e

  pub properties_fail : (front : List Triple) (ts : List Symbol) (r : Refusal) → added front (property_triples s) ((property ps).read ts) ≡ Err r → added front (triples_of s) ((properties ps).read ts) ≡ Err r
  unfolding properties more_properties
  properties_fail front ts r e =
      headed_fails (property ps) (many (after (token k.Semicolon) (opt (property ps)))) (λ p. p.0 ∷ flat_map option_list p.1) (property_triples s) (optional_triples s) (triples_of s) (properties_whole s) front ts r e

  pub objects_first : (v : List ℕ) (front all : List Triple) (ts mid : List Symbol) → added front (triple_of s v) ((object ps).read ts) ≡ Ok (all, mid)
      → added all (flat_map (triple_of s v)) ((many (after (token k.Comma) (object ps))).read mid) ≡ added front (flat_map (triple_of s v)) ((chain k.Comma (object ps)).read ts)
  objects_first v front all ts mid e =
      headed_read (object ps) (many (after (token k.Comma) (object ps))) (λ p. p.0 ∷ p.1) (triple_of s v) (triple_of s v) (flat_map (triple_of s v)) (λ x xs. refl) front all ts mid e

  pub objects_fail : (v : List ℕ) (front : List Triple) (ts : List Symbol) (r : Refusal) → added front (triple_of s v) ((object ps).read ts) ≡ Err r → added front (flat_map (triple_of s v)) ((chain k.Comma (object ps)).read ts) ≡ Err r
  objects_fail v front ts r e =
      headed_fails (object ps) (many (after (token k.Comma) (object ps))) (λ p. p.0 ∷ p.1) (triple_of s v) (triple_of s v) (flat_map (triple_of s v)) (λ x xs. refl) front ts r e
