-- Which way an expression goes on, by its next token.
use Rattle.std.proofs.Common.{◌≡◌, Bool, true, false, ◌||◌, List, refl, [], ◌∷◌}
use Rattle.fx_grammar.specs.Kinds.{is, kind_of}
use Rattle.fx_grammar.specs.declared.kinds.Kind.TheVariants as k
use Rattle.fx_grammar.specs.declared.kinds.Token.{Token}
use Rattle.fx_grammar.specs.declared.refusals.SyntaxKind.TheVariants.{Unsupported, Unexpected}
use Rattle.fx_grammar.specs.Rule.{Rule, sees, refuse, made}
use Rattle.fx_grammar.specs.Grammar.{Prefixes, constraint, condition, whole_expression, parens, call, primary, primary_iri, primary_literal, iri_name, variable, is_iri_name}
use Rattle.fx_algebra.specs.declared.expressions.Expr.{Expr}
use Rattle.fx_algebra.specs.declared.expressions.Expr.TheVariants as expr
use Rattle.fx_readers.proofs.Loops.{sees-alone}

parens_begins : (inner : Rule Expr) (ts : List Token) (b : Bool) → sees (is k.LeftParen) ts ≡ b → sees (parens inner).begins ts ≡ b
parens_begins inner ts b e = sees-alone (λ kind. is k.LeftParen kind || false) ts b (sees-alone (is k.LeftParen) ts b e)

module _ (ps : Prefixes) (inner : Rule Expr) (ts : List Token) where
  pub primary_parens : sees (is k.LeftParen) ts ≡ true → (primary ps inner).read ts ≡ (parens inner).read ts
  unfolding primary
  primary_parens e = rw (parens_begins inner ts true e) refl

  pub primary_call : sees (is k.LeftParen) ts ≡ false → sees (call inner).begins ts ≡ true → (primary ps inner).read ts ≡ (call inner).read ts
  unfolding primary
  primary_call e f = rw (parens_begins inner ts false e, f) refl

  pub primary_named : sees (is k.LeftParen) ts ≡ false → sees (call inner).begins ts ≡ false → sees is_iri_name ts ≡ true → (primary ps inner).read ts ≡ (primary_iri ps).read ts
  unfolding primary primary_iri iri_name
  primary_named e f g = rw (parens_begins inner ts false e, f, sees-alone is_iri_name ts true g) refl

  pub primary_variable : sees (is k.LeftParen) ts ≡ false → sees (call inner).begins ts ≡ false → sees is_iri_name ts ≡ false → sees (is k.Variable) ts ≡ true → (primary ps inner).read ts ≡ (made expr.Variable variable).read ts
  unfolding primary primary_iri iri_name variable
  primary_variable e f g h = rw (parens_begins inner ts false e, f, sees-alone is_iri_name ts false g, h) refl

  pub primary_last : sees (is k.LeftParen) ts ≡ false → sees (call inner).begins ts ≡ false → sees is_iri_name ts ≡ false → sees (is k.Variable) ts ≡ false → (primary ps inner).read ts ≡ (primary_literal ps).read ts
  unfolding primary primary_iri iri_name variable
  primary_last e f g h = rw (parens_begins inner ts false e, f, sees-alone is_iri_name ts false g, h) refl

module _ (ps : Prefixes) (ts : List Token) where
  pub constraint_parens : sees (is k.LeftParen) ts ≡ true → (constraint ps).read ts ≡ (parens (whole_expression ps)).read ts
  unfolding constraint
  constraint_parens e = rw (parens_begins (whole_expression ps) ts true e) refl

  pub constraint_call : sees (is k.LeftParen) ts ≡ false → sees (call (whole_expression ps)).begins ts ≡ true → (constraint ps).read ts ≡ (call (whole_expression ps)).read ts
  unfolding constraint
  constraint_call e f = rw (parens_begins (whole_expression ps) ts false e, f) refl

  pub constraint_named : sees (is k.LeftParen) ts ≡ false → sees (call (whole_expression ps)).begins ts ≡ false → sees is_iri_name ts ≡ true → (constraint ps).read ts ≡ refuse Unsupported ts
  unfolding constraint
  constraint_named e f g = rw (parens_begins (whole_expression ps) ts false e, f, g) refl

  pub constraint_other : sees (is k.LeftParen) ts ≡ false → sees (call (whole_expression ps)).begins ts ≡ false → sees is_iri_name ts ≡ false → (constraint ps).read ts ≡ refuse Unexpected ts
  unfolding constraint
  constraint_other e f g = rw (parens_begins (whole_expression ps) ts false e, f, g) refl

or_nothing : (b : Bool) → (b || false) ≡ b
or_nothing true = refl
or_nothing false = refl

pub constraint_sees : (ps : Prefixes) (ts : List Token) → sees (constraint ps).begins ts ≡ (sees (is k.LeftParen) ts || (sees (call (whole_expression ps)).begins ts || sees is_iri_name ts))
unfolding constraint
constraint_sees ps [] = refl
constraint_sees ps (t ∷ ts) = rw (or_nothing (is k.LeftParen (kind_of t)), or_nothing (is k.LeftParen (kind_of t))) refl

pub condition_sees : (ps : Prefixes) (ts : List Token) → sees (condition ps).begins ts ≡ (sees (is k.Asc) ts || (sees (is k.Desc) ts || (sees (is k.Variable) ts || sees (constraint ps).begins ts)))
unfolding condition variable
condition_sees ps [] = refl
condition_sees ps (t ∷ ts) = rw (or_nothing (is k.Asc (kind_of t)), or_nothing (is k.Desc (kind_of t))) refl
