-- Loops that depend on what was read: dots between triples; and where triples begin.
use Rattle.std.proofs.Common.{◌≡◌, ◌<◌, Bool, true, false, ◌||◌, List, [], ◌∷◌, ◌++◌, length, Option, is_some, Ok, Err, refl}
use Rattle.fx_terms.specs.declared.patterns.Pattern.{Pattern}
use Rattle.fx_grammar.specs.Kinds.{is}
use Rattle.fx_grammar.specs.declared.kinds.Kind.{Kind}
use Rattle.fx_grammar.specs.declared.kinds.Kind.TheVariants as k
use Rattle.fx_grammar.specs.declared.kinds.Token.{Token}
use Rattle.fx_grammar.specs.declared.refusals.SyntaxKind.TheVariants.{Unsupported}
use Rattle.fx_grammar.proofs.KindLaws.{apart_by}
use Rattle.fx_grammar.proofs.RuleLaws.{sees-left, sees-right, sees-apart}
use Rattle.fx_grammar.specs.Rule.{Apart, Refusal, refuse, made, opt, sees, shape_of, with_each, any_number_from}
use Rattle.fx_grammar.specs.Grammar.{Prefixes, option_items, same_subject, dot_triples, more_triples, more_triples_from, triples, first_triples, triple_elements, graph_term, part_literal, literal, text_suffix, datatype, iri_name, variable, properties, more_properties, property, objects, verb, verb_iri, no_path}
use Rattle.fx_grammar.proofs.GrammarLaws.{dot_law, dot_fits, dot_takes}
use Rattle.fx_readers.proofs.Loops.{from_smaller, from_each_turn, from_each_fails, from_each_ends, each_is, sees-alone}

module _ (ps : Prefixes) where
  dot_sees : (ts : List Token) (b : Bool) → sees (is k.Dot) ts ≡ b → sees (shape_of (dot_triples ps true)).begins ts ≡ b
  unfolding dot_triples
  dot_sees ts b e = sees-alone (is k.Dot) ts b e

  pub triples_turn : (behind : Bool) (front : List Pattern) (ts next : List Token) (x : Option (List Pattern)) → sees (is k.Dot) ts ≡ true → (dot_triples ps behind).read ts ≡ Ok (x, next)
      → with_each option_items (front ++ option_items x) (more_triples_from ps (is_some x) next) ≡ with_each option_items front (more_triples_from ps behind ts)
  unfolding more_triples_from
  triples_turn behind front ts next x b e = from_each_turn (shape_of (dot_triples ps true)) (dot_triples ps) (λ behind ts. is_some ts) (dot_law ps) (dot_fits ps) (dot_takes ps) option_items behind front ts next x (dot_sees ts true b) e

  pub triples_fail : (behind : Bool) (front : List Pattern) (ts : List Token) (r : Refusal) → sees (is k.Dot) ts ≡ true → (dot_triples ps behind).read ts ≡ Err r → with_each option_items front (more_triples_from ps behind ts) ≡ Err r
  unfolding more_triples_from
  triples_fail behind front ts r b e = from_each_fails (shape_of (dot_triples ps true)) (dot_triples ps) (λ behind ts. is_some ts) (dot_law ps) (dot_fits ps) (dot_takes ps) option_items behind front ts r (dot_sees ts true b) e

  pub triples_end : (behind : Bool) (front : List Pattern) (ts : List Token) → sees (is k.Dot) ts ≡ false → with_each option_items front (more_triples_from ps behind ts) ≡ Ok (front, ts)
  unfolding more_triples_from
  triples_end behind front ts b = from_each_ends (shape_of (dot_triples ps true)) (dot_triples ps) (λ behind ts. is_some ts) (dot_law ps) (dot_fits ps) (dot_takes ps) option_items behind front ts (dot_sees ts false b)

  pub triples_smaller : (behind : Bool) (ts next : List Token) (x : Option (List Pattern)) → (dot_triples ps behind).read ts ≡ Ok (x, next) → length next < length ts
  triples_smaller behind ts next x e = from_smaller (shape_of (dot_triples ps true)) (dot_triples ps) (λ behind ts. is_some ts) (dot_law ps) (dot_fits ps) (dot_takes ps) behind ts next x e

  pub triples_are : (ts mid : List Token) (x : List Pattern) → (same_subject ps).read ts ≡ Ok (x, mid) → (triples ps).read ts ≡ with_each option_items x (more_triples_from ps true mid)
  unfolding triples more_triples more_triples_from any_number_from
  triples_are ts mid x e = each_is (same_subject ps) (more_triples ps true) (λ x. x) option_items ts mid x x e refl

-- ---- where triples begin

module _ (ps : Prefixes) where
  pub subject_sees : (ts : List Token) (b : Bool) → sees (graph_term ps).begins ts ≡ b → sees (same_subject ps).begins ts ≡ b
  unfolding same_subject graph_term part_literal literal text_suffix datatype iri_name variable
  subject_sees ts b e = sees-alone (graph_term ps).begins ts b e

  pub triples_see : (ts : List Token) (b : Bool) → sees (graph_term ps).begins ts ≡ b → sees (triples ps).begins ts ≡ b
  unfolding triples same_subject graph_term part_literal literal text_suffix datatype iri_name variable
  triples_see ts b e = sees-alone (same_subject ps).begins ts b (subject_sees ts b e)

sees-neither : (p q : Kind → Bool) (ts : List Token) → sees p ts ≡ false → sees q ts ≡ false → sees (λ kind. p kind || q kind) ts ≡ false
sees-neither p q [] e f = refl
sees-neither p q (t ∷ ts) e f = rw (e, f) refl

-- ---- which way a group begins

module _ (ps : Prefixes) where
  select_apart : Apart (is k.Select) (triples ps).begins
  unfolding triples more_triples dot_triples same_subject properties more_properties property objects verb verb_iri no_path graph_term part_literal literal text_suffix datatype iri_name variable
  select_apart = apart_by _ _ refl

  pub opened_by_select : (ts : List Token) → sees (is k.Select) ts ≡ true → (first_triples ps).read ts ≡ refuse Unsupported ts
  unfolding first_triples
  opened_by_select ts e = rw (sees-right (triples ps).begins (is k.Select) ts e, sees-apart (is k.Select) (triples ps).begins ts select_apart e, e) refl

  pub opened_otherwise : (ts : List Token) → sees (is k.Select) ts ≡ false → (first_triples ps).read ts ≡ (made triple_elements (opt (triples ps))).read ts
  unfolding first_triples
  opened_otherwise ts e = go (sees (triples ps).begins ts) refl
    where
      go : (b : Bool) → sees (triples ps).begins ts ≡ b → (first_triples ps).read ts ≡ (made triple_elements (opt (triples ps))).read ts
      go true h = rw (sees-left (triples ps).begins (is k.Select) ts h, h) refl
      go false h = rw (sees-neither (triples ps).begins (is k.Select) ts h e, h) refl
