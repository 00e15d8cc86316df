-- The order of triples tells all values apart.
use Rattle.std.proofs.Common.{◌≡◌, ap, refl}
use Rattle.std.specs.declared.cmp.Ordering.{Ordering}
use Rattle.std.specs.declared.cmp.Ordering.TheVariants.{Less, Equal, Greater}
use Rattle.std.specs.Ordering.{ordering_then}
use Rattle.std.proofs.lemmas.Map.Lookups.{CmpEqualImpliesEq, exact_bytes}
use Rattle.fx_terms.specs.Literals.{LiteralParts}
use Rattle.fx_terms.specs.Texts.{text_cmp}
use Rattle.fx_terms.specs.Terms.{term_cmp}
use Rattle.fx_terms.specs.Triples.{triple_cmp}
use Rattle.fx_terms.specs.declared.terms.Term.TheVariants.{Iri, Literal}
use Rattle.fx_terms.specs.declared.triples.Triple.{Triple}

-- both parts of a tie tie
tie : (o p : Ordering) → ordering_then o p ≡ Equal → (o ≡ Equal) × (p ≡ Equal)
tie Equal p h = (refl, h)
tie Less p h = cc
tie Greater p h = cc

-- three parts make a literal
same_literal : (a b : LiteralParts) → a.form ≡ b.form → a.datatype ≡ b.datatype → a.tag ≡ b.tag → a ≡ b
same_literal a b f d g i = record { form = f i; datatype = d i; tag = g i }

same_triple : (a b : Triple) → a.subject ≡ b.subject → a.predicate ≡ b.predicate → a.object ≡ b.object → a ≡ b
same_triple a b s p o i = record { subject = s i; predicate = p i; object = o i }

pub exact_terms : CmpEqualImpliesEq term_cmp
exact_terms (Iri a) (Iri b) h = ap Iri (exact_bytes a b (tie (text_cmp a b) Equal h).0)
exact_terms (Iri a) (Literal b) h = cc
exact_terms (Literal a) (Iri b) h = cc
exact_terms (Literal a) (Literal b) h =
    let t = tie (text_cmp a.form b.form) _ h in
    let u = tie (text_cmp a.datatype b.datatype) _ t.1 in
    ap Literal (same_literal a b (exact_bytes _ _ t.0) (exact_bytes _ _ u.0) (exact_bytes _ _ u.1))

pub exact_triples : CmpEqualImpliesEq triple_cmp
exact_triples a b h =
    let t = tie (text_cmp a.subject b.subject) _ h in
    let u = tie (text_cmp a.predicate b.predicate) _ t.1 in
    same_triple a b (exact_bytes _ _ t.0) (exact_bytes _ _ u.0) (exact_terms _ _ u.1)
