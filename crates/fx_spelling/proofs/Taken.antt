-- An expression that tokens spell is one that the grammar has, and its printed words are fine.
use Rattle.std.proofs.Common.{◌≡◌, ℕ, Bool, true, false, cond, not, List, [], ◌∷◌, ◌++◌, map, Option, Some, None, is_some as has_some, Ok, Err, Result, refl, sym, ap, ◌∙◌, subst, arith, append_assoc, append-nil, inl, inr, nat_le}
use Rattle.std.specs.Prelude.{codes}
use Rattle.std.specs.List.{list_all}
use Rattle.std.specs.Str.{IsUtf8, bytes_eq}
use Rattle.std.proofs.lemmas.Bool.{and_from}
use Rattle.std.proofs.lemmas.Str.{IsUtf8-append, IsUtf8-from_ascii}
use Rattle.fx_terms.specs.Names.{IsName}
use Rattle.fx_terms.specs.Iris.{IsIri, read_iri, iri_after, iri_with_scheme, has_scheme}
use Rattle.fx_terms.specs.Datatypes.{xsd_string, lang_string}
use Rattle.fx_terms.specs.Literals.{IsLiteral, plain, is_tag}
use Rattle.fx_terms.specs.Terms.{IsTerm}
use Rattle.fx_terms.specs.declared.iris.TermError.{TermError}
use Rattle.fx_terms.specs.declared.terms.Term.{Term}
use Rattle.fx_terms.specs.declared.terms.Term.TheVariants.{Iri, Literal}
use Rattle.fx_terms.proofs.TagLemmas as tags
use Rattle.fx_algebra.specs.Printed.{Word, fixed, Printed, in_place, in_brackets, marked, chained, listed, comparison, sign, keyword, among, signed, print_step, printed, rank}
use Rattle.fx_algebra.specs.declared.expressions.Expr.{Expr, Expr-F, fold-roll-Expr, roll-Expr}
use Rattle.fx_algebra.specs.declared.expressions.Expr.TheVariants as expr
use Rattle.fx_algebra.specs.declared.expressions.Compare.{Compare}
use Rattle.fx_algebra.specs.declared.expressions.Compare.TheVariants as compare
use Rattle.fx_algebra.specs.declared.expressions.Sign.{Sign}
use Rattle.fx_algebra.specs.declared.expressions.Sign.TheVariants as signs
use Rattle.fx_algebra.specs.declared.expressions.Function.{Function}
use Rattle.fx_algebra.specs.declared.expressions.Function.TheVariants as function
use Rattle.fx_grammar.specs.Kinds.{is}
use Rattle.fx_grammar.specs.Rule.{Rule, token, one, seq, after, either, opt, chain, made}
use Rattle.fx_grammar.specs.Grammar as grammar
use Rattle.fx_grammar.specs.Grammar.{Prefixes}
use Rattle.fx_algebra.specs.Measures.{Measured, all_good, all_signed_good, is_chain, takes, measure_step, measured}
use Rattle.fx_spelling.specs.Printable.{AreFine, IsFine}
use Rattle.fx_grammar.specs.declared.kinds.Kind.TheVariants as k
use Rattle.fx_grammar.specs.declared.refusals.SyntaxKind.{SyntaxKind}
use Rattle.fx_grammar.specs.declared.refusals.SyntaxKind.TheVariants.{Unsupported, Unexpected, BadLiteral}
use Rattle.fx_grammar.specs.declared.kinds.Token.{Token}
use Rattle.fx_grammar.specs.declared.kinds.Token.TheVariants as symbol
use Rattle.fx_grammar.specs.declared.parts.Annotation.{Annotation}
use Rattle.fx_grammar.specs.declared.parts.Annotation.TheVariants as annotation
use Rattle.fx_grammar.specs.declared.parts.Relative.{Relative}
use Rattle.fx_grammar.specs.declared.parts.Relative.TheVariants as relative
use Rattle.fx_grammar.proofs.KindLaws.{apart_by}
use Rattle.fx_spelling.proofs.Fixed.{is_ascii}
use Rattle.fx_spelling.proofs.Words.{ascii_of}
use Rattle.fx_spelling.proofs.Saying.{fine_both}
use Rattle.fx_spelling.proofs.Tracking.{GoodToken, is_one_function, is_two_function, is_turning, Any, Maybe, Each, of_nested, Given, Some_of, each_of, of_one, of_token, of_refusing, of_made, of_seq, of_after, of_before, of_either, of_opt, of_many, of_chain, of_parens}

-- ---- IRIs

abbrev pub GoodPrefixes : Prefixes → Type 0
GoodPrefixes [] = Unit {0}
GoodPrefixes (p ∷ ps) = IsUtf8 p.1 × GoodPrefixes ps

abbrev IfThere : Option (List ℕ) → Type 0
IfThere None = Unit {0}
IfThere (Some iri) = IsUtf8 iri

declared_utf8 : (ps : Prefixes) (prefix : List ℕ) → GoodPrefixes ps → IfThere (grammar.declared ps prefix)
declared_utf8 [] prefix g = tt
declared_utf8 (p ∷ ps) prefix g = go (grammar.declared ps prefix) (declared_utf8 ps prefix g.1) (bytes_eq p.0 prefix)
  where
    go : (o : Option (List ℕ)) → IfThere o → (b : Bool) → IfThere (grammar.if_later o (cond b (Some p.1) None))
    go (Some later) h b = h
    go None h true = g.0
    go None h false = tt

with_scheme : (text x : List ℕ) (b : Bool) → iri_with_scheme text b ≡ Ok x → x ≡ text
with_scheme text x true h = cc
with_scheme text x false h = cc

after_place : (text x : List ℕ) (p : Option ℕ) → iri_after text p ≡ Ok x → x ≡ text
after_place text x None h = with_scheme text x (has_scheme text) h
after_place text x (Some n) h = cc

pub read_is : (text x : List ℕ) → IsUtf8 text → read_iri text ≡ Ok x → IsIri x
read_is text x u h = let same = after_place text x _ h in subst IsIri (sym same) (record { utf8 = u; iri = h ∙ ap Ok same })

absolute_is : (text x : List ℕ) (r : Result (List ℕ) TermError) → read_iri text ≡ r → IsUtf8 text → grammar.absolute r ≡ Ok x → IsIri x
absolute_is text x (Ok iri) e u h = let same : iri ≡ x = cc (h) in subst IsIri same (read_is text iri u e)
absolute_is text x (Err why) e u h = absurd (cc (h))

expanded_is : (o : Option (List ℕ)) (local x : List ℕ) → IfThere o → IsUtf8 local → grammar.expanded o local ≡ Ok x → IsIri x
expanded_is None local x g u h = absurd (cc (h))
expanded_is (Some iri) local x g u h = absolute_is (iri ++ local) x (read_iri (iri ++ local)) refl (IsUtf8-append iri local g u) h

pub named_is : (ps : Prefixes) → GoodPrefixes ps → (t : Token) (x : List ℕ) → grammar.named_by ps t ≡ Ok x → GoodToken t → IsIri x
named_is ps g (symbol.Iri iri) x h t = let same : iri ≡ x = cc (h) in subst IsIri same t
named_is ps g (symbol.PrefixName prefix local) x h t = expanded_is (grammar.declared ps prefix) local x (declared_utf8 ps prefix g) t h
named_is ps g (symbol.Plain a) x h t = absurd (cc (h))
named_is ps g (symbol.Comparison a) x h t = absurd (cc (h))
named_is ps g (symbol.One a) x h t = absurd (cc (h))
named_is ps g (symbol.Two a) x h t = absurd (cc (h))
named_is ps g (symbol.Variable a) x h t = absurd (cc (h))
named_is ps g (symbol.Tag a) x h t = absurd (cc (h))
named_is ps g (symbol.Integer a) x h t = absurd (cc (h))
named_is ps g (symbol.Signed a) x h t = absurd (cc (h))
named_is ps g (symbol.Text a) x h t = absurd (cc (h))

known_iri : (text : List ℕ) → list_all is_ascii text ≡ true → read_iri text ≡ Ok text → IsIri text
known_iri text a h = record { utf8 = IsUtf8-from_ascii text (ascii_of text a); iri = h }

string_iri : IsIri xsd_string
string_iri = known_iri xsd_string refl refl

integer_iri : IsIri grammar.xsd_integer
integer_iri = known_iri grammar.xsd_integer refl refl

boolean_iri : IsIri grammar.xsd_boolean
boolean_iri = known_iri grammar.xsd_boolean refl refl

lang_iri : IsIri lang_string
lang_iri = known_iri lang_string refl refl

pub type_iri : IsIri grammar.rdf_type
type_iri = known_iri grammar.rdf_type refl refl

-- ---- literals

plain_literal : (text : List ℕ) → IsUtf8 text → IsLiteral (plain text)
plain_literal text u = record { form = u; datatype = string_iri; fits = refl; tag = λ h. absurd (omega (arith, h)) }

typed_literal : (text datatype : List ℕ) → IsUtf8 text → IsIri datatype → bytes_eq datatype lang_string ≡ false → IsLiteral (grammar.typed_parts text datatype)
typed_literal text datatype u i n = record { form = u; datatype = i; fits = sym (ap not n); tag = λ h. absurd (omega (arith, h)) }

tagged_literal : (text tag : List ℕ) → IsUtf8 text → is_tag tag ≡ true → IsLiteral (grammar.tagged_parts text tag)
tagged_literal text tag u h = record {
  form = u;
  datatype = lang_iri;
  fits = tags.tag_is_some tag h;
  tag = λ n. tags.tag_in_lower_case tag h;
}

abbrev GoodAnnotation : Bool → Annotation → Type 0
GoodAnnotation b (annotation.Tag tag) = is_tag tag ≡ true
GoodAnnotation b (annotation.Datatype iri) = IsIri iri × (bytes_eq iri lang_string ≡ false)

abbrev pub OfDatatype : Bool → List ℕ → Type 0
OfDatatype b iri = IsIri iri × (bytes_eq iri lang_string ≡ false)

abbrev pub OfTerm : Bool → Term → Type 0
OfTerm b t = IsTerm t

annotated_is : (b : Bool) (text : List ℕ) (o : Option Annotation) → IsUtf8 text → Maybe GoodAnnotation b o → IsTerm (grammar.annotated text o)
annotated_is b text None u h = plain_literal text u
annotated_is b text (Some (annotation.Tag tag)) u h = tagged_literal text tag u h
annotated_is b text (Some (annotation.Datatype iri)) u h = typed_literal text iri u h.0 h.1

text_is : (t : Token) (x : List ℕ) → grammar.text_of t ≡ Ok x → GoodToken t → IsUtf8 x
text_is (symbol.Text text) x h t = let same : text ≡ x = cc (h) in subst IsUtf8 same t
text_is (symbol.Plain a) x h t = absurd (cc (h))
text_is (symbol.Comparison a) x h t = absurd (cc (h))
text_is (symbol.One a) x h t = absurd (cc (h))
text_is (symbol.Two a) x h t = absurd (cc (h))
text_is (symbol.Variable a) x h t = absurd (cc (h))
text_is (symbol.Iri a) x h t = absurd (cc (h))
text_is (symbol.PrefixName a b) x h t = absurd (cc (h))
text_is (symbol.Tag a) x h t = absurd (cc (h))
text_is (symbol.Integer a) x h t = absurd (cc (h))
text_is (symbol.Signed a) x h t = absurd (cc (h))

tag_at : (tag x : List ℕ) (b : Bool) → is_tag tag ≡ b → cond b (Ok tag) (Err Unexpected) ≡ Ok x → is_tag x ≡ true
tag_at tag x true e h = let same : tag ≡ x = cc (h) in ap is_tag (sym same) ∙ e
tag_at tag x false e h = absurd (cc (h))

tag_is : (t : Token) (x : List ℕ) → grammar.tag_of t ≡ Ok x → is_tag x ≡ true
tag_is (symbol.Tag tag) x h = tag_at tag x (is_tag tag) refl h
tag_is (symbol.Text a) x h = absurd (cc (h))
tag_is (symbol.Plain a) x h = absurd (cc (h))
tag_is (symbol.Comparison a) x h = absurd (cc (h))
tag_is (symbol.One a) x h = absurd (cc (h))
tag_is (symbol.Two a) x h = absurd (cc (h))
tag_is (symbol.Variable a) x h = absurd (cc (h))
tag_is (symbol.Iri a) x h = absurd (cc (h))
tag_is (symbol.PrefixName a b) x h = absurd (cc (h))
tag_is (symbol.Integer a) x h = absurd (cc (h))
tag_is (symbol.Signed a) x h = absurd (cc (h))

integer_is : (digits : List ℕ) (x : Term) → grammar.integer digits ≡ x → IsUtf8 digits → IsTerm x
integer_is digits x same u = subst IsTerm same (typed_literal digits grammar.xsd_integer u integer_iri refl)

truth_is : (text : List ℕ) (x : Term) → IsUtf8 text → Literal (grammar.typed_parts text grammar.xsd_boolean) ≡ x → IsTerm x
truth_is text x u same = subst IsTerm same (typed_literal text grammar.xsd_boolean u boolean_iri refl)

plain_is : (a : _) (x : Term) → grammar.plain_literal a ≡ Ok x → IsTerm x
plain_is k.True x h = truth_is (codes "true") x (IsUtf8-from_ascii (codes "true") (ascii_of (codes "true") refl)) (cc (h))
plain_is k.False x h = truth_is (codes "false") x (IsUtf8-from_ascii (codes "false") (ascii_of (codes "false") refl)) (cc (h))
plain_is _ x h = absurd (cc (h))

value_is : (t : Token) (x : Term) → grammar.literal_of t ≡ Ok x → GoodToken t → IsTerm x
value_is (symbol.Integer digits) x h t = integer_is digits x (cc (h)) t
value_is (symbol.Signed digits) x h t = integer_is digits x (cc (h)) t
value_is (symbol.Plain a) x h t = plain_is a x h
value_is (symbol.Text a) x h t = absurd (cc (h))
value_is (symbol.Comparison a) x h t = absurd (cc (h))
value_is (symbol.One a) x h t = absurd (cc (h))
value_is (symbol.Two a) x h t = absurd (cc (h))
value_is (symbol.Variable a) x h t = absurd (cc (h))
value_is (symbol.Iri a) x h t = absurd (cc (h))
value_is (symbol.PrefixName a b) x h t = absurd (cc (h))
value_is (symbol.Tag a) x h t = absurd (cc (h))

pub of_literal : (d : Rule (List ℕ)) → Given OfDatatype d → Given OfTerm (grammar.literal d)
unfolding grammar.literal grammar.text_suffix
of_literal d g =
    let tag : Given GoodAnnotation (made annotation.Tag (one (is k.Tag) grammar.tag_of)) = of_made {P = λ b tag. is_tag tag ≡ true} annotation.Tag (of_one (is k.Tag) grammar.tag_of (apart_by (is k.Tag) is_turning refl) (λ b t x e gt. tag_is t x e)) (λ b x p. p) in
    let datatype : Given GoodAnnotation (made annotation.Datatype (after (token k.CaretCaret) d)) = of_made annotation.Datatype (of_after k.CaretCaret refl g) (λ b x p. p) in
    let text : Given (λ b text. IsUtf8 text) (one (is k.Text) grammar.text_of) = of_one (is k.Text) grammar.text_of (apart_by (is k.Text) is_turning refl) (λ b t x e gt. text_is t x e gt) in
    of_either (of_made (λ p. grammar.annotated p.0 p.1) (of_seq text (of_opt (of_either tag datatype))) (λ b p h. annotated_is b p.0 p.1 h.0 h.1))
    (of_one grammar.is_plain_literal grammar.literal_of (apart_by grammar.is_plain_literal is_turning refl) (λ b t x e gt. value_is t x e gt))

-- ---- one level of an expression

abbrev pub GoodExpr : Expr → Type 0
GoodExpr e = ((measured e).good ≡ true) × AreFine (printed e).words

abbrev pub OfExpr : Bool → Expr → Type 0
OfExpr b e = GoodExpr e

-- an expression whose layer is measured and printed so
layer : (z : Expr-F Expr) (m : Measured) (p : Printed) (e : Expr) → roll-Expr z ≡ e → measured (roll-Expr z) ≡ m → printed (roll-Expr z) ≡ p → m.good ≡ true → AreFine p.words → GoodExpr e
layer z m p e r a b g f = subst GoodExpr r (ap (λ (v : Measured). v.good) a ∙ g, subst (λ (v : Printed). AreFine v.words) (sym b) f)

fine_in_brackets : (words : List Word) → AreFine words → AreFine (in_brackets words)
fine_in_brackets words h = (inl refl, fine_both words (fixed (codes ")") ∷ []) h (inl refl, tt))

fine_place : (place : ℕ) (e : Expr) → GoodExpr e → AreFine (in_place place (printed e))
unfolding in_place
fine_place place e h = go (nat_le place (rank (printed e).level))
  where
    go : (b : Bool) → AreFine (cond b (printed e).words (in_brackets (printed e).words))
    go true = h.1
    go false = fine_in_brackets (printed e).words h.1

fine_marked : (mark : Word) (place : ℕ) (b : Bool) (es : List Expr) → IsFine mark → Each OfExpr b es → AreFine (marked mark (map (in_place place) (map printed es)))
fine_marked mark place b [] m h = tt
fine_marked mark place b (e ∷ es) m h = (m, fine_both (in_place place (printed e)) (marked mark (map (in_place place) (map printed es))) (fine_place place e h.0) (fine_marked mark place b es m h.1))

fine_chained : (mark : Word) (place : ℕ) (b : Bool) (es : List Expr) → IsFine mark → Each OfExpr b es → AreFine (chained mark place (map printed es))
fine_chained mark place b [] m h = tt
fine_chained mark place b (e ∷ es) m h = fine_both (in_place place (printed e)) (marked mark (map (in_place place) (map printed es))) (fine_place place e h.0) (fine_marked mark place b es m h.1)

all_of_each : (b : Bool) (es : List Expr) → Each OfExpr b es → all_good (map measured es) ≡ true
all_of_each b [] h = refl
all_of_each b (e ∷ es) h = and_from (measured e).good (all_good (map measured es)) h.0.0 (all_of_each b es h.1)

pub good_variable : (name : List ℕ) → IsName name → GoodExpr (expr.Variable name)
good_variable name h = layer (Expr-F.Variable name) _ _ _ (expr.rolls-Variable name) (fold-roll-Expr Measured measure_step (Expr-F.Variable name)) (fold-roll-Expr Printed print_step (Expr-F.Variable name)) refl (h, tt)

good_constant : (t : Term) → IsTerm t → GoodExpr (expr.Constant t)
good_constant t h = layer (Expr-F.Constant t) _ _ _ (expr.rolls-Constant t) (fold-roll-Expr Measured measure_step (Expr-F.Constant t)) (fold-roll-Expr Printed print_step (Expr-F.Constant t)) refl (h, tt)

good_or : (b : Bool) (es : List Expr) → is_chain (map measured es) ≡ true → Each OfExpr b es → GoodExpr (expr.Or es)
good_or b es c h =
    layer (Expr-F.Or es) _ _ _ (expr.rolls-Or es) (fold-roll-Expr Measured measure_step (Expr-F.Or es)) (fold-roll-Expr Printed print_step (Expr-F.Or es)) (and_from (is_chain (map measured es)) (all_good (map measured es)) c (all_of_each b es h)) (fine_chained (fixed (codes "||")) 1 b es (inl refl) h)

good_and : (b : Bool) (es : List Expr) → is_chain (map measured es) ≡ true → Each OfExpr b es → GoodExpr (expr.And es)
good_and b es c h =
    layer (Expr-F.And es) _ _ _ (expr.rolls-And es) (fold-roll-Expr Measured measure_step (Expr-F.And es)) (fold-roll-Expr Printed print_step (Expr-F.And es)) (and_from (is_chain (map measured es)) (all_good (map measured es)) c (all_of_each b es h)) (fine_chained (fixed (codes "&&")) 2 b es (inl refl) h)

good_product : (b : Bool) (es : List Expr) → is_chain (map measured es) ≡ true → Each OfExpr b es → GoodExpr (expr.Product es)
good_product b es c h =
    layer (Expr-F.Product es) _ _ _ (expr.rolls-Product es) (fold-roll-Expr Measured measure_step (Expr-F.Product es)) (fold-roll-Expr Printed print_step (Expr-F.Product es)) (and_from (is_chain (map measured es)) (all_good (map measured es)) c (all_of_each b es h)) (fine_chained (fixed (codes "*")) 5 b es (inl refl) h)

good_not : (e : Expr) → GoodExpr e → GoodExpr (expr.Not e)
good_not e h = layer (Expr-F.Not e) _ _ _ (expr.rolls-Not e) (fold-roll-Expr Measured measure_step (Expr-F.Not e)) (fold-roll-Expr Printed print_step (Expr-F.Not e)) h.0 (inl refl, fine_place 6 e h)

good_positive : (e : Expr) → GoodExpr e → GoodExpr (expr.Positive e)
good_positive e h = layer (Expr-F.Positive e) _ _ _ (expr.rolls-Positive e) (fold-roll-Expr Measured measure_step (Expr-F.Positive e)) (fold-roll-Expr Printed print_step (Expr-F.Positive e)) h.0 (inl refl, fine_place 6 e h)

good_negative : (e : Expr) → GoodExpr e → GoodExpr (expr.Negative e)
good_negative e h = layer (Expr-F.Negative e) _ _ _ (expr.rolls-Negative e) (fold-roll-Expr Measured measure_step (Expr-F.Negative e)) (fold-roll-Expr Printed print_step (Expr-F.Negative e)) h.0 (inl refl, fine_place 6 e h)

fine_comparison : (op : Compare) → IsFine (fixed (comparison op))
fine_comparison compare.Equal = inl refl
fine_comparison _ = inl refl

good_compare : (op : Compare) (a c : Expr) → GoodExpr a → GoodExpr c → GoodExpr (expr.Compare op a c)
good_compare op a c h g =
    layer (Expr-F.Compare op a c) _ _ _ (expr.rolls-Compare op a c) (fold-roll-Expr Measured measure_step (Expr-F.Compare op a c)) (fold-roll-Expr Printed print_step (Expr-F.Compare op a c)) (and_from (measured a).good (measured c).good h.0 g.0)
    (fine_both (in_place 3 (printed a)) (fixed (comparison op) ∷ in_place 3 (printed c)) (fine_place 3 a h) (fine_comparison op, fine_place 3 c g))

fine_listed : (b : Bool) (es : List Expr) → Each OfExpr b es → AreFine (listed (map printed es))
fine_listed b es h = fine_in_brackets (chained (fixed (codes ",")) 0 (map printed es)) (fine_chained (fixed (codes ",")) 0 b es (inl refl) h)

fine_among : (negated : Bool) → AreFine (among negated)
fine_among true = (inr (inr refl), (inr (inr refl), tt))
fine_among false = (inr (inr refl), tt)

good_among : (b negated : Bool) (a : Expr) (es : List Expr) → GoodExpr a → Each OfExpr b es → GoodExpr (expr.Among negated a es)
good_among b negated a es h g =
    layer (Expr-F.Among negated a es) _ _ _ (expr.rolls-Among negated a es) (fold-roll-Expr Measured measure_step (Expr-F.Among negated a es)) (fold-roll-Expr Printed print_step (Expr-F.Among negated a es)) (and_from (measured a).good (all_good (map measured es)) h.0 (all_of_each b es g))
    (fine_both (in_place 3 (printed a)) (among negated ++ listed (map printed es)) (fine_place 3 a h) (fine_both (among negated) (listed (map printed es)) (fine_among negated) (fine_listed b es g)))

fine_sign : (s : Sign) → IsFine (fixed (sign s))
fine_sign signs.Plus = inl refl
fine_sign signs.Minus = inl refl

abbrev OfAddend : Bool → Sign × Expr → Type 0
OfAddend b p = GoodExpr p.1

fine_signed : (b : Bool) (rest : List (Sign × Expr)) → Each OfAddend b rest → AreFine (signed (map (λ (p : Sign × Expr). (p.0, printed p.1)) rest))
fine_signed b [] h = tt
fine_signed b (p ∷ rest) h = (fine_sign p.0, fine_both (in_place 4 (printed p.1)) (signed (map (λ (p : Sign × Expr). (p.0, printed p.1)) rest)) (fine_place 4 p.1 h.0) (fine_signed b rest h.1))

all_signed : (b : Bool) (rest : List (Sign × Expr)) → Each OfAddend b rest → all_signed_good (map (λ (p : Sign × Expr). (p.0, measured p.1)) rest) ≡ true
all_signed b [] h = refl
all_signed b (p ∷ rest) h = and_from (measured p.1).good (all_signed_good (map (λ (p : Sign × Expr). (p.0, measured p.1)) rest)) h.0.0 (all_signed b rest h.1)

good_sum : (b : Bool) (a : Expr) (p : Sign × Expr) (rest : List (Sign × Expr)) → GoodExpr a → Each OfAddend b (p ∷ rest) → GoodExpr (expr.Sum a (p ∷ rest))
good_sum b a p rest h g =
    layer (Expr-F.Sum a (p ∷ rest)) _ _ _ (expr.rolls-Sum a (p ∷ rest)) (fold-roll-Expr Measured measure_step (Expr-F.Sum a (p ∷ rest))) (fold-roll-Expr Printed print_step (Expr-F.Sum a (p ∷ rest)))
    (and_from (measured a).good (all_signed_good (map (λ (p : Sign × Expr). (p.0, measured p.1)) (p ∷ rest))) h.0 (all_signed b (p ∷ rest) g))
    (fine_both (in_place 4 (printed a)) (signed (map (λ (p : Sign × Expr). (p.0, printed p.1)) (p ∷ rest))) (fine_place 4 a h) (fine_signed b (p ∷ rest) g))

fine_keyword : (f : Function) → IsFine (fixed (keyword f))
fine_keyword function.Bound = inr (inr refl)
fine_keyword _ = inr (inr refl)

good_call : (b : Bool) (f : Function) (es : List Expr) → takes f (map measured es) ≡ true → Each OfExpr b es → GoodExpr (expr.Call f es)
good_call b f es t h =
    layer (Expr-F.Call f es) _ _ _ (expr.rolls-Call f es) (fold-roll-Expr Measured measure_step (Expr-F.Call f es)) (fold-roll-Expr Printed print_step (Expr-F.Call f es)) (and_from (takes f (map measured es)) (all_good (map measured es)) t (all_of_each b es h)) (fine_keyword f, fine_listed b es h)

-- ---- the productions of expressions

pub name_is : (t : Token) (x : List ℕ) → grammar.name_of t ≡ Ok x → GoodToken t → IsName x
name_is (symbol.Variable name) x h t = let same : name ≡ x = cc (h) in subst IsName same t
name_is (symbol.Plain a) x h t = absurd (cc (h))
name_is (symbol.Comparison a) x h t = absurd (cc (h))
name_is (symbol.One a) x h t = absurd (cc (h))
name_is (symbol.Two a) x h t = absurd (cc (h))
name_is (symbol.Text a) x h t = absurd (cc (h))
name_is (symbol.Iri a) x h t = absurd (cc (h))
name_is (symbol.PrefixName a b) x h t = absurd (cc (h))
name_is (symbol.Tag a) x h t = absurd (cc (h))
name_is (symbol.Integer a) x h t = absurd (cc (h))
name_is (symbol.Signed a) x h t = absurd (cc (h))

abbrev pub OfName : Bool → List ℕ → Type 0
OfName b name = IsName name

abbrev pub OfIri : Bool → List ℕ → Type 0
OfIri b iri = IsIri iri

pub of_variable : Given OfName grammar.variable
unfolding grammar.variable
of_variable = of_one (is k.Variable) grammar.name_of (apart_by (is k.Variable) is_turning refl) (λ b t x e g. name_is t x e g)

one_is : (t : Token) (x : Function) → grammar.one_of t ≡ Ok x → GoodToken t → is_one_function x ≡ true
one_is (symbol.One f) x h t = let same : f ≡ x = cc (h) in ap is_one_function (sym same) ∙ t
one_is (symbol.Variable a) x h t = absurd (cc (h))
one_is (symbol.Plain a) x h t = absurd (cc (h))
one_is (symbol.Comparison a) x h t = absurd (cc (h))
one_is (symbol.Two a) x h t = absurd (cc (h))
one_is (symbol.Text a) x h t = absurd (cc (h))
one_is (symbol.Iri a) x h t = absurd (cc (h))
one_is (symbol.PrefixName a b) x h t = absurd (cc (h))
one_is (symbol.Tag a) x h t = absurd (cc (h))
one_is (symbol.Integer a) x h t = absurd (cc (h))
one_is (symbol.Signed a) x h t = absurd (cc (h))

two_is : (t : Token) (x : Function) → grammar.two_of t ≡ Ok x → GoodToken t → is_two_function x ≡ true
two_is (symbol.Two f) x h t = let same : f ≡ x = cc (h) in ap is_two_function (sym same) ∙ t
two_is (symbol.One a) x h t = absurd (cc (h))
two_is (symbol.Variable a) x h t = absurd (cc (h))
two_is (symbol.Plain a) x h t = absurd (cc (h))
two_is (symbol.Comparison a) x h t = absurd (cc (h))
two_is (symbol.Text a) x h t = absurd (cc (h))
two_is (symbol.Iri a) x h t = absurd (cc (h))
two_is (symbol.PrefixName a b) x h t = absurd (cc (h))
two_is (symbol.Tag a) x h t = absurd (cc (h))
two_is (symbol.Integer a) x h t = absurd (cc (h))
two_is (symbol.Signed a) x h t = absurd (cc (h))

signed_is : (t : Token) (x : Term) → grammar.signed_of t ≡ Ok x → GoodToken t → IsTerm x
signed_is (symbol.Signed digits) x h t = integer_is digits x (cc (h)) t
signed_is (symbol.Two f) x h t = absurd (cc (h))
signed_is (symbol.One a) x h t = absurd (cc (h))
signed_is (symbol.Variable a) x h t = absurd (cc (h))
signed_is (symbol.Plain a) x h t = absurd (cc (h))
signed_is (symbol.Comparison a) x h t = absurd (cc (h))
signed_is (symbol.Text a) x h t = absurd (cc (h))
signed_is (symbol.Iri a) x h t = absurd (cc (h))
signed_is (symbol.PrefixName a b) x h t = absurd (cc (h))
signed_is (symbol.Tag a) x h t = absurd (cc (h))
signed_is (symbol.Integer a) x h t = absurd (cc (h))

takes_one : (f : Function) (m : Measured) → is_one_function f ≡ true → takes f (m ∷ []) ≡ true
takes_one function.Str m h = refl
takes_one function.Lang m h = refl
takes_one function.Datatype m h = refl
takes_one function.StrLen m h = refl
takes_one function.IsIri m h = refl
takes_one function.IsLiteral m h = refl
takes_one function.IsBlank m h = refl
takes_one function.IsNumeric m h = refl
takes_one _ m h = absurd (cc (h))

takes_two : (f : Function) (m n : Measured) → is_two_function f ≡ true → takes f (m ∷ n ∷ []) ≡ true
takes_two function.LangMatches m n h = refl
takes_two function.SameTerm m n h = refl
takes_two function.Contains m n h = refl
takes_two function.StrStarts m n h = refl
takes_two function.StrEnds m n h = refl
takes_two _ m n h = absurd (cc (h))

bound_takes : (name : List ℕ) → takes function.Bound (map measured (expr.Variable name ∷ [])) ≡ true
bound_takes name = ap (λ (m : Measured). takes function.Bound (m ∷ [])) (ap measured (sym (expr.rolls-Variable name)) ∙ fold-roll-Expr Measured measure_step (Expr-F.Variable name))

abbrev list_or : Option (List Expr) → List Expr
list_or None = []
list_or (Some es) = es

-- a list stands between brackets
abbrev in_list : Rule Expr → Rule (List Expr)
in_list a = grammar.parens (made list_or (opt (chain k.Comma a)))

list_as : (a : Rule Expr) (ts : List Token) (es : List Expr) → (grammar.list a).spells ts es → (in_list a).spells ts es
unfolding grammar.list
list_as a ts es s = elim s.1.4 [
  | inl l ↦ ((es, tt), (s.1.0 ++ [], s.1.1, s.1.2 ∙ ap (λ (v : List Token). v ++ s.1.1) (sym (append-nil s.1.0)), ((tt, es), (s.1.0, [], refl, s.1.3, (None, refl, s.2 ∙ l.2)), refl), l.1), refl)
  | inr r ↦ ((es, tt), (s.1.0 ++ r.1.0, r.1.1, s.1.2 ∙ ap (λ (v : List Token). s.1.0 ++ v) r.1.2 ∙ sym (append_assoc s.1.0 r.1.0 r.1.1), ((tt, es), (s.1.0, r.1.0, refl, s.1.3, (Some r.0.0, r.1.3, s.2 ∙ r.2)), refl), r.1.4), refl)
]

of_list : (a : Rule Expr) → Given OfExpr a → Given (Each OfExpr) (grammar.list a)
of_list a g =
    let within : Given (Each OfExpr) (in_list a) = of_parens (of_made list_or (of_opt (of_chain k.Comma refl g)) (λ b o h. listed b o h)) in
    record { holds = λ ts es s. within.holds ts es (list_as a ts es s) }
  where
    listed : (b : Bool) (o : Option (List Expr)) → Maybe (Some_of OfExpr) b o → Each OfExpr b (list_or o)
    listed b None h = tt
    listed b (Some es) h = each_of OfExpr b es h

one_or_good : (make : List Expr → Expr) → ((b : Bool) (es : List Expr) → is_chain (map measured es) ≡ true → Each OfExpr b es → GoodExpr (make es)) → (b : Bool) (es : List Expr) → Some_of OfExpr b es → GoodExpr (grammar.one_or make es)
one_or_good make good b [] h = absurd h
one_or_good make good b (e ∷ []) h = h.0
one_or_good make good b (e ∷ f ∷ es) h = good b (e ∷ f ∷ es) refl h

summed_good : (b : Bool) (a : Expr) (rest : List (Sign × Expr)) → GoodExpr a → Each OfAddend b rest → GoodExpr (grammar.summed a rest)
summed_good b a [] h g = h
summed_good b a (p ∷ rest) h g = good_sum b a p rest h g

abbrev OfRelative : Bool → Relative → Type 0
OfRelative b (relative.Compared op e) = GoodExpr e
OfRelative b (relative.Among negated es) = Each OfExpr b es

related_good : (b : Bool) (a : Expr) (o : Option Relative) → GoodExpr a → Maybe OfRelative b o → GoodExpr (grammar.related a o)
related_good b a None h g = h
related_good b a (Some (relative.Compared op c)) h g = good_compare op a c h g
related_good b a (Some (relative.Among negated es)) h g = good_among b negated a es h g

pub of_call : (a : Rule Expr) → Given OfExpr a → Given OfExpr (grammar.call a)
unfolding grammar.call grammar.bound_call grammar.coalesce_call grammar.if_call grammar.one_call grammar.two_call grammar.two_args
of_call a g =
    let two : Given (λ b (p : Expr × Expr). OfExpr b p.0 × OfExpr b p.1) (seq a (after (token k.Comma) a)) = of_seq g (of_after k.Comma refl g) in
    let ones : Given (λ b f. is_one_function f ≡ true) (one (is k.One) grammar.one_of) = of_one (is k.One) grammar.one_of (apart_by (is k.One) is_turning refl) (λ b t x e g. one_is t x e g) in
    let twos : Given (λ b f. is_two_function f ≡ true) (one (is k.Two) grammar.two_of) = of_one (is k.Two) grammar.two_of (apart_by (is k.Two) is_turning refl) (λ b t x e g. two_is t x e g) in
    of_either (of_made (λ name. expr.Call function.Bound (expr.Variable name ∷ [])) (of_after k.Bound refl (of_parens of_variable)) (λ b name h. good_call b function.Bound (expr.Variable name ∷ []) (bound_takes name) (good_variable name h, tt)))
    (of_either (of_made (λ args. expr.Call function.Coalesce args) (of_after k.Coalesce refl (of_list a g)) (λ b args h. good_call b function.Coalesce args refl h))
    (of_either (of_made (λ p. expr.Call function.If (p.0 ∷ p.1.0 ∷ p.1.1 ∷ [])) (of_after k.If refl (of_parens (of_seq g (of_after k.Comma refl two)))) (λ b p h. good_call b function.If (p.0 ∷ p.1.0 ∷ p.1.1 ∷ []) refl (h.0, (h.1.0, (h.1.1, tt)))))
    (of_either (of_made (λ p. expr.Call p.0 (p.1 ∷ [])) (of_seq ones (of_parens g)) (λ b p h. good_call b p.0 (p.1 ∷ []) (takes_one p.0 (measured p.1) h.0) (h.1, tt)))
    (of_either (of_made (λ p. expr.Call p.0 (p.1.0 ∷ p.1.1 ∷ [])) (of_seq twos (of_parens two)) (λ b p h. good_call b p.0 (p.1.0 ∷ p.1.1 ∷ []) (takes_two p.0 (measured p.1.0) (measured p.1.1) h.0) (h.1.0, (h.1.1, tt))))
    (of_refusing Unsupported grammar.is_other_call)))))

module _ (ps : Prefixes) (good : GoodPrefixes ps) where
  pub of_iri_name : Given OfIri (grammar.iri_name ps)
  unfolding grammar.iri_name
  of_iri_name = of_one grammar.is_iri_name (grammar.named_by ps) (apart_by grammar.is_iri_name is_turning refl) (λ b t x e g. named_is ps good t x e g)

  not_lang : (t : Token) (r : Result (List ℕ) SyntaxKind) (x : List ℕ) → grammar.named_by ps t ≡ r → GoodToken t → grammar.not_lang_string r ≡ Ok x → IsIri x × (bytes_eq x lang_string ≡ false)
  not_lang t (Err why) x e g h = absurd (cc (h))
  not_lang t (Ok iri) x e g h = go (bytes_eq iri lang_string) refl h
    where
      go : (b : Bool) → bytes_eq iri lang_string ≡ b → cond b (Err BadLiteral) (Ok iri) ≡ Ok x → IsIri x × (bytes_eq x lang_string ≡ false)
      go true f h = absurd (cc (h))
      go false f h = let same : iri ≡ x = cc (h) in (subst IsIri same (named_is ps good t iri e g), ap (λ (v : List ℕ). bytes_eq v lang_string) (sym same) ∙ f)

  of_datatype : Given OfDatatype (grammar.datatype ps)
  unfolding grammar.datatype
  of_datatype = of_one grammar.is_iri_name (λ t. grammar.not_lang_string (grammar.named_by ps t)) (apart_by grammar.is_iri_name is_turning refl) (λ b t x e g. not_lang t (grammar.named_by ps t) x refl g e)

  pub of_datatype_in : (b : Bool) → Given OfDatatype (grammar.datatype_in b ps)
  unfolding grammar.no_call
  of_datatype_in false = of_datatype
  of_datatype_in true = of_before of_datatype (of_opt (of_refusing {P = Any} Unsupported (is k.LeftParen)))

  of_primary : (a : Rule Expr) → Given OfExpr a → Given OfExpr (grammar.primary ps a)
  unfolding grammar.primary grammar.primary_iri grammar.primary_literal grammar.no_call
  of_primary a g =
      of_either (of_parens g)
      (of_either (of_call a g)
      (of_either (of_made (λ iri. expr.Constant (Iri iri)) (of_before of_iri_name (of_opt (of_refusing {P = Any} Unsupported (is k.LeftParen)))) (λ b iri h. good_constant (Iri iri) h))
      (of_either (of_made expr.Variable of_variable (λ b name h. good_variable name h))
      (of_made expr.Constant (of_literal (grammar.datatype_in true ps) (of_datatype_in true)) (λ b t h. good_constant t h)))))

  of_unary : (a : Rule Expr) → Given OfExpr a → Given OfExpr (grammar.unary ps a)
  unfolding grammar.unary
  of_unary a g =
      of_either (of_made expr.Not (of_after k.Bang refl (of_primary a g)) (λ b e h. good_not e h))
      (of_either (of_made expr.Positive (of_after k.Plus refl (of_primary a g)) (λ b e h. good_positive e h))
      (of_either (of_made expr.Negative (of_after k.Dash refl (of_primary a g)) (λ b e h. good_negative e h))
      (of_primary a g)))

  of_factor : (a : Rule Expr) → Given OfExpr a → Given OfExpr (grammar.factor ps a)
  unfolding grammar.factor grammar.no_quotient
  of_factor a g = of_before (of_unary a g) (of_opt (of_refusing {P = Any} Unsupported (is k.Slash)))

  of_product : (a : Rule Expr) → Given OfExpr a → Given OfExpr (grammar.product ps a)
  unfolding grammar.product
  of_product a g = of_made (grammar.one_or expr.Product) (of_chain k.Star refl (of_factor a g)) (λ b es h. one_or_good expr.Product good_product b es h)

  of_addend : (a : Rule Expr) → Given OfExpr a → Given OfAddend (grammar.addend ps a)
  unfolding grammar.addend grammar.signed_product grammar.signed_literal
  of_addend a g =
      let sign_of : Given Any (either (made (λ u. signs.Plus) (token k.Plus)) (made (λ u. signs.Minus) (token k.Dash))) = of_either (of_made (λ u. signs.Plus) (of_token k.Plus refl) (λ b u h. tt)) (of_made (λ u. signs.Minus) (of_token k.Dash refl) (λ b u h. tt)) in
      let first : Given OfAddend (seq (either (made (λ u. signs.Plus) (token k.Plus)) (made (λ u. signs.Minus) (token k.Dash))) (grammar.product ps a)) =
      record { holds = λ ts x s context rest st tr. let r = (of_seq sign_of (of_product a g)).holds ts x s context rest st tr in (r.0.1, r.1) } in
      let literal : Given OfTerm (one (is k.Signed) grammar.signed_of) = of_one (is k.Signed) grammar.signed_of (apart_by (is k.Signed) is_turning refl) (λ b t x e gt. signed_is t x e gt) in
      of_either first
      (of_made (λ p. (signs.Plus, grammar.one_or expr.Product (expr.Constant p.0 ∷ p.1))) (of_seq literal (of_many (of_after k.Star refl (of_factor a g)))) (λ b p h. one_or_good expr.Product good_product b (expr.Constant p.0 ∷ p.1) (good_constant p.0 h.0, h.1)))

  of_sum : (a : Rule Expr) → Given OfExpr a → Given OfExpr (grammar.sum ps a)
  unfolding grammar.sum
  of_sum a g = of_made (λ p. grammar.summed p.0 p.1) (of_seq (of_product a g) (of_many (of_addend a g))) (λ b p h. summed_good b p.0 p.1 h.0 h.1)

  of_relation : (a : Rule Expr) → Given OfExpr a → Given OfExpr (grammar.relation ps a)
  unfolding grammar.relation grammar.compared grammar.among
  of_relation a g =
      let op : Given Any (one (is k.Comparison) grammar.comparison_of) = of_one (is k.Comparison) grammar.comparison_of (apart_by (is k.Comparison) is_turning refl) (λ b t x e gt. tt) in
      let compared : Given OfRelative (made (λ p. relative.Compared p.0 p.1) (seq (one (is k.Comparison) grammar.comparison_of) (grammar.sum ps a))) = of_made (λ p. relative.Compared p.0 p.1) (of_seq op (of_sum a g)) (λ b p h. h.1) in
      let among_of : Given OfRelative (made (λ p. relative.Among (has_some p.0) p.1) (seq (opt (token k.Not)) (after (token k.In) (grammar.list a)))) =
      of_made (λ p. relative.Among (has_some p.0) p.1) (of_seq (of_opt (of_token k.Not refl)) (of_after k.In refl (of_list a g))) (λ b p h. h.1) in
      of_made (λ p. grammar.related p.0 p.1) (of_seq (of_sum a g) (of_opt (of_either compared among_of))) (λ b p h. related_good b p.0 p.1 h.0 h.1)

  of_conjunction : (a : Rule Expr) → Given OfExpr a → Given OfExpr (grammar.conjunction ps a)
  unfolding grammar.conjunction
  of_conjunction a g = of_made (grammar.one_or expr.And) (of_chain k.AndAnd refl (of_relation a g)) (λ b es h. one_or_good expr.And good_and b es h)

  of_disjunction : (a : Rule Expr) → Given OfExpr a → Given OfExpr (grammar.disjunction ps a)
  unfolding grammar.disjunction
  of_disjunction a g = of_made (grammar.one_or expr.Or) (of_chain k.OrOr refl (of_conjunction a g)) (λ b es h. one_or_good expr.Or good_or b es h)

  pub of_expression : Given OfExpr (grammar.whole_expression ps)
  unfolding grammar.whole_expression grammar.expression
  of_expression = of_nested (grammar.disjunction ps) of_disjunction 64

  pub of_constraint : Given OfExpr (grammar.constraint ps)
  unfolding grammar.constraint
  of_constraint = of_either (of_parens of_expression) (of_either (of_call (grammar.whole_expression ps) of_expression) (of_refusing Unsupported grammar.is_iri_name))
