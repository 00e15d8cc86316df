-- A map of prefixes stands for the declarations that it keeps.
use Rattle.std.proofs.Common.{◌≡◌, ◌∙◌, ℕ, Bool, true, false, cond, List, [], ◌∷◌, ◌++◌, Option, Some, None, String, Global, string_bytes, refl, sym, ap, if◌then◌else◌}
use Rattle.std.specs.Str.{bytes_eq}
use Rattle.std.proofs.lemmas.Slice.Eq.{bytes_eq-Decides}
use Rattle.fx_grammar.specs.Grammar.{Prefixes, declared, if_later}
use Rattle.fx_readers.specs.Prefixes.{found}
use Rattle.fx_turtle.specs.Kept.{kept}

same_turned : (a b : List ℕ) → bytes_eq a b ≡ bytes_eq b a
same_turned a b = go (bytes_eq a b) (bytes_eq b a) refl refl
  where
    go : (x y : Bool) → bytes_eq a b ≡ x → bytes_eq b a ≡ y → x ≡ y
    go true true e f = refl
    go false false e f = refl
    go true false e f = sym ((bytes_eq-Decides b a).1 (sym ((bytes_eq-Decides a b).0 e))) ∙ f
    go false true e f = sym e ∙ (bytes_eq-Decides a b).1 (sym ((bytes_eq-Decides b a).0 f))

-- the last declaration counts
pub declared_last : (ps : Prefixes) (prefix iri q : List ℕ) → declared (ps ++ (prefix, iri) ∷ []) q ≡ (if bytes_eq prefix q then Some iri else declared ps q)
declared_last [] prefix iri q = refl
declared_last (p ∷ ps) prefix iri q =
    ap (λ o. if_later o (if bytes_eq p.0 q then Some p.1 else None)) (declared_last ps prefix iri q) ∙ go (bytes_eq prefix q) (declared ps q) (if bytes_eq p.0 q then Some p.1 else None)
  where
    go : (b : Bool) (o early : Option (List ℕ)) → if_later (if b then Some iri else o) early ≡ (if b then Some iri else if_later o early)
    go true o early = refl
    go false o early = refl

pub found_kept : (entries : List (String Global × List ℕ)) (q : List ℕ) → declared (kept entries) q ≡ found entries q
unfolding kept
found_kept [] q = refl
found_kept (e ∷ entries) q =
    declared_last (kept entries) (string_bytes e.0) e.1 q ∙ ap (λ (b : Bool). cond b (Some e.1) (declared (kept entries) q)) (same_turned (string_bytes e.0) q)
    ∙ ap (λ o. cond (bytes_eq q (string_bytes e.0)) (Some e.1) o) (found_kept entries q)
