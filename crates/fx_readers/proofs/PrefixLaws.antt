-- The last declaration of a prefix is the one that counts.
use Rattle.std.proofs.Common.{◌≡◌, ◌∙◌, ℕ, Bool, true, false, List, ◌∷◌, Option, Some, None, String, Global, string_bytes, refl, if◌then◌else◌}
use Rattle.std.specs.Str.{bytes_eq}
use Rattle.std.specs.String.{string_eq}
use Rattle.std.specs.HashMap.{HashMap}
use Rattle.std.specs.HashMap as hash
use Rattle.std.proofs.lemmas.Map.Text.{hash_map_updates_text}
use Rattle.fx_grammar.specs.Grammar.{Prefixes, declared, if_later}
use Rattle.fx_readers.specs.Prefixes.{found}

-- what an insert leaves at each text
pub found_put : {S : Type 0} (m n : HashMap (String Global) (List ℕ) S) (key : String Global) (value name iri : List ℕ) → string_bytes key ≡ name → value ≡ iri → hash.Updates string_eq m n key (Some value)
    → (q : List ℕ) → found n.entries q ≡ (if bytes_eq name q then Some iri else found m.entries q)
found_put m n key value name iri named same updates q =
    hash_map_updates_text (string_bytes key) m n (Some value) updates q ∙ (λ j. if bytes_eq (named j) q then Some (same j) else found m.entries q)

-- what is left counts before what was found
pub later_found : (rest : Prefixes) (name iri q : List ℕ) (before : Option (List ℕ))
    → if_later (declared rest q) (if bytes_eq name q then Some iri else before) ≡ if_later (declared ((name, iri) ∷ rest) q) before
later_found rest name iri q before = go (declared rest q) (bytes_eq name q)
  where
    go : (o : Option (List ℕ)) (b : Bool) → if_later o (if b then Some iri else before) ≡ if_later (if_later o (if b then Some iri else None)) before
    go (Some later) b = refl
    go None true = refl
    go None false = refl

pub none_found : (o : Option (List ℕ)) → if_later o None ≡ o
none_found None = refl
none_found (Some iri) = refl
