-- What the values of a type have alike.
use Rattle.std.proofs.Common.{◌≡◌, ◌∙◌, sym}

-- what is the same of all of them, is the same of two
pub alike : {A X : Type 0} {f : A → X} {x : X} → ((a : A) → f a ≡ x) → (a b : A) → f a ≡ f b
alike h a b = h a ∙ sym (h b)
