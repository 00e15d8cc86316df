-- What is read is one value before one text, and what stops is one fault at one place.
use Rattle.std.proofs.Common.{◌≡◌, ℕ, List, Ok, Err, ap}
use Rattle.fx_ntriples.specs.declared.faults.Fault.{Fault}
use Rattle.fx_ntriples.specs.Quotes.{Got}

module _ {A : Type 0} where
  pub same_value : {p q : A × List ℕ} → ◌≡◌ {A = Got A} (Ok p) (Ok q) → p.0 ≡ q.0
  same_value {p} {q} h = let same : p ≡ q = cc in ap (λ (x : A × List ℕ). x.0) same

  pub same_rest : {p q : A × List ℕ} → ◌≡◌ {A = Got A} (Ok p) (Ok q) → p.1 ≡ q.1
  same_rest {p} {q} h = let same : p ≡ q = cc in ap (λ (x : A × List ℕ). x.1) same

  pub same_fault : {f g : Fault × List ℕ} → ◌≡◌ {A = Got A} (Err f) (Err g) → f.0 ≡ g.0
  same_fault {f} {g} h = let same : f ≡ g = cc in ap (λ (x : Fault × List ℕ). x.0) same

  pub same_place : {f g : Fault × List ℕ} → ◌≡◌ {A = Got A} (Err f) (Err g) → f.1 ≡ g.1
  same_place {f} {g} h = let same : f ≡ g = cc in ap (λ (x : Fault × List ℕ). x.1) same
