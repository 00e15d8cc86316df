use Rattle.std.proofs.Common.{◌≡◌, ◌∙◌, ◌+◌, ap, refl, List, ℕ, String, arith, set, cond, bytes_eq}
use Rattle.std.specs.declared.alloc.Global.{Global}
use Rattle.std.proofs.lemmas.Option.{get_or_from_slice_get}
use Rattle.std.proofs.lemmas.Slice.Eq.{bytes_eq-Decides}
use Rattle.fx_outside.specs.NameCounts.{count_in, IsPlaceOf}
use Rattle.fx_outside.proofs.CountLemmas.{raised, counted}
use Rattle.fx_outside.proofs.name_counts.NameCounts.raise.Goals as goal

pub returns : goal.returns
returns c =
    let items : List (String Global × ℕ) = c.args.self.now.counts.items in
    let key = c.index_mut.result.now.0 in
    let count = c.index.result.now.1 in
    let Raises : Type 0 = (name : List ℕ) → IsPlaceOf c.args.self.now c.args.place name → (other : List ℕ)
    → count_in (set items c.args.place (key, count + 1)) other ≡ count_in items other + cond {A = ℕ} (bytes_eq name other) 1 0 in
    let raises : Raises = λ name at other.
    let read : c.index.result.now ≡ at.1.0 = c.index.ensures ∙ get_or_from_slice_get items c.args.place at.1.0 c.index.result.now at.1.1 in
    let written : c.index_mut.result.now ≡ at.1.0 = c.index_mut.ensures.value ∙ get_or_from_slice_get items c.args.place at.1.0 c.index_mut.result.now at.1.1 in
    ap (λ (k : String Global). count_in (set items c.args.place (k, count + 1)) other) (ap (λ (e : String Global × ℕ). e.0) written)
    ∙ (ap (λ (n : ℕ). count_in (set items c.args.place (at.1.0.0, n + 1)) other) (ap (λ (e : String Global × ℕ). e.1) read)
    ∙ raised items c.args.place at.1.0 name other at.0 at.1.1) in
    record {
      count = λ name at.
          let same : c.index.result.now ≡ at.1.0 = c.index.ensures ∙ get_or_from_slice_get items c.args.place at.1.0 c.index.result.now at.1.1 in
          ap (λ (n : ℕ). n + 1) (ap (λ (e : String Global × ℕ). e.1) same ∙ counted items c.args.place at.1.0 name at.0 at.1.1);
      kept = λ other. omega (arith, raises c.requires.0 c.requires.1 other);
      risen = λ name at.
          let one : cond {A = ℕ} (bytes_eq name name) 1 0 ≡ 1 = ap (λ b. cond {A = ℕ} b 1 0) ((bytes_eq-Decides name name).1 refl) in
          omega (arith, raises name at name, one);
      raised = raises;
    }
