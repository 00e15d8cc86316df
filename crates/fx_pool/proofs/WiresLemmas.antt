-- What is known of several wires after two calls, one after the other.
use Rattle.std.proofs.Common.{◌≡◌, ◌∙◌, ap, sym, subst, refl, ℕ, suc, length, ◌≤◌, Bool, true, false, List, [], ◌∷◌, ◌++◌, map, Some, IsTrue, IsPermutation, arith, append_assoc}
use Rattle.std.specs.List.{AllByRecursion}
use Rattle.std.proofs.lemmas.List.Elements.{All-from_recursion, recursion_from_All}
use Rattle.std.proofs.lemmas.List.Sorted.{IsPermutation-refl}
use Rattle.fx_terms.specs.declared.triples.Triple.{Triple}
use Rattle.fx_outside.specs.Endpoints.{EndpointParts}
use Rattle.fx_algebra.specs.Units.{graph_of}
use Rattle.fx_traffic.specs.Gains.{AreAfter, HaveGained, Tell, TellAll, TellOf}
use Rattle.fx_traffic.proofs.GainLemmas.{gain_laws}
use Rattle.fx_wire.specs.Exchanges.{Exchange, IsAfter, Seen}

-- whether they tell their logs
abbrev pub AllTell : Bool → List Seen → Type 0
AllTell tells wires = AllByRecursion (λ w. w.tells_log ≡ tells) wires

pub all_tell : {W : Type 0} (see : W → Seen) (tells : Bool) → ((w : W) → (see w).tells_log ≡ tells) → (wires : List W) → AllTell tells (map see wires)
all_tell see tells same [] = tt
all_tell see tells same (w ∷ wires) = (same w, all_tell see tells same wires)

one_after : (s t u : Seen) → s.tells_log ≡ t.tells_log → IsAfter s t → IsAfter t u → IsAfter s u
one_after s t u e h k = record {
  logged = λ told.
      let a = h.logged told in
      let b = k.logged (subst IsTrue e told) in
      (a.0 ++ b.0, b.1 ∙ ap (λ (v : List Exchange). v ++ b.0) a.1 ∙ append_assoc s.log a.0 b.0);
  same = λ a. k.same a ∙ h.same a;
  kept = λ a. let low : s.faults a ≤ t.faults a = h.kept a in let high : t.faults a ≤ u.faults a = k.kept a in omega arith;
}

pub all_after : (tells : Bool) (before between after : List Seen) → AllTell tells before → AllTell tells between → AreAfter before between → AreAfter between after → AreAfter before after
all_after tells [] [] [] a b h k = tt
all_after tells [] [] (u ∷ us) a b h k = absurd k
all_after tells [] (t ∷ ts) us a b h k = absurd h
all_after tells (s ∷ ss) [] us a b h k = absurd h
all_after tells (s ∷ ss) (t ∷ ts) [] a b h k = absurd k
all_after tells (s ∷ ss) (t ∷ ts) (u ∷ us) a b h k = (one_after s t u (a.0 ∙ sym b.0) h.0 k.0, all_after tells ss ts us a.1 b.1 h.1 k.1)

pub as_many : (before after : List Seen) → AreAfter before after → length after ≡ length before
as_many [] [] h = refl
as_many [] (t ∷ ts) h = absurd h
as_many (s ∷ ss) [] h = absurd h
as_many (s ∷ ss) (t ∷ ts) h = ap suc (as_many ss ts h.1)

-- ---- what they tell of graphs stays

each_tells : (before after : List Seen) (address : List ℕ) (g : List Triple) → AreAfter before after → AllByRecursion (λ w. w.graph address ≡ Some g) before → AllByRecursion (λ w. w.graph address ≡ Some g) after
each_tells [] [] address g h k = tt
each_tells [] (t ∷ ts) address g h k = absurd h
each_tells (s ∷ ss) [] address g h k = absurd h
each_tells (s ∷ ss) (t ∷ ts) address g h k = (h.0.same address ∙ k.0, each_tells ss ts address g h.1 k.1)

pub still_tell : (before after : List Seen) (address : List ℕ) (g : List Triple) → AreAfter before after → Tell before address g → Tell after address g
still_tell before after address g h k =
    All-from_recursion (λ (w : Seen). w.graph address ≡ Some g) after (each_tells before after address g h (recursion_from_All (λ (w : Seen). w.graph address ≡ Some g) before k))

pub still_tell_all : (before after : List Seen) → AreAfter before after → (endpoints : List EndpointParts) (graphs : List (List Triple)) → TellAll before endpoints graphs → TellAll after endpoints graphs
still_tell_all before after h [] [] k = tt
still_tell_all before after h [] (g ∷ graphs) k = absurd k
still_tell_all before after h (e ∷ endpoints) [] k = absurd k
still_tell_all before after h (e ∷ endpoints) (g ∷ graphs) k = (still_tell before after e.iri g h k.0, still_tell_all before after h endpoints graphs k.1)

pub still_tell_of : (before after : List Seen) → AreAfter before after → (endpoints : List EndpointParts) (graphs : List (List Triple)) (Of : ℕ → Type 0) → TellOf before endpoints graphs Of → TellOf after endpoints graphs Of
still_tell_of before after h endpoints graphs Of k = λ at e of found. still_tell before after e.iri (graph_of graphs at) h (k at e of found)

-- ---- what was exchanged

-- what both of two calls exchanged, in the order of the wires
pub record GainedBoth (tells : Bool) (before after : List Seen) (xs ys : List Exchange) : Type 0 where
  pub all : List Exchange
  pub same : IsPermutation (xs ++ ys) all
  pub gained : IsTrue tells → HaveGained before after all

pub gained_both : (tells : Bool) (before between after : List Seen) (xs ys : List Exchange) → (IsTrue tells → HaveGained before between xs) → (IsTrue tells → HaveGained between after ys) → GainedBoth tells before after xs ys
gained_both true before between after xs ys h k =
    let both = gain_laws.in_turn before between after xs ys (h refl) (k refl) in
    record { all = both.all; same = both.same; gained = λ told. both.gained }
gained_both false before between after xs ys h k = record { all = xs ++ ys; same = IsPermutation-refl (xs ++ ys); gained = λ told. absurd (cc) }
