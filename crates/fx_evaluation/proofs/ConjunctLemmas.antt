-- The parts of a conjunction hold together where it does.
use Rattle.std.proofs.Common.{◌≡◌, ◌∙◌, ap, sym, subst, refl, ℕ, ◌+◌, ◌<◌, ◌≤◌, Bool, true, false, ◌&&◌, cond, List, [], ◌∷◌, ◌++◌, map, length, take, get_or, Option, Some, None, option_map}
use Rattle.std.specs.List.{list_all, list_any}
use Rattle.std.proofs.lemmas.List.{take_more, take_all}
use Rattle.std.proofs.lemmas.List.Folds.{list_all-append}
use Rattle.fx_terms.specs.declared.terms.Term.{Term}
use Rattle.fx_algebra.specs.Conditions.{holds, is_so}
use Rattle.fx_algebra.specs.Solutions.{Bindings}
use Rattle.fx_algebra.specs.Values.{all_of, boolean, is_false, is_true, truth_of, value, value_step}
use Rattle.fx_algebra.specs.Worths.{integer_type, kind_of, read_boolean, truth}
use Rattle.fx_algebra.specs.declared.expressions.Expr.{Expr, Expr-F, fold-roll-Expr}
use Rattle.fx_algebra.specs.declared.expressions.Expr.TheVariants.{And, rolls-And}
use Rattle.fx_evaluation.specs.Conditions.{AreAsStrict, AreStricter}

value_and : (parts : List Expr) (s : Bindings) → value (And parts) s ≡ option_map boolean (all_of (map truth_of (map (λ e. value e s) parts)))
value_and parts s = ap (λ e. value e s) (sym (rolls-And parts)) ∙ fold-roll-Expr (Option Term) (value_step s) (Expr-F.And parts)

truth_again : (o : Option Bool) → truth_of (option_map boolean o) ≡ o
unfolding truth boolean kind_of integer_type read_boolean
truth_again None = refl
truth_again (Some true) = refl
truth_again (Some false) = refl

none_true : (b : Bool) → is_true (cond b (Some false) None) ≡ false
none_true true = refl
none_true false = refl

all_true : (os : List (Option Bool)) → is_true (all_of os) ≡ list_all is_true os
all_true [] = refl
all_true (Some true ∷ os) = all_true os
all_true (Some false ∷ os) = refl
all_true (None ∷ os) = none_true (list_any is_false os)

each_so : (s : Bindings) (parts : List Expr) → list_all is_true (map truth_of (map (λ e. value e s) parts)) ≡ list_all (is_so s) parts
each_so s [] = refl
each_so s (e ∷ es) = ap (λ (b : Bool). is_so s e && b) (each_so s es)

pub so_together : (s : Bindings) (parts : List Expr) → is_so s (And parts) ≡ list_all (is_so s) parts
so_together s parts =
    ap (λ (o : Option Term). is_true (truth_of o)) (value_and parts s)
    ∙ ap is_true (truth_again (all_of (map truth_of (map (λ e. value e s) parts))))
    ∙ all_true (map truth_of (map (λ e. value e s) parts))
    ∙ each_so s parts

and_true : (b : Bool) → b ≡ (b && true)
and_true true = refl
and_true false = refl

-- a conjunction is added by its parts
pub parts_added : (filter : Expr) (before parts items : List Expr) → filter ≡ And items → parts ≡ before ++ items → AreStricter parts before (filter ∷ [])
unfolding holds
parts_added filter before parts items is added = record {
  same = λ s.
      ap (list_all (is_so s)) added
      ∙ list_all-append (is_so s) before items
      ∙ ap (λ (b : Bool). list_all (is_so s) before && b) (sym (so_together s items) ∙ ap (is_so s) (sym is) ∙ and_true (is_so s filter));
}

pub one_added : (filter copy : Expr) (before parts : List Expr) → copy ≡ filter → parts ≡ before ++ copy ∷ [] → AreStricter parts before (filter ∷ [])
unfolding holds
one_added filter copy before parts is added = record {
  same = λ s. ap (list_all (is_so s)) (added ∙ ap (λ (e : Expr). before ++ e ∷ []) is) ∙ list_all-append (is_so s) before (filter ∷ []);
}

-- filter by filter
pub none_added : AreAsStrict [] []
none_added = record { same = λ s. refl }

pub filter_added : (filters : List Expr) (i : ℕ) (filter : Expr) (before parts : List Expr) → i < length filters → filter ≡ get_or filters i filter → AreAsStrict before (take i filters) → AreStricter parts before (filter ∷ [])
    → AreAsStrict parts (take (i + 1) filters)
unfolding holds
filter_added filters i filter before parts b is so more = record {
  same = λ s.
      more.same s
      ∙ ap (λ (c : Bool). c && holds (filter ∷ []) s) (so.same s)
      ∙ sym (list_all-append (is_so s) (take i filters) (filter ∷ []))
      ∙ ap (λ (es : List Expr). list_all (is_so s) es) (ap (λ (e : Expr). take i filters ++ e ∷ []) is ∙ sym (take_more filters i filter b));
}

pub all_added : (filters : List Expr) (i : ℕ) (parts : List Expr) → length filters ≤ i → AreAsStrict parts (take i filters) → AreAsStrict parts filters
all_added filters i parts b so = subst (λ (v : List Expr). AreAsStrict parts v) (take_all i filters b) so
