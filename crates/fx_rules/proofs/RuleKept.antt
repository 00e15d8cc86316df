-- What each way to make a rule keeps, all its laws together.
use Rattle.std.proofs.Common.{◌≡◌, ℕ, zero, suc, Bool, true, false, ◌||◌, inl, inr, ◌∷◌, Result, Ok, Err, refl, sym, ap, ◌∙◌, subst}
use Rattle.fx_rules.specs.Rule.{Alphabet, Settled, Rule, Apart, one, token, made, Shape, shape_of, Shaped, then_by, seq, either, opt, many_from, many, refusing, after, before, chain, some, nothing, Depth, with_depth, depth, nested}
use Rattle.fx_rules.proofs.RuleLaws.{Lawful, sees-same, same_shape, lawful_one, lawful_made, lawful_then_by, lawful_either, lawful_opt, lawful_many_from, lawful_refusing}
use Rattle.fx_rules.proofs.RuleLocal.{Local, leaves_unexpected, refused_alike, local_one, local_made, local_then_by, local_either, local_opt, local_many_from, local_refusing}
use Rattle.fx_rules.proofs.RuleStops.{Exact, Idle, exact_one, exact_made, exact_then_by, exact_either, exact_opt, exact_many_from, exact_refusing}

or_no : (b : Bool) → (b || false) ≡ true → b ≡ true
or_no true e = refl
or_no false e = absurd (cc)

module _ {T K W : Type 0} (G : Alphabet T K W) where
  pub record Kept {A : Type 0} (r : Rule T K W A) : Type 0 where
    pub law : Lawful G r
    pub local : Local G r
    pub exact : Exact G r

  module _ (settled : Settled G) where
    pub kept_one : {A : Type 0} (kinds : K → Bool) (value : T → Result A W) → Kept (one G kinds value)
    kept_one kinds value = record { law = lawful_one G kinds value; local = local_one G settled kinds value; exact = exact_one G kinds value }

    pub kept_token : (kind : K) → Kept (token G kind)
    kept_token kind = kept_one (G.is kind) (λ t. Ok tt)

    pub kept_refusing : (A : Type 0) (why : W) (kinds : K → Bool) → Kept (refusing G {A = A} why kinds)
    kept_refusing A why kinds = record { law = lawful_refusing G A why kinds; local = local_refusing G settled A why kinds; exact = exact_refusing G A why kinds }

    pub kept_made : {A B : Type 0} (f : A → B) {a : Rule T K W A} → Kept a → Kept (made f a)
    kept_made f {a} k = record { law = lawful_made G f a k.law; local = local_made G f a k.local; exact = exact_made G f a k.exact }

    pub kept_then_by : {A B : Type 0} {a : Rule T K W A} (shape : Shape K) (b : A → Rule T K W B) → Kept a → ((x : A) → Kept (b x)) → ((x : A) → Shaped shape (b x)) → Apart shape.begins a.goes_on → Kept (then_by a shape b)
    kept_then_by {a = a} shape b ka kb fits apart = record {
      law = lawful_then_by G a shape b ka.law (λ x. (kb x).law) fits apart;
      local = local_then_by G a shape b ka.local (λ x. (kb x).local);
      exact = exact_then_by G a shape b ka.exact (λ x. (kb x).exact) fits;
    }

    pub kept_seq : {A B : Type 0} {a : Rule T K W A} {b : Rule T K W B} → Kept a → Kept b → Apart b.begins a.goes_on → Kept (seq a b)
    kept_seq {a = a} {b = b} ka kb apart = kept_then_by {a = a} (shape_of b) (λ x. b) ka (λ x. kb) (λ x. same_shape b) apart

    pub kept_after : {A B : Type 0} {a : Rule T K W A} {b : Rule T K W B} → Kept a → Kept b → Apart b.begins a.goes_on → Kept (after a b)
    kept_after {a = a} {b = b} ka kb apart = kept_made (λ p. p.1) {a = seq a b} (kept_seq {a = a} {b = b} ka kb apart)

    pub kept_before : {A B : Type 0} {a : Rule T K W A} {b : Rule T K W B} → Kept a → Kept b → Apart b.begins a.goes_on → Kept (before a b)
    kept_before {a = a} {b = b} ka kb apart = kept_made (λ p. p.0) {a = seq a b} (kept_seq {a = a} {b = b} ka kb apart)

    pub kept_either : {A : Type 0} {a b : Rule T K W A} → Kept a → Kept b → a.empty ≡ false → b.empty ≡ false → Apart b.begins a.begins → Kept (either G a b)
    kept_either {a = a} {b = b} ka kb na nb apart = record {
      law = lawful_either G a b ka.law kb.law na nb apart;
      local = local_either G a b ka.local kb.local;
      exact = exact_either G a b ka.law kb.law ka.exact kb.exact na nb apart;
    }

    pub kept_opt : {A : Type 0} {a : Rule T K W A} → Kept a → a.empty ≡ false → Kept (opt G a)
    kept_opt {a = a} k na = record { law = lawful_opt G a k.law na; local = local_opt G a k.local; exact = exact_opt G a k.law k.exact na }

    pub kept_many_from : {S A : Type 0} (shape : Shape K) (rule : S → Rule T K W A) (step : S → A → S) → ((s : S) → Kept (rule s)) → ((s : S) → Shaped shape (rule s)) → shape.empty ≡ false → Apart shape.begins shape.goes_on → (s : S) → Kept (many_from G shape rule step s)
    kept_many_from shape rule step k fits na apart s = record {
      law = lawful_many_from G shape rule step (λ s. (k s).law) fits na apart s;
      local = local_many_from G shape rule step (λ s. (k s).local) (λ s. (k s).law) fits na s;
      exact = exact_many_from G shape rule step (λ s. (k s).law) (λ s. (k s).exact) fits na s;
    }

    pub kept_many : {A : Type 0} {a : Rule T K W A} → Kept a → a.empty ≡ false → Apart a.begins a.goes_on → Kept (many G a)
    kept_many {a = a} k na apart = kept_many_from {S = Unit {0}} (shape_of a) (λ s. a) (λ s x. s) (λ s. k) (λ s. same_shape a) na apart tt

    pub kept_chain : {A : Type 0} (mark : K) {a : Rule T K W A} → Kept a → a.empty ≡ false → Apart (G.is mark) a.goes_on → Kept (chain G mark a)
    kept_chain mark {a} k na apart =
        let ends : Apart (after (token G mark) a).begins (after (token G mark) a).goes_on = λ kind e. rw (apart kind (or_no (G.is mark kind) e), na) refl in
        kept_made (λ p. p.0 ∷ p.1) {a = seq a (many G (after (token G mark) a))}
        (kept_seq {a = a} {b = many G (after (token G mark) a)} k (kept_many {a = after (token G mark) a} (kept_after {a = token G mark} {b = a} (kept_token mark) k (λ kind e. refl)) refl ends) (λ kind e. apart kind (or_no (G.is mark kind) e)))

    pub kept_some : {A : Type 0} {a : Rule T K W A} → Kept a → a.empty ≡ false → Apart a.begins a.goes_on → Kept (some G a)
    kept_some {a = a} k na apart = kept_made (λ p. p.0 ∷ p.1) {a = seq a (many G a)} (kept_seq {a = a} {b = many G a} k (kept_many {a = a} k na apart) apart)

    module _ {A : Type 0} (rule : Rule T K W A → Rule T K W A)
        (fits : (d : Depth T W A) → Shaped (shape_of (rule (nothing G))) (rule (with_depth (shape_of (rule (nothing G))) d)))
        (takes : (shape_of (rule (nothing G))).empty ≡ false)
        (keeps : (d : Depth T W A) → Kept (with_depth (shape_of (rule (nothing G))) d) → Kept (rule (with_depth (shape_of (rule (nothing G))) d))) where
      abbrev shape : Shape K
      shape = shape_of (rule (nothing G))

      pub kept_nested : (n : ℕ) → Kept (nested G rule n)
      unfolding depth
      kept_nested zero = record {
        law = record { sound = λ ts. tt; complete = λ front rest x h e. absurd h; starts = λ front x h. absurd h };
        local = record { leaves = λ ts. leaves_unexpected G settled A ts; alike = λ t u v front. refused_alike G A G.unexpected t u v front };
        exact = record { tells = λ ts. refl; ends = λ front rest x h. absurd h; stops = λ ts f h. ap Err (sym h); idle = λ ts s. rw takes refl };
      }
      kept_nested (suc n) =
          let r = rule (with_depth shape (depth G rule n)) in
          let kept = keeps (depth G rule n) (kept_nested n) in
          let same = fits (depth G rule n) in
          record {
            law = record {
              sound = kept.law.sound;
              complete = λ front rest x h e. kept.law.complete front rest x h (sees-same G shape.goes_on r.goes_on rest false (sym same.goes_on) e);
              starts = λ front x h. elim (kept.law.starts front x h) [
                | inl s ↦ inl (sees-same G r.begins shape.begins front true same.begins s)
                | inr m ↦ inr (m.0, sym same.empty ∙ m.1)
              ];
            };
            local = record { leaves = kept.local.leaves; alike = kept.local.alike };
            exact = record {
              tells = kept.exact.tells;
              ends = kept.exact.ends;
              stops = kept.exact.stops;
              idle = λ ts s. subst (λ (b : Bool). Idle G b ts (r.read ts)) same.empty (kept.exact.idle ts (sees-same G shape.begins r.begins ts false (sym same.begins) s));
            };
          }
