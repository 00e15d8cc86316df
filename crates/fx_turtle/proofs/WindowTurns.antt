-- A window is read statement by statement: whatever stands behind some symbols, what a statement takes of them is what it takes of all, and where it is refused at one of them it is refused there.
use Rattle.std.proofs.Common.{◌≡◌, ◌∙◌, ◌⊎◌, inl, inr, ℕ, ◌+◌, ◌<◌, ◌≤◌, List, [], ◌∷◌, ◌++◌, length, drop, Ok, Err, refl, sym, ap, subst, arith, append_assoc, append-nil, length-append, length-drop}
use Rattle.std.proofs.lemmas.List.{drop-append-le, drop-map}
use Rattle.fx_terms.specs.declared.triples.Triple.{Triple}
use Rattle.fx_tokens.specs.declared.Token as read
use Rattle.fx_grammar.specs.Grammar.{Prefixes}
use Rattle.fx_rules.proofs.RuleLaws.{Sound}
use Rattle.fx_rules.proofs.RuleLocal.{Alike, Leaves}
use Rattle.fx_turtle.specs.Gives.{IsRefusal}
use Rattle.fx_turtle.specs.Grammar.{Statement, declare, triples_in, statement}
use Rattle.fx_turtle.specs.Rule.{alphabet, Outcome, Refusal}
use Rattle.fx_turtle.specs.Sources.{Tokened, left}
use Rattle.fx_turtle.specs.Symbols.{Symbol, says, symbols}
use Rattle.fx_turtle.specs.Windows.{EndsInDot, StopsFor, rest_of_document}
use Rattle.fx_turtle.specs.declared.faults.Fault.{Fault}
use Rattle.fx_turtle.specs.declared.faults.Fault.TheVariants as fault
use Rattle.fx_turtle.specs.declared.refusals.TurtleKind.{TurtleKind}
use Rattle.fx_turtle.proofs.GrammarDots.{dot, refused_within}
use Rattle.fx_turtle.proofs.GrammarLaws.{kept_statement, ends_alone}
use Rattle.fx_turtle.proofs.RuleWindows.{sees_none}
use Rattle.fx_turtle.proofs.Whole.{AreSame, document_turn, document_fails}

module _ (ps : Prefixes) (ts : List Symbol) where
  read_on : (s : Statement) (next rest : List Symbol) → (statement ps).read ts ≡ Ok (s, next) → (statement ps).read (ts ++ rest) ≡ Ok (s, next ++ rest)
  read_on s next rest e =
      let h : Sound {W = TurtleKind} (statement ps).spells ts (Ok (s, next)) = subst (λ (o : Outcome Statement). Sound {W = TurtleKind} (statement ps).spells ts o) e ((kept_statement ps).law.sound ts) in
      let same : ts ++ rest ≡ h.0 ++ (next ++ rest) = ap (λ (v : List Symbol). v ++ rest) h.1 ∙ append_assoc h.0 next rest in
      ap (λ (v : List Symbol). (statement ps).read v) same ∙ (kept_statement ps).law.complete h.0 (next ++ rest) s h.2 (sees_none alphabet (statement ps).goes_on (next ++ rest) (ends_alone ps))

  refused_on : (f : Refusal) (rest : List Symbol) → (statement ps).read ts ≡ Err f → 0 < f.left → (statement ps).read (ts ++ rest) ≡ Err (record { why = f.why; left = f.left + length rest })
  refused_on f rest e some =
      let h : Leaves alphabet {A = Statement} ts (Err f) = subst (λ (o : Outcome Statement). Leaves alphabet ts o) e ((kept_statement ps).local.leaves ts) in
      go h.0 h.1 h.2 h.3
    where
      go : (front back : List Symbol) → ts ≡ front ++ back → f.left ≡ length back → (statement ps).read (ts ++ rest) ≡ Err (record { why = f.why; left = f.left + length rest })
      go front [] same long = absurd (omega (arith, some, long))
      go front (t ∷ after) same long =
          let whole : (statement ps).read (front ++ t ∷ after) ≡ Err f = ap (λ (v : List Symbol). (statement ps).read v) (sym same) ∙ e in
          let a : Alike t after (after ++ rest) (Err f) ((statement ps).read (front ++ t ∷ (after ++ rest))) =
          subst (λ (o : Outcome Statement). Alike t after (after ++ rest) o ((statement ps).read (front ++ t ∷ (after ++ rest)))) whole ((kept_statement ps).local.alike t after (after ++ rest) front) in
          let place : length (t ∷ (after ++ rest)) ≡ f.left + length rest = omega (arith, long, length-append after rest) in
          ap (λ (v : List Symbol). (statement ps).read v) (ap (λ (v : List Symbol). v ++ rest) same ∙ append_assoc front (t ∷ after) rest) ∙ a [] long ∙ ap (λ (n : ℕ). Err (record { why = f.why; left = n })) place

  refused_end : (f : Refusal) (rest : List Symbol) → (statement ps).read ts ≡ Err f → rest ≡ [] → (statement ps).read (ts ++ rest) ≡ Err (record { why = f.why; left = f.left + length rest })
  refused_end f rest e none =
      let place : f.left ≡ f.left + length rest = omega (arith, ap (λ (v : List Symbol). length v) none) in
      ap (λ (v : List Symbol). (statement ps).read (ts ++ v)) none ∙ ap (λ (v : List Symbol). (statement ps).read v) (append-nil ts) ∙ e ∙ ap (λ (n : ℕ). Err (record { why = f.why; left = n })) place

  refused_so : (f : Refusal) (rest : List Symbol) → (statement ps).read ts ≡ Err f → EndsInDot ts ⊎ (rest ≡ []) → (statement ps).read (ts ++ rest) ≡ Err (record { why = f.why; left = f.left + length rest })
  refused_so f rest e (inl h) = refused_on f rest e (refused_within ps h.0 f (ap (λ (v : List Symbol). (statement ps).read v) (sym h.1) ∙ e))
  refused_so f rest e (inr h) = refused_end f rest e h

  left_few : (f : Refusal) → (statement ps).read ts ≡ Err f → f.left ≤ length ts
  left_few f e =
      let h : Leaves alphabet {A = Statement} ts (Err f) = subst (λ (o : Outcome Statement). Leaves alphabet ts o) e ((kept_statement ps).local.leaves ts) in
      omega (arith, h.3, ap (λ (v : List Symbol). length v) h.2, length-append h.0 h.1)

  -- a statement is taken
  pub turn_on : (front all : List Triple) (qs : Prefixes) (s : Statement) (next rest : List Symbol) → (statement ps).read ts ≡ Ok (s, next) → AreSame qs (declare ps s) → all ≡ front ++ triples_in s
      → rest_of_document qs all (next ++ rest) ≡ rest_of_document ps front (ts ++ rest)
  turn_on front all qs s next rest e h is = document_turn ps front (ts ++ rest) qs all (next ++ rest) s (read_on s next rest e) h is

-- ---- the symbols from a place of a window on

left_all : (source : Tokened) (at : ℕ) → left source at ≡ drop at (left source 0)
unfolding left
left_all source at = go at source.1
  where
    go : (at : ℕ) (tokens : List read.Token) → symbols source.0 (drop at tokens) ≡ drop at (symbols source.0 tokens)
    go at tokens = sym (drop-map (says source.0) at tokens)

-- what is left of symbols that end in a dot does so too
dot_behind : (at : ℕ) (ts : List Symbol) → 0 < length (drop at ts) → EndsInDot ts → EndsInDot (drop at ts)
dot_behind at ts some h =
    let less : at ≤ length h.0 = omega (arith, some, length-drop at ts, ap (λ (v : List Symbol). length v) h.1, length-append h.0 (dot ∷ [])) in
    (drop at h.0, ap (λ (v : List Symbol). drop at v) h.1 ∙ drop-append-le at h.0 (dot ∷ []) less)

module _ (source : Tokened) (at : ℕ) (some : 0 < length (left source at)) where
  closed_behind : (rest : List Symbol) → EndsInDot (left source 0) ⊎ (rest ≡ []) → EndsInDot (left source at) ⊎ (rest ≡ [])
  closed_behind rest (inl h) = inl (subst EndsInDot (sym (left_all source at)) (dot_behind at (left source 0) (subst (λ (v : List Symbol). 0 < length v) (left_all source at) some) h))
  closed_behind rest (inr h) = inr h

  -- a statement is refused, so that the window is
  pub stops_there : (ps old : Prefixes) (front said : List Triple) (f : Fault) → ((rest : List Symbol) → rest_of_document ps front (left source at ++ rest) ≡ rest_of_document old said (left source 0 ++ rest))
      → IsRefusal f ((statement ps).read (left source at)) → StopsFor old said (left source 0) f
  stops_there ps old front said fault.Memory so e = tt
  stops_there ps old front said (fault.Refused why n) so e =
      let f : Refusal = record { why = why; left = n } in
      record {
        within = omega (arith, left_few ps (left source at) f e, ap (λ (v : List Symbol). length v) (left_all source at), length-drop at (left source 0));
        inside = λ h. (let d = inside_dot h in refused_within ps d.0 f (ap (λ (v : List Symbol). (statement ps).read v) (sym d.1) ∙ e));
        stops = λ rest h. sym (so rest)
            ∙ document_fails ps front (left source at ++ rest) (record { why = why; left = n + length rest }) (omega (arith, some, length-append (left source at) rest)) (refused_so ps (left source at) f rest e (closed_behind rest h));
      }
    where
      inside_dot : EndsInDot (left source 0) → EndsInDot (left source at)
      inside_dot h = subst EndsInDot (sym (left_all source at)) (dot_behind at (left source 0) (subst (λ (v : List Symbol). 0 < length v) (left_all source at) some) h)

-- behind the last symbol
pub window_ends : (ps : Prefixes) (front : List Triple) (ts rest : List Symbol) → length ts ≡ 0 → rest_of_document ps front rest ≡ rest_of_document ps front (ts ++ rest)
window_ends ps front [] rest e = refl
window_ends ps front (t ∷ ts) rest e = absurd (omega (arith, e))
