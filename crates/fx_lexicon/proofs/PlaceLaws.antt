-- Tokens in their places.
use Rattle.std.proofs.Common.{◌≡◌, ℕ, suc, ◌<◌, ◌+◌, List, [], ◌∷◌, ◌++◌, length, map, drop, get_or, drop-cons, add-one, sym, ap, ◌∙◌, append_assoc, append-nil}
use Rattle.fx_tokens.specs.declared.Token as read
use Rattle.fx_grammar.specs.Kinds.{kind_of}
use Rattle.fx_grammar.specs.Classified.{says, placed, behind, all_placed}
use Rattle.fx_grammar.specs.declared.places.Context.{Context}
use Rattle.fx_grammar.specs.declared.kinds.Token.{Token}

-- one more token is placed
pub placed_turn : (context : Context) (said : List Token) (text : List ℕ) (ts : List read.Token) (i : ℕ) (d : read.Token) (w : Token) → i < length ts → w ≡ says text (get_or ts i d)
    → (said ++ placed context w ∷ []) ++ all_placed (behind context (kind_of w)) (map (says text) (drop (i + 1) ts)) ≡ said ++ all_placed context (map (says text) (drop i ts))
unfolding all_placed
placed_turn context said text ts i d w h e =
    let rest = λ (v : Token) (n : ℕ). placed context v ∷ all_placed (behind context (kind_of v)) (map (says text) (drop n ts)) in
    let step : all_placed context (map (says text) (drop i ts)) ≡ rest w (i + 1) =
    ap (λ l. all_placed context (map (says text) l)) (drop-cons ts i d h) ∙ ap (λ v. rest v (suc i)) (sym e) ∙ ap (rest w) (sym (add-one i)) in
    append_assoc said (placed context w ∷ []) (all_placed (behind context (kind_of w)) (map (says text) (drop (i + 1) ts))) ∙ ap (λ s. said ++ s) (sym step)

pub placed_end : (context : Context) (said : List Token) (text : List ℕ) (ts : List read.Token) (i : ℕ) (all : List Token) → drop i ts ≡ []
    → said ++ all_placed context (map (says text) (drop i ts)) ≡ all → said ≡ all
unfolding all_placed
placed_end context said text ts i all e h = sym (append-nil said) ∙ ap (λ s. said ++ all_placed context (map (says text) s)) (sym e) ∙ h
