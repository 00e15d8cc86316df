-- What is printed is accepted where its words are fine, its tokens stay as they are, and they spell the query.
use Rattle.std.proofs.Common.{◌≡◌, List, ◌++◌, refl, sym, ap, ◌∙◌, subst, append-nil, arith, true}
use Rattle.std.specs.Prelude.{[]}
use Rattle.fx_algebra.specs.Printed.{Word, joined}
use Rattle.fx_algebra.specs.declared.queries.Query.{Query}
use Rattle.fx_grammar.specs.Classified.{all_placed, outermost}
use Rattle.fx_grammar.specs.Grammar.{query}
use Rattle.fx_grammar.specs.Accepted.{Accepted}
use Rattle.fx_spelling.specs.Printable.{AreFine, said}
use Rattle.fx_grammar.specs.declared.kinds.Token.{Token}
use Rattle.fx_spelling.proofs.Saying.{words_lexed}
use Rattle.fx_spelling.proofs.Placing.{Passes}

none_placed : all_placed outermost [] ≡ []
unfolding all_placed
none_placed = refl

placed_all : (tokens : List Token) → Passes true 64 tokens → all_placed outermost tokens ≡ tokens
placed_all tokens p =
    ap (all_placed outermost) (sym (append-nil tokens)) ∙ p outermost [] tt refl (omega arith) ∙ ap (λ v. tokens ++ v) none_placed ∙ append-nil tokens

pub accepted_so : (words : List Word) (q : Query) → AreFine words → Passes true 64 (said words) → query.spells (said words) q → Accepted (joined words) q
accepted_so words q f p s =
    let l = words_lexed words f in
    record {
      utf8 = l.utf8;
      tokens = l.read;
      lexed = l.lexed;
      spelled = subst (λ (v : List Token). query.spells v q) (sym (ap (all_placed outermost) l.says ∙ placed_all (said words) p)) s;
    }
