use Rattle.std.proofs.Common.{◌≡◌, ◌∙◌, ap, rules, sym, subst, true, not, List, ℕ, length, ◌==◌}
use Rattle.std.specs.Str.{bytes_eq}
use Rattle.fx_terms.specs.Datatypes.{lang_string}
use Rattle.fx_terms.specs.Literals.{IsTag, is_tag}
use Rattle.fx_terms.proofs.TagLemmas.{tag_in_lower_case, tag_is_some}
use Rattle.fx_terms.proofs.literals.Literal.tagged.Goals as goal

pub of-requires : goal.of-requires
of-requires c =
    let text = c.args.tag.now in
    let is : is_tag text ≡ true = search rules in
    let lower = c.in_ok-tag.ensures.ok in
    record {
      form = search rules;
      datatype = c.in_ok-known.ensures.valid;
      fits = ap (λ (t : List ℕ). length t == 0) lower ∙ tag_is_some text is ∙ ap (λ (d : List ℕ). not (bytes_eq d lang_string)) (sym c.in_ok-known.ensures.value);
      tag = λ _. subst IsTag (sym lower) (tag_in_lower_case text is);
    }
