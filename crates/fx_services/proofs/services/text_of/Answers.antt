use Rattle.std.proofs.Common.{◌≡◌, ◌∙◌, ◌++◌, ◌∷◌, ap, sym, ℕ, List, false, rules, string_bytes, append-nil}
use Rattle.std.proofs.lemmas.Grind.{flat_map-append}
use Rattle.fx_algebra.specs.Printed.{Word, form_words, group_words, order_words, query_words, spaced, spelling}
use Rattle.fx_algebra.specs.Scopes.{scope}
use Rattle.fx_algebra.specs.declared.queries.Form.TheVariants.{Select}
use Rattle.fx_algebra.specs.declared.queries.Group.{Group}
use Rattle.fx_traffic.specs.Traffic.{service_query}
use Rattle.fx_services.proofs.services.text_of.Goals as goal

words_are : (g : Group) → query_words (service_query g) ≡ form_words (Select false (scope g)) ++ group_words g
unfolding query_words order_words
words_are g = ap (λ (v : List Word). form_words (Select false (scope g)) ++ v) (append-nil (group_words g))

said : (g : Group) (text : List ℕ) → text ≡ spaced (form_words (Select false (scope g))) ++ spaced (group_words g) → text ≡ spaced (query_words (service_query g))
said g text h =
    h
    ∙ sym (flat_map-append (λ (word : Word). 32 ∷ spelling word) (form_words (Select false (scope g))) (group_words g))
    ∙ ap spaced (sym (words_are g))

pub returns : goal.returns
returns c =
    let g = c.args.group.now in
    let pushed : string_bytes c.push_group.new.text ≡ spaced (form_words (Select false c.args.columns.now)) ++ spaced (group_words g) = search rules in
    c.without_the_first_space.ensures.words (query_words (service_query g))
    (said g (string_bytes c.push_group.new.text) (pushed ∙ ap (λ (v : List (List ℕ)). spaced (form_words (Select false v)) ++ spaced (group_words g)) c.requires))
