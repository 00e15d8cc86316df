use Rattle.std.proofs.Common.{◌≡◌, ◌∙◌, sym, subst, List, ℕ, [], ◌∷◌}
use Rattle.std.proofs.lemmas.List.Elements.{All-from_recursion}
use Rattle.fx_wire.specs.Exchanges.{exchanged}
use Rattle.fx_pool.specs.Posting.{IsHonestAt}
use Rattle.fx_pool.proofs.posting.post.Goals as goal

pub returns-in-Ok-clause-honest : goal.returns-in-Ok-clause-honest
returns-in-Ok-clause-honest g c =
    let graph = (g.W.Wire.seen c.args.wire.now).graph in
    let e = c.args.at.now in
    let request : c.as_slice.result.now ≡ c.from_vec.result = c.as_slice.ensures.value ∙ sym c.from_vec.ensures in
    let reply : c.in-Ok.reply.items ≡ c.from_vec-in-Ok.result = sym c.from_vec-in-Ok.ensures in
    All-from_recursion (IsHonestAt graph) (exchanged e c.from_vec.result c.from_vec-in-Ok.result ∷ []) (
      subst (λ (v : List ℕ). IsHonestAt graph (exchanged e v c.from_vec-in-Ok.result)) request
          (subst (λ (v : List ℕ). IsHonestAt graph (exchanged e c.as_slice.result.now v)) reply c.in-Ok.ensures.honest),
      tt,
    )
