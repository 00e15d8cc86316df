use Rattle.std.proofs.Common.{◌≡◌, ◌∙◌, ℕ, List, ◌∷◌, [], ◌++◌, sym, ap, subst, refl, rules}
use Rattle.std.specs.List.{list_any}
use Rattle.fx_http.specs.RequestHeads.{is_of_line, HasNoHeadYet, BeginsWithSome, IsWholeHead}
use Rattle.fx_http.proofs.HeadSteps.{headless_nil, headless_open, whole_head, begun_more, came_more, came_none, one_more, shut_here, headless_ended, headless_never, headless_long, head_part, head_part_more, on_err}
use Rattle.fx_http.proofs.ReadingLemmas.{rest_one}
use Rattle.fx_http.proofs.request_heads.read_head.Goals as goal

pub loop-source-init : goal.loop-source-init
loop-source-init g c =
    let none : c.new-bytes.result.items ≡ [] = c.new-bytes.ensures.items in
    record {
      within = search rules;
      begun = sym (ap (list_any is_of_line) none);
      headless = subst HasNoHeadYet (sym none) headless_nil;
      came = λ t. sym (ap (λ (bs : List ℕ). bs ++ g.S.Ends.left c.args.source.now) none);
      faultless = refl;
      held = λ t. refl;
      writes = refl;
    }

pub returns-in_err-extend_from_slice-clause-rest : goal.returns-in_err-extend_from_slice-clause-rest
returns-in_err-extend_from_slice-clause-rest g c t =
    let bytes = c.loop-source.bytes.items in
    rest_one 65536 _ (bytes ++ c.in-Some.byte ∷ []) _
    (came_more _ bytes _ _ c.in_ok-byte.field-0 c.in-Some.byte (c.loop-source.invariant.came t) c.in-Some.is (c.in_ok-byte.ensures.taken t))
    (one_more bytes c.in-Some.byte 65536 (search rules))

pub returns-in-Head-clause-head : goal.returns-in-Head-clause-head
returns-in-Head-clause-head g c =
    let bytes = c.loop-source.bytes.items in
    let b = c.in-Some.byte in
    let now : c.extend_from_slice.new.self.items ≡ bytes ++ b ∷ [] = c.in_ok-extend_from_slice.ensures.items in
    let seen : BeginsWithSome (bytes ++ b ∷ []) = subst BeginsWithSome now (subst BeginsWithSome c.deref-then-may_end.ensures.value c.in-Head.ensures) in
    subst IsWholeHead (sym now) (whole_head bytes b c.loop-source.invariant.headless seen (one_more bytes b 65536 (search rules)))

pub loop-source-preserved : goal.loop-source-preserved
loop-source-preserved g c =
    let bytes = c.loop-source.bytes.items in
    let b = c.in-Some.byte in
    let now : c.extend_from_slice.new.self.items ≡ bytes ++ b ∷ [] = c.in_ok-extend_from_slice.ensures.items in
    let i = c.loop-source.invariant in
    let e = c.in_ok-byte.ensures in
    let begun : c.has_begun-begun.result ≡ list_any is_of_line (bytes ++ b ∷ []) = c.has_begun-begun.ensures ∙ begun_more bytes b c.loop-source.begun i.begun in
    let shut = shut_here (bytes ++ b ∷ []) c.deref.result.now c.has_begun-begun.result c.may_end.result begun (c.deref.ensures.value ∙ now) c.may_end.ensures c.if-may_end.false in
    record {
      within = search rules;
      begun = begun ∙ ap (list_any is_of_line) (sym now);
      headless = subst HasNoHeadYet (sym now) (headless_open bytes b i.headless shut);
      came = λ t. came_more _ bytes _ _ c.in_ok-byte.field-0 b (i.came t) c.in-Some.is (e.taken t) ∙ ap (λ (bs : List ℕ). bs ++ g.S.Ends.left c.read_byte.new.source) (sym now);
      faultless = e.faultless ∙ i.faultless;
      held = λ t. e.held t ∙ i.held t;
      writes = e.writes ∙ i.writes;
    }

pub returns-clause-refused : goal.returns-clause-refused
returns-clause-refused g c t =
    headless_long _ c.loop-source.bytes.items _ c.loop-source.invariant.headless (c.loop-source.invariant.came t) (search rules)

pub returns-in_err-byte-clause-stopped : goal.returns-in_err-byte-clause-stopped
returns-in_err-byte-clause-stopped g c t =
    let bytes = c.loop-source.bytes.items in
    let i = c.loop-source.invariant in
    let same : g.S.Ends.left c.read_byte.new.source ≡ g.S.Ends.left c.loop-source.source = c.in_err-byte.ensures.unread t in
    on_err c.from_residual.result _
    (head_part _ bytes _ i.headless (i.came t ∙ sym (ap (λ (bs : List ℕ). bytes ++ bs) same)) (search rules))

pub returns-in_err-extend_from_slice-clause-stopped : goal.returns-in_err-extend_from_slice-clause-stopped
returns-in_err-extend_from_slice-clause-stopped g c t =
    let bytes = c.loop-source.bytes.items in
    on_err c.from_residual-in_err-extend_from_slice.result _
    (head_part_more _ bytes _ c.in-Some.byte c.loop-source.invariant.headless
    (came_more _ bytes _ _ c.in_ok-byte.field-0 c.in-Some.byte (c.loop-source.invariant.came t) c.in-Some.is (c.in_ok-byte.ensures.taken t))
    (search rules))

pub returns-clause-stopped : goal.returns-clause-stopped
returns-clause-stopped g c t =
    let i = c.loop-source.invariant in
    head_part _ c.loop-source.bytes.items _ i.headless (i.came t) (search rules)

pub returns-in_err-byte-clause-rest : goal.returns-in_err-byte-clause-rest
returns-in_err-byte-clause-rest g c t =
    let bytes = c.loop-source.bytes.items in
    rest_one 65536 _ bytes _ (c.loop-source.invariant.came t ∙ sym (ap (λ (bs : List ℕ). bytes ++ bs) (c.in_err-byte.ensures.unread t))) (search rules)

pub returns-in_default-clause-refused : goal.returns-in_default-clause-refused
returns-in_default-clause-refused g c t = headless_ended _ c.loop-source.bytes.items _ c.loop-source.invariant.headless (c.loop-source.invariant.came t) (c.in_ok-byte.ensures.ends t c.in_default.is)

pub returns-in_default-clause-rest : goal.returns-in_default-clause-rest
returns-in_default-clause-rest g c t =
    let bytes = c.loop-source.bytes.items in
    rest_one 65536 _ bytes _ (came_none _ bytes _ _ c.in_ok-byte.field-0 (c.loop-source.invariant.came t) c.in_default.is (c.in_ok-byte.ensures.taken t)) (search rules)

pub returns-in_default-clause-stopped : goal.returns-in_default-clause-stopped
returns-in_default-clause-stopped g c t =
    let bytes = c.loop-source.bytes.items in
    head_part _ bytes _ c.loop-source.invariant.headless (came_none _ bytes _ _ c.in_ok-byte.field-0 (c.loop-source.invariant.came t) c.in_default.is (c.in_ok-byte.ensures.taken t)) (search rules)

pub returns-in-Head-clause-rest : goal.returns-in-Head-clause-rest
returns-in-Head-clause-rest g c t =
    let bytes = c.loop-source.bytes.items in
    rest_one 65536 _ (bytes ++ c.in-Some.byte ∷ []) _
    (came_more _ bytes _ _ c.in_ok-byte.field-0 c.in-Some.byte (c.loop-source.invariant.came t) c.in-Some.is (c.in_ok-byte.ensures.taken t))
    (one_more bytes c.in-Some.byte 65536 (search rules))

pub returns-in-Head-clause-taken : goal.returns-in-Head-clause-taken
returns-in-Head-clause-taken g c t =
    let bytes = c.loop-source.bytes.items in
    came_more _ bytes _ _ c.in_ok-byte.field-0 c.in-Some.byte (c.loop-source.invariant.came t) c.in-Some.is (c.in_ok-byte.ensures.taken t)
    ∙ ap (λ (bs : List ℕ). bs ++ g.S.Ends.left c.read_byte.new.source) (sym c.in_ok-extend_from_slice.ensures.items)

pub returns-in-Never-clause-refused : goal.returns-in-Never-clause-refused
returns-in-Never-clause-refused g c t =
    let bytes = c.loop-source.bytes.items in
    headless_never _ (bytes ++ c.in-Some.byte ∷ []) _
    (subst (λ (bs : List ℕ). (more : List ℕ) → HasNoHeadYet (bs ++ more)) (c.deref-then-may_end.ensures.value ∙ c.in_ok-extend_from_slice.ensures.items) c.in-Never.ensures)
    (came_more _ bytes _ _ c.in_ok-byte.field-0 c.in-Some.byte (c.loop-source.invariant.came t) c.in-Some.is (c.in_ok-byte.ensures.taken t))

pub returns-in-Never-clause-rest : goal.returns-in-Never-clause-rest
returns-in-Never-clause-rest g c t =
    let bytes = c.loop-source.bytes.items in
    rest_one 65536 _ (bytes ++ c.in-Some.byte ∷ []) _
    (came_more _ bytes _ _ c.in_ok-byte.field-0 c.in-Some.byte (c.loop-source.invariant.came t) c.in-Some.is (c.in_ok-byte.ensures.taken t))
    (one_more bytes c.in-Some.byte 65536 (search rules))

pub returns-in-Never-clause-stopped : goal.returns-in-Never-clause-stopped
returns-in-Never-clause-stopped g c t =
    let bytes = c.loop-source.bytes.items in
    head_part_more _ bytes _ c.in-Some.byte c.loop-source.invariant.headless
    (came_more _ bytes _ _ c.in_ok-byte.field-0 c.in-Some.byte (c.loop-source.invariant.came t) c.in-Some.is (c.in_ok-byte.ensures.taken t))
    (search rules)

pub returns-clause-rest : goal.returns-clause-rest
returns-clause-rest g c t = rest_one 65536 _ c.loop-source.bytes.items _ (c.loop-source.invariant.came t) (search rules)

pub loop-source-preserved-in-Open : goal.loop-source-preserved-in-Open
loop-source-preserved-in-Open g c =
    let bytes = c.loop-source.bytes.items in
    let b = c.in-Some.byte in
    let now : c.extend_from_slice.new.self.items ≡ bytes ++ b ∷ [] = c.in_ok-extend_from_slice.ensures.items in
    let i = c.loop-source.invariant in
    let e = c.in_ok-byte.ensures in
    record {
      within = search rules;
      begun = c.has_begun-begun.ensures ∙ begun_more bytes b c.loop-source.begun i.begun ∙ ap (list_any is_of_line) (sym now);
      headless = subst HasNoHeadYet c.deref-then-may_end.ensures.value c.in-Open.ensures;
      came = λ t. came_more _ bytes _ _ c.in_ok-byte.field-0 b (i.came t) c.in-Some.is (e.taken t) ∙ ap (λ (bs : List ℕ). bs ++ g.S.Ends.left c.read_byte.new.source) (sym now);
      faultless = e.faultless ∙ i.faultless;
      held = λ t. e.held t ∙ i.held t;
      writes = e.writes ∙ i.writes;
    }
