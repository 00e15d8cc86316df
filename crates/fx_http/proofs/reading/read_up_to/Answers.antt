use Rattle.std.proofs.Common.{◌≡◌, ◌<◌, ◌≤◌, ◌∙◌, ◌++◌, ℕ, List, ap, sym, length, take, arith, rules}
use Rattle.fx_http.proofs.ReadingLemmas.{came_piece, rest_none, rest_one, rest_two, taken_all, taken_ended}
use Rattle.fx_http.proofs.reading.read_up_to.Goals as goal

pub returns-in_err-extend_from_slice-clause-rest : goal.returns-in_err-extend_from_slice-clause-rest
returns-in_err-extend_from_slice-clause-rest g c t =
    let taken = c.in_ok-count.ensures.taken t in
    let few : c.in_ok-count.count ≤ c.room_for-room.result = search rules in
    rest_two c.args.most _ c.loop-buffer.bytes.items _ _ c.in_ok-count.count (c.loop-buffer.invariant.came t) taken.2 (omega arith)

pub returns-clause-read : goal.returns-clause-read
returns-clause-read g c t = taken_all c.args.most _ c.loop-buffer.bytes.items _ (c.loop-buffer.invariant.came t) (omega arith)

pub returns-clause-rest : goal.returns-clause-rest
returns-clause-rest g c t = rest_one c.args.most _ c.loop-buffer.bytes.items _ (c.loop-buffer.invariant.came t) (omega arith)

pub returns-in_err-count-clause-rest : goal.returns-in_err-count-clause-rest
returns-in_err-count-clause-rest g c t =
    rest_one c.args.most _ c.loop-buffer.bytes.items _ (c.loop-buffer.invariant.came t ∙ ap (λ (bs : List ℕ). c.loop-buffer.bytes.items ++ bs) (sym (c.in_err-count.ensures.unread t))) (omega arith)

pub returns-then-count-eq0-clause-read : goal.returns-then-count-eq0-clause-read
returns-then-count-eq0-clause-read g c t =
    let e = c.in_ok-count.ensures in
    let some : 0 < c.room_for-room.result = c.room_for-room.ensures.some (omega arith) in
    let piece : 0 < length (take c.room_for-room.result c.loop-buffer.buffer) = search rules in
    taken_ended c.args.most c.in_ok-count.count _ c.loop-buffer.bytes.items _ _ (c.loop-buffer.invariant.came t) (e.ends t piece c.if-count-eq0.true) (e.taken t).2 (omega arith)

pub returns-then-count-eq0-clause-rest : goal.returns-then-count-eq0-clause-rest
returns-then-count-eq0-clause-rest g c t =
    rest_two c.args.most _ c.loop-buffer.bytes.items _ _ c.in_ok-count.count (c.loop-buffer.invariant.came t) (c.in_ok-count.ensures.taken t).2 (omega arith)

pub loop-buffer-preserved : goal.loop-buffer-preserved
loop-buffer-preserved g c =
    let e = c.in_ok-count.ensures in
    let i = c.loop-buffer.invariant in
    let few : c.in_ok-count.count ≤ c.room_for-room.result = search rules in
    let now = c.in_ok-extend_from_slice.ensures.items in
    record {
      within = search rules;
      came = λ t. came_piece _ c.loop-buffer.bytes.items _ _ _ _ c.in_ok-count.count (i.came t) (e.taken t).1 (e.taken t).2 now;
      faultless = e.faultless ∙ i.faultless;
      held = λ t. e.held t ∙ i.held t;
      writes = e.writes ∙ i.writes;
    }
