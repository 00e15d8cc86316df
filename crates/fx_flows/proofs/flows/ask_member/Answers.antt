use Rattle.std.proofs.Common.{◌≡◌, refl, sym, subst, length, List, [], Some, Ok, slice_get}
use Rattle.std.proofs.lemmas.List.Elements.{All-from_recursion}
use Rattle.std.proofs.lemmas.Option.{slice_get_read}
use Rattle.fx_founds.specs.declared.founds.Found.{Found}
use Rattle.fx_outside.proofs.AlikeLemmas.{alike}
use Rattle.fx_flows.specs.Flows.{AskedMember}
use Rattle.fx_pool.specs.Posting.{IsHonestAt, failures_of}
use Rattle.fx_flows.proofs.MemberLemmas.{asked_in_vain, asked_member, asked_nothing, counted_at_most}
use Rattle.fx_flows.proofs.flows.ask_member.Goals as goal

pub returns-in-None : goal.returns-in-None
returns-in-None g c =
    let see = g.W.Wire.seen c.args.wire.now in
    let es = c.args.endpoints.now in
    let e = c.index-endpoints-at.result in
    let found : slice_get es c.args.at ≡ Some e = slice_get_read es (length es) c.args.at e refl c.requires.within.below c.index-endpoints-at.is in
    subst (λ (v : List Found). AskedMember g.W.Wire.counts_alone see see es c.args.forms.now.parts c.args.at (Ok v)) (sym c.new.ensures)
    (asked_nothing g.W.Wire.counts_alone es c.args.forms.now.parts c.args.at e found see c.in-None.ensures.exact)

pub returns-in-Err : goal.returns-in-Err
returns-in-Err g c =
    let see = g.W.Wire.seen in
    let es = c.args.endpoints.now in
    let e = c.index-endpoints-at.result in
    let found : slice_get es c.args.at ≡ Some e = slice_get_read es (length es) c.args.at e refl c.requires.within.below c.index-endpoints-at.is in
    asked_in_vain g.W.Wire.counts_alone es c.args.forms.now.parts c.args.at e found (see c.args.wire.now) (see c.post.new.wire) c.in-Some.text.now c.in-Some.ensures.exact c.in-Some.ensures.known c.in-Some.ensures.accepted
    (record { logged = c.in-Err.ensures.logged; honest = All-from_recursion (IsHonestAt (g.W.Wire.seen c.args.wire.now).graph) [] tt; same = c.in-Err.ensures.same; tells = alike g.met.W.Wire.told c.post.new.wire c.args.wire.now; kept = c.in-Err.ensures.kept; counted = counted_at_most g.W.Wire.counts_alone (see c.args.wire.now) (see c.post.new.wire) e.iri 0 c.in-Err.ensures.counted c.in-Err.ensures.others })

pub returns-in-Ok : goal.returns-in-Ok
returns-in-Ok g c =
    let see = g.W.Wire.seen in
    let es = c.args.endpoints.now in
    let e = c.index-endpoints-at.result in
    let found : slice_get es c.args.at ≡ Some e = slice_get_read es (length es) c.args.at e refl c.requires.within.below c.index-endpoints-at.is in
    asked_member g.W.Wire.counts_alone es c.args.forms.now.parts c.args.at e found (see c.args.wire.now) (see c.post.new.wire) c.in-Some.text.now c.in-Some.ensures.exact c.in-Some.ensures.known c.in-Some.ensures.accepted c.in-Ok.posted c.found_by.result c.in-Ok.ensures.posted
    (record { logged = c.in-Ok.ensures.logged; honest = c.in-Ok.ensures.honest; same = c.in-Ok.ensures.same; tells = alike g.met.W.Wire.told c.post.new.wire c.args.wire.now; kept = c.in-Ok.ensures.kept; counted = counted_at_most g.W.Wire.counts_alone (see c.args.wire.now) (see c.post.new.wire) e.iri (failures_of c.in-Ok.posted) c.in-Ok.ensures.counted c.in-Ok.ensures.others }) c.in-Ok.ensures.counted c.found_by.ensures

pub text-requires : goal.text-requires
text-requires g c =
    let es = c.args.endpoints.now in
    let e = c.index-endpoints-at.result in
    c.requires.within.formed e (slice_get_read es (length es) c.args.at e refl c.requires.within.below c.index-endpoints-at.is)

pub found_by-requires : goal.found_by-requires
found_by-requires g c =
    let es = c.args.endpoints.now in
    let e = c.index-endpoints-at.result in
    c.requires.within.formed e (slice_get_read es (length es) c.args.at e refl c.requires.within.below c.index-endpoints-at.is)
