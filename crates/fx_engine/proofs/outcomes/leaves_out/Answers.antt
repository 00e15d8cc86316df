use Rattle.fx_engine.proofs.RoundLemmas.{of_bad_reply, of_long_text, of_member}
use Rattle.fx_engine.proofs.outcomes.leaves_out.Goals as goal

pub returns-in-Member : goal.returns-in-Member
returns-in-Member c = of_member c.args.endpoints.now c.args.error.now c.in-Member.at c.index-endpoints-at.result c.is_optional.result c.in-Member.is c.requires c.index-endpoints-at.is c.is_optional.ensures

pub returns-in-BadReply : goal.returns-in-BadReply
returns-in-BadReply c =
    of_bad_reply c.args.endpoints.now c.args.error.now c.in-BadReply.at c.in-BadReply.bad c.index-endpoints-at-in-BadReply.result c.is_optional-in-BadReply.result c.in-BadReply.is c.requires c.index-endpoints-at-in-BadReply.is c.is_optional-in-BadReply.ensures

pub returns-in-RequestTooLong : goal.returns-in-RequestTooLong
returns-in-RequestTooLong c =
    of_long_text c.args.endpoints.now c.args.error.now c.in-RequestTooLong.at c.in-RequestTooLong.length c.index-endpoints-at-in-RequestTooLong.result c.is_optional-in-RequestTooLong.result c.in-RequestTooLong.is c.requires c.index-endpoints-at-in-RequestTooLong.is
    c.is_optional-in-RequestTooLong.ensures
