use Rattle.fx_turtle.proofs.Documented.{one_document_holds}
use Rattle.fx_turtle.proofs.laws.one_document.Goals as goal

pub returns : goal.returns
returns c = one_document_holds
