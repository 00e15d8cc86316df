use Rattle.std.proofs.Common.{◌≡◌, get_or, arith}
use Rattle.std.proofs.lemmas.Str.{IsCharBoundary-after_ascii}
use Rattle.fx_ntriples.proofs.lines.object.Goals as goal

pub quoted-requires : goal.quoted-requires
quoted-requires c =
    let sign : get_or c.args.line.now c.args.at 0 ≡ 34 = cc in
    IsCharBoundary-after_ascii c.args.line.now c.args.at c.utf8.line (omega arith) (omega arith)
