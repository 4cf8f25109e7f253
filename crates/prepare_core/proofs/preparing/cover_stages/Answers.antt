use Rattle.prepare_core.proofs.Giving.{cover_of}
use Rattle.prepare_core.proofs.preparing.cover_stages.Goals as goal

pub returns-then-branch : goal.returns-then-branch
returns-then-branch c =
    let covers = c.in_ok-covers.ensures in
    let yes = c.if-branch.true in
    cover_of c.args.a.now c.args.b.now c.in-Ok.counted c.in-Ok.ensures.counted (covers.exactly.0 yes).decls (covers.runs yes)
