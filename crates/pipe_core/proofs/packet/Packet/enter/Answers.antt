use Rattle.std.proofs.Common.{sym, subst}
use Rattle.hazard_core.specs.cell_core.View.{program_of}
use Rattle.pipe_core.specs.Planned.{IsPacketOf}
use Rattle.pipe_core.proofs.Fitting.{made_of}
use Rattle.pipe_core.proofs.packet.Packet.enter.Goals as goal

pub returns-clause-of : goal.returns-clause-of
returns-clause-of c =
    let p = program_of c.args.planned.now.program.now in
    made_of p _ _ _ _ (record { held = c.self.inside.held; marks = c.self.inside.marks.items }) _ _ (subst (IsPacketOf p) (sym c.self.view_is) c.requires.of) c.take_row.ensures c.keep_marks.ensures.count
