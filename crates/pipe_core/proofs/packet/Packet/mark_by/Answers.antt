use Rattle.std.proofs.Common.{sym, subst}
use Rattle.hazard_core.specs.cell_core.View.{program_of}
use Rattle.pipe_core.specs.Planned.{IsPacketOf}
use Rattle.pipe_core.proofs.Fitting.{marked_of}
use Rattle.pipe_core.proofs.packet.Packet.mark_by.Goals as goal

pub returns-clause-of : goal.returns-clause-of
returns-clause-of c =
    let p = program_of c.args.planned.now.program.now in
    marked_of p (record { held = c.self.inside.held; marks = c.self.inside.marks.items }) _ (subst (IsPacketOf p) (sym c.self.view_is) c.requires.of) c.mark_by_marks.ensures.count
