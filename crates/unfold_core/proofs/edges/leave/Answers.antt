use Rattle.unfold_core.proofs.Leaving.{leaves_edges, leaves_refused, leaves_nothing}
use Rattle.unfold_core.proofs.edges.leave.Goals as goal

pub returns-in-Ok : goal.returns-in-Ok
returns-in-Ok c =
    leaves_edges c.args.program.now c.args.loops.now c.args.number c.args.at.now c.args.units.now c.place-place.result c.in-Some.insn.now c.decls.result.now c.in-Ok.field-0 c.edges_of.result c.requires.are c.place-place.ensures c.in-Some.ensures.found
    c.decls.ensures.decls c.in-Ok.ensures c.edges_of.ensures

pub returns-in-Err : goal.returns-in-Err
returns-in-Err c =
    leaves_refused c.args.program.now c.args.loops.now c.args.number c.args.at.now c.args.units.now c.place-place.result c.in-Some.insn.now c.decls.result.now c.in-Err.why c.refused.result c.requires.are c.place-place.ensures
    c.in-Some.ensures.found c.decls.ensures.decls c.in-Err.ensures c.refused.ensures

pub returns-in-None : goal.returns-in-None
returns-in-None c = leaves_nothing c.args.program.now c.args.loops.now c.args.number c.args.at.now c.args.units.now c.place-place.result c.refused-in-None.result c.requires.are c.place-place.ensures c.in-None.ensures.found c.refused-in-None.ensures
