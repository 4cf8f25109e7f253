use Rattle.std.proofs.Common.{List, sym, ap, ◌∙◌, length, arith}
use Rattle.xdp_maps.specs.declared.decl.MapDecl.{MapDecl}
use Rattle.capture_run.specs.States.{ShelfState, state_of}
use Rattle.ehdl_top.specs.declared.error.CommandError.TheVariants as error
use Rattle.ehdl_top.specs.Steps.{FinishesSim}
use Rattle.capture_run.proofs.StateLaws.{changes_none}
use Rattle.ehdl_top.proofs.SimulationLemmas.{dump_over}
use Rattle.ehdl_top.proofs.SimLemmas.{by_err, finish_out, finish_stops, finish_unwritten, finish_done}
use Rattle.ehdl_top.proofs.sim.finish_sim.Goals as goal

pub returns-in_err-end : goal.returns-in_err-end
returns-in_err-end g c =
    let d = g.C.Clocked.netlist c.args.sim.now in
    let s = g.C.Clocked.stored c.args.sim.now in
    let old : ShelfState = state_of g.S.Shelf c.args.shelf.now in
    by_err c.from_residual.result (λ r. FinishesSim c.args.name.now d s c.args.decls.now r old old) error.NoMemory c.from_residual.ensures.1
    (λ e is. finish_out c.args.name.now d s c.args.decls.now e old old is (changes_none old))

pub returns-in_err-maps : goal.returns-in_err-maps
returns-in_err-maps g c =
    let d = g.C.Clocked.netlist c.args.sim.now in
    let s = g.C.Clocked.stored c.args.sim.now in
    let old : ShelfState = state_of g.S.Shelf c.args.shelf.now in
    by_err c.from_residual-in_err-maps.result (λ r. FinishesSim c.args.name.now d s c.args.decls.now r old old) c.in_err-maps.field-0.0 c.from_residual-in_err-maps.ensures.1
    (λ e is. finish_stops c.args.name.now d s c.args.decls.now c.in_err-maps.field-0.0 e old old is (sym c.in_err-maps.was ∙ c.in_ok-end.ensures) (changes_none old))

pub write_maps_text-requires : goal.write_maps_text-requires
write_maps_text-requires g c =
    let d = g.C.Clocked.netlist c.args.sim.now in
    let s = g.C.Clocked.stored c.args.sim.now in
    let over = dump_over d s c.args.decls.now c.in_ok-maps.maps (sym c.in_ok-end.ensures ∙ c.in_ok-maps.was) in
    omega (arith, c.requires.few, ap (λ (ds : List MapDecl). length ds) over)

pub returns-in_err-text : goal.returns-in_err-text
returns-in_err-text g c =
    let d = g.C.Clocked.netlist c.args.sim.now in
    let s = g.C.Clocked.stored c.args.sim.now in
    let old : ShelfState = state_of g.S.Shelf c.args.shelf.now in
    by_err c.from_residual-in_err-text.result (λ r. FinishesSim c.args.name.now d s c.args.decls.now r old old) error.NoMemory c.from_residual-in_err-text.ensures.1
    (λ e is. finish_out c.args.name.now d s c.args.decls.now e old old is (changes_none old))

pub returns-in_err-put_file : goal.returns-in_err-put_file
returns-in_err-put_file g c =
    let d = g.C.Clocked.netlist c.args.sim.now in
    let s = g.C.Clocked.stored c.args.sim.now in
    let old : ShelfState = state_of g.S.Shelf c.args.shelf.now in
    let new : ShelfState = state_of g.S.Shelf c.put_file.new.shelf in
    by_err c.from_residual-in_err-put_file.result (λ r. FinishesSim c.args.name.now d s c.args.decls.now r old new) error.WriteFault c.from_residual-in_err-put_file.ensures.1
    (λ e is. finish_unwritten c.args.name.now d s c.args.decls.now c.in_ok-maps.maps c.deref.result.now e old new is (sym c.in_ok-maps.was ∙ c.in_ok-end.ensures) (c.deref.ensures.value ∙ c.in_ok-text.ensures) c.in_err-put_file.ensures.failed)

pub returns : goal.returns
returns g c =
    let d = g.C.Clocked.netlist c.args.sim.now in
    let s = g.C.Clocked.stored c.args.sim.now in
    finish_done c.args.name.now d s c.args.decls.now c.in_ok-maps.maps c.deref.result.now (state_of g.S.Shelf c.args.shelf.now) (state_of g.S.Shelf c.put_file.new.shelf) (sym c.in_ok-maps.was ∙ c.in_ok-end.ensures) (c.deref.ensures.value ∙ c.in_ok-text.ensures) c.in_ok-put_file.ensures.done
