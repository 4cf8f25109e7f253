use Rattle.std.proofs.Common.{◌≤◌, All, List, Ok, Err, length, refl, sym, ◌∙◌, subst}
use Rattle.net_core.specs.Nets.{Netlist}
use Rattle.net_core.specs.Clock.{first_stored}
use Rattle.verilog_read.specs.design_rules.Formed.{IsWellFormed}
use Rattle.xdp_maps.specs.declared.decl.MapDecl.{MapDecl}
use Rattle.xdp_maps.specs.Contents.{IsWithinLimits}
use Rattle.port_drive.specs.realization.HostHistory.Host.{load}
use Rattle.command_line.specs.Request.{Names, names_of}
use Rattle.capture_run.specs.States.{ShelfState, state_of}
use Rattle.capture_run.specs.Results.{timed_packets}
use Rattle.ehdl_top.specs.declared.error.CommandError.{CommandError}
use Rattle.ehdl_top.specs.declared.error.CommandError.TheVariants as error
use Rattle.ehdl_top.specs.Steps.{IsGivenUpDrive, IsOver, WritesSim, written_names}
use Rattle.capture_run.proofs.StateLaws.{changes_none}
use Rattle.ehdl_top.proofs.SimulationLemmas.{load_goes, load_stops, load_inside}
use Rattle.ehdl_top.proofs.SimLemmas.{by_err, over_out, over_wider, over_unbegun, over_unloaded, finish_over, head_as, head_failed, write_out, write_unbegun, write_unloaded, write_unstreamed, write_finished}
use Rattle.ehdl_top.proofs.sim.write_sim.Goals as goal
use Rattle.ehdl_top.proofs.StreamLemmas.{over_then}

pub returns-in_err-behind-clause-told : goal.returns-in_err-behind-clause-told
returns-in_err-behind-clause-told g c = λ told packets holds count.
    let names : Names = names_of c.args.files.now in
    let old : ShelfState = state_of g.S.Shelf c.args.shelf.now in
    let d = g.C.Clocked.netlist c.args.sim.now in
    by_err c.from_residual.result (λ r. WritesSim names d c.args.maps.now c.args.driver.now.ifindex c.args.driver.now.limit c.args.survey.now.stream.magic packets r old old) error.NoMemory c.from_residual.ensures.1
    (λ e is. write_out names d c.args.maps.now c.args.driver.now.ifindex c.args.driver.now.limit c.args.survey.now.stream.magic packets e old old is (changes_none old))

pub returns-in_err-behind-clause-over : goal.returns-in_err-behind-clause-over
returns-in_err-behind-clause-over g c =
    let names : Names = names_of c.args.files.now in
    let old : ShelfState = state_of g.S.Shelf c.args.shelf.now in
    by_err c.from_residual.result (λ r. IsOver IsGivenUpDrive names.capture (written_names names) r old old) error.NoMemory c.from_residual.ensures.1
    (λ e is. over_out IsGivenUpDrive names.capture (written_names names) e old old is (changes_none old))

pub returns-in_err-room-clause-told : goal.returns-in_err-room-clause-told
returns-in_err-room-clause-told g c = λ told packets holds count.
    let names : Names = names_of c.args.files.now in
    let old : ShelfState = state_of g.S.Shelf c.args.shelf.now in
    let d = g.C.Clocked.netlist c.args.sim.now in
    by_err c.from_residual-in_err-room.result (λ r. WritesSim names d c.args.maps.now c.args.driver.now.ifindex c.args.driver.now.limit c.args.survey.now.stream.magic packets r old old) error.NoMemory c.from_residual-in_err-room.ensures.1
    (λ e is. write_out names d c.args.maps.now c.args.driver.now.ifindex c.args.driver.now.limit c.args.survey.now.stream.magic packets e old old is (changes_none old))

pub returns-in_err-room-clause-over : goal.returns-in_err-room-clause-over
returns-in_err-room-clause-over g c =
    let names : Names = names_of c.args.files.now in
    let old : ShelfState = state_of g.S.Shelf c.args.shelf.now in
    by_err c.from_residual-in_err-room.result (λ r. IsOver IsGivenUpDrive names.capture (written_names names) r old old) error.NoMemory c.from_residual-in_err-room.ensures.1
    (λ e is. over_out IsGivenUpDrive names.capture (written_names names) e old old is (changes_none old))

pub give_up-requires : goal.give_up-requires
give_up-requires g c =
    load_inside (g.C.Clocked.netlist c.args.sim.now) c.args.maps.now (g.C.Clocked.netlist c.load.new.sim) (g.C.Clocked.stored c.args.sim.now) (g.C.Clocked.stored c.load.new.sim) c.load.result c.in-Err.error c.requires.formed c.in-Err.is c.load.ensures.clocks c.requires.first c.load.ensures.netlist

pub stream_sim-requires-clause-formed : goal.stream_sim-requires-clause-formed
stream_sim-requires-clause-formed g c = let P : Netlist → Type 0 = IsWellFormed in subst P (sym c.load.ensures.netlist) c.requires.formed

pub finish_sim-requires-clause-formed : goal.finish_sim-requires-clause-formed
finish_sim-requires-clause-formed g c = let P : Netlist → Type 0 = IsWellFormed in subst P (sym (c.stream_sim.ensures.netlist ∙ c.load.ensures.netlist)) c.requires.formed

pub finish_sim-requires-clause-limits : goal.finish_sim-requires-clause-limits
finish_sim-requires-clause-limits g c = subst (λ (ds : List MapDecl). All IsWithinLimits ds) (sym c.decls-decls.ensures.decls) c.requires.limits

pub finish_sim-requires-clause-few : goal.finish_sim-requires-clause-few
finish_sim-requires-clause-few g c = subst (λ (ds : List MapDecl). length ds ≤ 16) (sym c.decls-decls.ensures.decls) c.requires.few

pub returns-in_err-stream_sim-in-Ok-clause-told : goal.returns-in_err-stream_sim-in-Ok-clause-told
returns-in_err-stream_sim-in-Ok-clause-told g c = λ told packets holds count.
    let names : Names = names_of c.args.files.now in
    let magic = c.args.survey.now.stream.magic in
    let i = c.args.driver.now.ifindex in
    let n = c.args.driver.now.limit in
    let old : ShelfState = state_of g.S.Shelf c.args.shelf.now in
    let new : ShelfState = state_of g.S.Shelf c.stream_sim.new.shelf in
    let d = g.C.Clocked.netlist c.args.sim.now in
    let p = g.C.Clocked.netlist c.load.new.sim in
    let t = g.C.Clocked.stored c.load.new.sim in
    let x : CommandError = c.in_err-stream_sim-in-Ok.field-0.0 in
    let loaded = load_goes d c.args.maps.now i (timed_packets magic packets) n p (g.C.Clocked.stored c.args.sim.now) t c.decls-decls.result.now c.load.result c.in-Ok.field-0 c.in-Ok.is c.load.ensures.clocks c.requires.first c.load.ensures.netlist c.decls-decls.ensures.decls in
    by_err c.from_residual-in_err-stream_sim-in-Ok.result (λ r. WritesSim names d c.args.maps.now i n magic packets r old new) x c.from_residual-in_err-stream_sim-in-Ok.ensures.1
    (λ e is. subst (λ (f : CommandError). WritesSim names d c.args.maps.now i n magic packets (Err f) old new) (sym is)
    (write_unstreamed names d c.args.maps.now i n magic packets p t c.decls-decls.result.now loaded (g.C.Clocked.stored c.stream_sim.new.sim) x old new (c.in_err-stream_sim-in-Ok.ensures.told told packets holds count)))

pub returns-in_err-stream_sim-in-Ok-clause-over : goal.returns-in_err-stream_sim-in-Ok-clause-over
returns-in_err-stream_sim-in-Ok-clause-over g c =
    let names : Names = names_of c.args.files.now in
    let old : ShelfState = state_of g.S.Shelf c.args.shelf.now in
    let new : ShelfState = state_of g.S.Shelf c.stream_sim.new.shelf in
    let x : CommandError = c.in_err-stream_sim-in-Ok.field-0.0 in
    by_err c.from_residual-in_err-stream_sim-in-Ok.result (λ r. IsOver IsGivenUpDrive names.capture (written_names names) r old new) x c.from_residual-in_err-stream_sim-in-Ok.ensures.1
    (λ e is. subst (λ (f : CommandError). IsOver IsGivenUpDrive names.capture (written_names names) (Err f) old new) (sym is) (over_wider IsGivenUpDrive names.capture names (Err x) old new c.in_err-stream_sim-in-Ok.ensures.over))

pub returns-in-Ok-clause-told : goal.returns-in-Ok-clause-told
returns-in-Ok-clause-told g c = λ told packets holds count.
    let names : Names = names_of c.args.files.now in
    let magic = c.args.survey.now.stream.magic in
    let i = c.args.driver.now.ifindex in
    let n = c.args.driver.now.limit in
    let old : ShelfState = state_of g.S.Shelf c.args.shelf.now in
    let mid : ShelfState = state_of g.S.Shelf c.stream_sim.new.shelf in
    let new : ShelfState = state_of g.S.Shelf c.finish_sim.new.shelf in
    let d = g.C.Clocked.netlist c.args.sim.now in
    let p = g.C.Clocked.netlist c.load.new.sim in
    let t = g.C.Clocked.stored c.load.new.sim in
    let loaded = load_goes d c.args.maps.now i (timed_packets magic packets) n p (g.C.Clocked.stored c.args.sim.now) t c.decls-decls.result.now c.load.result c.in-Ok.field-0 c.in-Ok.is c.load.ensures.clocks c.requires.first c.load.ensures.netlist c.decls-decls.ensures.decls in
    write_finished names d c.args.maps.now i n magic packets p t c.decls-decls.result.now loaded (g.C.Clocked.netlist c.stream_sim.new.sim) (g.C.Clocked.stored c.stream_sim.new.sim) c.finish_sim.result old mid new c.stream_sim.ensures.netlist
    (c.in_ok-stream_sim-in-Ok.ensures.told told packets holds count) c.finish_sim.ensures

pub returns-in-Ok-clause-over : goal.returns-in-Ok-clause-over
returns-in-Ok-clause-over g c =
    let names : Names = names_of c.args.files.now in
    let old : ShelfState = state_of g.S.Shelf c.args.shelf.now in
    let mid : ShelfState = state_of g.S.Shelf c.stream_sim.new.shelf in
    let new : ShelfState = state_of g.S.Shelf c.finish_sim.new.shelf in
    over_then IsGivenUpDrive names.capture (written_names names) c.finish_sim.result old mid new (over_wider IsGivenUpDrive names.capture names (Ok tt) old mid c.in_ok-stream_sim-in-Ok.ensures.over).kept
    (finish_over names (g.C.Clocked.netlist c.stream_sim.new.sim) (g.C.Clocked.stored c.stream_sim.new.sim) c.decls-decls.result.now c.finish_sim.result mid new c.finish_sim.ensures)

pub returns-in_err-error-in-Err-clause-told : goal.returns-in_err-error-in-Err-clause-told
returns-in_err-error-in-Err-clause-told g c = λ told packets holds count.
    let names : Names = names_of c.args.files.now in
    let old : ShelfState = state_of g.S.Shelf c.args.shelf.now in
    let d = g.C.Clocked.netlist c.args.sim.now in
    by_err c.from_residual-in_err-error-in-Err.result (λ r. WritesSim names d c.args.maps.now c.args.driver.now.ifindex c.args.driver.now.limit c.args.survey.now.stream.magic packets r old old) error.NoMemory c.from_residual-in_err-error-in-Err.ensures.1
    (λ e is. write_out names d c.args.maps.now c.args.driver.now.ifindex c.args.driver.now.limit c.args.survey.now.stream.magic packets e old old is (changes_none old))

pub returns-in_err-error-in-Err-clause-over : goal.returns-in_err-error-in-Err-clause-over
returns-in_err-error-in-Err-clause-over g c =
    let names : Names = names_of c.args.files.now in
    let old : ShelfState = state_of g.S.Shelf c.args.shelf.now in
    by_err c.from_residual-in_err-error-in-Err.result (λ r. IsOver IsGivenUpDrive names.capture (written_names names) r old old) error.NoMemory c.from_residual-in_err-error-in-Err.ensures.1
    (λ e is. over_out IsGivenUpDrive names.capture (written_names names) e old old is (changes_none old))

pub returns-in_err-begin_results-in-Err-clause-told : goal.returns-in_err-begin_results-in-Err-clause-told
returns-in_err-begin_results-in-Err-clause-told g c = λ told packets holds count.
    let names : Names = names_of c.args.files.now in
    let magic = c.args.survey.now.stream.magic in
    let i = c.args.driver.now.ifindex in
    let n = c.args.driver.now.limit in
    let old : ShelfState = state_of g.S.Shelf c.args.shelf.now in
    let new : ShelfState = state_of g.S.Shelf c.begin_results.new.shelf in
    let d = g.C.Clocked.netlist c.args.sim.now in
    let x : CommandError = c.in_ok-error-in-Err.error in
    let stops = load_stops d c.args.maps.now (g.C.Clocked.netlist c.load.new.sim) (g.C.Clocked.stored c.args.sim.now) (g.C.Clocked.stored c.load.new.sim) c.load.result c.in-Err.error x c.in-Err.is c.load.ensures.clocks c.requires.first c.load.ensures.netlist c.in_ok-error-in-Err.ensures in
    by_err c.from_residual-in_err-begin_results-in-Err.result (λ r. WritesSim names d c.args.maps.now i n magic packets r old new) error.WriteFault c.from_residual-in_err-begin_results-in-Err.ensures.1
    (λ e is. write_unbegun names d c.args.maps.now i n magic packets x e old new stops is (head_failed names c.magic.result magic old new c.magic.ensures c.in_err-begin_results-in-Err.ensures.failed))

pub returns-in_err-begin_results-in-Err-clause-over : goal.returns-in_err-begin_results-in-Err-clause-over
returns-in_err-begin_results-in-Err-clause-over g c =
    let names : Names = names_of c.args.files.now in
    let old : ShelfState = state_of g.S.Shelf c.args.shelf.now in
    let new : ShelfState = state_of g.S.Shelf c.begin_results.new.shelf in
    by_err c.from_residual-in_err-begin_results-in-Err.result (λ r. IsOver IsGivenUpDrive names.capture (written_names names) r old new) error.WriteFault c.from_residual-in_err-begin_results-in-Err.ensures.1
    (λ e is. over_unbegun names c.magic.result e old new is c.in_err-begin_results-in-Err.ensures.failed)

pub returns-clause-told : goal.returns-clause-told
returns-clause-told g c = λ told packets holds count.
    let names : Names = names_of c.args.files.now in
    let magic = c.args.survey.now.stream.magic in
    let old : ShelfState = state_of g.S.Shelf c.args.shelf.now in
    let new : ShelfState = state_of g.S.Shelf c.begin_results.new.shelf in
    let d = g.C.Clocked.netlist c.args.sim.now in
    let x : CommandError = c.in_ok-error-in-Err.error in
    let stops = load_stops d c.args.maps.now (g.C.Clocked.netlist c.load.new.sim) (g.C.Clocked.stored c.args.sim.now) (g.C.Clocked.stored c.load.new.sim) c.load.result c.in-Err.error x c.in-Err.is c.load.ensures.clocks c.requires.first c.load.ensures.netlist c.in_ok-error-in-Err.ensures in
    write_unloaded names d c.args.maps.now c.args.driver.now.ifindex c.args.driver.now.limit magic packets x x old new refl stops (head_as names c.magic.result magic old new c.magic.ensures c.in_ok-begin_results-in-Err.ensures.done)

pub returns-clause-over : goal.returns-clause-over
returns-clause-over g c =
    let names : Names = names_of c.args.files.now in
    let old : ShelfState = state_of g.S.Shelf c.args.shelf.now in
    let new : ShelfState = state_of g.S.Shelf c.begin_results.new.shelf in
    let d = g.C.Clocked.netlist c.args.sim.now in
    let x : CommandError = c.in_ok-error-in-Err.error in
    let stops = load_stops d c.args.maps.now (g.C.Clocked.netlist c.load.new.sim) (g.C.Clocked.stored c.args.sim.now) (g.C.Clocked.stored c.load.new.sim) c.load.result c.in-Err.error x c.in-Err.is c.load.ensures.clocks c.requires.first c.load.ensures.netlist c.in_ok-error-in-Err.ensures in
    over_unloaded names c.magic.result d (first_stored d) (load c.args.maps.now) x x old new refl stops c.in_ok-begin_results-in-Err.ensures.done
