use Rattle.std.proofs.Common.{rules, ◌≡◌, ◌∙◌, refl, sym, ap, subst}
use Rattle.net_core.specs.Nets.{Netlist}
use Rattle.net_core.specs.Clock.{first_stored}
use Rattle.net_core.specs.View.{netlist_of}
use Rattle.port_drive.specs.Driving.{Driving, undriven}
use Rattle.verilog_read.specs.design_rules.Formed.{IsWellFormed}
use Rattle.verilog_read.proofs.design_rules_laws.FormedWidthLaws.{typed}
use Rattle.command_line.specs.Request.{Names, names_of}
use Rattle.capture_run.specs.States.{ShelfState, state_of}
use Rattle.ehdl_top.specs.declared.error.CommandError.TheVariants as error
use Rattle.ehdl_top.specs.Steps.{IsGivenUpDrive, IsOver, WritesSim, written_names}
use Rattle.capture_run.proofs.StateLaws.{changes_none}
use Rattle.ehdl_top.proofs.SimLemmas.{by_err, over_out, write_out, write_as}
use Rattle.ehdl_top.proofs.sim.simulate.Goals as goal

pub returns-in_err-driver-clause-told : goal.returns-in_err-driver-clause-told
returns-in_err-driver-clause-told g c = λ told packets holds count.
    let names : Names = names_of c.args.files.now in
    let old : ShelfState = state_of g.S.Shelf c.args.shelf.now in
    let d = netlist_of c.args.design in
    by_err c.from_residual.result (λ r. WritesSim names d c.args.maps.now c.args.ifindex c.args.clocks c.args.survey.now.stream.magic packets r old old) error.NoMemory c.from_residual.ensures.1
    (λ e is. write_out names d c.args.maps.now c.args.ifindex c.args.clocks c.args.survey.now.stream.magic packets e old old is (changes_none old))

pub returns-in_err-driver-clause-over : goal.returns-in_err-driver-clause-over
returns-in_err-driver-clause-over g c =
    let names : Names = names_of c.args.files.now in
    let old : ShelfState = state_of g.S.Shelf c.args.shelf.now in
    by_err c.from_residual.result (λ r. IsOver IsGivenUpDrive names.capture (written_names names) r old old) error.NoMemory c.from_residual.ensures.1
    (λ e is. over_out IsGivenUpDrive names.capture (written_names names) e old old is (changes_none old))

pub open-requires-in-None : goal.open-requires-in-None
open-requires-in-None g c = typed _ c.requires.formed

pub returns-in_err-sim-in-None-clause-told : goal.returns-in_err-sim-in-None-clause-told
returns-in_err-sim-in-None-clause-told g c = λ told packets holds count.
    let names : Names = names_of c.args.files.now in
    let old : ShelfState = state_of g.S.Shelf c.args.shelf.now in
    let d = netlist_of c.args.design in
    by_err c.from_residual-in_err-sim-in-None.result (λ r. WritesSim names d c.args.maps.now c.args.ifindex c.args.clocks c.args.survey.now.stream.magic packets r old old) error.NoMemory c.from_residual-in_err-sim-in-None.ensures.1
    (λ e is. write_out names d c.args.maps.now c.args.ifindex c.args.clocks c.args.survey.now.stream.magic packets e old old is (changes_none old))

pub returns-in_err-sim-in-None-clause-over : goal.returns-in_err-sim-in-None-clause-over
returns-in_err-sim-in-None-clause-over g c =
    let names : Names = names_of c.args.files.now in
    let old : ShelfState = state_of g.S.Shelf c.args.shelf.now in
    by_err c.from_residual-in_err-sim-in-None.result (λ r. IsOver IsGivenUpDrive names.capture (written_names names) r old old) error.NoMemory c.from_residual-in_err-sim-in-None.ensures.1
    (λ e is. over_out IsGivenUpDrive names.capture (written_names names) e old old is (changes_none old))

pub returns-in_err-sim-in-Some-clause-told : goal.returns-in_err-sim-in-Some-clause-told
returns-in_err-sim-in-Some-clause-told g c = λ told packets holds count.
    let names : Names = names_of c.args.files.now in
    let old : ShelfState = state_of g.S.Shelf c.args.shelf.now in
    let d = netlist_of c.args.design in
    by_err c.from_residual-in_err-sim-in-Some.result (λ r. WritesSim names d c.args.maps.now c.args.ifindex c.args.clocks c.args.survey.now.stream.magic packets r old old) error.NoMemory c.from_residual-in_err-sim-in-Some.ensures.1
    (λ e is. write_out names d c.args.maps.now c.args.ifindex c.args.clocks c.args.survey.now.stream.magic packets e old old is (changes_none old))

pub returns-in_err-sim-in-Some-clause-over : goal.returns-in_err-sim-in-Some-clause-over
returns-in_err-sim-in-Some-clause-over g c =
    let names : Names = names_of c.args.files.now in
    let old : ShelfState = state_of g.S.Shelf c.args.shelf.now in
    by_err c.from_residual-in_err-sim-in-Some.result (λ r. IsOver IsGivenUpDrive names.capture (written_names names) r old old) error.NoMemory c.from_residual-in_err-sim-in-Some.ensures.1
    (λ e is. over_out IsGivenUpDrive names.capture (written_names names) e old old is (changes_none old))

pub write_sim-requires-clause-undriven : goal.write_sim-requires-clause-undriven
write_sim-requires-clause-undriven g c = let P : Driving → Type 0 = λ x. x ≡ undriven x.ifindex x.limit in subst P (sym c.in_ok-driver.ensures.view) refl

pub write_sim-requires-clause-formed : goal.write_sim-requires-clause-formed
write_sim-requires-clause-formed g c = let P : Netlist → Type 0 = IsWellFormed in subst P (sym c.in_ok-sim-in-None.ensures.netlist) c.requires.formed

pub write_sim-requires-clause-first : goal.write_sim-requires-clause-first
write_sim-requires-clause-first g c = c.in_ok-sim-in-None.ensures.stored ∙ sym (ap (λ (d : Netlist). first_stored d) c.in_ok-sim-in-None.ensures.netlist)

pub returns-in-None-clause-told : goal.returns-in-None-clause-told
returns-in-None-clause-told g c = λ told packets holds count.
    let same : c.from.result ≡ c.args.clocks = search rules in
    write_as (names_of c.args.files.now) c.in_ok-sim-in-None.sim.netlist (netlist_of c.args.design) c.args.maps.now c.in_ok-driver.driver.ifindex c.in_ok-driver.driver.limit c.args.ifindex c.args.clocks c.args.survey.now.stream.magic packets c.write_sim.result
    (state_of g.S.Shelf c.args.shelf.now) (state_of g.S.Shelf c.write_sim.new.shelf) c.in_ok-sim-in-None.ensures.netlist (ap (λ (x : Driving). x.ifindex) c.in_ok-driver.ensures.view) (ap (λ (x : Driving). x.limit) c.in_ok-driver.ensures.view ∙ same) (c.write_sim.ensures.told told packets holds count)

pub write_sim-requires-in-Some-clause-undriven : goal.write_sim-requires-in-Some-clause-undriven
write_sim-requires-in-Some-clause-undriven g c = let P : Driving → Type 0 = λ x. x ≡ undriven x.ifindex x.limit in subst P (sym c.in_ok-driver.ensures.view) refl

pub write_sim-requires-in-Some-clause-formed : goal.write_sim-requires-in-Some-clause-formed
write_sim-requires-in-Some-clause-formed g c = let P : Netlist → Type 0 = IsWellFormed in subst P (sym c.in_ok-sim-in-Some.ensures.netlist) c.requires.formed

pub write_sim-requires-in-Some-clause-first : goal.write_sim-requires-in-Some-clause-first
write_sim-requires-in-Some-clause-first g c = c.in_ok-sim-in-Some.ensures.stored ∙ sym (ap (λ (d : Netlist). first_stored d) c.in_ok-sim-in-Some.ensures.netlist)

pub returns-clause-told : goal.returns-clause-told
returns-clause-told g c = λ told packets holds count.
    let same : c.from.result ≡ c.args.clocks = search rules in
    write_as (names_of c.args.files.now) c.in_ok-sim-in-Some.sim.netlist (netlist_of c.args.design) c.args.maps.now c.in_ok-driver.driver.ifindex c.in_ok-driver.driver.limit c.args.ifindex c.args.clocks c.args.survey.now.stream.magic packets c.write_sim-in-Some.result
    (state_of g.S.Shelf c.args.shelf.now) (state_of g.S.Shelf c.write_sim-in-Some.new.shelf) c.in_ok-sim-in-Some.ensures.netlist (ap (λ (x : Driving). x.ifindex) c.in_ok-driver.ensures.view) (ap (λ (x : Driving). x.limit) c.in_ok-driver.ensures.view ∙ same) (c.write_sim-in-Some.ensures.told told packets holds count)
