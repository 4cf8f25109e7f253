use Rattle.std.proofs.Common.{[], Ok, refl}
use Rattle.xdp_object.specs.Choice.{chosen_of}
use Rattle.command_line.specs.Request.{AskReport}
use Rattle.capture_run.specs.States.{state_of}
use Rattle.capture_run.proofs.StateLaws.{changes_none}
use Rattle.ehdl_top.proofs.OutcomeLemmas.{reported_of, report_makes}
use Rattle.ehdl_top.proofs.EndLemmas.{ends_as, ends_done}
use Rattle.ehdl_top.proofs.report.report_object.Goals as goal

pub returns-clause-lines : goal.returns-clause-lines
returns-clause-lines g c =
    let read = c.in_ok-accepted.ensures.read in
    reported_of c.args.object.now (chosen_of c.args.choice) (state_of g.S.Shelf c.args.shelf.now) read.0 c.in_ok-accepted.accepted c.in_ok-report_lines.field-0.items read.1 read.2 c.in_ok-report_lines.ensures

pub returns-clause-ends : goal.returns-clause-ends
returns-clause-ends g c =
    let read = c.in_ok-accepted.ensures.read in
    let choice = chosen_of c.args.choice in
    let old = state_of g.S.Shelf c.args.shelf.now in
    let new = state_of g.S.Shelf c.read_input.new.shelf in
    ends_as (AskReport c.args.object.now choice) old new (Ok tt) (Ok c.in_ok-report_lines.field-0) tt
    (ends_done (AskReport c.args.object.now choice) old new new [] refl tt c.read_input.ensures.kept
    (λ told. report_makes c.args.object.now choice old.held c.in_ok-report_lines.field-0.items (reported_of c.args.object.now choice old read.0 c.in_ok-accepted.accepted c.in_ok-report_lines.field-0.items read.1 read.2 c.in_ok-report_lines.ensures told)) (changes_none new))
