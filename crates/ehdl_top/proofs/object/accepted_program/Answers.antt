use Rattle.xdp_object.specs.Choice.{chosen_of}
use Rattle.ehdl_top.specs.Forms.{accepted}
use Rattle.ehdl_top.proofs.FormLemmas.{program_given_up}
use Rattle.kind_core.specs.declared.kind.Offsets.TheVariants.{Varying}
use Rattle.prepare_core.proofs.CountingLaws.{accepted_of}
use Rattle.ehdl_top.proofs.object.accepted_program.Goals as goal

pub returns-in-Err-clause-given_up : goal.returns-in-Err-clause-given_up
returns-in-Err-clause-given_up c = program_given_up (chosen_of c.args.choice) c.args.object.now c.in-Err.error c.error_of.result c.in-Err.ensures.fault accepted c.error_of.ensures

pub returns-in-Ok-count-clause-program : goal.returns-in-Ok-count-clause-program
returns-in-Ok-count-clause-program c =
    let counts = c.in-Ok-count.ensures.counts in
    record {
      taken = record { object = c.in-Ok.ensures.program; takes = accepted_of Varying c.in-Ok.program counts.graph c.in-Ok-count.counts.stages counts.unfolded counts.varying counts.has_stages };
      counts = counts;
    }
