use Rattle.xdp_object.specs.Choice.{chosen_of}
use Rattle.ehdl_top.proofs.FormLemmas.{object_given_up}
use Rattle.ehdl_top.proofs.prepare.read_reply.Goals as goal

pub returns-in-Err-clause-given_up : goal.returns-in-Err-clause-given_up
returns-in-Err-clause-given_up c = object_given_up (chosen_of c.args.choice) c.args.object.now c.in-Err.error c.error_of.result c.in-Err.ensures.fault c.error_of.ensures
