use Rattle.command_line.specs.Rows.{values_from}
use Rattle.command_line.proofs.Nones.{if_none}
use Rattle.command_line.proofs.Once.{demo_alone}
use Rattle.command_line.proofs.read.read_demo.Goals as goal

pub returns-in_err-seed-clause-none : goal.returns-in_err-seed-clause-none
returns-in_err-seed-clause-none c = if_none c.from_residual.result (demo_alone c.args.name.now (values_from c.args.matches.now) c.requires (λ seed packets means. c.in_err-seed.ensures.none seed means.gives_seed))

pub returns-in_err-packets-clause-none : goal.returns-in_err-packets-clause-none
returns-in_err-packets-clause-none c = if_none c.from_residual-in_err-packets.result (demo_alone c.args.name.now (values_from c.args.matches.now) c.requires (λ seed packets means. c.in_err-packets.ensures.none packets means.gives_packets))
