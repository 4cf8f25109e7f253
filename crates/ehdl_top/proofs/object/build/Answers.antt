use Rattle.std.proofs.Common.{refl, inl, inr}
use Rattle.xdp_object.specs.Choice.{chosen_of}
use Rattle.ehdl_top.proofs.ObjectLemmas.{built_of, fails_object}
use Rattle.ehdl_top.proofs.object.build.Goals as goal

pub returns-in-Ok-clause-text : goal.returns-in-Ok-clause-text
returns-in-Ok-clause-text c = built_of (chosen_of c.args.choice) c.args.object.now c.compile.result c.in-Ok.built c.in-Ok.is c.in-Ok.ensures.ok c.compile.ensures.refused

pub returns-in-Err-Object-clause-given_up : goal.returns-in-Err-Object-clause-given_up
returns-in-Err-Object-clause-given_up c =
    inr (inl refl, fails_object (chosen_of c.args.choice) c.args.object.now c.in-Err-Object.field-0 c.in-Err-Object.fault c.in-Err-Object.field-0-is c.in-Err-Object.ensures.error)
