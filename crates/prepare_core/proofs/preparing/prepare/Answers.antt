use Rattle.std.proofs.Common.{subst}
use Rattle.std.proofs.lemmas.Result.{IfOk-weaker}
use Rattle.kind_core.specs.declared.kind.Offsets.TheVariants.{Fixed}
use Rattle.xdp_object.specs.Choice.{chosen_of}
use Rattle.prepare_core.specs.Counted.{FailsCounting}
use Rattle.prepare_core.proofs.Giving.{itself_given, found_given}
use Rattle.prepare_core.proofs.preparing.prepare.Goals as goal

pub returns-in-Ok-itself-clause-given : goal.returns-in-Ok-itself-clause-given
returns-in-Ok-itself-clause-given c =
    itself_given c.runs_are_sound.ensures (chosen_of c.args.choice) c.args.a.now c.args.object.now c.in-Ok.counted c.in-Ok-itself.prepared
    c.in-Ok-itself.ensures.program c.requires c.in-Ok.ensures.counted c.in-Ok-itself.ensures.itself

pub returns-in-Err-Refused-clause-given : goal.returns-in-Err-Refused-clause-given
returns-in-Err-Refused-clause-given c =
    let refused = subst (FailsCounting Fixed c.args.a.now) c.in-Err-Refused.field-0-is c.in-Err-Refused.ensures.fails in
    IfOk-weaker c.found_or.result _ _ (λ p prepares. found_given (chosen_of c.args.choice) c.args.a.now c.args.object.now c.in-Err-Refused.refusal p refused prepares) c.found_or.ensures.found
