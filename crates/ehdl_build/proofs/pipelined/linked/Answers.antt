use Rattle.std.proofs.Common.{ap, Err}
use Rattle.ehdl_build.proofs.pipelined.linked.Goals as goal

pub unreachable-requires-in-Err-LateNumber : goal.unreachable-requires-in-Err-LateNumber
unreachable-requires-in-Err-LateNumber c = c.in-Err-LateNumber.ensures.only_late (ap Err c.in-Err-LateNumber.field-0-is) c.requires.early

pub returns-in-Ok-clause-pipeline : goal.returns-in-Ok-clause-pipeline
returns-in-Ok-clause-pipeline c = record { is = c.in-Ok.ensures.design; apart = c.in-Ok.ensures.apart }
