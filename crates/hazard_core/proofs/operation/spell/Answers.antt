use Rattle.std.proofs.Common.{arith}
use Rattle.hazard_core.specs.StageValues.{stage_value}
use Rattle.hazard_core.proofs.Spelling.{spell_step}
use Rattle.hazard_core.proofs.operation.spell.Goals as goal

pub loop-i-preserved : goal.loop-i-preserved
loop-i-preserved c =
    spell_step (stage_value c.args.held.now) c.args.words.now c.loop-i.bytes _ c.bytes_of-word.result c.loop-i.i _ c.value.result (omega arith) c.loop-i.invariant.0 (omega arith) (omega arith) (cc) c.bytes_of-word.ensures c.value.ensures c.loop-i.invariant.1
