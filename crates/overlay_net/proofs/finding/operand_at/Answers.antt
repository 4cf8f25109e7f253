use Rattle.std.proofs.Common.{arith}
use Rattle.cell_nets.specs.Operands.{IsOperand, IsAvailable}
use Rattle.cell_nets.proofs.StepNets.StepLaws.{avail_at}
use Rattle.overlay_net.proofs.finding.operand_at.Goals as goal

pub returns-then-at-operands-clause-operand : goal.returns-then-at-operands-clause-operand
returns-then-at-operands-clause-operand g c = avail_at IsOperand c.args.operands.now c.args.at c.index-operands-at.result (omega arith) c.index-operands-at.is c.requires

pub returns-then-at-operands-clause-there : goal.returns-then-at-operands-clause-there
returns-then-at-operands-clause-there g c = λ ins all. avail_at (IsAvailable ins) c.args.operands.now c.args.at c.index-operands-at.result (omega arith) c.index-operands-at.is all
