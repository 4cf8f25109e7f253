use Rattle.std.proofs.Common.{All, List}
use Rattle.net_core.specs.View.{trees_of}
use Rattle.cell_nets.specs.declared.operand.Operand.{Operand}
use Rattle.cell_nets.specs.Operands.{IsAvailable}
use Rattle.row_net.specs.PlaceNet.Exit.{byte_operand}
use Rattle.row_net.specs.PlaceNet.ExitNets.{AreBytes}
use Rattle.row_net.proofs.place_net.leaving.word.Given as goal

abbrev pub invariant-loop-k : goal.invariant-loop-k
invariant-loop-k g l = (ins : List (Operand g.row.N.Denot)) → All (λ x. IsAvailable ins (byte_operand x)) l.bytes → AreBytes ins l.bytes l.number l.k (trees_of l.parts)
