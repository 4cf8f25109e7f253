use Rattle.std.proofs.Common.{All, List, map as map_list, take}
use Rattle.std.specs.List.{AllZip}
use Rattle.net_core.specs.View.{tree_of}
use Rattle.cell_nets.specs.declared.operand.Operand.{Operand}
use Rattle.cell_nets.specs.Operands.{IsAvailable}
use Rattle.row_net.specs.PlaceNet.Exit.{byte_operand}
use Rattle.row_net.specs.PlaceNet.ExitNets.{IsFrameWord}
use Rattle.row_net.proofs.place_net.leaving.word_values.Given as goal

abbrev pub invariant-loop-number : goal.invariant-loop-number
invariant-loop-number g l = (ins : List (Operand g.row.N.Denot)) → All (λ x. IsAvailable ins (byte_operand x)) l.bytes → AllZip (IsFrameWord ins l.bytes) (take l.number-index l.words) (map_list tree_of l.all.items)
