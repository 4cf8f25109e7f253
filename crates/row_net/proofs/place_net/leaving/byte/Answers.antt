use Rattle.cell_nets.specs.Operands.{IsAvailable}
use Rattle.row_net.proofs.PlaceNet.WordLemmas.{found_is}
use Rattle.row_net.proofs.place_net.leaving.byte.Goals as goal

pub returns : goal.returns
returns g c = λ ins h. record {
  operand = c.found-operand.result;
  found = c.found-operand.ensures;
  part = (c.in_ok-bits.ensures ins (found_is (IsAvailable ins) c.args.bytes.now c.args.at c.found-operand.result c.found-operand.ensures h tt)).part;
}
