use Rattle.std.proofs.Common.{◌≡◌, All, length}
use Rattle.overlay_net.specs.cell_nets.Operands.{IsOperand}
use Rattle.overlay_net.specs.cell_nets.Wires.{wires_of}
use Rattle.commit_net.proofs.ChangeNet.PairLemmas.{Words}
use Rattle.commit_net.proofs.change_net.keys.key_words.Given as goal

abbrev pub invariant-loop-w : goal.invariant-loop-w
invariant-loop-w g l = record {
  count : length l.words.items ≡ l.w;
  operands : All IsOperand l.words.items;
  stands : Words l.part l.sites l.commits l.keys (wires_of l.fn.wires.items) (wires_of l.wires.items) l.words.items;
}
