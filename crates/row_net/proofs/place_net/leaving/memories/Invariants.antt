use Rattle.std.proofs.Common.{◌≡◌, map as map_list, take}
use Rattle.frame_net.specs.Answers.{answer_widths}
use Rattle.frame_net.specs.Stores.{widths_memory}
use Rattle.row_net.proofs.place_net.leaving.memories.Given as goal

abbrev pub invariant-loop-number : goal.invariant-loop-number
invariant-loop-number l = l.all.items ≡ map_list widths_memory (answer_widths l.bits (take l._number-index l.words))
