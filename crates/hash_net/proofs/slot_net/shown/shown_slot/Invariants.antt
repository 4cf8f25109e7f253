use Rattle.std.specs.List.{range_with_len}
use Rattle.std.proofs.Common.{◌≡◌, ◌+◌, ◌*◌, map}
use Rattle.block_core.specs.declared.name.Name.TheVariants as name
use Rattle.array_net.specs.Words.{word_width}
use Rattle.cell_nets.specs.declared.operand.Operand.TheVariants.{Net}
use Rattle.hash_net.specs.SlotNet.Shown.{per_slot}
use Rattle.hash_net.proofs.slot_net.shown.shown_slot.Given as goal

abbrev pub invariant-loop-w : goal.invariant-loop-w
invariant-loop-w g l = l.key.items ≡ map (λ w. Net (name.Wire l.part (l.n * per_slot l.decl + 1 + w)) (word_width l.decl.key w)) (range_with_len 0 l.w)
