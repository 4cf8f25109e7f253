use Rattle.std.proofs.Common.{ℕ, ◌-◌, ◌^◌, ◌≤◌}
use Rattle.commit_net.proofs.map_block.form.slot_bits.Given as goal

abbrev pub invariant-loop-bits : goal.invariant-loop-bits
invariant-loop-bits l = record { some : 1 ≤ l.bits; most : l.bits ≤ 16; least : (b : ℕ) → 1 ≤ b → l.cap ≤ 2 ^ b → l.bits ≤ b }

abbrev pub decreases-loop-bits : goal.decreases-loop-bits
decreases-loop-bits l = 16 - l.bits
