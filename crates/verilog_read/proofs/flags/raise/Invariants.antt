use Rattle.std.proofs.Common.{◌≡◌, ℕ, suc, ◌-◌, vec_len}
use Rattle.verilog_read.specs.View.{is_up}
use Rattle.verilog_read.proofs.flags.raise.Given as goal

abbrev pub invariant-loop-flags : goal.invariant-loop-flags
invariant-loop-flags l = (j : ℕ) → is_up l.flags.items j ≡ is_up l.initial.flags.items j

abbrev pub decreases-loop-flags : goal.decreases-loop-flags
decreases-loop-flags l = suc l.place - vec_len l.flags
