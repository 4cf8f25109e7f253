use Rattle.std.proofs.Common.{◌≡◌, ◌%◌, ◌-◌, length}
use Rattle.bpf_isa.proofs.TextLaws.{Decoded}
use Rattle.bpf_isa.proofs.decode.decode_all.Given as goal

abbrev pub invariant-loop-at : goal.invariant-loop-at
invariant-loop-at l = Decoded l.code l.insns.items l.at × (length l.code % 8 ≡ 0)

abbrev pub decreases-loop-at : goal.decreases-loop-at
decreases-loop-at l = length l.code - l.at
