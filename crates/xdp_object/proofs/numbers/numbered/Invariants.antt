use Rattle.std.proofs.Common.{◌≡◌, ◌+◌, ◌++◌, drop, length}
use Rattle.bpf_isa.specs.Text.{unit_count}
use Rattle.xdp_object.specs.Maps.{map_number, numbered}
use Rattle.xdp_object.specs.Relocations.{said_at}
use Rattle.xdp_object.proofs.numbers.numbered.Given as goal

-- the instructions so far, and those that are left from `place` on
abbrev pub invariant-loop-insn : goal.invariant-loop-insn
invariant-loop-insn l = record {
  left : length l.places ≡ l.place + unit_count (drop l.insn-index l.insns);
  whole : l.out.items ++ numbered (λ p. map_number l.symbols (said_at l.places p)) l.place (drop l.insn-index l.insns)
      ≡ numbered (λ p. map_number l.symbols (said_at l.places p)) 0 l.insns;
}
