use Rattle.std.proofs.Common.{◌≡◌, ◌+◌, ◌-◌, drop, length}
use Rattle.bpf_isa.specs.Text.{unit_count}
use Rattle.xdp_object.specs.Relocations.{unknown_at}
use Rattle.xdp_object.proofs.Places.{Walked}
use Rattle.xdp_object.proofs.relocations.check_places.Given as goal
use Rattle.elf_view.specs.list_laws.Firsts.{first_from}

-- the places so far are known
abbrev pub invariant-loop-insn : goal.invariant-loop-insn
invariant-loop-insn l = record {
  walked : Walked l.insns l.insn-index l.place;
  left : length l.places ≡ l.place + unit_count (drop l.insn-index l.insns);
  known : first_from (unknown_at l.places l.insns) 0 (length l.places)
      ≡ first_from (unknown_at l.places l.insns) l.place (length l.places - l.place);
}
