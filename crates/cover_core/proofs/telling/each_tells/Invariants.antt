use Rattle.std.proofs.Common.{◌≡◌}
use Rattle.std.specs.List.{AllWithin}
use Rattle.xdp_machine.specs.bpf_isa.Text.{insn_at}
use Rattle.cover_core.specs.Cover.{place_of, TellsBy}
use Rattle.cover_core.proofs.telling.each_tells.Given as goal

abbrev pub invariant-loop-edge : goal.invariant-loop-edge
invariant-loop-edge l = AllWithin (λ x. x.to ≡ l.node → TellsBy l.i x.taken (insn_at l.b.insns (place_of l.unfolded x.from))) l.unfolded.edges.items 0 l.edge-index
