use Rattle.std.specs.List.{AllWithin}
use Rattle.xdp_machine.specs.Program.{IsReference}
use Rattle.xdp_object.proofs.parts.are_references.Given as goal

abbrev pub invariant-loop-place : goal.invariant-loop-place
invariant-loop-place l = AllWithin (IsReference l.insns l.maps) l.refs 0 l.place-index
