use Rattle.std.proofs.Common.{◌≡◌, drop, IsTrue}
use Rattle.std.specs.List.{AllWithin, list_all}
use Rattle.xdp_machine.specs.Program.{is_name_byte}
use Rattle.xdp_object.proofs.parts.is_map_name.Given as goal

abbrev pub invariant-loop-byte : goal.invariant-loop-byte
invariant-loop-byte l = record {
  letters : AllWithin (λ b. IsTrue (is_name_byte b)) l.name 0 l.byte-index;
  value : list_all is_name_byte l.name ≡ list_all is_name_byte (drop l.byte-index l.name);
}
