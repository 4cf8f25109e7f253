-- The ranges of what a machine holds.
use Rattle.std.specs.Prelude.{◌<◌, ◌^◌, List, length, All}
use Rattle.std.proofs.Common.{get_or}
use Rattle.std.specs.Int.{w64}
use Rattle.std.specs.Int.RustNames.{FitsSigned}
use Rattle.xdp_maps.specs.declared.decl.MapDecl.{MapDecl}
use Rattle.xdp_maps.specs.Contents.{IsBytes}
use Rattle.xdp_maps.specs.State.{IsSound, no_decl}
use Rattle.xdp_machine.specs.Values.{Value, Number, Packet, Entry}
use Rattle.xdp_machine.specs.State.{Machine}

-- a number has 64 bits, a place in the frame 64 signed ones, and a key the length that its map declares
abbrev pub InRange : List MapDecl → Value → Type 0
InRange decls (Number n) = n < 2 ^ 64
InRange decls (Packet o) = FitsSigned w64 o
InRange decls (Entry q key o) = (q < length decls) × IsBytes (get_or decls q no_decl).key key
InRange decls v = Unit {0}

pub record IsInRange (m : Machine) : Type 0 where
  pub registers : All (InRange m.maps.decls) m.registers
  pub stack : All (InRange m.maps.decls) m.stack
  pub frame : All (λ b. b < 256) m.frame
  pub frame_short : length m.frame < 2 ^ 63
  pub ifindex : m.ifindex < 2 ^ 32
  pub time : m.time < 2 ^ 64
  pub target : m.target < 2 ^ 32
  pub maps : IsSound m.maps
