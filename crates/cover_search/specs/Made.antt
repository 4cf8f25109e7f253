-- What a program that is found has of the one that it is found for.
use Rattle.std.specs.Prelude.{◌≡◌}
use Rattle.xdp_machine.specs.Program.{XdpProgram}

-- b has a's name and a's maps, in their order
pub record HasNamesOf (b a : XdpProgram) : Type 0 where
  pub name : b.name ≡ a.name
  pub decls : b.decls ≡ a.decls
