use Rattle.std.specs.List.{AllWithin}
use Rattle.xdp_machine.specs.Program.{IsDeclaration}
use Rattle.xdp_object.proofs.parts.are_declarations.Given as goal

abbrev pub invariant-loop-decl : goal.invariant-loop-decl
invariant-loop-decl l = AllWithin IsDeclaration l.decls 0 l.decl-index
