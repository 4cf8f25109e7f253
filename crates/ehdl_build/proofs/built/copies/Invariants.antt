use Rattle.std.proofs.Common.{◌≡◌, take}
use Rattle.ehdl_build.proofs.built.copies.Given as goal

abbrev pub invariant-loop-decl : goal.invariant-loop-decl
invariant-loop-decl l = l.copies.items ≡ take l.decl-index l.decls
