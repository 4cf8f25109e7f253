use Rattle.std.proofs.Common.{◌≡◌, take}
use Rattle.hazard_core.proofs.tables.copied.Given as goal

abbrev pub invariant-loop-decl : goal.invariant-loop-decl
invariant-loop-decl l = l.own.items ≡ take l.decl-index l.decls
