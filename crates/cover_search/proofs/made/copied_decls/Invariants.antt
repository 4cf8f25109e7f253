use Rattle.std.proofs.Common.{◌≡◌, take}
use Rattle.cover_search.proofs.made.copied_decls.Given as goal

abbrev pub invariant-loop-decl : goal.invariant-loop-decl
invariant-loop-decl l = l.copies.items ≡ take l.decl-index l.decls
