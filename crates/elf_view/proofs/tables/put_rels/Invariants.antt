use Rattle.std.proofs.Common.{◌≡◌, ◌++◌, take}
use Rattle.elf_view.specs.Layout.{rels}
use Rattle.elf_view.proofs.tables.put_rels.Given as goal

-- the relocations so far
abbrev pub invariant-loop-place : goal.invariant-loop-place
invariant-loop-place l = l.out.items ≡ l.initial.out.items ++ rels (take l.place-index l.refs)
