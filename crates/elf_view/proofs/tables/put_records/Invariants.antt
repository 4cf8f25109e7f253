use Rattle.std.proofs.Common.{◌≡◌, ◌++◌, take}
use Rattle.elf_view.specs.Layout.{records}
use Rattle.elf_view.proofs.tables.put_records.Given as goal

-- the records so far
abbrev pub invariant-loop-map : goal.invariant-loop-map
invariant-loop-map l = l.out.items ≡ l.initial.out.items ++ records (take l.map-index l.maps)
