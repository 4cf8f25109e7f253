use Rattle.std.proofs.Common.{◌≡◌, ◌++◌, take}
use Rattle.elf_view.specs.Layout.{map_names}
use Rattle.elf_view.proofs.strings.put_map_strings.Given as goal

-- the names so far
abbrev pub invariant-loop-map : goal.invariant-loop-map
invariant-loop-map l = l.out.items ≡ l.initial.out.items ++ map_names (take l.map-index l.maps)
