use Rattle.std.proofs.Common.{◌≡◌, ◌+◌, ◌*◌, ◌++◌, length, drop}
use Rattle.elf_view.specs.Layout.{map_names, map_symbols}
use Rattle.elf_view.proofs.tables.put_symbols.Given as goal

-- the symbols so far, with those of the maps that are left, are all of them
abbrev pub invariant-loop-map : goal.invariant-loop-map
invariant-loop-map l =
    (l.out.items ++ map_symbols l.name l.value (drop l.map-index l.maps) ≡ l.initial.out.items ++ map_symbols l.initial.name 0 l.maps)
    × (l.name + length (map_names (drop l.map-index l.maps)) ≡ l.initial.name + length (map_names l.maps)) × (l.value ≡ 20 * l.map-index)
