use Rattle.std.proofs.Common.{◌≡◌, ◌+◌, length, drop}
use Rattle.elf_view.specs.Layout.{map_names}
use Rattle.elf_view.proofs.strings.strings_len.Given as goal

-- the length so far, with the names that are left, is the whole length
abbrev pub invariant-loop-map : goal.invariant-loop-map
invariant-loop-map l =
    l.len + length (map_names (drop l.map-index l.maps)) ≡ l.initial.len + length (map_names l.maps)
