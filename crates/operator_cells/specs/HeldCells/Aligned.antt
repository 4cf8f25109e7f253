-- Accesses to entries begin at multiples of their bytes, and so lie in one word of eight.
use Rattle.std.specs.Prelude.{◌≡◌, ℕ, ◌%◌}
use Rattle.cell_core.specs.xdp_maps.Calls.{change_bytes}
use Rattle.cell_core.specs.xdp_machine.Memory.{bytes_in}
use Rattle.cell_core.specs.declared.site.Act.{Act}
use Rattle.cell_core.specs.declared.site.Act.TheVariants as act

-- where an access begins in the value of its entry
abbrev pub access_start : Act → ℕ
access_start (act.Load at size) = at
access_start (act.Store at size) = at
access_start (act.Atomic at a) = at
access_start a = 0

-- and how many bytes it has
abbrev pub access_bytes : Act → ℕ
access_bytes (act.Load at size) = bytes_in size
access_bytes (act.Store at size) = bytes_in size
access_bytes (act.Atomic at a) = change_bytes a.wide
access_bytes a = 1

abbrev pub IsAligned : Act → Type 0
IsAligned a = access_start a % access_bytes a ≡ 0
