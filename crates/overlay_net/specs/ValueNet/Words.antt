-- Words of eight bytes in which some bytes are written.
use Rattle.std.specs.Prelude.{◌≡◌, ℕ, ◌+◌, ◌*◌, ◌/◌, ◌%◌, ◌^◌, Bool, true, false}
use Rattle.hazard_core.specs.xdp_maps.Calls.{change_bytes}
use Rattle.hazard_core.specs.xdp_machine.Memory.{bytes_in}
use Rattle.hazard_core.specs.cell_core.declared.site.Act.{Act}
use Rattle.hazard_core.specs.cell_core.declared.site.Act.TheVariants as act

-- whether an operation answers a number of the entry that it goes through
abbrev pub answers_number : Act → Bool
answers_number (act.Load at size) = true
answers_number (act.Atomic at a) = true
answers_number a = false

-- where it begins, and how many bytes it has
abbrev pub access_start : Act → ℕ
access_start (act.Load at size) = at
access_start (act.Store at size) = at
access_start (act.Atomic at a) = at
access_start a = 0

abbrev pub access_bytes : Act → ℕ
access_bytes (act.Load at size) = bytes_in size
access_bytes (act.Store at size) = bytes_in size
access_bytes (act.Atomic at a) = change_bytes a.wide
access_bytes a = 1

-- an access begins at a multiple of its bytes, and so lies in one word
abbrev pub IsAligned : Act → Type 0
IsAligned a = access_start a % access_bytes a ≡ 0

-- a number whose bits from one on, so many, are those of another
abbrev pub with_bits : ℕ → ℕ → ℕ → ℕ → ℕ
with_bits old from width new = old % 2 ^ from + 2 ^ from * (new % 2 ^ width + 2 ^ width * (old / 2 ^ (from + width)))

-- how many bits an atomic change has
abbrev pub change_bits : Bool → ℕ
change_bits wide = 8 * change_bytes wide
