-- Pointers to entries as numbers.
use Rattle.std.specs.Prelude.{ℕ, ◌+◌, ◌*◌}
use Rattle.hazard_core.specs.declared.pointer.Pointer.{Pointer}
use Rattle.hazard_core.specs.declared.pointer.Pointer.TheVariants.{Null, InSlot, Pending}

-- 0 is no entry; else the low two bits say whether it is in a slot or one that an update of the packet's own is to make, and the others which
abbrev pub pointer_number : Pointer → ℕ
pointer_number Null = 0
pointer_number (InSlot n) = 4 * n + 1
pointer_number (Pending j) = 4 * j + 2
