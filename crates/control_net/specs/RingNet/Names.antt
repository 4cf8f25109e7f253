-- The nets of control by their numbers.
use Rattle.std.specs.Prelude.{ℕ, ◌+◌, ◌*◌}
use Rattle.block_core.specs.declared.name.Name.{Name}
use Rattle.block_core.specs.declared.name.Name.TheVariants as name
use Rattle.control_net.specs.declared.ring_net.names.Counter.{Counter}
use Rattle.control_net.specs.declared.ring_net.names.Counter.TheVariants.{Given, Answered, Injected, Gathered}
use Rattle.control_net.specs.declared.ring_net.names.Register.{Register}
use Rattle.control_net.specs.declared.ring_net.names.Register.TheVariants.{Lap, Slot, Passed, Holds}

abbrev pub counter_number : Counter → ℕ
counter_number Given = 0
counter_number Answered = 1
counter_number Injected = 2
counter_number Gathered = 3

abbrev pub register_number : Register → ℕ
register_number (Lap c) = 2 * counter_number c
register_number (Slot c) = 2 * counter_number c + 1
register_number Passed = 8
register_number (Holds k) = 9 + k

abbrev pub register_name : {P : Type 0} → P → Register → Name P
register_name p r = name.Register p (register_number r)
