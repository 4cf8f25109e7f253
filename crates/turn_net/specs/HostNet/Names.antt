-- The wires of the two parts by their numbers.
use Rattle.std.specs.Prelude.{ℕ}
use Rattle.block_core.specs.declared.name.Name.{Name}
use Rattle.block_core.specs.declared.name.Name.TheVariants as name
use Rattle.turn_net.specs.declared.host_net.names.Wire.{Wire}
use Rattle.turn_net.specs.declared.host_net.names.Wire.TheVariants.{Idle, Ready, Writes}

abbrev pub wire_number : Wire → ℕ
wire_number Idle = 0
wire_number Ready = 1
wire_number Writes = 2

abbrev pub wire_name : {P : Type 0} → P → Wire → Name P
wire_name p w = name.Wire p (wire_number w)

abbrev pub value_name : {P : Type 0} → P → Name P
value_name p = name.Wire p 0
