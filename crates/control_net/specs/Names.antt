-- The nets of control by their numbers. Registers of counters, of packets that have passed and of places are those of `ring_net`; after them stand those of
-- the packets' numbers, first their laps and then their slots, by place.
use Rattle.std.specs.Prelude.{ℕ, ◌+◌, ◌-◌}
use Rattle.block_core.specs.declared.name.Name.{Name}
use Rattle.block_core.specs.declared.name.Name.TheVariants as name
use Rattle.control_net.specs.declared.ring_net.shape.ControlShape.{ControlShape}
use Rattle.control_net.specs.declared.names.Wire.{Wire}
use Rattle.control_net.specs.declared.names.Wire.TheVariants.{Ready, Over, Ends, Advances, Injects, Exits, Passes, Shown, Taken, Gone}

abbrev pub lap_number : ControlShape → ℕ → ℕ
lap_number c k = 10 + c.stages + k

abbrev pub slot_number : ControlShape → ℕ → ℕ
slot_number c k = 11 + c.stages + c.commit + k

abbrev pub wire_number : Wire → ℕ
wire_number Ready = 0
wire_number Over = 1
wire_number Ends = 2
wire_number Advances = 3
wire_number Injects = 4
wire_number Exits = 5
wire_number Passes = 6
wire_number Shown = 7
wire_number Taken = 8
wire_number Gone = 9

abbrev pub lap_name : {P : Type 0} → ControlShape → P → ℕ → Name P
lap_name c p k = name.Register p (lap_number c k)

abbrev pub slot_name : {P : Type 0} → ControlShape → P → ℕ → Name P
slot_name c p k = name.Register p (slot_number c k)

abbrev pub wire_name : {P : Type 0} → P → Wire → Name P
wire_name p w = name.Wire p (wire_number w)

-- the wire of a place in the part that sends back: that of the commit place comes first, since each reads that of the next older place
abbrev pub back_name : {P : Type 0} → ControlShape → P → ℕ → Name P
back_name c p k = name.Wire p (c.commit - k)
