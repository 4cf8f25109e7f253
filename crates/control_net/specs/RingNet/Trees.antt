-- The trees of control's counters.
use Rattle.std.specs.Prelude.{ℕ, ◌-◌}
use Rattle.net_core.specs.declared.tree.Op.{Op}
use Rattle.net_core.specs.declared.tree.Op.TheVariants.{Add, And, Or, Equal, NotEqual}
use Rattle.net_core.specs.declared.tree.UnaryOp.TheVariants.{Not}
use Rattle.net_core.specs.Nets.{Tree, TConst, TRead, TUnary, TBinary, TConditional, RPlain, StatementTree, SBlock, SSet, SEnd, SThen}
use Rattle.net_core.specs.Value.{word}
use Rattle.block_core.specs.declared.name.Name.{Name}
use Rattle.block_core.specs.declared.name.Name.TheVariants as name
use Rattle.block_core.specs.Blocks.{BlockWireTree}
use Rattle.control_net.specs.declared.ring_net.shape.ControlShape.{ControlShape}
use Rattle.control_net.specs.declared.ring_net.names.Counter.{Counter}
use Rattle.control_net.specs.declared.ring_net.names.Register.{Register}
use Rattle.control_net.specs.declared.ring_net.names.Register.TheVariants.{Lap, Slot}
use Rattle.control_net.specs.RingNet.Names.{register_number, register_name}

abbrev pub register : {P : Type 0} → P → Register → Tree (Name P)
register part r = TRead (register_name part r)

abbrev pub port : {P : Type 0} → ℕ → Tree (Name P)
port k = TRead (name.Port k)

abbrev pub bit_wire : {P : Type 0} → Tree (Name P) → BlockWireTree (Name P)
bit_wire e = record { width = 1; right = RPlain e }

-- the slots of two counters differ, or their laps compare so
abbrev pub compared : {P : Type 0} → P → Op → Counter → Counter → Tree (Name P)
compared part op a b = TBinary Or (TBinary NotEqual (register part (Slot a)) (register part (Slot b))) (TBinary op (register part (Lap a)) (register part (Lap b)))

abbrev pub both : {P : Type 0} → Tree (Name P) → Tree (Name P) → Tree (Name P)
both a b = TBinary And a b

-- a value where a slot is the last one, and another elsewhere
abbrev pub at_end : {P : Type 0} → ControlShape → P → Register → Tree (Name P) → Tree (Name P) → Tree (Name P)
at_end c part slot last other = TConditional (TBinary Equal (register part slot) (TConst (word c.slot_bits (c.slots - 1)))) last other

-- one frame on
abbrev pub counting : {P : Type 0} → ControlShape → P → Counter → StatementTree (Name P)
counting c part k = SBlock
    (SThen (SSet (register_number (Lap k)) (at_end c part (Slot k) (TUnary Not (register part (Lap k))) (register part (Lap k))))
    (SThen (SSet (register_number (Slot k)) (at_end c part (Slot k) (TConst (word c.slot_bits 0)) (TBinary Add (register part (Slot k)) (TConst (word c.slot_bits 1)))))
    SEnd))
