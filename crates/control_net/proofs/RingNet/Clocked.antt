-- What a clock stores for a counter that goes on.
use Rattle.std.specs.Prelude.{◌≡◌, ℕ, suc, ◌-◌}
use Rattle.std.proofs.Common.{◌∙◌}
use Rattle.net_core.specs.declared.tree.Op.TheVariants.{Add, Equal}
use Rattle.net_core.specs.declared.tree.UnaryOp.TheVariants.{Not}
use Rattle.net_core.specs.Nets.{TConst, TUnary, TBinary}
use Rattle.net_core.specs.Value.{word, bit, apply, apply_unary, conditional, Env, value}
use Rattle.block_core.specs.declared.name.Name.{Name}
use Rattle.control_net.specs.declared.ring_net.shape.ControlShape.{ControlShape}
use Rattle.control_net.specs.declared.ring_net.names.Counter.{Counter}
use Rattle.control_net.specs.declared.ring_net.names.Register.TheVariants.{Lap, Slot}
use Rattle.control_net.specs.RingNet.Names.{register_name}
use Rattle.control_net.specs.RingNet.Ring.{slot, lap}
use Rattle.control_net.specs.RingNet.Trees.{register, at_end}
use Rattle.control_net.proofs.RingNet.Values.{next_lap, next_slot}

module _ {P : Type 0} (c : ControlShape) (part : P) (v : Env (Name P)) where
  module _ (k : Counter) (a : ℕ) (l : v.net (register_name part (Lap k)) ≡ bit (lap c.slots a)) (s : v.net (register_name part (Slot k)) ≡ word c.slot_bits (slot c.slots a)) where
    pub lap_value : value v (at_end c part (Slot k) (TUnary Not (register part (Lap k))) (register part (Lap k))) ≡ bit (lap c.slots (suc a))
    lap_value = (λ j. conditional (apply Equal (s j) (word c.slot_bits (c.slots - 1))) (apply_unary Not (l j)) (l j)) ∙ next_lap c.slots c.slot_bits a c.some

    pub slot_value : value v (at_end c part (Slot k) (TConst (word c.slot_bits 0)) (TBinary Add (register part (Slot k)) (TConst (word c.slot_bits 1)))) ≡ word c.slot_bits (slot c.slots (suc a))
    slot_value = (λ j. conditional (apply Equal (s j) (word c.slot_bits (c.slots - 1))) (word c.slot_bits 0) (apply Add (s j) (word c.slot_bits 1))) ∙ next_slot c.slots c.slot_bits a c.some c.fits
