-- The block that is made is control's.
use Rattle.std.specs.Prelude.{◌≡◌, ℕ, zero, suc, false, [], ◌∷◌, ◌++◌, map, replicate}
use Rattle.std.proofs.Common.{refl, sym, ap, subst}
use Rattle.net_core.specs.Value.{word, bit}
use Rattle.block_core.specs.Blocks.{BlockTree}
use Rattle.block_core.specs.declared.name.Name.{Name}
use Rattle.control_net.specs.declared.ring_net.shape.ControlShape.{ControlShape}
use Rattle.control_net.specs.declared.names.ControlNets.{ControlNets}
use Rattle.control_net.specs.Control.{first_state}
use Rattle.control_net.specs.Block.{lap_word, slot_word, code, IsControl}
use Rattle.control_net.specs.Trees.{zeros, control_tree}
use Rattle.control_net.proofs.Shown.{all_shown}
use Rattle.control_net.proofs.Clocked.{clocked}
use Rattle.control_net.proofs.Widths.{registers_are}
use Rattle.control_net.proofs.Formed.{typed, in_order, all_there, wires_spelled, statement_is_spelled, is_free, within}

map_replicate : {X Y : Type 0} (g : X → Y) (n : ℕ) (x : X) → map g (replicate n x) ≡ replicate n (g x)
map_replicate g zero x = refl
map_replicate g (suc n) x = ap (λ ys. g x ∷ ys) (map_replicate g n x)

module _ {P : Type 0} (c : ControlShape) (part of : P) (nets : ControlNets P) where
  first_is : (record { registers = zeros c; memories = [] }) ≡ code c (first_state c)
  first_is =
      let places = map_replicate bit (suc c.stages) false in
      let laps = map_replicate (lap_word c) (suc c.commit) 0 in
      let slots = map_replicate (slot_word c) (suc c.commit) 0 in
      λ j. record {
        registers = word 1 0 ∷ word c.slot_bits 0 ∷ word 1 0 ∷ word c.slot_bits 0 ∷ word 1 0 ∷ word c.slot_bits 0 ∷ word 1 0 ∷ word c.slot_bits 0 ∷ word 32 0 ∷ (sym places j ++ (sym laps j ++ sym slots j));
        memories = [];
      }

  pub is_control : IsControl c part of nets (control_tree c part of nets)
  is_control = record {
    registers = registers_are c;
    memories = refl;
    wires = refl;
    first = first_is;
    shows = λ i s v h e. all_shown c part of nets i s v h e;
    clock = λ i s v h e. clocked c part of nets i s v h e;
    goes = λ v. (refl, (refl, (refl, (refl, (refl, (refl, (refl, (refl, (refl, (refl, tt))))))))));
    within = within c part of nets;
    typed = λ d e n. typed c part of nets d e n;
    ordered = λ d before own n. in_order c part of nets d own before n;
    reads = λ d own n. all_there c part of nets d own n;
    wires_spelled = wires_spelled c part of nets;
    statement_spelled = statement_is_spelled c part of nets;
    free = is_free c part of nets;
  }

  pub made : (b : BlockTree (Name P)) → b ≡ control_tree c part of nets → IsControl c part of nets b
  made b e = subst (IsControl c part of nets) (sym e) is_control
