-- The edge of a state in which no net is active is that of the clock.
use Rattle.std.proofs.Common.{◌≡◌, ℕ, suc, ◌^◌, ◌<◌, false, None, List, [], ◌∷◌, ◌++◌, length, map, drop, get_or, refl, sym, ap, ◌∙◌, arith}
use Rattle.std.specs.Prelude.{All}
use Rattle.std.proofs.lemmas.Bool.{and_parts}
use Rattle.std.proofs.lemmas.List.{drop_at, get_or_append_left, get_or_default, length-map}
use Rattle.net_core.specs.declared.tree.Word.{Word}
use Rattle.net_core.specs.declared.tree.Net.{Net}
use Rattle.net_core.specs.declared.design.Assign.{Assign}
use Rattle.net_core.specs.declared.design.Design.{Design}
use Rattle.net_core.specs.Nets.{StatementTree, SBlock, SEnd}
use Rattle.net_core.specs.Value.{nothing, value}
use Rattle.net_core.specs.Clock.{Stored, env, env_of, with_wires, stopping, done, edge, after, shown}
use Rattle.net_core.specs.Width.{memory_widths}
use Rattle.net_core.specs.Ports.{port_list, output_width}
use Rattle.net_core.specs.View.{netlist_of, wire_of, assign_of}
use Rattle.design_rules.specs.FormedScope.{sorts, reads_known}
use Rattle.design_rules.specs.FormedSyntax.{trees_pass}
use Rattle.design_rules.specs.Formed.{targets_known}
use Rattle.design_rules.proofs.FormedItemLaws.{block_kept}
use Rattle.design_rules.proofs.FormedWidthLaws.{typed}
use Rattle.design_rules.proofs.SolvedWires.SolvingLaws.{wires_counted}
use Rattle.clock_sim.specs.Ready.{IsStored}
use Rattle.clock_sim.proofs.ReadableLaws.{after_stored, outputs_fit}
use Rattle.event_sim.specs.declared.values.Values.{Values}
use Rattle.event_sim.specs.Events.{State, IsQuiet}
use Rattle.event_sim.specs.Orders.{IsOrder, blocks_in}
use Rattle.event_sim.specs.Shapes.{HaveOneShape}
use Rattle.event_sim.specs.Showing.{stored_for}
use Rattle.event_sim.specs.Views.{state_of}
use Rattle.event_sim.specs.Inside.{IsState}
use Rattle.event_sim.proofs.Locality.{same_done}
use Rattle.event_sim.proofs.Settling.{nets_agree}
use Rattle.event_sim.proofs.Ended.{quiet_settled}
use Rattle.event_sim.proofs.Blocks.{any_order, order_below}
use Rattle.event_sim.proofs.States.{formed_of}
use Rattle.event_sim.proofs.Walks.{stored_is}

abbrev skip : StatementTree Net
skip = SBlock SEnd

module _ (s : State) (is : IsState s) (quiet : IsQuiet s) (none : stopping s.netlist s.ins s.stored ≡ None) where
  nets_are : s.nets ≡ with_wires s.ins s.stored [] s.netlist.wires ++ map (λ a. value (env_of s.netlist s.ins s.stored) a.value) s.netlist.assigns
  nets_are = (quiet_settled s (formed_of s is) quiet).clock none

  -- ---- outputs
  pub shown_is : (words : List Word) → words ≡ drop (length s.netlist.wires) s.nets → (port : ℕ) → stored_for s.netlist.assigns words port ≡ shown s.netlist s.ins s.stored port
  shown_is words e port =
      let behind : words ≡ map (λ a. value (env_of s.netlist s.ins s.stored) a.value) s.netlist.assigns =
      e ∙ ap (drop (length s.netlist.wires)) nets_are ∙ drop_at (with_wires s.ins s.stored [] s.netlist.wires) (map (λ a. value (env_of s.netlist s.ins s.stored) a.value) s.netlist.assigns) (length s.netlist.wires) (wires_counted s.netlist s.ins s.stored s.netlist.wires) in
      ap (λ l. stored_for s.netlist.assigns l port) behind ∙ stored_is (env_of s.netlist s.ins s.stored) s.netlist.assigns port

  -- ---- blocks
  one_block : (k : ℕ) → k < length s.netlist.always → (t : Stored) → done (env s.ins s.stored s.nets) (get_or s.netlist.always k skip) t ≡ done (env_of s.netlist s.ins s.stored) (get_or s.netlist.always k skip) t
  one_block k l t =
      let a = get_or s.netlist.always k skip in
      let known = (block_kept s.netlist is.formed k a l (get_or_default s.netlist.always k skip a l)).known in
      let reads = (and_parts (targets_known s.netlist a) (trees_pass (reads_known (sorts s.netlist (length s.netlist.wires))) a) known).1 in
      let count = wires_counted s.netlist s.ins s.stored s.netlist.wires in
      same_done (sorts s.netlist (length s.netlist.wires)) (env s.ins s.stored s.nets) (env_of s.netlist s.ins s.stored) (λ m i. refl)
      (nets_agree s.netlist s.ins s.stored (length s.netlist.wires) (length s.netlist.wires) s.nets (with_wires s.ins s.stored [] s.netlist.wires) (omega arith)
      (λ j m. ap (λ ws. get_or ws j nothing) nets_are ∙ get_or_append_left (with_wires s.ins s.stored [] s.netlist.wires) (map (λ a. value (env_of s.netlist s.ins s.stored) a.value) s.netlist.assigns) nothing j (omega (arith, m, count)))) a t reads

  blocks_same : (order : List ℕ) (t : Stored) → All (λ k. k < length s.netlist.always) order → edge (env s.ins s.stored s.nets) (blocks_in order s.netlist.always) t ≡ edge (env_of s.netlist s.ins s.stored) (blocks_in order s.netlist.always) t
  blocks_same [] t h = refl
  blocks_same (k ∷ order) t h =
      ap (edge (env s.ins s.stored s.nets) (blocks_in order s.netlist.always)) (one_block k (h 0 k (omega arith)) t)
      ∙ blocks_same order (done (env_of s.netlist s.ins s.stored) (get_or s.netlist.always k skip) t) (λ j d l. h (suc j) d (omega (arith, l)))

  pub blocks_are : (order : List ℕ) → IsOrder (length s.netlist.always) order → edge (env s.ins s.stored s.nets) (blocks_in order s.netlist.always) s.stored ≡ after s.netlist s.ins s.stored
  blocks_are order o = blocks_same order s.stored (order_below (length s.netlist.always) order o) ∙ any_order s.netlist is.formed s.ins s.stored order o

-- ---- what is stored
pub one_shape : (s : State) → IsState s → HaveOneShape s.stored (after s.netlist s.ins s.stored)
one_shape s is = record {
  registers = is.stored.registers ∙ sym later.registers;
  memories = is.stored.memories ∙ sym later.memories;
  memory = λ m l. (is.stored.memory m (inside m l)).count ∙ sym (later.memory m (inside m l)).count;
}
  where
    later : IsStored s.netlist.declared (after s.netlist s.ins s.stored)
    later = let t = typed s.netlist is.formed in after_stored s.netlist t.ports s.ins is.ports s.stored is.stored t.wires t.always

    inside : (m : ℕ) → m < length s.stored.memories → m < length (memory_widths s.netlist.declared)
    inside m l = omega (arith, l, is.stored.memories)

pub after_is_stored : (s : State) → IsState s → IsStored s.netlist.declared (after s.netlist s.ins s.stored)
after_is_stored s is = let t = typed s.netlist is.formed in after_stored s.netlist t.ports s.ins is.ports s.stored is.stored t.wires t.always

pub shown_fit : (s : State) → IsState s → (port : ℕ) → (shown s.netlist s.ins s.stored port).value < 2 ^ output_width (get_or port_list port (record { output = false; width = 0 }))
shown_fit s is port = let t = typed s.netlist is.formed in outputs_fit s.netlist t.ports s.ins is.ports s.stored is.stored t.wires s.netlist.assigns t.assigns port

-- ---- in memory
module _ (d : Design) (v : Values) (is : IsState (state_of d v)) (quiet : IsQuiet (state_of d v)) (none : stopping (netlist_of d) v.ports.items v.held ≡ None) where
  pub outputs_found : (as_ : List Assign) → as_ ≡ d.assigns.items → (words : List Word) → words ≡ drop (length d.wires.items) v.nets.items → (port : ℕ) → stored_for (map assign_of as_) words port ≡ shown (netlist_of d) v.ports.items v.held port
  outputs_found as_ same words e port =
      ap (λ l. stored_for (map assign_of l) words port) same
      ∙ shown_is (state_of d v) is quiet none words (e ∙ ap (λ n. drop n v.nets.items) (sym (length-map d.wires.items wire_of))) port
