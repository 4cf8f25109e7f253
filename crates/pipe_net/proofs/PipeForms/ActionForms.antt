-- The parts that say what the host may do, what operations write, and which one commits, are in order and well typed.
use Rattle.std.specs.Prelude.{◌≡◌, ℕ, ◌+◌, ◌<◌, All, List, length, true}
use Rattle.std.proofs.Common.{get_or, refl, sym, ap, ◌∙◌, subst, arith, inl}
use Rattle.std.proofs.lemmas.List.{length-map, get_or_default}
use Rattle.block_core.specs.net_core.Nets.{Tree, TConst}
use Rattle.block_core.specs.net_core.Ports.{port_list}
use Rattle.block_core.specs.net_core.Value.{nothing}
use Rattle.block_core.specs.net_core.Width.{width_of}
use Rattle.block_core.specs.net_core.ProductRules.Products.{is_flat}
use Rattle.block_core.proofs.ProductBlocks.AloneLaws.{free_alone}
use Rattle.block_core.specs.declared.name.Name.{Name}
use Rattle.block_core.specs.Blocks.{Whole}
use Rattle.block_core.specs.Order.{Reads, IsBefore}
use Rattle.block_core.specs.Formed.{names_scope, name_width, word_width}
use Rattle.control_net.specs.declared.ring_net.names.Counter.TheVariants.{Given}
use Rattle.control_net.specs.declared.ring_net.names.Register.TheVariants.{Slot}
use Rattle.control_net.specs.RingNet.Names.{register_name}
use Rattle.commit_net.specs.MapBlock.Stored.{host_may}
use Rattle.turn_net.specs.HostNet.Host.{may_tree, IsShallow, HaveWidths}
use Rattle.turn_net.specs.Nets.{outside}
use Rattle.turn_net.specs.TargetNet.Targets.{outside_of}
use Rattle.pipe_net.specs.declared.parts.Part.{Part}
use Rattle.pipe_net.specs.Parts as part
use Rattle.pipe_net.specs.Parts.{part_count, behind_words}
use Rattle.pipe_net.specs.Layout.{Layout, commit_of}
use Rattle.pipe_net.specs.PipeTurns.Maps.{taken_slots}
use Rattle.pipe_net.specs.PipeTurns.Parts.{idle_net, done_net, host_nets, action_nets, form_at}
use Rattle.pipe_net.specs.PipeForms.Parts.{AreParts}
use Rattle.pipe_net.proofs.PipeForms.EarlierLemmas.{earlier, ready_declared, ready_early, ready_is_there}
use Rattle.pipe_net.proofs.PipeForms.HeldLemmas.{among, commit_within}
use Rattle.pipe_net.proofs.PipeForms.MapLemmas.{map_parts, of_map_there}
use Rattle.pipe_net.proofs.PipeForms.ActionLemmas.{action_there, control_there, holds_width, targets_read, action_ready, chosen_ready}
use Rattle.pipe_net.proofs.PipeForms.FrameForms.{gather_there, control_good}
use Rattle.pipe_net.proofs.PipeForms.GoodLemmas.{IsGood, within_idle, good_wiring, some_bits}

-- what holds of each tree, in turn, holds of all
all_may : {N : Type 0} (Q : Tree N → Type 0) (may : List (Tree N)) → ((m : ℕ) → m < length may → Q (may_tree may m)) → All Q may
all_may Q may h m c lt = subst Q (get_or_default may m (TConst nothing) c lt) (h m lt)

module _ (l : Layout) (d : Whole Part) (parts : AreParts l d) where
  -- ---- what operations write
  pub targets_good : (m : ℕ) → m < length l.decls → IsGood d (behind_words l.sizes + m)
  targets_good m there =
      good_wiring d (behind_words l.sizes + m) (outside_of (parts.actions.maps m) (parts.actions.own m) (taken_slots l)) (parts.actions.writes m there).block.wiring (targets_read l d parts (behind_words l.sizes + m) (omega arith) m there)

  -- ---- which one commits
  abbrev action_at : ℕ
  action_at = behind_words l.sizes + l.sizes.maps + 1

  pub action_good : IsGood d action_at
  action_good =
      let is = parts.actions.action in
      let ins = outside (action_nets l) l.records in
      let here = action_there l d parts in
      let ready = action_ready l d parts action_at (omega arith) in
      record {
        typed = is.typed d refl (ready_declared d action_at ins ready);
        ordered = is.ordered d (earlier action_at) here (ready_early d action_at ins ready);
        reads = is.reads d here (ready_is_there d (part_count l.sizes) (among l d parts) action_at (omega arith) ins ready);
        within = is.within;
        wires_spelled = is.wires_spelled;
        spelled = is.spelled;
        alone = free_alone (part.action l.sizes) (d.block (part.action l.sizes)) is.free;
      }

  pub commits_good : IsGood d (behind_words l.sizes + l.sizes.maps + 2)
  commits_good = good_wiring d (behind_words l.sizes + l.sizes.maps + 2) parts.actions.chosen parts.actions.says.wiring (chosen_ready l d parts (behind_words l.sizes + l.sizes.maps + 2) (omega arith))

  -- ---- what the host may do
  abbrev host_at : ℕ
  host_at = behind_words l.sizes + l.sizes.maps

  -- registers of control and of the action have bits
  slot_some : 0 < name_width d port_list (register_name (part.control l.sizes) (Slot Given))
  slot_some =
      let rs = (d.block (part.control l.sizes)).registers in
      let count = ap length parts.frames.control.registers in
      let same = length-map rs word_width in
      some_bits rs (control_good l d parts).typed.registers 1 (omega (arith, count, same))

  done_some : 0 < name_width d port_list (done_net l)
  done_some =
      let rs = (d.block (part.action l.sizes)).registers in
      let count = ap length parts.actions.action.registers in
      let same = length-map rs word_width in
      some_bits rs action_good.typed.registers 0 (omega (arith, count, same))

  host_widths : HaveWidths (names_scope d port_list) (host_nets l)
  host_widths = record {
    partial = ap (λ ws. get_or ws 0 0) parts.frames.gather.registers;
    present = holds_width l d parts (commit_of l) (commit_within l d parts);
    done = done_some;
    given_lap = ap (λ ws. get_or ws 0 0) parts.frames.control.registers;
    gathered_lap = ap (λ ws. get_or ws 6 0) parts.frames.control.registers;
    slot_some = slot_some;
    slots = ap (λ ws. get_or ws 7 0) parts.frames.control.registers ∙ sym (ap (λ ws. get_or ws 1 0) parts.frames.control.registers);
  }

  -- what a map says of its tree
  may_holds : (Q : Tree (Name Part) → Type 0) → ((m : ℕ) → m < length l.decls → Q (host_may (form_at l m) (part.own l.sizes m) (idle_net l))) → All Q parts.actions.may
  may_holds Q h = all_may Q parts.actions.may (λ m lt. let count = parts.actions.many in let there : m < length l.decls = omega (arith, lt, count) in subst Q (sym (parts.actions.lets m there)) (h m there))

  idle_width : name_width d port_list (idle_net l) ≡ 1
  idle_width = ap (λ ws. get_or ws 0 0) parts.actions.host.wires

  may_typed : All (λ t. width_of (names_scope d port_list) t ≡ 1) parts.actions.may
  may_typed = may_holds (λ t. width_of (names_scope d port_list) t ≡ 1) (λ m there. (parts.maps.maps m there).map.formed.may.typed d (map_parts l d parts m there) idle_width)

  may_reads : All (Reads (IsBefore d (earlier host_at) (part.host l.sizes) 2)) parts.actions.may
  may_reads =
      may_holds (Reads (IsBefore d (earlier host_at) (part.host l.sizes) 2))
      (λ m there. (parts.maps.maps m there).map.formed.may.reads d (earlier host_at) (part.host l.sizes) 2 (of_map_there l d parts m there 3 (omega arith)) (inl (refl, omega arith)))

  may_shallow : All IsShallow parts.actions.may
  may_shallow = may_holds IsShallow (λ m there. let t = (parts.maps.maps m there).map.formed.may in let low = t.low in record { low = omega (arith, low); apart = t.apart })

  may_flat : (made : Name Part → _) → All (λ t. is_flat made t ≡ true) parts.actions.may
  may_flat made = may_holds (λ t. is_flat made t ≡ true) (λ m there. (parts.maps.maps m there).map.formed.may.flat made)

  pub host_good : IsGood d host_at
  host_good =
      let is = parts.actions.host in
      let count = parts.actions.many in
      let maps = parts.sized.maps in
      let small = parts.sized.small.maps in
      let control = control_there l d parts in
      record {
        typed = is.typed d refl host_widths may_typed;
        ordered = is.ordered d (earlier host_at) control (record { partial = gather_there l d parts; present = control; done = action_there l d parts }) may_reads;
        reads = is.reads d;
        within = within_idle (d.block (part.host l.sizes)) is.registers is.memories is.within;
        wires_spelled = is.wires_spelled (omega (arith, count, maps, small)) may_shallow;
        spelled = is.statement_spelled;
        alone = free_alone (part.host l.sizes) (d.block (part.host l.sizes)) (is.free may_flat);
      }
