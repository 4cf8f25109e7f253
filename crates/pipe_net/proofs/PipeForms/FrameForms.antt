-- The parts of frames, and who is sent back, are in order and well typed.
use Rattle.std.specs.Prelude.{◌≡◌, ℕ, ◌+◌, ◌-◌, ◌<◌, ◌≤◌, [], ◌∷◌, length, IsTrue}
use Rattle.std.specs.List.{list_all}
use Rattle.std.proofs.Common.{get_or, refl, sym, ap, subst, arith, inr}
use Rattle.std.proofs.lemmas.List.{length-map}
use Rattle.block_core.specs.net_core.Ports.{port_list}
use Rattle.block_core.proofs.ProductBlocks.AloneLaws.{free_alone}
use Rattle.block_core.specs.declared.name.Name.{Name}
use Rattle.block_core.specs.declared.name.Name.TheVariants as name
use Rattle.block_core.specs.Blocks.{Whole, Among, registers_of, memories_of, wires_of}
use Rattle.block_core.specs.Parts.{Within}
use Rattle.block_core.specs.Order.{InOrder}
use Rattle.block_core.specs.Formed.{block_wire_width, word_width, name_width, IsThere}
use Rattle.block_core.specs.BlockForms.WellFormed.{wire_spelled}
use Rattle.turn_net.specs.cell_nets.declared.operand.Operand.TheVariants.{Net}
use Rattle.control_net.specs.declared.ring_net.names.Counter.{Counter}
use Rattle.control_net.specs.declared.ring_net.names.Counter.TheVariants.{Given, Answered, Injected, Gathered}
use Rattle.control_net.specs.Block.{AreNets}
use Rattle.control_net.specs.Returns.{reload_name}
use Rattle.commit_net.specs.frame_net.ScatterNet.Scatter.{last_name}
use Rattle.stage_net.specs.row_net.PlaceNet.Exit.{output_operands}
use Rattle.read_net.specs.TouchNet.Marking.{mark_operands}
use Rattle.pipe_net.specs.declared.parts.Part.{Part}
use Rattle.pipe_net.specs.Parts as part
use Rattle.pipe_net.specs.Parts.{part_count, behind_words, behind_maps}
use Rattle.pipe_net.specs.Layout.{Layout, last_of, commit_of}
use Rattle.pipe_net.specs.PipeFrames.Parts.{next_slot, has_begun, read_by_control}
use Rattle.pipe_net.specs.PipeForms.Parts.{AreParts}
use Rattle.pipe_net.proofs.PipeForms.EarlierLemmas.{earlier, IsEarly, IsReady, among_earlier, early_there, ready_declared, ready_is_there, ready_offers}
use Rattle.pipe_net.proofs.PipeForms.HeldLemmas.{among, commit_within, answer_ready}
use Rattle.pipe_net.proofs.PipeForms.ActionLemmas.{commit_shape, control_there, told_width, holds_width, back_ready, stays_ready}
use Rattle.pipe_net.proofs.PipeForms.MarkLemmas.{reloads_ready}
use Rattle.pipe_net.proofs.PipeForms.GoodLemmas.{IsGood, within_idle, good_wiring}

module _ (l : Layout) (d : Whole Part) (parts : AreParts l d) where
  abbrev gather : Part
  gather = part.gather l.sizes

  abbrev control : Part
  control = part.control l.sizes

  pub gather_there : Among gather d.parts
  gather_there = among l d parts _ (omega arith)

  pub exit_there : Among (part.exit l.sizes) d.parts
  exit_there = among l d parts _ (omega arith)

  pub scatter_there : Among part.scatter d.parts
  scatter_there = among l d parts 0 (omega arith)

  slot_width : (c : Counter) → name_width d port_list (next_slot l.sizes c) ≡ l.shape.slot_bits
  slot_width Given = ap (λ ws. get_or ws 1 0) parts.frames.control.registers
  slot_width Answered = ap (λ ws. get_or ws 3 0) parts.frames.control.registers
  slot_width Injected = ap (λ ws. get_or ws 5 0) parts.frames.control.registers
  slot_width Gathered = ap (λ ws. get_or ws 7 0) parts.frames.control.registers

  -- ---- the beats of answers
  scatter_within : Within (registers_of (d.block part.scatter)) (memories_of (d.block part.scatter)) (d.block part.scatter).statement
  scatter_within =
      let e = ap length parts.frames.scatter.registers in
      let f = length-map (d.block part.scatter).registers word_width in
      let n : registers_of (d.block part.scatter) ≡ 1 = omega (arith, e, f) in
      let m : memories_of (d.block part.scatter) ≡ 0 = ap length parts.frames.scatter.memories in
      rw (n, m) parts.frames.scatter.within

  pub scatter_good : IsGood d 0
  scatter_good =
      let is = parts.frames.scatter in
      record {
        typed = is.typed d refl (told_width l d parts 8 (omega arith)) (slot_width Given) parts.frames.gather.memories parts.frames.exit.memories;
        ordered = is.ordered d [] scatter_there gather_there exit_there (control_there l d parts);
        reads = is.reads d scatter_there (control_there l d parts);
        within = scatter_within;
        wires_spelled = is.wires_spelled;
        spelled = is.spelled;
        alone = free_alone part.scatter (d.block part.scatter) is.free;
      }

  -- ---- which packets must reload
  pub reload_good : (k : ℕ) → k ≤ commit_of l → IsGood d (1 + k)
  reload_good k q = good_wiring d (1 + k) (mark_operands (parts.marks k q).reloads) (parts.marks k q).reload.wiring (reloads_ready l d parts (1 + k) k q)

  reload_ready : (n : ℕ) → 2 + l.sizes.commit ≤ n → (k : ℕ) → k ≤ commit_of l → IsReady d n (Net (reload_name l.reload k) 1)
  reload_ready n late k q =
      let e = parts.sized.commit in
      ready_offers d (1 + k) n (omega (arith, late, q, e)) (mark_operands (parts.marks k q).reloads) (Net (reload_name l.reload k) 1 ∷ []) (parts.marks k q).reload.offers (reloads_ready l d parts (1 + k) k q) (Net (reload_name l.reload k) 1) (0, omega arith, refl)

  -- ---- who is sent back
  abbrev returns_at : ℕ
  returns_at = 2 + l.sizes.commit

  in_commit : (k : ℕ) → k ≤ l.shape.commit → k ≤ commit_of l
  in_commit k q = let e = commit_shape l d parts in omega (arith, q, e)

  in_last : (k : ℕ) → k ≤ commit_of l → k ≤ last_of l
  in_last k q = let c = commit_within l d parts in omega (arith, q, c)

  pub returns_good : IsGood d returns_at
  returns_good =
      let is = parts.frames.returns in
      record {
        typed = is.typed d refl (λ k q. holds_width l d parts k (in_last k (in_commit k q))) (λ k q. (reload_ready returns_at (omega arith) k (in_commit k q)).1);
        ordered = is.ordered d (earlier returns_at) (control_there l d parts) (λ k q. (reload_ready returns_at (omega arith) k (in_commit k q)).0);
        reads = is.reads d;
        within = within_idle (d.block (part.returns l.sizes)) is.registers is.memories is.within;
        wires_spelled = is.wires_spelled;
        spelled = is.statement_spelled;
        alone = free_alone (part.returns l.sizes) (d.block (part.returns l.sizes)) is.free;
      }

  -- ---- what is shown of a frame
  pub sources_good : IsGood d (3 + l.sizes.commit)
  sources_good =
      let is = parts.frames.sources in
      record {
        typed = is.typed d refl (slot_width Injected) parts.frames.gather.memories;
        ordered = is.ordered d (earlier (3 + l.sizes.commit)) (among l d parts _ (omega arith)) gather_there (control_there l d parts);
        reads = is.reads d;
        within = within_idle (d.block (part.sources l.sizes)) is.registers is.memories is.within;
        wires_spelled = is.wires_spelled;
        spelled = is.spelled;
        alone = free_alone (part.sources l.sizes) (d.block (part.sources l.sizes)) is.free;
      }

  -- ---- control
  abbrev control_at : ℕ
  control_at = behind_maps l.sizes

  scatter_count : 3 < wires_of (d.block part.scatter)
  scatter_count =
      let e = ap length parts.frames.scatter.wires in
      let f = length-map (d.block part.scatter).wires block_wire_width in
      omega (arith, e, f)

  begun_width : name_width d port_list (has_begun l.sizes) ≡ 1
  begun_width = ap (λ ws. get_or ws 0 0) parts.frames.gather.registers

  last_width : name_width d port_list (last_name part.scatter) ≡ 1
  last_width = ap (λ ws. get_or ws 3 0) parts.frames.scatter.wires

  -- the nets that it reads
  nets_are : (Q : Name Part → Type 0) → Q (has_begun l.sizes) → Q (last_name part.scatter) → Q l.stays → ((k : ℕ) → k ≤ l.shape.commit → Q (name.Wire (part.returns l.sizes) (l.shape.commit - k))) → AreNets Q l.shape (part.returns l.sizes) (read_by_control l)
  nets_are Q a b c e = record { partial = a; last = b; stalls = c; back = e }

  back_is : (k : ℕ) → k ≤ l.shape.commit → IsReady d control_at (Net (name.Wire (part.returns l.sizes) (l.shape.commit - k)) 1)
  back_is k q = back_ready l d parts control_at (omega arith) k (in_commit k q)

  pub control_good : IsGood d control_at
  control_good =
      let is = parts.frames.control in
      let here = control_there l d parts in
      let there : (x : Name Part) → IsEarly d control_at x → IsThere d x = λ x h. early_there d (part_count l.sizes) (among l d parts) control_at (omega arith) x h in
      let stays = stays_ready l d parts control_at (omega arith) in
      let last : IsEarly d control_at (last_name part.scatter) = inr (among_earlier control_at 0 (omega arith), scatter_count) in
      record {
        typed = is.typed d refl (nets_are (λ n. name_width d port_list n ≡ 1) begun_width last_width stays.1 (λ k q. (back_is k q).1));
        ordered = is.ordered d (earlier control_at) here (nets_are (IsEarly d control_at) gather_there last stays.0 (λ k q. (back_is k q).0));
        reads = is.reads d here (nets_are (IsThere d) gather_there scatter_there (there l.stays stays.0) (λ k q. there (name.Wire (part.returns l.sizes) (l.shape.commit - k)) (back_is k q).0));
        within = is.within;
        wires_spelled = is.wires_spelled;
        spelled = is.statement_spelled;
        alone = free_alone control (d.block control) is.free;
      }

  -- ---- the beats that come
  abbrev gather_at : ℕ
  gather_at = behind_maps l.sizes + l.sizes.commit + 3

  control_count : 8 < wires_of (d.block control)
  control_count = let e = ap length parts.frames.control.wires in let f = length-map (d.block control).wires block_wire_width in omega (arith, e, f)

  pub gather_good : IsGood d gather_at
  gather_good =
      let is = parts.frames.gather in
      let c = control_count in
      record {
        typed = is.typed d refl (told_width l d parts 1 (omega arith)) (slot_width Gathered);
        ordered = is.ordered d (earlier gather_at) gather_there (inr (among_earlier gather_at control_at (omega arith), omega (arith, c))) (control_there l d parts);
        reads = is.reads d gather_there (control_there l d parts) (control_there l d parts);
        within = is.within;
        wires_spelled = is.wires_spelled;
        spelled = is.spelled;
        alone = free_alone gather (d.block gather) is.free;
      }

  -- ---- the answers
  abbrev exit_at : ℕ
  exit_at = behind_maps l.sizes + l.sizes.commit + 4

  pub exit_good : IsGood d exit_at
  exit_good =
      let is = parts.frames.exit in
      let ready = answer_ready l d parts exit_at in
      record {
        typed = is.typed d (told_width l d parts 5 (omega arith)) (slot_width Answered) (ready_declared d exit_at (output_operands l.answer) ready);
        ordered = subst (λ ws. InOrder d (earlier exit_at) (part.exit l.sizes) 0 ws) (sym is.wires) tt;
        reads = is.reads d (control_there l d parts) (control_there l d parts) (ready_is_there d (part_count l.sizes) (among l d parts) exit_at (omega arith) (output_operands l.answer) ready);
        within = is.within;
        wires_spelled = subst (λ ws. IsTrue (list_all wire_spelled ws)) (sym is.wires) refl;
        spelled = is.spelled;
        alone = free_alone (part.exit l.sizes) (d.block (part.exit l.sizes)) is.free;
      }
