-- Control's block is well typed, stands in order, reads what it may, can be spelled, and has no product.
use Rattle.std.specs.Prelude.{◌≡◌, ℕ, suc, ◌+◌, ◌-◌, ◌<◌, ◌≤◌, ◌==◌, nat_le, ◌&&◌, cond, Bool, true, List, [], length}
use Rattle.std.specs.List.{list_all}
use Rattle.std.proofs.Common.{get_or, refl, ap, ◌∙◌, arith, inl}
use Rattle.std.proofs.lemmas.Bool.{and_from, le-leb, leb-true, eq-eqb}
use Rattle.std.proofs.lemmas.Nat.{pow_pos}
use Rattle.net_core.specs.Chains.{all_of}
use Rattle.net_core.specs.declared.tree.Op.{Op}
use Rattle.net_core.specs.declared.tree.Op.TheVariants.{Add, And, Or, Equal, NotEqual}
use Rattle.net_core.specs.declared.tree.UnaryOp.TheVariants.{Not}
use Rattle.net_core.specs.declared.ports.TheConstants.{IN_VALID, IN_LAST, OUT_READY}
use Rattle.net_core.specs.Ports.{port_list}
use Rattle.net_core.specs.Nets.{Tree, TConst, TRead, TUnary, TBinary, TConditional, StatementTree, SIf, SSet}
use Rattle.net_core.specs.Value.{word}
use Rattle.net_core.specs.Width.{Scope, width_of, test_width, op_width, conditional_width, same, statement_typed}
use Rattle.block_core.specs.design_rules.FormedSyntax.{tree_spelled, statement_depth, elses_placed, trees_pass, statement_spelled}
use Rattle.net_core.specs.ProductRules.Products.{is_flat}
use Rattle.block_core.specs.ProductBlocks.Alone.{IsFree}
use Rattle.block_core.specs.declared.name.Name.{Name}
use Rattle.block_core.specs.declared.name.Name.TheVariants as name
use Rattle.block_core.specs.Blocks.{Whole, Among}
use Rattle.block_core.specs.Parts.{Within}
use Rattle.block_core.specs.Order.{Reads, IsBefore, InOrder}
use Rattle.block_core.specs.Formed.{block_registers, block_wires, block_wires_typed, name_width, names_scope, IsTypedBlock, StatementReads, IsThere}
use Rattle.block_core.specs.BlockForms.WellFormed.{wire_spelled}
use Rattle.block_core.proofs.list_laws_laws.BoolLaws.{by_test}
use Rattle.block_core.proofs.OrderLaws.{still_before}
use Rattle.control_net.specs.declared.ring_net.shape.ControlShape.{ControlShape}
use Rattle.control_net.specs.declared.ring_net.names.Counter.{Counter}
use Rattle.control_net.specs.declared.ring_net.names.Counter.TheVariants.{Given, Answered, Injected, Gathered}
use Rattle.control_net.specs.declared.ring_net.names.Register.TheVariants.{Lap, Slot, Passed, Holds}
use Rattle.control_net.specs.RingNet.Names.{register_number}
use Rattle.control_net.specs.RingNet.Trees.{register, compared, both, at_end, counting}
use Rattle.control_net.proofs.RingNet.Formed.{same_self, test_self, choice_self, sum_self, const_fits, one_small}
use Rattle.control_net.specs.declared.names.Wire.{Wire}
use Rattle.control_net.specs.declared.names.Wire.TheVariants.{Ready, Over, Ends, Advances, Injects, Exits, Passes, Shown, Taken, Gone}
use Rattle.control_net.specs.declared.names.ControlNets.{ControlNets}
use Rattle.control_net.specs.Names.{lap_number, slot_number, lap_name, slot_name, wire_number, back_name}
use Rattle.control_net.specs.Block.{register_widths, AreNets}
use Rattle.control_net.specs.Trees.{before, by_place, wire, back_read, kept, enters, pass, resume, move, move_lap, move_slot, zeros, control_wires, control_statements, control_tree}
use Rattle.control_net.proofs.Lists.{by_before, all_typed, all_deep, all_elses, all_pass, all_flat, all_read, all_within}
use Rattle.control_net.proofs.Shown.{zeros_length}
use Rattle.control_net.proofs.Widths.{registers_are, lap_width, slot_width, holds_width, number_lap_width, number_slot_width, zeros_fit, bits, wire_width}

-- a place up to the commit place, or past it
by_place_kept : {P : Type 0} (c : ControlShape) (part of : P) (q : Tree (Name P) → Type 0) (k : ℕ) → (k ≤ c.commit → q (both (register part (Holds k)) (TUnary Not (back_read c of k)))) → q (register part (Holds k)) → q (kept c part of k)
by_place_kept c part of q k h g = by_test (λ b. q (cond b (both (register part (Holds k)) (TUnary Not (back_read c of k))) (register part (Holds k)))) (nat_le k c.commit) (λ t. h (leb-true k c.commit t)) (λ t. g)

-- ---- widths
module _ {P : Type 0} (c : ControlShape) (part of : P) (nets : ControlNets P) (s : Scope (Name P)) (r : (k : ℕ) → s.net (name.Register part k) ≡ get_or (register_widths c) k 0) (t : (k : ℕ) → s.net (name.Wire part k) ≡ get_or bits k 0)
    (others : AreNets (λ n. s.net n ≡ 1) c of nets) where
  lap_read : (k : Counter) → width_of s (register part (Lap k)) ≡ 1
  lap_read k = r (register_number (Lap k)) ∙ lap_width c k

  slot_read : (k : Counter) → width_of s (register part (Slot k)) ≡ c.slot_bits
  slot_read k = r (register_number (Slot k)) ∙ slot_width c k

  wire_read : (w : Wire) → width_of s (wire part w) ≡ 1
  wire_read w = t (wire_number w) ∙ wire_width w

  kept_width : (k : ℕ) → k ≤ c.stages → width_of s (kept c part of k) ≡ 1
  kept_width k l =
      let holds : width_of s (register part (Holds k)) ≡ 1 = r (register_number (Holds k)) ∙ holds_width c k l in
      by_place_kept c part of (λ e. width_of s e ≡ 1) k (λ low j. op_width And (holds j) (others.back k low j)) holds

  enters_width : width_of s (enters c part of) ≡ 1
  enters_width = λ j. op_width And (wire_read Advances j) (others.back 0 (omega arith) j)

  compared_width : (op : Op) (a b : Counter) → op_width op 1 1 ≡ 1 → width_of s (compared part op a b) ≡ 1
  compared_width op a b e = (λ j. op_width Or (test_width (slot_read a j) (slot_read b j)) (op_width op (lap_read a j) (lap_read b j))) ∙ (λ j. op_width Or (test_self c.slot_bits c.wide j) (e j))

  -- ---- wires
  abbrev one_bit : ℕ → Bool
  one_bit w = same 1 w && nat_le 1 64

  pub wires_typed : s.net (name.Port IN_VALID) ≡ 1 → s.net (name.Port IN_LAST) ≡ 1 → s.net (name.Port OUT_READY) ≡ 1 → block_wires_typed s (control_wires c part of nets) ≡ true
  wires_typed in_valid in_last out_ready =
      λ j. one_bit (op_width Or (others.partial j) (compared_width Equal Gathered Given refl j))
      && (one_bit (op_width And (in_valid j) (wire_read Ready j))
      && (one_bit (op_width And (wire_read Over j) (in_last j))
      && (one_bit (others.stalls j)
      && (one_bit (op_width And (enters_width j) (compared_width NotEqual Gathered Injected refl j))
      && (one_bit (op_width And (wire_read Advances j) (kept_width c.stages (omega arith) j))
      && (one_bit (op_width And (wire_read Advances j) (kept_width c.commit c.within j))
      && (one_bit (compared_width NotEqual Answered Given refl j)
      && (one_bit (op_width And (wire_read Shown j) (out_ready j))
      && (one_bit (op_width And (wire_read Taken j) (others.last j)) && true)))))))))

  -- ---- the statement
  abbrev sets : StatementTree (Name P) → Bool
  sets a = statement_typed s (register_widths c) [] a

  set_typed : (k m : ℕ) (e : Tree (Name P)) → 0 < m → get_or (register_widths c) k 0 ≡ m → width_of s e ≡ m → sets (SSet k e) ≡ true
  set_typed k m e h f g = (λ j. same (f j) (g j)) ∙ same_self m h

  if_typed : (e : Tree (Name P)) (a : StatementTree (Name P)) → width_of s e ≡ 1 → sets a ≡ true → sets (SIf e a) ≡ true
  if_typed e a h k = and_from (width_of s e == 1) (sets a) (eq-eqb (width_of s e) 1 h) k

  end_width : (k : Counter) (m : ℕ) (a b : Tree (Name P)) → width_of s a ≡ m → width_of s b ≡ m → width_of s (at_end c part (Slot k) a b) ≡ m
  end_width k m a b e f =
      (λ j. conditional_width (test_width (slot_read k j) (const_fits c.slot_bits (c.slots - 1) (omega (arith, c.narrow)) (omega (arith, c.some, c.fits)) j)) (e j) (f j))
      ∙ (λ j. conditional_width (test_self c.slot_bits c.wide j) m m) ∙ choice_self m

  counting_typed : (k : Counter) → sets (counting c part k) ≡ true
  counting_typed k =
      let narrow : c.slot_bits ≤ 64 = omega (arith, c.narrow) in
      let one : Tree (Name P) = TConst (word c.slot_bits 1) in
      let none : Tree (Name P) = TConst (word c.slot_bits 0) in
      let turned : Tree (Name P) = TUnary Not (register part (Lap k)) in
      let more : Tree (Name P) = TBinary Add (register part (Slot k)) one in
      let one_width : width_of s one ≡ c.slot_bits = const_fits c.slot_bits 1 narrow (one_small c.slot_bits c.wide) in
      let none_width : width_of s none ≡ c.slot_bits = const_fits c.slot_bits 0 narrow (pow_pos c.slot_bits) in
      let more_width : width_of s more ≡ c.slot_bits = (λ j. op_width Add (slot_read k j) (one_width j)) ∙ sum_self c.slot_bits in
      let lap_set = set_typed (register_number (Lap k)) 1 (at_end c part (Slot k) turned (register part (Lap k))) (omega arith) (lap_width c k) (end_width k 1 turned (register part (Lap k)) (lap_read k) (lap_read k)) in
      let slot_set = set_typed (register_number (Slot k)) c.slot_bits (at_end c part (Slot k) none more) c.wide (slot_width c k) (end_width k c.slot_bits none more none_width more_width) in
      λ j. lap_set j && (slot_set j && true)

  pass_typed : sets (pass part) ≡ true
  pass_typed =
      let more : Tree (Name P) = TBinary Add (register part Passed) (TConst (word 32 1)) in
      if_typed (wire part Passes) (SSet 8 more) (wire_read Passes) (set_typed 8 32 more (omega arith) refl (λ j. op_width Add (r 8 j) 32))

  resume_typed : (k : ℕ) → k < 0 + suc c.commit → sets (resume c part of k) ≡ true
  resume_typed k l =
      let low : k ≤ c.commit = omega (arith, l) in
      let lap_set = set_typed 4 1 (TRead (lap_name c part k)) (omega arith) refl (r (lap_number c k) ∙ number_lap_width c k low) in
      let slot_set = set_typed 5 c.slot_bits (TRead (slot_name c part k)) c.wide refl (r (slot_number c k) ∙ number_slot_width c k low) in
      let back : width_of s (back_read c of k) ≡ 1 = others.back k low in
      and_from (width_of s (back_read c of k) == 1) _ (eq-eqb (width_of s (back_read c of k)) 1 back) (λ j. lap_set j && (slot_set j && true))

  move_typed : (k : ℕ) → k < 0 + suc c.stages → sets (move c part of k) ≡ true
  move_typed k l =
      let entering : width_of s (before (wire part Injects) (kept c part of) k) ≡ 1 = by_before (λ e. width_of s e ≡ 1) (wire part Injects) (kept c part of) k (wire_read Injects) (λ j m. kept_width j (omega (arith, l, m))) in
      set_typed (9 + k) 1 (TConditional (wire part Advances) (before (wire part Injects) (kept c part of) k) (kept c part of k)) (omega arith) (holds_width c k (omega (arith, l)))
      (λ j. conditional_width (wire_read Advances j) (entering j) (kept_width k (omega (arith, l)) j))

  move_lap_typed : (k : ℕ) → k < 0 + suc c.commit → sets (move_lap c part k) ≡ true
  move_lap_typed k l =
      set_typed (lap_number c k) 1 (before (register part (Lap Injected)) (λ j. TRead (lap_name c part j)) k) (omega arith) (number_lap_width c k (omega (arith, l)))
      (by_before (λ e. width_of s e ≡ 1) (register part (Lap Injected)) (λ j. TRead (lap_name c part j)) k (lap_read Injected) (λ j m. r (lap_number c j) ∙ number_lap_width c j (omega (arith, l, m))))

  move_slot_typed : (k : ℕ) → k < 0 + suc c.commit → sets (move_slot c part k) ≡ true
  move_slot_typed k l =
      set_typed (slot_number c k) c.slot_bits (before (register part (Slot Injected)) (λ j. TRead (slot_name c part j)) k) c.wide (number_slot_width c k (omega (arith, l)))
      (by_before (λ e. width_of s e ≡ c.slot_bits) (register part (Slot Injected)) (λ j. TRead (slot_name c part j)) k (slot_read Injected) (λ j m. r (slot_number c j) ∙ number_slot_width c j (omega (arith, l, m))))

  pub statement_is_typed : sets (all_of (control_statements c part of)) ≡ true
  statement_is_typed =
      let steps = λ (w : Wire) (k : Counter). if_typed (wire part w) (counting c part k) (wire_read w) (counting_typed k) in
      let resumed = all_typed (resume c part of) s (register_widths c) [] 0 (suc c.commit) resume_typed in
      let moved = all_typed (move c part of) s (register_widths c) [] 0 (suc c.stages) move_typed in
      let laps = if_typed (wire part Advances) (by_place (move_lap c part) (suc c.commit)) (wire_read Advances) (all_typed (move_lap c part) s (register_widths c) [] 0 (suc c.commit) move_lap_typed) in
      let slots = if_typed (wire part Advances) (by_place (move_slot c part) (suc c.commit)) (wire_read Advances) (all_typed (move_slot c part) s (register_widths c) [] 0 (suc c.commit) move_slot_typed) in
      λ j. steps Gone Given j && (steps Exits Answered j && (steps Injects Injected j && (steps Ends Gathered j && (pass_typed j && (resumed j && (moved j && (laps j && (slots j && true))))))))

pub typed : {P : Type 0} (c : ControlShape) (part of : P) (nets : ControlNets P) (d : Whole P) → d.block part ≡ control_tree c part of nets → AreNets (λ n. name_width d port_list n ≡ 1) c of nets → IsTypedBlock d port_list (control_tree c part of nets)
typed c part of nets d e others =
    let s = names_scope d port_list in
    let r = λ (k : ℕ). ap (λ b. get_or (block_registers b) k 0) e ∙ ap (λ rs. get_or rs k 0) (registers_are c) in
    let t = λ (k : ℕ). ap (λ b. get_or (block_wires b) k 0) e in
    record {
      registers = zeros_fit c;
      memories = refl;
      wires = wires_typed c part of nets s r t others refl refl refl;
      statement = ap (λ rs. statement_typed s rs [] (all_of (control_statements c part of))) (registers_are c) ∙ statement_is_typed c part of nets s r t others;
    }

-- ---- what is read
module _ {P : Type 0} (c : ControlShape) (part of : P) (nets : ControlNets P) (d : Whole P) (own : Among part d.parts) where
  pub in_order : (before : List P) → AreNets (IsBefore d before part 0) c of nets → InOrder d before part 0 (control_wires c part of nets)
  in_order bs n =
      let two : (Among part d.parts × Among part d.parts) × (Among part d.parts × Among part d.parts) = ((own, own), (own, own)) in
      let back = λ (at k : ℕ) (l : k ≤ c.commit). still_before d bs part at (back_name c of k) (n.back k l) in
      let keeps = λ (at k : ℕ). by_place_kept c part of (Reads (IsBefore d bs part at)) k (λ l. (own, back at k l)) own in (
        (still_before d bs part 0 nets.partial n.partial, two),
        (
          (tt, inl (refl, omega arith)),
          (
            (inl (refl, omega arith), tt),
            (
              still_before d bs part 3 nets.stalls n.stalls,
              (
                ((inl (refl, omega arith), back 4 0 (omega arith)), two),
                (
                  (inl (refl, omega arith), keeps 5 c.stages),
                  (
                    (inl (refl, omega arith), keeps 6 c.commit),
                    (
                      two,
                      (
                        (inl (refl, omega arith), tt),
                        ((inl (refl, omega arith), still_before d bs part 9 nets.last n.last), tt),
                      ),
                    ),
                  ),
                ),
              ),
            ),
          ),
        ),
      )

  counted : (k : Counter) → StatementReads (IsThere d) (counting c part k)
  counted k = (((own, tt), own, own), (((own, tt), tt, (own, tt)), tt))

  pub all_there : AreNets (IsThere d) c of nets → StatementReads (IsThere d) (all_of (control_statements c part of))
  all_there n =
      let keeps = λ (k : ℕ). by_place_kept c part of (Reads (IsThere d)) k (λ l. (own, n.back k l)) own in
      let befores = λ (e : Tree (Name P)) (g : ℕ → Tree (Name P)) (k : ℕ) (h : Reads (IsThere d) e) (f : (j : ℕ) → Reads (IsThere d) (g j)). by_before (Reads (IsThere d)) e g k h (λ j l. f j) in (
        (own, counted Given),
        (
          (own, counted Answered),
          (
            (own, counted Injected),
            (
              (own, counted Gathered),
              (
                (own, (own, tt)),
                (
                  all_read (resume c part of) (IsThere d) 0 (suc c.commit) (λ k l. (n.back k (omega (arith, l)), (own, (own, tt)))),
                  (
                    all_read (move c part of) (IsThere d) 0 (suc c.stages) (λ k l. (own, befores (wire part Injects) (kept c part of) k own keeps, keeps k)),
                    (
                      (own, all_read (move_lap c part) (IsThere d) 0 (suc c.commit) (λ k l. befores (register part (Lap Injected)) (λ j. TRead (lap_name c part j)) k own (λ j. own))),
                      (
                        (own, all_read (move_slot c part) (IsThere d) 0 (suc c.commit) (λ k l. befores (register part (Slot Injected)) (λ j. TRead (slot_name c part j)) k own (λ j. own))),
                        tt,
                      ),
                    ),
                  ),
                ),
              ),
            ),
          ),
        ),
      )

-- ---- spelling, products and what is set
module _ {P : Type 0} (c : ControlShape) (part of : P) (nets : ControlNets P) where
  leaves_spelled : (k : ℕ) → tree_spelled (both (wire part Advances) (kept c part of k)) ≡ true
  leaves_spelled k = by_place_kept c part of (λ e. tree_spelled (both (wire part Advances) e) ≡ true) k (λ l. refl) refl

  pub wires_spelled : list_all wire_spelled (control_wires c part of nets) ≡ true
  wires_spelled = and_from _ _ (leaves_spelled c.stages) (and_from _ _ (leaves_spelled c.commit) refl)

  move_spelled : (k : ℕ) → tree_spelled (TConditional (wire part Advances) (before (wire part Injects) (kept c part of) k) (kept c part of k)) ≡ true
  move_spelled k = by_before (λ e. tree_spelled (TConditional (wire part Advances) e (kept c part of k)) ≡ true) (wire part Injects) (kept c part of) k
      (by_place_kept c part of (λ e. tree_spelled (TConditional (wire part Advances) (wire part Injects) e) ≡ true) k (λ l. refl) refl)
      (λ j m. by_place_kept c part of (λ e. tree_spelled (TConditional (wire part Advances) e (kept c part of k)) ≡ true) j
      (λ l. by_place_kept c part of (λ e. tree_spelled (TConditional (wire part Advances) (both (register part (Holds j)) (TUnary Not (back_read c of j))) e) ≡ true) k (λ n. refl) refl)
      (by_place_kept c part of (λ e. tree_spelled (TConditional (wire part Advances) (register part (Holds j)) e) ≡ true) k (λ n. refl) refl))

  lap_spelled : (k : ℕ) → trees_pass tree_spelled (move_lap c part k) ≡ true
  lap_spelled k = by_before (λ e. tree_spelled e ≡ true) (register part (Lap Injected)) (λ j. TRead (lap_name c part j)) k refl (λ j l. refl)

  slot_spelled : (k : ℕ) → trees_pass tree_spelled (move_slot c part k) ≡ true
  slot_spelled k = by_before (λ e. tree_spelled e ≡ true) (register part (Slot Injected)) (λ j. TRead (slot_name c part j)) k refl (λ j l. refl)

  pub statement_is_spelled : statement_spelled (all_of (control_statements c part of)) ≡ true
  statement_is_spelled =
      let a = all_of (control_statements c part of) in
      let resumed = all_deep (resume c part of) 4 0 (suc c.commit) (λ k. omega arith) in
      let moved = all_deep (move c part of) 4 0 (suc c.stages) (λ k. omega arith) in
      let laps = all_deep (move_lap c part) 4 0 (suc c.commit) (λ k. omega arith) in
      let slots = all_deep (move_slot c part) 4 0 (suc c.commit) (λ k. omega arith) in
      and_from (nat_le (statement_depth a) 64) (elses_placed a && trees_pass tree_spelled a) (le-leb (statement_depth a) 64 (omega (arith, resumed, moved, laps, slots)))
      (and_from (elses_placed a) (trees_pass tree_spelled a)
      (and_from _ _ (all_elses (resume c part of) 0 (suc c.commit) (λ k. refl))
      (and_from _ _ (all_elses (move c part of) 0 (suc c.stages) (λ k. refl)) (and_from _ _ (all_elses (move_lap c part) 0 (suc c.commit) (λ k. refl)) (and_from _ _ (all_elses (move_slot c part) 0 (suc c.commit) (λ k. refl)) refl))))
      (and_from _ _ (all_pass (resume c part of) 0 (suc c.commit) (λ k. refl))
      (and_from _ _ (all_pass (move c part of) 0 (suc c.stages) move_spelled) (and_from _ _ (all_pass (move_lap c part) 0 (suc c.commit) lap_spelled) (and_from _ _ (all_pass (move_slot c part) 0 (suc c.commit) slot_spelled) refl)))))

  kept_flat : (made : Name P → Bool) (k : ℕ) → is_flat made (kept c part of k) ≡ true
  kept_flat made k = by_place_kept c part of (λ e. is_flat made e ≡ true) k (λ l. refl) refl

  entering_flat : (made : Name P → Bool) (k : ℕ) → is_flat made (before (wire part Injects) (kept c part of) k) ≡ true
  entering_flat made k = by_before (λ e. is_flat made e ≡ true) (wire part Injects) (kept c part of) k refl (λ j l. kept_flat made j)

  lap_flat : (made : Name P → Bool) (k : ℕ) → is_flat made (before (register part (Lap Injected)) (λ j. TRead (lap_name c part j)) k) ≡ true
  lap_flat made k = by_before (λ e. is_flat made e ≡ true) (register part (Lap Injected)) (λ j. TRead (lap_name c part j)) k refl (λ j l. refl)

  slot_flat : (made : Name P → Bool) (k : ℕ) → is_flat made (before (register part (Slot Injected)) (λ j. TRead (slot_name c part j)) k) ≡ true
  slot_flat made k = by_before (λ e. is_flat made e ≡ true) (register part (Slot Injected)) (λ j. TRead (slot_name c part j)) k refl (λ j l. refl)

  pub is_free : IsFree (control_tree c part of nets)
  is_free = record {
    wires = λ made. and_from _ _ (kept_flat made c.stages) (and_from _ _ (kept_flat made c.commit) refl);
    statement = λ made. and_from _ _ (all_flat (resume c part of) made 0 (suc c.commit) (λ k. refl))
        (and_from _ _ (all_flat (move c part of) made 0 (suc c.stages) (λ k. and_from _ _ (entering_flat made k) (kept_flat made k)))
        (and_from _ _ (all_flat (move_lap c part) made 0 (suc c.commit) (lap_flat made)) (and_from _ _ (all_flat (move_slot c part) made 0 (suc c.commit) (slot_flat made)) refl)));
  }

  pub within : Within (length (zeros c)) 0 (all_of (control_statements c part of))
  within =
      let n = zeros_length c in (
        (omega (arith, n), (omega (arith, n), tt)),
        (
          (omega (arith, n), (omega (arith, n), tt)),
          (
            (omega (arith, n), (omega (arith, n), tt)),
            (
              (omega (arith, n), (omega (arith, n), tt)),
              (
                omega (arith, n),
                (
                  all_within (resume c part of) (length (zeros c)) 0 0 (suc c.commit) (λ k l. (omega (arith, n), (omega (arith, n), tt))),
                  (
                    all_within (move c part of) (length (zeros c)) 0 0 (suc c.stages) (λ k l. omega (arith, n, l)),
                    (
                      all_within (move_lap c part) (length (zeros c)) 0 0 (suc c.commit) (λ k l. omega (arith, n, l, c.within)),
                      (all_within (move_slot c part) (length (zeros c)) 0 0 (suc c.commit) (λ k l. omega (arith, n, l, c.within)), tt),
                    ),
                  ),
                ),
              ),
            ),
          ),
        ),
      )
