-- The block of answers is well typed, in order and spelled.
use Rattle.std.specs.Prelude.{◌≡◌, ℕ, zero, suc, ◌+◌, ◌-◌, ◌*◌, ◌^◌, ◌<◌, ◌≤◌, if◌then◌else◌, Bool, true, false, List, [], ◌∷◌, length, map, replicate}
use Rattle.std.specs.List.{list_all}
use Rattle.std.proofs.Common.{get_or, refl, sym, ap, ◌∙◌, subst, arith, inl}
use Rattle.std.proofs.lemmas.Nat.{pow_pos}
use Rattle.std.proofs.lemmas.Bool.{lt-ltb}
use Rattle.net_core.specs.Nets.{TRead, TBinary, TConditional}
use Rattle.net_core.specs.declared.tree.Op.TheVariants.{Equal}
use Rattle.net_core.specs.Ports.{port_list}
use Rattle.net_core.specs.Value.{Env}
use Rattle.net_core.specs.Width.{Scope, width_of, concatenation_width}
use Rattle.net_core.proofs.WidthLaws.{concatenation_is}
use Rattle.block_core.specs.design_rules.FormedSyntax.{right_spelled}
use Rattle.block_core.specs.declared.name.Name.{Name}
use Rattle.block_core.specs.declared.name.Name.TheVariants as name
use Rattle.block_core.specs.Blocks.{BlockTree, Whole, Among}
use Rattle.block_core.specs.Parts.{Goes}
use Rattle.block_core.specs.Order.{Reads, IsBefore, InOrder}
use Rattle.block_core.specs.Formed.{names_scope, name_width, block_memories, block_registers, block_wires, block_wires_typed, IsTypedBlock}
use Rattle.block_core.proofs.list_laws_laws.BoolLaws.{and_is}
use Rattle.block_core.proofs.OrderLaws.{still_before}
use Rattle.frame_net.specs.declared.held.Kept.{Kept}
use Rattle.frame_net.specs.Frames.{banks}
use Rattle.frame_net.proofs.BankLaws.{banks_few}
use Rattle.frame_net.specs.Gather.{held_widths}
use Rattle.frame_net.specs.GatherNets.{wide, register, net, constant, uncounted, in_bits, masked, next_position}
use Rattle.frame_net.specs.SourcesNets.{held}
use Rattle.frame_net.specs.Answers.{word_widths, answer_widths}
use Rattle.frame_net.proofs.FormLaws.{one_is, same_is, wire_is, held_width}
use Rattle.frame_net.proofs.ScatterNet.BeatLemmas.{beat_width, beat_reads}
use Rattle.frame_net.specs.ScatterNet.ScatterNets.{beat_from, may_change, byte_name, merged, choice, word_wires, scatter_wires, scatter_block}

module _ {P : Type 0} (p gather exit : P) (bits : ℕ) (kept : List Kept) (words bytes : List ℕ) (taken slot : Name P) where
  -- the widths of its wires
  word_widths_are : (ws : List ℕ) (i : ℕ) → map (λ w. w.width) (word_wires p exit slot bytes i ws) ≡ replicate (1 + 3 * length ws) 64
  word_widths_are [] i = refl
  word_widths_are (w ∷ ws) i = let e : 1 + 3 * suc (length ws) ≡ suc (suc (suc (1 + 3 * length ws))) = omega arith in ap (λ l. 64 ∷ 64 ∷ 64 ∷ l) (word_widths_are ws (suc i)) ∙ ap (λ n. replicate n 64) (sym e)

  pub widths_are : block_wires (scatter_block p gather exit bits kept words bytes taken slot) ≡ (bits + 5) ∷ 11 ∷ 4 ∷ 1 ∷ 4 ∷ 32 ∷ 32 ∷ 4 ∷ 7 ∷ replicate (2 + 3 * length words) 64
  widths_are =
      let e : 2 + 3 * length words ≡ suc (1 + 3 * length words) = omega arith in
      ap (λ l. (bits + 5) ∷ 11 ∷ 4 ∷ 1 ∷ 4 ∷ 32 ∷ 32 ∷ 4 ∷ 7 ∷ l) (ap (λ l. 64 ∷ l) (word_widths_are words 0) ∙ ap (λ n. replicate n 64) (sym e))

  -- ---- well typed
  module _ (some : 1 ≤ bits) (most : bits ≤ 9) (small : (j : ℕ) → j < length words → get_or words j 0 < 2 ^ 11) (d : Whole P) (here : d.block p ≡ scatter_block p gather exit bits kept words bytes taken slot) (one : name_width d port_list taken ≡ 1) (numbered : name_width d port_list slot ≡ bits)
      (has : block_memories (d.block gather) ≡ held_widths bits kept) (answers : block_memories (d.block exit) ≡ answer_widths bits words) where
    abbrev s : Scope (Name P)
    s = names_scope d port_list

    held_at : (k w : ℕ) → get_or (held_widths bits kept) k (0, 0) ≡ (bits, w) → width_of s (held gather k (TRead slot)) ≡ w
    held_at k w e = held_width d gather (TRead slot) (held_widths bits kept) k bits w has e numbered some

    answer_at : (k w : ℕ) → get_or (answer_widths bits words) k (0, 0) ≡ (bits, w) → width_of s (held exit k (TRead slot)) ≡ w
    answer_at k w e = held_width d exit (TRead slot) (answer_widths bits words) k bits w answers e numbered some

    own_register : s.net (name.Register p 0) ≡ 11
    own_register = ap (λ (b : BlockTree (Name P)). get_or (block_registers b) 0 0) here

    own_wire : (k : ℕ) → s.net (name.Wire p k) ≡ get_or ((bits + 5) ∷ 11 ∷ 4 ∷ 1 ∷ 4 ∷ 32 ∷ 32 ∷ 4 ∷ 7 ∷ replicate (2 + 3 * length words) 64) k 0
    own_wire k = ap (λ (b : BlockTree (Name P)). get_or (block_wires b) k 0) here ∙ ap (λ l. get_or l k 0) widths_are

    all_same : (x n j : ℕ) → j < n → get_or (replicate n x) j 0 ≡ x
    all_same x zero j l = absurd (omega arith)
    all_same x (suc n) zero l = refl
    all_same x (suc n) (suc j) l = all_same x n j (omega arith)

    word_wire : (j : ℕ) → j < 2 + 3 * length words → s.net (name.Wire p (9 + j)) ≡ 64
    word_wire j l =
        let e : 9 + j ≡ suc (suc (suc (suc (suc (suc (suc (suc (suc j)))))))) = omega arith in
        ap (λ k. s.net (name.Wire p k)) e ∙ own_wire (suc (suc (suc (suc (suc (suc (suc (suc (suc j))))))))) ∙ all_same 64 (2 + 3 * length words) j l

    word_wire_at : (k j : ℕ) → k ≡ 9 + j → j < 2 + 3 * length words → s.net (name.Wire p k) ≡ 64
    word_wire_at k j e l = ap (λ n. s.net (name.Wire p n)) e ∙ word_wire j l

    merged_width : (w : ℕ) (changed raw : Name P) → s.net changed ≡ 64 → s.net raw ≡ 64 → width_of s (merged bytes w changed raw) ≡ 64
    merged_width w changed raw c e = rw (from 0, from 1, from 2, from 3, from 4, from 5, from 6, from 7) refl
      where
        by_test : (t : Bool) → s.net (if t then changed else raw) ≡ 64
        by_test true = c
        by_test false = e

        from : (k : ℕ) → s.net (byte_name bytes (8 * w + k) changed raw) ≡ 64
        from k = by_test (may_change bytes (8 * w + k))

    choice_width : (w m n : ℕ) → w < 2 ^ 11 → s.net (name.Wire p m) ≡ 64 → s.net (name.Wire p n) ≡ 64 → width_of s (choice p w (net p m) (net p n)) ≡ 64
    choice_width w m n l a b = rw (own_register, lt-ltb w (2 ^ 11) l, a, b) refl

    masked_width : (n : ℕ) → s.net (name.Wire p n) ≡ 64 → width_of s (masked (net p n) (net p 8)) ≡ 64
    masked_width n a = rw (a, own_wire 8) refl

    words_typed : (ws : List ℕ) (i : ℕ) → i + length ws ≡ length words → ((j : ℕ) → j < length ws → (get_or ws j 0 < 2 ^ 11) × (get_or (answer_widths bits words) (2 + (i + j)) (0, 0) ≡ (bits, 64)))
        → block_wires_typed s (word_wires p exit slot bytes i ws) ≡ true
    words_typed [] i n h = and_is _ _ (wire_is 64 _ (omega arith) (omega arith) (masked_width (9 + 3 * i) (word_wire (3 * i) (omega (arith, n))))) refl
    words_typed (w ∷ ws) i n h =
        let z : i + 0 ≡ i = omega arith in
        let first = h 0 (omega arith) in
        and_is _ _ (wire_is 64 _ (omega arith) (omega arith) (answer_at (2 + i) 64 (ap (λ k. get_or (answer_widths bits words) (2 + k) (0, 0)) (sym z) ∙ first.1)))
        (and_is _ _ (wire_is 64 _ (omega arith) (omega arith) (merged_width w (name.Wire p (10 + 3 * i)) (name.Wire p 9) (word_wire_at _ (1 + 3 * i) (omega arith) (omega (arith, n))) (word_wire 0 (omega arith))))
        (and_is _ _ (wire_is 64 _ (omega arith) (omega arith) (choice_width w (11 + 3 * i) (9 + 3 * i) first.0 (word_wire_at _ (2 + 3 * i) (omega arith) (omega (arith, n))) (word_wire (3 * i) (omega (arith, n)))))
        (words_typed ws (suc i) (omega (arith, n))
        (λ j l. let e : i + suc j ≡ suc i + j = omega arith in let next = h (suc j) (omega arith) in (next.0, ap (λ k. get_or (answer_widths bits words) (2 + k) (0, 0)) (sym e) ∙ next.1)))))

    answer_words : (ws : List ℕ) (j : ℕ) → j < length ws → get_or (map (word_widths bits) ws) j (0, 0) ≡ (bits, 64)
    answer_words [] j l = absurd (omega arith)
    answer_words (w ∷ ws) zero l = refl
    answer_words (w ∷ ws) (suc j) l = answer_words ws j (omega arith)

    answer_from : (j : ℕ) → j < length words → get_or (answer_widths bits words) (2 + (0 + j)) (0, 0) ≡ (bits, 64)
    answer_from j l = let e : 2 + (0 + j) ≡ suc (suc j) = omega arith in ap (λ k. get_or (answer_widths bits words) k (0, 0)) e ∙ answer_words words j l

    wide_width : width_of s (wide slot) ≡ bits + 5
    wide_width =
        let e : concatenation_width 5 bits ≡ 5 + bits = concatenation_is 5 bits (omega arith) (omega arith) (omega arith) in
        let f : 5 + bits ≡ bits + 5 = omega arith in
        rw numbered (e ∙ f)

    beat_is_64 : width_of s (beat_from p gather bits kept 0 (banks bits - 1)) ≡ 64
    beat_is_64 = let n : 1 ≤ banks bits = pow_pos (bits - 5) in beat_width p gather bits kept some most d has (own_wire 0) own_register 0 (banks bits - 1) (omega arith) (banks_few bits)

    last_width : width_of s (TBinary Equal (register p 0) (net p 1)) ≡ 1
    last_width = rw (own_register, own_wire 1) refl

    count_width : width_of s (TConditional (net p 3) (net p 2) (constant 4 8)) ≡ 4
    count_width = rw (own_wire 3, own_wire 2) refl

    left_width : width_of s (uncounted (net p 4)) ≡ 4
    left_width = rw (own_wire 4) refl

    shift_width : width_of s (in_bits (net p 7)) ≡ 7
    shift_width = rw (own_wire 7) refl

    next_width : width_of s (next_position (net p 3) (register p 0)) ≡ 11
    next_width = rw (own_wire 3, own_register) refl

    pub is_typed : IsTypedBlock d port_list (scatter_block p gather exit bits kept words bytes taken slot)
    is_typed = record {
      registers = refl;
      memories = refl;
      wires = and_is _ _ (wire_is (bits + 5) _ (omega arith) (omega arith) wide_width) (and_is _ _ (wire_is 11 _ (omega arith) (omega arith) (held_at 1 11 refl)) (and_is _ _ (wire_is 4 _ (omega arith) (omega arith) (held_at 2 4 refl))
          (and_is _ _ (wire_is 1 _ (omega arith) (omega arith) last_width) (and_is _ _ (wire_is 4 _ (omega arith) (omega arith) count_width) (and_is _ _ (wire_is 32 _ (omega arith) (omega arith) (answer_at 0 32 refl))
          (and_is _ _ (wire_is 32 _ (omega arith) (omega arith) (answer_at 1 32 refl)) (and_is _ _ (wire_is 4 _ (omega arith) (omega arith) left_width) (and_is _ _ (wire_is 7 _ (omega arith) (omega arith) shift_width)
          (and_is _ _ (wire_is 64 _ (omega arith) (omega arith) beat_is_64) (words_typed words 0 (omega arith) (λ j l. (small j l, answer_from j l))))))))))));
      statement = and_is _ _ (one_is _ one) (same_is 11 _ (omega arith) next_width);
    }

  -- ---- in order and spelled
  module _ (d : Whole P) (before : List P) (own : Among p d.parts) (g : Among gather d.parts) (x : Among exit d.parts) (q : IsBefore d before p 0 slot) where
    at_slot : (at : ℕ) → IsBefore d before p at slot
    at_slot at = still_before d before p at slot q

    merged_reads : (w at : ℕ) (changed raw : Name P) → IsBefore d before p at changed → IsBefore d before p at raw → Reads (IsBefore d before p at) (merged bytes w changed raw)
    merged_reads w at changed raw c e = (from 7, (from 6, (from 5, (from 4, (from 3, (from 2, (from 1, from 0)))))))
      where
        by_test : (t : Bool) → IsBefore d before p at (if t then changed else raw)
        by_test true = c
        by_test false = e

        from : (k : ℕ) → IsBefore d before p at (byte_name bytes (8 * w + k) changed raw)
        from k = by_test (may_change bytes (8 * w + k))

    words_in_order : (ws : List ℕ) (i : ℕ) → InOrder d before p (10 + 3 * i) (word_wires p exit slot bytes i ws)
    words_in_order [] i = ((inl (refl, omega arith), (tt, inl (refl, omega arith))), tt)
    words_in_order (w ∷ ws) i =
        let e : 10 + 3 * suc i ≡ suc (suc (suc (10 + 3 * i))) = omega arith in (
          (x, at_slot (10 + 3 * i)),
          (
            merged_reads w (suc (10 + 3 * i)) (name.Wire p (10 + 3 * i)) (name.Wire p 9) (inl (refl, omega arith)) (inl (refl, omega arith)),
            (((own, tt), inl (refl, omega arith), inl (refl, omega arith)), subst (λ n. InOrder d before p n (word_wires p exit slot bytes (suc i) ws)) e (words_in_order ws (suc i))),
          ),
        )

    pub in_order : InOrder d before p 0 (scatter_wires p gather exit bits kept words bytes slot)
    in_order = (
      (tt, at_slot 0),
      (
        (g, at_slot 1),
        (
          (g, at_slot 2),
          (
            (own, inl (refl, omega arith)),
            (
              (inl (refl, omega arith), inl (refl, omega arith), tt),
              ((x, at_slot 5), ((x, at_slot 6), ((tt, inl (refl, omega arith)), ((inl (refl, omega arith), tt), (beat_reads p gather bits kept (IsBefore d before p 9) (λ k. g) (inl (refl, omega arith)) own 0 (banks bits - 1), words_in_order words 0))))),
            ),
          ),
        ),
      ),
    )

  pub words_spelled : (ws : List ℕ) (i : ℕ) → list_all (λ w. right_spelled w.right) (word_wires p exit slot bytes i ws) ≡ true
  words_spelled [] i = refl
  words_spelled (w ∷ ws) i = words_spelled ws (suc i)

  pub words_go : (v : Env (Name P)) (ws : List ℕ) (i : ℕ) → Goes v (word_wires p exit slot bytes i ws)
  words_go v [] i = (refl, tt)
  words_go v (w ∷ ws) i = (refl, (refl, (refl, words_go v ws (suc i))))
