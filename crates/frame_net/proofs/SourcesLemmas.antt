-- The block that gives the sources of a packet is what it is to be.
use Rattle.std.specs.Prelude.{◌≡◌, ℕ, zero, suc, ◌+◌, ◌-◌, ◌*◌, ◌%◌, ◌^◌, ◌<◌, ◌≤◌, nat_lt, nat_le, ◌&&◌, min, Bool, true, false, List, [], ◌∷◌, length, take, drop, map}
use Rattle.std.specs.List.{AllByRecursion, list_all}
use Rattle.std.proofs.Common.{get_or, refl, sym, ap, ◌∙◌, subst, arith, inl}
use Rattle.std.proofs.lemmas.Bool.{lt-ltb}
use Rattle.std.proofs.lemmas.Bool.Decides.{nat_tests}
use Rattle.std.proofs.lemmas.List.{drop_all, length-drop}
use Rattle.beat_core.specs.Words.{word_of}
use Rattle.beat_core.specs.Ports.{Arrival}
use Rattle.beat_core.proofs.WordLaws.{word_of-nil}
use Rattle.net_core.specs.declared.tree.Word.{Word}
use Rattle.net_core.specs.declared.tree.Op.TheVariants.{Add}
use Rattle.net_core.specs.Nets.{TRead}
use Rattle.net_core.specs.Ports.{port_list}
use Rattle.net_core.specs.Value.{word, bit, Env, value, apply, concatenated, conditional}
use Rattle.net_core.specs.Width.{Scope, width_of, same}
use Rattle.block_core.specs.design_rules.FormedSyntax.{right_spelled}
use Rattle.block_core.specs.declared.name.Name.{Name}
use Rattle.block_core.specs.declared.name.Name.TheVariants as name
use Rattle.block_core.specs.Blocks.{BlockTree, Whole, Among}
use Rattle.block_core.specs.Parts.{Solve, Goes}
use Rattle.block_core.specs.Order.{Reads, IsBefore, InOrder}
use Rattle.block_core.specs.Formed.{names_scope, name_width, block_memories, block_wires, block_wires_typed, IsTypedBlock}
use Rattle.block_core.proofs.list_laws_laws.BoolLaws.{and_is}
use Rattle.block_core.proofs.OrderLaws.{still_before}
use Rattle.frame_net.specs.declared.held.Kept.{Kept}
use Rattle.frame_net.specs.declared.held.Kept.TheVariants.{Ifindex, Time, Word as FrameWord}
use Rattle.frame_net.specs.Frames.{beat_of, last_of, word_at, HoldsKept, HoldsFrame}
use Rattle.frame_net.specs.Gather.{IsKept, held_widths, kept_width, kept_widths}
use Rattle.frame_net.specs.GatherNets.{net}
use Rattle.frame_net.specs.Sources.{kept_word, SeesHeld, ShowsFrame, IsSources}
use Rattle.frame_net.specs.SourcesNets.{held, frame_length, kept_tree, kept_wires, sources_wires, sources_block}
use Rattle.frame_net.proofs.FormLaws.{wire_is, held_width}
use Rattle.frame_net.proofs.ReadLaws.{held_here, count_held, held_kept}
use Rattle.frame_net.proofs.FreeLaws.{sources_free}

-- ---- what the wires show
-- the number of the last beat and its bytes give the length
whole_length : (xs : List ℕ) → 1 ≤ length xs → length xs ≤ 9216 → apply Add (concatenated (word 11 (last_of xs)) (word 3 0)) (concatenated (word 10 0) (word 4 (beat_of xs (last_of xs)).bytes)) ≡ word 14 (length xs)
whole_length xs some most =
    let n : length (drop (8 * last_of xs) xs) ≡ length xs - 8 * last_of xs = length-drop (8 * last_of xs) xs in
    let e : ((last_of xs * 2 ^ 3 + 0) + (0 * 2 ^ 4 + min 8 (length (drop (8 * last_of xs) xs)))) % 2 ^ 14 ≡ length xs = omega (arith, n) in
    ap (word 14) e

-- no byte stands past the last beat
past_word : (xs : List ℕ) (j : ℕ) → last_of xs < j → (beat_of xs j).word ≡ 0
past_word xs j h = ap (λ zs. word_of (take 8 zs)) (drop_all (8 * j) xs (omega arith)) ∙ word_of-nil

module _ {P : Type 0} (p gather : P) (bits : ℕ) (slot : Name P) (v : Env (Name P)) (at : ℕ) (a : Arrival) (some : 1 ≤ length a.frame) (last : v.net (name.Wire p 0) ≡ word 11 (last_of a.frame)) where
  word_shown : (j k : ℕ) (m : List Word) → value v (held gather k (TRead slot)) ≡ word_at m at → HoldsKept (FrameWord j) m at a → value v (kept_tree p gather slot k (FrameWord j)) ≡ word 64 (beat_of a.frame j).word
  word_shown zero k m here h = here ∙ h (omega arith)
  word_shown (suc j) k m here h =
      ap (λ (x : Word). conditional (bit (nat_lt x.value (suc j))) (word 64 0) (value v (held gather k (TRead slot)))) last ∙ by_test (nat_lt (last_of a.frame) (suc j)) refl
    where
      by_test : (t : Bool) → nat_lt (last_of a.frame) (suc j) ≡ t → conditional (bit t) (word 64 0) (value v (held gather k (TRead slot))) ≡ word 64 (beat_of a.frame (suc j)).word
      by_test true e = let past : last_of a.frame < suc j = grind (arith, nat_tests) in ap (word 64) (sym (past_word a.frame (suc j) past))
      by_test false e = let within : suc j ≤ last_of a.frame = grind (arith, nat_tests) in here ∙ h (omega arith)

  one_shown : (x : Kept) (k : ℕ) (m : List Word) → value v (held gather k (TRead slot)) ≡ word_at m at → HoldsKept x m at a → value v (kept_tree p gather slot k x) ≡ kept_word x a
  one_shown Ifindex k m here h = here ∙ h
  one_shown Time k m here h = here ∙ h
  one_shown (FrameWord j) k m here h = word_shown j k m here h

  pub kept_shown : (kept : List Kept) (k : ℕ) (ms : List (List Word)) → Solve v p k (kept_wires p gather slot k kept)
      → ((j : ℕ) → j < length kept → (value v (held gather (k + j) (TRead slot)) ≡ word_at (get_or ms (k + j) []) at) × HoldsKept (get_or kept j Ifindex) (get_or ms (k + j) []) at a)
      → (j : ℕ) → j < length kept → v.net (name.Wire p (k + j)) ≡ kept_word (get_or kept j Ifindex) a
  kept_shown [] k ms solved h j l = absurd (omega arith)
  kept_shown (x ∷ kept) k ms solved h zero l =
      let z : k + 0 ≡ k = omega arith in
      let here = h 0 l in
      ap (λ i. v.net (name.Wire p i)) z ∙ solved.0 ∙ ap (λ i. value v (kept_tree p gather slot i x)) (sym z) ∙ one_shown x (k + 0) (get_or ms (k + 0) []) here.0 here.1
  kept_shown (x ∷ kept) k ms solved h (suc j) l =
      let s : k + suc j ≡ suc k + j = omega arith in
      ap (λ i. v.net (name.Wire p i)) s
      ∙ kept_shown kept (suc k) ms solved.1
      (λ i m. let e : k + suc i ≡ suc k + i = omega arith in subst (λ n. (value v (held gather n (TRead slot)) ≡ word_at (get_or ms n []) at) × HoldsKept (get_or kept i Ifindex) (get_or ms n []) at a) e (h (suc i) (omega arith))) j (omega arith)

module _ {P : Type 0} (p gather : P) (bits : ℕ) (kept : List Kept) (slot : Name P) where
  shows_frame : (v : Env (Name P)) (ms : List (List Word)) (at : ℕ) (a : Arrival) → Solve v p 0 (sources_wires p gather kept slot) → SeesHeld gather bits kept slot v ms at → HoldsFrame kept ms at a → ShowsFrame p kept v a
  shows_frame v ms at a solved sees holds =
      let n = count_held bits kept in
      let f = holds.frame in
      let last : v.net (name.Wire p 0) ≡ word 11 (last_of a.frame) = solved.0 ∙ held_here gather bits kept slot v ms at sees 1 (omega (arith, n)) ∙ holds.last in
      let bytes : v.net (name.Wire p 1) ≡ word 4 (beat_of a.frame (last_of a.frame)).bytes = solved.1.0 ∙ held_here gather bits kept slot v ms at sees 2 (omega (arith, n)) ∙ holds.bytes in
      record {
        frame_length = solved.1.1.0
            ∙ ap (λ x. apply Add (concatenated x (word 3 0)) (concatenated (word 10 0) (v.net (name.Wire p 1)))) last
            ∙ ap (λ x. apply Add (concatenated (word 11 (last_of a.frame)) (word 3 0)) (concatenated (word 10 0) x)) bytes
            ∙ whole_length a.frame f.some f.room;
        content = kept_shown p gather bits slot v at a f.some last kept 3 ms solved.1.1.1 (λ j l. (held_here gather bits kept slot v ms at sees (3 + j) (omega (arith, n)), holds.part.rest j l));
      }

  -- ---- well typed
  module _ (some : 1 ≤ bits) (d : Whole P) (here : d.block p ≡ sources_block p gather kept slot) (numbered : name_width d port_list slot ≡ bits) (has : block_memories (d.block gather) ≡ held_widths bits kept) where
    abbrev s : Scope (Name P)
    s = names_scope d port_list

    width_at : (k w : ℕ) → get_or (held_widths bits kept) k (0, 0) ≡ (bits, w) → width_of s (held gather k (TRead slot)) ≡ w
    width_at k w e = held_width d gather (TRead slot) (held_widths bits kept) k bits w has e numbered some

    own_wire : (k : ℕ) → s.net (name.Wire p k) ≡ get_or (block_wires (sources_block p gather kept slot)) k 0
    own_wire k = ap (λ (b : BlockTree (Name P)). get_or (block_wires b) k 0) here

    one_width : (x : Kept) (k : ℕ) → IsKept x → get_or (held_widths bits kept) k (0, 0) ≡ kept_widths bits x → width_of s (kept_tree p gather slot k x) ≡ kept_width x
    one_width Ifindex k h e = width_at k 32 e
    one_width Time k h e = width_at k 64 e
    one_width (FrameWord zero) k h e = width_at k 64 e
    one_width (FrameWord (suc j)) k h e = rw (own_wire 0, lt-ltb (suc j) (2 ^ 11) h, width_at k 64 e) refl

    kept_wire : (x : Kept) (n : ℕ) → n ≡ kept_width x → (same (kept_width x) n && nat_le (kept_width x) 64) ≡ true
    kept_wire Ifindex n e = wire_is 32 n (omega arith) (omega arith) e
    kept_wire Time n e = wire_is 64 n (omega arith) (omega arith) e
    kept_wire (FrameWord j) n e = wire_is 64 n (omega arith) (omega arith) e

    kept_typed : (xs : List Kept) (k : ℕ) → AllByRecursion IsKept xs → ((j : ℕ) → j < length xs → get_or (held_widths bits kept) (k + j) (0, 0) ≡ kept_widths bits (get_or xs j Ifindex)) → block_wires_typed s (kept_wires p gather slot k xs) ≡ true
    kept_typed [] k h e = refl
    kept_typed (x ∷ xs) k h e =
        let z : k + 0 ≡ k = omega arith in
        and_is _ _ (kept_wire x _ (one_width x k h.0 (ap (λ i. get_or (held_widths bits kept) i (0, 0)) (sym z) ∙ e 0 (omega arith))))
        (kept_typed xs (suc k) h.1 (λ j l. let n : suc k + j ≡ k + suc j = omega arith in ap (λ i. get_or (held_widths bits kept) i (0, 0)) n ∙ e (suc j) (omega arith)))

    length_width : width_of s (frame_length (net p 0) (net p 1)) ≡ 14
    length_width = rw (own_wire 0, own_wire 1) refl

    is_typed : AllByRecursion IsKept kept → IsTypedBlock d port_list (sources_block p gather kept slot)
    is_typed words = record {
      registers = refl;
      memories = refl;
      wires = and_is _ _ (wire_is 11 _ (omega arith) (omega arith) (width_at 1 11 refl)) (and_is _ _ (wire_is 4 _ (omega arith) (omega arith) (width_at 2 4 refl))
          (and_is _ _ (wire_is 14 _ (omega arith) (omega arith) length_width) (kept_typed kept 3 words (held_kept bits kept))));
      statement = refl;
    }

  -- ---- in order and spelled
  one_reads : (d : Whole P) (before : List P) (k : ℕ) (x : Kept) (at : ℕ) → 0 < at → Among gather d.parts → IsBefore d before p at slot → Reads (IsBefore d before p at) (kept_tree p gather slot k x)
  one_reads d before k Ifindex at l g q = (g, q)
  one_reads d before k Time at l g q = (g, q)
  one_reads d before k (FrameWord zero) at l g q = (g, q)
  one_reads d before k (FrameWord (suc j)) at l g q = ((inl (refl, l), tt), tt, (g, q))

  kept_in_order : (d : Whole P) (before : List P) (xs : List Kept) (k : ℕ) → 0 < k → Among gather d.parts → IsBefore d before p 0 slot → InOrder d before p k (kept_wires p gather slot k xs)
  kept_in_order d before [] k l g q = tt
  kept_in_order d before (x ∷ xs) k l g q = (one_reads d before k x k l g (still_before d before p k slot q), kept_in_order d before xs (suc k) (omega arith) g q)

  in_order : (d : Whole P) (before : List P) → Among gather d.parts → IsBefore d before p 0 slot → InOrder d before p 0 (sources_wires p gather kept slot)
  in_order d before g q = ((g, q), ((g, still_before d before p 1 slot q), (((inl (refl, omega arith), tt), (tt, inl (refl, omega arith))), kept_in_order d before kept 3 (omega arith) g q)))

  kept_spelled : (xs : List Kept) (k : ℕ) → list_all (λ w. right_spelled w.right) (kept_wires p gather slot k xs) ≡ true
  kept_spelled [] k = refl
  kept_spelled (Ifindex ∷ xs) k = kept_spelled xs (suc k)
  kept_spelled (Time ∷ xs) k = kept_spelled xs (suc k)
  kept_spelled (FrameWord zero ∷ xs) k = kept_spelled xs (suc k)
  kept_spelled (FrameWord (suc j) ∷ xs) k = kept_spelled xs (suc k)

  kept_goes : (v : Env (Name P)) (xs : List Kept) (k : ℕ) → Goes v (kept_wires p gather slot k xs)
  kept_goes v [] k = tt
  kept_goes v (x ∷ xs) k = (refl, kept_goes v xs (suc k))

  kept_have : (xs : List Kept) (k : ℕ) → map (λ w. w.width) (kept_wires p gather slot k xs) ≡ map kept_width xs
  kept_have [] k = refl
  kept_have (x ∷ xs) k = ap (λ l. kept_width x ∷ l) (kept_have xs (suc k))

  pub gives_sources : 1 ≤ bits → AllByRecursion IsKept kept → IsSources p gather bits kept slot (sources_block p gather kept slot)
  gives_sources some words = record {
    registers = refl;
    memories = refl;
    wires = ap (λ l. 11 ∷ 4 ∷ 14 ∷ l) (kept_have kept 3);
    typed = λ d here numbered has. is_typed some d here numbered has words;
    ordered = λ d before a g q. in_order d before g q;
    reads = λ d. tt;
    within = tt;
    wires_spelled = kept_spelled kept 3;
    spelled = refl;
    goes = λ v. (refl, (refl, (refl, kept_goes v kept 3)));
    shows = λ v ms at a solved sees holds. shows_frame v ms at a solved sees holds;
    stays = λ v s. refl;
    free = sources_free p gather kept slot;
  }
