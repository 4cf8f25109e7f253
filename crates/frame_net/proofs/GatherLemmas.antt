-- The block that gathers frames is well typed, in order and spelled.
use Rattle.std.specs.Prelude.{◌≡◌, ℕ, zero, suc, ◌+◌, ◌-◌, ◌^◌, ◌<◌, ◌≤◌, nat_le, ◌&&◌, true, List, [], ◌∷◌, ◌++◌, length, map, max}
use Rattle.std.specs.List.{AllByRecursion}
use Rattle.std.proofs.Common.{get_or, refl, sym, ap, ◌∙◌, subst, arith, inl}
use Rattle.std.proofs.lemmas.Bool.{le-leb, lt-ltb}
use Rattle.std.proofs.lemmas.List.{length-replicate, length-map}
use Rattle.std.proofs.lemmas.Nat.{pow_pos}
use Rattle.net_core.specs.declared.tree.Op.TheVariants.{And}
use Rattle.net_core.specs.declared.tree.UnaryOp.TheVariants.{Not}
use Rattle.net_core.specs.declared.ports.TheConstants.{IN_DATA, IN_LAST}
use Rattle.net_core.specs.Nets.{TRead, TUnary, TBinary, SEnd}
use Rattle.net_core.specs.Chains.{statements_before}
use Rattle.net_core.specs.Ports.{port_list}
use Rattle.net_core.specs.Value.{word}
use Rattle.net_core.specs.Width.{Scope, width_of, statement_typed, concatenation_width, word_fits}
use Rattle.net_core.proofs.WidthLaws.{concatenation_is}
use Rattle.block_core.specs.design_rules.FormedSyntax.{statement_spelled, statements_depth}
use Rattle.block_core.specs.declared.name.Name.{Name}
use Rattle.block_core.specs.declared.name.Name.TheVariants as name
use Rattle.block_core.specs.Blocks.{BlockTree, Whole, Among, first_memory}
use Rattle.block_core.specs.Parts.{Within}
use Rattle.block_core.specs.Order.{IsBefore, InOrder}
use Rattle.block_core.specs.Formed.{names_scope, name_width, block_registers, block_wires, memories_fit, block_wires_typed, IsTypedBlock, StatementReads, IsThere}
use Rattle.block_core.proofs.list_laws_laws.BoolLaws.{and_is}
use Rattle.block_core.proofs.OrderLaws.{still_before}
use Rattle.frame_net.specs.declared.held.Kept.{Kept}
use Rattle.frame_net.specs.declared.held.Kept.TheVariants.{Ifindex, Time, Word as FrameWord}
use Rattle.frame_net.specs.declared.held.Further.{Further}
use Rattle.frame_net.specs.declared.held.Further.TheVariants.{Kept as Keep, Bank}
use Rattle.frame_net.specs.Frames.{bank_bits, banks, banks_from, further, further_bits, index_bits}
use Rattle.frame_net.specs.Gather.{IsKept, IsFurther, held_widths, kept_width, further_widths}
use Rattle.frame_net.specs.Stores.{Store, widths_memory, store_statements}
use Rattle.frame_net.proofs.BankLaws.{banks_few, in_bank_width, low_width}
use Rattle.frame_net.proofs.StoreLaws.{IsStoreTyped, AreStoresTyped, stores_typed, widths_are, AllReads, stores_read, stores_within, AllSpelled, stores_deep, stores_placed, stores_pass}
use Rattle.frame_net.proofs.FormLaws.{one_is, same_is, wire_is}
use Rattle.frame_net.specs.GatherNets.{port, register, net, in_bits, masked, next_position, beat_store, further_store, wide, place, gather_stores, gather_wires, gather_block, gather_statement}

-- ---- memories
pub further_typed : {P : Type 0} (s : Scope (Name P)) (p : P) (over slot : Name P) (bits : ℕ) (fs : List Further) → AllByRecursion (IsFurther bits) fs → 1 ≤ bits → bits ≤ 9 → s.net over ≡ 1 → s.net slot ≡ bits → s.net (name.Register p 1) ≡ 11 → s.net (name.Wire p 2) ≡ 64
    → s.net (name.Wire p 4) ≡ 1 → s.net (name.Port 5) ≡ 32 → s.net (name.Port 6) ≡ 64 → s.net (name.Wire p 5) ≡ bits + 5 → s.net (name.Wire p 6) ≡ bank_bits bits + 11 → AreStoresTyped s (map (further_widths bits) fs) (map (further_store p bits over slot) fs)
further_typed s p over slot bits fs k b m o q r d g i t w x = all fs k
  where
    bank_typed : (n : ℕ) → n < 2 ^ bits → IsStoreTyped s (bank_bits bits + 11) 64 (beat_store p bits over n)
    bank_typed n h = record { condition = rw (o, in_bank_width s bits (name.Wire p 5) n b m h w) refl; at = x; value = d; some_index = omega arith; some_width = omega arith }

    one_typed : (f : Further) → IsFurther bits f → IsStoreTyped s (further_widths bits f).0 (further_widths bits f).1 (further_store p bits over slot f)
    one_typed (Keep Ifindex) h = record { condition = g; at = q; value = i; some_index = b; some_width = omega arith }
    one_typed (Keep Time) h = record { condition = g; at = q; value = t; some_index = b; some_width = omega arith }
    one_typed (Keep (FrameWord j)) h = record { condition = rw (o, r, lt-ltb j (2 ^ 11) h) refl; at = q; value = d; some_index = b; some_width = omega arith }
    one_typed (Bank n) h = bank_typed n h

    all : (fs : List Further) → AllByRecursion (IsFurther bits) fs → AreStoresTyped s (map (further_widths bits) fs) (map (further_store p bits over slot) fs)
    all [] k = tt
    all (f ∷ fs) k = (one_typed f k.0, all fs k.1)

count_stores : {P : Type 0} (p : P) (over slot : Name P) (bits : ℕ) (fs : List Further) → length (map (further_store p bits over slot) fs) ≡ length (map (further_widths bits) fs)
count_stores p over slot bits [] = refl
count_stores p over slot bits (x ∷ fs) = ap suc (count_stores p over slot bits fs)

further_fit : (bits : ℕ) (fs : List Further) → 1 ≤ bits → bits ≤ 9 → memories_fit (map widths_memory (map (further_widths bits) fs)) ≡ true
further_fit bits fs some most = all fs
  where
    one_fits : (index width : ℕ) → 1 ≤ index → index ≤ 16 → word_fits (word width 0) ≡ true → ((nat_le 1 index && nat_le index 16) && word_fits (word width 0)) ≡ true
    one_fits index width l m h = and_is _ _ (and_is _ _ (le-leb 1 index l) (le-leb index 16 m)) h

    all : (fs : List Further) → memories_fit (map widths_memory (map (further_widths bits) fs)) ≡ true
    all [] = refl
    all (Keep Ifindex ∷ fs) = and_is _ _ (one_fits bits 32 some (omega arith) refl) (all fs)
    all (Keep Time ∷ fs) = and_is _ _ (one_fits bits 64 some (omega arith) refl) (all fs)
    all (Keep (FrameWord j) ∷ fs) = and_is _ _ (one_fits bits 64 some (omega arith) refl) (all fs)
    all (Bank b ∷ fs) = and_is _ _ (one_fits (bank_bits bits + 11) 64 (omega arith) (omega arith) refl) (all fs)

pub memories_fit_all : (bits : ℕ) (kept : List Kept) → 1 ≤ bits → bits ≤ 9 → memories_fit (map widths_memory (held_widths bits kept)) ≡ true
memories_fit_all bits kept some most =
    let a : 1 ≤ bank_bits bits + 11 = omega arith in
    let b : bank_bits bits + 11 ≤ 16 = omega arith in
    let h : bits ≤ 16 = omega arith in
    rw (le-leb 1 (bank_bits bits + 11) a, le-leb (bank_bits bits + 11) 16 b, le-leb 1 bits some, le-leb bits 16 h) (further_fit bits (further bits kept) some most)

-- how many words each memory has at first
further_words : (bits : ℕ) (fs : List Further) → map length (map first_memory (map widths_memory (map (further_widths bits) fs))) ≡ map (λ n. 2 ^ n) (map (further_bits bits) fs)
further_words bits [] = refl
further_words bits (Keep x ∷ fs) = λ i. length-replicate (2 ^ bits) (word (kept_width x) 0) i ∷ further_words bits fs i
further_words bits (Bank b ∷ fs) = λ i. length-replicate (2 ^ (bank_bits bits + 11)) (word 64 0) i ∷ further_words bits fs i

pub first_words : (bits : ℕ) (kept : List Kept) → map length (map first_memory (map widths_memory (held_widths bits kept))) ≡ map (λ n. 2 ^ n) (index_bits bits kept)
first_words bits kept =
    λ i. length-replicate (2 ^ (bank_bits bits + 11)) (word 64 0) i ∷ length-replicate (2 ^ bits) (word 11 0) i ∷ length-replicate (2 ^ bits) (word 4 0) i ∷ further_words bits (further bits kept) i

-- words of frames, and banks that a slot's bits can tell
further_is : (bits : ℕ) (kept : List Kept) → 1 ≤ bits → bits ≤ 9 → AllByRecursion IsKept kept → AllByRecursion (IsFurther bits) (further bits kept)
further_is bits kept some most words = all kept words
  where
    banks_are : (b n : ℕ) → b + n ≤ 2 ^ bits → AllByRecursion (IsFurther bits) (banks_from b n)
    banks_are b zero h = tt
    banks_are b (suc n) h = (omega arith, banks_are (suc b) n (omega arith))

    all : (kept : List Kept) → AllByRecursion IsKept kept → AllByRecursion (IsFurther bits) (map Keep kept ++ banks_from 1 (banks bits - 1))
    all [] h = banks_are 1 (banks bits - 1) (let n : 1 ≤ banks bits = pow_pos (bits - 5) in omega (arith, banks_few bits))
    all (x ∷ kept) h = (h.0, all kept h.1)

-- ---- the block is well typed
module _ {P : Type 0} (p : P) (bits : ℕ) (kept : List Kept) (over slot : Name P) (some : 1 ≤ bits) (most : bits ≤ 9) (words : AllByRecursion IsKept kept) where
  module _ (d : Whole P) (here : d.block p ≡ gather_block p bits kept over slot) (one : name_width d port_list over ≡ 1) (numbered : name_width d port_list slot ≡ bits) where
    abbrev s : Scope (Name P)
    s = names_scope d port_list

    own_register : (k : ℕ) → s.net (name.Register p k) ≡ get_or (1 ∷ 11 ∷ []) k 0
    own_register k = ap (λ (b : BlockTree (Name P)). get_or (block_registers b) k 0) here

    own_wire : (k : ℕ) → s.net (name.Wire p k) ≡ get_or (4 ∷ 7 ∷ 64 ∷ 1 ∷ 1 ∷ (bits + 5) ∷ (bank_bits bits + 11) ∷ []) k 0
    own_wire k = ap (λ (b : BlockTree (Name P)). get_or (block_wires b) k 0) here

    wide_width : width_of s (wide slot) ≡ bits + 5
    wide_width =
        let e : concatenation_width 5 bits ≡ 5 + bits = concatenation_is 5 bits (omega arith) (omega arith) (omega arith) in
        let f : 5 + bits ≡ bits + 5 = omega arith in
        rw numbered (e ∙ f)

    place_width : width_of s (place bits (name.Wire p 5) (register p 1)) ≡ bank_bits bits + 11
    place_width = rw (own_wire 5, own_register 1, low_width bits some) (concatenation_is (bank_bits bits) 11 (omega arith) (omega arith) (omega arith))

    shift_width : width_of s (in_bits (net p 0)) ≡ 7
    shift_width = rw (own_wire 0) refl

    masked_width : width_of s (masked (port IN_DATA) (net p 1)) ≡ 64
    masked_width = rw (own_wire 1) refl

    ends_width : width_of s (TBinary And (TRead over) (port IN_LAST)) ≡ 1
    ends_width = rw one refl

    begins_width : width_of s (TBinary And (TRead over) (TUnary Not (register p 0))) ≡ 1
    begins_width = rw (one, own_register 0) refl

    wires_typed : block_wires_typed s (gather_wires p bits over slot) ≡ true
    wires_typed =
        and_is _ _ refl (and_is _ _ (wire_is 7 _ (omega arith) (omega arith) shift_width) (and_is _ _ (wire_is 64 _ (omega arith) (omega arith) masked_width) (and_is _ _ (wire_is 1 _ (omega arith) (omega arith) ends_width)
        (and_is _ _ (wire_is 1 _ (omega arith) (omega arith) begins_width) (and_is _ _ (wire_is (bits + 5) _ (omega arith) (omega arith) wide_width) (and_is _ _ (wire_is (bank_bits bits + 11) _ (omega arith) (omega arith) place_width) refl))))))

    next_width : width_of s (next_position (port IN_LAST) (register p 1)) ≡ 11
    next_width = rw (own_register 1) refl

    stores_fit : AreStoresTyped s (held_widths bits kept) (gather_stores p bits (further bits kept) over slot)
    stores_fit = (
      record { condition = rw (one, in_bank_width s bits (name.Wire p 5) 0 some most (pow_pos bits) (own_wire 5)) refl; at = own_wire 6; value = own_wire 2; some_index = omega arith; some_width = omega arith },
      (
        record { condition = own_wire 3; at = numbered; value = own_register 1; some_index = some; some_width = omega arith },
        (
          record { condition = own_wire 3; at = numbered; value = refl; some_index = some; some_width = omega arith },
          further_typed s p over slot bits (further bits kept) (further_is bits kept some most words) some most one numbered (own_register 1) (own_wire 2) (own_wire 4) refl refl (own_wire 5) (own_wire 6),
        ),
      ),
    )

    statement_fits : statement_typed s (1 ∷ 11 ∷ []) (held_widths bits kept) (gather_statement p bits (further bits kept) over slot) ≡ true
    statement_fits =
        and_is _ _ (and_is _ _ (one_is _ one) refl) (and_is _ _ (and_is _ _ (one_is _ one) (same_is 11 _ (omega arith) next_width))
        (stores_typed s (1 ∷ 11 ∷ []) (held_widths bits kept) (held_widths bits kept) (gather_stores p bits (further bits kept) over slot) 0 (λ k l. let z : 0 + k ≡ k = omega arith in ap (λ i. get_or (held_widths bits kept) i (0, 0)) z)
        (ap (λ n. suc (suc (suc n))) (count_stores p over slot bits (further bits kept))) stores_fit))

    pub is_typed : IsTypedBlock d port_list (gather_block p bits kept over slot)
    is_typed = record {
      registers = refl;
      memories = memories_fit_all bits kept some most;
      wires = wires_typed;
      statement = subst (λ ms. statement_typed s (1 ∷ 11 ∷ []) ms (gather_statement p bits (further bits kept) over slot) ≡ true) (sym (widths_are (held_widths bits kept))) statement_fits;
    }

-- ---- in order
pub in_order : {P : Type 0} (d : Whole P) (before : List P) (p : P) (bits : ℕ) (over slot : Name P) → Among p d.parts → IsBefore d before p 0 over → IsBefore d before p 0 slot → InOrder d before p 0 (gather_wires p bits over slot)
in_order d before p bits over slot a o q = (
  (tt, tt),
  (
    (inl (refl, omega arith), tt),
    (
      (tt, (tt, inl (refl, omega arith))),
      (
        (still_before d before p 3 over o, tt),
        (
          (still_before d before p 4 over o, a),
          ((tt, still_before d before p 5 slot q), (((inl (refl, omega arith), a), tt))),
        ),
      ),
    ),
  ),
)

-- ---- what statements read and set
further_read : {P : Type 0} (d : Whole P) (p : P) (bits : ℕ) (over slot : Name P) (fs : List Further) → Among p d.parts → IsThere d over → IsThere d slot → AllReads (IsThere d) (map (further_store p bits over slot) fs)
further_read d p bits over slot [] a o q = tt
further_read d p bits over slot (Keep Ifindex ∷ fs) a o q = ((a, (q, tt)), further_read d p bits over slot fs a o q)
further_read d p bits over slot (Keep Time ∷ fs) a o q = ((a, (q, tt)), further_read d p bits over slot fs a o q)
further_read d p bits over slot (Keep (FrameWord j) ∷ fs) a o q = (((o, (a, tt)), (q, a)), further_read d p bits over slot fs a o q)
further_read d p bits over slot (Bank b ∷ fs) a o q = (((o, (a, tt)), (a, a)), further_read d p bits over slot fs a o q)

pub statement_reads : {P : Type 0} (d : Whole P) (p : P) (bits : ℕ) (fs : List Further) (over slot : Name P) → Among p d.parts → IsThere d over → IsThere d slot → StatementReads (IsThere d) (gather_statement p bits fs over slot)
statement_reads d p bits fs over slot a o q = (
  (o, tt),
  (
    (o, (tt, tt, (a, tt))),
    stores_read (IsThere d) (gather_stores p bits fs over slot) 0 (((o, (a, tt)), (a, a)), ((a, (q, a)), ((a, (q, tt)), further_read d p bits over slot fs a o q))),
  ),
)

pub is_within : {P : Type 0} (p : P) (bits : ℕ) (kept : List Kept) (over slot : Name P) → Within 2 (length (map widths_memory (held_widths bits kept))) (gather_statement p bits (further bits kept) over slot)
is_within p bits kept over slot =
    let n : length (map widths_memory (held_widths bits kept)) ≡ length (held_widths bits kept) = length-map (held_widths bits kept) widths_memory in
    let m = count_stores p over slot bits (further bits kept) in
    (omega arith, (omega arith, stores_within 2 (length (map widths_memory (held_widths bits kept))) (gather_stores p bits (further bits kept) over slot) 0 (omega (arith, n, m))))

-- ---- spelled
further_spelled : {P : Type 0} (p : P) (bits : ℕ) (over slot : Name P) (fs : List Further) → AllSpelled (map (further_store p bits over slot) fs)
further_spelled p bits over slot [] = tt
further_spelled p bits over slot (Keep Ifindex ∷ fs) = ((refl, (refl, refl)), further_spelled p bits over slot fs)
further_spelled p bits over slot (Keep Time ∷ fs) = ((refl, (refl, refl)), further_spelled p bits over slot fs)
further_spelled p bits over slot (Keep (FrameWord j) ∷ fs) = ((refl, (refl, refl)), further_spelled p bits over slot fs)
further_spelled p bits over slot (Bank b ∷ fs) = ((refl, (refl, refl)), further_spelled p bits over slot fs)

pub is_spelled : {P : Type 0} (p : P) (bits : ℕ) (fs : List Further) (over slot : Name P) → statement_spelled (gather_statement p bits fs over slot) ≡ true
is_spelled p bits fs over slot =
    let stores : List (Store (Name _)) = gather_stores p bits fs over slot in
    let deep : statements_depth (statements_before (store_statements 0 stores) SEnd) ≤ 2 = stores_deep stores 0 in
    let whole : suc (max 2 (max 2 (statements_depth (statements_before (store_statements 0 stores) SEnd)))) ≤ 64 = omega arith in
    and_is _ _ (le-leb _ 64 whole) (and_is _ _ (stores_placed stores 0)
    (and_is _ _ refl (and_is _ _ refl (stores_pass stores 0 ((refl, (refl, refl)), ((refl, (refl, refl)), ((refl, (refl, refl)), further_spelled p bits over slot fs)))))))
