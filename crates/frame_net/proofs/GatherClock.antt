-- A clock of the block that gathers frames.
use Rattle.std.specs.Prelude.{◌≡◌, ◌≢◌, ℕ, zero, suc, ◌+◌, ◌-◌, ◌*◌, ◌/◌, ◌%◌, ◌^◌, ◌<◌, ◌≤◌, ◌==◌, nat_lt, if◌then◌else◌, Bool, true, false, not, min, Option, Some, None, is_some, List, [], ◌∷◌, ◌++◌, length, map, slice_set}
use Rattle.std.specs.List.{AllByRecursion}
use Rattle.std.proofs.Common.{get_or, refl, sym, ap, ◌∙◌, subst, arith, length-append}
use Rattle.std.proofs.lemmas.Bool.Decides.{nat_tests}
use Rattle.std.proofs.lemmas.Nat.{pow_pos}
use Rattle.std.proofs.lemmas.List.{length-map}
use Rattle.std.proofs.Math.ListN.{get_or-map}
use Rattle.std.proofs.lemmas.Grind.{common_steps}
use Rattle.block_core.proofs.list_laws_laws.ByteLaws.{IsBytes-append}
use Rattle.beat_core.specs.list_laws.Bytes.{IsBytes}
use Rattle.beat_core.specs.Laws.{IsFrame}
use Rattle.beat_core.specs.declared.frame.TheConstants.{BEAT_LIMIT}
use Rattle.beat_core.specs.Words.{low_bytes, word_of}
use Rattle.beat_core.specs.Beats.{bytes_of_beat, beat_count, IsOffer}
use Rattle.beat_core.specs.Ports.{Arrival, Offered, arrived}
use Rattle.beat_core.proofs.BeatLaws.{IsOffer-count, IsOffer-eight}
use Rattle.beat_core.proofs.WordLaws.{length-low_bytes, IsBytes-low_bytes}
use Rattle.net_core.specs.declared.tree.Op.TheVariants.{Add, And, Equal}
use Rattle.net_core.specs.declared.tree.UnaryOp.TheVariants.{Not}
use Rattle.net_core.specs.declared.tree.Word.{Word}
use Rattle.net_core.specs.declared.ports.TheConstants.{IN_DATA, IN_BYTES, IN_LAST}
use Rattle.net_core.specs.Nets.{TRead, TUnary, TBinary, StatementTree, SIf, SSet}
use Rattle.net_core.specs.Value.{word, bit, nothing, part_select, Env, value, apply, apply_unary, concatenated, conditional}
use Rattle.net_core.specs.Clock.{Stored, done, edge}
use Rattle.net_core.proofs.LowBitsLaws.{concatenated_small}
use Rattle.net_core.proofs.BitLaws.{not_bit}
use Rattle.block_core.specs.declared.name.Name.{Name}
use Rattle.block_core.specs.declared.name.Name.TheVariants as name
use Rattle.block_core.specs.Parts.{Solve}
use Rattle.frame_net.specs.declared.held.Kept.{Kept}
use Rattle.frame_net.specs.declared.held.Kept.TheVariants.{Ifindex, Time, Word as FrameWord}
use Rattle.frame_net.specs.declared.held.Further.{Further}
use Rattle.frame_net.specs.declared.held.Further.TheVariants.{Kept as Keep, Bank}
use Rattle.frame_net.specs.Frames.{bank_bits, banks, bank, banks_from, further, further_bits, beat_of, last_of, HoldsBeats, HoldsPart, HoldsFrame, IsBegun, Gathers, position_of, index_bits}
use Rattle.frame_net.specs.Gather.{SeesBeat, HasTaken}
use Rattle.frame_net.specs.Stores.{Store, store_statements}
use Rattle.frame_net.specs.GatherNets.{port, register, net, constant, next_position, in_bank, kept_store, further_store, gather_stores, gather_wires, gather_sets, gather_statement}
use Rattle.frame_net.proofs.StoreLaws.{in_turn, put, taken, taken_is, store_at, registers_stay, lengths_stay, none_stored, IsOff}
use Rattle.frame_net.proofs.MaskLaws.{masked_word}
use Rattle.frame_net.proofs.BankLaws.{map_at, item_kept, item_bank, count_further, bank_within, low_small, low_slot, high_slot}
use Rattle.frame_net.proofs.BitLaws.{on, off, next_is}
use Rattle.frame_net.proofs.FrameLemmas.{last_more, new_bytes, is_frame}
use Rattle.frame_net.proofs.HeldLemmas.{put_here, put_other, bytes_so_far, SoFar, so_far_is, arrived_frame, Takes, kept_more, kept_same, others_stay, beats_more, beats_same}

-- ---- bits
and_bits : (a b : Bool) → apply And (bit a) (bit b) ≡ bit (if a then b else false)
and_bits true true = refl
and_bits true false = refl
and_bits false true = refl
and_bits false false = refl

-- ---- the nets of a clock
module _ {P : Type 0} (p : P) (bits : ℕ) (some : 1 ≤ bits) (kept : List Kept) (over slot : Name P) (v : Env (Name P)) (s : Stored) (at : ℕ) (o : Offered) (goes : Bool)
    (solved : Solve v p 0 (gather_wires p bits over slot)) (sees : SeesBeat p bits over slot v s goes at o) where
  ends_net : v.net (name.Wire p 3) ≡ bit (if goes then o.beat.last else false)
  ends_net = solved.1.1.1.0 ∙ ap (λ x. apply And x (v.net (name.Port IN_LAST))) sees.goes_over ∙ ap (apply And (bit goes)) sees.last ∙ and_bits goes o.beat.last

  wide_net : v.net (name.Wire p 5) ≡ word (5 + bits) at
  wide_net = let e : 0 * 2 ^ bits + at ≡ at = omega arith in solved.1.1.1.1.1.0 ∙ ap (concatenated (word 5 0)) sees.in_slot ∙ ap (word (5 + bits)) e

  bank_net : (b : ℕ) → value v (TBinary And (TRead over) (in_bank bits (name.Wire p 5) b)) ≡ bit (if goes then at / 32 == b else false)
  bank_net b =
      ap (λ x. apply And x (apply Equal (part_select (v.net (name.Wire p 5)) (bits + 4) 5) (word bits b))) sees.goes_over
      ∙ ap (λ x. apply And (bit goes) (apply Equal (part_select x (bits + 4) 5) (word bits b))) wide_net
      ∙ ap (λ x. apply And (bit goes) (apply Equal x (word bits b))) (high_slot bits at (5 + bits) sees.within)
      ∙ and_bits goes (at / 32 == b)

  module _ (begun : Bool) (position : ℕ) (registers : s.registers ≡ bit begun ∷ word 11 position ∷ []) where
    position_net : v.net (name.Register p 1) ≡ word 11 position
    position_net = sees.register 1 (omega arith) ∙ ap (λ rs. get_or rs 1 nothing) registers

    begins_net : v.net (name.Wire p 4) ≡ bit (if goes then not begun else false)
    begins_net =
        let flag : v.net (name.Register p 0) ≡ bit begun = sees.register 0 (omega arith) ∙ ap (λ rs. get_or rs 0 nothing) registers in
        solved.1.1.1.1.0
        ∙ ap (λ x. apply And x (apply_unary Not (v.net (name.Register p 0)))) sees.goes_over
        ∙ ap (λ x. apply And (bit goes) (apply_unary Not x)) flag
        ∙ ap (apply And (bit goes)) (not_bit begun)
        ∙ and_bits goes (not begun)

    place_net : v.net (name.Wire p 6) ≡ word (bank_bits bits + 11) (at % 32 * 2 ^ 11 + position)
    place_net =
        solved.1.1.1.1.1.1.0
        ∙ ap (λ x. concatenated (part_select x (bank_bits bits - 1) 0) (v.net (name.Register p 1))) wide_net
        ∙ ap (λ x. concatenated x (v.net (name.Register p 1))) (low_slot bits at (5 + bits) some sees.within)
        ∙ ap (concatenated (word (bank_bits bits) (at % 32))) position_net

    here_net : (j : ℕ) → value v (TBinary And (TRead over) (TBinary Equal (register p 1) (constant 11 j))) ≡ bit (if goes then position == j else false)
    here_net j =
        ap (λ x. apply And x (apply Equal (v.net (name.Register p 1)) (word 11 j))) sees.goes_over
        ∙ ap (λ x. apply And (bit goes) (apply Equal x (word 11 j))) position_net
        ∙ and_bits goes (position == j)

  data_net : IsOffer o.beat → v.net (name.Wire p 2) ≡ word 64 (word_of (bytes_of_beat o.beat))
  data_net offer =
      let c = IsOffer-count o.beat offer in
      let n : o.beat.bytes ≡ min o.beat.bytes 8 = omega arith in
      solved.1.1.0
      ∙ masked_word v (port IN_BYTES) (net p 0) (net p 1) (port IN_DATA) o.beat.bytes o.beat.word c.0 c.1 sees.bytes solved.0 solved.1.0 sees.content
      ∙ ap (λ k. word 64 (word_of (low_bytes k o.beat.word))) n

-- ---- no beat goes over
module _ {P : Type 0} (p : P) (bits : ℕ) (some : 1 ≤ bits) (kept : List Kept) (over slot : Name P) (v : Env (Name P)) (s : Stored) (at : ℕ) (o : Offered)
    (solved : Solve v p 0 (gather_wires p bits over slot)) (sees : SeesBeat p bits over slot v s false at o) where
  and_off : (x : Word) → (apply And (v.net over) x).value ≡ 0
  and_off x = ap (λ y. (apply And y x).value) sees.goes_over ∙ grind (arith, common_steps)

  begins_off : (v.net (name.Wire p 4)).value ≡ 0
  begins_off = ap (λ (x : Word). x.value) solved.1.1.1.1.0 ∙ and_off (apply_unary Not (v.net (name.Register p 0)))

  further_off : (fs : List Further) → AllByRecursion (IsOff v) (map (further_store p bits over slot) fs)
  further_off [] = tt
  further_off (Keep Ifindex ∷ fs) = (begins_off, further_off fs)
  further_off (Keep Time ∷ fs) = (begins_off, further_off fs)
  further_off (Keep (FrameWord j) ∷ fs) = (and_off (apply Equal (v.net (name.Register p 1)) (word 11 j)), further_off fs)
  further_off (Bank b ∷ fs) = (and_off (value v (in_bank bits (name.Wire p 5) b)), further_off fs)

  pub stays : done v (gather_statement p bits (further bits kept) over slot) s ≡ s
  stays =
      let stores : List (Store (Name P)) = gather_stores p bits (further bits kept) over slot in
      let rest : List (StatementTree (Name P)) = store_statements 0 stores in
      let ends_off : (v.net (name.Wire p 3)).value ≡ 0 = ap (λ (x : Word). x.value) (ends_net p bits some kept over slot v s at o false solved sees) in
      in_turn v (gather_sets p over rest) s
      ∙ ap (λ x. edge v rest (done v (SIf (TRead over) (SSet 1 (next_position (port IN_LAST) (register p 1)))) x)) (off (v.net over) s _ sees.goes_over)
      ∙ ap (edge v rest) (off (v.net over) s _ sees.goes_over)
      ∙ none_stored v stores 0 s (and_off (value v (in_bank bits (name.Wire p 5) 0)), (ends_off, (ends_off, further_off (further bits kept))))

-- ---- a beat goes over
three : (n : ℕ) → suc (suc (suc n)) ≡ 3 + n
three n = omega arith

same_number : (n : ℕ) → (n == n) ≡ true
same_number n = grind (arith, nat_tests)

past_all : (ms : List (List Word)) (k : ℕ) → length ms ≤ k → get_or ms k [] ≡ []
past_all [] k l = refl
past_all (m ∷ ms) zero l = absurd (omega arith)
past_all (m ∷ ms) (suc k) l = past_all ms k (omega arith)

module _ {P : Type 0} (p : P) (bits : ℕ) (some : 1 ≤ bits) (kept : List Kept) (over slot : Name P) (v : Env (Name P)) (s : Stored) (at : ℕ) (o : Offered) (part : Option Arrival)
    (solved : Solve v p 0 (gather_wires p bits over slot)) (sees : SeesBeat p bits over slot v s true at o) (offer : IsOffer o.beat) (few : position_of part < BEAT_LIMIT) (g : Gathers bits kept part at s) where
  abbrev fs : List Further
  fs = further bits kept

  abbrev q : ℕ
  q = position_of part

  abbrev ys : List ℕ
  ys = bytes_of_beat o.beat

  abbrev stores : List (Store (Name P))
  stores = gather_stores p bits fs over slot

  -- the registers are set, and then memories take words
  abbrev set : Stored
  set = record s { registers = slice_set (slice_set s.registers 0 (value v (TUnary Not (port IN_LAST)))) 1 (value v (next_position (port IN_LAST) (register p 1))) }

  abbrev after : Stored
  after = edge v (store_statements 0 stores) set

  after_is : done v (gather_statement p bits fs over slot) s ≡ after
  after_is =
      let rest : List (StatementTree (Name P)) = store_statements 0 stores in
      in_turn v (gather_sets p over rest) s
      ∙ ap (λ x. edge v rest (done v (SIf (TRead over) (SSet 1 (next_position (port IN_LAST) (register p 1)))) x)) (on (v.net over) s _ sees.goes_over)
      ∙ ap (edge v rest) (on (v.net over) _ set sees.goes_over)

  position : v.net (name.Register p 1) ≡ word 11 q
  position = position_net p bits some kept over slot v s at o true solved sees (is_some part) q g.registers

  abbrev last_bit : Bool
  last_bit = o.beat.last

  registers_are : after.registers ≡ bit (not last_bit) ∷ word 11 (if last_bit then 0 else suc q) ∷ []
  registers_are =
      let first : value v (TUnary Not (port IN_LAST)) ≡ bit (not last_bit) = ap (apply_unary Not) sees.last ∙ not_bit last_bit in
      let next : value v (next_position (port IN_LAST) (register p 1)) ≡ word 11 (if last_bit then 0 else suc q) =
      ap (λ x. conditional x (word 11 0) (apply Add (v.net (name.Register p 1)) (word 11 1))) sees.last ∙ ap (λ x. conditional (bit last_bit) (word 11 0) (apply Add x (word 11 1))) position ∙ next_is last_bit q few in
      registers_stay v stores 0 set
      ∙ ap (λ rs. slice_set (slice_set rs 0 (value v (TUnary Not (port IN_LAST)))) 1 (value v (next_position (port IN_LAST) (register p 1)))) g.registers
      ∙ λ i. first i ∷ next i ∷ []

  -- the memories
  abbrev old : ℕ → List Word
  old k = get_or s.memories k []

  abbrev new : ℕ → List Word
  new k = get_or after.memories k []

  count : length s.memories ≡ 3 + length fs
  count = sym (length-map s.memories length) ∙ ap length g.memories ∙ length-map (index_bits bits kept) (λ n. 2 ^ n) ∙ ap (λ n. suc (suc (suc n))) (length-map fs (further_bits bits)) ∙ three (length fs)

  size_at : (k : ℕ) → length (old k) ≡ get_or (map (λ n. 2 ^ n) (index_bits bits kept)) k 0
  size_at k = sym (get_or-map length s.memories k []) ∙ ap (λ l. get_or l k 0) g.memories

  takes : (k : ℕ) (r : Store (Name P)) (t : Bool) (w i : ℕ) (x : Word) → k < 3 + length fs → r ≡ get_or stores k r → value v r.condition ≡ bit t → value v r.at ≡ word w i → value v r.value ≡ x → new k ≡ put t (old k) i x
  takes k r t w i x l e c a d =
      let z : 0 + k ≡ k = omega arith in
      let n : length stores ≡ 3 + length fs = ap (λ n. suc (suc (suc n))) (length-map fs (further_store p bits over slot)) ∙ three (length fs) in
      let there : k < length stores = omega (arith, n) in
      let within : 0 + k < length s.memories = omega (arith, count) in
      ap (λ j. get_or after.memories j []) (sym z)
      ∙ store_at v stores 0 k r set there e within
      ∙ ap (λ j. taken v r (get_or s.memories j [])) z
      ∙ taken_is v r (old k) t w i x c a d

  abbrev data_is : v.net (name.Wire p 2) ≡ word 64 (word_of ys)
  data_is = data_net p bits some kept over slot v s at o true solved sees offer

  -- the stores and the sizes of the further memories
  at_further : (k : ℕ) (f : Further) → k < length fs → get_or fs k f ≡ f → (further_store p bits over slot f ≡ get_or stores (3 + k) (further_store p bits over slot f)) × (length (old (3 + k)) ≡ 2 ^ further_bits bits f)
  at_further k f l e =
      let n : length (map (further_bits bits) fs) ≡ length fs = length-map fs (further_bits bits) in (
        sym (ap (λ j. get_or stores j (further_store p bits over slot f)) (sym (three k)) ∙ map_at (further_store p bits over slot) fs k _ f l ∙ ap (further_store p bits over slot) e),
        size_at (3 + k)
            ∙ ap (λ j. get_or (map (λ n. 2 ^ n) (index_bits bits kept)) j 0) (sym (three k))
            ∙ map_at (λ n. 2 ^ n) (map (further_bits bits) fs) k 0 0 (omega (arith, n))
            ∙ ap (λ n. 2 ^ n) (map_at (further_bits bits) fs k 0 f l ∙ ap (further_bits bits) e),
      )

  in_further : (k : ℕ) → k < length kept → k < length fs
  in_further k l = omega (arith, count_further bits kept)

  at_kept : (k : ℕ) → k < length kept → get_or fs k (Keep (get_or kept k Ifindex)) ≡ Keep (get_or kept k Ifindex)
  at_kept k l = item_kept kept (banks_from 1 (banks bits - 1)) k (Keep (get_or kept k Ifindex)) l

  bank_in : (b : ℕ) → suc b < banks bits → length kept + b < length fs
  bank_in b l = omega (arith, count_further bits kept)

  at_bank : (b : ℕ) → suc b < banks bits → get_or fs (length kept + b) (Bank (suc b)) ≡ Bank (suc b)
  at_bank b l = let z : 1 + b ≡ suc b = omega arith in item_bank kept 1 (banks bits - 1) b (Bank (suc b)) (omega arith) ∙ ap Bank z

  bank_size : (b : ℕ) → b < banks bits → length (old (bank kept b)) ≡ 2 ^ (bank_bits bits + 11)
  bank_size zero l = size_at 0
  bank_size (suc b) l = (at_further (length kept + b) (Bank (suc b)) (bank_in b l) (at_bank b l)).1

  bank_past : (b : ℕ) → banks bits ≤ b → length s.memories ≤ bank kept b
  bank_past zero l = let n : 1 ≤ banks bits = pow_pos (bits - 5) in absurd (omega arith)
  bank_past (suc b) l = omega (arith, count, count_further bits kept)

  beats_take : (b : ℕ) → b < banks bits → new (bank kept b) ≡ put (at / 32 == b) (old (bank kept b)) (at % 32 * 2 ^ 11 + q) (word 64 (word_of ys))
  beats_take zero l =
      takes 0 _ (at / 32 == 0) (bank_bits bits + 11) (at % 32 * 2 ^ 11 + q) _ (omega arith) refl (bank_net p bits some kept over slot v s at o true solved sees 0) (place_net p bits some kept over slot v s at o true solved sees (is_some part) q g.registers) data_is
  beats_take (suc b) l =
      takes (3 + (length kept + b)) _ (at / 32 == suc b) (bank_bits bits + 11) (at % 32 * 2 ^ 11 + q) _ (let n = bank_in b l in omega (arith, n)) (at_further (length kept + b) (Bank (suc b)) (bank_in b l) (at_bank b l)).0
      (bank_net p bits some kept over slot v s at o true solved sees (suc b)) (place_net p bits some kept over slot v s at o true solved sees (is_some part) q g.registers) data_is

  last_takes : new 1 ≡ put last_bit (old 1) at (word 11 q)
  last_takes = takes 1 _ last_bit bits at _ (omega arith) refl (ends_net p bits some kept over slot v s at o true solved sees) sees.in_slot position

  bytes_take : new 2 ≡ put last_bit (old 2) at (word 4 o.beat.bytes)
  bytes_take = takes 2 _ last_bit bits at _ (omega arith) refl (ends_net p bits some kept over slot v s at o true solved sees) sees.in_slot sees.bytes

  kept_takes_as : (x : Kept) (k : ℕ) → k < 3 + length fs → kept_store p over slot x ≡ get_or stores k (kept_store p over slot x) → Takes x part o (old k) (new k) at
  kept_takes_as Ifindex k l e = takes k _ (not (is_some part)) bits at _ l e (begins_net p bits some kept over slot v s at o true solved sees (is_some part) q g.registers) sees.in_slot sees.ifindex
  kept_takes_as Time k l e = takes k _ (not (is_some part)) bits at _ l e (begins_net p bits some kept over slot v s at o true solved sees (is_some part) q g.registers) sees.in_slot sees.time
  kept_takes_as (FrameWord j) k l e = takes k _ (q == j) bits at _ l e (here_net p bits some kept over slot v s at o true solved sees (is_some part) q g.registers j) sees.in_slot data_is

  kept_takes : (k : ℕ) → k < length kept → Takes (get_or kept k Ifindex) part o (old (3 + k)) (new (3 + k)) at
  kept_takes k l = let n = in_further k l in kept_takes_as (get_or kept k Ifindex) (3 + k) (omega (arith, n)) (at_further k (Keep (get_or kept k Ifindex)) n (at_kept k l)).0

  -- what has come
  so_far : SoFar kept s.memories at part
  so_far = so_far_is kept s.memories at part g.begun

  counted : (1 ≤ o.beat.bytes) × (o.beat.bytes ≤ 8)
  counted = IsOffer-count o.beat offer

  bytes_counted : length ys ≡ o.beat.bytes
  bytes_counted = length-low_bytes (min o.beat.bytes 8) o.beat.word ∙ (let c = counted in omega arith)

  some_bytes : 1 ≤ length ys
  some_bytes = omega (arith, bytes_counted, counted.0)

  most_bytes : length ys ≤ 8
  most_bytes = omega (arith, bytes_counted, counted.1)

  holds_part : HoldsPart kept after.memories at (arrived part o)
  holds_part =
      let f = arrived_frame part o in
      let here = bank_within bits at sees.within in
      let room : at % 32 * 2 ^ 11 + q < length (old (bank kept (at / 32))) =
      let q' : q < 2 ^ 11 = omega arith in
      subst (λ n. at % 32 * 2 ^ 11 + q < n) (sym (bank_size (at / 32) here)) (concatenated_small (at % 32) q (bank_bits bits) 11 (low_small bits at sees.within) q') in
      record {
        beats = subst (HoldsBeats (new (bank kept (at / 32))) (at % 32)) (sym f) (beats_more (bytes_so_far part) ys q (old (bank kept (at / 32))) (new (bank kept (at / 32))) (at % 32) so_far.whole some_bytes most_bytes room
            (beats_take (at / 32) here ∙ ap (λ t. put t (old (bank kept (at / 32))) (at % 32 * 2 ^ 11 + q) (word 64 (word_of ys))) (same_number (at / 32))) so_far.beats);
        rest = λ k l.
            let size = (at_further k (Keep (get_or kept k Ifindex)) (in_further k l) (at_kept k l)).1 in
            kept_more o (old (3 + k)) (new (3 + k)) at (omega (arith, size, sees.within)) some_bytes most_bytes (get_or kept k Ifindex) part so_far.whole (so_far.rest k l) (kept_takes k l);
      }

  frame_held : last_bit ≡ true → HoldsFrame kept after.memories at (arrived part o)
  frame_held e =
      let f = arrived_frame part o in
      let xs : List ℕ = bytes_so_far part in
      let size_last : length (old 1) ≡ 2 ^ bits = size_at 1 in
      let size_bytes : length (old 2) ≡ 2 ^ bits = size_at 2 in
      let last_is : last_of (xs ++ ys) ≡ q = last_more xs ys q so_far.whole some_bytes most_bytes in
      record {
        frame = subst IsFrame (sym f) (is_frame xs ys q so_far.whole some_bytes most_bytes few so_far.bytes (IsBytes-low_bytes (min o.beat.bytes 8) o.beat.word));
        part = holds_part;
        last = put_here (old 1) (new 1) at (word 11 q) (last_takes ∙ ap (λ t. put t (old 1) at (word 11 q)) e) (omega (arith, size_last, sees.within)) ∙ ap (word 11) (sym (ap last_of f ∙ last_is));
        bytes = put_here (old 2) (new 2) at (word 4 o.beat.bytes) (bytes_take ∙ ap (λ t. put t (old 2) at (word 4 o.beat.bytes)) e) (omega (arith, size_bytes, sees.within))
            ∙ ap (word 4) (sym (ap (λ zs. (beat_of zs (last_of zs)).bytes) f ∙ ap (λ b. (beat_of (xs ++ ys) b).bytes) last_is ∙ new_bytes xs ys q so_far.whole some_bytes most_bytes ∙ bytes_counted));
      }

  -- the beats of another slot, in this memory, in another one, or nowhere
  others_stay_beats : (other : ℕ) (xs : List ℕ) → other ≢ at → beat_count (length xs) ≤ 2 ^ 11 → HoldsBeats (old (bank kept (other / 32))) (other % 32) xs → HoldsBeats (new (bank kept (other / 32))) (other % 32) xs
  others_stay_beats other xs h few_beats held = by_place (nat_lt (other / 32) (banks bits)) refl
    where
      short : q < 2 ^ 11
      short = omega arith

      by_bank : (t : Bool) → (at / 32 == other / 32) ≡ t → other / 32 < banks bits → HoldsBeats (new (bank kept (other / 32))) (other % 32) xs
      by_bank true e l =
          let is : at / 32 ≡ other / 32 = grind (arith, nat_tests) in
          let apart : other % 32 ≢ at % 32 = omega arith in
          beats_same (old (bank kept (other / 32))) (new (bank kept (other / 32))) (at / 32 == other / 32) (at % 32) (other % 32) q _ xs (beats_take (other / 32) l) apart short few_beats held
      by_bank false e l =
          subst (λ m. HoldsBeats m (other % 32) xs) (sym (beats_take (other / 32) l ∙ ap (λ t. put t (old (bank kept (other / 32))) (at % 32 * 2 ^ 11 + q) (word 64 (word_of ys))) e)) held

      by_place : (t : Bool) → nat_lt (other / 32) (banks bits) ≡ t → HoldsBeats (new (bank kept (other / 32))) (other % 32) xs
      by_place true e = let l : other / 32 < banks bits = grind (arith, nat_tests) in by_bank (at / 32 == other / 32) refl l
      by_place false e =
          let l : banks bits ≤ other / 32 = grind (arith, nat_tests) in
          let past : length s.memories ≤ bank kept (other / 32) = bank_past (other / 32) l in
          let same : length after.memories ≡ length s.memories = sym (length-map after.memories length) ∙ ap length (lengths_stay v stores 0 set) ∙ length-map s.memories length in
          subst (λ m. HoldsBeats m (other % 32) xs) (past_all s.memories (bank kept (other / 32)) past ∙ sym (past_all after.memories (bank kept (other / 32)) (omega (arith, past, same)))) held

  others_held : (other : ℕ) (a : Arrival) → other ≢ at → HoldsFrame kept s.memories other a → HoldsFrame kept after.memories other a
  others_held other a h held =
      let room = held.frame.room in
      let few_beats : beat_count (length a.frame) ≤ 2 ^ 11 = omega arith in
      record {
        frame = held.frame;
        part = record {
          beats = others_stay_beats other a.frame h few_beats held.part.beats;
          rest = λ k l. kept_same (get_or kept k Ifindex) (old (3 + k)) (new (3 + k)) other a (others_stay (get_or kept k Ifindex) part o (old (3 + k)) (new (3 + k)) at other h (kept_takes k l)) (held.part.rest k l);
        };
        last = put_other last_bit (old 1) (new 1) at other _ last_takes h ∙ held.last;
        bytes = put_other last_bit (old 2) (new 2) at other _ bytes_take h ∙ held.bytes;
      }

  -- a frame that has begun
  begun_is : last_bit ≡ false → IsBegun (arrived part o) × (position_of (Some (arrived part o)) ≡ suc q)
  begun_is e =
      let f = arrived_frame part o in
      let eight : length ys ≡ 8 = bytes_counted ∙ IsOffer-eight o.beat offer e in
      let n : length (arrived part o).frame ≡ 8 * suc q = ap length f ∙ length-append (bytes_so_far part) ys ∙ omega (arith, so_far.whole, eight) in
      let at_next : length (arrived part o).frame / 8 ≡ suc q = omega (arith, n) in (
        record {
          bytes = subst IsBytes (sym f) (IsBytes-append (bytes_so_far part) ys so_far.bytes (IsBytes-low_bytes (min o.beat.bytes 8) o.beat.word));
          some = omega (arith, at_next);
          whole = n ∙ ap (λ k. 8 * k) (sym at_next);
        },
        at_next,
      )

  gathers_by : (t : Bool) → last_bit ≡ t → Gathers bits kept (if t then None else Some (arrived part o)) at after
  gathers_by true e = record {
    registers = registers_are ∙ ap (λ t. bit (not t) ∷ word 11 (if t then 0 else suc q) ∷ []) e;
    memories = lengths_stay v stores 0 set ∙ g.memories;
    begun = tt;
  }
  gathers_by false e =
      let b = begun_is e in
      record {
        registers = registers_are ∙ ap (λ t. bit (not t) ∷ word 11 (if t then 0 else suc q) ∷ []) e ∙ ap (λ n. bit true ∷ word 11 n ∷ []) (sym b.1);
        memories = lengths_stay v stores 0 set ∙ g.memories;
        begun = (b.0, holds_part);
      }

  pub has_taken : HasTaken bits kept part at o s (done v (gather_statement p bits fs over slot) s)
  has_taken =
      subst (HasTaken bits kept part at o s) (sym after_is) (record { gathers = gathers_by last_bit refl; frame = frame_held; others = others_held })
