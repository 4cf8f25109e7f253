-- The nets of the block that gathers frames.
use Rattle.std.specs.Prelude.{ℕ, ◌+◌, ◌-◌, List, [], ◌∷◌, map}
use Rattle.net_core.specs.declared.tree.Op.TheVariants.{Add, Sub, And, ShiftRight, Equal}
use Rattle.net_core.specs.declared.tree.UnaryOp.TheVariants.{Not}
use Rattle.net_core.specs.declared.ports.TheConstants.{IN_DATA, IN_BYTES, IN_LAST, IN_IFINDEX, IN_TIME}
use Rattle.net_core.specs.Nets.{Tree, TConst, TRead, TPartSelect, TUnary, TBinary, TConditional, TConcatenation, TLast, TMore, RPlain, StatementTree, SBlock, SIf, SSet, SEnd}
use Rattle.net_core.specs.Chains.{statements_before}
use Rattle.net_core.specs.Value.{word}
use Rattle.block_core.specs.declared.name.Name.{Name}
use Rattle.block_core.specs.declared.name.Name.TheVariants as name
use Rattle.block_core.specs.Blocks.{BlockTree, BlockWireTree}
use Rattle.frame_net.specs.declared.held.Kept.{Kept}
use Rattle.frame_net.specs.declared.held.Kept.TheVariants.{Ifindex, Time, Word as FrameWord}
use Rattle.frame_net.specs.declared.held.Further.{Further}
use Rattle.frame_net.specs.declared.held.Further.TheVariants.{Kept as Keep, Bank}
use Rattle.frame_net.specs.Frames.{bank_bits, further}
use Rattle.frame_net.specs.Gather.{held_widths}
use Rattle.frame_net.specs.Stores.{Store, widths_memory, store_statements}

abbrev pub port : {P : Type 0} → ℕ → Tree (Name P)
port k = TRead (name.Port k)

abbrev pub register : {P : Type 0} → P → ℕ → Tree (Name P)
register p k = TRead (name.Register p k)

abbrev pub net : {P : Type 0} → P → ℕ → Tree (Name P)
net p k = TRead (name.Wire p k)

abbrev pub constant : {N : Type 0} → ℕ → ℕ → Tree N
constant width value = TConst (word width value)

abbrev pub wire : {N : Type 0} → ℕ → Tree N → BlockWireTree N
wire width e = record { width = width; right = RPlain e }

-- one expression above another
abbrev pub beside : {N : Type 0} → Tree N → Tree N → Tree N
beside a b = TConcatenation (TMore a (TLast b))

-- ---- the lowest bytes of a word: how many bytes do not count, how many bits those are, and the word with 0 in their place
abbrev pub uncounted : {N : Type 0} → Tree N → Tree N
uncounted bytes = TBinary Sub (constant 4 8) bytes

abbrev pub in_bits : {N : Type 0} → Tree N → Tree N
in_bits bytes = beside bytes (constant 3 0)

abbrev pub masked : {N : Type 0} → Tree N → Tree N → Tree N
masked value shift = TBinary And value (TBinary ShiftRight (constant 64 18446744073709551615) shift)

-- ---- where a beat stands, by its slot after five zeros: its memory, and the place there, a beat's number after a slot's
abbrev pub wide : {N : Type 0} → N → Tree N
wide slot = beside (constant 5 0) (TRead slot)

abbrev pub place : {N : Type 0} → ℕ → N → Tree N → Tree N
place bits wide position = beside (TPartSelect wide (bank_bits bits - 1) 0) position

abbrev pub in_bank : {N : Type 0} → ℕ → N → ℕ → Tree N
in_bank bits wide b = TBinary Equal (TPartSelect wide (bits + 4) 5) (constant bits b)

-- the next position, which is 0 after a last beat
abbrev pub next_position : {N : Type 0} → Tree N → Tree N → Tree N
next_position last position = TConditional last (constant 11 0) (TBinary Add position (constant 11 1))

-- ---- the block. Registers: whether a frame has begun, and how many beats of it have come
-- 0, 1, 2: the beat's word; 3, 4: a frame ends, one begins; 5: the slot; 6: where the beat is stored
abbrev pub gather_wires : {P : Type 0} → P → ℕ → Name P → Name P → List (BlockWireTree (Name P))
gather_wires p bits over slot =
    wire 4 (uncounted (port IN_BYTES))
    ∷ wire 7 (in_bits (net p 0))
    ∷ wire 64 (masked (port IN_DATA) (net p 1))
    ∷ wire 1 (TBinary And (TRead over) (port IN_LAST))
    ∷ wire 1 (TBinary And (TRead over) (TUnary Not (register p 0)))
    ∷ wire (bits + 5) (wide slot)
    ∷ wire (bank_bits bits + 11) (place bits (name.Wire p 5) (register p 1))
    ∷ []

abbrev pub store : {P : Type 0} → Tree (Name P) → Tree (Name P) → Tree (Name P) → Store (Name P)
store condition at value = record { condition = condition; at = at; value = value }

abbrev pub kept_store : {P : Type 0} → P → Name P → Name P → Kept → Store (Name P)
kept_store p over slot Ifindex = store (net p 4) (TRead slot) (port IN_IFINDEX)
kept_store p over slot Time = store (net p 4) (TRead slot) (port IN_TIME)
kept_store p over slot (FrameWord j) = store (TBinary And (TRead over) (TBinary Equal (register p 1) (constant 11 j))) (TRead slot) (net p 2)

abbrev pub beat_store : {P : Type 0} → P → ℕ → Name P → ℕ → Store (Name P)
beat_store p bits over b = store (TBinary And (TRead over) (in_bank bits (name.Wire p 5) b)) (net p 6) (net p 2)

abbrev pub further_store : {P : Type 0} → P → ℕ → Name P → Name P → Further → Store (Name P)
further_store p bits over slot (Keep x) = kept_store p over slot x
further_store p bits over slot (Bank b) = beat_store p bits over b

-- beats; the number of the last beat, and its bytes; what else is kept, and the beats of further slots
abbrev pub gather_stores : {P : Type 0} → P → ℕ → List Further → Name P → Name P → List (Store (Name P))
gather_stores p bits fs over slot =
    beat_store p bits over 0
    ∷ store (net p 3) (TRead slot) (register p 1)
    ∷ store (net p 3) (TRead slot) (port IN_BYTES)
    ∷ map (further_store p bits over slot) fs

abbrev pub gather_sets : {P : Type 0} → P → Name P → List (StatementTree (Name P)) → List (StatementTree (Name P))
gather_sets p over more = SIf (TRead over) (SSet 0 (TUnary Not (port IN_LAST))) ∷ SIf (TRead over) (SSet 1 (next_position (port IN_LAST) (register p 1))) ∷ more

abbrev pub gather_statement : {P : Type 0} → P → ℕ → List Further → Name P → Name P → StatementTree (Name P)
gather_statement p bits fs over slot = SBlock (statements_before (gather_sets p over (store_statements 0 (gather_stores p bits fs over slot))) SEnd)

abbrev pub gather_block : {P : Type 0} → P → ℕ → List Kept → Name P → Name P → BlockTree (Name P)
gather_block p bits kept over slot = record {
  registers = word 1 0 ∷ word 11 0 ∷ [];
  memories = map widths_memory (held_widths bits kept);
  wires = gather_wires p bits over slot;
  statement = gather_statement p bits (further bits kept) over slot;
}
