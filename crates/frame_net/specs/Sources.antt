-- The block that gives the sources of a packet: what is held of the frame in a slot.
use Rattle.std.specs.Prelude.{◌≡◌, ℕ, ◌+◌, ◌^◌, ◌<◌, List, [], ◌∷◌, length, map, IsTrue}
use Rattle.std.specs.List.{list_all}
use Rattle.std.proofs.Common.{get_or}
use Rattle.beat_core.specs.Ports.{Arrival}
use Rattle.net_core.specs.declared.tree.Word.{Word}
use Rattle.net_core.specs.Ports.{port_list}
use Rattle.net_core.specs.Value.{word, Env}
use Rattle.net_core.specs.Clock.{Stored, done}
use Rattle.block_core.specs.design_rules.FormedSyntax.{right_spelled, statement_spelled}
use Rattle.block_core.specs.ProductBlocks.Alone.{IsFree}
use Rattle.block_core.specs.declared.name.Name.{Name}
use Rattle.block_core.specs.declared.name.Name.TheVariants as name
use Rattle.block_core.specs.Blocks.{BlockTree, Whole, Among}
use Rattle.block_core.specs.Parts.{Solve, Goes, Within}
use Rattle.block_core.specs.Order.{IsBefore, InOrder}
use Rattle.block_core.specs.Formed.{name_width, block_memories, block_wires, IsTypedBlock, StatementReads, IsThere}
use Rattle.frame_net.specs.declared.held.Kept.{Kept}
use Rattle.frame_net.specs.declared.held.Kept.TheVariants.{Ifindex, Time, Word as FrameWord}
use Rattle.frame_net.specs.Frames.{beat_of, word_at, HoldsFrame}
use Rattle.frame_net.specs.Gather.{held_widths, kept_width}

-- ---- names of its wires: the frame's length, and each of what is kept
abbrev pub length_name : {P : Type 0} → P → Name P
length_name p = name.Wire p 2

abbrev pub kept_name : {P : Type 0} → P → ℕ → Name P
kept_name p k = name.Wire p (3 + k)

-- ---- a clock
-- what is kept of a frame: of its bytes a word, which is 0 where the frame does not reach it
abbrev pub kept_word : Kept → Arrival → Word
kept_word Ifindex a = word 32 a.ifindex
kept_word Time a = word 64 a.time
kept_word (FrameWord j) a = word 64 (beat_of a.frame j).word

-- the memories of the gatherer, and the slot of a frame
pub record SeesHeld {P : Type 0} (gather : P) (bits : ℕ) (kept : List Kept) (slot : Name P) (v : Env (Name P)) (ms : List (List Word)) (at : ℕ) : Type 0 where
  pub memory : (i n : ℕ) → i < length (held_widths bits kept) → v.memory_word (name.Memory gather i) n ≡ word_at (get_or ms i []) n
  pub in_slot : v.net slot ≡ word bits at
  pub within : at < 2 ^ bits

pub record ShowsFrame {P : Type 0} (part : P) (kept : List Kept) (v : Env (Name P)) (a : Arrival) : Type 0 where
  pub frame_length : v.net (length_name part) ≡ word 14 (length a.frame)
  pub content : (k : ℕ) → k < length kept → v.net (kept_name part k) ≡ kept_word (get_or kept k Ifindex) a

-- The block: wires alone, which show what is held of the frame in the slot.
pub record IsSources {P : Type 0} (part gather : P) (bits : ℕ) (kept : List Kept) (slot : Name P) (b : BlockTree (Name P)) : Type 0 where
  pub registers : b.registers ≡ []
  pub memories : b.memories ≡ []
  pub wires : block_wires b ≡ 11 ∷ 4 ∷ 14 ∷ map kept_width kept
  pub typed : (d : Whole P) → d.block part ≡ b → name_width d port_list slot ≡ bits → block_memories (d.block gather) ≡ held_widths bits kept → IsTypedBlock d port_list b
  pub ordered : (d : Whole P) (before : List P) → Among part d.parts → Among gather d.parts → IsBefore d before part 0 slot → InOrder d before part 0 b.wires
  pub reads : (d : Whole P) → StatementReads (IsThere d) b.statement
  pub within : Within 0 0 b.statement
  pub wires_spelled : IsTrue (list_all (λ w. right_spelled w.right) b.wires)
  pub spelled : IsTrue (statement_spelled b.statement)
  pub goes : (v : Env (Name P)) → Goes v b.wires
  pub shows : (v : Env (Name P)) (ms : List (List Word)) (at : ℕ) (a : Arrival) → Solve v part 0 b.wires → SeesHeld gather bits kept slot v ms at → HoldsFrame kept ms at a → ShowsFrame part kept v a
  pub stays : (v : Env (Name P)) (s : Stored) → done v b.statement s ≡ s
  pub free : IsFree b
