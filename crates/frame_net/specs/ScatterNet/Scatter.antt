-- The block that shows answers as beats.
use Rattle.std.specs.Prelude.{◌≡◌, ℕ, suc, ◌+◌, ◌*◌, ◌<◌, Bool, if◌then◌else◌, List, [], ◌∷◌, length, replicate, IsTrue}
use Rattle.std.specs.List.{list_all}
use Rattle.std.proofs.Common.{get_or}
use Rattle.beat_core.specs.declared.answer.Answer.{Answer}
use Rattle.beat_core.specs.declared.frame.TheConstants.{BEAT_LIMIT}
use Rattle.beat_core.specs.Beats.{beat_count}
use Rattle.beat_core.specs.Ports.{Arrival}
use Rattle.net_core.specs.declared.tree.Word.{Word}
use Rattle.net_core.specs.Ports.{port_list}
use Rattle.net_core.specs.Value.{word, bit, Env}
use Rattle.net_core.specs.Clock.{Stored, done}
use Rattle.block_core.specs.design_rules.FormedSyntax.{right_spelled, statement_spelled}
use Rattle.block_core.specs.ProductBlocks.Alone.{IsFree}
use Rattle.block_core.specs.declared.name.Name.{Name}
use Rattle.block_core.specs.declared.name.Name.TheVariants as name
use Rattle.block_core.specs.Blocks.{BlockTree, first_of, Whole, Among}
use Rattle.block_core.specs.Parts.{Solve, Goes, Within}
use Rattle.block_core.specs.Order.{IsBefore, InOrder}
use Rattle.block_core.specs.Formed.{name_width, block_registers, block_memories, block_wires, IsTypedBlock, StatementReads, IsThere}
use Rattle.frame_net.specs.declared.held.Kept.{Kept}
use Rattle.frame_net.specs.Frames.{beat_of, word_at, HoldsFrame}
use Rattle.frame_net.specs.Gather.{held_widths}
use Rattle.frame_net.specs.Sources.{SeesHeld}
use Rattle.frame_net.specs.Answers.{answer_widths, HoldsAnswer, Changes}

-- ---- names of its wires: of the beat that is shown whether it is the last of its answer, how many bytes it has, and its word;
-- and the verdict and the target beside it
abbrev pub last_name : {P : Type 0} → P → Name P
last_name p = name.Wire p 3

abbrev pub bytes_name : {P : Type 0} → P → Name P
bytes_name p = name.Wire p 4

abbrev pub verdict_name : {P : Type 0} → P → Name P
verdict_name p = name.Wire p 5

abbrev pub target_name : {P : Type 0} → P → Name P
target_name p = name.Wire p 6

-- after three wires for each of so many words that have bytes that may change
abbrev pub data_name : {P : Type 0} → P → ℕ → Name P
data_name p words = name.Wire p (10 + 3 * words)

-- ---- what is stored: how many beats of an answer have gone over
abbrev pub at_position : ℕ → Stored
at_position pos = record { registers = word 11 pos ∷ []; memories = [] }

-- the position after a clock in which the beat goes over or not, as a last one or not
abbrev pub position_after : Bool → Bool → ℕ → ℕ
position_after goes last pos = if goes then (if last then 0 else suc pos) else pos

-- ---- a clock
-- the position, the slot of the answer, and the memories of the gatherer and of the exit
pub record SeesAnswer {P : Type 0} (part gather exit : P) (bits : ℕ) (kept : List Kept) (words : List ℕ) (slot : Name P) (v : Env (Name P)) (ms es : List (List Word)) (pos at : ℕ) : Type 0 where
  pub position : v.net (name.Register part 0) ≡ word 11 pos
  pub held : SeesHeld gather bits kept slot v ms at
  pub answers : (i n : ℕ) → i < length (answer_widths bits words) → v.memory_word (name.Memory exit i) n ≡ word_at (get_or es i []) n

-- the beat of an answer, and its verdict and its target
pub record ShowsBeat {P : Type 0} (part : P) (words : List ℕ) (v : Env (Name P)) (r : Answer) (pos : ℕ) : Type 0 where
  pub content : v.net (data_name part (length words)) ≡ word 64 (beat_of r.frame pos).word
  pub bytes : v.net (bytes_name part) ≡ word 4 (beat_of r.frame pos).bytes
  pub last : v.net (last_name part) ≡ bit (beat_of r.frame pos).last
  pub verdict : v.net (verdict_name part) ≡ word 32 r.verdict
  pub target : v.net (target_name part) ≡ word 32 r.target

-- The block: it shows a beat of the frame that came, with the bytes of the answer in place of those that may change, and moves on where that is taken.
pub record IsScatter {P : Type 0} (part gather exit : P) (bits : ℕ) (kept : List Kept) (words bytes : List ℕ) (taken slot : Name P) (b : BlockTree (Name P)) : Type 0 where
  pub registers : block_registers b ≡ 11 ∷ []
  pub memories : b.memories ≡ []
  pub wires : block_wires b ≡ (bits + 5) ∷ 11 ∷ 4 ∷ 1 ∷ 4 ∷ 32 ∷ 32 ∷ 4 ∷ 7 ∷ replicate (2 + 3 * length words) 64
  pub typed :
      (d : Whole P) → d.block part ≡ b → name_width d port_list taken ≡ 1 → name_width d port_list slot ≡ bits → block_memories (d.block gather) ≡ held_widths bits kept → block_memories (d.block exit) ≡ answer_widths bits words
      → IsTypedBlock d port_list b
  pub ordered : (d : Whole P) (before : List P) → Among part d.parts → Among gather d.parts → Among exit d.parts → IsBefore d before part 0 slot → InOrder d before part 0 b.wires
  pub reads : (d : Whole P) → Among part d.parts → IsThere d taken → StatementReads (IsThere d) b.statement
  pub within : Within 1 0 b.statement
  pub wires_spelled : IsTrue (list_all (λ w. right_spelled w.right) b.wires)
  pub spelled : IsTrue (statement_spelled b.statement)
  pub goes : (v : Env (Name P)) → Goes v b.wires
  pub first : first_of b ≡ at_position 0
  pub has_last : (v : Env (Name P)) → Solve v part 0 b.wires → (last : Bool) × (v.net (last_name part) ≡ bit last)
  pub shows :
      (v : Env (Name P)) (ms es : List (List Word)) (pos at : ℕ) (a : Arrival) (r : Answer) → Solve v part 0 b.wires → SeesAnswer part gather exit bits kept words slot v ms es pos at
      → HoldsFrame kept ms at a → HoldsAnswer bytes words es at r → Changes bytes a.frame r → pos < beat_count (length r.frame) → ShowsBeat part words v r pos
  pub clock :
      (v : Env (Name P)) (pos : ℕ) (goes last : Bool) → pos < BEAT_LIMIT → v.net (name.Register part 0) ≡ word 11 pos → v.net taken ≡ bit goes → v.net (last_name part) ≡ bit last
      → done v b.statement (at_position pos) ≡ at_position (position_after goes last pos)
  pub free : IsFree b
