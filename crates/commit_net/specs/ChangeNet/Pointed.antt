-- The part that shows words of a slot whose number stands among its own wires.
use Rattle.std.specs.Prelude.{◌≡◌, ℕ, ◌+◌, ◌<◌, ◌≤◌, Bool, true, All, List, [], ◌∷◌, length, map as map_list, IsTrue}
use Rattle.std.specs.List.{list_all, range_with_len}
use Rattle.std.proofs.Common.{get_or}
use Rattle.net_core.specs.Ports.{port_list}
use Rattle.net_core.specs.Value.{word, Env}
use Rattle.net_core.specs.Clock.{Stored, done}
use Rattle.block_core.specs.design_rules.FormedSyntax.{right_spelled, statement_spelled}
use Rattle.block_core.specs.ProductBlocks.Alone.{wire_flat, IsFree}
use Rattle.block_core.specs.declared.name.Name.{Name}
use Rattle.block_core.specs.declared.name.Name.TheVariants as name
use Rattle.block_core.specs.Blocks.{BlockTree, BlockWireTree, Whole, Among}
use Rattle.block_core.specs.Parts.{Solve, Goes, Within}
use Rattle.block_core.specs.Order.{IsBefore, InOrder}
use Rattle.block_core.specs.Formed.{names_scope, block_memories, IsTypedBlock, StatementReads, IsThere}
use Rattle.overlay_net.specs.cell_core.Cells.{bits_from}
use Rattle.overlay_net.specs.hazard_core.Commits.{word_count, word_at as byte_word}
use Rattle.hash_net.specs.array_net.Words.{word_width, HoldsWords}
use Rattle.hash_net.specs.array_net.Hosts.{SeesMemories}
use Rattle.overlay_net.specs.cell_nets.declared.operand.Operand.{Operand}
use Rattle.overlay_net.specs.cell_nets.declared.operand.Operand.TheVariants.{Net}
use Rattle.overlay_net.specs.cell_nets.Operands.{number_in, HasWidth, IsOperand, AreFit, AreDeclared, IsAvailable, IsNetOf}
use Rattle.overlay_net.specs.cell_nets.Wires.{behind, AreWires}

-- the names of so many wires of a part, from one on
abbrev pub wires_from : {P : Type 0} → P → ℕ → ℕ → List (Name P)
wires_from part at count = map_list (λ i. name.Wire part (at + i)) (range_with_len 0 count)

-- The wires of a part, over what comes from outside, none of them a product, and an operand that is there after them.
pub record IsOver {P : Type 0} (part : P) (outside : List (Operand (Name P))) (ws : List (BlockWireTree (Name P))) (a : Operand (Name P)) : Type 0 where
  pub wires : AreWires part outside ws
  pub there : IsAvailable (behind part outside ws) a
  pub operand : IsOperand a
  pub free : (made : Name P → Bool) → list_all (wire_flat made) ws ≡ true

-- the nets of a slot and of words as operands
abbrev pub word_operands : {N : Type 0} → List N → List (Operand N)
word_operands words = map_list (λ n. Net n 64) words

abbrev pub pointed_operands : {N : Type 0} → ℕ → N → List N → List (Operand N)
pointed_operands bits slot words = Net slot bits ∷ word_operands words

-- The block: wires alone. It is well typed, in order and spelled where the other part has the memories of the words and what comes from outside is declared
-- and stands before it, and what it gives is declared and stands before later parts. After the wires that it is over, the net of the slot shows so many bits
-- of the operand, from one on, and the nets of the words so many words, from one on, of a byte string of the slot of that number.
pub record IsPointedWords {P : Type 0} (part of : P) (outside : List (Operand (Name P))) (ws : List (BlockWireTree (Name P))) (a : Operand (Name P)) (shift bits first bytes from count : ℕ) (slot : Name P) (words : List (Name P)) (b : BlockTree (Name P)) : Type 0 where
  pub registers : b.registers ≡ []
  pub memories : b.memories ≡ []
  pub count_of_words : length words ≡ count
  pub typed : (w : Whole P) → w.block part ≡ b → ((i : ℕ) → i < count → get_or (block_memories (w.block of)) (first + (from + i)) (0, 0) ≡ (bits, word_width bytes (from + i))) → AreDeclared (names_scope w port_list) outside → IsTypedBlock w port_list b
  pub ordered : (w : Whole P) (before : List P) → Among of w.parts → ((n : Name P) → IsNetOf outside n → IsBefore w before part 0 n) → InOrder w before part 0 b.wires
  pub reads : (w : Whole P) → StatementReads (IsThere w) b.statement
  pub within : Within 0 0 b.statement
  pub wires_spelled : IsTrue (list_all (λ w. right_spelled w.right) b.wires)
  pub spelled : IsTrue (statement_spelled b.statement)
  pub free : IsFree b
  pub goes : (v : Env (Name P)) → AreFit v outside → Solve v part 0 b.wires → Goes v b.wires
  pub stays : (v : Env (Name P)) (s : Stored) → done v b.statement s ≡ s
  pub operands : All IsOperand (pointed_operands bits slot words)
  pub declared : (w : Whole P) → w.block part ≡ b → AreDeclared (names_scope w port_list) outside → AreDeclared (names_scope w port_list) (pointed_operands bits slot words)
  pub before : (w : Whole P) (earlier : List P) (later : P) → w.block part ≡ b → Among part earlier → ((n : Name P) → IsNetOf outside n → IsBefore w earlier later 0 n) → (n : Name P) → IsNetOf (pointed_operands bits slot words) n → IsBefore w earlier later 0 n
  pub there : (w : Whole P) → Among part w.parts → ((n : Name P) → IsNetOf outside n → IsThere w n) → (n : Name P) → IsNetOf (pointed_operands bits slot words) n → IsThere w n
  pub over : (v : Env (Name P)) → Solve v part 0 b.wires → Solve v part 0 ws
  pub number : (v : Env (Name P)) → AreFit v outside → Solve v part 0 b.wires → v.net slot ≡ word bits (bits_from (number_in v a) shift bits)
  pub fit : (v : Env (Name P)) → AreFit v outside → Solve v part 0 b.wires → HasWidth v slot bits
  pub shows : (v : Env (Name P)) (s : Stored) (cap : ℕ) (strings : ℕ → List ℕ) (n i : ℕ) (d : Name P) → Solve v part 0 b.wires → SeesMemories of v s → HoldsWords cap bytes s.memories first strings → first + word_count bytes ≤ length s.memories
      → (v.net slot).value ≡ n → n < cap → i < count → v.net (get_or words i d) ≡ word 64 (byte_word (strings n) (from + i))
