-- The block that keeps answers of packets that leave the pipeline, by slot.
use Rattle.std.specs.Prelude.{◌≡◌, ◌≢◌, ℕ, ◌+◌, ◌^◌, ◌<◌, true, false, List, [], ◌∷◌, length, map as map_list, replicate, slice_index, Contains, IsTrue}
use Rattle.beat_core.specs.declared.answer.Answer.{Answer}
use Rattle.net_core.specs.Ports.{port_list}
use Rattle.net_core.specs.Value.{word, bit, Env}
use Rattle.net_core.specs.Clock.{Stored, done}
use Rattle.block_core.specs.design_rules.FormedSyntax.{statement_spelled}
use Rattle.block_core.specs.ProductBlocks.Alone.{IsFree}
use Rattle.block_core.specs.declared.name.Name.{Name}
use Rattle.block_core.specs.Blocks.{BlockTree, first_of, registers_of, memories_of, Whole}
use Rattle.block_core.specs.Parts.{Within}
use Rattle.block_core.specs.Formed.{name_width, names_scope, block_memories, IsTypedBlock, StatementReads, IsThere}
use Rattle.overlay_net.specs.cell_core.Cells.{bits_from}
use Rattle.cell_nets.specs.declared.operand.Operand.{Operand}
use Rattle.cell_nets.specs.Operands.{number_in, AreFit, AreDeclared, IsNetOf}
use Rattle.row_net.specs.declared.place_net.outputs.AnswerByte.{AnswerByte}
use Rattle.row_net.specs.declared.place_net.outputs.Outputs.{Outputs}
use Rattle.frame_net.specs.Answers.{answer_widths, HoldsAnswer}

abbrev pub byte_operand : {N : Type 0} → AnswerByte N → Operand N
byte_operand x = x.operand

abbrev pub byte_number : {N : Type 0} → AnswerByte N → ℕ
byte_number x = x.at

-- all that is read for an answer
abbrev pub output_operands : {N : Type 0} → Outputs N → List (Operand N)
output_operands o = o.verdict ∷ o.target ∷ map_list byte_operand o.bytes.items

-- the numbers of the bytes that may change
abbrev pub byte_numbers : {N : Type 0} → Outputs N → List ℕ
byte_numbers o = map_list byte_number o.bytes.items

-- An answer for which these stand: 32 bits for its verdict and for its target, and 8 for each of these bytes that its frame has.
pub record IsAnswer {N : Type 0} (v : Env N) (o : Outputs N) (r : Answer) : Type 0 where
  pub verdict : r.verdict ≡ bits_from (number_in v o.verdict) 0 32
  pub target : r.target ≡ bits_from (number_in v o.target) 0 32
  pub bytes : (x : AnswerByte N) → Contains o.bytes.items x → x.at < length r.frame → slice_index r.frame x.at ≡ bits_from (number_in v x.operand) 0 8

-- The block has its memories, each of as many words as there are slots.
pub record KeepsAnswers (bits : ℕ) (words : List ℕ) (s : Stored) : Type 0 where
  pub registers : s.registers ≡ []
  pub memories : map_list length s.memories ≡ replicate (2 + length words) (2 ^ bits)

-- what the block sees in a clock: that a packet leaves, and its slot
pub record SeesExit {P : Type 0} (bits : ℕ) (exits slot : Name P) (o : Outputs (Name P)) (v : Env (Name P)) (at : ℕ) : Type 0 where
  pub leaves : v.net exits ≡ bit true
  pub in_slot : v.net slot ≡ word bits at
  pub within : at < 2 ^ bits
  pub fit : AreFit v (output_operands o)

-- A packet left: its slot holds the answer for which the operands stand. Answers in other slots stay.
pub record HasLeft {N : Type 0} (bits : ℕ) (words : List ℕ) (o : Outputs N) (v : Env N) (at : ℕ) (s t : Stored) : Type 0 where
  pub keeps : KeepsAnswers bits words t
  pub answer : (r : Answer) → IsAnswer v o r → HoldsAnswer (byte_numbers o) words t.memories at r
  pub others : (slot : ℕ) (r : Answer) → slot ≢ at → HoldsAnswer (byte_numbers o) words s.memories slot r → HoldsAnswer (byte_numbers o) words t.memories slot r

-- The block: what it has, that it is well typed and spelled where the nets that it reads of other parts are, and what a clock does.
pub record IsExit {P : Type 0} (bits : ℕ) (words : List ℕ) (exits slot : Name P) (o : Outputs (Name P)) (b : BlockTree (Name P)) : Type 0 where
  pub registers : b.registers ≡ []
  pub memories : block_memories b ≡ answer_widths bits words
  pub wires : b.wires ≡ []
  pub typed : (d : Whole P) → name_width d port_list exits ≡ 1 → name_width d port_list slot ≡ bits → AreDeclared (names_scope d port_list) (output_operands o) → IsTypedBlock d port_list b
  pub reads : (d : Whole P) → IsThere d exits → IsThere d slot → ((n : Name P) → IsNetOf (output_operands o) n → IsThere d n) → StatementReads (IsThere d) b.statement
  pub within : Within (registers_of b) (memories_of b) b.statement
  pub spelled : IsTrue (statement_spelled b.statement)
  pub first : KeepsAnswers bits words (first_of b)
  pub stays : (v : Env (Name P)) (s : Stored) → v.net exits ≡ bit false → done v b.statement s ≡ s
  pub takes : (v : Env (Name P)) (s : Stored) (at : ℕ) → SeesExit bits exits slot o v at → KeepsAnswers bits words s → HasLeft bits words o v at s (done v b.statement s)
  pub free : IsFree b
