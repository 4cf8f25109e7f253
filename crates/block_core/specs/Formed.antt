-- What makes a linked design well typed, block by block.
use Rattle.std.specs.Prelude.{◌≡◌, ℕ, nat_le, ◌&&◌, Bool, true, false, List, [], ◌∷◌, map, IsTrue}
use Rattle.std.proofs.Common.{get_or}
use Rattle.net_core.specs.declared.tree.Word.{Word}
use Rattle.net_core.specs.declared.design.Port.{Port}
use Rattle.net_core.specs.Nets.{StatementTree, SBlock, SIf, SIfElse, SSet, SStore, StatementTrees, SEnd, SThen}
use Rattle.net_core.specs.Ports.{port_list}
use Rattle.net_core.specs.Width.{Scope, width_of, right_width, same, word_fits, statement_typed, port_width, output_width, all_assigned, IsTyped}
use Rattle.block_core.specs.declared.name.Name.{Name}
use Rattle.block_core.specs.declared.name.Name.TheVariants as name
use Rattle.block_core.specs.declared.block.BlockMemory.{BlockMemory}
use Rattle.block_core.specs.Blocks.{BlockTree, BlockWireTree, OutputTree, Whole, IsPlaced, Among}
use Rattle.block_core.specs.Link.{resolve, link_output, link}
use Rattle.block_core.specs.Order.{Reads, AllInOrder}

-- ---- widths: those of all nets, without their order
abbrev pub word_width : Word → ℕ
word_width w = w.width

-- of a memory the widths of its index and of its words
abbrev pub block_memory_width : BlockMemory → ℕ × ℕ
block_memory_width m = (m.index, m.first.width)

abbrev pub block_wire_width : {N : Type 0} → BlockWireTree N → ℕ
block_wire_width w = w.width

abbrev pub block_registers : {N : Type 0} → BlockTree N → List ℕ
block_registers b = map word_width b.registers

abbrev pub block_memories : {N : Type 0} → BlockTree N → List (ℕ × ℕ)
block_memories b = map block_memory_width b.memories

abbrev pub block_wires : {N : Type 0} → BlockTree N → List ℕ
block_wires b = map block_wire_width b.wires

abbrev pub name_width : {P : Type 0} → Whole P → List Port → Name P → ℕ
name_width d ports (name.Port i) = port_width ports i
name_width d ports (name.Register p i) = get_or (block_registers (d.block p)) i 0
name_width d ports (name.Memory p i) = 0
name_width d ports (name.Wire p i) = get_or (block_wires (d.block p)) i 0

abbrev pub name_memory : {P : Type 0} → Whole P → Name P → ℕ × ℕ
name_memory d (name.Port i) = (0, 0)
name_memory d (name.Register p i) = (0, 0)
name_memory d (name.Memory p i) = get_or (block_memories (d.block p)) i (0, 0)
name_memory d (name.Wire p i) = (0, 0)

abbrev pub names_scope : {P : Type 0} → Whole P → List Port → Scope (Name P)
names_scope d ports = record { net = name_width d ports; memory_word = λ m. (name_memory d m).1; index = λ m. (name_memory d m).0 }

-- ---- what is well typed
abbrev pub words_fit : List Word → Bool
words_fit [] = true
words_fit (w ∷ ws) = word_fits w && words_fit ws

abbrev pub memories_fit : List BlockMemory → Bool
memories_fit [] = true
memories_fit (m ∷ ms) = ((nat_le 1 m.index && nat_le m.index 16) && word_fits m.first) && memories_fit ms

abbrev pub block_wires_typed : {N : Type 0} → Scope N → List (BlockWireTree N) → Bool
block_wires_typed s [] = true
block_wires_typed s (w ∷ ws) = (same w.width (right_width s w.right) && nat_le w.width 64) && block_wires_typed s ws

-- a part's block is well typed, where each net that it reads has its width
pub record IsTypedBlock {P : Type 0} (d : Whole P) (ports : List Port) (b : BlockTree (Name P)) : Type 0 where
  pub registers : IsTrue (words_fit b.registers)
  pub memories : IsTrue (memories_fit b.memories)
  pub wires : IsTrue (block_wires_typed (names_scope d ports) b.wires)
  pub statement : IsTrue (statement_typed (names_scope d ports) (block_registers b) (block_memories b) b.statement)

-- each net that a statement reads is such a one
abbrev mutual
  pub StatementReads : {N : Type 0} → (N → Type 0) → StatementTree N → Type 0
  StatementReads q (SBlock more) = StatementsRead q more
  StatementReads q (SIf c a) = Reads q c × StatementReads q a
  StatementReads q (SIfElse c a b) = Reads q c × StatementReads q a × StatementReads q b
  StatementReads q (SSet k e) = Reads q e
  StatementReads q (SStore k i e) = Reads q i × Reads q e

  pub StatementsRead : {N : Type 0} → (N → Type 0) → StatementTrees N → Type 0
  StatementsRead q SEnd = Unit {0}
  StatementsRead q (SThen a more) = StatementReads q a × StatementsRead q more

abbrev pub OutputsRead : {N : Type 0} → (N → Type 0) → List (OutputTree N) → Type 0
OutputsRead q [] = Unit {0}
OutputsRead q (o ∷ os) = Reads q o.value × OutputsRead q os

-- a port, or a net of one of the parts
abbrev pub IsThere : {P : Type 0} → Whole P → Name P → Type 0
IsThere d (name.Port i) = Unit {0}
IsThere d (name.Register q i) = Among q d.parts
IsThere d (name.Memory q i) = Among q d.parts
IsThere d (name.Wire q i) = Among q d.parts

abbrev pub outputs_typed : {N : Type 0} → Scope N → List Port → List (OutputTree N) → Bool
outputs_typed s ports [] = true
outputs_typed s ports (o ∷ os) = same (output_width (get_or ports o.port (record { output = false; width = 0 }))) (width_of s o.value) && outputs_typed s ports os

-- The design has the ports of every design, all outputs are assigned, wires stand in order, and each block is well typed.
pub record IsFormed {P : Type 0} (d : Whole P) (ports : List Port) (outputs : List (OutputTree (Name P))) : Type 0 where
  pub has_ports : ports ≡ port_list
  pub placed : IsPlaced d
  pub ordered : AllInOrder d [] d.parts
  pub blocks : (p : P) → Among p d.parts → IsTypedBlock d ports (d.block p)
  pub statements : (p : P) → Among p d.parts → StatementReads (IsThere d) (d.block p).statement
  pub shows : OutputsRead (IsThere d) outputs
  pub shown : IsTrue (outputs_typed (names_scope d ports) ports outputs)
  pub assigned : IsTrue (all_assigned (map (link_output (resolve d)) outputs) 0 ports)

-- such a design is well typed
abbrev pub LinkedIsTyped : (P : Type 0) → Type 0
LinkedIsTyped P = (d : Whole P) (names : List (List ℕ)) (ports : List Port) (outputs : List (OutputTree (Name P))) → IsFormed d ports outputs → IsTyped (link d names ports outputs)
