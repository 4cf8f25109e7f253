-- Blocks with registers that take operands in every clock.
use Rattle.std.specs.Prelude.{◌≡◌, ℕ, List, [], length, map as map_list, IsTrue}
use Rattle.std.specs.List.{list_all}
use Rattle.net_core.specs.declared.tree.Word.{Word}
use Rattle.net_core.specs.Ports.{port_list}
use Rattle.net_core.specs.Value.{word, Env}
use Rattle.net_core.specs.Clock.{Stored, done}
use Rattle.block_core.specs.design_rules.FormedSyntax.{right_spelled, statement_spelled}
use Rattle.net_core.specs.ProductRules.Products.{statement_flat}
use Rattle.block_core.specs.declared.name.Name.{Name}
use Rattle.block_core.specs.Blocks.{BlockTree, BlockWireTree, registers_of, memories_of, first_of, Whole}
use Rattle.block_core.specs.Parts.{Solve, Goes, Within}
use Rattle.block_core.specs.Order.{IsBefore, InOrder}
use Rattle.block_core.specs.Formed.{names_scope, block_registers, IsTypedBlock, StatementReads, IsThere}
use Rattle.cell_core.specs.Cells.{bits_from}
use Rattle.cell_nets.specs.declared.operand.Operand.{Operand}
use Rattle.cell_nets.specs.Operands.{number_in, AreFit, AreDeclared, IsNetOf}
use Rattle.cell_nets.specs.Wires.{behind}
use Rattle.cell_nets.specs.declared.operand_blocks.registers.Taken.{Taken}

abbrev pub operand_in : {N : Type 0} → Taken N → Operand N
operand_in t = t.operand

abbrev pub width_in : {N : Type 0} → Taken N → ℕ
width_in t = t.width

-- what a register takes
abbrev pub taken_word : {N : Type 0} → Env N → Taken N → Word
taken_word v t = word t.width (bits_from (number_in v t.operand) 0 t.width)

abbrev pub zero_word : {N : Type 0} → Taken N → Word
zero_word t = word t.width 0

-- The block has these wires, over what comes from outside, and a register for each of these, which is 0 at first: it is well typed, in order and spelled where the nets from
-- outside are, no product stands in its statement, no divisor is 0, and in a clock each register takes its operand.
pub record IsRegistered {P : Type 0} (part : P) (outside : List (Operand (Name P))) (all : List (Taken (Name P))) (ws : List (BlockWireTree (Name P))) (b : BlockTree (Name P)) : Type 0 where
  pub wires : b.wires ≡ ws
  pub registers : block_registers b ≡ map_list width_in all
  pub memories : b.memories ≡ []
  pub typed : (w : Whole P) → w.block part ≡ b → AreDeclared (names_scope w port_list) outside → IsTypedBlock w port_list b
  pub ordered : (w : Whole P) (before : List P) → ((n : Name P) → IsNetOf outside n → IsBefore w before part 0 n) → InOrder w before part 0 b.wires
  pub reads : (w : Whole P) → ((n : Name P) → IsNetOf (behind part outside ws) n → IsThere w n) → StatementReads (IsThere w) b.statement
  pub within : Within (registers_of b) (memories_of b) b.statement
  pub wires_spelled : IsTrue (list_all (λ w. right_spelled w.right) b.wires)
  pub spelled : IsTrue (statement_spelled b.statement)
  pub flat : (made : Name P → _) → IsTrue (statement_flat made b.statement)
  pub goes : (v : Env (Name P)) → AreFit v outside → Solve v part 0 b.wires → Goes v b.wires
  pub first : first_of b ≡ record { registers = map_list zero_word all; memories = [] }
  pub takes : (v : Env (Name P)) (s : Stored) → AreFit v outside → Solve v part 0 b.wires → length s.registers ≡ length all → s.memories ≡ [] → done v b.statement s ≡ record { registers = map_list (taken_word v) all; memories = [] }
