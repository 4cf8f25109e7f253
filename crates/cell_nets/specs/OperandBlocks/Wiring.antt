-- Parts of wires alone, over operands that come from outside, and the operands that they offer to others.
use Rattle.std.specs.Prelude.{◌≡◌, List, [], IsTrue, All}
use Rattle.std.specs.List.{list_all}
use Rattle.net_core.specs.Nets.{SBlock, SEnd}
use Rattle.net_core.specs.Ports.{port_list}
use Rattle.net_core.specs.Value.{Env}
use Rattle.net_core.specs.Clock.{Stored, done}
use Rattle.block_core.specs.design_rules.FormedSyntax.{right_spelled, statement_spelled}
use Rattle.block_core.specs.ProductBlocks.Alone.{IsFree}
use Rattle.block_core.specs.declared.name.Name.{Name}
use Rattle.block_core.specs.Blocks.{BlockTree, BlockWireTree, Whole, Among}
use Rattle.block_core.specs.Parts.{Solve, Goes, Within}
use Rattle.block_core.specs.Order.{IsBefore, InOrder}
use Rattle.block_core.specs.Formed.{names_scope, IsTypedBlock, StatementReads, IsThere}
use Rattle.cell_nets.specs.declared.operand.Operand.{Operand}
use Rattle.cell_nets.specs.Operands.{IsOperand, AreFit, AreDeclared, IsNetOf}

-- a block that stores nothing
abbrev pub wires_block : {N : Type 0} → List (BlockWireTree N) → BlockTree N
wires_block ws = record { registers = []; memories = []; wires = ws; statement = SBlock SEnd }

-- The block has wires alone, over what comes from outside: it is well typed, in order and spelled where that is declared and stands before it.
pub record IsWiring {P : Type 0} (part : P) (outside : List (Operand (Name P))) (b : BlockTree (Name P)) : Type 0 where
  pub registers : b.registers ≡ []
  pub memories : b.memories ≡ []
  pub typed : (w : Whole P) → w.block part ≡ b → AreDeclared (names_scope w port_list) outside → IsTypedBlock w port_list b
  pub ordered : (w : Whole P) (before : List P) → ((n : Name P) → IsNetOf outside n → IsBefore w before part 0 n) → InOrder w before part 0 b.wires
  pub reads : (w : Whole P) → StatementReads (IsThere w) b.statement
  pub within : Within 0 0 b.statement
  pub wires_spelled : IsTrue (list_all (λ w. right_spelled w.right) b.wires)
  pub spelled : IsTrue (statement_spelled b.statement)
  pub free : IsFree b
  pub goes : (v : Env (Name P)) → AreFit v outside → Solve v part 0 b.wires → Goes v b.wires
  pub stays : (v : Env (Name P)) (s : Stored) → done v b.statement s ≡ s

-- The block of a part gives operands to other parts: they are declared, stand before later parts, are there and have numbers of their widths where what comes
-- from outside does. So they are among these, or wires of the block.
pub record Offers {P : Type 0} (part : P) (outside : List (Operand (Name P))) (b : BlockTree (Name P)) (outs : List (Operand (Name P))) : Type 0 where
  pub operands : All IsOperand outs
  pub declared : (w : Whole P) → w.block part ≡ b → AreDeclared (names_scope w port_list) outside → AreDeclared (names_scope w port_list) outs
  pub before : (w : Whole P) (earlier : List P) (later : P) → w.block part ≡ b → Among part earlier → ((n : Name P) → IsNetOf outside n → IsBefore w earlier later 0 n) → (n : Name P) → IsNetOf outs n → IsBefore w earlier later 0 n
  pub there : (w : Whole P) → Among part w.parts → ((n : Name P) → IsNetOf outside n → IsThere w n) → (n : Name P) → IsNetOf outs n → IsThere w n
  pub fit : (v : Env (Name P)) → AreFit v outside → Solve v part 0 b.wires → AreFit v outs
