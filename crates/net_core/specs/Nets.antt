-- The trees of a design as its reader sees them: without the places in memory where they lie.
use Rattle.std.specs.Prelude.{ℕ, List}
use Rattle.net_core.specs.declared.tree.Word.{Word}
use Rattle.net_core.specs.declared.tree.Op.{Op}
use Rattle.net_core.specs.declared.tree.UnaryOp.{UnaryOp}
use Rattle.net_core.specs.declared.tree.Net.{Net}
use Rattle.net_core.specs.declared.design.Port.{Port}
use Rattle.net_core.specs.declared.design.Declared.{Declared}

mutual
  pub data Tree (N : Type 0) : Type 0 where
    TConst : Word → Tree N
    TRead : N → Tree N
    TBit : N → ℕ → Tree N
    TPartSelect : N → ℕ → ℕ → Tree N
    TMemoryWord : N → Tree N → Tree N
    TUnary : UnaryOp → Tree N → Tree N
    TBinary : Op → Tree N → Tree N → Tree N
    TConditional : Tree N → Tree N → Tree N → Tree N
    TConcatenation : Trees N → Tree N

  -- the parts of a concatenation
  pub data Trees (N : Type 0) : Type 0 where
    TLast : Tree N → Trees N
    TMore : Tree N → Trees N → Trees N

-- the right side of a wire
pub data RightTree (N : Type 0) : Type 0 where
  RPlain : Tree N → RightTree N
  RQuotient : N → N → RightTree N
  RRemainder : N → N → RightTree N

mutual
  pub data StatementTree (N : Type 0) : Type 0 where
    SBlock : StatementTrees N → StatementTree N
    SIf : Tree N → StatementTree N → StatementTree N
    SIfElse : Tree N → StatementTree N → StatementTree N → StatementTree N
    SSet : ℕ → Tree N → StatementTree N
    SStore : ℕ → Tree N → Tree N → StatementTree N

  -- the statements between `begin` and `end`
  pub data StatementTrees (N : Type 0) : Type 0 where
    SEnd : StatementTrees N
    SThen : StatementTree N → StatementTrees N → StatementTrees N

pub record WireTree : Type 0 where
  pub width : ℕ
  pub right : RightTree Net

pub record AssignTree : Type 0 where
  pub port : ℕ
  pub value : Tree Net

pub record Netlist : Type 0 where
  pub names : List (List ℕ)
  pub ports : List Port
  pub declared : List Declared
  pub wires : List WireTree
  pub assigns : List AssignTree
  pub always : List (StatementTree Net)
