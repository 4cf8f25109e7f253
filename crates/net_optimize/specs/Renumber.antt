-- A design of which some wires and registers are dropped: the others move up, and are read by their new numbers.
use Rattle.std.specs.Prelude.{ℕ, suc, ◌==◌, if◌then◌else◌, Bool, true, false, ◌&&◌, List, [], ◌∷◌, ◌++◌, map as map_list}
use Rattle.std.proofs.Common.{get_or}
use Rattle.net_core.specs.declared.tree.Net.{Net}
use Rattle.net_core.specs.declared.tree.Net.TheVariants.{Port, Register, Memory, Wire}
use Rattle.net_core.specs.Nets.{Tree, StatementTree, SBlock, SIf, SIfElse, SSet, SStore, StatementTrees, SEnd, SThen, WireTree, AssignTree}
use Rattle.net_core.specs.Clock.{Stored}
use Rattle.net_core.specs.Chains.{statements_before}
use Rattle.block_core.specs.Rename.{rename, rename_right}
use Rattle.net_optimize.specs.declared.renumber.Numbering.{Numbering}

-- the number of what is dropped: no design has a wire or a register of this number
abbrev pub dropped : ℕ
dropped = 4294967295

-- the new numbers of wires or registers, of which these are kept, from a number on
abbrev pub numbers : ℕ → List Bool → List ℕ
numbers at [] = []
numbers at (true ∷ ks) = at ∷ numbers (suc at) ks
numbers at (false ∷ ks) = dropped ∷ numbers at ks

-- what is kept
abbrev pub kept : {A : Type 0} → List Bool → List A → List A
kept [] xs = []
kept (k ∷ ks) [] = []
kept (true ∷ ks) (x ∷ xs) = x ∷ kept ks xs
kept (false ∷ ks) (x ∷ xs) = kept ks xs

-- what is stored where these registers are kept
abbrev pub kept_stored : List Bool → Stored → Stored
kept_stored ks s = record s { registers = kept ks s.registers }

-- the new numbers of wires and registers, and of each register the one that is read for it
pub record NewNumbers : Type 0 where
  pub wires : List ℕ
  pub registers : List ℕ
  pub firsts : List ℕ

abbrev pub numbers_of : Numbering → NewNumbers
numbers_of n = record { wires = n.wires.items; registers = n.registers.items; firsts = n.firsts.items }

-- a net by the new numbers
abbrev pub renumber : NewNumbers → Net → Net
renumber ns (Port i) = Port i
renumber ns (Register i) = Register (get_or ns.registers (get_or ns.firsts i i) dropped)
renumber ns (Memory i) = Memory i
renumber ns (Wire i) = Wire (get_or ns.wires i dropped)

abbrev pub renumber_wire : NewNumbers → WireTree → WireTree
renumber_wire ns w = record { width = w.width; right = rename_right (renumber ns) w.right }

abbrev pub renumber_assign : NewNumbers → AssignTree → AssignTree
renumber_assign ns a = record { port = a.port; value = rename (renumber ns) a.value }

-- does nothing
abbrev pub is_idle : StatementTree Net → Bool
is_idle (SBlock SEnd) = true
is_idle (SBlock (SThen a more)) = false
is_idle (SIf c a) = false
is_idle (SIfElse c a b) = false
is_idle (SSet k e) = false
is_idle (SStore k i e) = false

-- statements without those that do nothing
abbrev pub when : Tree Net → StatementTree Net → StatementTree Net
when c a = if is_idle a then a else SIf c a

abbrev pub when_else : Tree Net → StatementTree Net → StatementTree Net → StatementTree Net
when_else c a b = if is_idle a && is_idle b then a else SIfElse c a b

abbrev pub busy : StatementTree Net → List (StatementTree Net)
busy a = if is_idle a then [] else a ∷ []

-- the register of this new number is set, if it is kept
abbrev pub set_kept : ℕ → Tree Net → StatementTree Net
set_kept number e = if number == dropped then SBlock SEnd else SSet number e

-- a statement without what sets registers that are dropped
abbrev mutual
  pub renumber_statement : NewNumbers → StatementTree Net → StatementTree Net
  renumber_statement ns (SBlock more) = SBlock (renumber_statements ns more)
  renumber_statement ns (SIf c a) = when (rename (renumber ns) c) (renumber_statement ns a)
  renumber_statement ns (SIfElse c a b) = when_else (rename (renumber ns) c) (renumber_statement ns a) (renumber_statement ns b)
  renumber_statement ns (SSet k e) = set_kept (get_or ns.registers k dropped) (rename (renumber ns) e)
  renumber_statement ns (SStore k i e) = SStore k (rename (renumber ns) i) (rename (renumber ns) e)

  pub renumber_statements : NewNumbers → StatementTrees Net → StatementTrees Net
  renumber_statements ns SEnd = SEnd
  renumber_statements ns (SThen a more) = statements_before (busy (renumber_statement ns a)) (renumber_statements ns more)

abbrev pub renumber_always : NewNumbers → List (StatementTree Net) → List (StatementTree Net)
renumber_always ns [] = []
renumber_always ns (a ∷ more) = busy (renumber_statement ns a) ++ renumber_always ns more

abbrev pub kept_wires : NewNumbers → List Bool → List WireTree → List WireTree
kept_wires ns ks ws = map_list (renumber_wire ns) (kept ks ws)
