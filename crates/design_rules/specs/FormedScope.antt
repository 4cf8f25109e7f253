-- Which nets an item may read and set: those that are declared before it, each as what it is.
use Rattle.std.specs.Prelude.{ℕ, zero, suc, ◌==◌, nat_lt, Bool, true, false, ◌&&◌, List, count_by}
use Rattle.std.proofs.Common.{get_or, not}
use Rattle.net_core.specs.declared.tree.Net.{Net}
use Rattle.net_core.specs.declared.tree.Net.TheVariants.{Port, Register, Memory, Wire}
use Rattle.net_core.specs.declared.design.Port as port
use Rattle.net_core.specs.declared.design.Declared.{Declared}
use Rattle.net_core.specs.declared.design.Declared.TheVariants as declared
use Rattle.net_core.specs.Nets.{Tree, TConst, TRead, TBit, TPartSelect, TMemoryWord, TUnary, TBinary, TConditional, TConcatenation, Trees, TLast, TMore, RightTree, RPlain, RQuotient, RRemainder, StatementTree, SBlock, SIf, SIfElse, SSet, SStore, StatementTrees, SEnd, SThen, Netlist}
use Rattle.net_core.specs.Names.{is_integer, is_register, is_memory}

-- which names stand for a value, and which for a memory
pub record Sorts (N : Type 0) : Type 0 where
  pub value : N → Bool
  pub memory : N → Bool

-- what a tree reads is there: vectors by their value or by selects, memories word by word
abbrev mutual
  pub reads_known : {N : Type 0} → Sorts N → Tree N → Bool
  reads_known s (TConst w) = true
  reads_known s (TRead n) = s.value n
  reads_known s (TBit n i) = s.value n
  reads_known s (TPartSelect n hi lo) = s.value n
  reads_known s (TMemoryWord m i) = s.memory m && reads_known s i
  reads_known s (TUnary p a) = reads_known s a
  reads_known s (TBinary op a b) = reads_known s a && reads_known s b
  reads_known s (TConditional c a b) = reads_known s c && (reads_known s a && reads_known s b)
  reads_known s (TConcatenation ps) = parts_known s ps

  pub parts_known : {N : Type 0} → Sorts N → Trees N → Bool
  parts_known s (TLast a) = reads_known s a
  parts_known s (TMore a ps) = reads_known s a && parts_known s ps

abbrev pub right_known : {N : Type 0} → Sorts N → RightTree N → Bool
right_known s (RPlain e) = reads_known s e
right_known s (RQuotient a b) = s.value a && s.value b
right_known s (RRemainder a b) = s.value a && s.value b

-- each register and each memory that a statement sets passes its test
abbrev mutual
  pub targets_pass : {N : Type 0} → (ℕ → Bool) → (ℕ → Bool) → StatementTree N → Bool
  targets_pass r m (SBlock more) = all_targets_pass r m more
  targets_pass r m (SIf c a) = targets_pass r m a
  targets_pass r m (SIfElse c a b) = targets_pass r m a && targets_pass r m b
  targets_pass r m (SSet k e) = r k
  targets_pass r m (SStore k i e) = m k

  pub all_targets_pass : {N : Type 0} → (ℕ → Bool) → (ℕ → Bool) → StatementTrees N → Bool
  all_targets_pass r m SEnd = true
  all_targets_pass r m (SThen a more) = targets_pass r m a && all_targets_pass r m more

-- no statement of these sets the register, or the memory
abbrev pub leaves_register : {N : Type 0} → ℕ → StatementTree N → Bool
leaves_register r a = targets_pass (λ k. not (k == r)) (λ k. true) a

abbrev pub leaves_memory : {N : Type 0} → ℕ → StatementTree N → Bool
leaves_memory m a = targets_pass (λ k. true) (λ k. not (k == m)) a

-- what can be read by an item before which so many wires stand: inputs other than `clk`, registers, wires
abbrev pub is_input : List port.Port → ℕ → Bool
is_input ports zero = false
is_input ports (suc k) = not (get_or ports (suc k) (record { output = true; width = 0 })).output

abbrev pub is_output : List port.Port → ℕ → Bool
is_output ports k = (get_or ports k (record { output = false; width = 0 })).output

abbrev pub registers_of : Netlist → ℕ
registers_of d = count_by is_register d.declared

abbrev pub memories_of : Netlist → ℕ
memories_of d = count_by is_memory d.declared

abbrev pub is_value : Netlist → ℕ → Net → Bool
is_value d before (Port k) = is_input d.ports k
is_value d before (Register k) = nat_lt k (registers_of d)
is_value d before (Memory k) = false
is_value d before (Wire k) = nat_lt k before

abbrev pub is_words : Netlist → Net → Bool
is_words d (Port k) = false
is_words d (Register k) = false
is_words d (Memory k) = nat_lt k (memories_of d)
is_words d (Wire k) = false

abbrev pub sorts : Netlist → ℕ → Sorts Net
sorts d before = record { value = is_value d before; memory = is_words d }

-- the integer of a memory is one of those that stand before it
abbrev pub integer_known : List Declared → Declared → Bool
integer_known before declared.Integer = true
integer_known before (declared.Register w) = true
integer_known before (declared.Memory i w n) = nat_lt n (count_by is_integer before)
