-- What an expression means (IEEE 1364-2005, 5.1, on unsigned numbers below 2 to their width).
use Rattle.std.specs.Prelude.{ℕ, ◌+◌, ◌-◌, ◌*◌, ◌/◌, ◌%◌, ◌^◌, ◌==◌, nat_lt, nat_le, if◌then◌else◌, Bool, true, false, bit_and, bit_or, bit_xor}
use Rattle.net_core.specs.declared.tree.Word.{Word}
use Rattle.net_core.specs.declared.tree.Op.{Op}
use Rattle.net_core.specs.declared.tree.Op.TheVariants.{Add, Sub, Mul, And, Or, Xor, ShiftLeft, ShiftRight, Equal, NotEqual, Less, LessEqual, Greater, GreaterEqual}
use Rattle.net_core.specs.declared.tree.UnaryOp.{UnaryOp}
use Rattle.net_core.specs.declared.tree.UnaryOp.TheVariants.{Not, ReduceOr}
use Rattle.net_core.specs.Nets.{Tree, TConst, TRead, TBit, TPartSelect, TMemoryWord, TUnary, TBinary, TConditional, TConcatenation, Trees, TLast, TMore, RightTree, RPlain, RQuotient, RRemainder}

abbrev pub word : ℕ → ℕ → Word
word w v = record { width = w; value = v }

abbrev pub number_of : Bool → ℕ
number_of b = if b then 1 else 0

-- one bit
abbrev pub bit : Bool → Word
bit b = word 1 (number_of b)

-- no net
abbrev pub nothing : Word
nothing = word 0 0

-- Sums and products wrap, a shift by the width or more gives 0, comparisons are unsigned.
abbrev pub apply : Op → Word → Word → Word
apply Add a b = word a.width ((a.value + b.value) % 2 ^ a.width)
apply Sub a b = word a.width ((a.value + 2 ^ a.width - b.value) % 2 ^ a.width)
apply Mul a b = word a.width (a.value * b.value % 2 ^ a.width)
apply And a b = word a.width (bit_and a.value b.value)
apply Or a b = word a.width (bit_or a.value b.value)
apply Xor a b = word a.width (bit_xor a.value b.value)
apply ShiftLeft a b = word a.width (if nat_lt b.value a.width then a.value * 2 ^ b.value % 2 ^ a.width else 0)
apply ShiftRight a b = word a.width (if nat_lt b.value a.width then a.value / 2 ^ b.value else 0)
apply Equal a b = bit (a.value == b.value)
apply NotEqual a b = bit (if a.value == b.value then false else true)
apply Less a b = bit (nat_lt a.value b.value)
apply LessEqual a b = bit (nat_le a.value b.value)
apply Greater a b = bit (nat_lt b.value a.value)
apply GreaterEqual a b = bit (nat_le b.value a.value)

abbrev pub apply_unary : UnaryOp → Word → Word
apply_unary Not a = word a.width (2 ^ a.width - 1 - a.value)
apply_unary ReduceOr a = bit (if a.value == 0 then false else true)

-- one number before another
abbrev pub concatenated : Word → Word → Word
concatenated a b = word (a.width + b.width) (a.value * 2 ^ b.width + b.value)

abbrev pub conditional : Word → Word → Word → Word
conditional c a b = if c.value == 0 then b else a

abbrev pub part_select : Word → ℕ → ℕ → Word
part_select w hi lo = word (hi + 1 - lo) (w.value / 2 ^ lo % 2 ^ (hi + 1 - lo))

-- the values of nets, and of the words of memories
pub record Env (N : Type 0) : Type 0 where
  pub net : N → Word
  pub memory_word : N → ℕ → Word

abbrev mutual
  pub value : {N : Type 0} → Env N → Tree N → Word
  value v (TConst w) = w
  value v (TRead n) = v.net n
  value v (TBit n i) = part_select (v.net n) i i
  value v (TPartSelect n hi lo) = part_select (v.net n) hi lo
  value v (TMemoryWord m i) = v.memory_word m (value v i).value
  value v (TUnary p a) = apply_unary p (value v a)
  value v (TBinary op a b) = apply op (value v a) (value v b)
  value v (TConditional c a b) = conditional (value v c) (value v a) (value v b)
  value v (TConcatenation ps) = concatenated_parts v ps

  pub concatenated_parts : {N : Type 0} → Env N → Trees N → Word
  concatenated_parts v (TLast a) = value v a
  concatenated_parts v (TMore a ps) = concatenated (value v a) (concatenated_parts v ps)

abbrev pub right_value : {N : Type 0} → Env N → RightTree N → Word
right_value v (RPlain e) = value v e
right_value v (RQuotient a b) = word (v.net a).width ((v.net a).value / (v.net b).value)
right_value v (RRemainder a b) = word (v.net a).width ((v.net a).value % (v.net b).value)

-- its divisor is zero
abbrev pub stops : {N : Type 0} → Env N → RightTree N → Bool
stops v (RPlain e) = false
stops v (RQuotient a b) = (v.net b).value == 0
stops v (RRemainder a b) = (v.net b).value == 0
