-- The width of an expression, or 0 where it has none, and what is well typed.
use Rattle.std.specs.Prelude.{◌≡◌, ℕ, zero, suc, ◌+◌, ◌-◌, ◌^◌, ◌<◌, ◌≤◌, ◌==◌, nat_lt, nat_le, if◌then◌else◌, Bool, true, false, ◌&&◌, ◌||◌, List, [], ◌∷◌, ◌++◌, take, IsTrue}
use Rattle.std.proofs.Common.{get_or}
use Rattle.net_core.specs.declared.tree.Word.{Word}
use Rattle.net_core.specs.declared.tree.Op.{Op}
use Rattle.net_core.specs.declared.tree.Op.TheVariants.{Add, Sub, Mul, And, Or, Xor, ShiftLeft, ShiftRight, Equal, NotEqual, Less, LessEqual, Greater, GreaterEqual}
use Rattle.net_core.specs.declared.tree.UnaryOp.{UnaryOp}
use Rattle.net_core.specs.declared.tree.UnaryOp.TheVariants.{Not, ReduceOr}
use Rattle.net_core.specs.declared.tree.Net.{Net}
use Rattle.net_core.specs.declared.tree.Net.TheVariants.{Port, Register, Memory, Wire}
use Rattle.net_core.specs.declared.design.Port as port
use Rattle.net_core.specs.declared.design.Declared.{Declared}
use Rattle.net_core.specs.declared.design.Declared.TheVariants as declared
use Rattle.net_core.specs.Nets.{Tree, TConst, TRead, TBit, TPartSelect, TMemoryWord, TUnary, TBinary, TConditional, TConcatenation, Trees, TLast, TMore, RightTree, RPlain, RQuotient, RRemainder, StatementTree, SBlock, SIf, SIfElse, SSet, SStore, StatementTrees, SEnd, SThen, WireTree, AssignTree, Netlist}
use Rattle.net_core.specs.Ports.{port_list}
pub use Rattle.net_core.specs.Ports.{input_width, output_width}

-- a number that fits its width, of 1 to 64 bits
pub record Fits (w : Word) : Type 0 where
  pub some : 0 < w.width
  pub most : w.width ≤ 64
  pub small : w.value < 2 ^ w.width

-- the widths of nets, and of the words and indexes of memories; 0 for what is not there
pub record Scope (N : Type 0) : Type 0 where
  pub net : N → ℕ
  pub memory_word : N → ℕ
  pub index : N → ℕ

-- one width on both sides
abbrev pub same_width : ℕ → ℕ → ℕ
same_width a b = if a == b then a else 0

-- a comparison of two sides of one width
abbrev pub test_width : ℕ → ℕ → ℕ
test_width a b = if nat_lt 0 a && a == b then 1 else 0

abbrev pub shift_width : ℕ → ℕ → ℕ
shift_width a b = if nat_lt 0 b then a else 0

abbrev pub op_width : Op → ℕ → ℕ → ℕ
op_width Add a b = same_width a b
op_width Sub a b = same_width a b
op_width Mul a b = same_width a b
op_width And a b = same_width a b
op_width Or a b = same_width a b
op_width Xor a b = same_width a b
op_width ShiftLeft a b = shift_width a b
op_width ShiftRight a b = shift_width a b
op_width Equal a b = test_width a b
op_width NotEqual a b = test_width a b
op_width Less a b = test_width a b
op_width LessEqual a b = test_width a b
op_width Greater a b = test_width a b
op_width GreaterEqual a b = test_width a b

abbrev pub unary_width : UnaryOp → ℕ → ℕ
unary_width Not a = a
unary_width ReduceOr a = if nat_lt 0 a then 1 else 0

abbrev pub const_width : Word → ℕ
const_width w = if nat_le w.width 64 && nat_lt w.value (2 ^ w.width) then w.width else 0

-- a net of one bit has no selects
abbrev pub part_select_width : ℕ → ℕ → ℕ → ℕ
part_select_width w hi lo = if nat_le 2 w && (nat_le lo hi && nat_lt hi w) then hi + 1 - lo else 0

abbrev pub memory_word_width : ℕ → ℕ → ℕ → ℕ
memory_word_width i index memory_word = if nat_lt 0 i && i == index then memory_word else 0

abbrev pub conditional_width : ℕ → ℕ → ℕ → ℕ
conditional_width c a b = if c == 1 && a == b then a else 0

-- the sum, where both sides have a width and it is at most 64
abbrev pub concatenation_width : ℕ → ℕ → ℕ
concatenation_width a b = if nat_lt 0 a && (nat_lt 0 b && nat_le (a + b) 64) then a + b else 0

abbrev mutual
  pub width_of : {N : Type 0} → Scope N → Tree N → ℕ
  width_of s (TConst w) = const_width w
  width_of s (TRead n) = s.net n
  width_of s (TBit n i) = part_select_width (s.net n) i i
  width_of s (TPartSelect n hi lo) = part_select_width (s.net n) hi lo
  width_of s (TMemoryWord m i) = memory_word_width (width_of s i) (s.index m) (s.memory_word m)
  width_of s (TUnary p a) = unary_width p (width_of s a)
  width_of s (TBinary op a b) = op_width op (width_of s a) (width_of s b)
  width_of s (TConditional c a b) = conditional_width (width_of s c) (width_of s a) (width_of s b)
  width_of s (TConcatenation ps) = parts_width s ps

  pub parts_width : {N : Type 0} → Scope N → Trees N → ℕ
  parts_width s (TLast a) = width_of s a
  parts_width s (TMore a ps) = concatenation_width (width_of s a) (parts_width s ps)

abbrev pub right_width : {N : Type 0} → Scope N → RightTree N → ℕ
right_width s (RPlain e) = width_of s e
right_width s (RQuotient a b) = same_width (s.net a) (s.net b)
right_width s (RRemainder a b) = same_width (s.net a) (s.net b)

-- two sides of an assignment
abbrev pub same : ℕ → ℕ → Bool
same a b = nat_lt 0 a && a == b

-- what sets registers and memories of these widths
abbrev mutual
  pub statement_typed : {N : Type 0} → Scope N → List ℕ → List (ℕ × ℕ) → StatementTree N → Bool
  statement_typed s rs ms (SBlock more) = statements_typed s rs ms more
  statement_typed s rs ms (SIf c a) = (width_of s c == 1) && statement_typed s rs ms a
  statement_typed s rs ms (SIfElse c a b) = (width_of s c == 1) && (statement_typed s rs ms a && statement_typed s rs ms b)
  statement_typed s rs ms (SSet r e) = same (get_or rs r 0) (width_of s e)
  statement_typed s rs ms (SStore m i e) = same (get_or ms m (0, 0)).0 (width_of s i) && same (get_or ms m (0, 0)).1 (width_of s e)

  pub statements_typed : {N : Type 0} → Scope N → List ℕ → List (ℕ × ℕ) → StatementTrees N → Bool
  statements_typed s rs ms SEnd = true
  statements_typed s rs ms (SThen a more) = statement_typed s rs ms a && statements_typed s rs ms more

abbrev pub register_widths : List Declared → List ℕ
register_widths [] = []
register_widths (declared.Integer ∷ ds) = register_widths ds
register_widths (declared.Register w ∷ ds) = w.width ∷ register_widths ds
register_widths (declared.Memory i w n ∷ ds) = register_widths ds

-- of each memory the widths of its index and of its words
abbrev pub memory_widths : List Declared → List (ℕ × ℕ)
memory_widths [] = []
memory_widths (declared.Integer ∷ ds) = memory_widths ds
memory_widths (declared.Register w ∷ ds) = memory_widths ds
memory_widths (declared.Memory i w n ∷ ds) = (i, w.width) ∷ memory_widths ds

-- `clk`, the first port, is not read
abbrev pub port_width : List port.Port → ℕ → ℕ
port_width ports zero = 0
port_width ports (suc k) = input_width (get_or ports (suc k) (record { output = true; width = 0 }))

abbrev pub net_width : Netlist → List ℕ → Net → ℕ
net_width d ws (Port i) = port_width d.ports i
net_width d ws (Register i) = get_or (register_widths d.declared) i 0
net_width d ws (Memory i) = 0
net_width d ws (Wire i) = get_or ws i 0

abbrev pub memory_width : Netlist → Net → ℕ × ℕ
memory_width d (Port i) = (0, 0)
memory_width d (Register i) = (0, 0)
memory_width d (Memory i) = get_or (memory_widths d.declared) i (0, 0)
memory_width d (Wire i) = (0, 0)

-- what can be read where the wires of these widths stand before
abbrev pub scope : Netlist → List ℕ → Scope Net
scope d ws = record { net = net_width d ws; memory_word = λ m. (memory_width d m).1; index = λ m. (memory_width d m).0 }

abbrev pub wires_typed : Netlist → List ℕ → List WireTree → Bool
wires_typed d ws [] = true
wires_typed d ws (w ∷ rest) = (same w.width (right_width (scope d ws) w.right) && nat_le w.width 64) && wires_typed d (ws ++ w.width ∷ []) rest

abbrev pub wire_widths : List WireTree → List ℕ
wire_widths [] = []
wire_widths (w ∷ ws) = w.width ∷ wire_widths ws

abbrev pub full_scope : Netlist → Scope Net
full_scope d = scope d (wire_widths d.wires)

-- where so many wires stand before
abbrev pub scope_before : Netlist → ℕ → Scope Net
scope_before d before = scope d (take before (wire_widths d.wires))

abbrev pub word_fits : Word → Bool
word_fits w = nat_lt 0 w.width && (nat_le w.width 64 && nat_lt w.value (2 ^ w.width))

abbrev pub declared_typed : List Declared → Bool
declared_typed [] = true
declared_typed (declared.Integer ∷ ds) = declared_typed ds
declared_typed (declared.Register w ∷ ds) = word_fits w && declared_typed ds
declared_typed (declared.Memory i w n ∷ ds) = (nat_le 1 i && nat_le i 16) && (word_fits w && declared_typed ds)

abbrev pub statements_all_typed : Netlist → List (StatementTree Net) → Bool
statements_all_typed d [] = true
statements_all_typed d (a ∷ rest) = statement_typed (full_scope d) (register_widths d.declared) (memory_widths d.declared) a && statements_all_typed d rest

abbrev pub assigns_typed : Netlist → List AssignTree → Bool
assigns_typed d [] = true
assigns_typed d (a ∷ rest) = same (output_width (get_or d.ports a.port (record { output = false; width = 0 }))) (width_of (full_scope d) a.value) && assigns_typed d rest

abbrev pub is_assigned : List AssignTree → ℕ → Bool
is_assigned [] port = false
is_assigned (a ∷ rest) port = (a.port == port) || is_assigned rest port

abbrev pub all_assigned : List AssignTree → ℕ → List port.Port → Bool
all_assigned made at [] = true
all_assigned made at (p ∷ ps) = ((if p.output then is_assigned made at else true)) && all_assigned made (suc at) ps

-- A clock of the design has a meaning: everything that is read is there and stands before, and both sides of each
-- operator and assignment have one width.
pub record IsTyped (d : Netlist) : Type 0 where
  pub ports : d.ports ≡ port_list
  pub declared : IsTrue (declared_typed d.declared)
  pub wires : IsTrue (wires_typed d [] d.wires)
  pub assigns : IsTrue (assigns_typed d d.assigns)
  pub outputs : IsTrue (all_assigned d.assigns 0 d.ports)
  pub always : IsTrue (statements_all_typed d d.always)
