-- The cells of a row, one after another.
use Rattle.std.proofs.Common.{◌≡◌, ◌≢◌, ◌∙◌, ℕ, zero, suc, ◌+◌, ◌<◌, ◌≤◌, Bool, true, false, List, [], ◌∷◌, length, drop, refl, sym, ap, arith, drop-cons}
use Rattle.std.specs.Prelude.{MatchOption, if◌then◌else◌, ◌==◌}
use Rattle.std.proofs.lemmas.Bool.Decides.{Decides-eqb}
use Rattle.cell_core.specs.xdp_machine.State.{PacketIn}
use Rattle.cell_core.specs.declared.operator.Operator.{Operator}
use Rattle.cell_core.specs.declared.operator.Operator.TheVariants.{Constant, Byte, Length, Ifindex, Time, Wire, Later, Join, SignExtend, Not, And, Or, Xor, Any, Select, Phi, Difference, Quotient, Remainder, Add, Sub, Mul, ShiftLeft, ShiftRight, Equal, Less, LessOrEqual, NonZero, Found, Answer, Pending}
use Rattle.cell_core.specs.Cells.{CellView, no_cell, cell_at, number, bits_from}
use Rattle.cell_core.specs.Sites.{ProgramView}
use Rattle.hazard_core.specs.Tables.{TableState}
use Rattle.hazard_core.specs.StageValues.{StageValues, Pointer, with_cell}
use Rattle.hazard_core.specs.Rows.{cell_number, cell_pointer, with_made, made_from}
use Rattle.hazard_core.specs.Sourced.{taken_of}

-- what is left of an operator that takes nothing of a packet is the same for all packets
pub other_packet : (packet other : PacketIn) (op : Operator) (xs : List ℕ) → MatchOption (taken_of packet op) (number packet op xs ≡ number other op xs) (λ n. n ≡ number packet op xs)
other_packet packet other (Byte i) xs = refl
other_packet packet other Length xs = refl
other_packet packet other Ifindex xs = refl
other_packet packet other Time xs = refl
other_packet packet other (Constant n) xs = refl
other_packet packet other Wire xs = refl
other_packet packet other Later xs = refl
other_packet packet other (Join bits) xs = refl
other_packet packet other (SignExtend bits) xs = refl
other_packet packet other Not xs = refl
other_packet packet other And xs = refl
other_packet packet other Or xs = refl
other_packet packet other Xor xs = refl
other_packet packet other Any xs = refl
other_packet packet other Select xs = refl
other_packet packet other Phi xs = refl
other_packet packet other Difference xs = refl
other_packet packet other Quotient xs = refl
other_packet packet other Remainder xs = refl
other_packet packet other Add xs = refl
other_packet packet other Sub xs = refl
other_packet packet other Mul xs = refl
other_packet packet other ShiftLeft xs = refl
other_packet packet other ShiftRight xs = refl
other_packet packet other Equal xs = refl
other_packet packet other Less xs = refl
other_packet packet other LessOrEqual xs = refl
other_packet packet other NonZero xs = refl
other_packet packet other (Found j) xs = refl
other_packet packet other (Answer j) xs = refl
other_packet packet other Pending xs = refl

-- a cell of the row, and one of another
pub made_here : (p : ProgramView) (row : ℕ → ℕ) (r : ℕ) (t : TableState) (packet : PacketIn) (h g : StageValues) (k n : ℕ) (q : Pointer) (v c : CellView) → row k ≡ r → v ≡ c
    → n ≡ cell_number p row r t packet h v v.op → q ≡ cell_pointer p row r t h v v.op → g ≡ with_cell h k (bits_from n v.from v.width) q → g ≡ with_made p row r t packet h k c
made_here p row r t packet h g k n q v c e s m w f =
    f
    ∙ ap (λ (x : ℕ). with_cell h k (bits_from x v.from v.width) q) m
    ∙ ap (with_cell h k (bits_from (cell_number p row r t packet h v v.op) v.from v.width)) w
    ∙ ap (λ (x : CellView). with_cell h k (bits_from (cell_number p row r t packet h x x.op) x.from x.width) (cell_pointer p row r t h x x.op)) s
    ∙ sym (ap (λ (b : Bool). if b then with_cell h k (bits_from (cell_number p row r t packet h c c.op) c.from c.width) (cell_pointer p row r t h c c.op) else h) ((Decides-eqb (row k) r).1 e))

pub made_not : (p : ProgramView) (row : ℕ → ℕ) (r : ℕ) (t : TableState) (packet : PacketIn) (h : StageValues) (k : ℕ) (c : CellView) → row k ≢ r → h ≡ with_made p row r t packet h k c
made_not p row r t packet h k c e = by (row k == r) refl
  where
    by : (b : Bool) → (row k == r) ≡ b → h ≡ (if b then with_cell h k (bits_from (cell_number p row r t packet h c c.op) c.from c.width) (cell_pointer p row r t h c c.op) else h)
    by true f = absurd (e ((Decides-eqb (row k) r).0 f))
    by false f = refl

-- one cell more
pub made_more : (p : ProgramView) (row : ℕ → ℕ) (r : ℕ) (t : TableState) (packet : PacketIn) (cs : List CellView) (k : ℕ) (h g : StageValues) → k < length cs → g ≡ with_made p row r t packet h k (cell_at cs k)
    → made_from p row r t packet (k + 1) (drop (k + 1) cs) g ≡ made_from p row r t packet k (drop k cs) h
made_more p row r t packet cs k h g l e =
    let s : k + 1 ≡ suc k = omega arith in
    rw (s, drop-cons cs k no_cell l, e) refl

pub made_all : (p : ProgramView) (row : ℕ → ℕ) (r : ℕ) (t : TableState) (packet : PacketIn) (cs : List CellView) (k : ℕ) (h : StageValues) → length cs ≤ k → made_from p row r t packet k (drop k cs) h ≡ h
made_all p row r t packet cs k h l = rw (past cs k l) refl
  where
    past : (cs : List CellView) (k : ℕ) → length cs ≤ k → drop k cs ≡ []
    past [] zero l = refl
    past [] (suc k) l = refl
    past (c ∷ cs) zero l = absurd (omega arith)
    past (c ∷ cs) (suc k) l = past cs k (omega arith)
