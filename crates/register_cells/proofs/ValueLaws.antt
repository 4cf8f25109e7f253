-- Rows of a value that new cells make.
use Rattle.std.proofs.Common.{◌≡◌, ℕ, ◌+◌, ◌≤◌, max, Bool, true, false, if◌then◌else◌, Result, Ok, Err, IfOk, List, refl, subst, arith}
use Rattle.cell_core.specs.bpf_isa.declared.operation.AluCode.{AluCode}
use Rattle.cell_core.specs.bpf_isa.declared.operation.AluCode.TheVariants.{Add, Lsh, Rsh, Arsh}
use Rattle.cell_core.specs.bpf_isa.declared.operation.Src.{Src}
use Rattle.cell_core.specs.bpf_isa.declared.operation.Width.{Width}
use Rattle.xdp_state.specs.declared.refusal.Why.{Why}
use Rattle.kind_core.specs.declared.number.Number.{Number}
use Rattle.kind_core.specs.declared.number.Number.TheVariants.{Known, Between}
use Rattle.kind_core.specs.declared.kind.Kind.{Kind}
use Rattle.kind_core.specs.declared.kind.Kind.TheVariants.{Num}
use Rattle.kind_core.specs.NumberBounds.{lower, upper, unknown, any_number}
use Rattle.kind_core.specs.Numbers.{number_arithmetic}
use Rattle.cell_core.specs.xdp_machine.Arithmetic.{bits_in, low, arithmetic}
use Rattle.cell_core.specs.Cells.{CellView, is_heavy, bit}
use Rattle.operator_cells.specs.Making.{Makes, operator_of}
use Rattle.operator_cells.specs.Rising.{Rises}
use Rattle.operator_cells.proofs.MakingLaws.{grown}
use Rattle.operator_cells.proofs.RisingLaws.{stand_none, stand_more, rises_then, rises_by}
use Rattle.operator_cells.specs.row_rules.PlaceRows.Origins.{is_open, open_row}
use Rattle.operator_cells.specs.HeldCells.RegisterCells.{PointerView, number_of}
use Rattle.operator_cells.specs.HeldCells.Rows.{number_row, value_row}
use Rattle.operator_cells.proofs.HeldCells.RowLaws.{grows_by}
use Rattle.register_cells.specs.Reading.{Finds}
use Rattle.register_cells.specs.Rows.{ValueTo}
use Rattle.register_cells.specs.Shifting.{is_shift}
use Rattle.register_cells.specs.Combining.{is_late, worked_row}
use Rattle.register_cells.proofs.Growing.{makes_after}

-- ---- numbers
pub same_most : {n : ℕ} → n ≤ n
same_most = omega arith

pub zero_most : {n : ℕ} → 0 ≤ n
zero_most = omega arith

pub trans_most : {a b n : ℕ} → a ≤ b → b ≤ n → a ≤ n
trans_most l m = omega (arith, l, m)

left_most : {a : ℕ} (b n : ℕ) → a ≤ max a b + n
left_most b n = omega arith

right_most : {b : ℕ} (a n : ℕ) → b ≤ max a b + n
right_most a n = omega arith

both_most : {l r a b m n : ℕ} → l ≤ a → r ≤ b → m ≤ n → max l r + m ≤ max a b + n
both_most e f g = omega (arith, e, f, g)

one_cell : {a n : ℕ} → a ≤ n → max a 0 ≤ n
one_cell l = omega (arith, l)

cell_left : {a : ℕ} (n : ℕ) → a ≤ max (max a 0) 0 + n
cell_left n = omega arith

-- ---- values
open_most : (x : Kind) (a b : ℕ) → a ≤ b → open_row x a ≤ open_row x b
open_most x a b h = by (is_open x)
  where
    by : (t : Bool) → (if t then a else 0) ≤ (if t then b else 0)
    by true = h
    by false = omega arith

-- a later row may be said
pub value_by : {old new : List CellView} {ps : List PointerView} {x : Kind} {c : ℕ} {f g : (ℕ → ℕ) → ℕ} → ValueTo old new ps x c f → ((row : ℕ → ℕ) → f row ≤ g row) → ValueTo old new ps x c g
value_by {x = x} {f = f} {g = g} v h = record {
  grows = grows_by v.grows (λ row. open_most x (f row) (g row) (h row));
  value = λ row rows. trans_most (v.value row rows) (h row);
}

-- no cell more
pub value_none : {a : List CellView} (ps : List PointerView) (x : Kind) (c : ℕ) (result : (ℕ → ℕ) → ℕ) → ((row : ℕ → ℕ) → value_row row ps x c ≤ result row) → ValueTo a a ps x c result
value_none ps x c result h = record { grows = stand_none.grows; value = λ row rows. h row }

-- a cell that holds a number
pub value_risen : {old new : List CellView} {c lo hi : ℕ} {f result : (ℕ → ℕ) → ℕ} (ps : List PointerView) → Rises old new c f → ((row : ℕ → ℕ) → f row ≤ result row) → ValueTo old new ps (Num (Between lo hi)) c result
value_risen ps r h = record { grows = grows_by r.grows h; value = λ row rows. one_cell (trans_most (r.result row rows) (h row)) }

pub if_rises : {E : Type 0} (old new : List CellView) {f g : (ℕ → ℕ) → ℕ} (r : Result ℕ E) → IfOk r (λ c. Rises old new c f) → ((row : ℕ → ℕ) → f row ≤ g row) → IfOk r (λ c. Rises old new c g)
if_rises old new (Ok c) r h = rises_by r h
if_rises old new (Err e) r h = tt

-- what holds of a kind that a test gives
pub ok_at : (r : Result Kind Why) (P : Kind → Type 0) (x : Kind) → r ≡ Ok x → IfOk r P → P x
ok_at r P x e h = subst (λ (s : Result Kind Why). IfOk s P) e h

-- ---- arithmetic on numbers, not both known

-- a number that is not known
abbrev any : Number
any = any_number 64

pub late_most : (code : AluCode) → bit (is_heavy (operator_of code)) ≤ bit (is_late code (Num any) (Num any))
late_most Add = omega arith
late_most code = omega arith

-- a shift by a known number stands apart
abbrev pub AreOpen : AluCode → Number → Number → Type 0
AreOpen code (Known m) (Known n) = ⊥
AreOpen code (Between lo hi) (Known n) = is_shift code ≡ false
AreOpen code x (Between lo hi) = Unit {0}

pub open_right : (code : AluCode) (x y : Number) (lo hi : ℕ) → y ≡ Between lo hi → AreOpen code x y
open_right code x y lo hi e = rw e (by x)
  where
    by : (x : Number) → AreOpen code x (Between lo hi)
    by (Known m) = tt
    by (Between l h) = tt

pub open_shift : (code : AluCode) (x y : Number) (lo hi n : ℕ) → x ≡ Between lo hi → y ≡ Known n → is_shift code ≡ false → AreOpen code x y
open_shift code x y lo hi n e f h = rw (e, f) h

-- a row is late by the operation alone where the second operand is not known
late_open : (code : AluCode) (lo hi l h : ℕ) → bit (is_late code (Num any) (Num any)) ≤ bit (is_late code (Num (Between lo hi)) (Num (Between l h)))
late_open Add lo hi l h = same_most
late_open code lo hi l h = same_most

late_known : (code : AluCode) (n l h : ℕ) → is_shift code ≡ false → bit (is_late code (Num any) (Num any)) ≤ bit (is_late code (Num (Known n)) (Num (Between l h)))
late_known Lsh n l h e = absurd (cc)
late_known Rsh n l h e = absurd (cc)
late_known Arsh n l h e = absurd (cc)
late_known code n l h e = same_most

late_by : (code : AluCode) (x y : Number) (l h : ℕ) → AreOpen code x y → bit (is_late code (Num any) (Num any)) ≤ bit (is_late code (Num y) (Num (Between l h)))
late_by code (Known m) (Known n) l h are = absurd are
late_by code (Between lo hi) (Known n) l h are = late_known code n l h are
late_by code (Known m) (Between lo hi) l h are = late_open code lo hi l h
late_by code (Between u v) (Between lo hi) l h are = late_open code lo hi l h

arithmetic_open : (code : AluCode) (signed : Bool) (w : Width) (s : Src) (x y : Number) → AreOpen code x y → number_arithmetic code signed w s x y ≡ unknown (number_arithmetic code signed w s x y)
arithmetic_open code signed w s (Known m) (Known n) h = absurd h
arithmetic_open code signed w s (Known m) (Between lo hi) h = refl
arithmetic_open code signed w s (Between lo hi) y h = refl

module _ {s0 s1 s2 s3 : List CellView} {l r c : ℕ} (code : AluCode) (signed : Bool) (w : Width) (s : Src) (x : Number) (p : ℕ) (y : Number) (q : ℕ) (open_both : AreOpen code x y) where
  pub worked_finds : Makes s0 s1 l (λ packet v. number_of v x p) → Makes s1 s2 r (λ packet v. number_of v y q)
      → Makes s2 s3 c (λ packet v. arithmetic code signed (bits_in w) (low (bits_in w) (v l)) (low (bits_in w) (v r)))
      → Finds s0 s3 (number_arithmetic code signed w s x y) c (λ packet v. arithmetic code signed (bits_in w) (low (bits_in w) (number_of v x p)) (low (bits_in w) (number_of v y q)))
  worked_finds left right made =
      let all : Makes s0 s3 c (λ packet v. arithmetic code signed (bits_in w) (low (bits_in w) (number_of v x p)) (low (bits_in w) (number_of v y q))) =
      makes_after (grown left.grows right.grows) made (λ packet v run. rw (left.value packet v (right.grows.run packet v run), right.value packet v run) refl) in
      rw (arithmetic_open code signed w s x y open_both) (record { grows = all.grows; there = all.there; value = all.value })

  pub worked_to : (ps : List PointerView) → Rises s0 s1 l (λ row. number_row row x p) → Rises s1 s2 r (λ row. number_row row y q) → Rises s2 s3 c (λ row. worked_row code (Num any) (Num any) (row l) (row r))
      → ValueTo s0 s3 ps (Num (number_arithmetic code signed w s x y)) c (λ row. worked_row code (Num y) (Num (number_arithmetic code signed w s x y)) (number_row row x p) (number_row row y q))
  worked_to ps left right made =
      let least : ℕ = lower (number_arithmetic code signed w s x y) in
      let most : ℕ = upper (number_arithmetic code signed w s x y) in
      let all : Rises s0 s3 c (λ row. worked_row code (Num y) (Num (Between least most)) (number_row row x p) (number_row row y q)) =
      rises_then (stand_more (stand_more stand_none left (λ row k. left_most (number_row row y q) (bit (is_late code (Num y) (Num (Between least most)))))) right (λ row k. right_most (number_row row x p) (bit (is_late code (Num y) (Num (Between least most)))))) made (λ row k. both_most k.0.1 k.1 (late_by code x y least most open_both)) in
      rw (arithmetic_open code signed w s x y open_both) (value_risen ps all (λ row. same_most))

-- a shift by a known number
pub shifted_to : {old new : List CellView} {c p : ℕ} (ps : List PointerView) (code : AluCode) (signed : Bool) (w : Width) (s : Src) (lo hi n q : ℕ) → Rises old new c (λ row. row p)
    → ValueTo old new ps (Num (number_arithmetic code signed w s (Between lo hi) (Known n))) c (λ row. worked_row code (Num (Known n)) (Num (number_arithmetic code signed w s (Between lo hi) (Known n))) (number_row row (Between lo hi) p) (number_row row (Known n) q))
shifted_to ps code signed w s lo hi n q r = value_risen ps r (λ row. cell_left (bit (is_late code (Num (Known n)) (Num (number_arithmetic code signed w s (Between lo hi) (Known n))))))
