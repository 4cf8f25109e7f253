-- Rows of what arithmetic on values gives.
use Rattle.std.proofs.Common.{◌≡◌, ◌≢◌, ℕ, zero, ◌+◌, ◌≤◌, ℤ, pos, max, unsigned_abs, Bool, false, Result, Ok, Err, IfOk, List, refl, arith}
use Rattle.std.specs.Ordering.{int_eq}
use Rattle.cell_core.specs.bpf_isa.declared.operation.Src.{Src}
use Rattle.cell_core.specs.bpf_isa.declared.operation.Src.TheVariants.{K}
use Rattle.cell_core.specs.bpf_isa.declared.operation.Width.{Width}
use Rattle.cell_core.specs.bpf_isa.declared.operation.Width.TheVariants.{Bits64}
use Rattle.cell_core.specs.bpf_isa.declared.operation.AluCode.{AluCode}
use Rattle.cell_core.specs.bpf_isa.declared.operation.AluCode.TheVariants.{Add, Sub, Mov}
use Rattle.cell_core.specs.xdp_maps.declared.decl.MapDecl.{MapDecl}
use Rattle.xdp_state.specs.declared.refusal.Why.{Why}
use Rattle.kind_core.specs.declared.number.Number.{Number}
use Rattle.kind_core.specs.declared.number.Number.TheVariants.{Known, Between}
use Rattle.kind_core.specs.declared.kind.Kind.{Kind}
use Rattle.kind_core.specs.declared.kind.Kind.TheVariants.{Num, Packet, Var, End}
use Rattle.kind_core.specs.Numbers.{number_arithmetic, number_sum, number_difference, number_extended, number_ordered}
use Rattle.kind_core.specs.Pointers.{sum, difference, copied, computed, combined}
use Rattle.cell_core.specs.Cells.{CellView}
use Rattle.operator_cells.specs.Rising.{Rises}
use Rattle.operator_cells.specs.HeldCells.RegisterCells.{PointerView}
use Rattle.operator_cells.specs.HeldCells.Rows.{number_row, value_row}
use Rattle.register_cells.specs.Reading.{are_known}
use Rattle.register_cells.specs.Combining.{worked_row, combined_row}
use Rattle.register_cells.specs.Rows.{ValueTo}
use Rattle.register_cells.proofs.Growing.{ok_map}
use Rattle.register_cells.proofs.ValueLaws.{same_most, value_by, value_risen}
use Rattle.register_cells.proofs.Yielding.{combined_mov, combined_add, combined_sub, combined_else}

-- numbers that are known where others are
pub value_extended : {old new : List CellView} {c : ℕ} {result : (ℕ → ℕ) → ℕ} (ps : List PointerView) (w : Width) (count : ℕ) (x : Number) → ValueTo old new ps (Num (number_extended w count x)) c result → ValueTo old new ps (Num x) c result
value_extended ps w count (Known a) v = record { grows = v.grows; value = v.value }
value_extended ps w count (Between lo hi) v = record { grows = v.grows; value = v.value }

pub value_ordered : {old new : List CellView} {c : ℕ} {result : (ℕ → ℕ) → ℕ} (ps : List PointerView) (most : ℕ) (end : Src) (m n : ℕ) (x : Number) → ValueTo old new ps (Num (number_ordered most end m x)) c result → ValueTo old new ps (Num (number_ordered most end n x)) c result
value_ordered ps most end m n (Known a) v = record { grows = v.grows; value = v.value }
value_ordered ps most end m n (Between lo hi) v = v

value_sum : {old new : List CellView} {c : ℕ} {result : (ℕ → ℕ) → ℕ} (ps : List PointerView) (x y : Number) → ValueTo old new ps (Num (number_arithmetic Add false Bits64 K x y)) c result → ValueTo old new ps (Num (number_sum x y)) c result
value_sum ps (Known a) (Known b) v = record { grows = v.grows; value = v.value }
value_sum ps (Known a) (Between lo hi) v = record { grows = v.grows; value = v.value }
value_sum ps (Between lo hi) y v = record { grows = v.grows; value = v.value }

value_difference : {old new : List CellView} {c : ℕ} {result : (ℕ → ℕ) → ℕ} (ps : List PointerView) (x y : Number) → ValueTo old new ps (Num (number_arithmetic Sub false Bits64 K x y)) c result → ValueTo old new ps (Num (number_difference x y)) c result
value_difference ps (Known a) (Known b) v = record { grows = v.grows; value = v.value }
value_difference ps (Known a) (Between lo hi) v = record { grows = v.grows; value = v.value }
value_difference ps (Between lo hi) y v = record { grows = v.grows; value = v.value }

cell_most : {a : ℕ} → a ≤ max a 0
cell_most = omega arith

one_more : (n : ℕ) → 1 ≤ n + 1
one_more n = omega arith

-- ---- arithmetic on two numbers
module _ {old new : List CellView} {c : ℕ} (ps : List PointerView) {a b : Kind} (p q : ℕ) (x y : Number) (left : a ≡ Num x) (right : b ≡ Num y) where
  pub computed_to : (w : Width) (code : AluCode) (signed : Bool) (s : Src)
      → ValueTo old new ps (Num (number_arithmetic code signed w s x y)) c (λ row. worked_row code (Num y) (Num (number_arithmetic code signed w s x y)) (number_row row x p) (number_row row y q))
      → IfOk (computed w code signed s a b) (λ z. ValueTo old new ps z c (λ row. worked_row code b z (value_row row ps a p) (value_row row ps b q)))
  computed_to w code signed s v = rw (left, right) v

  pub sum_to : (decls : List MapDecl) → ValueTo old new ps (Num (number_arithmetic Add false Bits64 K x y)) c (λ row. worked_row Add (Num y) (Num (number_arithmetic Add false Bits64 K x y)) (number_row row x p) (number_row row y q))
      → IfOk (sum decls a b) (λ z. ValueTo old new ps z c (λ row. worked_row Add b z (value_row row ps a p) (value_row row ps b q)))
  sum_to decls v = rw (left, right) (value_sum ps x y v)

  pub difference_to : (decls : List MapDecl) → ValueTo old new ps (Num (number_arithmetic Sub false Bits64 K x y)) c (λ row. worked_row Sub (Num y) (Num (number_arithmetic Sub false Bits64 K x y)) (number_row row x p) (number_row row y q))
      → IfOk (difference decls a b) (λ z. ValueTo old new ps z c (λ row. worked_row Sub b z (value_row row ps a p) (value_row row ps b q)))
  difference_to decls v = rw (left, right) (value_difference ps x y v)

-- MOV of a number
pub copy_to : {old new : List CellView} (ps : List PointerView) (w : Width) (count : ℕ) {b : Kind} (n : Number) (lo hi q c : ℕ) → b ≡ Num n → n ≡ Between lo hi → Rises old new c (λ row. row q)
    → IfOk (copied w count b) (λ z. ValueTo old new ps z c (λ row. value_row row ps b q))
copy_to {old} {new} ps w count n lo hi q c e f r = rw (e, f) (by w count)
  where
    by : (w : Width) (count : ℕ) → IfOk (copied w count (Num (Between lo hi))) (λ z. ValueTo old new ps z c (λ row. number_row row (Between lo hi) q))
    by Bits64 zero = value_risen ps r (λ row. cell_most)
    by w count = value_risen ps r (λ row. cell_most)

pub extended_to : {old new : List CellView} (ps : List PointerView) (w : Width) (count : ℕ) {b : Kind} (y : Number) (q c : ℕ) → b ≡ Num y → ValueTo old new ps (Num (number_extended w count y)) c (λ row. number_row row y q)
    → IfOk (copied w count b) (λ z. ValueTo old new ps z c (λ row. value_row row ps b q))
extended_to {old} {new} ps w count y q c e v = rw e (by w count v)
  where
    by : (w : Width) (count : ℕ) → ValueTo old new ps (Num (number_extended w count y)) c (λ row. number_row row y q) → IfOk (copied w count (Num y)) (λ z. ValueTo old new ps z c (λ row. number_row row y q))
    by Bits64 zero v = value_extended ps Bits64 zero y v
    by w count v = v

-- a distance in the packet
pub distance_to : {old new : List CellView} (decls : List MapDecl) (ps : List PointerView) (a : Kind) (p : ℕ) (b : Kind) (q c : ℕ) → are_known a b ≡ false → ((y : Number) → b ≢ Num y) → Rises old new c (λ row. 1)
    → IfOk (difference decls a b) (λ z. ValueTo old new ps z c (λ row. worked_row Sub b z (value_row row ps a p) (value_row row ps b q)))
distance_to decls ps a p (Num y) q c two other r = absurd (other y refl)
distance_to decls ps (Packet o) p (Packet u) q c two other r = absurd cc
distance_to decls ps End p (Packet u) q c two other r = value_risen ps r (λ row. one_more (max (value_row row ps End p) (value_row row ps (Packet u) q)))
distance_to decls ps (Packet o) p End q c two other r = value_risen ps r (λ row. one_more (max (value_row row ps (Packet o) p) (value_row row ps End q)))
distance_to decls ps (Var x f) p (Packet u) q c two other r = value_risen ps r (λ row. one_more (max (value_row row ps (Var x f) p) (value_row row ps (Packet u) q)))
distance_to decls ps (Var x f) p End q c two other r = value_risen ps r (λ row. one_more (max (value_row row ps (Var x f) p) (value_row row ps End q)))
distance_to decls ps (Packet o) p (Var x f) q c two other r = value_risen ps r (λ row. one_more (max (value_row row ps (Packet o) p) (value_row row ps (Var x f) q)))
distance_to decls ps End p (Var x f) q c two other r = value_risen ps r (λ row. one_more (max (value_row row ps End p) (value_row row ps (Var x f) q)))
distance_to decls ps (Var x f) p (Var y g) q c two other r = value_risen ps r (λ row. one_more (max (value_row row ps (Var x f) p) (value_row row ps (Var y g) q)))
distance_to decls ps End p End q c two other r = value_risen ps r (λ row. one_more (max (value_row row ps End p) (value_row row ps End q)))
distance_to decls ps a p b q c two other r = tt

-- ---- the operation of a code
module _ {E : Type 0} (old new : List CellView) (res : Result ℕ E) (decls : List MapDecl) (ps : List PointerView) (w : Width) (code : AluCode) (offset : ℤ) (src : Src) (a : Kind) (p : ℕ) (b : Kind) (q : ℕ) where
  abbrev pub RowsOf : Result Kind Why → Type 0
  RowsOf k = IfOk k (λ x. IfOk res (λ d. ValueTo old new ps x d (λ row. combined_row code b x (value_row row ps a p) (value_row row ps b q))))

  later : {f : Kind → (ℕ → ℕ) → ℕ} (k : Result Kind Why) → ((x : Kind) (row : ℕ → ℕ) → f x row ≤ combined_row code b x (value_row row ps a p) (value_row row ps b q))
      → IfOk k (λ x. IfOk res (λ d. ValueTo old new ps x d (f x))) → RowsOf k
  later {f} k h rows = ok_map k _ _ (λ x. each x res) rows
    where
      each : (x : Kind) (r : Result ℕ E) → IfOk r (λ d. ValueTo old new ps x d (f x)) → IfOk r (λ d. ValueTo old new ps x d (λ row. combined_row code b x (value_row row ps a p) (value_row row ps b q)))
      each x (Ok d) v = value_by v (h x)
      each x (Err e) v = tt

  works : code ≢ Mov → (x : Kind) (l r : ℕ) → worked_row code b x l r ≤ combined_row code b x l r
  works other x l r = by code other
    where
      by : (c : AluCode) → c ≢ Mov → worked_row c b x l r ≤ combined_row c b x l r
      by Mov other = absurd (other refl)
      by c other = same_most

  pub mov_to : (count : ℕ) → code ≡ Mov → count ≡ unsigned_abs offset → IfOk (copied w count b) (λ x. IfOk res (λ d. ValueTo old new ps x d (λ row. value_row row ps b q))) → RowsOf (combined decls w code offset src a b)
  mov_to count e f rows = combined_mov (λ k g. RowsOf k) decls w code offset src count a b e f (later (copied w count b) (λ x row. rw e same_most) rows)

  pub add_to : code ≡ Add → w ≡ Bits64 → IfOk (sum decls a b) (λ x. IfOk res (λ d. ValueTo old new ps x d (λ row. worked_row Add b x (value_row row ps a p) (value_row row ps b q)))) → RowsOf (combined decls w code offset src a b)
  add_to e f rows = combined_add (λ k g. RowsOf k) decls w code offset src a b e f (later (sum decls a b) (λ x row. rw e same_most) rows)

  pub sub_to : code ≡ Sub → w ≡ Bits64 → IfOk (difference decls a b) (λ x. IfOk res (λ d. ValueTo old new ps x d (λ row. worked_row Sub b x (value_row row ps a p) (value_row row ps b q)))) → RowsOf (combined decls w code offset src a b)
  sub_to e f rows = combined_sub (λ k g. RowsOf k) decls w code offset src a b e f (later (difference decls a b) (λ x row. rw e same_most) rows)

  pub else_to : (signed : Bool) → signed ≡ int_eq offset (pos 1) → code ≢ Mov → (w ≡ Bits64 → code ≢ Add) → (w ≡ Bits64 → code ≢ Sub)
      → IfOk (computed w code signed src a b) (λ x. IfOk res (λ d. ValueTo old new ps x d (λ row. worked_row code b x (value_row row ps a p) (value_row row ps b q)))) → RowsOf (combined decls w code offset src a b)
  else_to signed e f g h rows = combined_else (λ k g. RowsOf k) decls w code offset src signed a b e f g h (later (computed w code signed src a b) (λ x row. works f x _ _) rows)
