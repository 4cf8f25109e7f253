-- Arithmetic on values by their kinds.
use Rattle.std.proofs.Common.{◌≡◌, ◌≢◌, ℕ, ◌^◌, ◌<◌, ℤ, pos, Bool, Option, Some, Result, refl, sym, subst, List}
use Rattle.cell_core.specs.bpf_isa.declared.operation.Src.{Src}
use Rattle.cell_core.specs.bpf_isa.declared.operation.Width.{Width}
use Rattle.cell_core.specs.bpf_isa.declared.operation.Width.TheVariants.{Bits64}
use Rattle.cell_core.specs.bpf_isa.declared.operation.AluCode.TheVariants.{Add, Sub, Mov}
use Rattle.cell_core.specs.bpf_isa.declared.operation.AluCode.{AluCode}
use Rattle.xdp_state.specs.declared.refusal.Why.{Why}
use Rattle.std.specs.Prelude.{unsigned_abs}
use Rattle.std.specs.Ordering.{int_eq}
use Rattle.cell_core.specs.xdp_maps.declared.decl.MapDecl.{MapDecl}
use Rattle.cell_core.specs.xdp_machine.Values.{Value}
use Rattle.cell_core.specs.xdp_machine.Values as is
use Rattle.cell_core.specs.xdp_machine.Pointers as machine
use Rattle.kind_core.specs.declared.number.Number.{Number}
use Rattle.kind_core.specs.declared.number.Number.TheVariants.{Known, Between}
use Rattle.kind_core.specs.declared.kind.Kind.{Kind}
use Rattle.kind_core.specs.declared.kind.Kind.TheVariants.{Num}
use Rattle.kind_core.specs.Numbers.{from_one}
use Rattle.kind_core.specs.Pointers.{sum, difference, copied, computed, combined}
use Rattle.cell_core.specs.Cells.{CellView}
use Rattle.operator_cells.specs.HeldCells.RegisterCells.{PointerView, number_of}
use Rattle.register_cells.specs.Reading.{Finds, Yields}

-- of one, whatever the other value is
pub yields_one : (i j : ℕ) (f g : ℕ → ℕ) (F : Value → Value → Option Value) (decls : List MapDecl) (ps : List PointerView) (old new : List CellView) (a : Kind) (p : ℕ) (y : Number) (q c : ℕ)
    → ((s : Value) (n : ℕ) → n < 2 ^ 64 → F s (is.Number n) ≡ Some (is.Number (f n)))
    → Finds old new (from_one i f y) c (λ packet v. f (number_of v y q)) → Yields decls ps a p (Num y) q old new (Num (from_one j g y)) c F
yields_one i j f g F decls ps old new a p (Known b) q c same found = record { grows = found.grows; counts = tt; holds = λ packet v s t y r short hs ht e. tt }
yields_one i j f g F decls ps old new a p (Between lo hi) q c same found = record {
  grows = found.grows;
  counts = found.there;
  holds = λ packet v s t y r short hs ht e. let m = same s (v q) ht.1 in let n = found.value packet v r in let f = rw ht.0 at e in cc;
}

-- ---- pointers that are moved

-- ---- distances in the packet

-- ---- the operation of a code

pub combined_mov : (P : Result Kind Why → (Value → Value → Option Value) → Type 0) (decls : List MapDecl) (w : Width) (code : AluCode) (offset : ℤ) (src : Src) (count : ℕ) (a b : Kind) → code ≡ Mov → count ≡ unsigned_abs offset
    → P (copied w count b) (λ s t. machine.copied w count t) → P (combined decls w code offset src a b) (λ s t. machine.combined w code offset s t)
combined_mov P decls w code offset src count a b e f h =
    subst (λ (c : AluCode). P (combined decls w c offset src a b) (λ s t. machine.combined w c offset s t)) (sym e)
    (subst (λ (n : ℕ). P (copied w n b) (λ s t. machine.copied w n t)) f h)

pub combined_add : (P : Result Kind Why → (Value → Value → Option Value) → Type 0) (decls : List MapDecl) (w : Width) (code : AluCode) (offset : ℤ) (src : Src) (a b : Kind) → code ≡ Add → w ≡ Bits64
    → P (sum decls a b) (λ s t. machine.sum s t) → P (combined decls w code offset src a b) (λ s t. machine.combined w code offset s t)
combined_add P decls w code offset src a b e f h =
    subst (λ (c : AluCode). P (combined decls w c offset src a b) (λ s t. machine.combined w c offset s t)) (sym e)
    (subst (λ (u : Width). P (combined decls u Add offset src a b) (λ s t. machine.combined u Add offset s t)) (sym f) h)

pub combined_sub : (P : Result Kind Why → (Value → Value → Option Value) → Type 0) (decls : List MapDecl) (w : Width) (code : AluCode) (offset : ℤ) (src : Src) (a b : Kind) → code ≡ Sub → w ≡ Bits64
    → P (difference decls a b) (λ s t. machine.difference s t) → P (combined decls w code offset src a b) (λ s t. machine.combined w code offset s t)
combined_sub P decls w code offset src a b e f h =
    subst (λ (c : AluCode). P (combined decls w c offset src a b) (λ s t. machine.combined w c offset s t)) (sym e)
    (subst (λ (u : Width). P (combined decls u Sub offset src a b) (λ s t. machine.combined u Sub offset s t)) (sym f) h)

pub combined_else : (P : Result Kind Why → (Value → Value → Option Value) → Type 0) (decls : List MapDecl) (w : Width) (code : AluCode) (offset : ℤ) (src : Src) (signed : Bool) (a b : Kind) → signed ≡ int_eq offset (pos 1)
    → code ≢ Mov → (w ≡ Bits64 → code ≢ Add) → (w ≡ Bits64 → code ≢ Sub)
    → P (computed w code signed src a b) (λ s t. machine.computed w code signed s t) → P (combined decls w code offset src a b) (λ s t. machine.combined w code offset s t)
combined_else P decls w code offset src signed a b q e f g h = by w code e f g (subst (λ (t : Bool). P (computed w code t src a b) (λ x y. machine.computed w code t x y)) q h)
  where
    by : (w : Width) (code : AluCode) → code ≢ Mov → (w ≡ Bits64 → code ≢ Add) → (w ≡ Bits64 → code ≢ Sub)
        → P (computed w code (int_eq offset (pos 1)) src a b) (λ s t. machine.computed w code (int_eq offset (pos 1)) s t) → P (combined decls w code offset src a b) (λ s t. machine.combined w code offset s t)
    by w Mov e f g h = absurd (e refl)
    by Bits64 Add e f g h = absurd (f refl refl)
    by Bits64 Sub e f g h = absurd (g refl refl)
    by w code e f g h = h
