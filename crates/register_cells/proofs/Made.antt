-- Numbers that are made of others, one cell after another.
use Rattle.std.proofs.Common.{◌≡◌, ◌≢◌, ℕ, ◌≤◌, Bool, true, false, if◌then◌else◌, Some, Ok, IfOk, List, length, slice_index, inl, inr, ℤ, unsigned_abs, to_z, of_z, w64, refl, sym, ◌∙◌, ap, subst}
use Rattle.std.specs.Prelude.{◌==◌}
use Rattle.byteorder.specs.Endian.{little_number, little_bytes}
use Rattle.cell_core.specs.bpf_isa.declared.operation.Size.{Size}
use Rattle.cell_core.specs.bpf_isa.declared.operation.Src.{Src}
use Rattle.cell_core.specs.bpf_isa.declared.instruction.Insn.{Insn}
use Rattle.cell_core.specs.bpf_isa.Rules.{Allows}
use Rattle.cell_core.specs.bpf_isa.declared.fields.Rule.TheVariants.{SwapBits}
use Rattle.cell_core.specs.xdp_maps.declared.decl.MapDecl.{MapDecl}
use Rattle.cell_core.specs.xdp_maps.Calls.{patched}
use Rattle.cell_core.specs.xdp_machine.Values.{Value}
use Rattle.cell_core.specs.xdp_machine.Values as is
use Rattle.cell_core.specs.xdp_machine.State.{register}
use Rattle.cell_core.specs.xdp_machine.Arithmetic.{low, ordered}
use Rattle.cell_core.specs.xdp_machine.Memory.{bytes_in}
use Rattle.kind_core.specs.declared.number.Number.{Number}
use Rattle.kind_core.specs.declared.number.Number.TheVariants.{Known, Between}
use Rattle.kind_core.specs.declared.kind.Kind.{Kind}
use Rattle.kind_core.specs.declared.kind.Kind.TheVariants.{Num}
use Rattle.kind_core.specs.declared.kind.Kinds.{Kinds}
use Rattle.kind_core.specs.Kinds as kinds
use Rattle.kind_core.specs.Numbers.{number_patched, number_ordered}
use Rattle.kind_core.specs.Effects.{renumbered}
use Rattle.kind_core.specs.Tests.{number_in, ◌>>=◌}
use Rattle.cell_core.specs.Cells.{CellView, bit, bits_from, on}
use Rattle.operator_cells.specs.Making.{Makes}
use Rattle.operator_cells.specs.Spreading.{MakesBytes}
use Rattle.operator_cells.proofs.MakingLaws.{grown, made_of_two}
use Rattle.operator_cells.specs.declared.held_cells.machine_cells.RegisterCells.{RegisterCells}
use Rattle.operator_cells.specs.HeldCells.RegisterCells.{PointerView, number_of}
use Rattle.operator_cells.specs.HeldCells.Carrying.{Gives}
use Rattle.register_cells.specs.Reading.{IsRead, Finds}
use Rattle.register_cells.specs.Giving.{given_number, numbered}
use Rattle.register_cells.specs.Storing.{left_of}
use Rattle.register_cells.proofs.Known.{register_read}
use Rattle.register_cells.proofs.Stores.{counts_number, holds_number}

-- a test of a number by a cell that is 0
pub tested_zero : (n z : ℕ) → z ≡ bits_from 0 0 1 → bits_from (bit (low 64 n == low 64 z)) 0 1 ≡ bit (low 64 n == 0)
tested_zero n z e = ap (λ (k : ℕ). bits_from (bit (low 64 n == low 64 k)) 0 1) e ∙ by (low 64 n == 0)
  where
    by : (t : Bool) → bits_from (bit t) 0 1 ≡ bit t
    by true = refl
    by false = refl

-- the answer of a redirect
pub answered : (s redirect aborted : ℕ) → redirect ≡ bits_from 4 0 3 → aborted ≡ bits_from 0 0 1 → bits_from (if on s then redirect else aborted) 0 3 ≡ (if on s then 4 else 0)
answered s redirect aborted e f = by (on s)
  where
    by : (t : Bool) → bits_from (if t then redirect else aborted) 0 3 ≡ (if t then 4 else 0)
    by true = ap (λ (k : ℕ). bits_from k 0 3) e
    by false = ap (λ (k : ℕ). bits_from k 0 3) f

-- a number in the destination that is changed
pub renumbered_gives : (decls : List MapDecl) (ps : List PointerView) (node : ℕ) (k : Kinds) (h : RegisterCells) (i : Insn) (f : Number → Number) (g : ℕ → ℕ) (x : Number) (old new : List CellView) (c : ℕ)
    → i.dst ≤ 10 → kinds.register k i.dst ≡ Num x → Finds old new (f x) c (λ packet v. g (number_of v x (slice_index h.registers i.dst)))
    → IfOk (renumbered k i f) (λ y. Gives decls ps node k h old new y c (λ m. given_number m i g))
renumbered_gives decls ps node k h i f g x old new c dst kind found =
    subst (λ (y : Kind). IfOk (number_in y >>= λ m. Ok (Num (f m))) (λ z. Gives decls ps node k h old new z c (λ m. given_number m i g))) (sym kind) gives
  where
    held : ℕ
    held = slice_index h.registers i.dst

    value_is : (v : ℕ → ℕ) (t y : Value) → t ≡ is.Number (number_of v x held) → numbered g t ≡ Some y → y ≡ is.Number (g (number_of v x held))
    value_is v t y r e = let s = rw r at e in cc

    gives : Gives decls ps node k h old new (Num (f x)) c (λ m. given_number m i g)
    gives = record {
      grows = found.grows;
      counts = counts_number decls (length new) ps (f x) c found.there;
      holds = λ packet v m y run known e.
          let r = subst (λ (a : Kind). IsRead decls packet v ps a held (register m.registers i.dst)) kind (register_read decls packet v ps node k h m i.dst known dst) in
          holds_number decls v ps (f x) c y (value_is v (register m.registers i.dst) y r.0 e ∙ ap is.Number (sym (found.value packet v run)));
    }

swapped : (z : ℤ) → Allows SwapBits z → unsigned_abs (to_z w64 (of_z w64 z)) ≡ unsigned_abs z
swapped z (inl e) = subst (λ (y : ℤ). unsigned_abs (to_z w64 (of_z w64 y)) ≡ unsigned_abs y) (sym e) refl
swapped z (inr (inl e)) = subst (λ (y : ℤ). unsigned_abs (to_z w64 (of_z w64 y)) ≡ unsigned_abs y) (sym e) refl
swapped z (inr (inr e)) = subst (λ (y : ℤ). unsigned_abs (to_z w64 (of_z w64 y)) ≡ unsigned_abs y) (sym e) refl

-- its bytes in an order
pub ordered_gives : (decls : List MapDecl) (ps : List PointerView) (node : ℕ) (k : Kinds) (h : RegisterCells) (i : Insn) (most : ℕ) (end : Src) (x : Number) (old new : List CellView) (c : ℕ)
    → Allows SwapBits i.imm → i.dst ≤ 10 → kinds.register k i.dst ≡ Num x
    → Finds old new (number_ordered most end (unsigned_abs (to_z w64 (of_z w64 i.imm))) x) c (λ packet v. ordered end (unsigned_abs (to_z w64 (of_z w64 i.imm))) (number_of v x (slice_index h.registers i.dst)))
    → IfOk (renumbered k i (number_ordered most end (unsigned_abs i.imm))) (λ y. Gives decls ps node k h old new y c (λ m. given_number m i (ordered end (unsigned_abs i.imm))))
ordered_gives decls ps node k h i most end x old new c legal dst kind found =
    subst (λ (n : ℕ). IfOk (renumbered k i (number_ordered most end n)) (λ y. Gives decls ps node k h old new y c (λ m. given_number m i (ordered end n)))) (swapped i.imm legal)
    (let bits : ℕ = unsigned_abs (to_z w64 (of_z w64 i.imm)) in renumbered_gives decls ps node k h i (number_ordered most end bits) (ordered end bits) x old new c dst kind found)

-- a part that is stored over a number, where not both are known
pub part_finds : (old x y new : List CellView) (size : Size) (at : ℕ) (a : Kind) (p : ℕ) (m n : Number) (q l r c : ℕ) → ((i j : ℕ) → m ≡ Known i → n ≢ Known j)
    → Makes old x l (λ packet v. left_of v a p) → Makes x y r (λ packet v. number_of v n q)
    → Makes y new c (λ packet v. little_number 8 (patched (little_bytes 8 (v l)) at (little_bytes (bytes_in size) (v r))))
    → Finds old new (number_patched size at m n) c (λ packet v. little_number 8 (patched (little_bytes 8 (left_of v a p)) at (little_bytes (bytes_in size) (number_of v n q))))
part_finds old x y new size at a p m n q l r c other left part all = by m n other made
  where
    over : ℕ → ℕ → ℕ
    over s t = little_number 8 (patched (little_bytes 8 s) at (little_bytes (bytes_in size) t))

    made : Makes old new c (λ packet v. over (left_of v a p) (number_of v n q))
    made = made_of_two over left part all

    by : (m g : Number) → ((i j : ℕ) → m ≡ Known i → g ≢ Known j) → Makes old new c (λ packet v. over (left_of v a p) (number_of v n q))
        → Finds old new (number_patched size at m g) c (λ packet v. over (left_of v a p) (number_of v n q))
    by (Known i) (Known j) f h = absurd (f i j refl refl)
    by (Known i) (Between lo hi) f h = record { grows = h.grows; there = h.there; value = h.value }
    by (Between lo hi) g f h = record { grows = h.grows; there = h.there; value = h.value }

-- the bytes of a number whose cell was made before them
pub bytes_after : {old mid new : List CellView} {c n : ℕ} {bytes : List ℕ} (f : (ℕ → ℕ) → ℕ) → Makes old mid c (λ packet v. f v) → MakesBytes mid new n bytes (λ v. little_bytes n (v c))
    → MakesBytes old new n bytes (λ v. little_bytes n (f v))
bytes_after {n = n} f made all = record {
  grows = grown made.grows all.grows;
  count = all.count;
  there = all.there;
  small = all.small;
  values = λ packet v r. all.values packet v r ∙ ap (little_bytes n) (made.value packet v (all.grows.run packet v r));
}
