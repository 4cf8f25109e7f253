-- Pointers and numbers among more cells.
use Rattle.std.proofs.Common.{ℕ, ℤ, ◌≢◌, ◌≤◌, List, slice_index, subst, arith}
use Rattle.cell_core.specs.xdp_maps.declared.decl.MapDecl.{MapDecl}
use Rattle.kind_core.specs.declared.number.Number.{Number}
use Rattle.kind_core.specs.declared.number.Number.TheVariants.{Known, Between}
use Rattle.kind_core.specs.declared.base.Base.{Base}
use Rattle.kind_core.specs.declared.kind.Kind.{Kind}
use Rattle.kind_core.specs.declared.kind.Kind.TheVariants.{Var}
use Rattle.kind_core.specs.declared.kind.Kinds.{Kinds}
use Rattle.kind_core.specs.Kinds.{register}
use Rattle.operator_cells.specs.declared.held_cells.machine_cells.RegisterCells.{RegisterCells}
use Rattle.operator_cells.specs.HeldCells.RegisterCells.{PointerView, Counts, IsPointer, IsThere, AreInside}

pub pointer_later : (decls : List MapDecl) (n m q : ℕ) (p : PointerView) → n ≤ m → IsPointer decls n q p → IsPointer decls m q p
pointer_later decls n m q p l i = record { found = omega (arith, l, i.found); key = λ j d h. omega (arith, l, i.key j d h); enough = i.enough }

pub there_later : (n m : ℕ) (x : Number) (c : ℕ) → n ≤ m → IsThere n x c → IsThere m x c
there_later n m (Known a) c l h = tt
there_later n m (Between lo hi) c l h = omega (arith, l, h)

-- no register holds a place in the packet that is not known
pub never_var : {decls : List MapDecl} {n : ℕ} {ps : List PointerView} {h : RegisterCells} {k : Kinds} {r : ℕ} → AreInside decls n ps h k → r ≤ 10 → (b : Base) (f : ℤ) → register k r ≢ Var b f
never_var {decls} {n} {ps} {h} {k} {r} inside l b f e = subst (λ (x : Kind). Counts decls n ps x (slice_index h.registers r)) e (inside.registers r l)
