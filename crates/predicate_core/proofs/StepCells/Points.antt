-- The pointers that are held after a node, by the sort of the instruction.
use Rattle.std.proofs.Common.{◌≡◌, ℕ, ◌<◌, Some, Result, IfOk, inl, inr, List, length, [], ◌++◌, refl, sym, ◌∙◌, ap, subst, arith}
use Rattle.std.specs.Prelude.{slice_index, OnOk, All}
use Rattle.std.proofs.lemmas.List.{append-nil}
use Rattle.std.proofs.lemmas.Result.{IfOk-weaker}
use Rattle.xdp_machine.specs.bpf_isa.declared.instruction.Insn.{Insn}
use Rattle.xdp_machine.specs.xdp_maps.declared.decl.MapDecl.{MapDecl}
use Rattle.kind_core.specs.declared.kind.Kinds.{Kinds}
use Rattle.cell_core.specs.Cells.{CellView}
use Rattle.cell_core.specs.Sites.{SiteView}
use Rattle.operator_cells.specs.declared.held_cells.machine_cells.RegisterCells.{RegisterCells}
use Rattle.operator_cells.specs.declared.held_cells.way.Way.{Way}
use Rattle.operator_cells.specs.declared.held_cells.way.Exit.{Exit as End}
use Rattle.operator_cells.specs.HeldCells.RegisterCells.{PointerView}
use Rattle.operator_cells.specs.HeldCells.Rows.{map_used}
use Rattle.operator_cells.specs.HeldCells.Pointing.{KeepPointers, OperationPoints, InstructionPoints, LeavePoints}
use Rattle.edge_cells.specs.declared.joining.Here.{Here}
use Rattle.predicate_core.specs.StepCells.Stepping.{MadeView}
use Rattle.predicate_core.specs.StepCells.Pointing.{NodePoints}
use Rattle.predicate_core.proofs.StepCells.Nodes.{on_ok}

-- ---- an instruction that leads on

pub plain_points : {A B : Type 0} (r : Result A B) (decls : List MapDecl) (i : Insn) (pending : List ℕ) (k after : Kinds) (h next : RegisterCells) (old new : List CellView) (ps : List PointerView) (sites : List SiteView)
    → OnOk r (KeepPointers k h after next) → OnOk r (InstructionPoints decls i pending k h after next old new ps ps sites sites)
plain_points r decls i pending k after h next old new ps sites = on_ok r (KeepPointers k h after next) (InstructionPoints decls i pending k h after next old new ps ps sites sites) (λ kept. inl (record { pointers_are = refl; sites_are = refl; kept = kept }))

pub operated_points : {A B : Type 0} (r : Result A B) (decls : List MapDecl) (i : Insn) (pending : List ℕ) (map cell : ℕ) (k after : Kinds) (h next : RegisterCells) (old new : List CellView) (ps qs : List PointerView) (sites sites2 : List SiteView)
    → OnOk r (OperationPoints decls i cell k h after next old new ps qs sites sites2) → ((q : ℕ) → map_used k i i.op ≡ Some q → map ≡ q) → (map < length pending → cell ≡ slice_index pending map)
    → OnOk r (InstructionPoints decls i pending k h after next old new ps qs sites sites2)
operated_points r decls i pending map cell k after h next old new ps qs sites sites2 points is own =
    on_ok r (OperationPoints decls i cell k h after next old new ps qs sites sites2) (InstructionPoints decls i pending k h after next old new ps qs sites sites2)
    (λ p. inr (cell, (λ q used there. own (omega (arith, there, is q used)) ∙ ap (slice_index pending) (is q used)), p)) points

pub along_points : {A B : Type 0} (r : Result A B) (decls : List MapDecl) (i : Insn) (pending : List ℕ) (k after : Kinds) (here : Here) (next : RegisterCells) (to : ℕ) (old new : MadeView) (mid : List Way)
    → mid ≡ old.ways → InstructionPoints decls i pending k here.held after next old.cells new.cells old.pointers new.pointers old.sites new.sites
    → IfOk r (λ done. (more : List Way) × (new.ways ≡ mid ++ more) × All (λ e. (e.to ≡ to) × (e.bit ≡ here.guard) × (e.kinds ≡ after) × (e.held ≡ next)) more) → IfOk r (λ done. NodePoints decls i pending k here old new)
along_points r decls i pending k after here next to old new mid same points =
    IfOk-weaker r _ (λ done. NodePoints decls i pending k here old new) (λ done e. inl (record { after = after; next = next; points = points; to = to; more = e.0; ways_are = e.1 ∙ ap (λ (ws : List Way). ws ++ e.0) same; edges = e.2 }))

-- ---- a jump or an end

pub jump_points : {A B : Type 0} (r : Result A B) (decls : List MapDecl) (i : Insn) (pending : List ℕ) (k : Kinds) (here : Here) (cells cells2 : List CellView) (ps qs : List PointerView) (sites : List SiteView) (ways ways2 : List Way) (exits : List End)
    → qs ≡ ps → IfOk r (λ done. LeavePoints cells2 qs k here.held here.guard ways ways2)
    → IfOk r (λ done. NodePoints decls i pending k here (record { cells = cells; pointers = ps; sites = sites; ways = ways; exits = exits }) (record { cells = cells2; pointers = ps; sites = sites; ways = ways2; exits = exits }))
jump_points r decls i pending k here cells cells2 ps qs sites ways ways2 exits same =
    IfOk-weaker r _ (λ done. NodePoints decls i pending k here (record { cells = cells; pointers = ps; sites = sites; ways = ways; exits = exits }) (record { cells = cells2; pointers = ps; sites = sites; ways = ways2; exits = exits }))
    (λ done l. inr (record { pointers_are = refl; sites_are = refl; leaves = subst (λ (xs : List PointerView). LeavePoints cells2 xs k here.held here.guard ways ways2) same l }))

-- no edge leaves an end
pub exit_points : (decls : List MapDecl) (i : Insn) (pending : List ℕ) (k : Kinds) (here : Here) (cells : List CellView) (ps : List PointerView) (sites : List SiteView) (ways : List Way) (exits exits2 : List End)
    → NodePoints decls i pending k here (record { cells = cells; pointers = ps; sites = sites; ways = ways; exits = exits }) (record { cells = cells; pointers = ps; sites = sites; ways = ways; exits = exits2 })
exit_points decls i pending k here cells ps sites ways exits exits2 = inr (record {
  pointers_are = refl;
  sites_are = refl;
  leaves = (
    [],
    sym (append-nil ways),
    λ packet v run l. record {
      bits = λ i d b. absurd (omega (arith, b));
      guarded = λ i d b. absurd (omega (arith, b));
      one = λ e f c. absurd (omega (arith, c.1));
      held = λ alike i d b. absurd (omega (arith, b));
      along = λ i d b. absurd (omega (arith, b));
    },
  );
})
