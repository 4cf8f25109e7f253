-- The pointers that are held on the edges that leave a node, and which cells read its site.
use Rattle.std.specs.Prelude.{ℕ, ◌≡◌, ◌++◌, ◌⊎◌, List, All}
use Rattle.xdp_machine.specs.bpf_isa.declared.instruction.Insn.{Insn}
use Rattle.xdp_machine.specs.xdp_maps.declared.decl.MapDecl.{MapDecl}
use Rattle.kind_core.specs.declared.kind.Kinds.{Kinds}
use Rattle.operator_cells.specs.declared.held_cells.machine_cells.RegisterCells.{RegisterCells}
use Rattle.operator_cells.specs.declared.held_cells.way.Way.{Way}
use Rattle.operator_cells.specs.HeldCells.Pointing.{InstructionPoints, LeavePoints}
use Rattle.edge_cells.specs.declared.joining.Here.{Here}
use Rattle.predicate_core.specs.StepCells.Stepping.{MadeView}

-- An instruction that leads on, before which these cells stood for what is pending of maps: its edges are on where the guard is, and hold what it
-- leaves.
pub record AlongPoints (decls : List MapDecl) (i : Insn) (pending : List ℕ) (k : Kinds) (here : Here) (old new : MadeView) : Type 0 where
  pub after : Kinds
  pub next : RegisterCells
  pub points : InstructionPoints decls i pending k here.held after next old.cells new.cells old.pointers new.pointers old.sites new.sites
  pub to : ℕ
  pub more : List Way
  pub ways_are : new.ways ≡ old.ways ++ more
  pub edges : All (λ e. (e.to ≡ to) × (e.bit ≡ here.guard) × (e.kinds ≡ after) × (e.held ≡ next)) more

-- A jump or an end: no site and no pointer is added.
pub record JumpPoints (k : Kinds) (here : Here) (old new : MadeView) : Type 0 where
  pub pointers_are : new.pointers ≡ old.pointers
  pub sites_are : new.sites ≡ old.sites
  pub leaves : LeavePoints new.cells old.pointers k here.held here.guard old.ways new.ways

abbrev pub NodePoints : List MapDecl → Insn → List ℕ → Kinds → Here → MadeView → MadeView → Type 0
NodePoints decls i pending k here old new = AlongPoints decls i pending k here old new ⊎ JumpPoints k here old new
