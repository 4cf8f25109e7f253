-- Instructions that do nothing to a map.
use Rattle.std.specs.Prelude.{ℕ, ◌≡◌, Bool, true, false, Option, Some, None, List}
use Rattle.xdp_machine.specs.bpf_isa.declared.operation.Op.{Op}
use Rattle.xdp_machine.specs.bpf_isa.declared.operation.Op.TheVariants.{Call, Load, LoadSigned, StoreImm, Store, Atomic}
use Rattle.xdp_machine.specs.bpf_isa.declared.instruction.Insn.{Insn}
use Rattle.xdp_machine.specs.bpf_isa.declared.helper.Helper.{Helper}
use Rattle.xdp_machine.specs.bpf_isa.declared.helper.Helper.TheVariants.{Lookup, Update, Delete, Time, Redirect}
use Rattle.xdp_machine.specs.bpf_isa.Helpers.{helper_of}
use Rattle.xdp_machine.specs.xdp_maps.declared.decl.MapDecl.{MapDecl}
use Rattle.kind_core.specs.declared.kind.Kind.{Kind}
use Rattle.kind_core.specs.declared.kind.Kind.TheVariants.{Entry}
use Rattle.kind_core.specs.declared.kind.Kinds.{Kinds}
use Rattle.kind_core.specs.Kinds.{register}
use Rattle.kind_core.specs.Tests.{passed}
use Rattle.kind_core.specs.Effects.{effect_of, verdict}
use Rattle.cell_core.specs.Cells.{CellView}
use Rattle.cell_core.specs.Sites.{SiteView}
use Rattle.operator_cells.specs.declared.held_cells.machine_cells.RegisterCells.{RegisterCells}
use Rattle.operator_cells.specs.HeldCells.RegisterCells.{PointerView}
use Rattle.operator_cells.specs.HeldCells.Carrying.{Carries}
use Rattle.operator_cells.specs.HeldCells.Operating.{Operates}

-- a place in an entry of a map
abbrev pub is_entry : Kind → Bool
is_entry (Entry q o) = true
is_entry k = false

-- the helpers that look up, update and delete
abbrev pub is_map_helper : Option Helper → Bool
is_map_helper (Some Lookup) = true
is_map_helper (Some Update) = true
is_map_helper (Some Delete) = true
is_map_helper (Some Time) = false
is_map_helper (Some Redirect) = false
is_map_helper None = false

-- whether an instruction may read or change a map: an access to an entry, or a call of one of these
abbrev pub touches_map : Kinds → Insn → Op → Bool
touches_map k i (Load size) = is_entry (register k i.src)
touches_map k i (LoadSigned size) = is_entry (register k i.src)
touches_map k i (StoreImm size) = is_entry (register k i.dst)
touches_map k i (Store size) = is_entry (register k i.dst)
touches_map k i (Atomic size) = true
touches_map k i Call = is_map_helper (helper_of i.imm)
touches_map k i op = false

-- The cells of an allowed instruction that does nothing to a map operate with no site and no pointer more.
abbrev pub CarriesOperate : Type 0
CarriesOperate =
    (decls : List MapDecl) (ps : List PointerView) (i : Insn) (node guard : ℕ) (is_ref taken : Bool) (k : Kinds) (h next : RegisterCells) (old new : List CellView) (sites : List SiteView)
    → touches_map k i i.op ≡ false → verdict (effect_of decls k i) ≡ passed → Carries decls ps i node is_ref taken k h next old new
    → Operates decls i node guard is_ref taken k h next old new ps ps sites sites
