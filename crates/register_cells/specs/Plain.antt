-- Instructions that neither jump nor end, and operate on no map.
use Rattle.std.specs.Prelude.{Bool, true, false, not, Option, Some, None}
use Rattle.cell_core.specs.bpf_isa.declared.operation.Op.{Op}
use Rattle.cell_core.specs.bpf_isa.declared.operation.Op.TheVariants.{Alu, Neg, End, Swap, Call, LoadImm, Load, LoadSigned, StoreImm, Store}
use Rattle.cell_core.specs.bpf_isa.declared.instruction.Insn.{Insn}
use Rattle.cell_core.specs.bpf_isa.declared.helper.Helper.{Helper}
use Rattle.cell_core.specs.bpf_isa.declared.helper.Helper.TheVariants.{Lookup, Update, Delete, Time, Redirect}
use Rattle.cell_core.specs.bpf_isa.Helpers.{helper_of}
use Rattle.kind_core.specs.declared.kind.Kind.{Kind}
use Rattle.kind_core.specs.declared.kind.Kind.TheVariants.{Entry}
use Rattle.kind_core.specs.declared.kind.Kinds.{Kinds}
use Rattle.kind_core.specs.Kinds.{register}

-- a place in an entry of a map
abbrev pub is_entry : Kind → Bool
is_entry (Entry q o) = true
is_entry k = false

-- the helpers that ask no map: for the time, and for a redirect
abbrev pub asks_no_map : Option Helper → Bool
asks_no_map (Some Lookup) = false
asks_no_map (Some Update) = false
asks_no_map (Some Delete) = false
asks_no_map (Some Time) = true
asks_no_map (Some Redirect) = true
asks_no_map None = false

-- the same of an operation: its access, if it has one, is not to an entry
abbrev pub is_plain_as : Kinds → Insn → Op → Bool
is_plain_as k i (Alu w c s) = true
is_plain_as k i (Neg w) = true
is_plain_as k i (End s) = true
is_plain_as k i Swap = true
is_plain_as k i LoadImm = true
is_plain_as k i (Load size) = not (is_entry (register k i.src))
is_plain_as k i (LoadSigned size) = not (is_entry (register k i.src))
is_plain_as k i (StoreImm size) = not (is_entry (register k i.dst))
is_plain_as k i (Store size) = not (is_entry (register k i.dst))
is_plain_as k i Call = asks_no_map (helper_of i.imm)
is_plain_as k i op = false

abbrev pub is_plain : Kinds → Insn → Bool
is_plain k i = is_plain_as k i i.op
