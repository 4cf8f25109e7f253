-- What operations on maps ask and answer, by what a site does and the kind of its map.
use Rattle.std.specs.Prelude.{ℕ, Bool, true, false}
use Rattle.xdp_state.specs.xdp_maps.declared.decl.MapKind.{MapKind}
use Rattle.xdp_state.specs.xdp_maps.declared.decl.MapKind.TheVariants.{Hash}
use Rattle.cell_core.specs.declared.site.Act.{Act}
use Rattle.cell_core.specs.declared.site.Act.TheVariants as act

-- whether an operation goes through a pointer to an entry
abbrev pub is_access : Act → Bool
is_access (act.Load at size) = true
is_access (act.Store at size) = true
is_access (act.Atomic at a) = true
is_access a = false

-- Of an access to an entry the pointer is the last operand: a load has no other, a store has the number before it, an atomic change the
-- source and what is compared.
abbrev pub pointer_operand : Act → ℕ
pointer_operand (act.Store at size) = 1
pointer_operand (act.Atomic at a) = 2
pointer_operand a = 0

-- whether an operation looks for its key, and whether it reads
abbrev pub finds_key : Act → Bool
finds_key act.Lookup = true
finds_key act.Update = true
finds_key act.Delete = true
finds_key a = false

abbrev pub reads : Act → Bool
reads (act.Load at size) = true
reads (act.Atomic at a) = a.fetch
reads a = finds_key a

-- which sites the packet asks whether their key is there, and which say whether they were done
abbrev pub asks : Act → MapKind → Bool
asks act.Lookup kind = true
asks act.Update Hash = true
asks act.Delete Hash = true
asks a kind = false

abbrev pub says_done : Act → MapKind → Bool
says_done act.Update kind = true
says_done act.Delete Hash = true
says_done a kind = false
