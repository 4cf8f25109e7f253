-- What a packet holds of the cells, and what these say of its operations. A cell that is a pointer to an entry has a
-- pointer beside its value.
use Rattle.std.specs.Prelude.{ℕ, ◌==◌, nat_lt, Bool, true, false, ◌&&◌, if◌then◌else◌, List, [], ◌∷◌, ◌++◌, length, map as map_list, slice_set, filter}
use Rattle.std.specs.List.{position_or_len, list_all}
use Rattle.std.proofs.Common.{get_or}
use Rattle.xdp_maps.specs.declared.decl.MapDecl.{MapDecl}
use Rattle.xdp_maps.specs.declared.decl.MapKind.{MapKind}
use Rattle.xdp_maps.specs.declared.decl.MapKind.TheVariants.{Hash, Array}
use Rattle.xdp_maps.specs.Operations.{Operation, key_in}
use Rattle.cell_core.specs.declared.operator.Operator.{Operator}
use Rattle.cell_core.specs.declared.operator.Operator.TheVariants.{Found, Answer}
use Rattle.cell_core.specs.declared.site.Act.{Act}
use Rattle.cell_core.specs.declared.site.Act.TheVariants as act
pub use Rattle.cell_core.specs.Acts.{pointer_operand}
use Rattle.cell_core.specs.Cells.{CellView, value_in, on}
use Rattle.cell_core.specs.Sites.{SiteView, ProgramView, site_at, records, operation_with}
use Rattle.cell_core.specs.Rows.{numbers, taken_by}
use Rattle.hazard_core.specs.Tables.{Slot, TableState, decl_of, table_at, slot_of}
pub use Rattle.hazard_core.specs.declared.pointer.Pointer.{Pointer}
pub use Rattle.hazard_core.specs.declared.pointer.Pointer.TheVariants.{Null, InSlot, Pending}

-- whether two pointers to entries are the same: none, to a slot, or to the entry that an update of the packet's own is to make
abbrev pub same_pointer : Pointer → Pointer → Bool
same_pointer Null Null = true
same_pointer (InSlot n) (InSlot m) = n == m
same_pointer (Pending j) (Pending i) = j == i
same_pointer p q = false

abbrev pub is_null : Pointer → Bool
is_null p = same_pointer p Null

-- the values of the cells, and their pointers; of rows that are not there yet they may be any
pub record StageValues : Type 0 where
  pub values : List ℕ
  pub pointers : List Pointer

abbrev pub stage_value : StageValues → ℕ → ℕ
stage_value h c = value_in h.values c

abbrev pub pointer_in : StageValues → ℕ → Pointer
pointer_in h c = get_or h.pointers c Null

abbrev pub with_cell : StageValues → ℕ → ℕ → Pointer → StageValues
with_cell h c x p = record { values = slice_set h.values c x; pointers = slice_set h.pointers c p }

-- ---- the cells of a site
abbrev pub is_found_of : ℕ → Operator → Bool
is_found_of j (Found i) = i == j
is_found_of j op = false

abbrev pub is_answer_of : ℕ → Operator → Bool
is_answer_of j (Answer i) = i == j
is_answer_of j op = false

-- the cell that says whether the key of a site is there, and the one that holds what it answers; the number of cells where there is none
abbrev pub found_cell : List CellView → ℕ → ℕ
found_cell cells j = position_or_len (λ c. is_found_of j c.op) cells

abbrev pub answer_cell : List CellView → ℕ → ℕ
answer_cell cells j = position_or_len (λ c. is_answer_of j c.op) cells

-- of these two, those that there are
abbrev pub read_cells : List CellView → ℕ → List ℕ
read_cells cells j = filter (λ k. nat_lt k (length cells)) (found_cell cells j ∷ answer_cell cells j ∷ [])

-- ---- the operation of a site by a packet's cells
abbrev pub is_update : Act → Bool
is_update act.Update = true
is_update a = false

abbrev pub is_delete : Act → Bool
is_delete act.Delete = true
is_delete a = false

abbrev pub guard_on : StageValues → SiteView → Bool
guard_on h s = on (stage_value h s.guard)

abbrev pub asked : List MapDecl → StageValues → SiteView → Operation
asked decls h s = operation_with (decl_of decls s.map) s.act (map_list (stage_value h) s.key) (map_list (stage_value h) s.operands)

abbrev pub asked_key : List MapDecl → StageValues → SiteView → List ℕ
asked_key decls h s = key_in (asked decls h s)

-- Of the cell of a pointer the value says whether it is not null.
abbrev pub access_pointer : StageValues → SiteView → Pointer
access_pointer h s = get_or (map_list (pointer_in h) s.operands) (pointer_operand s.act) Null

-- whether an operation writes that answered this number
abbrev pub writes_as : Act → MapKind → ℕ → Bool
writes_as act.Update kind answer = answer == 0
writes_as act.Delete Hash answer = answer == 0
writes_as (act.Store at size) kind answer = true
writes_as (act.Atomic at a) kind answer = true
writes_as a kind answer = false

-- whether the packet's operation at site j writes: by its guard and by what it answered
abbrev pub writes : ProgramView → List MapDecl → StageValues → ℕ → Bool
writes p decls h j =
    guard_on h (site_at p.sites j)
    && writes_as (site_at p.sites j).act (decl_of decls (site_at p.sites j).map).kind (stage_value h (answer_cell p.cells j))

-- how many keys a hash has: an update of a new key adds one, a delete takes one away
abbrev pub adds_key : ProgramView → List MapDecl → StageValues → ℕ → Bool
adds_key p decls h j = writes p decls h j && is_update (site_at p.sites j).act && is_null (pointer_in h (found_cell p.cells j))

abbrev pub takes_key : ProgramView → List MapDecl → StageValues → ℕ → Bool
takes_key p decls h j = writes p decls h j && is_delete (site_at p.sites j).act

-- ---- the pointer of the entry that an operation writes
-- an update of a key that was found writes there; of a new one it makes an entry
abbrev pub update_pointer : ℕ → Pointer → Pointer
update_pointer j found = if is_null found then Pending j else found

abbrev pub slot_pointer : List Slot → List ℕ → Pointer
slot_pointer slots key = if nat_lt (slot_of slots key) (length slots) then InSlot (slot_of slots key) else Null

abbrev pub written_as : Act → MapKind → ProgramView → TableState → StageValues → ℕ → Pointer
written_as act.Update Hash p t h j = update_pointer j (pointer_in h (found_cell p.cells j))
written_as act.Update Array p t h j = slot_pointer (table_at t (site_at p.sites j).map) (asked_key t.decls h (site_at p.sites j))
written_as act.Delete kind p t h j = pointer_in h (found_cell p.cells j)
written_as a kind p t h j = access_pointer h (site_at p.sites j)

abbrev pub written_pointer : ProgramView → TableState → StageValues → ℕ → Pointer
written_pointer p t h j = written_as (site_at p.sites j).act (decl_of t.decls (site_at p.sites j).map).kind p t h j

-- ---- the plan of rows: the row of each cell, the place where packets commit, and the last place
pub record Plan : Type 0 where
  pub row : ℕ → ℕ
  pub commit : ℕ
  pub last : ℕ

-- the cells that an operation takes and gives
abbrev pub parts : ProgramView → ℕ → List ℕ
parts p i = taken_by (site_at p.sites i) ++ read_cells p.cells i

-- whether site i is an operation that may write the map of site j, and is there before row r
abbrev pub is_pending : ProgramView → (ℕ → ℕ) → ℕ → ℕ → ℕ → Bool
is_pending p row r j i =
    ((site_at p.sites i).map == (site_at p.sites j).map) && records (site_at p.sites i).act && list_all (λ c. nat_lt (row c) r) (parts p i)

-- the packet's operations before site j that what it reads in row r is to see
abbrev pub pending : ProgramView → (ℕ → ℕ) → ℕ → ℕ → List ℕ
pending p row r j = filter (is_pending p row r j) (numbers 0 j)
