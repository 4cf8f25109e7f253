-- What a packet reads: the tables as they are, and over them its own earlier operations as they answered. It is said for all
-- values that cells may hold.
use Rattle.std.specs.Prelude.{ℕ, ℤ, ◌+◌, nat_lt, Bool, true, not, ◌&&◌, if◌then◌else◌, List, fold, count_by, replicate, Some, None}
use Rattle.std.specs.Int.{w64, cast_unsigned}
use Rattle.std.specs.Str.{bytes_eq}
use Rattle.xdp_maps.specs.declared.decl.MapDecl.{MapDecl}
use Rattle.xdp_maps.specs.declared.decl.MapKind.{MapKind}
use Rattle.xdp_maps.specs.declared.decl.MapKind.TheVariants.{Hash, Array}
use Rattle.xdp_maps.specs.declared.errno.TheConstants.{ENOENT, EINVAL}
use Rattle.xdp_maps.specs.Contents.{index_of}
use Rattle.xdp_maps.specs.Calls.{hash_refusal, array_refusal, number_of, patched, with_change, number_at as changed_at}
use Rattle.xdp_maps.specs.Operations as map
use Rattle.xdp_maps.specs.Operations.{Operation}
use Rattle.cell_core.specs.xdp_machine.Memory.{number_at}
use Rattle.cell_core.specs.declared.site.Act.{Act}
use Rattle.cell_core.specs.declared.site.Act.TheVariants as act
use Rattle.cell_core.specs.Cells.{bit}
use Rattle.cell_core.specs.Sites.{ProgramView, site_at}
use Rattle.hazard_core.specs.Tables.{Slot, TableState, decl_of, table_at, slot_at, used_count}
use Rattle.hazard_core.specs.StageValues.{Pointer, Null, InSlot, same_pointer, is_null, StageValues, asked, asked_key, access_pointer, writes, adds_key, takes_key, slot_pointer, written_pointer}

-- ---- where a key is found
abbrev pub found_as : Act → Pointer → Pointer → Pointer
found_as act.Update written found = written
found_as act.Delete written found = Null
found_as a written found = found

-- over the packet's operation at site i, where that wrote under the key
abbrev pub found_over : ProgramView → TableState → StageValues → List ℕ → Pointer → ℕ → Pointer
found_over p t h key found i =
    if writes p t.decls h i && bytes_eq (asked_key t.decls h (site_at p.sites i)) key
    then found_as (site_at p.sites i).act (written_pointer p t h i) found
    else found

-- The keys of an array are always there.
abbrev pub key_pointer_as : MapKind → ProgramView → TableState → StageValues → List ℕ → ℕ → List ℕ → Pointer
key_pointer_as Hash p t h before m key = fold (found_over p t h key) (slot_pointer (table_at t m) key) before
key_pointer_as Array p t h before m key = slot_pointer (table_at t m) key

-- the entry under the key of site j, after the operations at some sites
abbrev pub key_pointer : ProgramView → TableState → StageValues → List ℕ → ℕ → Pointer
key_pointer p t h before j =
    let s = site_at p.sites j in
    key_pointer_as (decl_of t.decls s.map).kind p t h before s.map (asked_key t.decls h s)

-- an update with flags that no one knows does not look
abbrev pub looks : Operation → Bool
looks (map.Update key value flags) = not (nat_lt 2 flags)
looks op = true

abbrev pub found_pointer : ProgramView → TableState → StageValues → List ℕ → ℕ → Pointer
found_pointer p t h before j = if looks (asked t.decls h (site_at p.sites j)) then key_pointer p t h before j else Null

-- ---- the value under a pointer
abbrev pub value_as : Operation → List ℕ → List ℕ
value_as (map.Update key value flags) old = value
value_as (map.Store key at bytes) old = patched old at bytes
value_as (map.Atomic key at x fetch) old = with_change x at old
value_as op old = old

-- over the packet's operation at site i, where that wrote through the same pointer
abbrev pub value_over : ProgramView → TableState → StageValues → Pointer → List ℕ → ℕ → List ℕ
value_over p t h under old i =
    if writes p t.decls h i && same_pointer (written_pointer p t h i) under then value_as (asked t.decls h (site_at p.sites i)) old else old

-- before the packet's own operations; an entry that is to be made begins with zeros
abbrev pub value_under : MapDecl → List Slot → Pointer → List ℕ
value_under d slots (InSlot n) = (slot_at slots n).value
value_under d slots other = replicate d.value 0

abbrev pub entry_value : ProgramView → TableState → StageValues → List ℕ → ℕ → Pointer → List ℕ
entry_value p t h before m under = fold (value_over p t h under) (value_under (decl_of t.decls m) (table_at t m) under) before

-- ---- what a site answers
abbrev pub update_answer : MapKind → MapDecl → ℕ → ℕ → Bool → List ℕ → ℕ → ℤ
update_answer Hash d plus minus present key flags = number_of (hash_refusal (d.cap + minus) plus present flags)
update_answer Array d plus minus present key flags = number_of (array_refusal d.cap (index_of key) flags)

abbrev pub delete_answer : MapKind → Bool → ℤ
delete_answer Hash present = number_of (if present then None else Some ENOENT)
delete_answer Array present = number_of (Some EINVAL)

abbrev pub where_some : Pointer → ℕ → ℕ
where_some under n = if is_null under then 0 else n

abbrev pub answer_as : Act → Operation → ProgramView → TableState → StageValues → List ℕ → ℕ → ℕ
answer_as (act.Load at size) op p t h before j =
    let s = site_at p.sites j in
    let under = access_pointer h s in
    where_some under (number_at size at (entry_value p t h before s.map under))
answer_as (act.Atomic at a) op p t h before j =
    let s = site_at p.sites j in
    let under = access_pointer h s in
    where_some under (changed_at a.wide at (entry_value p t h before s.map under))
answer_as act.Update (map.Update key value flags) p t h before j =
    let m = (site_at p.sites j).map in
    let d = decl_of t.decls m in
    cast_unsigned w64 (update_answer d.kind d (used_count (table_at t m) + count_by (adds_key p t.decls h) before) (count_by (takes_key p t.decls h) before) (not (is_null (key_pointer p t h before j))) key flags)
answer_as act.Delete op p t h before j =
    cast_unsigned w64 (delete_answer (decl_of t.decls (site_at p.sites j).map).kind (not (is_null (key_pointer p t h before j))))
answer_as a op p t h before j = bit (not (is_null (key_pointer p t h before j)))

abbrev pub answer_over : ProgramView → TableState → StageValues → List ℕ → ℕ → ℕ
answer_over p t h before j = answer_as (site_at p.sites j).act (asked t.decls h (site_at p.sites j)) p t h before j
