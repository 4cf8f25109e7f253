-- A map as a table of slots. A key keeps its slot until it is deleted; what an unused slot holds does not count.
use Rattle.std.specs.Prelude.{ℕ, ◌-◌, Bool, true, false, not, ◌&&◌, if◌then◌else◌, List, [], ◌∷◌, ◌++◌, length, map as map_list, count_by, replicate, unwrap_or}
use Rattle.std.specs.List.{position_or_len, range_with_len}
use Rattle.std.specs.Str.{bytes_eq}
use Rattle.std.proofs.Common.{get_or}
use Rattle.std.specs.FinMap as map
use Rattle.xdp_maps.specs.declared.decl.MapKind.{MapKind}
use Rattle.xdp_maps.specs.declared.decl.MapKind.TheVariants.{Hash, Array}
use Rattle.xdp_maps.specs.declared.decl.MapDecl.{MapDecl}
use Rattle.xdp_maps.specs.Contents.{Contents, index_key}
use Rattle.xdp_maps.specs.State.{MapState, no_decl}
pub use Rattle.hazard_core.specs.declared.slot.Slot.{Slot}

-- what stands for a slot past the last
abbrev pub no_slot : Slot
no_slot = record { used = false; key = []; value = [] }

-- the declarations, and beside each the table of its map
pub record TableState : Type 0 where
  pub decls : List MapDecl
  pub tables : List (List Slot)

abbrev pub decl_of : List MapDecl → ℕ → MapDecl
decl_of decls m = get_or decls m no_decl

abbrev pub table_at : TableState → ℕ → List Slot
table_at t m = get_or t.tables m []

abbrev pub slot_at : List Slot → ℕ → Slot
slot_at slots n = get_or slots n no_slot

-- whether a slot is used, and under this key
abbrev pub has_key : List ℕ → Slot → Bool
has_key key s = s.used && bytes_eq s.key key

-- the first slot that is used under a key, or the number of slots
abbrev pub slot_of : List Slot → List ℕ → ℕ
slot_of slots key = position_or_len (has_key key) slots

-- the first slot that is not used, or the number of slots
abbrev pub free_slot : List Slot → ℕ
free_slot slots = position_or_len (λ s. not s.used) slots

abbrev pub used_count : List Slot → ℕ
used_count slots = count_by (λ s. s.used) slots

-- what a map holds: the value of the first slot under each key
abbrev pub contents_of : List Slot → Contents
contents_of [] = map.empty
contents_of (s ∷ slots) = if s.used then map.insert (contents_of slots) s.key s.value else contents_of slots

abbrev pub maps_of : TableState → MapState
maps_of t = record { decls = t.decls; contents = map_list contents_of t.tables }

-- ---- the tables that a load leaves: a hash has its keys in the order of their bytes from slot 0 on, an array an index in each slot
abbrev pub empty_slot : MapDecl → Slot
empty_slot d = record { used = false; key = replicate d.key 0; value = replicate d.value 0 }

abbrev pub pair_slot : List ℕ × List ℕ → Slot
pair_slot e = record { used = true; key = e.0; value = e.1 }

abbrev pub index_slot : MapDecl → Contents → ℕ → Slot
index_slot d c i = pair_slot (index_key i, unwrap_or (map.get c (index_key i)) (replicate d.value 0))

abbrev pub loaded_as : MapKind → MapDecl → Contents → List Slot
loaded_as Hash d c = map_list pair_slot (map.entries c) ++ replicate (d.cap - length (map.entries c)) (empty_slot d)
loaded_as Array d c = map_list (index_slot d c) (range_with_len 0 d.cap)

abbrev pub loaded_tables : List MapDecl → List Contents → List (List Slot)
loaded_tables [] cs = []
loaded_tables (d ∷ ds) [] = []
loaded_tables (d ∷ ds) (c ∷ cs) = loaded_as d.kind d c ∷ loaded_tables ds cs

abbrev pub tables_of : MapState → TableState
tables_of maps = record { decls = maps.decls; tables = loaded_tables maps.decls maps.contents }
