-- A map that is written and read index by index.
use Rattle.std.specs.Prelude.{ℕ, ◌-◌, List, [], ◌∷◌, ◌++◌, Option, Some, None, length, replicate, if◌then◌else◌, map as map_list}
use Rattle.std.specs.List.{flat_map}
use Rattle.std.specs.FinMap as map
use Rattle.xdp_maps.specs.declared.decl.MapKind.{MapKind}
use Rattle.xdp_maps.specs.declared.decl.MapKind.TheVariants.{Hash, Array}
use Rattle.xdp_maps.specs.declared.decl.MapDecl.{MapDecl}
use Rattle.xdp_maps.specs.Contents.{Contents, array_of}
use Rattle.realization.specs.HostHistory.Rows.{entry_of, bytes_of, slot_of, words_of}

-- the words that are written under an index where this key and value stand there, if any
abbrev pub row_with : MapKind → List ℕ → Option (List ℕ) → List ℕ
row_with Hash key None = 0 ∷ []
row_with Hash key (Some value) = slot_of (key, value)
row_with Array key None = []
row_with Array key (Some value) = words_of value

-- What is known of a map whose first rows were read: of a hash the entries of their used slots, of an array their values,
-- and zeros under all other indexes.
abbrev pub read_as : MapDecl → List (List ℕ) → MapKind → Contents
read_as d rows Hash = map.from_entries (flat_map (entry_of d) rows)
read_as d rows Array = array_of (map_list (bytes_of d.value) rows ++ replicate (d.cap - length rows) (replicate d.value 0))

abbrev pub read_of : MapDecl → List (List ℕ) → Contents
read_of d rows = read_as d rows d.kind

-- a hash with the entry of one more slot, if it has one: where the key is there already, what stands there counts
abbrev pub with_entry : Contents → List (List ℕ × List ℕ) → Contents
with_entry c [] = c
with_entry c (e ∷ es) = if map.contains_key c e.0 then c else map.insert c e.0 e.1
