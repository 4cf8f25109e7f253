-- How the host's words hold what a map holds: eight bytes a word, the first the lowest, and a last word filled up with zeros.
use Rattle.std.specs.Prelude.{ℕ, ◌+◌, ◌-◌, ◌==◌, if◌then◌else◌, List, [], ◌∷◌, ◌++◌, map as map_list, take, drop, replicate, unwrap_or}
use Rattle.std.specs.List.{flat_map, range_with_len}
use Rattle.std.specs.FinMap as map
use Rattle.beat_core.specs.Words.{low_bytes}
use Rattle.beat_core.specs.Beats.{beats_of, beat_count}
use Rattle.xdp_machine.specs.xdp_maps.declared.decl.MapKind.{MapKind}
use Rattle.xdp_machine.specs.xdp_maps.declared.decl.MapKind.TheVariants.{Hash, Array}
use Rattle.xdp_machine.specs.xdp_maps.declared.decl.MapDecl.{MapDecl}
use Rattle.xdp_machine.specs.xdp_maps.Contents.{Contents, index_key, array_of}

-- bytes as words
abbrev pub words_of : List ℕ → List ℕ
words_of bytes = map_list (λ b. b.word) (beats_of bytes)

-- so many bytes of words, without what they are filled up with
abbrev pub bytes_of : ℕ → List ℕ → List ℕ
bytes_of n words = take n (flat_map (low_bytes 8) words)

-- How many words there are under an index: of an array those of a value; of a hash, whose indexes are slots, one that says
-- whether the slot is used, and those of its key and of its value.
abbrev pub row_length_as : MapKind → MapDecl → ℕ
row_length_as Hash d = 1 + beat_count d.key + beat_count d.value
row_length_as Array d = beat_count d.value

abbrev pub row_length : MapDecl → ℕ
row_length d = row_length_as d.kind d

-- ---- what a map holds, as words

-- the words of a used slot
abbrev pub slot_of : List ℕ × List ℕ → List ℕ
slot_of entry = 1 ∷ words_of entry.0 ++ words_of entry.1

-- The words under each index that say what a map holds. The entries of a hash stand in the first slots, in the order of their
-- keys; of an unused slot word 0 says all.
abbrev pub rows_as : MapKind → MapDecl → Contents → List (List ℕ)
rows_as Hash d c = map_list slot_of (map.entries c) ++ replicate (d.cap - map.len c) (0 ∷ [])
rows_as Array d c = map_list (λ i. words_of (unwrap_or (map.get c (index_key i)) [])) (range_with_len 0 d.cap)

abbrev pub rows_of : MapDecl → Contents → List (List ℕ)
rows_of d c = rows_as d.kind d c

-- ---- and back

-- the entry in a slot of these words, where it is used
abbrev pub entry_of : MapDecl → List ℕ → List (List ℕ × List ℕ)
entry_of d [] = []
entry_of d (used ∷ words) =
    if used == 0 then [] else (bytes_of d.key (take (beat_count d.key) words), bytes_of d.value (drop (beat_count d.key) words)) ∷ []

-- What a map holds whose indexes have these words. Of slots with one key the first counts.
abbrev pub contents_as : MapKind → MapDecl → List (List ℕ) → Contents
contents_as Hash d rows = map.from_entries (flat_map (entry_of d) rows)
contents_as Array d rows = array_of (map_list (bytes_of d.value) rows)

abbrev pub contents_of : MapDecl → List (List ℕ) → Contents
contents_of d rows = contents_as d.kind d rows
