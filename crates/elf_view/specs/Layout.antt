-- The least object: one function in the section `xdp`, and the maps that it refers to. The file header comes first,
-- then the bytes of the sections, then the section headers.
--
--     0  no section                     3  `.strtab`, the names of sections, function and maps
--     1  `xdp`, the function's code     4  `maps`, a record of 20 bytes a map
--     2  `.symtab`, the symbols         5  `.relxdp`, the places where the code refers to a map
--
-- Sections 4 and 5 are there only where there is a map. For code of whole instruction units (8 bytes) each header
-- and table begins at a multiple of 8, as the gABI asks.
use Rattle.std.specs.Prelude.{ℕ, ◌+◌, ◌-◌, ◌*◌, ◌%◌, List, [], ◌∷◌, ◌++◌, length, replicate, slice_index, codes}
use Rattle.std.specs.List.{flat_map}
use Rattle.elf_view.specs.Numbers.{u32_le}
use Rattle.elf_view.specs.Pieces.{elf_header, section_header, symbol_bytes, rel_bytes}
use Rattle.elf_view.specs.declared.parts.Section.{Section}
use Rattle.elf_view.specs.declared.parts.Symbol.{Symbol}
use Rattle.elf_view.specs.declared.object.MapRecord.{MapRecord}
use Rattle.elf_view.specs.declared.sizes.Sizes.{Sizes}

-- a string of a string table: a zero byte ends it
unfoldable pub text : List ℕ → List ℕ
text s = s ++ 0 ∷ []

-- how many bytes stand up to the next multiple of 8
abbrev pub padded_size : ℕ → ℕ
padded_size n = n + (8 - n % 8) % 8

-- bytes, and zeros up to the next multiple of 8
abbrev pub padded : List ℕ → List ℕ
padded bytes = bytes ++ replicate ((8 - length bytes % 8) % 8) 0

-- ---- the string table

-- the names of the maps
abbrev pub map_names : List MapRecord → List ℕ
map_names maps = flat_map (λ m. text m.name.now) maps

-- the names that only an object with maps has
abbrev pub map_strings : List MapRecord → List ℕ
map_strings [] = []
map_strings (m ∷ ms) = text (codes "maps") ++ text (codes ".relxdp") ++ map_names (m ∷ ms)

-- the names of sections 1 to 3 (from 1, 5 and 13), that of the function (from 21), and those of maps
abbrev pub strings : List ℕ → List MapRecord → List ℕ
strings name maps =
    text [] ++ text (codes "xdp") ++ text (codes ".symtab") ++ text (codes ".strtab") ++ text name ++ map_strings maps

-- ---- the symbol table

-- symbol 0 is none
abbrev pub no_symbol : Symbol
no_symbol = record { name = 0; info = 0; section = 0; value = 0; size = 0 }

-- symbol 1 is the function: global (1) of type STT_FUNC (2), all of section 1
abbrev pub function_symbol : ℕ → Symbol
function_symbol size = record { name = 21; info = 18; section = 1; value = 0; size = size }

-- a map: global (1) of type STT_OBJECT (1), 20 bytes of section 4
abbrev pub map_symbol : (name_at value : ℕ) → Symbol
map_symbol name_at value = record { name = name_at; info = 17; section = 4; value = value; size = 20 }

-- the symbols of maps whose names begin at `name_at` and whose records begin at `value`, from symbol 2 on
abbrev pub map_symbols : (name_at value : ℕ) → List MapRecord → List ℕ
map_symbols name_at value [] = []
map_symbols name_at value (m ∷ ms) =
    symbol_bytes (map_symbol name_at value) ++ map_symbols (name_at + (length m.name.now + 1)) (value + 20) ms

-- the symbol table, for a function of a name of so many bytes and of `size` bytes of code
abbrev pub symbols : (name_len size : ℕ) → List MapRecord → List ℕ
symbols name_len size maps =
    symbol_bytes no_symbol ++ symbol_bytes (function_symbol size) ++ map_symbols (35 + name_len) 0 maps

-- ---- relocations and records

-- one relocation for each pair of a unit's place and a map's number: type 1 is R_BPF_64_64
abbrev pub rels : List (ℕ × ℕ) → List ℕ
rels refs = flat_map (λ r. rel_bytes (record { offset = 8 * r.0; symbol = 2 + r.1; kind = 1 })) refs

-- the record of a map: its type, the sizes of its keys and values, the greatest number of its entries, its flags
unfoldable pub record_bytes : List ℕ → List ℕ
record_bytes words =
    u32_le (slice_index words 0) ++ u32_le (slice_index words 1) ++ u32_le (slice_index words 2)
    ++ u32_le (slice_index words 3) ++ u32_le (slice_index words 4)

abbrev pub records : List MapRecord → List ℕ
records maps = flat_map (λ m. record_bytes m.words) maps

-- ---- the section headers

-- where the parts begin that stand after the file header and the code
abbrev pub symbols_at : Sizes → ℕ
symbols_at s = 64 + s.code

abbrev pub rels_at : Sizes → ℕ
rels_at s = symbols_at s + s.symbols

abbrev pub records_at : Sizes → ℕ
records_at s = rels_at s + s.rels

abbrev pub strings_at : Sizes → ℕ
strings_at s = records_at s + padded_size s.records

abbrev pub headers_at : Sizes → ℕ
headers_at s = strings_at s + padded_size s.strings

abbrev pub no_section : Section
no_section = record { name = 0; kind = 0; flags = 0; offset = 0; size = 0; link = 0; info = 0 }

-- PROGBITS, with the flags ALLOC (2) and EXECINSTR (4)
abbrev pub code_section : Sizes → Section
code_section s = record { name = 1; kind = 1; flags = 6; offset = 64; size = s.code; link = 0; info = 0 }

-- SYMTAB: `link` is its string table, `info` the number of its first global symbol
abbrev pub symbols_section : Sizes → Section
symbols_section s =
    record { name = 5; kind = 2; flags = 0; offset = symbols_at s; size = s.symbols; link = 3; info = 1 }

-- STRTAB
abbrev pub strings_section : Sizes → Section
strings_section s =
    record { name = 13; kind = 3; flags = 0; offset = strings_at s; size = s.strings; link = 0; info = 0 }

-- PROGBITS, with the flags WRITE (1) and ALLOC (2)
abbrev pub records_section : ℕ → Sizes → Section
records_section name_len s =
    record { name = 22 + name_len; kind = 1; flags = 3; offset = records_at s; size = s.records; link = 0; info = 0 }

-- REL: `link` is its symbol table, `info` the section that it changes
abbrev pub rels_section : ℕ → Sizes → Section
rels_section name_len s =
    record { name = 27 + name_len; kind = 9; flags = 0; offset = rels_at s; size = s.rels; link = 2; info = 1 }

abbrev pub base_headers : Sizes → List ℕ
base_headers s =
    section_header no_section 0 0 ++ section_header (code_section s) 8 0 ++ section_header (symbols_section s) 8 24
    ++ section_header (strings_section s) 1 0

abbrev pub map_headers : ℕ → Sizes → List MapRecord → List ℕ
map_headers name_len s [] = []
map_headers name_len s (m ∷ ms) =
    section_header (records_section name_len s) 4 0 ++ section_header (rels_section name_len s) 8 16

abbrev pub section_count : List MapRecord → ℕ
section_count [] = 4
section_count (m ∷ ms) = 6

-- ---- the whole

abbrev pub sizes_of : List ℕ → List ℕ → List MapRecord → List (ℕ × ℕ) → Sizes
sizes_of name code maps refs = record {
  code = length code;
  symbols = length (symbols (length name) (length code) maps);
  rels = length (rels refs);
  records = length (records maps);
  strings = length (strings name maps);
}

-- the bytes of the object of the function `name` with this code, these maps and these pairs of place and map
unfoldable pub object_layout : List ℕ → List ℕ → List MapRecord → List (ℕ × ℕ) → List ℕ
object_layout name code maps refs =
    let s = sizes_of name code maps refs in
    elf_header (headers_at s) (section_count maps) ++ code ++ symbols (length name) (length code) maps ++ rels refs
    ++ padded (records maps) ++ padded (strings name maps) ++ base_headers s ++ map_headers (length name) s maps

-- ---- how many bytes that is

abbrev pub names_size : List MapRecord → ℕ
names_size [] = 0
names_size (m ∷ ms) = length m.name.now + 1 + names_size ms

abbrev pub strings_size : List ℕ → List MapRecord → ℕ
strings_size name [] = 22 + length name
strings_size name (m ∷ ms) = 35 + length name + names_size (m ∷ ms)

abbrev pub object_size : List ℕ → List ℕ → List MapRecord → List (ℕ × ℕ) → ℕ
object_size name code maps refs =
    64 + length code + 24 * (2 + length maps) + 16 * length refs + padded_size (20 * length maps)
    + padded_size (strings_size name maps) + 64 * section_count maps
