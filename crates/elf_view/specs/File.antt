-- The parts of an ELF64 file as functions of its bytes (System V gABI, chapter 4).
use Rattle.std.specs.Prelude.{ℕ, ◌+◌, ◌-◌, ◌*◌, ◌/◌, ◌%◌, ◌^◌, ◌==◌, if◌then◌else◌, List, [], length, take, drop, slice_index, min, position, Option, Some, None}
use Rattle.std.specs.Option.{option_map}
use Rattle.elf_view.specs.Numbers.{u16_at, u32_at, u64_at}
use Rattle.elf_view.specs.declared.parts.Section.{Section}
use Rattle.elf_view.specs.declared.parts.Symbol.{Symbol}
use Rattle.elf_view.specs.declared.parts.Rel.{Rel}
use Rattle.list_laws.specs.Firsts.{first_from}

-- ---- the file header

abbrev pub e_type : List ℕ → ℕ
e_type bytes = u16_at bytes 16

abbrev pub e_machine : List ℕ → ℕ
e_machine bytes = u16_at bytes 18

-- where the section headers begin, how large each is, and how many there are
abbrev pub e_shoff : List ℕ → ℕ
e_shoff bytes = u64_at bytes 40

abbrev pub e_shentsize : List ℕ → ℕ
e_shentsize bytes = u16_at bytes 58

abbrev pub e_shnum : List ℕ → ℕ
e_shnum bytes = u16_at bytes 60

-- the section of the section names
abbrev pub e_shstrndx : List ℕ → ℕ
e_shstrndx bytes = u16_at bytes 62

-- ---- sections

-- the section header at a place
unfoldable pub section_header_at : List ℕ → ℕ → Section
section_header_at bytes at = record {
  name = u32_at bytes at;
  kind = u32_at bytes (at + 4);
  flags = u64_at bytes (at + 8);
  offset = u64_at bytes (at + 24);
  size = u64_at bytes (at + 32);
  link = u32_at bytes (at + 40);
  info = u32_at bytes (at + 44);
}

-- section header number i
abbrev pub section_at : List ℕ → ℕ → Section
section_at bytes i = section_header_at bytes (e_shoff bytes + 64 * i)

-- the bytes of a section, a span of the file: a NOBITS section (8) has none
abbrev pub span_of : List ℕ → Section → List ℕ
span_of bytes s = if s.kind == 8 then [] else take s.size (drop s.offset bytes)

abbrev pub section_bytes : List ℕ → ℕ → List ℕ
section_bytes bytes i = span_of bytes (section_at bytes i)

-- the string that begins at a place of a string table: the bytes up to the first zero byte, if there is one
unfoldable pub string_at : List ℕ → ℕ → Option (List ℕ)
string_at table at = option_map (λ n. take n (drop at table)) (position (λ b. b == 0) (drop at table))

-- ---- symbols and relocations

-- a section of type SYMTAB (2), by its number
abbrev pub symtab_at : List ℕ → ℕ → Option ℕ
symtab_at bytes i = if (section_at bytes i).kind == 2 then Some i else None

-- the number of the first one
unfoldable pub first_symtab : List ℕ → Option ℕ
first_symtab bytes = first_from (symtab_at bytes) 0 (e_shnum bytes)

-- the bytes of that section, none without one
abbrev pub symbols_of : List ℕ → Option ℕ → List ℕ
symbols_of bytes None = []
symbols_of bytes (Some i) = section_bytes bytes i

-- the symbol table of a file
abbrev pub symbol_table : List ℕ → List ℕ
symbol_table bytes = symbols_of bytes (first_symtab bytes)

-- how many whole entries of a size a table has, as far as 32 bits count them
abbrev pub entry_count : ℕ → List ℕ → ℕ
entry_count size table = min (length table / size) (2 ^ 32 - 1)

-- entry i of a symbol table
unfoldable pub symbol_at : List ℕ → ℕ → Symbol
symbol_at table i = record {
  name = u32_at table (24 * i);
  info = slice_index table (24 * i + 4);
  section = u16_at table (24 * i + 6);
  value = u64_at table (24 * i + 8);
  size = u64_at table (24 * i + 16);
}

-- entry i of a REL section: the symbol is the high half of its second number, the type the low half
unfoldable pub rel_at : List ℕ → ℕ → Rel
rel_at table i = record {
  offset = u64_at table (16 * i);
  symbol = u64_at table (16 * i + 8) / 2 ^ 32;
  kind = u64_at table (16 * i + 8) % 2 ^ 32;
}
