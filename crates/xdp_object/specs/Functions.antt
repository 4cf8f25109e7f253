-- The functions of an object, by their symbols (System V gABI, chapter 4, "Symbol Table").
use Rattle.std.specs.Prelude.{ℕ, ◌/◌, ◌%◌, ◌==◌, nat_eq, nat_lt, Bool, false, ◌&&◌, List, [], take, drop, filter, Option, Some, None, codes}
use Rattle.std.specs.List.{starts_with, range_with_len}
use Rattle.std.specs.Option.{option_map_or}
use Rattle.std.specs.Str.{bytes_eq}
use Rattle.elf_view.specs.declared.parts.Symbol.{Symbol}
use Rattle.elf_view.specs.File.{e_shnum, e_shstrndx, entry_count, first_symtab, section_at, section_bytes, string_at, symbol_at, symbol_table}

-- entry n of the symbol table
abbrev pub symbol_of : List ℕ → ℕ → Symbol
symbol_of bytes n = symbol_at (symbol_table bytes) n

-- the string table that a symbol table links to, none without one
abbrev pub symbol_strings : List ℕ → Option ℕ → List ℕ
symbol_strings bytes None = []
symbol_strings bytes (Some table) = section_bytes bytes (section_at bytes table).link

-- the name of symbol n, if it ends in that table
abbrev pub symbol_name : List ℕ → ℕ → Option (List ℕ)
symbol_name bytes n = string_at (symbol_strings bytes (first_symtab bytes)) (symbol_of bytes n).name

-- the name of section i
abbrev pub section_name : List ℕ → ℕ → Option (List ℕ)
section_name bytes i = string_at (section_bytes bytes (e_shstrndx bytes)) (section_at bytes i).name

-- a section of code: of type PROGBITS (1), with the flag EXECINSTR (4)
abbrev pub is_code_section : List ℕ → ℕ → Bool
is_code_section bytes i =
    let s = section_at bytes i in nat_lt i (e_shnum bytes) && (s.kind == 1) && (s.flags / 4 % 2 == 1)

-- symbol n is a function (STT_FUNC, 2) of some size in a section of code
abbrev pub is_function : List ℕ → ℕ → Bool
is_function bytes n =
    let s = symbol_of bytes n in (s.info % 16 == 2) && nat_lt 0 s.size && is_code_section bytes s.section

-- it is one that is asked for: one of this name, or, with no name given, one in a section whose name begins with `xdp`
abbrev pub is_asked_for : Option (List ℕ) → List ℕ → ℕ → Bool
is_asked_for (Some name) bytes n = option_map_or (λ s. bytes_eq s name) (symbol_name bytes n) false
is_asked_for None bytes n =
    option_map_or (λ s. starts_with nat_eq s (codes "xdp")) (section_name bytes (symbol_of bytes n).section) false

-- the numbers of the symbols that are functions that are asked for
unfoldable pub programs : Option (List ℕ) → List ℕ → List ℕ
programs choice bytes =
    filter (λ n. is_function bytes n && is_asked_for choice bytes n) (range_with_len 0 (entry_count 24 (symbol_table bytes)))

-- the bytes of a function, by its symbol
abbrev pub function_code : List ℕ → Symbol → List ℕ
function_code bytes s = take s.size (drop s.value (section_bytes bytes s.section))
