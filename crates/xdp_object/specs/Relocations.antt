-- The relocations of a function (System V gABI, chapter 4, "Relocation"), and which of them refer to a map
-- (Documentation/bpf/llvm_reloc.rst).
use Rattle.std.specs.Prelude.{ℕ, zero, suc, ◌+◌, ◌-◌, ◌/◌, ◌%◌, ◌==◌, nat_lt, nat_le, not, Bool, true, false, ◌&&◌, ◌||◌, if◌then◌else◌, List, [], ◌∷◌, ◌++◌, length, map as map_list, slice_index_or, codes, Option, Some, None}
use Rattle.std.specs.List.{range_with_len}
use Rattle.std.specs.Option.{option_map_or, option_or}
use Rattle.std.specs.Str.{bytes_eq}
use Rattle.bpf_isa.specs.declared.instruction.Insn.{Insn}
use Rattle.bpf_isa.specs.declared.operation.Op.{Op}
use Rattle.bpf_isa.specs.declared.operation.Op.TheVariants.{LoadImm}
use Rattle.bpf_isa.specs.Spelling.{units_of}
use Rattle.bpf_isa.specs.Text.{insn_at}
use Rattle.elf_view.specs.declared.error.ElfError.TheVariants.{Section}
use Rattle.elf_view.specs.declared.parts.Rel.{Rel}
use Rattle.elf_view.specs.declared.parts.Symbol.{Symbol}
use Rattle.elf_view.specs.File.{e_shnum, entry_count, rel_at, section_at, section_bytes, symbol_table}
use Rattle.xdp_object.specs.declared.error.ObjectError.{ObjectError}
use Rattle.xdp_object.specs.declared.error.ObjectError.TheVariants.{Elf, Relocation}
use Rattle.xdp_object.specs.declared.relocated.Relocated.{Relocated}
use Rattle.xdp_object.specs.declared.relocated.Relocated.TheVariants.{Untouched, Refers, Unknown}
use Rattle.xdp_object.specs.Functions.{section_name, symbol_of}
use Rattle.elf_view.specs.list_laws.Firsts.{first_from}

-- section i is of this type, and its entries are relocations of section `target`
abbrev pub relocates : List ℕ → (kind target : ℕ) → ℕ → Bool
relocates bytes kind target i = let s = section_at bytes i in (s.kind == kind) && (s.info == target)

-- a REL section (9) has whole entries of 16 bytes
abbrev pub cut_table : List ℕ → ℕ → ℕ → Option ObjectError
cut_table bytes target i =
    if relocates bytes 9 target i && not ((section_at bytes i).size % 16 == 0) then Some (Elf (Section i)) else None

unfoldable pub cut_tables : List ℕ → ℕ → Option ObjectError
cut_tables bytes target = first_from (cut_table bytes target) 0 (e_shnum bytes)

-- there is no RELA section (4)
abbrev pub rela_table : List ℕ → ℕ → ℕ → Option ObjectError
rela_table bytes target i = if relocates bytes 4 target i then Some (Relocation 0) else None

unfoldable pub rela_tables : List ℕ → ℕ → Option ObjectError
rela_tables bytes target = first_from (rela_table bytes target) 0 (e_shnum bytes)

-- ---- one relocation

-- the unit of a function that holds the first byte that is relocated, if that byte stands in the function
abbrev pub place_in : Symbol → Rel → Option ℕ
place_in f r =
    if nat_le f.value r.offset && nat_lt r.offset (f.value + f.size) then Some ((r.offset - f.value) / 8) else None

-- section i has this name
unfoldable pub has_name : List ℕ → ℕ → List ℕ → Bool
has_name bytes i text = option_map_or (λ s. bytes_eq s text) (section_name bytes i) false

-- symbol n stands for what lies in a section of maps. One of type STT_SECTION (3) stands for no part of it
unfoldable pub is_map_symbol : List ℕ → ℕ → Bool
is_map_symbol bytes n =
    let s = symbol_of bytes n in
    nat_lt n (entry_count 24 (symbol_table bytes)) && not (s.info % 16 == 3) && nat_lt s.section (e_shnum bytes)
    && (has_name bytes s.section (codes "maps") || has_name bytes s.section (codes ".maps"))

-- a relocation of type R_BPF_64_64 (1), of a unit from its first byte on, to a map
abbrev pub is_map_relocation : List ℕ → Symbol → Rel → Bool
is_map_relocation bytes f r = (r.kind == 1) && ((r.offset - f.value) % 8 == 0) && is_map_symbol bytes r.symbol

abbrev pub relocation_of : List ℕ → Symbol → Rel → Relocated
relocation_of bytes f r = if is_map_relocation bytes f r then Refers r.symbol else Unknown

-- ---- what all relocations of a function say of a place

-- two relocations of one place are none that is known
abbrev pub both : Relocated → Relocated → Relocated
both Untouched b = b
both a Untouched = a
both a b = Unknown

-- what f i, f (i + 1), .., n of them, say together
abbrev pub together : (ℕ → Relocated) → ℕ → ℕ → Relocated
together f i zero = Untouched
together f i (suc n) = both (f i) (together f (suc i) n)

-- what one relocation says of a place
abbrev pub said_of : List ℕ → Symbol → ℕ → Rel → Relocated
said_of bytes f place r =
    if option_map_or (λ at. at == place) (place_in f r) false then relocation_of bytes f r else Untouched

-- what the entries of section i say, if they are relocations of the function's section
abbrev pub said_by_table : List ℕ → Symbol → ℕ → ℕ → Relocated
said_by_table bytes f place i =
    together (λ k. said_of bytes f place (rel_at (section_bytes bytes i) k)) 0 (entry_count 16 (section_bytes bytes i))

abbrev pub said_by_section : List ℕ → Symbol → ℕ → ℕ → Relocated
said_by_section bytes f place i =
    if relocates bytes 9 f.section i then said_by_table bytes f place i else Untouched

unfoldable pub relocated_at : List ℕ → Symbol → ℕ → Relocated
relocated_at bytes f place = together (said_by_section bytes f place) 0 (e_shnum bytes)

-- the same of each unit of the function
unfoldable pub places_of : List ℕ → Symbol → List Relocated
places_of bytes f = map_list (relocated_at bytes f) (range_with_len 0 (f.size / 8))

-- what is said of one of these places
abbrev pub said_at : List Relocated → ℕ → Relocated
said_at places place = slice_index_or places place Untouched

-- ---- the first relocation that is not known

-- the load of a number of 64 bits (0x18), with source 0
abbrev pub is_load_op : Op → Bool
is_load_op LoadImm = true
is_load_op op = false

abbrev pub is_load : Insn → Bool
is_load i = is_load_op i.op && (i.src == 0)

abbrev pub unknown_by : ℕ → Relocated → Option Insn → Option ObjectError
unknown_by place Untouched i = None
unknown_by place (Refers symbol) (Some i) = if is_load i then None else Some (Relocation place)
unknown_by place (Refers symbol) None = Some (Relocation place)
unknown_by place Unknown i = Some (Relocation place)

-- a place is not relocated, or a load begins there and refers to a map
abbrev pub unknown_at : List Relocated → List Insn → ℕ → Option ObjectError
unknown_at places insns place = unknown_by place (said_at places place) (insn_at insns place)

-- the first of the units of instruction i, at a place, that is none of these: no instruction begins at a second unit
abbrev pub unknown_in : List Relocated → ℕ → Insn → Option ObjectError
unknown_in places place i =
    option_or (unknown_by place (said_at places place) (Some i))
    (if units_of i.op == 2 then unknown_by (place + 1) (said_at places (place + 1)) None else None)

-- the least place of a function of these instructions that is none of these
unfoldable pub first_unknown : List Relocated → List Insn → Option ObjectError
first_unknown places insns = first_from (unknown_at places insns) 0 (length places)

-- ---- references

-- a place of a function that refers to a map, and the map's symbol
pub record Reference : Type 0 where
  pub place : ℕ
  pub symbol : ℕ

abbrev pub reference_by : ℕ → Relocated → List Reference
reference_by place (Refers symbol) = record { place = place; symbol = symbol } ∷ []
reference_by place _ = []

-- those at places i, i + 1, .., of n of them
abbrev pub references_from : List Relocated → ℕ → ℕ → List Reference
references_from places i zero = []
references_from places i (suc n) = reference_by i (said_at places i) ++ references_from places (suc i) n

-- the references of a function, by their places
abbrev pub references : List Relocated → List Reference
references places = references_from places 0 (length places)
