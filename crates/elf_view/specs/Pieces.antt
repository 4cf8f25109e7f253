-- The headers and table entries of an ELF64 file, field by field (System V gABI, chapter 4).
use Rattle.std.specs.Prelude.{ℕ, ◌+◌, ◌*◌, ◌^◌, List, [], ◌∷◌, ◌++◌}
use Rattle.elf_view.specs.Numbers.{u16_le, u32_le, u64_le}
use Rattle.elf_view.specs.declared.parts.Section.{Section}
use Rattle.elf_view.specs.declared.parts.Symbol.{Symbol}
use Rattle.elf_view.specs.declared.parts.Rel.{Rel}

-- the first 16 bytes: the magic number, class ELFCLASS64, data ELFDATA2LSB, version EV_CURRENT, no ABI of its own
abbrev pub ident : List ℕ
ident = 127 ∷ 69 ∷ 76 ∷ 70 ∷ 2 ∷ 1 ∷ 1 ∷ 0 ∷ 0 ∷ 0 ∷ 0 ∷ 0 ∷ 0 ∷ 0 ∷ 0 ∷ 0 ∷ []

-- the file header of a relocatable file (ET_REL, 1) for eBPF (EM_BPF, 247), with no entry point and no program
-- headers: its section headers begin at `headers_at`, and section 3 has their names
unfoldable pub elf_header : (headers_at sections : ℕ) → List ℕ
elf_header headers_at sections =
    ident ++ u16_le 1 ++ u16_le 247 ++ u32_le 1 ++ u64_le 0 ++ u64_le 0 ++ u64_le headers_at ++ u32_le 0
    ++ u16_le 64 ++ u16_le 0 ++ u16_le 0 ++ u16_le 64 ++ u16_le sections ++ u16_le 3

-- a section header: the address is 0, as in every relocatable file
unfoldable pub section_header : Section → (align entry : ℕ) → List ℕ
section_header s align entry =
    u32_le s.name ++ u32_le s.kind ++ u64_le s.flags ++ u64_le 0 ++ u64_le s.offset ++ u64_le s.size
    ++ u32_le s.link ++ u32_le s.info ++ u64_le align ++ u64_le entry

-- an entry of a symbol table: `st_other` is 0
unfoldable pub symbol_bytes : Symbol → List ℕ
symbol_bytes s = u32_le s.name ++ s.info ∷ 0 ∷ [] ++ u16_le s.section ++ u64_le s.value ++ u64_le s.size

-- an entry of a REL section: `r_info` is the symbol's number times 2^32, plus the type
unfoldable pub rel_bytes : Rel → List ℕ
rel_bytes r = u64_le r.offset ++ u64_le (r.symbol * 2 ^ 32 + r.kind)
