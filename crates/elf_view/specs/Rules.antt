-- Which files are read, and the first error of the others: the rules in their order.
use Rattle.std.specs.Prelude.{ℕ, ◌+◌, ◌*◌, ◌%◌, ◌==◌, ◌≡◌, ◌≢◌, ◌<◌, ◌≤◌, nat_lt, Bool, ◌&&◌, not, is_some, if◌then◌else◌, List, [], ◌∷◌, length, take, Option, Some, None, Result, Ok, Err}
use Rattle.std.specs.Option.{option_or}
use Rattle.std.specs.Str.{bytes_eq}
use Rattle.elf_view.specs.File.{e_machine, e_shentsize, e_shnum, e_shoff, e_shstrndx, e_type, first_symtab, section_at, section_bytes, string_at}
use Rattle.elf_view.specs.declared.parts.Section.{Section as Section'}
use Rattle.elf_view.specs.declared.error.ElfError.{ElfError}
use Rattle.elf_view.specs.declared.error.ElfError.TheVariants.{Short, Header, Machine, Section, At}
use Rattle.list_laws.specs.Firsts.{first_from}

-- the file header is whole: 64 bytes
unfoldable pub short_file : List ℕ → Option ElfError
short_file bytes = if nat_lt (length bytes) 64 then Some (Short 64) else None

-- the magic number, the 64-bit class, little-endian data; a relocatable file; section headers of 64 bytes
unfoldable pub wrong_header : List ℕ → Option ElfError
wrong_header bytes =
    if bytes_eq (take 6 bytes) (127 ∷ 69 ∷ 76 ∷ 70 ∷ 2 ∷ 1 ∷ []) && (e_type bytes == 1) && (e_shentsize bytes == 64)
    then None
    else Some Header

-- the machine is EM_BPF
unfoldable pub wrong_machine : List ℕ → Option ElfError
wrong_machine bytes = if e_machine bytes == 247 then None else Some (Machine (e_machine bytes))

-- the section headers are whole
unfoldable pub short_headers : List ℕ → Option ElfError
short_headers bytes =
    if nat_lt (length bytes) (e_shoff bytes + 64 * e_shnum bytes)
    then Some (Short (e_shoff bytes + 64 * e_shnum bytes))
    else None

-- the bytes of a section stand in the file, if it has any (NOBITS, 8, has none); an empty section begins in the
-- file or at its end
abbrev pub section_outside : List ℕ → ℕ → Option ElfError
section_outside bytes i =
    let s = section_at bytes i in
    if not (s.kind == 8) && nat_lt (length bytes) (s.offset + s.size) then Some (Section i) else None

unfoldable pub sections_outside : List ℕ → Option ElfError
sections_outside bytes = first_from (section_outside bytes) 0 (e_shnum bytes)

-- there is a section of this number, a string table (STRTAB, 3)
abbrev pub is_string_table : List ℕ → ℕ → Bool
is_string_table bytes i = nat_lt i (e_shnum bytes) && ((section_at bytes i).kind == 3)

-- there is a table of the section names
unfoldable pub no_names : List ℕ → Option ElfError
no_names bytes = if is_string_table bytes (e_shstrndx bytes) then None else Some (Section (e_shstrndx bytes))

-- the name of a section ends in that table
abbrev pub name_open : List ℕ → List ℕ → ℕ → Option ElfError
name_open bytes table i =
    let at = (section_at bytes i).name in
    if is_some (string_at table at) then None else Some (At at)

unfoldable pub names_open : List ℕ → Option ElfError
names_open bytes = first_from (name_open bytes (section_bytes bytes (e_shstrndx bytes))) 0 (e_shnum bytes)

-- a symbol table has whole entries of 24 bytes, and a string table
abbrev pub wrong_table : List ℕ → Option ℕ → Option ElfError
wrong_table bytes None = None
wrong_table bytes (Some i) =
    if ((section_at bytes i).size % 24 == 0) && is_string_table bytes (section_at bytes i).link
    then None
    else Some (Section i)

-- the first one is asked
unfoldable pub wrong_symbols : List ℕ → Option ElfError
wrong_symbols bytes = wrong_table bytes (first_symtab bytes)

-- the first of the errors that are there
abbrev pub first_of : List (Option ElfError) → Option ElfError
first_of [] = None
first_of (r ∷ rs) = option_or r (first_of rs)

-- the first error of a file, if it has one
unfoldable pub first_error : List ℕ → Option ElfError
first_error bytes = first_of (
    short_file bytes ∷ wrong_header bytes ∷ wrong_machine bytes ∷ short_headers bytes ∷ sections_outside bytes
    ∷ no_names bytes ∷ names_open bytes ∷ wrong_symbols bytes ∷ []
    )

-- a call failed with this error, or did not fail and there is none
abbrev pub FailsAs : {T : Type 0} → Result T ElfError → Option ElfError → Type 0
FailsAs (Ok x) error = error ≡ None
FailsAs (Err e) error = error ≡ Some e

-- the bytes of a section stand in the file
abbrev pub IsInside : List ℕ → Section' → Type 0
IsInside bytes s = s.kind ≢ 8 → s.offset + s.size ≤ length bytes

-- those of every section do
abbrev pub AllInside : List ℕ → Type 0
AllInside bytes = (i : ℕ) → i < e_shnum bytes → IsInside bytes (section_at bytes i)
