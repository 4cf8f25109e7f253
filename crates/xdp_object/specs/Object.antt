-- Which bytes are an object, and of which program; for the others, the first fault.
use Rattle.std.specs.Prelude.{ℕ, ◌+◌, ◌%◌, ◌==◌, ◌≡◌, nat_lt, is_some, ◌&&◌, if◌then◌else◌, List, [], ◌∷◌, length, slice_index, Option, Some, None, Result, Ok, Err, map as map_list}
use Rattle.std.specs.Option.{option_map, option_or}
use Rattle.bpf_isa.specs.declared.instruction.Insn.{Insn}
use Rattle.bpf_isa.specs.Text.{FirstBad, Spells}
use Rattle.elf_view.specs.declared.error.ElfError.TheVariants.{At, Section}
use Rattle.elf_view.specs.declared.parts.Symbol.{Symbol}
use Rattle.elf_view.specs.File.{section_bytes}
use Rattle.elf_view.specs.Rules.{first_error}
use Rattle.xdp_object.specs.declared.error.ObjectError.{ObjectError}
use Rattle.xdp_object.specs.declared.error.ObjectError.TheVariants.{Elf, NoProgram, ManyPrograms, Odd, Bad, Long}
use Rattle.xdp_object.specs.Choice.{Chosen}
use Rattle.xdp_object.specs.Functions.{function_code, programs, symbol_name, symbol_of}
use Rattle.xdp_object.specs.Relocations.{Reference, cut_tables, first_unknown, places_of, rela_tables, references}
use Rattle.xdp_object.specs.Maps.{MapTable, all_referred, no_maps, with_numbers}
use Rattle.xdp_machine.specs.Program.{XdpProgram}

-- ---- the rules, in their order

-- an object has at most 1,048,576 bytes
unfoldable pub too_long : List ℕ → Option ObjectError
too_long bytes = if nat_lt 1048576 (length bytes) then Some Long else None

-- it is an ELF64 object for eBPF
unfoldable pub wrong_elf : List ℕ → Option ObjectError
wrong_elf bytes = option_map (λ e. Elf e) (first_error bytes)

-- exactly one function is asked for
abbrev pub wrong_count : List ℕ → Option ObjectError
wrong_count [] = Some NoProgram
wrong_count (n ∷ []) = None
wrong_count (n ∷ m ∷ more) = Some (ManyPrograms (length (n ∷ m ∷ more)))

-- the function's name ends in its table
unfoldable pub open_name : List ℕ → ℕ → Option ObjectError
open_name bytes n = if is_some (symbol_name bytes n) then None else Some (Elf (At (symbol_of bytes n).name))

-- the function stands in its section
unfoldable pub outside : List ℕ → Symbol → Option ObjectError
outside bytes s =
    if nat_lt (length (section_bytes bytes s.section)) (s.value + s.size) then Some (Elf (Section s.section)) else None

-- it is made of whole units of 8 bytes
unfoldable pub odd_units : Symbol → Option ObjectError
odd_units s = if (s.value % 8 == 0) && (s.size % 8 == 0) then None else Some Odd

-- the first fault of those that are there
abbrev pub first_fault : List (Option ObjectError) → Option ObjectError
first_fault [] = None
first_fault (r ∷ rs) = option_or r (first_fault rs)

-- the number of the symbol of the program's function
abbrev pub program_symbol : Chosen → List ℕ → ℕ
program_symbol choice bytes = slice_index (programs choice.program bytes) 0

-- the rules on symbol n
unfoldable pub wrong_function : List ℕ → ℕ → Option ObjectError
wrong_function bytes n =
    let s = symbol_of bytes n in first_fault (open_name bytes n ∷ outside bytes s ∷ odd_units s ∷ [])

-- the rules up to the function's code
unfoldable pub fault_before_code : Chosen → List ℕ → Option ObjectError
fault_before_code choice bytes =
    first_fault (
    too_long bytes ∷ wrong_elf bytes ∷ wrong_count (programs choice.program bytes)
    ∷ wrong_function bytes (program_symbol choice bytes) ∷ []
    )

-- the rules on the relocations of a function of these instructions
unfoldable pub relocation_fault : List ℕ → Symbol → List Insn → Option ObjectError
relocation_fault bytes s insns =
    first_fault (cut_tables bytes s.section ∷ rela_tables bytes s.section ∷ first_unknown (places_of bytes s) insns ∷ [])

-- the maps that a function refers to, or the first fault of one
unfoldable pub maps_of : (hash_cap : ℕ) → List ℕ → Symbol → Result MapTable ObjectError
maps_of hash_cap bytes s = all_referred hash_cap bytes no_maps (references (places_of bytes s))

-- ---- programs and faults

-- the symbol of the program's function
abbrev pub function_of : Chosen → List ℕ → Symbol
function_of choice bytes = symbol_of bytes (program_symbol choice bytes)

-- the rules up to the maps, for a function of these instructions
pub record HasNoFault (choice : Chosen) (bytes : List ℕ) (insns : List Insn) : Type 0 where
  pub function : fault_before_code choice bytes ≡ None
  pub code : Spells (function_code bytes (function_of choice bytes)) insns
  pub relocations : relocation_fault bytes (function_of choice bytes) insns ≡ None

-- The bytes are, under this choice, an object of this program.
pub record IsObject (choice : Chosen) (bytes : List ℕ) (p : XdpProgram) : Type 0 where
  pub insns : List Insn
  pub no_fault : HasNoFault choice bytes insns
  pub maps : MapTable
  pub has_maps : maps_of choice.hash_cap bytes (function_of choice bytes) ≡ Ok maps
  pub name : symbol_name bytes (program_symbol choice bytes) ≡ Some p.name
  pub insns_are : p.insns ≡ with_numbers (places_of bytes (function_of choice bytes)) maps.symbols insns
  pub decls_are : p.decls ≡ maps.decls
  pub refs_are : p.refs ≡ map_list (λ (r : Reference). r.place) (references (places_of bytes (function_of choice bytes)))

-- They are none, and this is their first fault.
pub data FirstFault (choice : Chosen) (bytes : List ℕ) (e : ObjectError) : Type 0 where
  BeforeCode : fault_before_code choice bytes ≡ Some e → FirstFault choice bytes e
  -- the first unit where an instruction has to begin and none does
  InCode : fault_before_code choice bytes ≡ None → (at : ℕ) → FirstBad (function_code bytes (function_of choice bytes)) at → e ≡ Bad at → FirstFault choice bytes e
  InRelocations : fault_before_code choice bytes ≡ None → (insns : List Insn) → Spells (function_code bytes (function_of choice bytes)) insns → relocation_fault bytes (function_of choice bytes) insns ≡ Some e → FirstFault choice bytes e
  InMaps : (insns : List Insn) → HasNoFault choice bytes insns → maps_of choice.hash_cap bytes (function_of choice bytes) ≡ Err e → FirstFault choice bytes e

-- ---- calls

-- a call failed with this fault, or did not fail and there is none
abbrev pub FailsAs : {T : Type 0} → Result T ObjectError → Option ObjectError → Type 0
FailsAs (Ok x) fault = fault ≡ None
FailsAs (Err e) fault = fault ≡ Some e
