-- The maps of a function: they are numbered as they are first referred to, and each has its declaration.
use Rattle.std.specs.Prelude.{ℕ, ◌≡◌, ◌≢◌, ◌<◌, ◌≤◌, ◌+◌, ◌-◌, ◌*◌, ◌/◌, ◌^◌, ◌==◌, nat_lt, nat_le, Bool, not, ◌&&◌, if◌then◌else◌, List, [], ◌∷◌, ◌++◌, length, codes, position, slice_index_or, All, Option, Some, None, Result, Ok, Err}
use Rattle.std.specs.List.{AllPairs, list_all, list_any}
use Rattle.std.specs.Str.{bytes_eq}
use Rattle.std.specs.Int.{w64, cast_signed, cast_unsigned}
use Rattle.bpf_isa.specs.declared.instruction.Insn.{Insn}
use Rattle.bpf_isa.specs.Spelling.{units_of}
use Rattle.btf_view.specs.declared.fields.MapFields.{MapFields}
use Rattle.elf_view.specs.File.{e_shnum, section_bytes}
use Rattle.xdp_object.specs.declared.map_records.fault.MapFault.{MapFault}
use Rattle.xdp_object.specs.declared.map_records.fault.MapFault.TheVariants.{Rule, Btf as BtfFault}
use Rattle.xdp_object.specs.declared.map_records.fault.MapRule.{MapRule}
use Rattle.xdp_object.specs.declared.map_records.fault.MapRule.TheVariants.{Many, Name}
use Rattle.xdp_object.specs.MapRecords.Declarations.{declared}
use Rattle.xdp_object.specs.MapRecords.Records.{record_fields}
use Rattle.xdp_object.specs.MapRecords.Variables.{variable_fields}
use Rattle.xdp_maps.specs.declared.decl.MapDecl.{MapDecl}
use Rattle.xdp_machine.specs.Program.{IsDeclaration, is_name_byte}
use Rattle.xdp_object.specs.declared.error.ObjectError.{ObjectError}
use Rattle.xdp_object.specs.declared.error.ObjectError.TheVariants.{Map, Btf}
use Rattle.xdp_object.specs.declared.relocated.Relocated.{Relocated}
use Rattle.xdp_object.specs.declared.relocated.Relocated.TheVariants.{Refers}
use Rattle.xdp_object.specs.Functions.{symbol_name, symbol_of}
use Rattle.xdp_object.specs.Relocations.{Reference, has_name, references_from, said_at}
use Rattle.elf_view.specs.list_laws.Firsts.{first_from}

-- ---- the declaration of a map

-- the bytes of the first section named `.BTF`, none without one
abbrev pub btf_section : List ℕ → ℕ → Option ℕ
btf_section bytes i = if has_name bytes i (codes ".BTF") then Some i else None

abbrev pub btf_by : List ℕ → Option ℕ → List ℕ
btf_by bytes None = []
btf_by bytes (Some i) = section_bytes bytes i

unfoldable pub btf_bytes : List ℕ → List ℕ
btf_bytes bytes = btf_by bytes (first_from (btf_section bytes) 0 (e_shnum bytes))

-- what a rule, or the type information, says of the map of a symbol
abbrev pub error_of : ℕ → MapFault → ObjectError
error_of symbol (Rule rule) = Map symbol rule
error_of symbol (BtfFault error) = Btf error

abbrev pub by_rule : {T : Type 0} → ℕ → Result T MapRule → Result T ObjectError
by_rule symbol (Ok x) = Ok x
by_rule symbol (Err rule) = Err (Map symbol rule)

abbrev pub by_fault : {T : Type 0} → ℕ → Result T MapFault → Result T ObjectError
by_fault symbol (Ok x) = Ok x
by_fault symbol (Err fault) = Err (error_of symbol fault)

-- the numbers that the object says of the map of symbol n, of this name
unfoldable pub map_numbers : List ℕ → ℕ → List ℕ → Result MapFields ObjectError
map_numbers bytes n name =
    let s = symbol_of bytes n in
    if has_name bytes s.section (codes "maps") then by_rule n (record_fields (section_bytes bytes s.section) s.value s.size)
    else by_fault n (variable_fields (btf_bytes bytes) name)

-- a name has 1 to 63 letters, digits, `_` and `.`, and is that of no map before
abbrev pub is_map_name : List ℕ → Bool
is_map_name name = nat_lt 0 (length name) && nat_le (length name) 63 && list_all is_name_byte name

abbrev pub is_taken : List MapDecl → List ℕ → Bool
is_taken decls name = list_any (λ d. bytes_eq d.name name) decls

-- a name is that of one of these declarations
abbrev pub IsNameIn : List MapDecl → List ℕ → Type 0
IsNameIn decls name = (k : ℕ) × (k < length decls) × ((d : MapDecl) → (slice_index_or decls k d).name ≡ name)

abbrev pub declared_by : ℕ → ℕ → List ℕ → Result MapFields ObjectError → Result MapDecl ObjectError
declared_by hash_cap n name (Ok fields) = by_rule n (declared hash_cap name fields)
declared_by hash_cap n name (Err error) = Err error

abbrev pub named_map : ℕ → List ℕ → List MapDecl → ℕ → Option (List ℕ) → Result MapDecl ObjectError
named_map hash_cap bytes before n None = Err (Map n Name)
named_map hash_cap bytes before n (Some name) =
    if is_map_name name && not (is_taken before name) then declared_by hash_cap n name (map_numbers bytes n name)
    else Err (Map n Name)

-- the declaration of the map of symbol n, after those before it
unfoldable pub next_map : ℕ → List ℕ → List MapDecl → ℕ → Result MapDecl ObjectError
next_map hash_cap bytes before n =
    if nat_le 16 (length before) then Err (Map n Many) else named_map hash_cap bytes before n (symbol_name bytes n)

-- ---- all maps of a function

-- the maps by their numbers: the symbol and the declaration of each
pub record MapTable : Type 0 where
  pub symbols : List ℕ
  pub decls : List MapDecl

-- they can be maps of a program
pub record AreMaps (t : MapTable) : Type 0 where
  pub beside : length t.symbols ≡ length t.decls
  pub few : length t.decls ≤ 16
  pub decls : All IsDeclaration t.decls
  pub names : AllPairs (λ d e. d.name ≢ e.name) t.decls

abbrev pub with_map : MapTable → ℕ → Result MapDecl ObjectError → Result MapTable ObjectError
with_map t n (Ok d) = Ok (record { symbols = t.symbols ++ n ∷ []; decls = t.decls ++ d ∷ [] })
with_map t n (Err error) = Err error

-- the maps once symbol n is referred to
unfoldable pub referred : ℕ → List ℕ → MapTable → ℕ → Result MapTable ObjectError
referred hash_cap bytes t n =
    if list_any (λ m. m == n) t.symbols then Ok t else with_map t n (next_map hash_cap bytes t.decls n)

abbrev pub carried : Result MapTable ObjectError → (MapTable → Result MapTable ObjectError) → Result MapTable ObjectError
carried (Ok t) rest = rest t
carried (Err error) rest = Err error

-- the maps once all of these refer to theirs, in their order
abbrev pub all_referred : ℕ → List ℕ → MapTable → List Reference → Result MapTable ObjectError
all_referred hash_cap bytes t [] = Ok t
all_referred hash_cap bytes t (r ∷ rs) = carried (referred hash_cap bytes t r.symbol) (λ u. all_referred hash_cap bytes u rs)

-- those of a list of what is said of each place, from place i on
abbrev pub all_in_places : ℕ → List ℕ → MapTable → List Relocated → ℕ → Result MapTable ObjectError
all_in_places hash_cap bytes t places i =
    all_referred hash_cap bytes t (references_from places i (length places - i))

abbrev pub no_maps : MapTable
no_maps = record { symbols = []; decls = [] }

-- ---- instructions with the numbers of their maps

-- the number of the map that a place refers to
abbrev pub map_number : List ℕ → Relocated → Option ℕ
map_number symbols (Refers symbol) = position (λ m. m == symbol) symbols
map_number symbols _ = None

-- the number of an instruction with this low half
abbrev pub with_low : Option ℕ → Insn → Insn
with_low None i = i
with_low (Some n) i = record i { imm = cast_signed w64 (cast_unsigned w64 i.imm / 2 ^ 32 * 2 ^ 32 + n) }

-- instructions from a place on, where number p is the number of the map that place p refers to
abbrev pub numbered : (ℕ → Option ℕ) → ℕ → List Insn → List Insn
numbered number at [] = []
numbered number at (i ∷ is) = with_low (number at) i ∷ numbered number (at + units_of i.op) is

-- instructions whose places refer to maps of these symbols
abbrev pub with_numbers : List Relocated → (symbols : List ℕ) → List Insn → List Insn
with_numbers places symbols insns = numbered (λ p. map_number symbols (said_at places p)) 0 insns
