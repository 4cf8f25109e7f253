-- What holds of objects, whatever their bytes.
use Rattle.std.specs.Prelude.{ℕ, ℤ, ◌≡◌, ◌≢◌, ◌<◌, ◌≤◌, ◌==◌, if◌then◌else◌, List, [], ◌∷◌, length, slice_index, Option, Some, None, All, map as map_list}
use Rattle.std.specs.List.{list_any}
use Rattle.std.specs.Int.{w64, cast_unsigned}
use Rattle.bpf_isa.specs.declared.instruction.Insn.{Insn}
use Rattle.bpf_isa.specs.Text.{Spells, insn_at}
use Rattle.elf_view.specs.declared.object.MapRecord.{MapRecord}
use Rattle.elf_view.specs.Layout.{object_layout, object_size}
use Rattle.xdp_maps.specs.declared.decl.MapDecl.{MapDecl}
use Rattle.xdp_maps.specs.declared.decl.MapKind.{MapKind}
use Rattle.xdp_maps.specs.declared.decl.MapKind.TheVariants.{Hash, Array}
use Rattle.xdp_machine.specs.Arithmetic.{low}
use Rattle.xdp_machine.specs.Program.{IsProgram, XdpProgram}
use Rattle.xdp_object.specs.declared.error.ObjectError.{ObjectError}
use Rattle.xdp_object.specs.Choice.{Chosen, chosen}
use Rattle.xdp_object.specs.Maps.{numbered}
use Rattle.xdp_object.specs.Object.{FirstFault, IsObject}
use Rattle.xdp_object.specs.TwoUnits.{two_units}

-- Under a choice, bytes are an object of one program at most, or have one first fault, and never both.
pub record OneOutcome (choice : Chosen) (bytes : List ℕ) : Type 0 where
  pub program : (p q : XdpProgram) → IsObject choice bytes p → IsObject choice bytes q → p ≡ q
  pub fault : (e f : ObjectError) → FirstFault choice bytes e → FirstFault choice bytes f → e ≡ f
  pub apart : (p : XdpProgram) (e : ObjectError) → IsObject choice bytes p → ¬ FirstFault choice bytes e

-- a program with no maps
abbrev pub without_maps : List ℕ → List Insn → XdpProgram
without_maps name insns = record { name = name; insns = insns; decls = []; refs = [] }

-- bytes are an object of just this program, asked for by its section or by its name
pub record ReadsAs (hash_cap : ℕ) (bytes : List ℕ) (p : XdpProgram) : Type 0 where
  pub by_section : IsObject (chosen None hash_cap) bytes p
  pub by_name : IsObject (chosen (Some p.name) hash_cap) bytes p

-- The least object of a function with no maps is an object of just that function: of some code that is legal, of a name
-- with no zero byte in it, and of at most 1,048,576 bytes.
abbrev pub LayoutLaw : List ℕ → List ℕ → List Insn → Type 0
LayoutLaw name code insns =
    All (λ b. b ≢ 0) name → code ≢ [] → Spells code insns → object_size name code [] [] ≤ 1048576
    → (hash_cap : ℕ) → ReadsAs hash_cap (object_layout name code [] []) (without_maps name insns)

-- ---- programs with maps

-- BPF_MAP_TYPE_HASH and BPF_MAP_TYPE_ARRAY of linux/bpf.h
abbrev pub type_of : MapKind → ℕ
type_of Hash = 1
type_of Array = 2

-- the five numbers of a declaration: its type, the sizes of a key and of a value, how many entries there can be, no flags
abbrev pub numbers_of : MapDecl → List ℕ
numbers_of d = type_of d.kind ∷ d.key ∷ d.value ∷ d.cap ∷ 0 ∷ []

-- records of the names and the numbers of these declarations, in their order
pub record AreRecords (maps : List MapRecord) (decls : List MapDecl) : Type 0 where
  pub names : map_list (λ (m : MapRecord). m.name.now) maps ≡ map_list (λ (d : MapDecl). d.name) decls
  pub numbers : map_list (λ (m : MapRecord). m.words) maps ≡ map_list numbers_of decls

-- the number of the map that the load at a place refers to
abbrev pub map_by : Option Insn → ℕ
map_by None = 0
map_by (Some i) = low 32 (cast_unsigned w64 i.imm)

abbrev pub map_at : XdpProgram → ℕ → ℕ
map_at p place = map_by (insn_at p.insns place)

-- the references of a program: each place, and its map
abbrev pub refs_of : XdpProgram → List (ℕ × ℕ)
refs_of p = map_list (λ place. (place, map_at p place)) p.refs

-- the number of the map that a place refers to, if it refers to one
abbrev pub number_in : XdpProgram → ℕ → Option ℕ
number_in p place = if list_any (λ r. r == place) p.refs then Some (map_at p place) else None

-- Maps are numbered as they are first referred to: each is referred to, and all references before its first one are to maps of
-- smaller numbers.
abbrev pub AreNumbered : XdpProgram → Type 0
AreNumbered p =
    (n : ℕ) → n < length p.decls
    → (k : ℕ) × (k < length p.refs) × (map_at p (slice_index p.refs k) ≡ n) × ((j : ℕ) → j < k → map_at p (slice_index p.refs j) < n)

-- a program that can be written so that it is read again, if a hash may have so many keys
pub record IsWritable (hash_cap : ℕ) (p : XdpProgram) : Type 0 where
  pub program : IsProgram p
  pub name : All (λ b. b ≢ 0) p.name
  pub some : p.insns ≢ []
  pub numbered : AreNumbered p
  pub hashes : All (λ d. d.kind ≡ Hash → d.cap ≤ hash_cap) p.decls

-- The object that is written of a program is read back as this program: of code that is the program's once the numbers of its
-- maps are put in, of the records of its maps, and of its references.
abbrev pub ProgramLaw : ℕ → XdpProgram → List ℕ → List Insn → List MapRecord → Type 0
ProgramLaw hash_cap p code insns maps =
    IsWritable hash_cap p → Spells code insns → numbered (number_in p) 0 insns ≡ p.insns → AreRecords maps p.decls
    → object_size p.name code maps (refs_of p) ≤ 1048576 → ReadsAs hash_cap (object_layout p.name code maps (refs_of p)) p

-- the program's own instructions have these numbers
abbrev pub NumbersLaw : XdpProgram → Type 0
NumbersLaw p = IsProgram p → numbered (number_in p) 0 p.insns ≡ p.insns

-- an object of the program `r0 = k`, `exit` has no maps
abbrev pub TwoUnitsLaw : Chosen → List ℕ → XdpProgram → ℤ → Type 0
TwoUnitsLaw choice bytes p k = IsObject choice bytes p → p.insns ≡ two_units k → (p.decls ≡ []) × (p.refs ≡ [])
