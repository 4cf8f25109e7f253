-- Programs.
use Rattle.std.specs.Prelude.{ℕ, ◌≡◌, ◌≢◌, ◌<◌, ◌≤◌, ◌^◌, ◌==◌, ◌||◌, Bool, List, length, All, IsTrue, Some}
use Rattle.std.specs.Char.{is_ascii_alphanumeric}
use Rattle.std.specs.Int.{w64, cast_unsigned}
use Rattle.std.specs.List.{AllPairs}
use Rattle.std.specs.List.Sorted.{IsStrictlyIncreasing}
use Rattle.bpf_isa.specs.declared.operation.Op.TheVariants.{LoadImm}
use Rattle.bpf_isa.specs.declared.instruction.Insn.{Insn}
use Rattle.bpf_isa.specs.Spelling.{IsInsn}
use Rattle.bpf_isa.specs.Text.{insn_at, unit_count}
use Rattle.xdp_maps.specs.declared.decl.MapDecl.{MapDecl}
use Rattle.xdp_maps.specs.Contents.{IsWithinLimits}
use Rattle.xdp_machine.specs.State.{Code}
use Rattle.xdp_machine.specs.Arithmetic.{low}

-- a program: the bytes of its name, its instructions, its maps by their numbers, and the places that refer to a map
pub record XdpProgram : Type 0 where
  pub name : List ℕ
  pub insns : List Insn
  pub decls : List MapDecl
  pub refs : List ℕ

-- what of it is run
abbrev pub program_code : XdpProgram → Code
program_code p = record { insns = p.insns; refs = p.refs }

-- the name of a map has 1 to 63 letters, digits, `_` and `.`
abbrev pub is_name_byte : ℕ → Bool
is_name_byte b = is_ascii_alphanumeric b || (b == 95) || (b == 46)

pub record IsMapName (name : List ℕ) : Type 0 where
  pub some : 0 < length name
  pub short : length name ≤ 63
  pub letters : All (λ b. IsTrue (is_name_byte b)) name

pub record IsDeclaration (d : MapDecl) : Type 0 where
  pub limits : IsWithinLimits d
  pub name : IsMapName d.name

-- an instruction at a place refers to one of so many maps: it is the load of a number of 64 bits (0x18) with source 0, and its
-- low half is the map's number
pub record IsReference (insns : List Insn) (maps place : ℕ) : Type 0 where
  pub insn : Insn
  pub begins : insn_at insns place ≡ Some insn
  pub load : insn.op ≡ LoadImm
  pub source : insn.src ≡ 0
  pub map : low 32 (cast_unsigned w64 insn.imm) < maps

-- The parts make up a program: legal instructions, whose places are numbers of 32 bits; at most 16 maps, of different names;
-- and references to them, ascending.
pub record IsProgram (p : XdpProgram) : Type 0 where
  pub legal : All IsInsn p.insns
  pub few : unit_count p.insns < 2 ^ 32
  pub maps : length p.decls ≤ 16
  pub decls : All IsDeclaration p.decls
  pub names : AllPairs (λ d e. d.name ≢ e.name) p.decls
  pub refs : All (IsReference p.insns (length p.decls)) p.refs
  pub ascending : IsStrictlyIncreasing p.refs
