-- A text of instructions, one after the other, and the places of its instructions.
use Rattle.std.specs.Prelude.{ℕ, zero, suc, ◌≡◌, ◌+◌, ◌-◌, ◌*◌, ◌<◌, List, [], ◌∷◌, ◌++◌, length, take, All, Option, Some, None, nat_lt, if◌then◌else◌}
use Rattle.bpf_isa.specs.declared.instruction.Insn.{Insn}
use Rattle.bpf_isa.specs.Spelling.{spelling, units_of, IsInsn, StandsAt}

-- the bytes of instructions, one after the other
abbrev pub text_of : List Insn → List ℕ
text_of [] = []
text_of (i ∷ is) = spelling i ++ text_of is

-- how many units instructions have
abbrev pub unit_count : List Insn → ℕ
unit_count [] = 0
unit_count (i ∷ is) = units_of i.op + unit_count is

-- the instruction that begins at a place, if one does
abbrev pub insn_at : List Insn → ℕ → Option Insn
insn_at [] place = None
insn_at (i ∷ is) zero = Some i
insn_at (i ∷ is) (suc n) = if nat_lt (suc n) (units_of i.op) then None else insn_at is (suc n - units_of i.op)

-- these instructions of the table are the whole text, unit by unit
pub record Spells (code : List ℕ) (is : List Insn) : Type 0 where
  pub legal : All IsInsn is
  pub bytes : code ≡ text_of is

-- unit `at` is the first of a text where an instruction has to begin and none does
pub record FirstBad (code : List ℕ) (at : ℕ) : Type 0 where
  pub before : (is : List Insn) × Spells (take (8 * at) code) is
  pub inside : 8 * at < length code
  pub none : (i : Insn) → ¬ StandsAt code at i
