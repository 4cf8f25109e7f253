-- In which order steps may be run, and how they stand in groups.
use Rattle.std.specs.Prelude.{◌≡◌, ℕ, ⊤, ◌+◌, ◌*◌, ◌<◌, ◌≤◌, Option, List, [], ◌∷◌, ◌++◌, length, map, max, replicate}
use Rattle.std.proofs.Common.{get_or}
use Rattle.clock_sim.specs.declared.step.Step.{Step}
use Rattle.clock_sim.specs.declared.step.Opcode.{Opcode}
use Rattle.clock_sim.specs.declared.step.Opcode.TheVariants as opcode
use Rattle.clock_sim.specs.declared.step.Group.{Group}
use Rattle.clock_sim.specs.Steps.{run}
use Rattle.clock_sim.specs.Flat.{AreReading, AreFree, WriteFrom}

-- ---- groups
-- steps of one kind
abbrev pub AreOf : Opcode → List Step → Type 0
AreOf w [] = ⊤
AreOf w (s ∷ rest) = (s.opcode ≡ w) × AreOf w rest

abbrev pub opcodes_in : List Step → List Opcode
opcodes_in steps = map (λ s. s.opcode) steps

abbrev pub opcodes_of : List Group → List Opcode
opcodes_of [] = []
opcodes_of (g ∷ rest) = replicate g.count g.opcode ++ opcodes_of rest

-- the steps stand in these groups
abbrev pub AreGroups : List Group → List Step → Type 0
AreGroups groups steps = opcodes_of groups ≡ opcodes_in steps

-- ---- orders
-- what holds of a third operand
abbrev pub OfThird : Opcode → Type 0 → Type 0
OfThird opcode.Conditional P = P
OfThird _ P = ⊤

-- one more than the depths of what a step reads
abbrev pub third_depth : Opcode → List ℕ → ℕ → ℕ
third_depth opcode.Conditional depths n = get_or depths n 0
third_depth _ depths n = 0

abbrev pub depth_of : List ℕ → Step → ℕ
depth_of depths s = max (max (get_or depths s.a 0) (get_or depths s.b 0)) (third_depth s.opcode depths s.number) + 1

-- how deep the word of each slot lies: a step's word lies deeper than those that it reads
pub record IsDeeper (depths : List ℕ) (s : Step) : Type 0 where
  pub left : get_or depths s.a 0 < get_or depths s.to 0
  pub right : get_or depths s.b 0 < get_or depths s.to 0
  pub third : OfThird s.opcode (get_or depths s.number 0 < get_or depths s.to 0)

abbrev pub AreDepths : List ℕ → List Step → Type 0
AreDepths depths [] = ⊤
AreDepths depths (s ∷ rest) = IsDeeper depths s × AreDepths depths rest

abbrev pub kind : Opcode → ℕ
kind opcode.Add = 0
kind opcode.Subtract = 1
kind opcode.Multiply = 2
kind opcode.And = 3
kind opcode.Or = 4
kind opcode.Xor = 5
kind opcode.ShiftLeft = 6
kind opcode.ShiftRight = 7
kind opcode.Equal = 8
kind opcode.NotEqual = 9
kind opcode.Less = 10
kind opcode.LessEqual = 11
kind opcode.Complement = 12
kind opcode.ReduceOr = 13
kind opcode.PartSelect = 14
kind opcode.Concatenation = 15
kind opcode.Conditional = 16
kind opcode.Fetch = 17
kind opcode.Quotient = 18
kind opcode.Remainder = 19

abbrev pub rank : List ℕ → Step → ℕ
rank depths s = get_or depths s.to 0 * 32 + kind s.opcode

-- the same steps, in an order that gives the same
pub record Reordered (count : ℕ) (old new : List Step) : Type 0 where
  pub reading : AreReading count new
  pub free : (slots : List (Option ℕ)) → AreFree slots old → AreFree slots new
  pub own : (n : ℕ) → WriteFrom n old → WriteFrom n new
  pub same : (contents : List (List ℕ)) (slots : List ℕ) → count ≤ length slots → run contents new slots ≡ run contents old slots
