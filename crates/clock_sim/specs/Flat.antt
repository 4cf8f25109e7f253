-- The steps of a design as they are built, and what they give in each clock.
use Rattle.std.specs.Prelude.{◌≡◌, ℕ, suc, ⊤, ◌+◌, ◌^◌, ◌<◌, ◌≤◌, Option, Some, None, List, [], ◌∷◌, ◌++◌, length, map}
use Rattle.std.proofs.Common.{get_or}
use Rattle.net_core.specs.declared.ports.TheConstants.{PORT_COUNT}
use Rattle.net_core.specs.declared.tree.Word.{Word}
use Rattle.net_core.specs.declared.tree.Net.{Net}
use Rattle.net_core.specs.declared.tree.Net.TheVariants.{Port, Register, Memory, Wire}
use Rattle.net_core.specs.declared.design.Declared.{Declared}
use Rattle.net_core.specs.Nets.{Tree, Trees, RightTree}
use Rattle.net_core.specs.Value.{Env, nothing, value, concatenated, concatenated_parts, right_value}
use Rattle.net_core.specs.Width.{Scope}
use Rattle.net_core.specs.Suits.{IsOfWidth}
use Rattle.net_core.specs.Clock.{Stored, env, memory_word_value}
use Rattle.clock_sim.specs.declared.step.Step.{Step}
use Rattle.clock_sim.specs.declared.step.Opcode.{Opcode}
use Rattle.clock_sim.specs.declared.step.Opcode.TheVariants.{Conditional}
use Rattle.clock_sim.specs.declared.builder.Operand.{Operand}
use Rattle.clock_sim.specs.declared.operands.Operands.{Operands}
use Rattle.clock_sim.specs.declared.operands.Widths.{Widths}
use Rattle.clock_sim.specs.Steps.{worked, run}
use Rattle.clock_sim.specs.Ready.{ArePorts, IsStored}

-- the steps, and of each slot the number that always stands in it, or none
pub record Flat : Type 0 where
  pub steps : List Step
  pub slots : List (Option ℕ)

-- what a clock begins with: the words at the ports, and what is stored
pub record Situation : Type 0 where
  pub ins : List Word
  pub stored : Stored

pub record IsFine (ds : List Declared) (x : Situation) : Type 0 where
  pub ports : ArePorts x.ins
  pub stored : IsStored ds x.stored

abbrev pub numbers : List Word → List ℕ
numbers ws = map (λ w. w.value) ws

abbrev pub contents_of : Stored → List (List ℕ)
contents_of s = map numbers s.memories

-- Slots as a clock finds them: the ports' numbers first, then the registers', and each constant in its slot.
pub record Starts (c : Flat) (x : Situation) (slots : List ℕ) : Type 0 where
  pub ports : (k : ℕ) → k < PORT_COUNT → get_or slots k 0 ≡ (get_or x.ins k nothing).value
  pub registers : (r : ℕ) → r < length x.stored.registers → get_or slots (PORT_COUNT + r) 0 ≡ (get_or x.stored.registers r nothing).value
  pub kept : (k n : ℕ) → get_or c.slots k None ≡ Some n → get_or slots k 0 ≡ n
  pub room : length c.slots ≤ length slots

-- after the steps the slot holds this number, in every clock
pub record Numbers (ds : List Declared) (c : Flat) (slot : ℕ) (f : Situation → ℕ) : Type 0 where
  pub there : slot < length c.slots
  pub at : (x : Situation) (slots : List ℕ) → IsFine ds x → Starts c x slots → get_or (run (contents_of x.stored) c.steps slots) slot 0 ≡ f x

-- the operand holds the number of this word, which has its width
pub record Gives (ds : List Declared) (c : Flat) (p : Operand) (f : Situation → Word) : Type 0 where
  pub number : Numbers ds c p.slot (λ x. (f x).value)
  pub fits : (x : Situation) → IsFine ds x → IsOfWidth p.width (f x)

-- ---- the form of steps
abbrev pub IsThere : Opcode → ℕ → ℕ → Type 0
IsThere Conditional number count = (number < count) × (number < 2 ^ 32)
IsThere _ number count = ⊤

-- It reads and writes slots.
pub record IsReading (count : ℕ) (s : Step) : Type 0 where
  pub left : s.a < count
  pub right : s.b < count
  pub third : IsThere s.opcode s.number count
  pub to : s.to < count

abbrev pub AreReading : ℕ → List Step → Type 0
AreReading count [] = ⊤
AreReading count (s ∷ rest) = IsReading count s × AreReading count rest

-- no step writes a slot in which a constant stands
abbrev pub AreFree : List (Option ℕ) → List Step → Type 0
AreFree slots [] = ⊤
AreFree slots (s ∷ rest) = (get_or slots s.to None ≡ None) × AreFree slots rest

-- a step writes a slot from a number on, after those that it reads
pub record IsBehind (n : ℕ) (s : Step) : Type 0 where
  pub from : n ≤ s.to
  pub left : s.a < s.to
  pub right : s.b < s.to
  pub third : IsThere s.opcode s.number s.to

-- each step writes a slot after those that it reads and those that earlier steps write
abbrev pub Climb : ℕ → List Step → Type 0
Climb n [] = ⊤
Climb n (s ∷ rest) = IsBehind n s × Climb (suc s.to) rest

pub record IsConsistent (c : Flat) : Type 0 where
  pub climb : Climb 0 c.steps
  pub reading : AreReading (length c.slots) c.steps
  pub free : AreFree c.slots c.steps

-- they write slots from a number on
abbrev pub WriteFrom : ℕ → List Step → Type 0
WriteFrom n [] = ⊤
WriteFrom n (s ∷ rest) = (n ≤ s.to) × WriteFrom n rest

-- more steps, which write slots of their own
pub record Extends (old new : Flat) : Type 0 where
  pub more : List Step
  pub fresh : List (Option ℕ)
  pub steps : new.steps ≡ old.steps ++ more
  pub slots : new.slots ≡ old.slots ++ fresh
  pub own : WriteFrom (length old.slots) more
  pub grows : length old.slots ≤ length new.slots

-- more steps, and a slot
pub record Adds (old new : Flat) (slot : ℕ) : Type 0 where
  pub extends : Extends old new
  pub there : slot < length new.slots

-- what one more step gives, at its slot
pub record Works (opcode : Opcode) (a b shift number : ℕ) (old new : Flat) (to : ℕ) : Type 0 where
  pub gives :
      (ds : List Declared) (f : Situation → ℕ)
      → ((x : Situation) (slots : List ℕ) → IsFine ds x → Starts old x slots → worked opcode (contents_of x.stored) (run (contents_of x.stored) old.steps slots) number shift (get_or (run (contents_of x.stored) old.steps slots) a 0) (get_or (run (contents_of x.stored) old.steps slots) b 0) ≡ f x)
      → Numbers ds new to f

-- a number that always stands at the slot
pub record Holds (c : Flat) (slot n : ℕ) : Type 0 where
  pub gives : (ds : List Declared) → Numbers ds c slot (λ x. n)

-- what gives a word made of one, of two, of three
pub record MakesOne (old new : Flat) (a p : Operand) (f : Word → Word) : Type 0 where
  pub gives : (ds : List Declared) (u : Situation → Word) → Gives ds old a u → Gives ds new p (λ x. f (u x))

pub record MakesTwo (old new : Flat) (a b p : Operand) (f : Word → Word → Word) : Type 0 where
  pub gives : (ds : List Declared) (u v : Situation → Word) → Gives ds old a u → Gives ds old b v → Gives ds new p (λ x. f (u x) (v x))

pub record MakesThree (old new : Flat) (a b c p : Operand) (f : Word → Word → Word → Word) : Type 0 where
  pub gives : (ds : List Declared) (u v w : Situation → Word) → Gives ds old a u → Gives ds old b v → Gives ds old c w → Gives ds new p (λ x. f (u x) (v x) (w x))

-- ---- nets
abbrev pub no_operand : Operand
no_operand = record { slot = 0; width = 0 }

abbrev pub operand_in : Operands → Net → Operand
operand_in n (Port k) = get_or n.ports.items k no_operand
operand_in n (Register k) = get_or n.registers.items k no_operand
operand_in n (Memory k) = no_operand
operand_in n (Wire k) = get_or n.wires.items k no_operand

abbrev pub no_widths : Widths
no_widths = record { index = 0; word = 0 }

abbrev pub widths_in : Operands → Net → Widths
widths_in n (Port k) = no_widths
widths_in n (Register k) = no_widths
widths_in n (Memory k) = get_or n.memories.items k no_widths
widths_in n (Wire k) = no_widths

-- what can be read
abbrev pub scope_of : Operands → Scope Net
scope_of n = record { net = λ k. (operand_in n k).width; memory_word = λ m. (widths_in n m).word; index = λ m. (widths_in n m).index }

-- each operand of a net is a slot
pub record AreOperands (n : Operands) (count : ℕ) : Type 0 where
  pub there : (k : Net) → 0 < (operand_in n k).width → (operand_in n k).slot < count

-- the values of a clock's nets where wires have these words
abbrev pub env_at : (Situation → List Word) → Situation → Env Net
env_at wires x = env x.ins x.stored (wires x)

-- the words of memories have their widths
pub record AreCells (ds : List Declared) (n : Operands) : Type 0 where
  pub fit : (m : Net) (a : ℕ) (x : Situation) → IsFine ds x → 0 < (widths_in n m).word → a < 2 ^ (widths_in n m).index → IsOfWidth (widths_in n m).word (memory_word_value x.stored m a)

-- the operands of nets hold their words, in every clock
pub record Knows (ds : List Declared) (c : Flat) (n : Operands) (wires : Situation → List Word) : Type 0 where
  pub net : (k : Net) → 0 < (operand_in n k).width → Gives ds c (operand_in n k) (λ x. (env_at wires x).net k)
  pub cells : AreCells ds n

-- what gives a memory's word at an index
pub record Fetches (old new : Flat) (n : Operands) (memory : Net) (at p : Operand) : Type 0 where
  pub gives : (ds : List Declared) (u : Situation → Word) → AreCells ds n → Gives ds old at u → Gives ds new p (λ x. memory_word_value x.stored memory (u x).value)

-- what gives the value of a tree, of parts, of a right side
pub record Values (old new : Flat) (n : Operands) (e : Tree Net) (p : Operand) : Type 0 where
  pub gives : (ds : List Declared) (wires : Situation → List Word) → Knows ds old n wires → Gives ds new p (λ x. value (env_at wires x) e)

pub record PartValues (old new : Flat) (n : Operands) (ps : Trees Net) (p : Operand) : Type 0 where
  pub gives : (ds : List Declared) (wires : Situation → List Word) → Knows ds old n wires → Gives ds new p (λ x. concatenated_parts (env_at wires x) ps)

-- what gives a word before parts
pub record Joins (old new : Flat) (n : Operands) (first : Operand) (ps : Trees Net) (p : Operand) : Type 0 where
  pub gives : (ds : List Declared) (wires : Situation → List Word) (u : Situation → Word) → Knows ds old n wires → Gives ds old first u → Gives ds new p (λ x. concatenated (u x) (concatenated_parts (env_at wires x) ps))

pub record RightValues (old new : Flat) (n : Operands) (r : RightTree Net) (p : Operand) : Type 0 where
  pub gives : (ds : List Declared) (wires : Situation → List Word) → Knows ds old n wires → Gives ds new p (λ x. right_value (env_at wires x) r)
