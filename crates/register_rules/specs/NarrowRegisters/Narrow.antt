-- A design whose registers and wires lose high bits that are always 0, and in which a register of one or two words is one bit.
use Rattle.std.specs.Prelude.{◌≡◌, ℕ, ◌+◌, List, [], ◌∷◌, ◌++◌, length}
use Rattle.std.proofs.Common.{get_or}
use Rattle.net_core.specs.declared.tree.Word.{Word}
use Rattle.net_core.specs.declared.tree.Net.{Net}
use Rattle.net_core.specs.declared.tree.Net.TheVariants.{Port, Register, Memory, Wire}
use Rattle.net_core.specs.declared.design.Declared.{Declared}
use Rattle.net_core.specs.declared.design.Declared.TheVariants as declared
use Rattle.net_core.specs.Nets.{Tree, RightTree, StatementTree, WireTree, AssignTree}
use Rattle.net_core.specs.Value.{word, nothing, conditional, Env, value, right_value, stops}
use Rattle.net_core.specs.Clock.{Stored, done}
use Rattle.register_rules.specs.declared.narrow_registers.codes.Code.{Code}
use Rattle.register_rules.specs.declared.narrow_registers.codes.Code.TheVariants.{Zeros, Choice}
use Rattle.register_rules.specs.declared.narrow_registers.codes.Codes.{Codes}

-- a word after so many zeros
abbrev pub widened : ℕ → Word → Word
widened z w = word (z + w.width) w.value

-- the word that a narrower one stands for: this one after so many zeros, or the second of two words where this one is not 0, else the first
abbrev pub decoded : Code → Word → Word
decoded (Zeros z) w = widened z w
decoded (Choice a b) w = conditional w b a

-- the codes of registers, and how many high bits each wire loses
pub record Coding : Type 0 where
  pub registers : List Code
  pub wires : List ℕ

abbrev pub coding_of : Codes → Coding
coding_of c = record { registers = c.registers.items; wires = c.wires.items }

abbrev pub code_of : Coding → Net → Code
code_of codes (Port i) = Zeros 0
code_of codes (Register i) = get_or codes.registers i (Zeros 0)
code_of codes (Memory i) = Zeros 0
code_of codes (Wire i) = Zeros (get_or codes.wires i 0)

-- the values of the nets of a design, and of the one whose nets have these codes
pub record AreNarrowed (codes : Coding) (v t : Env Net) : Type 0 where
  pub net : (n : Net) → v.net n ≡ decoded (code_of codes n) (t.net n)
  pub memory_word : (m : Net) (a : ℕ) → v.memory_word m a ≡ t.memory_word m a

-- words, and those that stand for them by these codes
pub record AreNarrowedWords (codes : List Code) (ws us : List Word) : Type 0 where
  pub count : length ws ≡ length us
  pub words : (k : ℕ) → get_or ws k nothing ≡ decoded (get_or codes k (Zeros 0)) (get_or us k nothing)

-- what the two designs store, where registers have these codes
pub record IsNarrowed (codes : List Code) (s t : Stored) : Type 0 where
  pub registers : AreNarrowedWords codes s.registers t.registers
  pub memories : s.memories ≡ t.memories

-- what is declared, where a register has this code
abbrev pub IsNarrowedItem : Code → Declared → Declared → Type 0
IsNarrowedItem c declared.Integer d = d ≡ declared.Integer
IsNarrowedItem c (declared.Register w) d = (u : Word) × (d ≡ declared.Register u) × (w ≡ decoded c u)
IsNarrowedItem c (declared.Memory i w n) d = d ≡ declared.Memory i w n

-- a right side that loses so many bits, and stops the clock where the first one does, whichever bits wires lose
pub record IsNarrowedRight (codes : Coding) (z : ℕ) (a b : RightTree Net) : Type 0 where
  pub value : (v t : Env Net) → AreNarrowed codes v t → right_value v a ≡ widened z (right_value t b)
  pub stops : (any : List ℕ) (v t : Env Net) → AreNarrowed (record codes { wires = any }) v t → stops v a ≡ stops t b

-- Wires that lose these bits: each reads the wires before it, of which those before these lose the first ones.
abbrev pub AreNarrowedWires : List Code → List ℕ → List ℕ → List WireTree → List WireTree → Type 0
AreNarrowedWires registers before [] [] [] = Unit {0}
AreNarrowedWires registers before (z ∷ zs) (a ∷ rest) (b ∷ more) =
    IsNarrowedRight (record { registers = registers; wires = before }) z a.right b.right × AreNarrowedWires registers (before ++ z ∷ []) zs rest more
AreNarrowedWires registers before _ _ _ = ⊥

-- an expression of the second design has the value of one of the first
abbrev pub IsSameValue : Coding → Tree Net → Tree Net → Type 0
IsSameValue codes a b = (v t : Env Net) → AreNarrowed codes v t → value v a ≡ value t b

-- so it is with what an output shows
abbrev pub IsSameAssign : Coding → AssignTree → AssignTree → Type 0
IsSameAssign codes a b = (a.port ≡ b.port) × IsSameValue codes a.value b.value

-- and with what a statement stores
abbrev pub StoreTheSame : Coding → (Env Net → Stored → Stored) → (Env Net → Stored → Stored) → Type 0
StoreTheSame codes f g = (v t : Env Net) → AreNarrowed codes v t → (r s : Stored) → IsNarrowed codes.registers r s → IsNarrowed codes.registers (f v r) (g t s)

abbrev pub IsSameStatement : Coding → StatementTree Net → StatementTree Net → Type 0
IsSameStatement codes a b = StoreTheSame codes (λ v s. done v a s) (λ v s. done v b s)

-- of two lists, one by one
abbrev pub Each : {A : Type 0} → (A → A → Type 0) → List A → List A → Type 0
Each R [] [] = Unit {0}
Each R [] (b ∷ more) = ⊥
Each R (a ∷ rest) [] = ⊥
Each R (a ∷ rest) (b ∷ more) = R a b × Each R rest more
