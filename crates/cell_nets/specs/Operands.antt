-- What stands for cells in expressions, and when it stands for them.
use Rattle.std.specs.Prelude.{◌≡◌, ℕ, ◌+◌, ◌^◌, ◌<◌, ◌≤◌, List, Contains}
use Rattle.std.proofs.Common.{◌⊎◌}
use Rattle.net_core.specs.Value.{Env}
use Rattle.net_core.specs.Width.{Scope}
use Rattle.cell_nets.specs.declared.operand.Operand.{Operand}
use Rattle.cell_nets.specs.declared.operand.Operand.TheVariants.{Known, Net, Part}
use Rattle.cell_core.specs.Cells.{bits_from}

-- the number that an operand stands for, where nets have these values
abbrev pub number_in : {N : Type 0} → Env N → Operand N → ℕ
number_in v (Known n) = n
number_in v (Net n w) = (v.net n).value
number_in v (Part n of from w) = bits_from (v.net n).value from w

-- a net of some bits, and of 64 at most
pub record IsWide (w : ℕ) : Type 0 where
  pub some : 0 < w
  pub most : w ≤ 64

-- so many bits, from one on, of those of a net
pub record IsWithin (of from w : ℕ) : Type 0 where
  pub some : 0 < w
  pub inside : from + w ≤ of
  pub most : of ≤ 64

abbrev pub IsOperand : {N : Type 0} → Operand N → Type 0
IsOperand (Known n) = n < 2 ^ 64
IsOperand (Net n w) = IsWide w
IsOperand (Part n of from w) = IsWithin of from w

-- an operand of no more bits
abbrev pub IsNarrow : {N : Type 0} → ℕ → Operand N → Type 0
IsNarrow bits (Known n) = n < 2 ^ bits
IsNarrow bits (Net n w) = w ≤ bits
IsNarrow bits (Part n of from w) = w ≤ bits

-- a net has the value that its width says, whichever it is
pub record HasWidth {N : Type 0} (v : Env N) (n : N) (w : ℕ) : Type 0 where
  pub width : (v.net n).width ≡ w
  pub small : (v.net n).value < 2 ^ w

abbrev pub IsFit : {N : Type 0} → Env N → Operand N → Type 0
IsFit v (Known n) = Unit {0}
IsFit v (Net n w) = HasWidth v n w
IsFit v (Part n of from w) = HasWidth v n of

abbrev pub IsDeclared : {N : Type 0} → Scope N → Operand N → Type 0
IsDeclared s (Known n) = Unit {0}
IsDeclared s (Net n w) = s.net n ≡ w
IsDeclared s (Part n of from w) = s.net n ≡ of

-- the nets of operands have numbers of their widths
abbrev pub AreFit : {N : Type 0} → Env N → List (Operand N) → Type 0
AreFit v ins = (a : Operand _) → Contains ins a → IsFit v a

-- the nets of operands are declared with their widths
abbrev pub AreDeclared : {N : Type 0} → Scope N → List (Operand N) → Type 0
AreDeclared s ins = (a : Operand _) → Contains ins a → IsDeclared s a

-- of a net of so many bits some are one of the operands
abbrev pub HasPart : {N : Type 0} → List (Operand N) → N → ℕ → Type 0
HasPart ins n of = (from : ℕ) × (w : ℕ) × Contains ins (Part n of from w)

-- one of the operands is a net of so many bits, or some of them
abbrev pub HasNet : {N : Type 0} → List (Operand N) → N → ℕ → Type 0
HasNet ins n of = Contains ins (Net n of) ⊎ HasPart ins n of

-- a number, one of the operands, or bits of a net that is in one
abbrev pub IsAvailable : {N : Type 0} → List (Operand N) → Operand N → Type 0
IsAvailable ins (Known n) = Unit {0}
IsAvailable ins (Net n w) = Contains ins (Net n w)
IsAvailable ins (Part n of from w) = HasNet ins n of

-- a net of one of the operands
abbrev pub IsNetOf : {N : Type 0} → List (Operand N) → N → Type 0
IsNetOf ins n = (w : ℕ) × HasNet ins n w
