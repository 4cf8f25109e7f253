-- Which pointers results are. A kind and a number are a value.
use Rattle.std.specs.Prelude.{ℕ, ◌≡◌, ◌⊎◌, Some}
use Rattle.kind_core.specs.declared.kind.Kind.{Kind}
use Rattle.kind_core.specs.declared.kind.Kinds.{Kinds}
use Rattle.operator_cells.specs.declared.held_cells.machine_cells.RegisterCells.{RegisterCells}
use Rattle.operator_cells.specs.HeldCells.Pointing.{Pointing, pointing_as, HoldsPointer}

-- A result is a pointer only where the value that it is made of is that pointer.
abbrev pub MovesPointer : Kind → ℕ → Kind → ℕ → Type 0
MovesPointer a p x c = (y : Pointing) → pointing_as x c ≡ Some y → pointing_as a p ≡ Some y

-- only where one of two values is
abbrev pub MovesEither : Kind → ℕ → Kind → ℕ → Kind → ℕ → Type 0
MovesEither a p b q x c = (y : Pointing) → pointing_as x c ≡ Some y → (pointing_as a p ≡ Some y) ⊎ (pointing_as b q ≡ Some y)

-- only where that pointer is held
abbrev pub MovesHeld : Kinds → RegisterCells → Kind → ℕ → Type 0
MovesHeld k h x c = (y : Pointing) → pointing_as x c ≡ Some y → HoldsPointer k h y
