-- What is known at a node where edges meet, against what is known on each of them.
use Rattle.std.specs.Prelude.{ℕ, ◌≡◌, ◌≢◌, ◌<◌, ◌≤◌, ◌≤ℤ◌, List, length, get_or, fold, All}
use Rattle.kind_core.specs.declared.number.Number.{Number}
use Rattle.kind_core.specs.declared.number.Number.TheVariants.{Between}
use Rattle.kind_core.specs.declared.kind.Kind.{Kind}
use Rattle.kind_core.specs.declared.kind.Kind.TheVariants.{Unset, Num, Var, Mixed}
use Rattle.kind_core.specs.declared.kind.Kinds.{Kinds}
use Rattle.kind_core.specs.declared.kind.Offsets.TheVariants.{Fixed}
use Rattle.kind_core.specs.declared.base.Base.{Base}
use Rattle.kind_core.specs.NumberBounds.{lower, upper}
use Rattle.kind_core.specs.Joins.{joined}

-- Of values that the second kind describes the first one may say less: that they are numbers between wider bounds, that less is checked
-- from a base on, or nothing.
abbrev pub Widens : Kind → Kind → Type 0
Widens Unset b = Unit {0}
Widens Mixed b = Unit {0}
Widens (Num (Between lo hi)) b = (n : Number) × (b ≡ Num n) × (lo ≤ lower n) × (upper n ≤ hi)
Widens (Var a f) b = (j : Base) × (b ≡ Var j f) × (a ≡ record j { checked = a.checked }) × (a.checked ≤ℤ j.checked)
Widens a b = a ≡ b

-- the same of all registers and slots, and of the checked bytes of the packet; offsets that do not vary by the second do not by the first
pub record AreWider (k j : Kinds) : Type 0 where
  pub registers : (r : ℕ) → Widens (get_or k.registers r Unset) (get_or j.registers r Unset)
  pub slots : (s : ℕ) → Widens (get_or k.slots s Unset) (get_or j.slots s Unset)
  pub checked : k.checked ≤ j.checked
  pub register_count : length k.registers ≡ length j.registers
  pub slot_count : length k.slots ≡ length j.slots
  pub offsets : j.offsets ≡ Fixed → k.offsets ≡ Fixed

-- no slot is unset
abbrev pub AreFilled : Kinds → Type 0
AreFilled k = (s : ℕ) → s < 64 → get_or k.slots s Unset ≢ Unset

-- kinds of the same registers and slots
pub record AreAlike (k j : Kinds) : Type 0 where
  pub registers : length k.registers ≡ length j.registers
  pub slots : length k.slots ≡ length j.slots

-- What is known where edges meet says no more than what is known on each.
abbrev pub JoinsWiden : Type 0
JoinsWiden = (k : Kinds) (js : List Kinds) → All (AreAlike k) js → AreWider (fold joined k js) k × All (AreWider (fold joined k js)) js

-- Where no slot is unset on any edge none is where they meet.
abbrev pub JoinsAreFilled : Type 0
JoinsAreFilled = (k : Kinds) (js : List Kinds) → AreFilled k → All AreFilled js → AreFilled (fold joined k js)
