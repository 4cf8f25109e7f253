-- The loops of a program, and the first place that refuses it.
use Rattle.std.specs.Prelude.{ℕ, ◌≡◌, ◌≤◌, ◌<◌, ◌&&◌, ◌⊎◌, nat_le, Bool, List, All, Some, Result, Ok, Err}
use Rattle.std.specs.List.{AllPairs, Contains}
use Rattle.std.specs.declared.vec.Vec.{Vec}
use Rattle.std.specs.declared.alloc.Global.{Global}
use Rattle.xdp_machine.specs.bpf_isa.declared.instruction.Insn.{Insn}
use Rattle.xdp_machine.specs.bpf_isa.Text.{unit_count}
use Rattle.xdp_state.specs.declared.refusal.Refusal.{Refusal}
use Rattle.xdp_state.specs.declared.refusal.BuildError.{BuildError}
use Rattle.xdp_state.specs.declared.refusal.BuildError.TheVariants.{Refused, NoMemory}
use Rattle.xdp_state.specs.declared.refusal.Why.TheVariants as why
use Rattle.unfold_core.specs.declared.nesting.Loop.{Loop}
use Rattle.unfold_core.specs.Jumps.{target}

-- A loop: from a place to the last of the places, from it on, whose jump leads to it.
pub record IsLoop (insns : List Insn) (l : Loop) : Type 0 where
  pub back : l.head ≤ l.last
  pub jump : target insns l.last ≡ Some l.head
  pub greatest : (place : ℕ) → target insns place ≡ Some l.head → place ≤ l.last

-- whether a loop holds a place
abbrev pub holds : Loop → ℕ → Bool
holds l place = nat_le l.head place && nat_le place l.last

-- a loop with a later head lies after or inside
abbrev pub Nests : Loop → Loop → Type 0
Nests l m = (l.head < m.head) × ((l.last < m.head) ⊎ (m.last ≤ l.last))

-- the loops of a program, by their heads, which ascend: outer loops come before inner ones
pub record AreLoops (insns : List Insn) (ls : List Loop) : Type 0 where
  pub are : All (IsLoop insns) ls
  pub all : (l : Loop) → IsLoop insns l → Contains ls l
  pub nested : AllPairs Nests ls

-- The last jump of a loop that begins inside another one and ends after it refuses the program.
pub record IsCrossing (insns : List Insn) (r : Refusal) : Type 0 where
  pub outer : Loop
  pub inner : Loop
  pub is_outer : IsLoop insns outer
  pub is_inner : IsLoop insns inner
  pub begins : outer.head < inner.head
  pub inside : inner.head ≤ outer.last
  pub behind : outer.last < inner.last
  pub at_is : r.at ≡ inner.last
  pub why_is : r.why ≡ why.Loop

-- the most units of a program
abbrev pub most_units : ℕ
most_units = 4096

-- A program has no more units than that.
abbrev pub too_long : Refusal
too_long = record { at = most_units; why = why.Size }

pub record IsTooLong (insns : List Insn) (r : Refusal) : Type 0 where
  pub long : most_units < unit_count insns
  pub refusal : r ≡ too_long

abbrev pub RefusesPlace : List Insn → Refusal → Type 0
RefusesPlace insns r = IsTooLong insns r ⊎ IsCrossing insns r

-- The least place comes first, and at one place the size of the program.
abbrev pub Precedes : Refusal → Refusal → Type 0
Precedes r q = (r.at < q.at) ⊎ ((r.at ≡ q.at) × ((r.why ≡ q.why) ⊎ (r.why ≡ why.Size)))

pub record IsFirstPlace (insns : List Insn) (r : Refusal) : Type 0 where
  pub refused : RefusesPlace insns r
  pub first : (q : Refusal) → RefusesPlace insns q → Precedes r q

-- the loops of a program that no place refuses
pub record HasLoops (insns : List Insn) (ls : List Loop) : Type 0 where
  pub loops : AreLoops insns ls
  pub passed : (r : Refusal) → ¬ RefusesPlace insns r

abbrev pub FindsLoops : List Insn → Result (Vec Loop Global) BuildError → Type 0
FindsLoops insns (Ok v) = HasLoops insns v.items
FindsLoops insns (Err (Refused r)) = IsFirstPlace insns r
FindsLoops insns (Err NoMemory) = Unit {0}
