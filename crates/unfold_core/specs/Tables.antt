-- Tables by which loops are found.
use Rattle.std.specs.Prelude.{ℕ, ◌≡◌, ◌≢◌, ◌≤◌, ◌<◌, ◌&&◌, ◌||◌, nat_le, nat_lt, if◌then◌else◌, List, length, take, slice_index_or, slice_set, Option, Some, None, All}
use Rattle.std.specs.List.{AllPairs, Contains}
use Rattle.xdp_machine.specs.bpf_isa.declared.instruction.Insn.{Insn}
use Rattle.unfold_core.specs.declared.nesting.Loop.{Loop}
use Rattle.xdp_state.specs.declared.refusal.Refusal.{Refusal}
use Rattle.xdp_state.specs.declared.refusal.Why.TheVariants as why
use Rattle.unfold_core.specs.Jumps.{target_of}
use Rattle.unfold_core.specs.Loops.{most_units, too_long}

-- the target of the jump at a place, by the instructions at each place
abbrev pub target_in : List (Option Insn) → ℕ → Option ℕ
target_in units place = target_of place (slice_index_or units place None)

-- the last place below a bound, from a head on, that leads to it
abbrev pub IsLast : (ℕ → Option ℕ) → ℕ → ℕ → Option ℕ → Type 0
IsLast leads bound head None = (place : ℕ) → head ≤ place → place < bound → leads place ≢ Some head
IsLast leads bound head (Some e) = (head ≤ e) × (e < bound) × (leads e ≡ Some head) × ((place : ℕ) → place < bound → leads place ≡ Some head → place ≤ e)

-- at each head its last place
pub record AreLast (leads : ℕ → Option ℕ) (bound : ℕ) (last : List (Option ℕ)) : Type 0 where
  pub each : (head : ℕ) → head < length last → IsLast leads bound head (slice_index_or last head None)

-- a jump back is the last one so far that leads to its target
abbrev pub recorded : List (Option ℕ) → ℕ → Option ℕ → List (Option ℕ)
recorded last place (Some to) = if nat_le to place && nat_lt to (length last) then slice_set last to (Some place) else last
recorded last place None = last

abbrev pub loop : ℕ → ℕ → Loop
loop head last = record { head = head; last = last }

-- the loops with heads below a bound, by their heads
pub record AreListed (last : List (Option ℕ)) (bound : ℕ) (ls : List Loop) : Type 0 where
  pub each : All (λ l. (l.head < bound) × (slice_index_or last l.head None ≡ Some l.last)) ls
  pub ascending : AllPairs (λ l m. l.head < m.head) ls
  pub all : (head e : ℕ) → head < bound → slice_index_or last head None ≡ Some e → Contains ls (loop head e)

-- the loops with heads below one bound, by jumps below another one
pub record AreLoopsBelow (leads : ℕ → Option ℕ) (bound heads : ℕ) (ls : List Loop) : Type 0 where
  pub each : All (λ l. (l.head < heads) × IsLast leads bound l.head (Some l.last)) ls
  pub ascending : AllPairs (λ l m. l.head < m.head) ls
  pub all : (l : Loop) → l.head < heads → IsLast leads bound l.head (Some l.last) → Contains ls l

-- a loop begins inside another one and ends after it
abbrev pub Crosses : Loop → Loop → Type 0
Crosses l m = (m.head ≤ l.last) × (l.last < m.last)

-- one of the loops before it does
abbrev pub IsCrossed : List Loop → Loop → Type 0
IsCrossed earlier m = (k : ℕ) × (k < length earlier) × ((d : Loop) → Crosses (slice_index_or earlier k d) m)

-- the loop at an index is crossed by an earlier one
abbrev pub IsCrossedAt : List Loop → ℕ → Type 0
IsCrossedAt ls k = (d : Loop) → IsCrossed (take k ls) (slice_index_or ls k d)

-- the least last place of the loops, up to a bound, that are crossed
abbrev pub IsLeastCrossed : List Loop → ℕ → Option ℕ → Type 0
IsLeastCrossed ls bound None = (k : ℕ) → k < bound → ¬ IsCrossedAt ls k
IsLeastCrossed ls bound (Some e) =
    ((k : ℕ) × (k < bound) × IsCrossedAt ls k × ((d : Loop) → (slice_index_or ls k d).last ≡ e))
    × ((k : ℕ) (d : Loop) → k < bound → IsCrossedAt ls k → e ≤ (slice_index_or ls k d).last)

abbrev pub crossing : ℕ → Refusal
crossing place = record { at = place; why = why.Loop }

-- the first refusal of a program of so many units, by the least last place of a loop that is crossed
abbrev pub first_place : Option ℕ → ℕ → Option Refusal
first_place (Some place) units = if nat_lt place most_units || nat_le units most_units then Some (crossing place) else Some too_long
first_place None units = if nat_lt most_units units then Some too_long else None
