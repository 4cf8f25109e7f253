-- A shelf and a sink in memory.
use Rattle.std.specs.Prelude.{◌≡◌, ◌⊎◌, ℕ, List, [], Option, Some, None}
use Rattle.shelf_core.specs.Shelf.{Holding, Counts, appended}
use Rattle.shelf_core.specs.Plan.{Plan, no_calls, left_part}
use Rattle.shelf_core.specs.File.{Contents, held_of, faults_of, read_raised, write_raised, SetsFaults}

-- what the names hold, and the calls
pub record Memory : Type 0 where
  pub contents : Contents
  pub reads : Plan
  pub writes : Plan

-- what each name holds, and how often its reads and writes have failed
abbrev pub held_in : Memory → Holding
held_in memory = held_of memory.contents

abbrev pub read_faults_in : Memory → Counts
read_faults_in memory name = (faults_of memory.contents name).reads

abbrev pub write_faults_in : Memory → Counts
write_faults_in memory name = (faults_of memory.contents name).writes

-- a failed read raises the name's read count, and no other count
abbrev pub FailsRead : List ℕ → Memory → Memory → Type 0
FailsRead name old new = SetsFaults name (read_raised (faults_of old.contents name)) old.contents new.contents

-- a failed write raises the name's write count, and no other count
abbrev pub FailsWrite : List ℕ → Memory → Memory → Type 0
FailsWrite name old new = SetsFaults name (write_raised (faults_of old.contents name)) old.contents new.contents

-- no name is there, no count has risen and no call is to fail
abbrev pub empty_memory : Memory
empty_memory = record { contents = record { files = []; absent = record { reads = 0; writes = 0 } }; reads = no_calls; writes = no_calls }

-- no call is to fail
pub record FailsNone (memory : Memory) : Type 0 where
  pub reads : memory.reads.failing ≡ []
  pub writes : memory.writes.failing ≡ []

-- what was taken, the calls, and how many of them have failed
pub record Taken : Type 0 where
  pub bytes : List ℕ
  pub puts : Plan
  pub faults : ℕ

-- what a failed write may leave: the listed part of its bytes, or none for want of memory; none
-- where it was not listed
abbrev pub LeavesListed : Option ℕ → Option (List ℕ) → List ℕ → Option (List ℕ) → Type 0
LeavesListed None old bytes new = new ≡ old
LeavesListed (Some left) old bytes new = (new ≡ old) ⊎ (new ≡ Some (appended old (left_part (Some left) bytes)))
