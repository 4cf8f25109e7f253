-- The files of a shelf in memory.
use Rattle.std.specs.Prelude.{◌≢◌, ◌≡◌, ◌⊎◌, ℕ, List, Option, Some, None, Bool, find, IsSome}
use Rattle.std.specs.Str.{bytes_eq}
use Rattle.shelf_core.specs.declared.faults.Faults.{Faults}
use Rattle.shelf_core.specs.Shelf.{Holding}
use Rattle.shelf_core.specs.Plan.{raised}

-- a name that is there, what it holds, and how often its reads and writes have failed
pub record File : Type 0 where
  pub name : List ℕ
  pub bytes : List ℕ
  pub faults : Faults

-- all names: the files, and the counts that the names which are not there share
pub record Contents : Type 0 where
  pub files : List File
  pub absent : Faults

abbrev pub is_named : List ℕ → File → Bool
is_named name file = bytes_eq file.name name

-- the file of a name
abbrev pub file_of : List File → List ℕ → Option File
file_of files name = find (is_named name) files

abbrev pub bytes_of : Option File → Option (List ℕ)
bytes_of None = None
bytes_of (Some file) = Some file.bytes

abbrev pub faults_or : Faults → Option File → Faults
faults_or absent None = absent
faults_or absent (Some file) = file.faults

-- what each name holds
abbrev pub held_of : Contents → Holding
held_of contents name = bytes_of (file_of contents.files name)

-- how often the reads and writes of each name have failed
abbrev pub faults_of : Contents → List ℕ → Faults
faults_of contents name = faults_or contents.absent (file_of contents.files name)

-- the counts after one more failed read
abbrev pub read_raised : Faults → Faults
read_raised faults = record faults { reads = raised faults.reads }

-- the counts after one more failed write
abbrev pub write_raised : Faults → Faults
write_raised faults = record faults { writes = raised faults.writes }

-- no count changes
pub record SameFaults (old new : Contents) : Type 0 where
  pub each : (name : List ℕ) → faults_of new name ≡ faults_of old name

-- a name's counts become these, and no other name's change: the names that are not there count as one
pub record SetsFaults (name : List ℕ) (faults : Faults) (old new : Contents) : Type 0 where
  pub changed : faults_of new name ≡ faults
  pub others : (other : List ℕ) → other ≢ name → (IsSome (held_of new name) ⊎ IsSome (held_of new other)) → faults_of new other ≡ faults_of old other

-- a name holds these bytes; all else stays
pub record Stores (name bytes : List ℕ) (old new : Contents) : Type 0 where
  pub held : held_of new name ≡ Some bytes
  pub others : (other : List ℕ) → other ≢ name → held_of new other ≡ held_of old other
  pub faults : SameFaults old new
