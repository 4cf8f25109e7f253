-- Which operation of the packet at the commit place commits in a clock, and how far the packet is after it.
use Rattle.std.specs.Prelude.{◌≡◌, ℕ, suc, ◌==◌, nat_le, Bool, false, not, ◌&&◌, if◌then◌else◌, Option, Some, None, List, length, filter}
use Rattle.std.specs.List.{find}
use Rattle.hazard_core.specs.cell_core.Rows.{numbers}
use Rattle.hazard_core.specs.cell_core.Sites.{ProgramView, site_at, records}
use Rattle.hazard_core.specs.Tables.{TableState}
use Rattle.hazard_core.specs.StageValues.{StageValues, writes}
use Rattle.hazard_core.specs.Commits.{taken_after}
use Rattle.read_net.specs.pipe_core.Machine.{Build, Packet, chosen}

-- the first of some sites that is not through and whose operation writes
abbrev pub first_open : ℕ → (ℕ → Bool) → List ℕ → Option ℕ
first_open done writes js = find (λ j. nat_le done j && writes j) js

-- the record sites of a program: the pipe chooses among them, as no other site writes
abbrev pub record_sites : ProgramView → List ℕ
record_sites p = filter (λ j. records (site_at p.sites j).act) (numbers 0 (length p.sites))

abbrev pub RecordsAlone : Type 0
RecordsAlone = (b : Build) (t : TableState) (done : ℕ) (x : Packet) → chosen b t done x ≡ first_open done (writes b.program t.decls x.held) (record_sites b.program)

-- what is seen of other parts in a clock: a packet stands at the commit place, it is sent back, and the host writes
pub record Signals : Type 0 where
  pub present : Bool
  pub back : Bool
  pub host : Bool

abbrev pub may_commit : Signals → Bool
may_commit i = (i.present && not i.back) && not i.host

-- the site whose operation commits, by the first that is open
abbrev pub committing : Signals → Option ℕ → Option ℕ
committing i first = if may_commit i then first else None

-- this site is it
abbrev pub is_at : Option ℕ → ℕ → Bool
is_at None j = false
is_at (Some i) j = i == j

-- how far the packet is then: after the site that commits; where none does the host's writing leaves it, and else packets move
abbrev pub behind_site : ℕ → Option ℕ → ℕ
behind_site rest None = rest
behind_site rest (Some j) = suc j

abbrev pub done_after : Signals → ℕ → Option ℕ → ℕ
done_after i done site = behind_site (if i.host then done else 0) site

-- the slots that its updates took
abbrev pub taken_by : ProgramView → TableState → List ℕ → StageValues → Option ℕ → List ℕ
taken_by p t taken h None = taken
taken_by p t taken h (Some j) = taken_after p t taken h j
