-- What the packets hold of the maps, over all clocks.
use Rattle.std.specs.Prelude.{◌≡◌, ℕ, suc, ◌<◌, ◌≤◌, true, false, None, Some, length}
use Rattle.hazard_core.specs.cell_core.Cells.{cell_at, site_in}
use Rattle.hazard_core.specs.cell_core.Sites.{site_at}
use Rattle.hazard_core.specs.Tables.{TableState}
use Rattle.hazard_core.specs.StageValues.{guard_on}
use Rattle.hazard_core.specs.Changes.{IsRightCommit}
use Rattle.hazard_core.specs.xdp_machine.State.{PacketIn}
use Rattle.pipe_core.specs.Machine.{Packet, State, Input, Build, Action, Commits, Writes, Moves, packet_of, marked_at}
use Rattle.pipe_core.specs.History.{IsInOrder}
use Rattle.pipe_core.specs.Agreement.{UpdatesFind, IsMade, Agrees}
use Rattle.pipe_core.specs.Pipeable.{IsPipeable}
use Rattle.pipe_core.specs.Placed.{Placed}
use Rattle.pipe_core.specs.SeenChanges.{SeenChanges, rest_of, action_in, observed}
use Rattle.pipe_core.specs.Marked.{AreMarked}

-- past the commit place no mark stands
abbrev pub IsClean : Build → ℕ → Packet → Type 0
IsClean b k x = b.plan.commit < k → (j : ℕ) → j < length b.program.sites → marked_at x j ≡ false

-- Each packet agrees with the tables of its place in what is not marked and not off the path. Those are the tables of now before the commit
-- place, and there too while the packet has committed nothing.
pub record IsAgreed (b : Build) (w : SeenChanges) : Type 0 where
  pub marked : AreMarked b w
  pub clean : Placed (λ k c x. IsClean b k x) w.trace.state.frames 0 w.trace.state.places
  pub agree : Placed (λ k c x. Agrees b (w.views k) (packet_of c) (suc k) x) w.trace.state.frames 0 w.trace.state.places
  pub current : (k : ℕ) → k < b.plan.commit → w.views k ≡ w.trace.state.tables
  pub begun : w.trace.state.done ≡ 0 → w.views b.plan.commit ≡ w.trace.state.tables

-- a commit writes a slot that there is; a delete that of its key
abbrev pub IsRightAction : Build → State → Action → Type 0
IsRightAction b s (Commits j x) = IsRightCommit b.program s.tables s.taken x.held j
IsRightAction b s (Writes a n) = ⊥
IsRightAction b s Moves = Unit {0}

-- A clock in which the host is silent keeps this, if what it commits is right.
abbrev pub KeepsAgreed : Type 0
KeepsAgreed =
    (b : Build) → IsPipeable b → (i : Input) → i.host ≡ None → (w : SeenChanges) → UpdatesFind w.trace.state.tables.decls b → IsInOrder b w.trace
    → IsRightAction b w.trace.state (action_in b i w.trace.state) → IsAgreed b w → IsAgreed b (observed b i w)

-- every read of a site whose guard is on is as it would be made on these tables
abbrev pub IsPathMade : Build → TableState → PacketIn → Packet → Type 0
IsPathMade b t packet x =
    (c j : ℕ) → c < length b.program.cells → site_in (cell_at b.program.cells c).op ≡ Some j → guard_on x.held (site_at b.program.sites j) ≡ true → IsMade b t packet x.held c

-- So a packet that stays at the commit place, or is past it, has all its reads on the path from the tables of its place: it has no mark.
abbrev pub PathsAreMade : Type 0
PathsAreMade =
    (b : Build) → IsPipeable b → (w : SeenChanges) → IsAgreed b w
    → Placed (λ k c x. b.plan.commit ≤ k → IsPathMade b (w.views k) (packet_of c) x) w.trace.state.frames 0 (rest_of b w.trace.state)
