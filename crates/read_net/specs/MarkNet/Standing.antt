-- What registers may say of the marks of the packet at a place.
use Rattle.std.specs.Prelude.{◌≡◌, ℕ, suc, ◌<◌, Bool, true, false, ◌||◌, length, filter}
use Rattle.overlay_net.specs.cell_core.Sites.{site_at}
use Rattle.overlay_net.specs.hazard_core.Tables.{TableState}
use Rattle.overlay_net.specs.hazard_core.StageValues.{StageValues}
use Rattle.overlay_net.specs.hazard_core.declared.change.Change.{Change}
use Rattle.overlay_net.specs.hazard_core.Marks.{touches, has_read, known_off}
use Rattle.beat_core.specs.Ports.{Arrival}
use Rattle.pipe_core.specs.Machine.{Packet, Build, site_numbers, marked_at, entered, marked_by, must_reload}
use Rattle.read_net.specs.MarkNet.Reload.{some_reload}

-- At place k a register says the mark at a site, but where its guard is known as 0: then the mark never calls for a reload, and the register may say anything.
abbrev pub MarkStands : Build → ℕ → StageValues → (ℕ → Bool) → (ℕ → Bool) → ℕ → Type 0
MarkStands b k h marked reg j = known_off b.plan.row k h (site_at b.program.sites j) ≡ false → reg j ≡ marked j

-- It still says it where the packet moves on.
abbrev pub EnteringStands : Type 0
EnteringStands =
    (b : Build) (t : TableState) (k : ℕ) (c : Arrival) (x : Packet) (reg : ℕ → Bool) (j : ℕ) → j < length b.program.sites → MarkStands b k x.held (marked_at x) reg j
    → MarkStands b (suc k) (entered b t (suc k) c x).held (marked_at (entered b t (suc k) c x)) reg j

-- A packet without a mark enters a place without it.
abbrev pub EntersUnmarked : Type 0
EntersUnmarked = (b : Build) (t : TableState) (k : ℕ) (c : Arrival) (x : Packet) (j : ℕ) → marked_at x j ≡ false → marked_at (entered b t k c x) j ≡ false

-- the register that takes in whether a change touches the read
abbrev pub marked_by_register : Build → TableState → Change → Packet → (ℕ → Bool) → ℕ → Bool
marked_by_register b t e x reg j = reg j || touches b.program t.decls x.held j e

-- It says the mark also where a change marks a packet that has read at the site.
abbrev pub MarkingStands : Type 0
MarkingStands =
    (b : Build) (t : TableState) (k : ℕ) (e : Change) (x : Packet) (reg : ℕ → Bool) (j : ℕ) → j < length b.program.sites → has_read b.program b.plan.row k j ≡ true → MarkStands b k x.held (marked_at x) reg j
    → MarkStands b k (marked_by b t k e x).held (marked_at (marked_by b t k e x)) (marked_by_register b t e x reg) j

-- Where it has not read a change makes no mark.
abbrev pub MarksReadsAlone : Type 0
MarksReadsAlone = (b : Build) (t : TableState) (k : ℕ) (e : Change) (x : Packet) (j : ℕ) → j < length b.program.sites → has_read b.program b.plan.row k j ≡ false → marked_at (marked_by b t k e x) j ≡ marked_at x j

-- Where all marks are of sites at which the packet has read, these alone say whether it must reload.
abbrev pub ReloadOfReads : Type 0
ReloadOfReads =
    (b : Build) (k : ℕ) (x : Packet) → ((j : ℕ) → has_read b.program b.plan.row k j ≡ false → marked_at x j ≡ false)
    → must_reload b k x ≡ some_reload b.program b.plan.row k x.held (marked_at x) (filter (has_read b.program b.plan.row k) (site_numbers b.program))
