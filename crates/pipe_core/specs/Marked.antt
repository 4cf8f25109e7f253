-- Where marks stand.
use Rattle.std.specs.Prelude.{◌≡◌, ℕ, ◌<◌, Bool, not, ◌&&◌, List, length}
use Rattle.std.specs.List.{list_any}
use Rattle.hazard_core.specs.xdp_maps.State.{MapState}
use Rattle.hazard_core.specs.xdp_maps.declared.decl.MapDecl.{MapDecl}
use Rattle.hazard_core.specs.cell_core.Sites.{site_at}
use Rattle.hazard_core.specs.Marks.{touches, known_off, has_read}
use Rattle.pipe_core.specs.Machine.{Packet, Input, Build, marked_at}
use Rattle.pipe_core.specs.History.{IsInOrder}
use Rattle.pipe_core.specs.Placed.{Placed}
use Rattle.pipe_core.specs.SeenChanges.{Seen, SeenChanges, observed, watch, watch_start}

-- whether a change touched the read of site j when the packet saw it: the packet had read there by then
abbrev pub touched_then : Build → List MapDecl → ℕ → Seen → Bool
touched_then b decls j e = has_read b.program b.plan.row e.place j && touches b.program decls e.held j e.change

-- A mark stands exactly where the guard is not known as 0 and the packet has seen a change that touched the read.
abbrev pub MarksAre : Build → List MapDecl → List Seen → ℕ → Packet → Type 0
MarksAre b decls seen k x =
    (j : ℕ) → j < length b.program.sites → marked_at x j ≡ list_any (touched_then b decls j) seen && not (known_off b.plan.row k x.held (site_at b.program.sites j))

abbrev pub AreMarked : Build → SeenChanges → Type 0
AreMarked b w = let s = w.trace.state in Placed (λ k c x. MarksAre b s.tables.decls (w.seen k) k x) s.frames 0 s.places

-- A clock keeps this, whatever comes.
abbrev pub KeepsMarked : Type 0
KeepsMarked = (b : Build) (i : Input) (w : SeenChanges) → IsInOrder b w.trace → AreMarked b w → AreMarked b (observed b i w)

-- So it is over every list of clocks.
abbrev pub AreAlwaysMarked : Type 0
AreAlwaysMarked = (b : Build) (maps : MapState) (is : List Input) → AreMarked b (watch b is (watch_start b maps))
