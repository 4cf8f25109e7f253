-- What an update found: whether the size of a hash touches it rests on that, which no mark says.
use Rattle.std.specs.Prelude.{◌≡◌, ℕ, ◌<◌, ◌≤◌, ◌==◌, true, Bool, ◌&&◌, ◌⊎◌, None, List, length}
use Rattle.std.specs.List.{list_any}
use Rattle.std.specs.Str.{bytes_eq}
use Rattle.hazard_core.specs.xdp_maps.State.{MapState}
use Rattle.hazard_core.specs.xdp_maps.declared.decl.MapDecl.{MapDecl}
use Rattle.hazard_core.specs.xdp_maps.declared.decl.MapKind.TheVariants.{Hash}
use Rattle.hazard_core.specs.cell_core.declared.site.Act.TheVariants as act
use Rattle.hazard_core.specs.cell_core.Sites.{SiteView, site_at}
use Rattle.hazard_core.specs.Tables.{TableState, decl_of}
use Rattle.hazard_core.specs.StageValues.{StageValues, pointer_in, asked_key, found_cell, pending}
use Rattle.hazard_core.specs.Overlay.{found_pointer}
use Rattle.pipe_core.specs.Machine.{Packet, Input, Build}
use Rattle.pipe_core.specs.History.{IsInOrder}
use Rattle.pipe_core.specs.Placed.{Placed}
use Rattle.pipe_core.specs.SeenChanges.{Seen, SeenChanges, observed, watch_start}
use Rattle.pipe_core.specs.Pipeable.{IsPipelinable}
use Rattle.pipe_core.specs.SequentialOrder.{IsSequential}
use Rattle.pipe_core.specs.ChangeCauses.{Waits}

-- a change brought the key of a site, or took it away
abbrev pub key_changed : List MapDecl → StageValues → SiteView → Seen → Bool
key_changed decls h s se = se.change.presence && ((s.map == se.change.map) && bytes_eq (asked_key decls h s) se.change.key)

-- Of each update of a hash whose found cell a packet at place k holds: the packet has seen a change that brought its key or took it away, or it holds
-- what the update finds now.
abbrev pub FindsRight : Build → TableState → List Seen → ℕ → Packet → Type 0
FindsRight b t seen k x =
    (j : ℕ) → j < length b.program.sites → (site_at b.program.sites j).act ≡ act.Update → (decl_of t.decls (site_at b.program.sites j).map).kind ≡ Hash
    → found_cell b.program.cells j < length b.program.cells → b.plan.row (found_cell b.program.cells j) ≤ k
    → (list_any (key_changed t.decls x.held (site_at b.program.sites j)) seen ≡ true)
    ⊎ (pointer_in x.held (found_cell b.program.cells j) ≡ found_pointer b.program t x.held (pending b.program b.plan.row (b.plan.row (found_cell b.program.cells j)) j) j)

-- So of each packet that has committed nothing.
abbrev pub AreFound : Build → SeenChanges → Type 0
AreFound b w = let s = w.trace.state in Placed (λ k c x. Waits b s.done k → FindsRight b s.tables (w.seen k) k x) s.frames 0 s.places

-- A clock with a silent host keeps this; and so it is before the first.
abbrev pub KeepsFound : Type 0
KeepsFound =
    (b : Build) (maps : MapState) → IsPipelinable maps.decls b → (i : Input) → i.host ≡ None → (w : SeenChanges) → IsInOrder b w.trace → IsSequential b maps w → AreFound b w → AreFound b (observed b i w)

abbrev pub BeginsFound : Type 0
BeginsFound = (b : Build) (maps : MapState) → AreFound b (watch_start b maps)
