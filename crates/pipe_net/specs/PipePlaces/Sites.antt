-- What stands for sites at a place.
use Rattle.std.specs.Prelude.{ℕ, suc, ◌<◌, ◌≤◌, length}
use Rattle.block_core.specs.declared.name.Name.{Name}
use Rattle.read_net.specs.overlay_net.SiteOperands.Sites.{SiteOperands}
use Rattle.stage_net.specs.SiteTable.Sites.{IsSiteOf}
use Rattle.pipe_net.specs.declared.parts.Part.{Part}
use Rattle.pipe_net.specs.Layout.{Layout, program_of, last_of, commit_of}
use Rattle.pipe_net.specs.Standing.{IsAtPlace}
use Rattle.pipe_net.specs.PipePlaces.Layout.{IsLaidOut}

-- Up to the commit place the operands of a site that the tables after a place give are registers of the place, or numbers, and show the cells of the site as its packet holds them.
abbrev pub AtPlaces : Type 0
AtPlaces =
    (l : Layout) → IsLaidOut l → (k j : ℕ) (s : SiteOperands (Name Part)) → k ≤ commit_of l → k ≤ last_of l → j < length (program_of l).sites → IsSiteOf (program_of l) (l.table (suc k)) (l.pointers (suc k)) j s
    → IsAtPlace l k j s
