-- Sites at which operations write are sites of the program.
use Rattle.std.proofs.Common.{◌<◌, All, length}
use Rattle.hazard_core.specs.cell_core.Sites.{ProgramView, site_at, records}
use Rattle.turn_net.specs.Actions.{record_sites}
use Rattle.pipe_parts.proofs.TurnParts.Listing.{kept_below}

pub record_known : (p : ProgramView) → All (λ j. j < length p.sites) (record_sites p)
record_known p = kept_below (λ j. records (site_at p.sites j).act) (length p.sites)
