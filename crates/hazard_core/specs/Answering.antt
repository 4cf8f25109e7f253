-- The number at a place of the entry that an access goes through.
use Rattle.std.specs.Prelude.{ℕ, ◌+◌, List, slice_range}
use Rattle.byteorder.specs.Endian.{little_number}
use Rattle.cell_core.specs.Sites.{ProgramView, site_at}
use Rattle.hazard_core.specs.Tables.{TableState}
use Rattle.hazard_core.specs.StageValues.{StageValues, access_pointer}
use Rattle.hazard_core.specs.Overlay.{where_some, entry_value}

-- of so many bytes, the low one first; 0 where there is no entry
abbrev pub number_under : ProgramView → TableState → StageValues → List ℕ → ℕ → ℕ → ℕ → ℕ
number_under p t h before j at count =
    let s = site_at p.sites j in
    let under = access_pointer h s in
    where_some under (little_number count (slice_range (entry_value p t h before s.map under) at (at + count)))
