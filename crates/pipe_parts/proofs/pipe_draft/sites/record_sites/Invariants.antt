use Rattle.std.specs.List.{filter}
use Rattle.std.proofs.Common.{◌≡◌}
use Rattle.hazard_core.specs.cell_core.Rows.{numbers}
use Rattle.hazard_core.specs.cell_core.Sites.{site_at, records}
use Rattle.hazard_core.specs.cell_core.View.{program_of}
use Rattle.pipe_parts.proofs.pipe_draft.sites.record_sites.Given as goal

abbrev pub invariant-loop-j : goal.invariant-loop-j
invariant-loop-j l = l.sites.items ≡ filter (λ k. records (site_at (program_of l.program).sites k).act) (numbers 0 l.j)
