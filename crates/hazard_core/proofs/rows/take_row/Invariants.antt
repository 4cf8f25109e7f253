use Rattle.std.proofs.Common.{◌≡◌, drop}
use Rattle.std.specs.Prelude.{slice_index}
use Rattle.cell_core.specs.View.{program_of}
use Rattle.hazard_core.specs.Sourced.{packet_of}
use Rattle.hazard_core.specs.Rows.{made_from}
use Rattle.hazard_core.proofs.rows.take_row.Given as goal

abbrev pub invariant-loop-k : goal.invariant-loop-k
invariant-loop-k l =
    made_from (program_of l.program) (slice_index l.rows) l.r l.tables (packet_of l.source) l.k (drop l.k (program_of l.program).cells) l.held
    ≡ made_from (program_of l.program) (slice_index l.rows) l.r l.tables (packet_of l.source) 0 (program_of l.program).cells l.initial.held
