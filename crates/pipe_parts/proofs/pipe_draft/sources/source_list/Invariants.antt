use Rattle.std.specs.List.{filter}
use Rattle.std.proofs.Common.{◌≡◌}
use Rattle.hazard_core.specs.cell_core.Rows.{numbers}
use Rattle.hazard_core.specs.cell_core.View.{program_of}
use Rattle.pipe_parts.specs.PipeDraft.Sources.{is_source}
use Rattle.pipe_parts.proofs.pipe_draft.sources.source_list.Given as goal

abbrev pub invariant-loop-number : goal.invariant-loop-number
invariant-loop-number l = l.cells.items ≡ filter (is_source (program_of l.program) l.needed) (numbers 0 l.number)
