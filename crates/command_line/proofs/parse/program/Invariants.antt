use Rattle.std.proofs.Common.{◌≡◌, map, take}
use Rattle.clap.specs.Simple.{app_of}
use Rattle.command_line.specs.Commands.{app_of_forms}
use Rattle.command_line.specs.Rows.{form_of}
use Rattle.command_line.proofs.parse.program.Given as goal

abbrev pub invariant-loop-row : goal.invariant-loop-row
invariant-loop-row l = app_of l.program ≡ app_of_forms (map form_of (take l.row-index l.rows))
