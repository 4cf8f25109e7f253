use Rattle.std.proofs.Common.{◌<◌, ◌^◌, ◌∙◌, length, arith}
use Rattle.std.proofs.lemmas.List.{length-map}
use Rattle.row_rules.specs.cell_core.View.{program_of, cell_of, site_of}
use Rattle.program_suite.proofs.Usable.{usable}
use Rattle.program_suite.proofs.pipes.drive.is_usable.Goals as goal

pub returns-clause-usable : goal.returns-clause-usable
returns-clause-usable c =
    let few : length (program_of c.args.cells.now).sites < 2 ^ 32 = omega (arith, length-map c.args.cells.now.sites.items site_of, c.requires.few) in
    usable (program_of c.args.cells.now) c.args.maps.now.decls c.requires.formed c.requires.sited few c.requires.buildable

pub returns-clause-rows : goal.returns-clause-rows
returns-clause-rows c = c.requires.plan.row_count ∙ length-map c.args.cells.now.cells.items cell_of
