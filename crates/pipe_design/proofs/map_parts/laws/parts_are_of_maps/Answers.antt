use Rattle.pipe_design.proofs.MapParts.Laying.{of_maps}
use Rattle.pipe_design.proofs.map_parts.laws.parts_are_of_maps.Goals as goal

pub returns : goal.returns
returns c d places at committing r l w action is stand here from answered are said changed blocks =
    of_maps d is places at here l from (c.pipeline_planned_are_laid.ensures.sites d places l is stand from answered) w action committing r are said changed blocks
