use Rattle.place_parts.proofs.Laid.{are_places}
use Rattle.place_parts.proofs.laws.parts_are_of_places.Goals as goal

pub returns : goal.returns
returns c d places maps r l w is stand fit are for has = are_places d places maps r l w (record { is = is; stand = stand; fit = fit; are = are; for = for; has = has }) c.stages_are_placed.ensures.placed c.pipeline_planned_are_laid.ensures.laid
