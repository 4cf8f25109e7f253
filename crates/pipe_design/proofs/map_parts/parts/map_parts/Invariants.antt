use Rattle.pipe_design.proofs.MapParts.Gathering.{HaveParts}
use Rattle.pipe_design.proofs.map_parts.parts.map_parts.Given as goal

abbrev pub invariant-loop-m : goal.invariant-loop-m
invariant-loop-m l = HaveParts l.pipeline_plan l.at.sites.items l.committing l.m l.maps.items l.changes.items
