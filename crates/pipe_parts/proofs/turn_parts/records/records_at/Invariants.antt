use Rattle.std.proofs.Common.{◌≡◌, All, take}
use Rattle.turn_net.specs.Nets.{sites_of}
use Rattle.pipe_parts.specs.TurnParts.Sites.{list_at}
use Rattle.pipe_parts.specs.TurnParts.Records.{targets_at, IsRecordAt}
use Rattle.pipe_parts.proofs.turn_parts.records.records_at.Given as goal

abbrev pub invariant-loop-i : goal.invariant-loop-i
invariant-loop-i l = record {
  sites : sites_of l.records.items ≡ take l.i l.pipeline_plan.records.items;
  each : All (IsRecordAt l.pipeline_plan l.at (list_at l.owns) (targets_at l.targets)) l.records.items;
}
