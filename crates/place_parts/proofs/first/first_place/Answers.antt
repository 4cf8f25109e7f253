use Rattle.std.proofs.Common.{◌∙◌, sym}
use Rattle.overlay_net.specs.cell_nets.Wires.{wires_of}
use Rattle.place_parts.proofs.Sources.{stands_first}
use Rattle.place_parts.proofs.first.first_place.Goals as goal

pub stage_over-requires-clause-before : goal.stage_over-requires-clause-before
stage_over-requires-clause-before c = stands_first c.args.pipeline_plan.now c.requires.pipeline_plan (wires_of c.in_ok-wires.field-0.wires.items) c.in_ok-wires.field-0.before c.in_ok-wires.ensures

pub returns : goal.returns
returns c = record {
  wires = wires_of c.in_ok-wires.field-0.wires.items;
  before = c.in_ok-wires.field-0.before;
  arriving = c.in_ok-wires.ensures;
  table_is = sym (c.in_ok-table.ensures.items ∙ c.deref.ensures.value);
  stage = c.in_ok-block.ensures;
}
