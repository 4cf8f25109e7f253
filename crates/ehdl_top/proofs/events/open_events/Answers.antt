use Rattle.std.proofs.Common.{length, ap, ◌∙◌}
use Rattle.std.proofs.lemmas.List.FromFn.{length-map-range_with_len}
use Rattle.flow_demo.specs.Draws.{draw}
use Rattle.ehdl_top.proofs.events.open_events.Goals as goal

pub open-requires-clause-count : goal.open-requires-clause-count
open-requires-clause-count c = ap length (c.deref.ensures.value ∙ c.in_ok-draws.ensures) ∙ length-map-range_with_len (draw c.args.seed) 0 c.in_ok-count.count ∙ c.in_ok-count.ensures
