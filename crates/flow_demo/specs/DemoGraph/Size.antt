-- The program of `flow_demo`, accepted.
use Rattle.std.specs.Prelude.{◌≡◌, length}
use Rattle.row_rules.specs.kind_core.declared.kind.Offsets.TheVariants.{Fixed}
use Rattle.row_rules.specs.NodeRows.Acceptance.{IsAccepted}
use Rattle.flow_demo.specs.Program.{demo_program}

-- The program is accepted where offsets are fixed, and its graph has 29 nodes.
pub record DemoIsAccepted : Type 0 where
  pub accepted : IsAccepted Fixed demo_program
  pub nodes : length accepted.unfolds.graph ≡ 29
