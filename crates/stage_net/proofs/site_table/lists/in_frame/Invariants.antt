use Rattle.std.specs.Prelude.{◌==◌}
use Rattle.std.specs.List.{list_any}
use Rattle.std.proofs.Common.{◌≡◌, false, take, map}
use Rattle.stage_net.proofs.site_table.lists.in_frame.Given as goal

abbrev pub invariant-loop-byte : goal.invariant-loop-byte
invariant-loop-byte l = list_any (λ c. c == l.cell) (map (λ b. b.cell) (take l.byte-index l.frame)) ≡ false
