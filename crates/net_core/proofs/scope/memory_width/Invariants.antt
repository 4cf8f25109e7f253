use Rattle.std.proofs.Common.{◌≡◌, get_or, drop}
use Rattle.net_core.specs.Width.{memory_widths}
use Rattle.net_core.proofs.scope.memory_width.Given as goal

abbrev pub invariant-loop-item : goal.invariant-loop-item
invariant-loop-item l = get_or (memory_widths (drop l.item-index l.declared)) l.left (0, 0) ≡ get_or (memory_widths l.declared) l.k (0, 0)
