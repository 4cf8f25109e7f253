use Rattle.std.proofs.Common.{◌≡◌, get_or, drop}
use Rattle.net_core.specs.Width.{register_widths}
use Rattle.net_core.proofs.scope.register_width.Given as goal

abbrev pub invariant-loop-item : goal.invariant-loop-item
invariant-loop-item l = get_or (register_widths (drop l.item-index l.declared)) l.left 0 ≡ get_or (register_widths l.declared) l.k 0
