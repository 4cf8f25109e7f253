use Rattle.std.proofs.Common.{◌≡◌, map, take}
use Rattle.net_core.specs.Clock.{first_words}
use Rattle.net_core.specs.Width.{const_width}
use Rattle.net_rules.proofs.net_sizes.staying.first_sizes.Given as goal

abbrev pub invariant-loop-item : goal.invariant-loop-item
invariant-loop-item l = l.sizes.items ≡ map const_width (first_words (take l.item-index l.declared))
