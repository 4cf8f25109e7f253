use Rattle.std.proofs.Common.{◌≡◌, map as map_list, take}
use Rattle.row_net.specs.SitePlace.Inputs.{first_word}
use Rattle.row_net.proofs.site_place.holding.registers.Given as goal

abbrev pub invariant-loop-input : goal.invariant-loop-input
invariant-loop-input g l = l.all.items ≡ map_list first_word (take l.input-index l.inputs)
