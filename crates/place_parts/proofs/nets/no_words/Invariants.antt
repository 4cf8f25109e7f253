use Rattle.std.proofs.Common.{◌≡◌, All, length}
use Rattle.overlay_net.specs.cell_nets.declared.operand.Operand.TheVariants.{Known}
use Rattle.place_parts.proofs.nets.no_words.Given as goal

abbrev pub invariant-loop-site : goal.invariant-loop-site
invariant-loop-site l = record {
  count : length l.nets.items ≡ l._site;
  none : All (λ a. a ≡ Known 0) l.nets.items;
}
