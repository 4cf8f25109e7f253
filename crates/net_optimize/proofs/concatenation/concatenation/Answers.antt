use Rattle.std.proofs.Common.{◌∙◌, sym, ap, map}
use Rattle.net_core.specs.View.{tree_of, trees_of}
use Rattle.net_core.specs.Value.{concatenated_parts}
use Rattle.net_optimize.proofs.PartLemmas.{parts_all, part_behind}
use Rattle.net_optimize.proofs.concatenation.concatenation.Goals as goal

pub returns : goal.returns
returns c v =
    ap (λ ps. concatenated_parts v (trees_of ps)) c.in_ok-new.ensures.ok ∙ ap (concatenated_parts v) c.in_ok-all.ensures
    ∙ parts_all v (map tree_of c.pop.new.self.items) (tree_of c.in-Some.last) ∙ sym (part_behind v _ _ c.in-Some.last c.in-Some.ensures.items)
