use Rattle.std.proofs.Common.{ℕ, ◌*◌, ◌∙◌, ap, List, map as map_list, arith}
use Rattle.cell_core.specs.Cells.{bits_from, joined}
use Rattle.operator_cells.proofs.Growing.{makes_after}
use Rattle.operator_cells.proofs.Spread.{reversed_joined}
use Rattle.cell_core.specs.Rows.{greatest}
use Rattle.operator_cells.proofs.RisingLaws.{stand_none, stand_all, rises_then}
use Rattle.operator_cells.proofs.spreading.reverse.Goals as goal

pub returns-clause-makes : goal.returns-clause-makes
returns-clause-makes c =
    let bytes = c.in_ok-bytes.ensures.makes in
    makes_after _ _ _ _ _ _ bytes.grows c.in_ok-c.ensures.makes
    (λ packet v r. ap (λ (ins : List ℕ). bits_from (joined 8 (map_list v ins)) 0 (8 * c.args.count)) c.deref.ensures.value
    ∙ reversed_joined v c.args.count (v c.args.a) c.in_ok-bytes.bytes.items c.requires.most (bytes.values packet v r))

pub returns-clause-rises : goal.returns-clause-rises
returns-clause-rises c = rises_then (stand_all stand_none c.in_ok-bytes.ensures.rises (λ row p. omega arith)) c.in_ok-c.ensures.rises (λ row p. omega (arith, ap (greatest row) c.deref.ensures.value))
