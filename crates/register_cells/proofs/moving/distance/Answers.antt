use Rattle.std.proofs.Common.{false, arith}
use Rattle.register_cells.specs.Reading.{place_of}
use Rattle.register_cells.proofs.Growing.{makes_after}
use Rattle.operator_cells.proofs.MakingLaws.{grown}
use Rattle.operator_cells.proofs.RisingLaws.{stand_none, stand_more, rises_then}
use Rattle.register_cells.proofs.Finding.{low_less}
use Rattle.register_cells.proofs.moving.distance.Goals as goal

pub returns-clause-makes : goal.returns-clause-makes
returns-clause-makes c =
    let to = c.in_ok-to.ensures.makes in
    let from = c.in_ok-from.ensures.makes in
    makes_after (grown to.grows from.grows) (c.in_ok-c.ensures.makes false)
    (λ packet v r. low_less (place_of packet c.args.a) (place_of packet c.args.b) (v c.in_ok-to.to) (v c.in_ok-from.from) (to.value packet v (from.grows.run packet v r)) (from.value packet v r))

pub returns-clause-rises : goal.returns-clause-rises
returns-clause-rises c =
    rises_then (stand_more (stand_more stand_none c.in_ok-to.ensures.rises (λ row k. omega arith)) c.in_ok-from.ensures.rises (λ row k. omega arith)) c.in_ok-c.ensures.rises (λ row k. omega (arith, k.0.1, k.1))
