use Rattle.std.proofs.Common.{rules}
use Rattle.ehdl_top.proofs.object.count.Goals as goal

pub returns-clause-counts : goal.returns-clause-counts
returns-clause-counts c =
    let is = c.in_ok-counted.ensures.counted in
    record { graph = c.in_ok-counted.counted.graph; unfolded = is.unfolded; varying = is.same; nodes = search rules; has_stages = is.stages }
