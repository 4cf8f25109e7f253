use Rattle.std.proofs.Common.{ℕ, ◌+◌, ◌≤◌, max, arith}
use Rattle.operator_cells.proofs.RisingLaws.{stand_none, stand_more, rises_then}
use Rattle.register_cells.proofs.ValueLaws.{zero_most}
use Rattle.register_cells.proofs.Growing.{makes_after}
use Rattle.register_cells.proofs.Made.{tested_zero}
use Rattle.register_cells.proofs.helpers.is_zero.Goals as goal

after_all : (n i t : ℕ) {z : ℕ} → z ≤ 0 → max n (max z (max i (max t 0))) + 1 ≤ max n (max i t) + 1
after_all n i t l = omega (arith, l)

pub returns-clause-makes : goal.returns-clause-makes
returns-clause-makes c =
    let zero = c.in_ok-zero.ensures.makes in
    makes_after zero.grows c.in_ok-c.ensures.makes (λ packet v r. tested_zero (v c.args.n) _ (zero.value packet v r))

pub returns-clause-rises : goal.returns-clause-rises
returns-clause-rises c = rises_then (stand_more stand_none c.in_ok-zero.ensures.rises (λ row k. zero_most)) c.in_ok-c.ensures.rises (λ row k. after_all (row c.args.n) (row c.args.interface) (row c.args.target) k.1)
