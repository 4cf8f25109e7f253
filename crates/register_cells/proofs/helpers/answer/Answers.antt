use Rattle.std.proofs.Common.{ℕ, ◌+◌, ◌≤◌, max, arith}
use Rattle.operator_cells.proofs.RisingLaws.{stand_none, stand_more, rises_then}
use Rattle.register_cells.proofs.ValueLaws.{zero_most}
use Rattle.operator_cells.proofs.MakingLaws.{grown}
use Rattle.register_cells.proofs.Growing.{makes_after}
use Rattle.register_cells.proofs.Made.{answered}
use Rattle.register_cells.proofs.helpers.answer.Goals as goal

of_one : {s r a : ℕ} → r ≤ 0 → a ≤ 0 → max s (max r (max a 0)) + 0 ≤ s
of_one l m = omega (arith, l, m)

pub returns-clause-makes : goal.returns-clause-makes
returns-clause-makes c =
    let redirect = c.in_ok-redirect.ensures.makes in
    let aborted = c.in_ok-aborted.ensures.makes in
    makes_after (grown redirect.grows aborted.grows) c.in_ok-c.ensures.makes
    (λ packet v r. answered (v c.args.sent) _ _ (redirect.value packet v (aborted.grows.run packet v r)) (aborted.value packet v r))

pub returns-clause-rises : goal.returns-clause-rises
returns-clause-rises c = rises_then (stand_more (stand_more stand_none c.in_ok-redirect.ensures.rises (λ row k. zero_most)) c.in_ok-aborted.ensures.rises (λ row k. zero_most)) c.in_ok-c.ensures.rises (λ row k. of_one k.0.1 k.1)
