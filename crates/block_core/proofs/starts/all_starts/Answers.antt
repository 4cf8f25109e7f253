use Rattle.std.proofs.lemmas.Result.{err_from_is_err_and}
use Rattle.block_core.proofs.starts.all_starts.Goals as goal

pub returns-in_err-starts_in-2-clause-range : goal.returns-in_err-starts_in-2-clause-range
returns-in_err-starts_in-2-clause-range g c =
    let p = err_from_is_err_and c.from_residual-in_err-starts_in-2.result c.from_residual-in_err-starts_in-2.ensures.1 in
    rw (p.1, p.2) (λ t. rw (c.in_ok-starts_in.ensures.range, c.in_err-starts_in-2.ensures.range t))
