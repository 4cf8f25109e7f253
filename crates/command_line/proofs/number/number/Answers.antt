use Rattle.std.proofs.Common.{◌≡◌, ◌∙◌, sym, ◌<◌, ◌^◌, arith}
use Rattle.std.proofs.lemmas.Fmt.{decimal_injective}
use Rattle.command_line.proofs.number.number.Goals as goal
use Rattle.command_line.proofs.number.number.Goals.{else-low-n-via-then-low-n+else-n-high, else-low-n-via-else-low-n}

pub returns-else-low-n-clause-none : goal.returns-else-low-n-clause-none
returns-else-low-n-clause-none c = λ n e low high.
    let small : c.in_ok-n.n < 2 ^ 32 = omega (arith, c.type_inv) in
    let same : c.in_ok-n.n ≡ n = decimal_injective c.in_ok-n.n n (omega (arith, small)) (omega (arith, high)) (sym c.in_ok-n.ensures.some ∙ e) in
    elim c.else-low-n.branch [
      | else-low-n-via-then-low-n+else-n-high w ↦ omega (arith, same, w.if-n-high.false)
      | else-low-n-via-else-low-n w ↦ omega (arith, same, w.if-low-n.false)
    ]
