use Rattle.std.proofs.Common.{◌<◌, length, sym, ◌∙◌, subst, take, arith}
use Rattle.std.proofs.lemmas.List.{get_or-take, length-take}
use Rattle.cell_nets.specs.Operands.{IsAvailable}
use Rattle.cell_nets.proofs.operators.input.Goals as goal

pub returns-then-at-args-clause-available : goal.returns-then-at-args-clause-available
returns-then-at-args-clause-available g c = λ ins n below h.
    let args = c.args.args.now in
    let at = c.args.at in
    let x = c.index-args-at.result in
    let inside : at < length (take n args) = omega (arith, length-take n args, c.if-at-args.true) in
    subst (IsAvailable ins) (get_or-take n args at x below ∙ sym c.index-args-at.is) (h at x inside)
