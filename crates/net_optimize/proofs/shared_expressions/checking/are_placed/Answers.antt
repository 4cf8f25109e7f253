use Rattle.std.proofs.Common.{sym, subst, map, arith}
use Rattle.std.proofs.lemmas.List.{length-map, take_all}
use Rattle.net_core.specs.View.{wire_of}
use Rattle.net_optimize.specs.SharedExpressions.Standing.{NoneStops}
use Rattle.net_optimize.proofs.shared_expressions.checking.are_placed.Goals as goal

pub returns-then-next-wires-clause-goes : goal.returns-then-next-wires-clause-goes
returns-then-next-wires-clause-goes c is v u st none =
    let l = c.loop-place in
    let table = c.args.table.now.wires.items in
    let wires = c.args.wires.now in
    subst (NoneStops v) (take_all l.place (map wire_of table) (omega (arith, length-map table wire_of)))
    (l.invariant.goes v u st (subst (NoneStops u) (sym (take_all l.next (map wire_of wires) (omega (arith, length-map wires wire_of)))) none))
