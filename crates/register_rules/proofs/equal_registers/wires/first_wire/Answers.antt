use Rattle.std.proofs.Common.{sym, map, get_or, arith}
use Rattle.std.proofs.Math.ListN.{get_or-map}
use Rattle.std.proofs.lemmas.List.{length-map}
use Rattle.net_core.specs.View.{wire_of}
use Rattle.register_rules.proofs.EqualRegisters.WireLemmas.{same_values}
use Rattle.register_rules.proofs.equal_registers.wires.first_wire.Goals as goal

pub returns-then-is_alike_right : goal.returns-then-is_alike_right
returns-then-is_alike_right c ins s held told =
    let wires = c.args.wires.now in
    let one = c.index-wires-own.result in
    let other = c.index-wires-earlier.result in
    same_values ins s (map wire_of wires) c.args.registers.now c.args.firsts.now c.args.other (wire_of (get_or wires _ one)) (wire_of (get_or wires _ other)) (wire_of one) (wire_of other)
    (omega arith) (omega (arith, length-map wires wire_of)) (sym (get_or-map wire_of wires _ one)) (sym (get_or-map wire_of wires _ other))
    held told (c.is_alike_right.ensures c.if-is_alike_right.true)
