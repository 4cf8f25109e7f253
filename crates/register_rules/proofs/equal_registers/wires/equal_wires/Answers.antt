use Rattle.std.proofs.Common.{sym, ap, subst, [], length, map, arith}
use Rattle.std.proofs.lemmas.List.{length_push}
use Rattle.net_core.specs.View.{wire_of}
use Rattle.net_core.specs.Clock.{with_wires}
use Rattle.register_rules.specs.EqualRegisters.Alike.{HoldFirsts}
use Rattle.register_rules.proofs.EqualRegisters.WireLemmas.{hold_more}
use Rattle.register_rules.proofs.equal_registers.wires.equal_wires.Goals as goal

pub loop-i-preserved : goal.loop-i-preserved
loop-i-preserved c =
    let firsts = c.loop-i.firsts.items in
    let x = c.first_wire-first.result in
    record {
      count = omega (arith, ap length c.in_ok-push.ensures.items, length_push firsts x, c.loop-i.invariant.count);
      same = λ ins s held.
          let told = c.loop-i.invariant.same ins s held in
          subst (λ l. HoldFirsts l (with_wires ins s [] (map wire_of c.args.wires.now))) (sym c.in_ok-push.ensures.items)
          (hold_more firsts _ x told ((rw c.deref.ensures.value at c.first_wire-first.ensures) ins s held told));
    }
