use Rattle.std.specs.Prelude.{suc}
use Rattle.std.proofs.Common.{◌≡◌, ◌++◌, ◌∷◌, [], sym, ap, subst, map, take, length, add-one, arith, length-append}
use Rattle.std.proofs.lemmas.List.{take_all}
use Rattle.net_core.specs.View.{wire_of}
use Rattle.net_rules.specs.NetSizes.Fitting.{sizes_of}
use Rattle.net_rules.specs.NetSizes.Keeping.{WiresFit}
use Rattle.net_rules.proofs.NetSizes.WireLemmas.{wires_fit_more}
use Rattle.net_rules.proofs.net_sizes.wires.with_wires.Goals as goal

pub loop-wire-preserved : goal.loop-wire-preserved
loop-wire-preserved c =
    let i = c.loop-wire.wire-index in
    let known = c.loop-wire.sizes.wires.items in
    let registers = c.loop-wire.sizes.registers.items in
    let z = c.right_size-size.result in
    let pushed : c.push.new.self.items ≡ known ++ z ∷ [] = c.in_ok-push.ensures.items in
    let old = c.loop-wire.invariant in
    let one_more = wires_fit_more registers known z c.args.wires.now i c.wire-item.result (omega arith) c.wire-item.is old.count c.right_size-size.ensures old.fit in
    record {
      registers = old.registers;
      count = omega (arith, ap length pushed, length-append known (z ∷ []), old.count);
      fit = rw add-one (subst (λ zs. WiresFit (record { registers = registers; wires = zs }) (map wire_of (take (suc i) c.args.wires.now))) (sym pushed) one_more);
    }

pub returns-clause-wires : goal.returns-clause-wires
returns-clause-wires c = subst (λ xs. WiresFit (sizes_of c.loop-wire.sizes) (map wire_of xs)) (take_all c.loop-wire.wire-index c.args.wires.now (omega arith)) c.loop-wire.invariant.fit
