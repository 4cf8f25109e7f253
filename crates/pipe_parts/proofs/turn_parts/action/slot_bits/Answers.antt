use Rattle.std.proofs.Common.{rules, max, ◌≡◌, ◌≤◌, All, get_or, take, ap, sym, subst, arith}
use Rattle.std.proofs.lemmas.List.{take_all}
use Rattle.std.proofs.lemmas.List.Elements.{All-more, All-weaker}
use Rattle.commit_net.specs.declared.map_block.form.MapForm.{MapForm}
use Rattle.pipe_parts.proofs.turn_parts.action.slot_bits.Goals as goal

pub loop-form-preserved : goal.loop-form-preserved
loop-form-preserved c =
    let forms = c.args.forms.now in
    let n = c.loop-form.form-index in
    let f = c.form-item.result in
    let here : (get_or forms n f).bits ≡ f.bits = ap (λ (x : MapForm). x.bits) (sym c.form-item.is) in
    let most : c.max-most.result ≡ max c.loop-form.most f.bits = search rules in
    let small : (get_or forms n f).bits ≤ 16 = (c.requires n f c.loop-form-test.true).most in
    record {
      some = omega (arith, most, c.loop-form.invariant.some);
      most = omega (arith, here, small, c.loop-form.invariant.most, most);
      least = λ w lt all. omega (arith, most, c.loop-form.invariant.least w lt all, all n f c.loop-form-test.true, here);
      each = All-more (λ (x : MapForm). x.bits ≤ c.max-most.result) forms n f c.loop-form-test.true
          (All-weaker (λ (x : MapForm). x.bits ≤ c.loop-form.most) (λ (x : MapForm). x.bits ≤ c.max-most.result) (λ x h. omega (arith, h, most)) (take n forms) c.loop-form.invariant.each) (omega (arith, here, most));
    }

pub returns-clause-each : goal.returns-clause-each
returns-clause-each c =
    subst (All (λ (x : MapForm). x.bits ≤ c.loop-form.most)) (take_all c.loop-form.form-index c.args.forms.now (omega (arith, c.loop-form-test.false))) c.loop-form.invariant.each
