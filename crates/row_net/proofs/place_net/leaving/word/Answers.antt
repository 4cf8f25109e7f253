use Rattle.std.proofs.Common.{◌≡◌, suc, ◌+◌, ◌*◌, sym, ap, subst, arith}
use Rattle.net_core.specs.Nets.{TMore, TConcatenation}
use Rattle.net_core.specs.View.{tree_of, trees_of}
use Rattle.row_net.specs.PlaceNet.ExitNets.{IsByte, AreBytes}
use Rattle.row_net.proofs.PlaceNet.WordLemmas.{lowest, one_more}
use Rattle.row_net.proofs.place_net.leaving.word.Goals as goal

pub loop-k-init : goal.loop-k-init
loop-k-init g c = λ ins h.
    let e : 8 * c.from-first.result ≡ 8 * c.args.number = omega (arith, c.from-first.ensures) in
    lowest ins c.args.bytes.now c.args.number (tree_of c.in_ok-lowest.lowest) (subst (λ n. IsByte ins c.args.bytes.now n (tree_of c.in_ok-lowest.lowest)) e (c.in_ok-lowest.ensures ins h))

pub loop-k-preserved : goal.loop-k-preserved
loop-k-preserved g c = λ ins h.
    let k = c.loop-k.k in
    let t = tree_of c.in_ok-higher.higher in
    let e : 8 * c.from-first.result + k ≡ 8 * c.args.number + k = omega (arith, c.from-first.ensures) in
    let n : suc k ≡ k + 1 = omega arith in
    subst (λ ps. AreBytes ins c.args.bytes.now c.args.number (k + 1) (TMore t (trees_of ps))) (sym c.in_ok-new.ensures.ok)
    (subst (λ j. AreBytes ins c.args.bytes.now c.args.number j (TMore t (trees_of c.loop-k.parts))) n
    (one_more ins c.args.bytes.now c.args.number k t (trees_of c.loop-k.parts) (subst (λ j. IsByte ins c.args.bytes.now j t) e (c.in_ok-higher.ensures ins h)) (c.loop-k.invariant ins h) (omega arith) c.loop-k-test.true))

pub returns : goal.returns
returns g c = λ ins h.
    let whole : c.loop-k.k ≡ 8 = omega (arith, c.loop-k-test.false) in
    record {
      parts = trees_of c.loop-k.parts;
      is = ap (λ ps. TConcatenation (trees_of ps)) c.in_ok-new-2.ensures.ok;
      pieces = subst (λ j. AreBytes ins c.args.bytes.now c.args.number j (trees_of c.loop-k.parts)) whole (c.loop-k.invariant ins h);
    }
