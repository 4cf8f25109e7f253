use Rattle.std.proofs.Common.{◌∙◌, ◌∷◌, [], ◌++◌, sym, ap, arith}
use Rattle.std.proofs.lemmas.List.{take_all, length-map}
use Rattle.commit_net.specs.Choosing.{chosen_of, paired}
use Rattle.commit_net.proofs.ChooseLemmas.{pushed_pair}
use Rattle.commit_net.proofs.choosing.pairs.Goals as goal

pub loop-i-preserved : goal.loop-i-preserved
loop-i-preserved g c =
    let l = c.loop-i in
    pushed_pair c.args.sites.now c.args.values.now l.i l.all.items c.push.new.self.items c.push-in-loop-i.new.self.items c.index-sites-i.result c.index-values-i.result (omega arith) (omega arith) c.index-sites-i.is c.index-values-i.is (c.in_ok-push.ensures.items ∙ ap (λ n. l.all.items ++ n.chosen ∷ []) (sym c.index-sites-i.is)) c.in_ok-push-2.ensures.items l.invariant

pub returns : goal.returns
returns g c =
    let l = c.loop-i in
    let ns = c.args.sites.now in
    let ys = c.args.values.now in
    l.invariant ∙ (λ i. paired (take_all l.i (chosen_of ns) (omega (arith, length-map ns (λ n. n.chosen))) i) (take_all l.i ys (omega arith) i))
