use Rattle.std.proofs.Common.{◌∙◌, ap, arith}
use Rattle.std.proofs.lemmas.List.{take_all}
use Rattle.commit_net.specs.ChangeNet.Changes.{key_pairs}
use Rattle.commit_net.proofs.ChangeNet.PairLemmas.{pair_pushed}
use Rattle.commit_net.proofs.change_net.keys.key_pairs.Goals as goal

pub loop-site-preserved : goal.loop-site-preserved
loop-site-preserved g c =
    let l = c.loop-site in
    let n = c.site-item.result in
    pair_pushed c.args.w c.args.there c.args.sites.now l.site-index l.all.items c.push.new.self.items c.push-in-loop-site.new.self.items n c.key_by.result (omega arith) c.site-item.is c.key_by.ensures c.in_ok-push.ensures.items c.in_ok-push-2.ensures.items l.invariant

pub returns : goal.returns
returns g c = c.loop-site.invariant ∙ ap (key_pairs c.args.w c.args.there) (take_all c.loop-site.site-index c.args.sites.now (omega arith))
