use Rattle.std.proofs.Common.{◌∙◌, ◌∷◌, [], ◌++◌, map, sym, ap, arith}
use Rattle.std.proofs.lemmas.List.{map_more, take_all}
use Rattle.commit_net.specs.Choosing.{asked_of}
use Rattle.commit_net.proofs.choosing.all_asked.Goals as goal

pub loop-site-preserved : goal.loop-site-preserved
loop-site-preserved g c =
    let l = c.loop-site in
    let f = asked_of c.args.what in
    let n = c.site-item.result in
    c.in_ok-push.ensures.items ∙ (λ i. l.invariant i ++ (c.wanted.ensures ∙ ap f c.site-item.is) i ∷ []) ∙ sym (map_more f c.args.sites.now l.site-index n (omega arith))

pub returns : goal.returns
returns g c = c.loop-site.invariant ∙ ap (map (asked_of c.args.what)) (take_all c.loop-site.site-index c.args.sites.now (omega arith))
