use Rattle.std.proofs.Common.{◌≡◌, get_or, ap, ◌∙◌}
use Rattle.unfold_core.proofs.NodeSteps.{before_goes_at}
use Rattle.unfold_core.proofs.nodes.comes_before.Goals as goal

pub loop-k-preserved : goal.loop-k-preserved
loop-k-preserved c =
    let one : c.copy_at-c.result ≡ get_or c.args.a.now.copies c.loop-k.k 0 = c.copy_at-c.ensures ∙ ap (λ xs. get_or xs c.loop-k.k 0) (c.deref.ensures.value ∙ ap (λ n. n.copies) c.a.view_is) in
    let other : c.copy_at-d.result ≡ get_or c.args.b.now.copies c.loop-k.k 0 = c.copy_at-d.ensures ∙ ap (λ xs. get_or xs c.loop-k.k 0) (c.deref-in-loop-k.ensures.value ∙ ap (λ n. n.copies) c.b.view_is) in
    before_goes_at c.args.loops.now c.args.a.now.place c.args.b.now.place c.args.a.now.copies c.args.b.now.copies c.loop-k.k _ c.copy_at-c.result c.copy_at-d.result c.a.inside.place c.b.inside.place c.differs.result
    c.loop-k-test.true one other (ap (λ n. n.place) c.a.view_is) (ap (λ n. n.place) c.b.view_is) c.differs.ensures c.if-differs.false
    ∙ c.loop-k.invariant
