use Rattle.operator_cells.proofs.Growing.{grown, makes_after}
use Rattle.operator_cells.proofs.SignedDivision.{signed_is}
use Rattle.std.proofs.Common.{arith}
use Rattle.operator_cells.proofs.RisingLaws.{stand_none, stand_more, rises_then}
use Rattle.operator_cells.proofs.dividing.divide_signed.Goals as goal

pub returns-clause-makes : goal.returns-clause-makes
returns-clause-makes c =
    let x = c.in_ok-x.ensures.makes in
    let y = c.in_ok-y.ensures.makes in
    let l = rw c.bits.ensures at c.in_ok-left.ensures.makes in
    let s = rw c.bits-2.ensures at c.in_ok-right.ensures.makes in
    let p = c.in_ok-p.ensures.makes in
    let q = c.in_ok-q.ensures.makes in
    let n = rw c.bits-3.ensures at c.in_ok-n.ensures.makes in
    let d = c.in_ok-side.ensures.makes in
    let t = c.in_ok-turned.ensures.makes in
    makes_after _ _ _ _ _ _ (grown _ _ _ x.grows (grown _ _ _ y.grows (grown _ _ _ l.grows (grown _ _ _ s.grows (grown _ _ _ p.grows (grown _ _ _ q.grows (grown _ _ _ n.grows (grown _ _ _ d.grows t.grows))))))))
    c.in_ok-c.ensures.makes
    (λ packet v r.
    let rd = t.grows.run packet v r in
    let rn = d.grows.run packet v rd in
    let rq = n.grows.run packet v rn in
    let rp = q.grows.run packet v rq in
    let rs = p.grows.run packet v rp in
    let rl = s.grows.run packet v rs in
    let ry = l.grows.run packet v rl in
    let rx = y.grows.run packet v ry in
    signed_is c.args.width c.args.rest (v c.args.a) (v c.args.b) (v c.in_ok-x.x) (v c.in_ok-y.y) (v c.in_ok-left.left) (v c.in_ok-right.right) (v c.in_ok-p.p) (v c.in_ok-q.q) (v c.in_ok-n.n) (v c.in_ok-side.side) (v c.in_ok-turned.turned)
    (x.value packet v rx) (y.value packet v ry) (l.value packet v rl) (s.value packet v rs) (p.value packet v rp) (q.value packet v rq) (n.value packet v rn) (d.value packet v rd) (t.value packet v r))

pub returns-clause-rises : goal.returns-clause-rises
returns-clause-rises c = rises_then (stand_more (stand_more (stand_more (stand_more (stand_more (stand_more (stand_more (stand_more (stand_more stand_none c.in_ok-x.ensures.rises (λ row p. omega arith)) c.in_ok-y.ensures.rises (λ row p. omega arith)) c.in_ok-left.ensures.rises (λ row p. omega arith)) c.in_ok-right.ensures.rises (λ row p. omega arith)) c.in_ok-p.ensures.rises (λ row p. omega arith)) c.in_ok-q.ensures.rises (λ row p. omega arith)) c.in_ok-n.ensures.rises (λ row p. omega arith)) c.in_ok-side.ensures.rises (λ row p. omega arith)) c.in_ok-turned.ensures.rises (λ row p. omega arith)) c.in_ok-c.ensures.rises (λ row p. omega arith)
