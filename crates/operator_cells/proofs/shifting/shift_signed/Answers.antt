use Rattle.std.proofs.Common.{ℕ, ◌≡◌, ◌∙◌, ◌<◌, ◌^◌, ◌%◌, ap, sym, subst, arith}
use Rattle.cell_core.specs.bits_core.Bits.{arsh_of}
use Rattle.cell_core.specs.xdp_machine.Arithmetic.{bits_in, low}
use Rattle.operator_cells.proofs.Growing.{grown, makes_after}
use Rattle.operator_cells.proofs.Numbers.{low_below}
use Rattle.operator_cells.proofs.Shifts.{count_is}
use Rattle.operator_cells.proofs.SignedShifts.{shifted_signed}
use Rattle.operator_cells.proofs.RisingLaws.{stand_none, stand_more, rises_then}
use Rattle.operator_cells.proofs.shifting.shift_signed.Goals as goal

pub returns-clause-makes : goal.returns-clause-makes
returns-clause-makes c = λ signed.
    let x = c.in_ok-x.ensures.makes in
    let n = c.in_ok-count.ensures.makes in
    let s = c.in_ok-sign.ensures.makes in
    let o = c.in_ok-other.ensures.makes in
    let m = c.in_ok-moved.ensures.makes in
    let b = c.in_ok-back.ensures.makes in
    let p = c.in_ok-plain.ensures.makes in
    let w = bits_in c.args.width in
    makes_after _ _ _ _ _ _ (grown _ _ _ x.grows (grown _ _ _ n.grows (grown _ _ _ s.grows (grown _ _ _ o.grows (grown _ _ _ m.grows (grown _ _ _ b.grows p.grows))))))
    (rw c.bits-2.ensures at c.in_ok-c.ensures.makes)
    (λ packet v r.
    let rb = p.grows.run packet v r in
    let rm = b.grows.run packet v rb in
    let ro = m.grows.run packet v rm in
    let rs = o.grows.run packet v ro in
    let rn = s.grows.run packet v rs in
    let rx = n.grows.run packet v rn in
    let x_is : v c.in_ok-x.x ≡ low w (v c.args.a) = x.value packet v rx in
    let below : v c.in_ok-x.x < 2 ^ w = subst (λ (k : ℕ). k < 2 ^ w) (sym x_is) (low_below w (v c.args.a)) in
    let count : low 64 (v c.in_ok-count.count) % 64 ≡ low w (v c.args.b) % w = ap (λ (k : ℕ). low 64 k % 64) (rw c.count_bits.ensures at n.value packet v rn) ∙ count_is c.args.width (v c.args.b) in
    shifted_signed c.args.width (v c.in_ok-x.x) (low 64 (v c.in_ok-count.count) % 64) (v c.in_ok-sign.sign) (v c.in_ok-other.other) (v c.in_ok-moved.moved) (v c.in_ok-back.back) (v c.in_ok-plain.plain)
    below (rw c.bits.ensures at s.value packet v rs) (o.value packet v ro) (m.value packet v rm) (b.value packet v rb) (p.value packet v r)
    ∙ ap (λ (k : ℕ). arsh_of k (low 64 (v c.in_ok-count.count) % 64) w) x_is
    ∙ ap (λ (k : ℕ). arsh_of (low w (v c.args.a)) k w) count)

pub returns-clause-rises : goal.returns-clause-rises
returns-clause-rises c = rises_then (stand_more (stand_more (stand_more (stand_more (stand_more (stand_more (stand_more stand_none c.in_ok-x.ensures.rises (λ row p. omega arith)) c.in_ok-count.ensures.rises (λ row p. omega arith)) c.in_ok-sign.ensures.rises (λ row p. omega arith)) c.in_ok-other.ensures.rises (λ row p. omega arith)) c.in_ok-moved.ensures.rises (λ row p. omega arith)) c.in_ok-back.ensures.rises (λ row p. omega arith)) c.in_ok-plain.ensures.rises (λ row p. omega arith)) c.in_ok-c.ensures.rises (λ row p. omega arith)
