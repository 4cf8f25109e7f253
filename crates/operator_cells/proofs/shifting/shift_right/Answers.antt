use Rattle.std.proofs.Common.{ℕ, ◌∙◌, ap, false, arith}
use Rattle.cell_core.specs.bpf_isa.declared.operation.AluCode.TheVariants.{Rsh}
use Rattle.cell_core.specs.xdp_machine.Arithmetic.{bits_in, low, arithmetic}
use Rattle.cell_core.specs.Cells.{bits_from}
use Rattle.operator_cells.proofs.Growing.{grown, makes_after}
use Rattle.operator_cells.proofs.Shifts.{shifted_right}
use Rattle.operator_cells.proofs.RisingLaws.{stand_none, stand_more, rises_then}
use Rattle.operator_cells.proofs.shifting.shift_right.Goals as goal

pub returns-clause-makes : goal.returns-clause-makes
returns-clause-makes c = λ signed.
    let x = c.in_ok-x.ensures.makes in
    let n = c.in_ok-count.ensures.makes in
    let w = bits_in c.args.width in
    makes_after _ _ _ _ _ _ (grown _ _ _ x.grows n.grows) (rw c.bits.ensures at c.in_ok-c.ensures.makes)
    (λ packet v r.
    ap (λ (k : ℕ). bits_from (arithmetic Rsh false 64 (low 64 k) (low 64 (v c.in_ok-count.count))) 0 w) (x.value packet v (n.grows.run packet v r))
    ∙ ap (λ (k : ℕ). bits_from (arithmetic Rsh false 64 (low 64 (low w (v c.args.a))) (low 64 k)) 0 w) (rw c.count_bits.ensures at n.value packet v r)
    ∙ shifted_right c.args.width signed (v c.args.a) (v c.args.b))

pub returns-clause-rises : goal.returns-clause-rises
returns-clause-rises c = rises_then (stand_more (stand_more stand_none c.in_ok-x.ensures.rises (λ row p. omega arith)) c.in_ok-count.ensures.rises (λ row p. omega arith)) c.in_ok-c.ensures.rises (λ row p. omega arith)
