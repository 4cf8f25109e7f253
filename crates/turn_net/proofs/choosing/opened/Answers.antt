use Rattle.std.specs.Prelude.{nat_le}
use Rattle.std.proofs.Common.{◌∙◌, ◌&&◌, suc, [], ◌∷◌, ap, arith}
use Rattle.hazard_core.specs.cell_core.Cells.{bit, on}
use Rattle.hazard_core.specs.StageValues.{writes}
use Rattle.cell_nets.specs.declared.operand.Operand.TheVariants.{Known}
use Rattle.cell_nets.specs.Operands.{number_in, IsAvailable}
use Rattle.cell_nets.specs.Wires.{wires_of}
use Rattle.overlay_net.specs.SiteOperands.Sites.{operands_of, ShowsSite}
use Rattle.cell_nets.proofs.StepNets.ChainLaws.{starts, next, last}
use Rattle.cell_nets.proofs.StepNets.StepLaws.{all_each, on_bit}
use Rattle.turn_net.specs.Nets.{site_read}
use Rattle.turn_net.proofs.choosing.opened.Goals as goal

pub returns-clause-operand : goal.returns-clause-operand
returns-clause-operand g c = c.in_ok-out.ensures.operand

pub returns-clause-given : goal.returns-clause-given
returns-clause-given g c = λ p decls h is.
    let r = c.args.site.now in
    let done = c.args.done in
    let wrote = c.in_ok-wrote.wrote in
    let ahead = c.in_ok-ahead.ahead in
    last
    (next
    (next (starts c.args.part (wires_of c.args.wires.now.items) (done ∷ site_read r) (λ v. ShowsSite v p h r.number (operands_of r.nets.now))) (c.in_ok-wrote.ensures.given p decls h r.number is) (λ ins all k d l. all (suc k) d (omega arith)) (λ v f k. k))
    c.in_ok-ahead.ensures (λ ins all. all_each (IsAvailable ins) (done ∷ Known r.number ∷ []) (all 1 done (omega arith), (tt, tt))) (λ v f k. tt))
    c.in_ok-out.ensures (λ ins all. all_each (IsAvailable ins) (ahead ∷ wrote ∷ []) (all 0 ahead (omega arith), (all 1 wrote (omega arith), tt))) (λ v f k. tt) (λ v. bit (nat_le (number_in v done) r.number && writes p decls h r.number))
    (λ v f k. λ i. bit ((ap on k.1 ∙ on_bit (nat_le (number_in v done) r.number)) i && (ap on k.0.1 ∙ on_bit (writes p decls h r.number)) i))

pub both-requires-clause-right : goal.both-requires-clause-right
both-requires-clause-right g c = c.in_ok-wrote.ensures.operand
