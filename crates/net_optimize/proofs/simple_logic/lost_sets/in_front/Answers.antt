use Rattle.std.proofs.Common.{◌∙◌, sym}
use Rattle.std.proofs.lemmas.Result.{IfOk-weaker}
use Rattle.net_core.specs.View.{statement_of, statements_of}
use Rattle.net_optimize.proofs.SimpleLogic.LostLemmas.{overwritten_set, nothing_left}
use Rattle.net_optimize.proofs.simple_logic.lost_sets.in_front.Goals as goal

pub returns-then-has-clause-done : goal.returns-then-has-clause-done
returns-then-has-clause-done c v s =
    let is = c.in-Some.ensures in
    nothing_left v c.in-Some.k is.0 (statement_of c.args.stmt) (statements_of c.args.later) c.args.registers.now.keys s is.1 c.requires (sym c.has.ensures ∙ c.if-has.true)

pub returns-clause-overwritten : goal.returns-clause-overwritten
returns-clause-overwritten c =
    let is = c.in-Some.ensures in
    IfOk-weaker c.then-2.result _ _
    (λ r made. overwritten_set c.in-Some.k is.0 (statement_of c.args.stmt) (statements_of c.args.later) (statements_of r) c.args.registers.now.keys c.add.new.registers.keys is.1 made c.in_ok-add.ensures c.requires)
    c.then-2.ensures
