use Rattle.std.proofs.Common.{[], ◌∷◌, refl, arith, ap, sym, ◌∙◌, ◌+◌, append-nil, map}
use Rattle.net_core.specs.Nets.{SBlock, SEnd}
use Rattle.net_core.specs.Chains.{statements_before}
use Rattle.net_core.specs.View.{statement_of}
use Rattle.frame_net.specs.Stores.{store_statement, store_statements}
use Rattle.frame_net.specs.GatherNets.{further_store}
use Rattle.frame_net.proofs.LoopLaws.{one_more, at_end, map_pushed}
use Rattle.frame_net.proofs.gathering.statement.Goals as goal

pub loop-what-preserved : goal.loop-what-preserved
loop-what-preserved g c =
    let stores = further_store c.args.part c.args.bits c.args.over c.args.slot in
    record {
      number = omega (arith, c.loop-what.invariant.number);
      statements = one_more (λ at zs. store_statements at (map stores zs)) (λ at x. store_statement at (stores x) ∷ []) (λ at x zs. refl) c.args.further.now c.loop-what.what-index c.loop-what.memory (c.loop-what.memory + 1) _ (map statement_of c.loop-what.all.items) _ _
          (map_pushed statement_of c.loop-what.all.items _ _ _ c.in_ok-push.ensures.items c.in_ok-further_statement.ensures) c.loop-what-test.true (omega arith) c.loop-what.invariant.statements;
    }

pub returns : goal.returns
returns g c =
    let stores = further_store c.args.part c.args.bits c.args.over c.args.slot in
    c.in_ok-whole.ensures
    ∙ ap SBlock
    (c.in_ok-statements.ensures
    ∙ ap (λ l. statements_before l SEnd)
    (sym (append-nil _) ∙ at_end (λ at zs. store_statements at (map stores zs)) c.args.further.now c.loop-what.what-index c.loop-what.memory _ _ c.loop-what-test.false c.loop-what.invariant.statements))
