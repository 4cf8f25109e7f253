use Rattle.std.proofs.Common.{◌∙◌, refl, sym, ap, List, map}
use Rattle.net_core.specs.declared.tree.Net.{Net}
use Rattle.net_core.specs.declared.tree.Stmt.{Stmt}
use Rattle.net_core.specs.Nets.{SEnd}
use Rattle.net_core.specs.View.{statement_of, statements_of}
use Rattle.net_core.specs.Clock.{all_done, edge}
use Rattle.net_optimize.proofs.SimpleLogic.ListLemmas.{edge_push}
use Rattle.net_optimize.proofs.SimpleLogic.LostLemmas.{none_overwritten}
use Rattle.net_optimize.proofs.simple_logic.lost_sets.without_lost.Goals as goal

pub loop-last-init : goal.loop-last-init
loop-last-init c = record { done = λ v s. refl; overwritten = none_overwritten SEnd _ c.new-registers.ensures.empty }

pub loop-last-preserved : goal.loop-last-preserved
loop-last-preserved c =
    let l = c.loop-last in
    let first = c.pop.new.self.items in
    record {
      done = λ v s.
          c.in_ok-list.ensures.done v (edge v (map statement_of first) s)
          ∙ sym (ap (λ (xs : List (Stmt Net)). all_done v (statements_of l.list) (edge v (map statement_of xs) s)) c.in-Some.ensures.items ∙ ap (all_done v (statements_of l.list)) (edge_push v first c.in-Some.last s))
          ∙ l.invariant.done v s;
      overwritten = c.in_ok-list.ensures.overwritten;
    }
