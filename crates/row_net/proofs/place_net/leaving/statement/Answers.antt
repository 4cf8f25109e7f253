use Rattle.std.proofs.Common.{◌≡◌, refl, ap, ◌∙◌, length, map as map_list, arith}
use Rattle.net_core.specs.Nets.{SThen}
use Rattle.net_core.specs.View.{tree_of, statements_of}
use Rattle.frame_net.specs.Stores.{store_statement, store_statements}
use Rattle.row_net.specs.PlaceNet.ExitNets.{exit_store, exit_stores}
use Rattle.row_net.proofs.PlaceNet.ListLemmas.{popped}
use Rattle.row_net.proofs.place_net.leaving.statement.Goals as goal

pub loop-value-preserved : goal.loop-value-preserved
loop-value-preserved g c =
    let n : c.len-memory.result ≡ length c.pop.new.self.items = omega arith in
    record {
      few = omega (arith, c.in-Some.ensures.len, c.loop-value.invariant.few);
      statements =
          popped (λ at x. store_statement at (exit_store c.args.exits c.args.slot (tree_of x))) (λ at xs. store_statements at (exit_stores c.args.exits c.args.slot (map_list tree_of xs))) _ _ _ _ _ _ (record { none = λ at. refl; more = λ at x xs. refl })
          c.in-Some.ensures.items (c.in_ok-list.ensures ∙ ap (λ a. SThen a (statements_of c.loop-value.list)) (c.in_ok-first.ensures ∙ ap (λ k. store_statement k (exit_store c.args.exits c.args.slot (tree_of c.in-Some.value))) n))
          c.loop-value.invariant.statements;
    }
