use Rattle.std.proofs.Common.{◌∙◌, ◌++◌, ◌∷◌, [], ap, sym, arith, add-one}
use Rattle.std.proofs.lemmas.List.FromFn.{map-range_with_len_more}
use Rattle.flow_demo.specs.Draws.{draw, drawn, first_draws, next_state}
use Rattle.flow_demo.proofs.draws.first_draws.Goals as goal

pub loop-preserved : goal.loop-preserved
loop-preserved c =
    let before = c.loop.invariant in
    let seed = c.args.seed in
    let n = c.loop.counter in
    let state = c.draw.ensures.state ∙ ap next_state before.state in
    record {
      state = rw add-one state;
      draws = c.in_ok-push.ensures.items ∙ ap (λ xs. xs ++ c.draw.result ∷ []) before.draws ∙ ap (λ x. first_draws seed n ++ x ∷ []) (c.draw.ensures.drawn ∙ ap drawn state) ∙ sym (map-range_with_len_more (draw seed) 0 n n (omega arith));
    }
