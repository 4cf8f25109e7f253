use Rattle.std.proofs.Common.{arith}
use Rattle.std.proofs.lemmas.List.FromFn.{fill_by_all}
use Rattle.flow_demo.specs.Draws.{draw}
use Rattle.flow_demo.specs.Packets.{byte_at}
use Rattle.flow_demo.proofs.frame.draw_bytes.Goals as goal

pub returns-clause-bytes : goal.returns-clause-bytes
returns-clause-bytes c =
    fill_by_all (λ k. byte_at k (draw c.args.draws.now k)) c.loop-place.frame _ 0 (omega arith) (λ k below. c.loop-place.invariant.bytes k (omega arith))
