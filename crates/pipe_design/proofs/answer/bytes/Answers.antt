use Rattle.std.proofs.Common.{◌≡◌, ◌+◌, All, map, take, refl, sym, subst, arith}
use Rattle.row_net.specs.PlaceNet.Exit.{byte_number}
use Rattle.pipe_design.specs.Answer.{IsByteIn}
use Rattle.pipe_design.proofs.Answering.{bytes_more, byte_numbers_more}
use Rattle.pipe_design.proofs.answer.bytes.Goals as goal

pub loop-byte-preserved : goal.loop-byte-preserved
loop-byte-preserved c =
    let table = c.args.table.now in
    let frame = c.args.frame.now in
    let i = c.loop-byte.byte-index in
    let before = c.loop-byte.invariant in
    let items = sym c.in_ok-push.ensures.items in
    record {
      inside = subst (All (IsByteIn table frame)) items (bytes_more table frame i _ c.loop-byte.all.items _ (omega arith) refl c.operand-operand.ensures before.inside);
      numbers = subst (λ l. map byte_number l ≡ map (λ y. y.at) (take (i + 1) frame)) items (byte_numbers_more frame i _ c.loop-byte.all.items _ (omega arith) refl before.numbers);
    }
