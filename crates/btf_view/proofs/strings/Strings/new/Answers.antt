-- The loop stops after the last zero byte, or at 0.
use Rattle.std.proofs.Common.{arith}
use Rattle.btf_view.proofs.NameEnds.{HasNamesBelow-last_zero}
use Rattle.btf_view.proofs.strings.Strings.new.Goals as goal
use Rattle.btf_view.proofs.strings.Strings.new.Goals.{then-loop-end-test+else-bytes-end-ne0, else-loop-end-test}

pub invariant_of-result : goal.invariant_of-result
invariant_of-result c =
    HasNamesBelow-last_zero c.args.bytes.now c.loop-end.end c.loop-end.invariant.inside c.loop-end.invariant.none
    (λ some. elim c.loop-end-test.branch [
      | then-loop-end-test+else-bytes-end-ne0 w ↦ w.if-bytes-end-ne0.false
      | else-loop-end-test w ↦ absurd (omega arith)
    ])
