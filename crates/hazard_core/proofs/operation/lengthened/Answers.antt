use Rattle.std.proofs.Common.{ℕ, ◌+◌, ap, arith, length}
use Rattle.std.proofs.lemmas.List.{length-take-le, length-replicate}
use Rattle.hazard_core.proofs.operation.lengthened.Goals as goal

pub write-requires : goal.write-requires
write-requires c =
    omega (arith, length-take-le c.min-head.result c.args.value.now (omega arith), ap length c.zeros-longer.ensures, length-replicate {A = ℕ} (c.min-head.result + length c.args.bytes.now) 0)
