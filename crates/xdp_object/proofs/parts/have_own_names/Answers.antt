-- A name that one before it has, or none.
use Rattle.std.proofs.Common.{arith}
use Rattle.xdp_object.proofs.PartLemmas.{name_free, name_taken}
use Rattle.xdp_object.proofs.parts.have_own_names.Goals as goal

pub returns-then-is_taken : goal.returns-then-is_taken
returns-then-is_taken c = (
  λ yes. absurd (cc),
  λ pairs. absurd (name_taken c.args.decls.now c.loop-i.i _ _ (omega arith) c.as_slice.ensures.bytes (c.is_taken.ensures.taken.0 c.if-is_taken.true) pairs),
)

pub loop-i-preserved : goal.loop-i-preserved
loop-i-preserved c =
    name_free c.args.decls.now c.loop-i.i _ _ (omega arith) c.as_slice.ensures.bytes (λ found. let yes = c.is_taken.ensures.taken.1 found in absurd (cc)) c.loop-i.invariant
