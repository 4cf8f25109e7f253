-- Of all operands of a site those of its key, and the others.
use Rattle.std.proofs.Common.{suc, All, arith}
use Rattle.block_core.proofs.list_laws_laws.AllLaws.{all_left, all_right}
use Rattle.cell_nets.specs.declared.operand.Operand.{Operand}
use Rattle.overlay_net.specs.SiteOperands.Sites.{SiteOperands, all_of}

pub keys_of : {N : Type 0} (Q : Operand N → Type 0) (s : SiteOperands N) → All Q (all_of s) → All Q s.key
keys_of Q s h = all_left Q s.key s.operands (λ n d lt. h (suc (suc (suc (suc n)))) d (omega arith))

pub others_of : {N : Type 0} (Q : Operand N → Type 0) (s : SiteOperands N) → All Q (all_of s) → All Q s.operands
others_of Q s h = all_right Q s.key s.operands (λ n d lt. h (suc (suc (suc (suc n)))) d (omega arith))
