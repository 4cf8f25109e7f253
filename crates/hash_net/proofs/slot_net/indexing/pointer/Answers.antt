use Rattle.std.proofs.Common.{◌∙◌, ap, arith}
use Rattle.net_core.specs.Nets.{TConst}
use Rattle.net_core.specs.Value.{word}
use Rattle.hash_net.proofs.SlotNet.PointerLemmas.{pointer_part}
use Rattle.hash_net.proofs.slot_net.indexing.pointer.Goals as goal

pub returns : goal.returns
returns g c = λ ins a.
    pointer_part ins c.args.cap c.args.bits c.args.index _ _ _ _ _ _ _ _ (omega arith) c.requires.some c.requires.most (c.constant.ensures ∙ ap (λ k. TConst (word 32 k)) c.from.ensures) c.constant-2.ensures c.constant-3.ensures c.in_ok-inside.ensures c.in_ok-there.ensures c.in_ok-e.ensures
    (c.in_ok-number.ensures ins a) (c.in_ok-low.ensures ins a)
