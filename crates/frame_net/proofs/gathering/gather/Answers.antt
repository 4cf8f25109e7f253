use Rattle.std.proofs.Common.{map, length, arith, [], ◌∷◌, ◌++◌, ap, ◌∙◌}
use Rattle.net_core.specs.Value.{word}
use Rattle.frame_net.specs.GatherNets.{gather_block, gather_statement}
use Rattle.frame_net.specs.Gather.{memory_widths}
use Rattle.frame_net.specs.Stores.{widths_memory}
use Rattle.frame_net.proofs.BankLaws.{few_further}
use Rattle.frame_net.proofs.FormLaws.{same_block}
use Rattle.frame_net.proofs.GatherWhole.{is_gather}
use Rattle.frame_net.proofs.gathering.gather.Goals as goal

pub returns : goal.returns
returns g c =
    is_gather c.args.part c.args.bits c.args.kept.now c.args.over c.args.slot _ c.requires.some c.requires.most c.requires.words
    (same_block (gather_block c.args.part c.args.bits c.args.kept.now c.args.over c.args.slot) _ _ _ _
    (c.in_ok-push-2.ensures.items ∙ ap (λ l. l ++ word 11 0 ∷ []) (c.in_ok-push.ensures.items ∙ ap (λ l. l ++ word 1 0 ∷ []) c.new-registers.ensures.items))
    (c.in_ok-memories.ensures ∙ ap (λ l. map widths_memory (memory_widths c.args.bits l)) (c.deref.ensures.value ∙ c.in_ok-further.ensures)) c.in_ok-wires.ensures
    (c.in_ok-statement.ensures ∙ ap (λ l. gather_statement c.args.part c.args.bits l c.args.over c.args.slot) (c.deref-2.ensures.value ∙ c.in_ok-further.ensures)))

pub statement-requires : goal.statement-requires
statement-requires g c = record { most = c.requires.most; few = let e = ap length (c.deref-2.ensures.value ∙ c.in_ok-further.ensures) in omega (arith, e, few_further c.args.bits c.args.kept.now c.requires.most c.requires.few) }
