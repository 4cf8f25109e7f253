use Rattle.std.proofs.Common.{[], ◌∷◌, ◌++◌, ◌-◌, ◌+◌, refl, ap, sym, ◌∙◌, append-nil, map}
use Rattle.frame_net.specs.declared.held.Further.TheVariants.{Kept as Keep}
use Rattle.frame_net.specs.Frames.{banks_from}
use Rattle.frame_net.proofs.BankLaws.{banks_more, banks_done}
use Rattle.frame_net.proofs.LoopLaws.{one_more, at_end}
use Rattle.frame_net.proofs.gathering.further.Goals as goal

pub loop-what-preserved : goal.loop-what-preserved
loop-what-preserved c = one_more (λ _ zs. map Keep zs) (λ _ x. Keep x ∷ []) (λ _ x zs. refl) c.args.kept.now c.loop-what.what-index 0 1 _ c.loop-what.all.items _ _ c.in_ok-push.ensures.items c.loop-what-test.true refl c.loop-what.invariant

pub loop-bank-init : goal.loop-bank-init
loop-bank-init c =
    let e = sym (append-nil c.loop-what.all.items) ∙ at_end (λ _ zs. map Keep zs) c.args.kept.now c.loop-what.what-index 0 c.loop-what.all.items _ c.loop-what-test.false c.loop-what.invariant in
    λ i. e i ++ banks_from 1 (c.banks-bank-end.ensures i - 1)

pub loop-bank-preserved : goal.loop-bank-preserved
loop-bank-preserved c = ap (λ l. l ++ banks_from (c.loop-bank.bank + 1) (c.banks-bank-end.result - (c.loop-bank.bank + 1))) c.in_ok-push-2.ensures.items ∙ banks_more c.loop-bank.bank c.banks-bank-end.result c.loop-bank.all.items _ c.loop-bank-test.true c.loop-bank.invariant

pub returns : goal.returns
returns c = banks_done c.loop-bank.bank c.banks-bank-end.result c.loop-bank.all.items _ c.loop-bank-test.false c.loop-bank.invariant
