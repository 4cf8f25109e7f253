use Rattle.read_net.proofs.TouchNet.MarkLemmas.{sends_some, sends_none}
use Rattle.read_net.proofs.touch_net.marks.reload_also.Goals as goal

pub returns-in_ok-out-in-Some : goal.returns-in_ok-out-in-Some
returns-in_ok-out-in-Some g c =
    let m = c.args.mark.now in
    sends_some c.args.part _ _ c.args.reload m.marked c.in_ok-out-in-Some.out m.guard c.in-Some.guard c.in_ok-sent-in-Some.sent _ c.in-Some.is c.in_ok-sent-in-Some.ensures c.in_ok-out-in-Some.ensures

pub returns-in_ok-out-in-None : goal.returns-in_ok-out-in-None
returns-in_ok-out-in-None g c =
    let m = c.args.mark.now in
    sends_none c.args.part _ _ c.args.reload m.marked c.in_ok-out-in-None.out m.guard c.in-None.is c.in_ok-out-in-None.ensures
