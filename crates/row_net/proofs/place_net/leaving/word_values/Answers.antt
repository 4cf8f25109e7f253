use Rattle.std.proofs.Common.{[], subst, sym, map as map_list}
use Rattle.std.specs.List.{AllZip}
use Rattle.std.proofs.lemmas.List.{take_all}
use Rattle.net_core.specs.View.{tree_of}
use Rattle.row_net.specs.PlaceNet.ExitNets.{IsFrameWord}
use Rattle.row_net.proofs.PlaceNet.ListLemmas.{zip_more}
use Rattle.row_net.proofs.place_net.leaving.word_values.Goals as goal

pub loop-number-init : goal.loop-number-init
loop-number-init g c = λ ins h. subst (λ l. AllZip (IsFrameWord ins c.args.bytes.now) [] (map_list tree_of l)) (sym c.new-all.ensures.items) tt

pub loop-number-preserved : goal.loop-number-preserved
loop-number-preserved g c = λ ins h.
    zip_more (IsFrameWord ins c.args.bytes.now) tree_of c.args.words.now c.loop-number.number-index 0 c.loop-number.all.items c.push.new.self.items c.in_ok-word.field-0 c.in_ok-push.ensures.items c.loop-number-test.true (c.loop-number.invariant ins h)
    (c.in_ok-word.ensures ins h)

pub returns : goal.returns
returns g c = λ ins h.
    subst (λ ws. AllZip (IsFrameWord ins c.args.bytes.now) ws (map_list tree_of c.loop-number.all.items)) (take_all c.loop-number.number-index c.args.words.now c.loop-number-test.false) (c.loop-number.invariant ins h)
