use Rattle.std.proofs.Common.{◌≡◌, ◌+◌, ◌<◌, length, refl, sym, subst, arith}
use Rattle.std.proofs.lemmas.List.Elements.{All-head, All-tail, All-get_or}
use Rattle.net_core.specs.View.{tree_of}
use Rattle.overlay_net.specs.cell_core.Cells.{bit}
use Rattle.overlay_net.specs.hazard_core.Commits.{word_count}
use Rattle.cell_nets.specs.Operands.{IsOperand, IsAvailable}
use Rattle.cell_nets.specs.Parts.{IsPart}
use Rattle.cell_nets.proofs.ExpressionPartLaws.{part_of}
use Rattle.hash_net.specs.SlotNet.Slots.{slot_operands}
use Rattle.hash_net.specs.SlotNet.Choosing.{is_under}
use Rattle.hash_net.proofs.SlotNet.TestLemmas.{under_more}
use Rattle.hash_net.proofs.slot_net.testing.key_test.Goals as goal

pub word_test-requires-clause-left : goal.word_test-requires-clause-left
word_test-requires-clause-left g c =
    let xs = c.args.slot.now.key.items in
    let x = c.index.result.now in
    subst IsOperand (sym c.index.ensures) (All-get_or IsOperand xs c.loop-w.w x (omega (arith, c.requires.slot.words)) (All-tail IsOperand c.args.slot.now.used xs c.requires.slot.operands))

pub loop-w-init : goal.loop-w-init
loop-w-init g c = λ ins a k. part_of ins 2 3 1 _ _ _ (omega arith) refl (c.in_ok-test.ensures ins (All-head (IsAvailable ins) c.args.slot.now.used c.args.slot.now.key.items a))

pub loop-w-preserved : goal.loop-w-preserved
loop-w-preserved g c = λ ins a k.
    let xs = c.args.slot.now.key.items in
    let ys = c.args.key.now in
    let w = c.loop-w.w in
    let x = c.index.result.now in
    let y = c.index-key-w.result in
    let there : w < length xs = omega (arith, c.requires.slot.words) in
    let also : w < length ys = omega (arith, c.requires.words) in
    under_more ins c.args.bytes w c.word_width-width.result ys (slot_operands c.args.slot.now) x y _ _ _ there also c.index.ensures c.index-key-w.is c.word_width-width.ensures.width c.in_ok-test-2.ensures (c.loop-w.invariant ins a k)
    (c.in_ok-same.ensures ins (subst (IsAvailable ins) (sym c.index.ensures) (All-get_or (IsAvailable ins) xs w x there (All-tail (IsAvailable ins) c.args.slot.now.used xs a))) (subst (IsAvailable ins) (sym c.index-key-w.is) (All-get_or (IsAvailable ins) ys w y also k)))

pub returns : goal.returns
returns g c = λ ins a k.
    let e : c.loop-w.w ≡ word_count c.args.bytes = omega arith in
    part_of ins (3 + word_count c.args.bytes) 8 1 _ _ _ (omega arith) refl
    (subst (λ w. IsPart ins (3 + w) 1 (λ v. bit (is_under v c.args.bytes c.args.key.now (slot_operands c.args.slot.now) w)) (tree_of c.loop-w.test)) e (c.loop-w.invariant ins a k))
