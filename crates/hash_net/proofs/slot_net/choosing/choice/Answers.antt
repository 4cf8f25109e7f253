use Rattle.std.proofs.Common.{◌≡◌, [], ◌∷◌, ◌+◌, ◌∙◌, length, map, ap, arith}
use Rattle.std.proofs.lemmas.List.{length-map, map-append}
use Rattle.net_core.specs.Nets.{TConst}
use Rattle.net_core.specs.Value.{word}
use Rattle.net_core.specs.View.{tree_of}
use Rattle.hash_net.specs.SlotNet.Choosing.{number_at}
use Rattle.hash_net.proofs.SlotNet.ChainLemmas.{no_choice, more_choice, all_chosen}
use Rattle.hash_net.proofs.slot_net.choosing.choice.Goals as goal

pub loop-test-init : goal.loop-test-init
loop-test-init g c = no_choice (map tree_of c.args.tests.items) c.args.first c.args.bits c.args.numbering c.args.rest _ c.in_ok-tree.ensures

pub number_at-requires : goal.number_at-requires
number_at-requires g c = omega (arith, length-map c.args.tests.items tree_of, length-map c.loop-test.tests.items tree_of, c.loop-test.invariant.fewer)

pub loop-test-preserved : goal.loop-test-preserved
loop-test-preserved g c =
    let left = c.pop.new.self.items in
    let n : c.len.result ≡ length (map tree_of left) = omega (arith, length-map left tree_of) in
    more_choice (map tree_of c.args.tests.items) (map tree_of c.loop-test.tests.items) (map tree_of left) c.args.first c.args.bits c.args.numbering c.args.rest (tree_of c.in-Some.test) _ (tree_of c.loop-test.tree) _ c.requires.width.most
    (λ n l. c.requires.room n (omega (arith, length-map c.args.tests.items tree_of)))
    (ap (map tree_of) c.in-Some.ensures.items ∙ map-append tree_of left (c.in-Some.test ∷ []))
    (c.constant-number.ensures ∙ ap (λ k. TConst (word c.args.bits k)) (c.number_at.ensures ∙ ap (λ k. number_at c.args.numbering (c.args.first + k)) n))
    c.in_ok-tree-2.ensures
    c.loop-test.invariant

pub returns : goal.returns
returns g c =
    all_chosen (map tree_of c.args.tests.items) (map tree_of c.loop-test.tests.items) c.args.first c.args.bits c.args.numbering c.args.rest (tree_of c.loop-test.tree) (length c.args.tests.items) (length-map c.args.tests.items tree_of) c.requires.few
    (omega (arith, length-map c.loop-test.tests.items tree_of, c.in_default.ensures.cases)) c.loop-test.invariant
