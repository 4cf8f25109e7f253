use Rattle.std.specs.Prelude.{vec_len}
use Rattle.std.proofs.Common.{◌≡◌, ◌-◌, ◌*◌, ◌/◌, ◌≤◌, false, ◌∙◌, length, map, sym, ap, subst, arith}
use Rattle.std.proofs.lemmas.Bool.{eqb-true}
use Rattle.std.proofs.lemmas.List.{length-map, take-map, drop-map}
use Rattle.net_core.specs.View.{tree_of}
use Rattle.cell_nets.specs.Wires.{wires_of}
use Rattle.hash_net.proofs.SlotNet.ChainLemmas.{IsChain, no_chain, more_chain, all_chain, last_choice}
use Rattle.hash_net.proofs.slot_net.choosing.first_of.Goals as goal

pub chain-init : goal.chain-init
chain-init g c = no_chain c.args.part (wires_of c.args.wires.now.items) (map tree_of c.args.tests.items) c.args.bits c.args.numbering c.args.none c.requires.small c.requires.width.most (omega arith)

pub chain-preserved : goal.chain-preserved
chain-preserved g c =
    let left = c.chain.tests.items in
    let all = c.args.tests.items in
    let first = (c.len.result - 1) / 30 * 30 in
    let inside : first ≤ length (map tree_of left) = omega (arith, length-map left tree_of) in
    subst (λ l. IsChain c.args.part (wires_of c.args.wires.now.items) (wires_of c.add_wire.new.wires.items) (map tree_of all) l c.args.bits c.args.numbering c.args.none c.in_ok-rest.rest) (take-map tree_of first left ∙ ap (map tree_of) (sym c.in_ok-last.ensures.items))
    (more_chain c.args.part (wires_of c.args.wires.now.items) (wires_of c.chain.wires.items) (wires_of c.add_wire.new.wires.items) (map tree_of all) (map tree_of left) first c.args.bits c.args.numbering c.args.none c.chain.rest c.in_ok-rest.rest (tree_of c.in_ok-tree.tree)
    inside c.requires.width.most c.requires.small (λ n l. c.requires.room n (omega (arith, length-map all tree_of)))
    (last_choice (map tree_of left) (map tree_of c.in_ok-last.last.items) first (length c.in_ok-last.last.items) c.args.bits c.args.numbering c.chain.rest (tree_of c.in_ok-tree.tree)
    (ap (map tree_of) c.in_ok-last.ensures.tail ∙ sym (drop-map tree_of first left)) (length-map c.in_ok-last.last.items tree_of) c.in_ok-tree.ensures)
    c.in_ok-rest.ensures.operand (c.in_ok-rest.ensures.gives false) c.chain.invariant)

pub returns : goal.returns
returns g c =
    let e : vec_len c.chain.tests ≡ 0 = eqb-true (vec_len c.chain.tests) 0 (sym c.is_empty.ensures ∙ c.chain-test.false) in
    all_chain c.args.part (wires_of c.args.wires.now.items) (wires_of c.chain.wires.items) (map tree_of c.args.tests.items) (map tree_of c.chain.tests.items) c.args.bits c.args.numbering c.args.none c.chain.rest (length c.args.tests.items)
    (length-map c.args.tests.items tree_of) (omega (arith, e, length-map c.chain.tests.items tree_of)) c.chain.invariant
