use Rattle.std.proofs.Common.{◌≡◌, ◌∙◌, ◌+◌, ◌∷◌, ◌++◌, [], take, map as map_list, sym, ap, subst, arith, refl}
use Rattle.std.proofs.lemmas.List.{map_push, length-take-le, take_all, take_more}
use Rattle.net_core.specs.View.{tree_of, statement_of}
use Rattle.cell_nets.specs.OperandBlocks.Sets.{AreSets}
use Rattle.cell_nets.proofs.OperandBlocks.SetLemmas.{sets_more}
use Rattle.cell_nets.proofs.operand_blocks.registers.sets.Goals as goal

pub loop-k-preserved : goal.loop-k-preserved
loop-k-preserved g c =
    let all = c.args.all.now in
    let k = c.loop-k.k in
    let t = c.index-all-k.result in
    let inside = c.loop-k-test.true in
    let long = length-take-le k all (omega arith) in
    let grown : take (k + 1) all ≡ take k all ++ t ∷ [] = take_more all k t inside ∙ (λ i. take k all ++ sym c.index-all-k.is i ∷ []) in
    subst (λ l. AreSets 0 l (map_list statement_of c.push.new.self.items)) (sym grown)
    (subst (AreSets 0 (take k all ++ t ∷ [])) (sym (ap (map_list statement_of) c.in_ok-push.ensures.items ∙ map_push statement_of c.loop-k.listed.items _))
    (sets_more 0 k (take k all) (map_list statement_of c.loop-k.listed.items) t _ (omega (arith, long)) (record { tree = tree_of c.in_ok-e.e; is = refl; part = c.in_ok-e.ensures }) c.loop-k.invariant))

pub returns : goal.returns
returns g c = subst (λ l. AreSets 0 l (map_list statement_of c.loop-k.listed.items)) (take_all c.loop-k.k c.args.all.now (omega arith)) c.loop-k.invariant
