use Rattle.std.specs.Prelude.{if◌then◌else◌}
use Rattle.std.proofs.Common.{All, ◌∙◌, refl, [], ◌∷◌, subst, sym, arith}
use Rattle.hazard_core.specs.cell_core.Cells.{on, bits_from}
use Rattle.cell_nets.specs.declared.operand.Operand.TheVariants.{Known}
use Rattle.cell_nets.specs.Operands.{number_in, IsOperand, IsAvailable}
use Rattle.cell_nets.specs.Wires.{wires_of, always}
use Rattle.overlay_net.proofs.AnswerLemmas.{two_pairs, pairs_given}
use Rattle.cell_nets.proofs.StepNets.ChainLaws.{starts, last}
use Rattle.cell_nets.proofs.StepNets.StepLaws.{all_each}
use Rattle.overlay_net.proofs.answering.by_presence.Goals as goal

pub first_number-requires-clause-pairs : goal.first_number-requires-clause-pairs
first_number-requires-clause-pairs g c =
    let key = c.args.key in
    let same = c.deref.ensures.value ∙ two_pairs _ _ _ key (Known c.args.there) (Known 1) (Known c.args.absent) c.new-pairs.ensures.items c.in_ok-add_pair.ensures c.in_ok-add_pair-2.ensures in
    subst (All IsOperand) (sym same) (all_each IsOperand (key ∷ Known c.args.there ∷ Known 1 ∷ Known c.args.absent ∷ []) (c.requires.key, (omega arith, (omega arith, (omega arith, tt)))))

pub returns : goal.returns
returns g c =
    let key = c.args.key in
    let pairs = key ∷ Known c.args.there ∷ Known 1 ∷ Known c.args.absent ∷ [] in
    let same = c.deref.ensures.value ∙ two_pairs _ _ _ key (Known c.args.there) (Known 1) (Known c.args.absent) c.new-pairs.ensures.items c.in_ok-add_pair.ensures c.in_ok-add_pair-2.ensures in
    last (starts c.args.part (wires_of c.args.wires.now.items) (key ∷ []) always) (pairs_given c.args.part _ _ c.deref.result.now pairs c.args.from c.args.width c.in_ok-out.out same c.in_ok-out.ensures)
    (λ ins h. all_each (IsAvailable ins) pairs (h 0 key (omega arith), (tt, (tt, (tt, tt))))) (λ v f k. tt) (λ v. bits_from (if on (number_in v key) then c.args.there else c.args.absent) c.args.from c.args.width) (λ v f k. refl)
