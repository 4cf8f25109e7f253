use Rattle.std.proofs.Common.{◌∙◌, get_or, sym, ap, subst, arith}
use Rattle.hazard_core.specs.cell_core.Cells.{bit}
use Rattle.cell_nets.specs.Wires.{wires_of, always, behind}
use Rattle.cell_nets.specs.StepNets.Standing.{Stands}
use Rattle.cell_nets.proofs.OperandBlocks.WiringLaws.{is_wiring, offers, all_known, all_there, word_is}
use Rattle.turn_net.specs.TargetNet.Commits.{bits_of, any_on, AreOn, IsCommits, commits_on}
use Rattle.turn_net.proofs.TargetNet.CommitLemmas.{bits_operands, bits_there}
use Rattle.turn_net.proofs.TargetNet.CommitLaws.{any_is, bit_as_word}
use Rattle.turn_net.proofs.target_net.commits.commits.Goals as goal

pub returns : goal.returns
returns g c =
    let part = c.args.part in
    let maps = c.args.maps.now in
    let chosen = c.args.chosen.now in
    let ns = c.in_ok-commits.commits.items in
    let ws = wires_of c.commit_nets.new.wires.items in
    let x = subst (λ os. Stands part (wires_of os) ws chosen always (bits_of ns) (λ v. AreOn v maps chosen ns)) c.new-wires.ensures.items c.in_ok-commits.ensures.stands in
    subst (IsCommits part c.args.count maps chosen ns) (sym c.in_ok-block.ensures)
    (record {
      wiring = is_wiring part ws chosen (bits_of ns) always (λ v. AreOn v maps chosen ns) x;
      offers = offers part ws chosen (bits_of ns) always (λ v. AreOn v maps chosen ns) x (bits_operands ns);
      many = c.in_ok-commits.ensures.many;
      shows = λ v p site rs f s are record_of shown m d lt.
          let known = all_known part ws chosen (bits_of ns) always (λ v. AreOn v maps chosen ns) x v f s tt in
          word_is part ws chosen (bits_of ns) always (λ v. AreOn v maps chosen ns) x v f s (get_or ns m d) 1 (bit (commits_on p site m))
          (bits_there (behind part chosen ws) ns m d lt (all_there part ws chosen (bits_of ns) always (λ v. AreOn v maps chosen ns) x))
          (known m d lt ∙ ap (λ k. bit (any_on v maps chosen m k)) (omega (arith, c.requires.count, are.count)) ∙ ap bit (any_is v p maps rs chosen are m site record_of shown)) ∙ bit_as_word (commits_on p site m);
    })
