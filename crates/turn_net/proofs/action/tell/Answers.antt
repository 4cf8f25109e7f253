use Rattle.std.specs.Prelude.{not, if◌then◌else◌}
use Rattle.std.proofs.Common.{◌∙◌, ◌&&◌, ◌||◌, [], ◌∷◌, ap, arith}
use Rattle.hazard_core.specs.cell_core.Cells.{on, bits_from}
use Rattle.hazard_core.proofs.cell_core_laws.BitLaws.{bit_bits}
use Rattle.cell_nets.specs.declared.operand.Operand.TheVariants.{Known, Net}
use Rattle.cell_nets.specs.Operands.{number_in, IsAvailable, HasWidth}
use Rattle.cell_nets.specs.Wires.{wires_of, always}
use Rattle.cell_nets.proofs.StepNets.ChainLaws.{starts, next}
use Rattle.cell_nets.proofs.StepNets.StepLaws.{all_each, on_bit}
use Rattle.turn_net.proofs.StandLemmas.{leads_as}
use Rattle.turn_net.proofs.DecideLemmas.{either_bit}
use Rattle.turn_net.proofs.action.tell.Goals as goal

pub returns : goal.returns
returns g c =
    let first = c.args.first in
    let last = c.args.last in
    let host = Net c.args.host 1 in
    let one = c.in_ok-one.one in
    let commits = Net c.in_ok-commits.commits 1 in
    let both = c.in_ok-both.both in
    let stays = Net c.in_ok-stays.stays 1 in
    leads_as
    (next
    (next
    (next (next (starts c.args.part (wires_of c.args.wires.now.items) (host ∷ first ∷ last ∷ []) always) c.in_ok-one.ensures (λ ins h. all_each (IsAvailable ins) (first ∷ last ∷ []) (h 1 first (omega arith), (h 2 last (omega arith), tt))) (λ v f k. tt))
    c.in_ok-commits.ensures (λ ins h. all_each (IsAvailable ins) (one ∷ []) (h 0 one (omega arith), tt)) (λ v f k. tt))
    c.in_ok-both.ensures (λ ins h. all_each (IsAvailable ins) (one ∷ Known 1 ∷ host ∷ []) (h 1 one (omega arith), (tt, (h 2 host (omega arith), tt)))) (λ v f k. tt))
    c.in_ok-stays.ensures (λ ins h. all_each (IsAvailable ins) (both ∷ []) (h 0 both (omega arith), tt)) (λ v f k. tt))
    (commits ∷ stays ∷ []) _ (λ ins h. all_each (IsAvailable ins) (commits ∷ stays ∷ []) (h 2 commits (omega arith), (h 0 stays (omega arith), tt)))
    (λ v f k.
    let b = on (number_in v first) && not (on (number_in v last)) in
    let x = (v.net c.args.host).value in
    let fit : HasWidth v c.args.host 1 = f 4 host (omega arith) in (
      k.0.0.1 ∙ ap (λ n. bits_from n 0 1) k.0.0.0.1 ∙ bit_bits b,
      k.1 ∙ ap (λ n. bits_from n 0 1) (k.0.1 ∙ ap (λ t. bits_from (if t then 1 else x) 0 1) (ap on k.0.0.0.1 ∙ on_bit b) ∙ either_bit b x fit.small) ∙ bit_bits (b || on x),
    ))
