use Rattle.std.proofs.Common.{◌∙◌, [], ◌∷◌, ap, sym}
use Rattle.hazard_core.specs.cell_core.Cells.{bit, on, bits_from}
use Rattle.hazard_core.specs.Overlay.{key_pointer, answer_over}
use Rattle.cell_nets.specs.Wires.{wires_of}
use Rattle.overlay_net.proofs.AnswerLemmas.{lookup_is}
use Rattle.cell_nets.proofs.StepNets.ChainLaws.{starts, last}
use Rattle.overlay_net.proofs.answering.lookup_answer.Goals as goal
use Rattle.overlay_net.proofs.PointerLaws.{found_on}

pub returns : goal.returns
returns g c =
    let key = c.args.key in
    let x = c.in_ok-out.ensures in
    record {
      operand = x.operand;
      bits = x.bits;
      given = λ p t h before j is.
          last (starts c.args.part (wires_of c.args.wires.now.items) (key ∷ []) _) x (λ ins all. all) (λ v f k. tt) (λ v. bits_from (answer_over p t h before j) c.args.from c.args.width)
          (λ v f k. ap (λ n. bits_from n c.args.from c.args.width) (ap bit (ap on k ∙ found_on (key_pointer p t h before j)) ∙ sym (lookup_is p t h before j is)));
    }
