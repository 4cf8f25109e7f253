use Rattle.std.specs.Prelude.{if◌then◌else◌}
use Rattle.std.proofs.Common.{◌≡◌, ◌∙◌, ◌&&◌, ◌+◌, ◌^◌, suc, [], ◌∷◌, ap, arith}
use Rattle.hazard_core.specs.cell_core.Cells.{on, bits_from}
use Rattle.hazard_core.proofs.cell_core_laws.BitLaws.{small_bits}
use Rattle.cell_nets.specs.declared.operand.Operand.TheVariants.{Known}
use Rattle.cell_nets.specs.Operands.{number_in, IsAvailable}
use Rattle.cell_nets.specs.Wires.{wires_of, always}
use Rattle.cell_nets.proofs.StepNets.ChainLaws.{starts, next}
use Rattle.cell_nets.proofs.StepNets.StepLaws.{all_each, on_bit, narrow_small, narrow_bits, choice_small}
use Rattle.turn_net.proofs.StandLemmas.{leads_as}
use Rattle.turn_net.proofs.choosing.take_turn.Goals as goal

pub returns-clause-has : goal.returns-clause-has
returns-clause-has g c = record {
  chosen = c.in_ok-chosen.ensures.operand;
  free = c.in_ok-free.ensures.operand;
  done = c.in_ok-done.ensures.operand;
  chosen_bits = c.in_ok-chosen.ensures.bits;
  free_bits = c.in_ok-free.ensures.bits;
  done_bits = c.in_ok-done.ensures.bits;
}

pub returns-clause-leads : goal.returns-clause-leads
returns-clause-leads g c =
    let bits = c.args.bits in
    let number = c.args.number in
    let before = c.args.before in
    let opened = c.args.opened in
    let chosen = c.in_ok-chosen.chosen in
    let free = c.in_ok-free.free in
    let done = c.in_ok-done.done in
    leads_as
    (next
    (next
    (next (starts c.args.part (wires_of c.args.wires.now.items) (before.free ∷ before.done ∷ opened ∷ []) always) c.in_ok-chosen.ensures (λ ins h. all_each (IsAvailable ins) (before.free ∷ opened ∷ []) (h 0 before.free (omega arith), (h 2 opened (omega arith), tt)))
    (λ v f k. tt))
    c.in_ok-free.ensures (λ ins h. all_each (IsAvailable ins) (before.free ∷ opened ∷ []) (h 1 before.free (omega arith), (h 3 opened (omega arith), tt))) (λ v f k. tt))
    c.in_ok-done.ensures (λ ins h. all_each (IsAvailable ins) (chosen ∷ Known (number + 1) ∷ before.done ∷ []) (h 1 chosen (omega arith), (tt, (h 3 before.done (omega arith), tt)))) (λ v f k. tt))
    (chosen ∷ free ∷ done ∷ []) _ (λ ins h. all_each (IsAvailable ins) (chosen ∷ free ∷ done ∷ []) (h 2 chosen (omega arith), (h 1 free (omega arith), (h 0 done (omega arith), tt))))
    (λ v f k.
    let hit = on (number_in v before.free) && on (number_in v opened) in
    let n : number + 1 ≡ suc number = omega arith in
    record {
      chosen = k.0.0.1;
      free = k.0.1;
      done =
          k.1
          ∙ ap (λ b. bits_from (if b then number + 1 else number_in v before.done) 0 bits) (ap on k.0.0.1 ∙ on_bit hit)
          ∙ small_bits (if hit then number + 1 else number_in v before.done) bits
          (choice_small hit (number + 1) (number_in v before.done) (2 ^ bits) c.requires.number (narrow_small v bits before.done (narrow_bits bits before.done c.requires.before.done_bits) (f 4 before.done (omega arith))))
          ∙ ap (λ m. if hit then m else number_in v before.done) n;
    })
