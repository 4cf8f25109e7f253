use Rattle.std.specs.Prelude.{not, if◌then◌else◌}
use Rattle.std.proofs.Common.{◌∙◌, ◌&&◌, ◌^◌, [], ◌∷◌, ap, arith}
use Rattle.std.proofs.lemmas.Nat.{pow_pos}
use Rattle.block_core.specs.declared.name.Name.TheVariants as name
use Rattle.hazard_core.specs.cell_core.Cells.{bit, on}
use Rattle.hazard_core.proofs.cell_core_laws.BitLaws.{small_bits}
use Rattle.cell_nets.specs.declared.operand.Operand.TheVariants.{Known, Net}
use Rattle.cell_nets.specs.Operands.{IsAvailable}
use Rattle.cell_nets.specs.Wires.{wires_of, always}
use Rattle.cell_nets.proofs.StepNets.ChainLaws.{starts, next}
use Rattle.cell_nets.proofs.StepNets.StepLaws.{all_each, on_bit, narrow_small, choice_small}
use Rattle.turn_net.proofs.StandLemmas.{leads_as}
use Rattle.turn_net.proofs.choosing.start.Goals as goal

pub returns-clause-has : goal.returns-clause-has
returns-clause-has g c = record {
  chosen = omega arith;
  free = c.in_ok-free.ensures.operand;
  done = c.in_ok-done.ensures.operand;
  chosen_bits = omega arith;
  free_bits = c.in_ok-free.ensures.bits;
  done_bits = c.in_ok-done.ensures.bits;
}

pub returns-clause-leads : goal.returns-clause-leads
returns-clause-leads g c =
    let nets = c.args.nets.now in
    let bits = c.args.bits in
    let present = Net nets.present 1 in
    let back = Net nets.back 1 in
    let host = Net nets.host 1 in
    let now = Net (name.Register c.args.part 0) bits in
    let there = c.in_ok-there.there in
    let free = c.in_ok-free.free in
    let done = c.in_ok-done.done in
    leads_as
    (next
    (next (next (starts c.args.part (wires_of c.args.wires.now.items) (now ∷ present ∷ back ∷ host ∷ []) always) c.in_ok-there.ensures (λ ins h. all_each (IsAvailable ins) (present ∷ back ∷ []) (h 1 present (omega arith), (h 2 back (omega arith), tt))) (λ v f k. tt))
    c.in_ok-free.ensures (λ ins h. all_each (IsAvailable ins) (there ∷ host ∷ []) (h 0 there (omega arith), (h 4 host (omega arith), tt))) (λ v f k. tt))
    c.in_ok-done.ensures (λ ins h. all_each (IsAvailable ins) (host ∷ now ∷ Known 0 ∷ []) (h 5 host (omega arith), (h 2 now (omega arith), (tt, tt)))) (λ v f k. tt))
    (free ∷ done ∷ []) _ (λ ins h. all_each (IsAvailable ins) (free ∷ done ∷ []) (h 1 free (omega arith), (h 0 done (omega arith), tt)))
    (λ v f k. (
      k.0.1 ∙ ap (λ x. bit (x && not (on (v.net nets.host).value))) (ap on k.0.0.1 ∙ on_bit (on (v.net nets.present).value && not (on (v.net nets.back).value))),
      k.1
          ∙ small_bits (if on (v.net nets.host).value then (v.net (name.Register c.args.part 0)).value else 0) bits
          (choice_small (on (v.net nets.host).value) (v.net (name.Register c.args.part 0)).value 0 (2 ^ bits) (narrow_small v bits now (omega arith) (f 3 now (omega arith))) (pow_pos bits)),
    ))
