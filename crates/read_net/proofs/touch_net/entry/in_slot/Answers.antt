use Rattle.std.proofs.Common.{◌∙◌, ◌-◌, ◌/◌, ◌==◌, ◌&&◌, [], ◌∷◌, ap, ap₂, arith}
use Rattle.overlay_net.specs.cell_core.Cells.{bit, on, bits_from}
use Rattle.overlay_net.specs.cell_nets.Operands.{number_in, IsAvailable}
use Rattle.overlay_net.specs.cell_nets.Wires.{wires_of, always}
use Rattle.overlay_net.proofs.cell_nets_laws.StepNets.ChainLaws.{starts, next, last}
use Rattle.overlay_net.proofs.cell_nets_laws.StepNets.StepLaws.{all_each, on_bit}
use Rattle.read_net.proofs.TouchNet.EntryLemmas.{index_is}
use Rattle.read_net.proofs.touch_net.entry.in_slot.Goals as goal

pub returns : goal.returns
returns g c =
    let n = c.args.pointer in
    let s = c.args.slot in
    let some = c.in_ok-some.some in
    let index = c.in_ok-index.index in
    let same = c.in_ok-same.same in
    let a = next (starts c.args.part (wires_of c.args.wires.now.items) (n ∷ s ∷ []) always) c.in_ok-some.ensures (λ ins h. all_each (IsAvailable ins) (n ∷ []) (h 0 n (omega arith), tt)) (λ v f k. tt) in
    let b = next a c.in_ok-index.ensures (λ ins h. all_each (IsAvailable ins) (n ∷ []) (h 1 n (omega arith), tt)) (λ v f k. tt) in
    let d = next b c.in_ok-same.ensures (λ ins h. all_each (IsAvailable ins) (index ∷ s ∷ []) (h 0 index (omega arith), (h 3 s (omega arith), tt))) (λ v f k. tt) in
    last d c.in_ok-out.ensures (λ ins h. all_each (IsAvailable ins) (some ∷ same ∷ []) (h 2 some (omega arith), (h 0 same (omega arith), tt))) (λ v f k. tt)
    (λ v. bit (on (bits_from (number_in v n) 0 1) && (number_in v n / 4 == number_in v s)))
    (λ v f k.
    let above = index_is (number_in v n) c.span.result (c.max-bits.result - 2) (c.span.ensures.enough v (f 3 n (omega arith))) (omega arith) in
    ap bit (ap₂ ◌&&◌ (ap on k.0.0.1) (ap on k.1 ∙ on_bit _ ∙ ap (λ x. x == number_in v s) (k.0.1 ∙ above))))
