use Rattle.std.specs.Prelude.{if◌then◌else◌}
use Rattle.std.proofs.Common.{◌≡◌, ◌∙◌, ◌+◌, ◌*◌, ◌==◌, [], ◌∷◌, ap, arith}
use Rattle.overlay_net.specs.cell_core.Cells.{on, bits_from}
use Rattle.overlay_net.specs.cell_nets.declared.operand.Operand.TheVariants.{Known}
use Rattle.overlay_net.specs.cell_nets.Operands.{number_in, IsAvailable}
use Rattle.overlay_net.specs.cell_nets.Wires.{wires_of, always}
use Rattle.overlay_net.proofs.cell_nets_laws.StepNets.ChainLaws.{starts, next, last}
use Rattle.overlay_net.proofs.cell_nets_laws.StepNets.StepLaws.{all_each, on_bit}
use Rattle.commit_net.proofs.target.where_pending.Goals as goal

pub returns : goal.returns
returns g c =
    let n = c.args.written in
    let a = c.args.slot in
    let b = c.args.other in
    let s = c.in_ok-same.same in
    let k = c.pending_number-number.result in
    let e : k ≡ 4 * c.args.site + 2 = c.pending_number-number.ensures in
    last
    (next (starts c.args.part (wires_of c.args.wires.now.items) (n ∷ a ∷ b ∷ []) always) c.in_ok-same.ensures (λ ins h. all_each (IsAvailable ins) (n ∷ Known k ∷ []) (h 0 n (omega arith), (tt, tt))) (λ v f k. tt))
    c.in_ok-out.ensures (λ ins h. all_each (IsAvailable ins) (s ∷ a ∷ b ∷ []) (h 0 s (omega arith), (h 2 a (omega arith), (h 3 b (omega arith), tt)))) (λ v f k. tt)
    (λ v. bits_from (if number_in v n == 4 * c.args.site + 2 then number_in v a else number_in v b) 0 c.args.bits)
    (λ v f k.
    ap (λ x. bits_from (if x then number_in v a else number_in v b) 0 c.args.bits) (ap on k.1 ∙ on_bit (number_in v n == c.pending_number-number.result) ∙ ap (λ x. number_in v n == x) e))
