use Rattle.std.specs.Prelude.{if◌then◌else◌}
use Rattle.std.proofs.Common.{◌∙◌, ◌+◌, ◌*◌, ◌==◌, [], ◌∷◌, ◌++◌, ap, arith}
use Rattle.overlay_net.specs.cell_core.Cells.{on, bits_from}
use Rattle.overlay_net.specs.cell_nets.declared.operand.Operand.TheVariants.{Known}
use Rattle.overlay_net.specs.cell_nets.Operands.{number_in, IsAvailable}
use Rattle.overlay_net.specs.cell_nets.Wires.{wires_of, always}
use Rattle.overlay_net.proofs.cell_nets_laws.StepNets.ChainLaws.{starts, next, last}
use Rattle.overlay_net.proofs.cell_nets_laws.StepNets.StepLaws.{all_each, on_bit}
use Rattle.read_net.proofs.TouchNet.ListLemmas.{behind}
use Rattle.read_net.proofs.touch_net.entry.where_own.Goals as goal

pub returns : goal.returns
returns g c =
    let n = c.args.pointer in
    let x = c.args.other in
    let own = c.args.own.now in
    let key = c.args.key.now in
    let made = c.in_ok-made.made in
    let same = c.in_ok-same.same in
    let m = 4 * own.site + 2 in
    let a = next (starts c.args.part (wires_of c.args.wires.now.items) (n ∷ x ∷ own.key.now ++ key) always) c.in_ok-made.ensures (λ ins h. all_each (IsAvailable ins) (n ∷ Known m ∷ []) (h 0 n (omega arith), (tt, tt))) (λ v f k. tt) in
    let b = next a c.in_ok-same.ensures (λ ins h. behind (IsAvailable ins) x (own.key.now ++ key) (behind (IsAvailable ins) n (x ∷ own.key.now ++ key) (behind (IsAvailable ins) made (n ∷ x ∷ own.key.now ++ key) h))) (λ v f k. tt) in
    last b c.in_ok-out.ensures (λ ins h. all_each (IsAvailable ins) (made ∷ same ∷ x ∷ []) (h 1 made (omega arith), (h 0 same (omega arith), (h 3 x (omega arith), tt)))) (λ v f k. tt) _
    (λ v f k.
    ap (λ b. bits_from (if b then number_in v same else number_in v x) 0 1) (ap on k.0.1 ∙ on_bit (number_in v n == m))
    ∙ ap (λ y. bits_from (if number_in v n == m then y else number_in v x) 0 1) k.1)
