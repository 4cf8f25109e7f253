use Rattle.std.proofs.Common.{[], ◌∷◌, arith}
use Rattle.block_core.proofs.list_laws_laws.AllLaws.{all_one, all_three}
use Rattle.cell_nets.specs.declared.operand.Operand.TheVariants.{Known}
use Rattle.cell_nets.specs.Operands.{number_in, IsAvailable}
use Rattle.cell_nets.specs.Wires.{always}
use Rattle.cell_nets.proofs.ChoiceLaws.{number_small}
use Rattle.hazard_core.specs.Tables.{decl_of, table_at}
use Rattle.overlay_net.specs.ValueNet.Pendings.{ShowsEntry}
use Rattle.overlay_net.proofs.ValueNet.Holding.{hold_none, hold_more, hold_gives}
use Rattle.overlay_net.proofs.ValueNet.EntryLaws.{start_is}
use Rattle.overlay_net.proofs.value_net.entry.first_word.Goals as goal

pub returns-clause-gives : goal.returns-clause-gives
returns-clause-gives g c = λ t m w at.
    let p = c.args.part in
    let under = c.args.under in
    let first = c.args.first in
    let q = c.in_ok-in_slot.in_slot in
    let out = c.in_ok-out.out in
    let args = under ∷ first ∷ [] in
    let x = hold_more p _ _ _ args args (under ∷ []) (λ v. ShowsEntry v t m w at under first) (λ v. ShowsEntry v t m w at under first) always _ 1 q (hold_none p _ args (λ v. ShowsEntry v t m w at under first)) c.in_ok-in_slot.ensures (λ ins h. all_one (IsAvailable ins) under (h 0 under (omega arith))) (λ v f k. tt) in
    let y = hold_more p _ _ _ args (q ∷ args) (q ∷ first ∷ Known 0 ∷ []) (λ v. ShowsEntry v t m w at under first) _ always _ 64 out x c.in_ok-out.ensures (λ ins h. all_three (IsAvailable ins) q first (Known 0) (h 0 q (omega arith)) (h 2 first (omega arith)) tt) (λ v f k. tt) in
    hold_gives p _ _ args (out ∷ q ∷ args) (λ v. ShowsEntry v t m w at under first) _ _ 64 out y c.in_ok-out.ensures.operand c.in_ok-out.ensures.bits (λ ins h. h 0 out (omega arith))
    (λ v f k. start_is (decl_of t.decls m) (table_at t m) at w (number_in v under) (number_in v first) (number_in v q) (number_in v out) (number_small v first c.requires.first (f 3 first (omega arith))) k.0.0.pointer k.0.0.first k.0.1 k.1)
