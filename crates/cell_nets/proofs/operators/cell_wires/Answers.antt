use Rattle.std.proofs.Common.{◌≡◌, ◌%◌, ◌^◌, ◌<◌, map, sym, ◌∙◌, ap, subst, arith}
use Rattle.std.proofs.lemmas.Nat.{pow_pos}
use Rattle.std.proofs.Math.Nat.{zero-div, zero-mod}
use Rattle.std.proofs.lemmas.List.Elements.{All-take}
use Rattle.cell_core.specs.Cells.{number, bits_from}
use Rattle.cell_nets.specs.Computing.{taken, HasDivisor}
use Rattle.cell_nets.specs.Operands.{number_in, IsAvailable}
use Rattle.cell_nets.proofs.NarrowLaws.{bits_small}
use Rattle.cell_nets.proofs.GiveLaws.{known_gives}
use Rattle.cell_nets.proofs.ComputingLemmas.{copy_gives}
use Rattle.cell_nets.proofs.operators.cell_wires.Goals as goal

pub returns-in_ok-out-in-Wire : goal.returns-in_ok-out-in-Wire
returns-in_ok-out-in-Wire g c = λ packet.
    copy_gives c.args.part _ _ c.args.args.now packet c.args.op c.args.from c.args.width c.input.result c.in_ok-out-in-Wire.out c.in-Wire.is (λ ins h. c.input.ensures.available ins 1 (omega arith) (All-take (IsAvailable ins) 1 c.args.args.now h)) c.input.ensures.number c.in_ok-out-in-Wire.ensures

-- a number, and no wire
pub returns-then-width-eq0 : goal.returns-then-width-eq0
returns-then-width-eq0 g c = λ packet.
    let w = c.args.width in
    let none : w ≡ 0 = c.if-width-eq0.true in
    known_gives c.args.part _ (taken c.args.op c.args.args.now) (HasDivisor c.args.op c.args.args.now) _ w 0 (pow_pos w) (omega arith)
    (λ v f m. let n = number packet c.args.op (map (number_in v) c.args.args.now) in let small : bits_from n c.args.from 0 < 2 ^ 0 = bits_small n c.args.from 0 in (omega (arith, small)) ∙ ap (bits_from n c.args.from) (sym none))

pub returns-in-Constant : goal.returns-in-Constant
returns-in-Constant g c = λ packet.
    let from = c.args.from in
    let w = c.args.width in
    let k = c.bits_from.result in
    let is : k ≡ bits_from c.in-Constant.n from w = cc in
    known_gives c.args.part _ (taken c.args.op c.args.args.now) (HasDivisor c.args.op c.args.args.now) _ w k (subst (λ j. j < 2 ^ w) (sym is) (bits_small c.in-Constant.n from w)) c.requires.width
    (λ v f m. is ∙ ap (λ o. bits_from (number packet o (map (number_in v) c.args.args.now)) from w) (sym c.in-Constant.is))

pub returns-in-Pending : goal.returns-in-Pending
returns-in-Pending g c = λ packet.
    let from = c.args.from in
    let w = c.args.width in
    known_gives c.args.part _ (taken c.args.op c.args.args.now) (HasDivisor c.args.op c.args.args.now) _ w 0 (pow_pos w) c.requires.width
    (λ v f m. sym (ap (λ k. k % 2 ^ w) (zero-div (2 ^ from)) ∙ zero-mod (2 ^ w)) ∙ ap (λ o. bits_from (number packet o (map (number_in v) c.args.args.now)) from w) (sym c.in-Pending.is))
