use Rattle.std.proofs.Common.{◌≡◌, ◌+◌, ◌^◌, ◌<◌, [], ◌∷◌, sym, ◌∙◌, ap, subst, arith}
use Rattle.cell_core.specs.Cells.{bits_from}
use Rattle.cell_nets.specs.declared.operand.Operand.TheVariants.{Known, Net, Part}
use Rattle.cell_nets.specs.Operands.{number_in, IsOperand, IsWithin}
use Rattle.cell_nets.specs.Wires.{always, Gives}
use Rattle.cell_nets.proofs.NarrowLaws.{bits_small}
use Rattle.cell_nets.proofs.GiveLaws.{known_gives, whole_gives, some_give, fewer_give}
use Rattle.cell_nets.proofs.wires.at_hand.Goals as goal

pub returns-then-of-width : goal.returns-then-of-width
returns-then-of-width g c = λ p ws out e.
    let w = c.args.width in
    let n = c.in-Net.net in
    let of = c.in-Net.of in
    let there : Net n of ≡ out = cc in
    subst (λ o. Gives p ws ws (c.args.a ∷ []) always (λ v. bits_from (number_in v c.args.a) c.args.from w) w o) there
    (subst (λ a. Gives p ws ws (a ∷ []) always (λ v. bits_from (number_in v a) c.args.from w) w (Net n of)) (sym c.in-Net.is) (whole_gives p ws n of c.args.from w c.requires.width c.if-from-eq0.true c.if-of-width.true))

pub returns-then-end-of : goal.returns-then-end-of
returns-then-end-of g c = λ p ws out e.
    let w = c.args.width in
    let n = c.in-Net.net in
    let of = c.in-Net.of in
    let there : Part n of c.args.from w ≡ out = cc in
    let word = subst IsOperand c.in-Net.is c.requires.operand in
    let within : IsWithin of c.args.from w = record { some = c.requires.width.some; inside = omega arith; most = word.most } in
    subst (λ o. Gives p ws ws (c.args.a ∷ []) always (λ v. bits_from (number_in v c.args.a) c.args.from w) w o) there
    (subst (λ a. Gives p ws ws (a ∷ []) always (λ v. bits_from (number_in v a) c.args.from w) w (Part n of c.args.from w)) (sym c.in-Net.is) (some_give p ws n of c.args.from w within))

pub returns-then-end-bits : goal.returns-then-end-bits
returns-then-end-bits g c = λ p ws out e.
    let w = c.args.width in
    let n = c.in-Part.net in
    let of = c.in-Part.of in
    let at = c.in-Part.at in
    let bits = c.in-Part.bits in
    let there : Part n of (at + c.args.from) w ≡ out = cc in
    subst (λ o. Gives p ws ws (c.args.a ∷ []) always (λ v. bits_from (number_in v c.args.a) c.args.from w) w o) there
    (subst (λ a. Gives p ws ws (a ∷ []) always (λ v. bits_from (number_in v a) c.args.from w) w (Part n of (at + c.args.from) w)) (sym c.in-Part.is)
    (fewer_give p ws n of at bits c.args.from w (subst IsOperand c.in-Part.is c.requires.operand) c.requires.width.some (omega arith)))

pub returns-in-Known : goal.returns-in-Known
returns-in-Known g c = λ p ws out e.
    let from = c.args.from in
    let w = c.args.width in
    let n = c.in-Known.n in
    let k = c.bits_from.result in
    let is : k ≡ bits_from n from w = cc in
    let there : Known k ≡ out = cc in
    subst (λ o. Gives p ws ws (c.args.a ∷ []) always (λ v. bits_from (number_in v c.args.a) from w) w o) there
    (known_gives p ws (c.args.a ∷ []) always _ w k (subst (λ j. j < 2 ^ w) (sym is) (bits_small n from w)) c.requires.width.most (λ v f m. is ∙ ap (λ a. bits_from (number_in v a) from w) (sym c.in-Known.is)))
