use Rattle.std.proofs.Common.{◌≡◌, ◌+◌, ◌∷◌, [], length, get_or, ◌∙◌, sym, ap, arith}
use Rattle.net_core.specs.declared.design.Declared.TheVariants as declared
use Rattle.net_core.specs.Clock.{first_words}
use Rattle.register_rules.proofs.NarrowRegisters.DeclaredLemmas.{next_item, no_register}
use Rattle.register_rules.proofs.narrow_registers.storing.narrow_declared.Goals as goal
use Rattle.register_rules.proofs.narrow_registers.storing.narrow_declared.Goals.{in-Register, in_default}

pub loop-item-preserved : goal.loop-item-preserved
loop-item-preserved c =
    let l = c.loop-item in
    let x = get_or c.args.declared.now l.item-index declared.Integer in
    let is : c.match-item.next ≡ l.next + length (first_words (x ∷ [])) = elim c.match-item.branch [
      | in-Register w ↦ w.next-is ∙ ap (λ y. l.next + length (first_words (y ∷ []))) (sym w.in-Register.is)
      | in_default w ↦ let none = no_register x w.in_default.not-Register in omega (arith, none, w.next-is)
    ] in
    record {
      items = next_item c.args.codes.now c.args.declared.now l.all.items _ l.item-index l.next _ _ _ (omega arith) c.in_ok-push.ensures.items c.code_at.ensures c.in_ok-narrower.ensures is l.invariant.items;
      below = elim c.match-item.branch [ in-Register w ↦ omega arith | in_default w ↦ omega arith ];
    }
