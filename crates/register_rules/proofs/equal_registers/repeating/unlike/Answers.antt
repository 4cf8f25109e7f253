use Rattle.std.proofs.Common.{◌∙◌, sym, ap, length, length-append, arith, [], ◌∷◌, inl, inr, below_more}
use Rattle.std.proofs.lemmas.Bool.{cases_lt}
use Rattle.std.proofs.lemmas.List.{get_or_past}
use Rattle.register_rules.specs.EqualRegisters.Alike.{Repeats}
use Rattle.register_rules.proofs.EqualRegisters.SettingLaws.{own_repeats}
use Rattle.register_rules.proofs.equal_registers.repeating.unlike.Goals as goal
use Rattle.register_rules.proofs.equal_registers.repeating.unlike.Goals.{then-not-repeats+in_ok-push, else-not-repeats}

pub loop-i-preserved : goal.loop-i-preserved
loop-i-preserved c empty always are =
    let l = c.loop-i in
    elim c.if-not-repeats.branch [
      | then-not-repeats+in_ok-push w ↦
          let none = sym empty ∙ ap (λ x. x.items) w.others-is ∙ w.in_ok-push.ensures.items in
          absurd (omega (arith, ap length none, length-append l.others.items (l.i ∷ [])))
      | else-not-repeats w ↦
          below_more (Repeats c.args.words.now c.args.registers.now c.args.wires.now always) l.i (l.invariant (sym (ap (λ x. x.items) w.others-is) ∙ empty) always are) (c.repeats.ensures w.if-not-repeats.false always are)
    ]

pub returns : goal.returns
returns c empty always are k =
    let registers = c.args.registers.now in
    elim (cases_lt k (length registers)) [
      | inl there ↦ c.loop-i.invariant empty always are k (omega arith)
      | inr past ↦ own_repeats c.args.words.now registers c.args.wires.now always k (get_or_past registers k k past)
    ]
