use Rattle.std.proofs.Common.{◌∙◌, ◌∷◌, ◌++◌, [], All, length, length-append, refl, sym, ap, subst, arith}
use Rattle.std.proofs.lemmas.List.{take_all}
use Rattle.std.proofs.lemmas.List.Elements.{All-nil, All-push}
use Rattle.cell_nets.specs.Operands.{IsOperand}
use Rattle.cell_nets.specs.Wires.{wires_of, HasBits}
use Rattle.cell_nets.proofs.StepNets.StepLaws.{avail_at}
use Rattle.hazard_core.specs.cell_core.Cells.{on}
use Rattle.cell_nets.specs.Operands.{number_in}
use Rattle.overlay_net.specs.Reading.{IsSite}
use Rattle.turn_net.specs.Nets.{HasOperands, IsNumbered, all_read}
use Rattle.turn_net.specs.Steps.{Leads, AreChosen}
use Rattle.turn_net.proofs.ChooseLemmas.{no_choice, more_choice, tail_read}
use Rattle.turn_net.proofs.choosing.choose_each.Goals as goal

pub loop-record-init : goal.loop-record-init
loop-record-init g c =
    let none = c.new-chosen.ensures.items in
    record {
      has = c.requires.start;
      count = ap length none;
      operands = subst (All IsOperand) (sym none) (All-nil IsOperand);
      bits = subst (All (HasBits 1)) (sym none) (All-nil (HasBits 1));
      leads = λ p decls are. no_choice c.args.part p decls c.args.records.now c.args.done c.args.start (wires_of c.args.wires.now.items) c.new-chosen.result.items none c.requires.start.free_bits;
    }

pub opened-requires-clause-operands : goal.opened-requires-clause-operands
opened-requires-clause-operands g c = tail_read IsOperand c.record-item.result (avail_at HasOperands c.args.records.now c.loop-record.record-index c.record-item.result (omega arith) c.record-item.is c.requires.records)

pub take_turn-requires-clause-number : goal.take_turn-requires-clause-number
take_turn-requires-clause-number g c = avail_at (IsNumbered c.args.bits) c.args.records.now c.loop-record.record-index c.record-item.result (omega arith) c.record-item.is c.requires.numbers

pub take_turn-requires-clause-before : goal.take_turn-requires-clause-before
take_turn-requires-clause-before g c = c.loop-record.invariant.has

pub loop-record-preserved : goal.loop-record-preserved
loop-record-preserved g c =
    let l = c.loop-record in
    let r = c.record-item.result in
    let step = c.in_ok-next.next in
    let old = l.chosen.items in
    let pushed = c.in_ok-push.ensures.items in
    record {
      has = c.in_ok-next.ensures.has;
      count = omega (arith, ap length pushed, length-append old (step.chosen ∷ []), l.invariant.count);
      operands = subst (All IsOperand) (sym pushed) (All-push IsOperand old step.chosen l.invariant.operands c.in_ok-next.ensures.has.chosen);
      bits = subst (All (HasBits 1)) (sym pushed) (All-push (HasBits 1) old step.chosen l.invariant.bits c.in_ok-next.ensures.has.chosen_bits);
      leads = λ p decls are.
          more_choice c.args.part p decls c.args.records.now c.args.done c.args.start _ _ _ _ l.record-index _ r c.in_ok-opened.opened l.last step old c.push.new.self.items (omega arith) refl c.record-item.is l.invariant.count pushed are (l.invariant.leads p decls are)
          (λ h. c.in_ok-opened.ensures.given p decls h (avail_at (λ x. IsSite p decls x.number x.act x.decl.now) c.args.records.now l.record-index r (omega arith) c.record-item.is are.each)) c.in_ok-next.ensures.leads;
    }

pub returns-clause-has : goal.returns-clause-has
returns-clause-has g c = c.loop-record.invariant.has

pub returns-clause-chosen : goal.returns-clause-chosen
returns-clause-chosen g c = let l = c.loop-record in record { count = l.invariant.count ∙ omega arith; operands = l.invariant.operands; bits = l.invariant.bits }

pub returns-clause-leads : goal.returns-clause-leads
returns-clause-leads g c = λ p decls are.
    let l = c.loop-record in
    let args = c.args.done ∷ c.args.start.free ∷ c.args.start.done ∷ all_read c.args.records.now in
    subst (λ rs. Leads c.args.part (wires_of c.args.wires.now.items) (wires_of l.wires.items) args (l.last.free ∷ l.last.done ∷ l.chosen.items ++ args) (λ v. AreChosen p decls v (on (number_in v c.args.start.free)) (number_in v c.args.done) (number_in v c.args.start.done) rs l.chosen.items l.last))
    (take_all l.record-index c.args.records.now (omega arith)) (l.invariant.leads p decls are)
