use Rattle.std.proofs.Common.{◌≡◌, ◌∙◌, ◌+◌, ◌<◌, [], ◌∷◌, All, length, sym, ap, subst, arith}
use Rattle.std.proofs.lemmas.List.{length_push}
use Rattle.std.proofs.lemmas.List.Elements.{All-append, All-nil}
use Rattle.cell_nets.specs.Operands.{IsOperand}
use Rattle.cell_nets.specs.Wires.{wires_of, HasBits, Gives}
use Rattle.hazard_core.specs.cell_core.Cells.{bit}
use Rattle.hazard_core.specs.Commits.{written_slot, makes_entry}
use Rattle.overlay_net.specs.declared.site_operands.Pending.{Pending}
use Rattle.commit_net.specs.Targets.{slots_of, ShowsWritten, ShowsTarget as AsksTarget}
use Rattle.read_net.specs.Sites.{IsOwn}
use Rattle.turn_net.specs.declared.target_net.targets.Target.{Target}
use Rattle.turn_net.specs.TargetNet.Targets.{all_of}
use Rattle.turn_net.proofs.TargetNet.StandLemmas.{one_of}
use Rattle.turn_net.proofs.TargetNet.TargetLemmas.{Far, all_push, far_none, far_more, far_all}
use Rattle.turn_net.proofs.target_net.targets.each_target.Goals as goal

pub loop-i-init : goal.loop-i-init
loop-i-init g c =
    let e = c.new-all.ensures.items in
    let w = c.args.slot_bits in
    let ws = wires_of c.args.wires.now.items in
    record {
      count = ap length e;
      operands = subst (λ l. All IsOperand (all_of l)) (sym e) (All-nil IsOperand);
      slot_bits = subst (All (λ d. HasBits w d.slot)) (sym e) (All-nil (λ d. HasBits w d.slot));
      makes_bits = subst (All (λ d. HasBits 1 d.makes)) (sym e) (All-nil (λ d. HasBits 1 d.makes));
      stands = λ p t took h m room own.
          subst (λ l. Far c.args.part w c.args.records.now c.args.seen.now c.args.free c.args.taken.now p t took h m ws ws l 0) (sym e) (far_none c.args.part w c.args.records.now c.args.seen.now c.args.free c.args.taken.now p t took h m ws);
    }

pub loop-i-preserved : goal.loop-i-preserved
loop-i-preserved g c =
    let l = c.loop-i in
    let w = c.args.slot_bits in
    let rs = c.args.records.now in
    let es = c.args.seen.now in
    let s = c.index-records-i.result in
    let e = c.index-seen-i.result in
    let ds = l.all.items in
    let d : Target _ = record { slot = c.in_ok-slot.slot; makes = c.in_ok-makes.makes } in
    let grown = c.in_ok-push.ensures.items in
    let lt : l.i < length rs = c.loop-i-test.true in
    let ws = wires_of c.args.wires.now.items in
    let new = wires_of c.makes_entry.new.wires.items in
    record {
      count = ap length grown ∙ length_push ds d ∙ omega (arith, l.invariant.count);
      operands = subst (λ o. All IsOperand (all_of o)) (sym grown) (all_push IsOperand ds d l.invariant.operands c.in_ok-slot.ensures.operand c.in_ok-makes.ensures.operand);
      slot_bits = subst (All (λ o. HasBits w o.slot)) (sym grown) (All-append (λ o. HasBits w o.slot) ds (d ∷ []) l.invariant.slot_bits (one_of (λ o. HasBits w o.slot) d c.in_ok-slot.ensures.bits));
      makes_bits = subst (All (λ o. HasBits 1 o.makes)) (sym grown) (All-append (λ o. HasBits 1 o.makes) ds (d ∷ []) l.invariant.makes_bits (one_of (λ o. HasBits 1 o.makes) d c.in_ok-makes.ensures.bits));
      stands = λ p t took h m room own.
          let mine : IsOwn p m s = subst (IsOwn p m) (sym c.index-records-i.is) (own l.i s lt) in
          let is = sym c.index-seen-i.is in
          let here = subst (λ (o : Pending _). Gives c.args.part (wires_of l.wires.items) (wires_of c.target.new.wires.items) (o.written ∷ c.args.free ∷ slots_of c.args.taken.now) (λ v. AsksTarget v p t took h s.site w o.written c.args.free c.args.taken.now) (λ v. written_slot p t took h s.site) w c.in_ok-slot.slot) is in
          let there = subst (λ (o : Pending _). Gives c.args.part (wires_of c.target.new.wires.items) new (o.written ∷ []) (λ v. ShowsWritten v p t h s.site o.written) (λ v. bit (makes_entry p t h s.site)) 1 c.in_ok-makes.makes) is in
          subst (λ o. Far c.args.part w rs es c.args.free c.args.taken.now p t took h m ws new o (l.i + 1)) (sym grown)
          (far_more c.args.part w rs es c.args.free c.args.taken.now p t took h m l.i s e lt c.index-records-i.is (omega (arith, lt, c.requires.count)) c.index-seen-i.is mine room ws (wires_of l.wires.items) (wires_of c.target.new.wires.items) new ds d
          (l.invariant.stands p t took h m room own) l.invariant.count (here (c.in_ok-slot.ensures.gives p t took h)) (there (c.in_ok-makes.ensures.gives p t h mine.act)));
    }

pub returns : goal.returns
returns g c =
    let l = c.loop-i in
    let rs = c.args.records.now in
    let all : l.i ≡ length rs = omega (arith, c.loop-i-test.false, c.loop-i.auto) in
    record {
      has = record { count = l.invariant.count ∙ all; operands = l.invariant.operands; slot_bits = l.invariant.slot_bits; makes_bits = l.invariant.makes_bits };
      stands = λ p t took h m room own.
          far_all c.args.part c.args.slot_bits rs c.args.seen.now c.args.free c.args.taken.now p t took h m (wires_of c.args.wires.now.items) (wires_of l.wires.items) l.all.items l.i all (l.invariant.stands p t took h m room own);
    }
