use Rattle.std.proofs.Common.{◌∙◌, ◌∷◌, ◌++◌, sym, ap, arith}
use Rattle.cell_nets.specs.Wires.{wires_of}
use Rattle.overlay_net.specs.SiteOperands.Pointers.{pointer_number}
use Rattle.hazard_core.specs.StageValues.{written_pointer}
use Rattle.hazard_core.specs.Overlay.{found_as}
use Rattle.overlay_net.specs.Seen.{read_of}
use Rattle.cell_nets.proofs.StepNets.ChainLaws.{starts, ends}
use Rattle.overlay_net.proofs.FindLemmas.{over_given, over_none}
use Rattle.overlay_net.proofs.WriteLemmas.{others_stay}
use Rattle.overlay_net.proofs.finding.found_over.Goals as goal

pub returns-in_ok-out-in-Update : goal.returns-in_ok-out-in-Update
returns-in_ok-out-in-Update g c =
    let d = c.args.seen.now in
    let x = c.in_ok-out-in-Update.ensures in
    record {
      operand = x.operand;
      bits = x.bits;
      given = λ p t h m i own f is e.
          over_given c.args.part _ _ d c.args.key.now d.written c.args.found c.in_ok-out-in-Update.out c.args.bits c.args.bytes x (λ ins all. all 2 d.written (omega arith)) p t h m i own f is e
          (λ v k. k.written ∙ ap (λ a. pointer_number (found_as a (written_pointer p t h i) f)) (sym c.in-Update.is));
    }

pub returns-in_ok-out-in-Delete : goal.returns-in_ok-out-in-Delete
returns-in_ok-out-in-Delete g c =
    let d = c.args.seen.now in
    let x = c.in_ok-out-in-Delete.ensures in
    record {
      operand = x.operand;
      bits = x.bits;
      given = λ p t h m i own f is e.
          over_given c.args.part _ _ d c.args.key.now _ c.args.found c.in_ok-out-in-Delete.out c.args.bits c.args.bytes x (λ ins all. tt) p t h m i own f is e
          (λ v k. ap (λ a. pointer_number (found_as a (written_pointer p t h i) f)) (sym c.in-Delete.is));
    }

pub returns-in_default : goal.returns-in_default
returns-in_default g c =
    let d = c.args.seen.now in
    let found = c.args.found in
    record {
      operand = c.requires.found;
      bits = c.requires.found_bits;
      given = λ p t h m i own f is e.
          ends (starts c.args.part (wires_of c.args.wires.now.items) (found ∷ read_of d ++ c.args.key.now) _) (λ v. pointer_number _) c.args.bits found (λ ins h. h 0 found (omega arith)) c.requires.found c.requires.found_bits
          (λ v fit k. k.2 ∙ over_none v p t h m i c.args.bytes own f d is e k.0 (others_stay d.act (written_pointer p t h i) f c.in_default.not-Update c.in_default.not-Delete));
    }
