use Rattle.std.specs.Prelude.{if◌then◌else◌}
use Rattle.std.proofs.Common.{◌^◌, ◌∙◌, ◌+◌, ◌*◌, [], ◌∷◌, ap, sym, arith}
use Rattle.hazard_core.specs.cell_core.declared.site.Act.TheVariants as act
use Rattle.hazard_core.specs.cell_core.Cells.{on}
use Rattle.hazard_core.specs.StageValues.{written_as, written_pointer}
use Rattle.hazard_core.proofs.cell_core_laws.BitLaws.{small_bits}
use Rattle.cell_nets.specs.declared.operand.Operand.TheVariants.{Known}
use Rattle.cell_nets.specs.Operands.{number_in, IsAvailable}
use Rattle.cell_nets.specs.Wires.{wires_of}
use Rattle.overlay_net.specs.SiteOperands.Pointers.{pointer_number}
use Rattle.overlay_net.specs.SiteOperands.Sites.{operands_of, all_of}
use Rattle.cell_nets.proofs.StepNets.ChainLaws.{starts, last}
use Rattle.cell_nets.proofs.StepNets.StepLaws.{all_each, narrow_small, choice_small, cut_given}
use Rattle.overlay_net.proofs.WriteLemmas.{written_is, others_through, update_written}
use Rattle.overlay_net.proofs.writing.written_pointer.Goals as goal

pub returns-in_ok-out-in-Hash : goal.returns-in_ok-out-in-Hash
returns-in_ok-out-in-Hash g c =
    let s = operands_of c.args.nets.now in
    let d = c.args.decl.now in
    let w = c.args.bits in
    let j = c.args.number in
    let x = c.in_ok-out-in-Hash.ensures in
    record {
      operand = x.operand;
      bits = x.bits;
      given = λ p t h is.
          last (starts c.args.part (wires_of c.args.wires.now.items) (c.args.slot ∷ all_of s) _) x (λ ins all. all_each (IsAvailable ins) (s.found ∷ s.found ∷ Known (4 * j + 2) ∷ []) (all 2 s.found (omega arith), (all 2 s.found (omega arith), (tt, tt)))) (λ v f k. tt) (λ v. pointer_number (written_pointer p t h j))
          (λ v f k.
          let f0 = number_in v s.found in
          small_bits (if on f0 then f0 else 4 * j + 2) w (choice_small (on f0) f0 (4 * j + 2) (2 ^ w) (narrow_small v w s.found c.requires.found (f 2 s.found (omega arith))) (omega (arith, c.requires.number)))
          ∙ update_written p t h j c.args.act d is c.in-Update.is c.in-Hash.is (number_in v s.found) k.0.found);
    }

pub returns-in_ok-out-in-Array : goal.returns-in_ok-out-in-Array
returns-in_ok-out-in-Array g c =
    let s = operands_of c.args.nets.now in
    let d = c.args.decl.now in
    let j = c.args.number in
    let slot = c.args.slot in
    let x = c.in_ok-out-in-Array.ensures in
    record {
      operand = x.operand;
      bits = x.bits;
      given = λ p t h is.
          cut_given c.args.part _ _ (slot ∷ all_of s) _ (λ v. pointer_number (written_pointer p t h j)) c.args.bits slot c.in_ok-out-in-Array.out x c.requires.slot (λ Q all. all 0 slot (omega arith))
          (λ v k. k.1 c.in-Update.is c.in-Array.is ∙ ap pointer_number (sym (written_is p t h j c.args.act d is ∙ ap (λ a. written_as a d.kind p t h j) c.in-Update.is ∙ ap (λ b. written_as act.Update b p t h j) c.in-Array.is)));
    }

pub returns-in_ok-out-in-Delete : goal.returns-in_ok-out-in-Delete
returns-in_ok-out-in-Delete g c =
    let s = operands_of c.args.nets.now in
    let d = c.args.decl.now in
    let j = c.args.number in
    let x = c.in_ok-out-in-Delete.ensures in
    record {
      operand = x.operand;
      bits = x.bits;
      given = λ p t h is.
          cut_given c.args.part _ _ (c.args.slot ∷ all_of s) _ (λ v. pointer_number (written_pointer p t h j)) c.args.bits s.found c.in_ok-out-in-Delete.out x c.requires.found (λ Q all. all 2 s.found (omega arith))
          (λ v k. k.0.found ∙ ap pointer_number (sym (written_is p t h j c.args.act d is ∙ ap (λ a. written_as a d.kind p t h j) c.in-Delete.is)));
    }

pub returns-in_ok-out-in_default : goal.returns-in_ok-out-in_default
returns-in_ok-out-in_default g c =
    let s = operands_of c.args.nets.now in
    let d = c.args.decl.now in
    let j = c.args.number in
    let x = c.in_ok-out-in_default.ensures in
    record {
      operand = x.operand;
      bits = x.bits;
      given = λ p t h is.
          cut_given c.args.part _ _ (c.args.slot ∷ all_of s) _ (λ v. pointer_number (written_pointer p t h j)) c.args.bits s.pointer c.in_ok-out-in_default.out x c.requires.pointer (λ Q all. all 4 s.pointer (omega arith))
          (λ v k. k.0.asked.pointer ∙ ap pointer_number (sym (written_is p t h j c.args.act d is ∙ others_through c.args.act d p t h j c.in_default.not-Update c.in_default.not-Delete)));
    }

pub cut-requires-in_default : goal.cut-requires-in_default
cut-requires-in_default g c = record { operand = c.requires.operands 3 c.args.nets.now.pointer (omega arith); from = omega arith; width = c.requires.bits }
