use Rattle.std.specs.Int.{w64, cast_unsigned}
use Rattle.std.specs.Prelude.{not}
use Rattle.std.proofs.Common.{◌∙◌, ◌^◌, ◌<◌, [], ◌∷◌, ap, sym, arith}
use Rattle.std.proofs.Math.Pow.{pow_mono}
use Rattle.hazard_core.specs.cell_core.Cells.{on, bits_from}
use Rattle.hazard_core.specs.StageValues.{is_null}
use Rattle.hazard_core.specs.Overlay.{key_pointer, delete_answer, answer_over}
use Rattle.cell_nets.specs.declared.operand.Operand.TheVariants.{Known}
use Rattle.cell_nets.specs.Operands.{number_in}
use Rattle.cell_nets.specs.Wires.{wires_of}
use Rattle.overlay_net.proofs.AnswerLemmas.{delete_is, delete_choice}
use Rattle.cell_nets.proofs.StepNets.ChainLaws.{starts, last, ends}
use Rattle.overlay_net.proofs.answering.delete_answer.Goals as goal
use Rattle.overlay_net.proofs.PointerLaws.{found_on}

pub returns-in_ok-out-in-Hash : goal.returns-in_ok-out-in-Hash
returns-in_ok-out-in-Hash g c =
    let key = c.args.key in
    let x = c.in_ok-out-in-Hash.ensures in
    record {
      operand = x.operand;
      bits = x.bits;
      given = λ p t h before j is.
          last (starts c.args.part (wires_of c.args.wires.now.items) (key ∷ []) _) x (λ ins all. all) (λ v f k. tt) (λ v. bits_from (answer_over p t h before j) c.args.from c.args.width)
          (λ v f k.
          let there = not (is_null (key_pointer p t h before j)) in
          ap (λ n. bits_from n c.args.from c.args.width)
          (delete_choice (number_in v key) c.error-missing.result there (ap on k ∙ found_on (key_pointer p t h before j)) c.error-missing.ensures
          ∙ sym (delete_is p t h before j c.args.decl.now is ∙ ap (λ b. cast_unsigned w64 (delete_answer b there)) c.in-Hash.is)));
    }

pub returns-in-Array : goal.returns-in-Array
returns-in-Array g c =
    let from = c.args.from in
    let width = c.args.width in
    let n = c.error.result in
    let cut = c.bits_from.ensures.value in
    let below = c.bits_from.ensures.word in
    let small : c.bits_from.result < 2 ^ 64 = omega (arith, below, pow_mono {i = width} {j = 64} c.requires.width) in
    record {
      operand = small;
      bits = below;
      given = λ p t h before j is.
          ends (starts c.args.part (wires_of c.args.wires.now.items) (c.args.key ∷ []) _) (λ v. bits_from (answer_over p t h before j) from width) width (Known c.bits_from.result) (λ ins all. tt) small below
          (λ v f k. cut ∙ ap (λ n. bits_from n from width) (c.error.ensures ∙ sym (delete_is p t h before j c.args.decl.now is ∙ ap (λ b. cast_unsigned w64 (delete_answer b (not (is_null (key_pointer p t h before j))))) c.in-Array.is)));
    }
