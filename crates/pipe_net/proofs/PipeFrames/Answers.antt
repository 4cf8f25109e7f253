-- The answer for which operands stand after the last place.
use Rattle.std.specs.Prelude.{◌≡◌, ℕ, ◌^◌, ◌<◌, Contains, List, length, map}
use Rattle.std.proofs.Common.{get_or, sym, ap, ◌∙◌, subst, arith}
use Rattle.std.proofs.lemmas.List.{length-map, get_or-map}
use Rattle.std.proofs.lemmas.List.Elements.{Contains-get_or}
use Rattle.beat_core.specs.Laws.{IsFrame}
use Rattle.beat_core.specs.Ports.{Arrival}
use Rattle.block_core.specs.net_core.Value.{Env}
use Rattle.block_core.specs.declared.name.Name.{Name}
use Rattle.hazard_core.specs.cell_core.declared.program.FrameByte.{FrameByte}
use Rattle.hazard_core.specs.cell_core.Cells.{bits_from}
use Rattle.hazard_core.specs.cell_core.Sites.{with_bytes}
use Rattle.pipe_core.proofs.cell_core_laws.FrameLaws.{with_bytes_bytes, with_bytes_length}
use Rattle.turn_net.specs.cell_nets.declared.operand.Operand.{Operand}
use Rattle.turn_net.specs.cell_nets.Operands.{number_in}
use Rattle.hazard_core.specs.StageValues.{stage_value}
use Rattle.pipe_core.specs.Machine.{Packet, answer_of}
use Rattle.commit_net.specs.frame_net.Answers.{Changes}
use Rattle.stage_net.specs.row_net.declared.place_net.outputs.AnswerByte.{AnswerByte}
use Rattle.stage_net.specs.row_net.PlaceNet.Exit.{byte_number, byte_numbers, IsAnswer}
use Rattle.pipe_net.specs.declared.parts.Part.{Part}
use Rattle.pipe_net.specs.Layout.{Layout}
use Rattle.pipe_net.specs.Saying.{ShowsAnswer}
use Rattle.pipe_net.specs.PipeFrames.Following.{HasBytes}
use Rattle.pipe_net.proofs.PipeFrames.Changing.{bits_small, AreOnce, with_bytes_other, with_bytes_at, same_byte, element_of}

module _ (l : Layout) (has : HasBytes l) (v : Env (Name Part)) (x : Packet) (shown : ShowsAnswer l v x) where
  abbrev frame_bytes : List FrameByte
  frame_bytes = l.build.program.frame

  low_bits : (n bits : ℕ) (a : Operand (Name Part)) → number_in v a ≡ n → n < 2 ^ bits → n ≡ bits_from (number_in v a) 0 bits
  low_bits n bits a e lt = sym (bits_small n bits lt) ∙ ap (λ m. bits_from m 0 bits) (sym e)

  once : AreOnce frame_bytes
  once = record { once = has.answer.once }

  -- an operand stands for each byte that is changed
  stands_for : (b : FrameByte) → Contains frame_bytes b → (a : AnswerByte (Name Part)) × Contains l.answer.bytes.items a × (a.at ≡ b.at)
  stands_for b c =
      let ats : List ℕ = map (λ y. y.at) frame_bytes in
      let there : Contains ats (get_or ats c.0 0) = Contains-get_or ats c.0 0 (let n = length-map frame_bytes (λ y. y.at) in let m = c.1 in omega (arith, n, m)) in
      let at : get_or ats c.0 0 ≡ b.at = get_or-map (λ y. y.at) frame_bytes c.0 b 0 c.1 ∙ ap (λ (z : FrameByte). z.at) c.2 in
      let numbered : Contains (byte_numbers l.answer) b.at = subst (λ ns. Contains ns b.at) (sym has.changed) (subst (Contains ats) at there) in
      element_of byte_number l.answer.bytes.items numbered.0 b.at numbered.1 numbered.2

  small_as : (b : FrameByte) → Contains frame_bytes b → (a : AnswerByte (Name Part)) → Contains l.answer.bytes.items a → a.at ≡ b.at → stage_value x.held b.cell < 256
  small_as b c a m e =
      let g = shown.bytes a m in
      subst (λ (z : FrameByte). stage_value x.held z.cell < 256) (same_byte frame_bytes once g.byte b g.changed c (g.at ∙ e)) g.small

  small_byte : (b : FrameByte) → Contains frame_bytes b → stage_value x.held b.cell < 256
  small_byte b c = let a = stands_for b c in small_as b c a.0 a.1 a.2

  module _ (frame : Arrival) where
    abbrev changed : List ℕ
    changed = with_bytes (stage_value x.held) frame.frame frame_bytes

    pub is_answer : IsAnswer v l.answer (answer_of l.build.program x.held frame)
    is_answer = record {
      verdict = low_bits (stage_value x.held l.build.program.verdict) 32 l.answer.verdict shown.verdict shown.verdict_small;
      target = low_bits (stage_value x.held l.build.program.target) 32 l.answer.target shown.target shown.target_small;
      bytes = λ y c lt.
          let g = shown.bytes y c in
          let p = g.changed in
          let size = with_bytes_length (stage_value x.held) frame.frame frame_bytes in
          let here : get_or changed g.byte.at 0 ≡ stage_value x.held g.byte.cell =
          subst (λ (z : FrameByte). get_or changed z.at 0 ≡ stage_value x.held z.cell) p.2
          (with_bytes_at (stage_value x.held) frame.frame frame_bytes once p.0 g.byte p.1 (subst (λ (z : FrameByte). z.at < length frame.frame) (sym p.2) (let q = g.at in omega (arith, q, size, lt))))
          in
          ap (λ n. get_or changed n 0) (sym g.at) ∙ here ∙ low_bits (stage_value x.held g.byte.cell) 8 y.operand g.value g.small;
    }

    pub changes : IsFrame frame.frame → Changes (byte_numbers l.answer) frame.frame (answer_of l.build.program x.held frame)
    changes f = record {
      count = with_bytes_length (stage_value x.held) frame.frame frame_bytes;
      are_bytes = with_bytes_bytes (stage_value x.held) frame.frame frame_bytes (λ j dflt lt. small_byte _ (Contains-get_or frame_bytes j dflt lt)) f.bytes;
      others = λ at no.
          with_bytes_other (stage_value x.held) frame.frame frame_bytes at (λ j dflt lt same.
          no (subst (λ ns. Contains ns at) (sym has.changed) (subst (λ n. Contains (map (λ y. y.at) frame_bytes) n) (get_or-map (λ y. y.at) frame_bytes j dflt 0 lt ∙ same)
          (Contains-get_or (map (λ y. y.at) frame_bytes) j 0 (let n = length-map frame_bytes (λ y. y.at) in omega (arith, n, lt))))));
    }
