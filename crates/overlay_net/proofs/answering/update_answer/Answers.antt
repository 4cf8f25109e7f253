use Rattle.std.specs.Int.{w64, cast_unsigned}
use Rattle.std.specs.Prelude.{not, count_by}
use Rattle.std.proofs.Common.{All, ◌∙◌, ◌+◌, [], ◌∷◌, ◌++◌, map as map_list, slice_index, ap, subst, sym, arith}
use Rattle.hazard_core.specs.xdp_maps.Calls.{hash_refusal, array_refusal, number_of}
use Rattle.hazard_core.specs.xdp_maps.Contents.{index_of}
use Rattle.hazard_core.specs.cell_core.Cells.{on, bits_from}
use Rattle.hazard_core.specs.cell_core.Sites.{site_at, bytes_of}
use Rattle.hazard_core.specs.Tables.{table_at, used_count}
use Rattle.hazard_core.specs.StageValues.{is_null, stage_value, adds_key, takes_key}
use Rattle.hazard_core.specs.Overlay.{key_pointer, update_answer, answer_over}
use Rattle.cell_nets.specs.Operands.{number_in, IsOperand, IsAvailable}
use Rattle.cell_nets.specs.Wires.{wires_of}
use Rattle.overlay_net.specs.SiteOperands.Sites.{operands_of, all_of}
use Rattle.overlay_net.specs.Seen.{all_read}
use Rattle.overlay_net.proofs.AnswerLemmas.{update_is, index_first}
use Rattle.cell_nets.proofs.StepNets.ChainLaws.{starts, next, last}
use Rattle.overlay_net.proofs.FindLemmas.{first_of, tail_of, left_of, right_of}
use Rattle.cell_nets.proofs.StepNets.StepLaws.{all_each}
use Rattle.overlay_net.proofs.answering.update_answer.Goals as goal
use Rattle.overlay_net.proofs.PointerLaws.{found_on}
use Rattle.overlay_net.proofs.SiteOperandLaws.{keys_of, others_of}

pub returns-in_ok-out-in-Hash : goal.returns-in_ok-out-in-Hash
returns-in_ok-out-in-Hash g c =
    let s = operands_of c.args.nets.now in
    let d = c.args.decl.now in
    let key = c.args.key in
    let used = c.args.used in
    let flags = c.operand_at-flags.result in
    let full = c.in_ok-full-in-Hash.full in
    let ds = c.args.pending.now in
    let from = c.args.from in
    let width = c.args.width in
    let x = c.in_ok-out-in-Hash.ensures in
    let o = x 0 0 in
    record {
      operand = o.operand;
      bits = o.bits;
      given = λ p t h before j is of.
          let m = (site_at p.sites j).map in
          let more = used_count (table_at t m) + count_by (adds_key p t.decls h) before in
          let less = count_by (takes_key p t.decls h) before in
          last
          (next (starts c.args.part (wires_of c.args.wires.now.items) (key ∷ used ∷ all_of s ++ all_read ds) _) (c.in_ok-full-in-Hash.ensures.given p t h m before of)
          (λ ins all. first_of (IsAvailable ins) used (all_read ds) (all 1 used (omega arith)) (right_of (IsAvailable ins) (all_of s) (all_read ds) (tail_of (IsAvailable ins) used (all_of s ++ all_read ds) (tail_of (IsAvailable ins) key (used ∷ all_of s ++ all_read ds) all)))) (λ v f k. (k.1, k.3)))
          (x (d.cap + less) more)
          (λ ins all.
          all_each (IsAvailable ins) (flags ∷ key ∷ full ∷ [])
          (c.operand_at-flags.ensures.there ins (subst (All (IsAvailable ins)) (sym c.deref.ensures.value) (others_of (IsAvailable ins) s (left_of (IsAvailable ins) (all_of s) (all_read ds) (tail_of (IsAvailable ins) used (all_of s ++ all_read ds) (tail_of (IsAvailable ins) key (used ∷ all_of s ++ all_read ds) (tail_of (IsAvailable ins) full (key ∷ used ∷ all_of s ++ all_read ds) all)))))), (all 1 key (omega arith), (all 0 full (omega arith), tt))))
          (λ v f k. k.1) (λ v. bits_from (answer_over p t h before j) from width)
          (λ v f k.
          let q = key_pointer p t h before j in
          let others = map_list (stage_value h) (site_at p.sites j).operands in
          ap (λ n. bits_from n from width)
          (ap (λ b. cast_unsigned w64 (number_of (hash_refusal (d.cap + less) more b (number_in v flags)))) (ap on k.0.2 ∙ found_on q)
          ∙ ap (λ n. cast_unsigned w64 (number_of (hash_refusal (d.cap + less) more (not (is_null q)) n))) (c.operand_at-flags.ensures.number v ∙ ap (λ l. slice_index (map_list (number_in v) l) 0) c.deref.ensures.value ∙ ap (λ l. slice_index l 0) k.0.0.operands)
          ∙ sym (update_is p t h before j d is ∙ ap (λ b. cast_unsigned w64 (update_answer b d more less (not (is_null q)) (bytes_of d.key (map_list (stage_value h) (site_at p.sites j).key)) (slice_index others 0))) c.in-Hash.is)));
    }

pub returns-in_ok-out-in-Array : goal.returns-in_ok-out-in-Array
returns-in_ok-out-in-Array g c =
    let s = operands_of c.args.nets.now in
    let d = c.args.decl.now in
    let key = c.args.key in
    let used = c.args.used in
    let flags = c.operand_at-flags.result in
    let words = c.deref-in-Array in
    let ds = c.args.pending.now in
    let from = c.args.from in
    let width = c.args.width in
    let x = c.in_ok-out-in-Array.ensures in
    record {
      operand = x.operand;
      bits = x.bits;
      given = λ p t h before j is of.
          let m = (site_at p.sites j).map in
          let more = used_count (table_at t m) + count_by (adds_key p t.decls h) before in
          let less = count_by (takes_key p t.decls h) before in
          last (starts c.args.part (wires_of c.args.wires.now.items) (key ∷ used ∷ all_of s ++ all_read ds) _) x
          (λ ins all.
          let own = left_of (IsAvailable ins) (all_of s) (all_read ds) (tail_of (IsAvailable ins) used (all_of s ++ all_read ds) (tail_of (IsAvailable ins) key (used ∷ all_of s ++ all_read ds) all)) in
          first_of (IsAvailable ins) flags words.result.now (c.operand_at-flags.ensures.there ins (subst (All (IsAvailable ins)) (sym c.deref.ensures.value) (others_of (IsAvailable ins) s own))) (subst (All (IsAvailable ins)) (sym words.ensures.value) (keys_of (IsAvailable ins) s own)))
          (λ v f k. tt) (λ v. bits_from (answer_over p t h before j) from width)
          (λ v f k.
          let q = key_pointer p t h before j in
          let keys = map_list (stage_value h) (site_at p.sites j).key in
          let others = map_list (stage_value h) (site_at p.sites j).operands in
          let n = slice_index others 0 in
          ap (λ n. bits_from n from width)
          (ap (λ l. cast_unsigned w64 (number_of (array_refusal d.cap (bits_from (slice_index (map_list (number_in v) l) 0) 0 32) (number_in v flags)))) words.ensures.value
          ∙ ap (λ l. cast_unsigned w64 (number_of (array_refusal d.cap (bits_from (slice_index l 0) 0 32) (number_in v flags)))) k.0.key
          ∙ ap (λ z. cast_unsigned w64 (number_of (array_refusal d.cap z (number_in v flags)))) (sym (index_first keys) ∙ ap (λ z. index_of (bytes_of z keys)) (sym (c.requires.index c.in-Array.is)))
          ∙ ap (λ z. cast_unsigned w64 (number_of (array_refusal d.cap (index_of (bytes_of d.key keys)) z)))
          (c.operand_at-flags.ensures.number v ∙ ap (λ l. slice_index (map_list (number_in v) l) 0) c.deref.ensures.value ∙ ap (λ l. slice_index l 0) k.0.operands)
          ∙ sym (update_is p t h before j d is ∙ ap (λ b. cast_unsigned w64 (update_answer b d more less (not (is_null q)) (bytes_of d.key keys) n)) c.in-Array.is)));
    }

pub operand_at-flags-requires : goal.operand_at-flags-requires
operand_at-flags-requires g c = subst (All IsOperand) (sym c.deref.ensures.value) (others_of IsOperand (operands_of c.args.nets.now) c.requires.operands)

pub array_answer-requires-clause-key : goal.array_answer-requires-clause-key
array_answer-requires-clause-key g c = subst (All IsOperand) (sym c.deref-in-Array.ensures.value) (keys_of IsOperand (operands_of c.args.nets.now) c.requires.operands)
