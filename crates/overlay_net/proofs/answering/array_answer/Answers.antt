use Rattle.std.specs.Int.{w64, cast_unsigned}
use Rattle.std.specs.Prelude.{nat_le, nat_lt}
use Rattle.std.proofs.Common.{All, map as map_list, slice_index, ◌∙◌, ◌==◌, [], ◌∷◌, ap, subst, sym, arith}
use Rattle.hazard_core.specs.xdp_maps.Calls.{array_refusal, number_of}
use Rattle.hazard_core.specs.cell_core.Cells.{bits_from}
use Rattle.cell_nets.specs.declared.operand.Operand.TheVariants.{Known}
use Rattle.cell_nets.specs.Operands.{number_in, IsOperand, IsAvailable}
use Rattle.cell_nets.specs.Wires.{wires_of, always}
use Rattle.overlay_net.proofs.AnswerLemmas.{array_errors, array_phi, four_pairs, pairs_given}
use Rattle.cell_nets.proofs.StepNets.ChainLaws.{starts, next, last}
use Rattle.overlay_net.proofs.FindLemmas.{tail_of}
use Rattle.cell_nets.proofs.StepNets.StepLaws.{all_each, error_small}
use Rattle.overlay_net.proofs.answering.array_answer.Goals as goal

pub first_number-requires-clause-pairs : goal.first_number-requires-clause-pairs
first_number-requires-clause-pairs g c =
    let flags = c.args.flags in
    let index = c.in_ok-index.index in
    let key = c.args.key.now in
    let first = c.operand_at-first in
    let cap = c.args.cap in
    let unknown = c.in_ok-unknown.unknown in
    let outside = c.in_ok-outside.outside in
    let fresh = c.in_ok-fresh.fresh in
    let invalid = c.error-invalid in
    let there = c.error-there in
    let crowded = c.error-crowded in
    let same = c.deref.ensures.value ∙ four_pairs _ _ _ _ _ unknown (Known invalid.result) outside (Known crowded.result) fresh (Known there.result) (Known 1) (Known 0) c.new-pairs.ensures.items c.in_ok-add_pair.ensures c.in_ok-add_pair-2.ensures c.in_ok-add_pair-3.ensures c.in_ok-add_pair-4.ensures in
    subst (All IsOperand) (sym same)
    (all_each IsOperand (unknown ∷ Known invalid.result ∷ outside ∷ Known crowded.result ∷ fresh ∷ Known there.result ∷ Known 1 ∷ Known 0 ∷ [])
    (c.in_ok-unknown.ensures.operand, (error_small _ _ invalid.ensures (omega arith), (c.in_ok-outside.ensures.operand, (error_small _ _ crowded.ensures (omega arith), (c.in_ok-fresh.ensures.operand, (error_small _ _ there.ensures (omega arith), (omega arith, (omega arith, tt)))))))))

pub returns : goal.returns
returns g c =
    let flags = c.args.flags in
    let index = c.in_ok-index.index in
    let key = c.args.key.now in
    let first = c.operand_at-first in
    let cap = c.args.cap in
    let unknown = c.in_ok-unknown.unknown in
    let outside = c.in_ok-outside.outside in
    let fresh = c.in_ok-fresh.fresh in
    let invalid = c.error-invalid in
    let there = c.error-there in
    let crowded = c.error-crowded in
    let same = c.deref.ensures.value ∙ four_pairs _ _ _ _ _ unknown (Known invalid.result) outside (Known crowded.result) fresh (Known there.result) (Known 1) (Known 0) c.new-pairs.ensures.items c.in_ok-add_pair.ensures c.in_ok-add_pair-2.ensures c.in_ok-add_pair-3.ensures c.in_ok-add_pair-4.ensures in
    last
    (next
    (next
    (next
    (next (starts c.args.part (wires_of c.args.wires.now.items) (flags ∷ key) always) c.in_ok-index.ensures (λ ins h. all_each (IsAvailable ins) (first.result ∷ []) (first.ensures.there ins (tail_of (IsAvailable ins) flags key h), tt)) (λ v f k. tt))
    c.in_ok-unknown.ensures (λ ins h. all_each (IsAvailable ins) (Known 2 ∷ flags ∷ []) (tt, (h 1 flags (omega arith), tt))) (λ v f k. tt))
    c.in_ok-outside.ensures (λ ins h. all_each (IsAvailable ins) (Known cap ∷ index ∷ []) (tt, (h 1 index (omega arith), tt))) (λ v f k. tt))
    c.in_ok-fresh.ensures (λ ins h. all_each (IsAvailable ins) (flags ∷ Known 1 ∷ []) (h 3 flags (omega arith), (tt, tt))) (λ v f k. tt))
    (pairs_given c.args.part _ _ c.deref.result.now (unknown ∷ Known invalid.result ∷ outside ∷ Known crowded.result ∷ fresh ∷ Known there.result ∷ Known 1 ∷ Known 0 ∷ []) c.args.from c.args.width c.in_ok-out.out same c.in_ok-out.ensures)
    (λ ins h.
    all_each (IsAvailable ins) (unknown ∷ Known invalid.result ∷ outside ∷ Known crowded.result ∷ fresh ∷ Known there.result ∷ Known 1 ∷ Known 0 ∷ [])
    (h 2 unknown (omega arith), (tt, (h 1 outside (omega arith), (tt, (h 0 fresh (omega arith), (tt, (tt, (tt, tt)))))))))
    (λ v f k. tt) (λ v. bits_from (cast_unsigned w64 (number_of (array_refusal cap (bits_from (slice_index (map_list (number_in v) key) 0) 0 32) (number_in v flags)))) c.args.from c.args.width)
    (λ v f k.
    ap (λ n. bits_from n c.args.from c.args.width)
    (array_phi (number_in v unknown) invalid.result (number_in v outside) crowded.result (number_in v fresh) there.result invalid.ensures crowded.ensures there.ensures
    ∙ array_errors (number_in v unknown) (number_in v outside) (number_in v fresh) (nat_lt 2 (number_in v flags)) (nat_le cap (number_in v index)) (number_in v flags == 1) k.0.0.1 k.0.1 k.1
    ∙ ap (λ n. cast_unsigned w64 (number_of (array_refusal cap n (number_in v flags)))) (k.0.0.0.1 ∙ ap (λ n. bits_from n 0 32) (first.ensures.number v))))
