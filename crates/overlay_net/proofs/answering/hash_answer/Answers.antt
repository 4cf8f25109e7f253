use Rattle.std.specs.Int.{w64, cast_unsigned}
use Rattle.std.specs.Prelude.{nat_le, nat_lt}
use Rattle.std.proofs.Common.{All, ◌∙◌, ◌&&◌, ◌==◌, refl, [], ◌∷◌, ap, subst, sym, arith}
use Rattle.hazard_core.specs.xdp_maps.Calls.{hash_refusal, number_of}
use Rattle.hazard_core.specs.cell_core.Cells.{bit, on, bits_from}
use Rattle.cell_nets.specs.declared.operand.Operand.TheVariants.{Known}
use Rattle.cell_nets.specs.Operands.{number_in, IsOperand, IsAvailable}
use Rattle.cell_nets.specs.Wires.{wires_of}
use Rattle.overlay_net.proofs.AnswerLemmas.{hash_errors, hash_phi, six_pairs, pairs_given}
use Rattle.cell_nets.proofs.StepNets.ChainLaws.{starts, next, last}
use Rattle.cell_nets.proofs.StepNets.StepLaws.{all_each, on_bit, error_small}
use Rattle.overlay_net.proofs.answering.hash_answer.Goals as goal

pub first_number-requires-clause-pairs : goal.first_number-requires-clause-pairs
first_number-requires-clause-pairs g c =
    let flags = c.args.flags in
    let present = c.args.present in
    let full = c.args.full in
    let unknown = c.in_ok-unknown.unknown in
    let fresh = c.in_ok-fresh.fresh in
    let exists = c.in_ok-exists.exists in
    let known = c.in_ok-known.known in
    let invalid = c.error-invalid in
    let there = c.error-there in
    let missing = c.error-missing in
    let crowded = c.error-crowded in
    let same = c.deref.ensures.value ∙ six_pairs _ _ _ _ _ _ _ unknown (Known invalid.result) exists (Known there.result) present (Known 0) known (Known missing.result) full (Known crowded.result) (Known 1) (Known 0) c.new-pairs.ensures.items c.in_ok-add_pair.ensures c.in_ok-add_pair-2.ensures c.in_ok-add_pair-3.ensures c.in_ok-add_pair-4.ensures
    c.in_ok-add_pair-5.ensures c.in_ok-add_pair-6.ensures in
    subst (All IsOperand) (sym same)
    (all_each IsOperand (unknown ∷ Known invalid.result ∷ exists ∷ Known there.result ∷ present ∷ Known 0 ∷ known ∷ Known missing.result ∷ full ∷ Known crowded.result ∷ Known 1 ∷ Known 0 ∷ []) (
      c.in_ok-unknown.ensures.operand,
      (
        error_small _ _ invalid.ensures (omega arith),
        (
          c.in_ok-exists.ensures.operand,
          (
            error_small _ _ there.ensures (omega arith),
            (
              c.requires.present,
              (
                omega arith,
                (
                  c.in_ok-known.ensures.operand,
                  (error_small _ _ missing.ensures (omega arith), (c.requires.full, (error_small _ _ crowded.ensures (omega arith), (omega arith, (omega arith, tt))))),
                ),
              ),
            ),
          ),
        ),
      ),
    ))

pub returns : goal.returns
returns g c = λ cap used.
    let flags = c.args.flags in
    let present = c.args.present in
    let full = c.args.full in
    let unknown = c.in_ok-unknown.unknown in
    let fresh = c.in_ok-fresh.fresh in
    let exists = c.in_ok-exists.exists in
    let known = c.in_ok-known.known in
    let invalid = c.error-invalid in
    let there = c.error-there in
    let missing = c.error-missing in
    let crowded = c.error-crowded in
    let same = c.deref.ensures.value ∙ six_pairs _ _ _ _ _ _ _ unknown (Known invalid.result) exists (Known there.result) present (Known 0) known (Known missing.result) full (Known crowded.result) (Known 1) (Known 0) c.new-pairs.ensures.items c.in_ok-add_pair.ensures c.in_ok-add_pair-2.ensures c.in_ok-add_pair-3.ensures c.in_ok-add_pair-4.ensures
    c.in_ok-add_pair-5.ensures c.in_ok-add_pair-6.ensures in
    last
    (next
    (next
    (next (next (starts c.args.part (wires_of c.args.wires.now.items) (flags ∷ present ∷ full ∷ []) _) c.in_ok-unknown.ensures (λ ins h. all_each (IsAvailable ins) (Known 2 ∷ flags ∷ []) (tt, (h 0 flags (omega arith), tt))) (λ v f k. tt)) c.in_ok-fresh.ensures
    (λ ins h. all_each (IsAvailable ins) (flags ∷ Known 1 ∷ []) (h 1 flags (omega arith), (tt, tt))) (λ v f k. tt))
    c.in_ok-exists.ensures (λ ins h. all_each (IsAvailable ins) (fresh ∷ present ∷ []) (h 0 fresh (omega arith), (h 3 present (omega arith), tt))) (λ v f k. tt))
    c.in_ok-known.ensures (λ ins h. all_each (IsAvailable ins) (flags ∷ Known 2 ∷ []) (h 3 flags (omega arith), (tt, tt))) (λ v f k. tt))
    (pairs_given c.args.part _ _ c.deref.result.now (unknown ∷ Known invalid.result ∷ exists ∷ Known there.result ∷ present ∷ Known 0 ∷ known ∷ Known missing.result ∷ full ∷ Known crowded.result ∷ Known 1 ∷ Known 0 ∷ []) c.args.from c.args.width c.in_ok-out.out same c.in_ok-out.ensures)
    (λ ins h.
    all_each (IsAvailable ins) (unknown ∷ Known invalid.result ∷ exists ∷ Known there.result ∷ present ∷ Known 0 ∷ known ∷ Known missing.result ∷ full ∷ Known crowded.result ∷ Known 1 ∷ Known 0 ∷ [])
    (h 3 unknown (omega arith), (tt, (h 1 exists (omega arith), (tt, (h 5 present (omega arith), (tt, (h 0 known (omega arith), (tt, (h 6 full (omega arith), (tt, (tt, (tt, tt)))))))))))))
    (λ v f k. tt) (λ v. bits_from (cast_unsigned w64 (number_of (hash_refusal cap used (on (number_in v present)) (number_in v flags)))) c.args.from c.args.width)
    (λ v f k.
    ap (λ n. bits_from n c.args.from c.args.width)
    (hash_phi (number_in v unknown) invalid.result (number_in v exists) there.result (number_in v present) (number_in v known) missing.result (number_in v full) crowded.result invalid.ensures
    there.ensures missing.ensures crowded.ensures
    ∙ hash_errors (number_in v unknown) (number_in v exists) (number_in v present) (number_in v known) (number_in v full) (nat_lt 2 (number_in v flags)) (number_in v flags == 1) (on (number_in v present)) (number_in v flags == 2) (nat_le cap used) k.0.0.0.1
    (k.0.1 ∙ ap (λ b. bit (b && on (number_in v present))) (ap on k.0.0.1 ∙ on_bit (number_in v flags == 1))) refl k.1 k.0.0.0.0))
