use Rattle.std.specs.Prelude.{nat_le, count_by}
use Rattle.std.proofs.Common.{◌∙◌, ◌+◌, [], ◌∷◌, ap, arith}
use Rattle.hazard_core.specs.cell_core.Cells.{bit}
use Rattle.hazard_core.specs.Tables.{table_at, used_count}
use Rattle.hazard_core.specs.StageValues.{adds_key, takes_key}
use Rattle.cell_nets.specs.declared.operand.Operand.TheVariants.{Known}
use Rattle.cell_nets.specs.Operands.{number_in, IsAvailable}
use Rattle.cell_nets.specs.Wires.{wires_of}
use Rattle.overlay_net.specs.Seen.{all_read}
use Rattle.overlay_net.proofs.AnswerLemmas.{count_all}
use Rattle.cell_nets.proofs.StepNets.ChainLaws.{starts, next, last}
use Rattle.overlay_net.proofs.FindLemmas.{first_of, tail_of}
use Rattle.cell_nets.proofs.StepNets.StepLaws.{all_each, narrow_small}
use Rattle.overlay_net.proofs.answering.is_full.Goals as goal

pub returns : goal.returns
returns g c =
    let used = c.args.used in
    let cap = c.args.cap in
    let plus = c.in_ok-plus.plus in
    let room = c.in_ok-room_plus.room_plus in
    let x = c.in_ok-full.ensures in
    let args = used ∷ all_read c.args.pending.now in
    record {
      operand = x.operand;
      bits = x.bits;
      given = λ p t h m before of.
          last
          (next (next (starts c.args.part (wires_of c.args.wires.now.items) args _) (c.in_ok-plus.ensures.given p t h m before of) (λ ins all. all) (λ v f k. k.0)) (c.in_ok-room_plus.ensures.given p t h m before of)
          (λ ins all. first_of (IsAvailable ins) (Known cap) (all_read c.args.pending.now) tt (tail_of (IsAvailable ins) used (all_read c.args.pending.now) (tail_of (IsAvailable ins) plus args all))) (λ v f k. k.0.0))
          x (λ ins all. all_each (IsAvailable ins) (room ∷ plus ∷ []) (all 0 room (omega arith), (all 1 plus (omega arith), tt))) (λ v f k. tt)
          (λ v. bit (nat_le (cap + count_by (takes_key p t.decls h) before) (used_count (table_at t m) + count_by (adds_key p t.decls h) before)))
          (λ v f k.
          ap (λ n. bit (nat_le n (number_in v plus))) (k.1 ∙ count_all (takes_key p t.decls h) before cap (omega (arith, c.requires.cap)) (omega (arith, of.count, c.requires.few)))
          ∙ ap (λ n. bit (nat_le (cap + count_by (takes_key p t.decls h) before) n))
          (k.0.1 ∙ count_all (adds_key p t.decls h) before (number_in v used) (narrow_small v 17 used c.requires.used_narrow (f 2 used (omega arith))) (omega (arith, of.count, c.requires.few)) ∙ ap (λ n. n + count_by (adds_key p t.decls h) before) k.0.0.1));
    }
