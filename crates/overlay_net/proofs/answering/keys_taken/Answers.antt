use Rattle.std.specs.Prelude.{count_by}
use Rattle.std.proofs.Common.{◌≡◌, ◌+◌, [], ◌∷◌, ap, arith}
use Rattle.std.proofs.lemmas.List.{take_all}
use Rattle.hazard_core.specs.cell_core.Cells.{bit, bits_from}
use Rattle.hazard_core.specs.StageValues.{takes_key, writes}
use Rattle.cell_nets.specs.Operands.{number_in, IsAvailable}
use Rattle.cell_nets.specs.Wires.{wires_of}
use Rattle.overlay_net.specs.Seen.{all_read, HasOperands}
use Rattle.overlay_net.proofs.AnswerLemmas.{count_more, plus_none}
use Rattle.cell_nets.proofs.StepNets.ChainLaws.{starts, last}
use Rattle.cell_nets.proofs.StepNets.StepLaws.{all_each, avail_at, gives_same}
use Rattle.overlay_net.proofs.answering.keys_taken.Goals as goal

pub loop-seen-init : goal.loop-seen-init
loop-seen-init g c =
    let start = c.args.start in
    let x = c.in_ok-count.ensures in
    record {
      operand = x.operand;
      bits = x.bits;
      given = λ p t h m before of.
          last (starts c.args.part (wires_of c.args.wires.now.items) (start ∷ all_read c.args.pending.now) _) x (λ ins all. all_each (IsAvailable ins) (start ∷ []) (all 0 start (omega arith), tt)) (λ v f k. tt) _
          (λ v f k. ap (λ n. bits_from n 0 18) (plus_none (number_in v start)));
    }

pub takes_key-requires : goal.takes_key-requires
takes_key-requires g c =
    let d = c.seen-item.result in
    let all = avail_at HasOperands c.args.pending.now c.loop-seen.seen-index d (omega arith) c.seen-item.is c.requires.pending in
    all 0 d.writes (omega arith)

pub loop-seen-preserved : goal.loop-seen-preserved
loop-seen-preserved g c =
    let d = c.seen-item.result in
    let one = c.in_ok-less.less in
    let x = c.in_ok-count-2.ensures in
    record {
      operand = x.operand;
      bits = x.bits;
      given = λ p t h m before of.
          count_more c.args.part _ c.args.pending.now c.args.start p t h m before of (takes_key p t.decls h) _ _ _ (d.writes ∷ []) c.loop-seen.seen-index d c.loop-seen.count one c.in_ok-count-2.count (λ i v. number_in v d.writes ≡ bit (writes p t.decls h i)) (omega arith) c.seen-item.is
          (c.loop-seen.invariant.given p t h m before of) (λ i is. c.in_ok-less.ensures.given p t.decls h i is.act) (λ Q all. all_each Q (d.writes ∷ []) (all 0 d.writes (omega arith), tt)) (λ i v k. k.writes) x;
    }

pub returns : goal.returns
returns g c =
    let l = c.loop-seen.invariant in
    let start = c.args.start in
    record {
      operand = l.operand;
      bits = l.bits;
      given = λ p t h m before of.
          gives_same c.args.part _ _ (start ∷ all_read c.args.pending.now) _ _ _ 18 c.loop-seen.count (l.given p t h m before of)
          (λ v. ap (λ xs. bits_from (number_in v start + count_by (takes_key p t.decls h) xs) 0 18) (take_all c.loop-seen.seen-index before (omega (arith, of.count))));
    }
