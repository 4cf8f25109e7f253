use Rattle.std.proofs.Common.{◌^◌, ◌≤◌, ◌∷◌, ◌++◌, All, length, sym, subst, arith}
use Rattle.std.proofs.lemmas.List.Elements.{All-append}
use Rattle.hazard_core.specs.Tables.{table_at}
use Rattle.cell_nets.specs.Operands.{IsAvailable}
use Rattle.cell_nets.specs.Wires.{wires_of}
use Rattle.commit_net.specs.Targets.{slots_of}
use Rattle.overlay_net.specs.Seen.{all_read, ShowPending}
use Rattle.cell_nets.proofs.StepNets.ChainLaws.{starts}
use Rattle.read_net.specs.Sites.{all_cells, slot_cells, sites_of}
use Rattle.turn_net.specs.TargetNet.Targets.{all_of, written_of, outside_of, IsWritten, Shows, ShowTargets}
use Rattle.turn_net.proofs.TargetNet.StandLemmas.{left_of, right_of, first_of, stands_as, stands_then}
use Rattle.turn_net.proofs.TargetNet.TargetLemmas.{written_there}
use Rattle.turn_net.proofs.target_net.targets.target_nets.Goals as goal

pub each_target-requires-clause-seen : goal.each_target-requires-clause-seen
each_target-requires-clause-seen g c = subst (All IsWritten) (sym c.deref.ensures.value) (λ k d lt. (c.in_ok-seen.ensures.seen k d lt).operands 1 d.written (omega arith))

pub returns-clause-stands : goal.returns-clause-stands
returns-clause-stands g c = λ p t took h m own of.
    let part = c.args.part in
    let map = c.args.map.now in
    let rs = c.args.records.now in
    let ss = c.args.taken.now in
    let ws = wires_of c.args.wires.now.items in
    let es = c.in_ok-seen.seen.items in
    let e = c.deref.ensures.value in
    let free = c.in_ok-free.free in
    let ds = c.in_ok-all.all.items in
    let cells = all_cells rs in
    let slots = slot_cells map in
    let took_slots = slots_of ss in
    let outside = outside_of map rs ss in
    let read = all_read es ++ (cells ++ slots) in
    let args = written_of c.deref.result.now ++ free ∷ took_slots in
    let room : length (table_at t m) ≤ 2 ^ c.args.slot_bits = omega (arith, of.table.count, c.requires.room) in
    let first =
    stands_then (starts part ws outside (λ v. Shows v p t took h m map rs ss)) (c.in_ok-seen.ensures.stands p t h m own of)
    (λ ins a.
    let Q = IsAvailable ins in
    All-append Q cells slots (left_of Q cells (slots ++ took_slots) a) (left_of Q slots took_slots (right_of Q cells (slots ++ took_slots) a)))
    (λ v k. (k.records, k.table)) in
    let second =
    stands_then first (c.in_ok-free.ensures.stands t m of)
    (λ ins a. left_of (IsAvailable ins) slots took_slots (right_of (IsAvailable ins) cells (slots ++ took_slots) (right_of (IsAvailable ins) read outside a))) (λ v k. k.0.table) in
    let third =
    stands_then second (c.in_ok-all.ensures.stands p t took h m room own)
    (λ ins a.
    let Q = IsAvailable ins in
    let r = right_of Q (free ∷ slots) (read ++ outside) a in
    All-append Q (written_of c.deref.result.now) (free ∷ took_slots)
    (subst (λ l. All Q (written_of l)) (sym e) (written_there Q es (left_of Q (all_read es) (cells ++ slots) (left_of Q read outside r))))
    (first_of Q free took_slots (a 0 free (omega arith)) (right_of Q slots took_slots (right_of Q cells (slots ++ took_slots) (right_of Q read outside r)))))
    (λ v k. record { pending = subst (ShowPending v p t h (sites_of rs)) (sym e) k.0.1.1; first = k.1.1; taken = k.0.0.taken }) in
    stands_as (all_of ds) (λ v. ShowTargets v p t took h ss rs ds) third (λ ins a. left_of (IsAvailable ins) (all_of ds) args (left_of (IsAvailable ins) (all_of ds ++ args) ((free ∷ slots) ++ (read ++ outside)) a)) (λ v k. k.1)
