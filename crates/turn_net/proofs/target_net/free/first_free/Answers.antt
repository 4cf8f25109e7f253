use Rattle.std.proofs.Common.{◌∙◌, [], ◌∷◌, length, sym, arith}
use Rattle.std.proofs.lemmas.Bool.{eqb-true}
use Rattle.hazard_core.specs.Tables.{table_at}
use Rattle.cell_nets.specs.Operands.{IsAvailable}
use Rattle.cell_nets.specs.Wires.{wires_of}
use Rattle.cell_nets.proofs.StepNets.ChainLaws.{starts, next}
use Rattle.hash_net.specs.SlotNet.Slots.{slots_of, operands_of}
use Rattle.read_net.specs.Sites.{slot_cells, ShowsTable}
use Rattle.turn_net.proofs.TargetNet.StandLemmas.{tail_of, stands_as, stands_none}
use Rattle.turn_net.proofs.TargetNet.FreeLemmas.{array_full}
use Rattle.turn_net.proofs.target_net.free.first_free.Goals as goal

pub returns-then-is_empty-clause-stands : goal.returns-then-is_empty-clause-stands
returns-then-is_empty-clause-stands g c = λ t m of. stands_none _ (λ v n. (n, λ some. absurd (omega (arith, some, eqb-true (length c.args.records.now) 0 (sym c.is_empty.ensures ∙ c.if-is_empty.true)))))

pub returns-in_ok-out-in-Hash-clause-operand : goal.returns-in_ok-out-in-Hash-clause-operand
returns-in_ok-out-in-Hash-clause-operand g c = (c.in_ok-out-in-Hash.ensures [] c.args.map.now.decl.now).operand

pub returns-in_ok-out-in-Hash-clause-stands : goal.returns-in_ok-out-in-Hash-clause-stands
returns-in_ok-out-in-Hash-clause-stands g c = λ t m of.
    let map = c.args.map.now in
    let out = c.in_ok-out-in-Hash.out in
    let slots = slot_cells map in
    stands_as (out ∷ slots) _
    (next (starts c.args.part (wires_of c.args.wires.now.items) slots (λ v. ShowsTable v t m map)) (c.in_ok-out-in-Hash.ensures (table_at t m) map.decl.now) (λ ins a. tail_of (IsAvailable ins) map.used (operands_of (slots_of map.slots.now)) a)
    (λ v f n. (n c.in-Hash.is).0))
    (λ ins a. a) (λ v k. (k.0, λ some less. k.1))

pub returns-in-Array-clause-stands : goal.returns-in-Array-clause-stands
returns-in-Array-clause-stands g c = λ t m of. stands_none _ (λ v n. (n, λ some less. absurd (omega (arith, less, array_full c.args.map.now.decl.now (table_at t m) c.in-Array.is of.table))))
