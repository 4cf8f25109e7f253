use Rattle.std.proofs.Common.{◌∙◌, ◌∷◌, ◌++◌, ap, arith}
use Rattle.pipe_core.specs.hazard_core.Tables.{decl_of}
use Rattle.overlay_net.specs.cell_nets.Operands.{IsOperand, IsAvailable}
use Rattle.overlay_net.specs.cell_nets.Wires.{wires_of}
use Rattle.overlay_net.specs.Reading.{IsSite}
use Rattle.overlay_net.specs.Seen.{ShowsPending}
use Rattle.overlay_net.proofs.cell_nets_laws.StepNets.ChainLaws.{starts, next}
use Rattle.overlay_net.proofs.cell_nets_laws.StepNets.StepLaws.{narrow_bits}
use Rattle.read_net.specs.Sites.{cells_of, slot_cells, ShowsOwn, ShowsTable}
use Rattle.read_net.proofs.StandLemmas.{left_of, right_of, first_of, tail_of, stands_as, stands_then}
use Rattle.read_net.proofs.pendings.pending.Goals as goal

pub returns-clause-seen : goal.returns-clause-seen
returns-clause-seen g c =
    let own = c.args.own.now in
    let wrote = c.in_ok-wrote.wrote in
    let written = c.in_ok-written.written in
    record {
      operands = first_of IsOperand wrote (written ∷ cells_of own) c.in_ok-wrote.ensures.operand (first_of IsOperand written (cells_of own) c.in_ok-written.ensures.operand c.requires.own.operands);
      key = c.requires.own.key;
      written = narrow_bits c.args.map.now.bits written c.in_ok-written.ensures.bits;
    }

pub returns-clause-stands : goal.returns-clause-stands
returns-clause-stands g c = λ p t h m is of.
    let own = c.args.own.now in
    let map = c.args.map.now in
    let j = own.site in
    let wrote = c.in_ok-wrote.wrote in
    let slot = c.in_ok-slot.slot in
    let written = c.in_ok-written.written in
    let cells = cells_of own in
    let slots = slot_cells map in
    let args = cells ++ slots in
    let site : IsSite p t.decls j own.act map.decl.now = record { act = is.act; decl = ap (decl_of t.decls) is.map ∙ of.decl } in
    let first =
    next (starts c.args.part (wires_of c.args.wires.now.items) args (λ v. ShowsOwn v p h own × ShowsTable v t m map)) (c.in_ok-wrote.ensures.given p t.decls h j site) (λ ins a. left_of (IsAvailable ins) cells slots a) (λ v f k. k.0) in
    let second = stands_then first (c.in_ok-slot.ensures.stands p t h m is of) (λ ins a. tail_of (IsAvailable ins) wrote args a) (λ v k. k.0) in
    let third =
    next second (c.in_ok-written.ensures.given p t h site)
    (λ ins a.
    let Q = IsAvailable ins in
    let l = left_of Q (slot ∷ args) (wrote ∷ args) a in
    first_of Q slot cells (l 0 slot (omega arith)) (left_of Q cells slots (tail_of Q slot args l)))
    (λ v f k. (k.0.0.0, k.1.1)) in
    stands_as _ (λ v. ShowsPending v p t h j _) third
    (λ ins a.
    let Q = IsAvailable ins in
    let r = right_of Q (slot ∷ args) (wrote ∷ args) (tail_of Q written ((slot ∷ args) ++ wrote ∷ args) a) in
    first_of Q wrote (written ∷ cells) (r 0 wrote (omega arith)) (first_of Q written cells (a 0 written (omega arith)) (left_of Q cells slots (tail_of Q wrote args r))))
    (λ v k. record { site = k.0.0.0.0; writes = k.0.0.1; written = k.1 })
