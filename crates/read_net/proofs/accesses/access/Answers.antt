use Rattle.std.proofs.Common.{◌/◌, ◌∷◌, ◌++◌, All, sym, ap, subst, arith}
use Rattle.overlay_net.specs.cell_core.Cells.{bits_from}
use Rattle.overlay_net.specs.cell_core.Sites.{site_at}
use Rattle.pipe_core.specs.hazard_core.StageValues.{access_pointer}
use Rattle.pipe_core.specs.hazard_core.Overlay.{answer_over}
use Rattle.overlay_net.specs.cell_nets.Operands.{IsAvailable}
use Rattle.overlay_net.specs.cell_nets.Wires.{wires_of}
use Rattle.overlay_net.specs.Seen.{all_read}
use Rattle.overlay_net.specs.ValueNet.Pendings.{all_taken, IsFitting as FitsValue, AreOf, ShowPendings}
use Rattle.overlay_net.specs.ValueNet.Words.{access_start}
use Rattle.overlay_net.proofs.cell_nets_laws.StepNets.ChainLaws.{starts, last}
use Rattle.read_net.specs.Accesses.{ShowsWord}
use Rattle.read_net.specs.Reads.{taken, Shows}
use Rattle.read_net.specs.Sites.{cells_of, all_cells, slot_cells, sites_of}
use Rattle.read_net.proofs.StandLemmas.{left_of, right_of, first_of, tail_of, stands_then}
use Rattle.read_net.proofs.ReadLemmas.{own_of}
use Rattle.read_net.proofs.AccessLemmas.{taken_all, all_fit, values_of, shown_pendings}
use Rattle.read_net.proofs.accesses.access.Goals as goal

pub access_answer-requires-clause-fitting : goal.access_answer-requires-clause-fitting
access_answer-requires-clause-fitting g c =
    let x = c.in_ok-pending.ensures in
    subst (All (FitsValue c.args.map.now.decl.now)) (sym c.deref.ensures.value) (all_fit c.args.map.now c.args.earlier.now c.in_ok-pending.pending.items x.of c.requires.fitting x.seen)

pub access_answer-requires-clause-few : goal.access_answer-requires-clause-few
access_answer-requires-clause-few g c = c.requires.map.limits.value_short

pub access_answer-requires-clause-under : goal.access_answer-requires-clause-under
access_answer-requires-clause-under g c = c.requires.operands 3 c.args.word (omega arith)

pub returns : goal.returns
returns g c = λ p t h row r packet cell is counts valued.
    let site = c.args.site.now in
    let ss = c.args.earlier.now in
    let map = c.args.map.now in
    let word = c.args.word in
    let j = site.site in
    let s = site_at p.sites j in
    let ds = c.in_ok-pending.pending.items in
    let cells = cells_of site in
    let others = all_cells ss ++ slot_cells map in
    let args = cells ++ others in
    let before = sites_of ss in
    let e = c.deref.ensures.value in
    let own = own_of p t row r map site ss is in
    let x = c.in_ok-pending.ensures in
    let first =
    stands_then (starts c.args.part (wires_of c.args.wires.now.items) (word ∷ taken map site ss) (λ v. Shows v p t h map site ss × ShowsWord v t s.map (access_start site.act / 8) (access_pointer h s) word)) (x.stands p t h s.map own is.map)
    (λ ins a. right_of (IsAvailable ins) cells others (tail_of (IsAvailable ins) word args a)) (λ v k. (k.0.earlier, k.0.table)) in
    last first (c.in_ok-out.ensures p t h before j is.act (subst (AreOf p s.map before) (sym e) (values_of map ss ds x.of p s.map own counts)) is.map.decl valued)
    (λ ins a.
    let Q = IsAvailable ins in
    let rest = right_of Q (all_read ds ++ others) (word ∷ args) a in
    first_of Q site.nets.now.pointer (word ∷ all_taken c.deref.result.now) (rest 4 word (omega arith))
    (first_of Q word (all_taken c.deref.result.now) (rest 0 word (omega arith)) (subst (λ l. All Q (all_taken l)) (sym e) (taken_all Q ds (left_of Q (all_read ds) others (left_of Q (all_read ds ++ others) (word ∷ args) a))))))
    (λ v f k. (record { pointer = k.0.0.asked.pointer; first = k.0.1 }, subst (λ l. ShowPendings v p t h before l) (sym e) (shown_pendings v p t h before ds k.1.1)))
    (λ v. bits_from (answer_over p t h _ j) c.args.from c.args.width) (λ v f k. ap (λ l. bits_from (answer_over p t h l j) c.args.from c.args.width) is.sites)
