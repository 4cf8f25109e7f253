use Rattle.std.proofs.Common.{◌∙◌, ◌∷◌, ◌++◌, All, length, sym, ap, subst, arith}
use Rattle.std.proofs.lemmas.List.Elements.{All-append}
use Rattle.xdp_maps.proofs.LimitLaws.{cap_few}
use Rattle.overlay_net.specs.cell_core.declared.site.Act.TheVariants as does
use Rattle.overlay_net.specs.cell_core.Sites.{site_at}
use Rattle.pipe_core.specs.hazard_core.Tables.{table_at}
use Rattle.overlay_net.specs.cell_nets.Operands.{IsAvailable}
use Rattle.overlay_net.specs.cell_nets.Wires.{wires_of}
use Rattle.overlay_net.specs.Reading.{IsSite}
use Rattle.overlay_net.specs.Seen.{all_read, HasOperands, AreOf, ShowPending}
use Rattle.read_net.specs.Reads.{taken}
use Rattle.read_net.specs.Sites.{cells_of, all_cells, slot_cells, sites_of}
use Rattle.read_net.proofs.StandLemmas.{left_of, right_of, first_of, tail_of}
use Rattle.read_net.proofs.PendingLemmas.{are_of}
use Rattle.read_net.proofs.ReadLemmas.{own_of, reads_found}
use Rattle.read_net.proofs.UsedLemmas.{index_key_bytes}
use Rattle.read_net.proofs.updates.update.Goals as goal

pub update_answer-requires-clause-pending : goal.update_answer-requires-clause-pending
update_answer-requires-clause-pending g c = subst (All HasOperands) (sym c.deref.ensures.value) (λ k d lt. (c.in_ok-own.ensures.operands.seen k d lt).operands)

pub update_answer-requires-clause-few : goal.update_answer-requires-clause-few
update_answer-requires-clause-few g c = omega (arith, ap length c.deref.ensures.value, c.in_ok-own.ensures.operands.of.count, c.requires.few)

pub update_answer-requires-clause-cap : goal.update_answer-requires-clause-cap
update_answer-requires-clause-cap g c = cap_few c.args.map.now.decl.now c.requires.map.limits

pub update_answer-requires-clause-index : goal.update_answer-requires-clause-index
update_answer-requires-clause-index g c = index_key_bytes c.args.map.now.decl.now c.requires.map.limits

pub returns-clause-reads : goal.returns-clause-reads
returns-clause-reads g c = λ p t h row r packet cell is.
    let site = c.args.site.now in
    let ss = c.args.earlier.now in
    let map = c.args.map.now in
    let own = c.in_ok-own.own in
    let used = c.used_slots-used.result in
    let k = (site_at p.sites site.site).map in
    let ds = own.pending.items in
    let cells = cells_of site in
    let others = all_cells ss ++ slot_cells map in
    let before = sites_of ss in
    let e = c.deref.ensures.value in
    let all = own_of p t row r map site ss is in
    let at : IsSite p t.decls site.site does.Update map.decl.now = record { act = is.act ∙ c.requires.act; decl = is.map.decl } in
    reads_found c.args.part (wires_of c.args.wires.now.items) (wires_of c.find.new.wires.items) map site ss p t h row r packet cell is c.args.slot own c.in_ok-own.ensures.operands (c.in_ok-own.ensures.stands p t h is.act all is.map) _ _
    (own.key ∷ used ∷ cells ++ all_read c.deref.result.now) _ c.args.from c.args.width c.in_ok-there.there c.in_ok-answer.answer c.in_ok-there.ensures
    (c.in_ok-answer.ensures.given p t h before site.site at (subst (AreOf p k before) (sym e) (are_of p k ss ds all c.in_ok-own.ensures.operands.of)))
    (λ ins a.
    let Q = IsAvailable ins in
    let rest = tail_of Q own.found (all_read ds ++ taken map site ss) (tail_of Q own.key (own.found ∷ all_read ds ++ taken map site ss) a) in
    let given = right_of Q (all_read ds) (taken map site ss) rest in
    first_of Q own.key (used ∷ cells ++ all_read c.deref.result.now) (a 0 own.key (omega arith))
    (first_of Q used (cells ++ all_read c.deref.result.now) (c.used_slots-used.ensures.there ins (right_of Q (all_cells ss) (slot_cells map) (right_of Q cells others given)))
    (All-append Q cells (all_read c.deref.result.now) (left_of Q cells others given) (subst (λ l. All Q (all_read l)) (sym e) (left_of Q (all_read ds) (taken map site ss) rest)))))
    (λ v n. (n.shows.asked, subst (λ l. ShowPending v p t h before l) (sym e) n.pending, n.key, c.used_slots-used.ensures.number v (table_at t k) is.map.table (λ hash. (n.shows.table hash).1)))
