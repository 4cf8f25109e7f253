use Rattle.std.proofs.Common.{◌∙◌, [], ◌∷◌, arith}
use Rattle.overlay_net.specs.cell_nets.Operands.{IsAvailable}
use Rattle.overlay_net.specs.cell_nets.Wires.{wires_of}
use Rattle.read_net.specs.Sites.{sites_of}
use Rattle.read_net.proofs.StandLemmas.{one_of}
use Rattle.read_net.proofs.ReadLemmas.{own_of, reads_found}
use Rattle.read_net.proofs.lookups.lookup.Goals as goal

pub returns-clause-reads : goal.returns-clause-reads
returns-clause-reads g c = λ p t h row r packet cell is.
    let site = c.args.site.now in
    let ss = c.args.earlier.now in
    let map = c.args.map.now in
    let own = c.in_ok-own.own in
    reads_found c.args.part (wires_of c.args.wires.now.items) (wires_of c.find.new.wires.items) map site ss p t h row r packet cell is c.args.slot own c.in_ok-own.ensures.operands
    (c.in_ok-own.ensures.stands p t h is.act (own_of p t row r map site ss is) is.map) _ _ (own.key ∷ []) _ c.args.from c.args.width c.in_ok-there.there c.in_ok-answer.answer c.in_ok-there.ensures
    (c.in_ok-answer.ensures.given p t h (sites_of ss) site.site (is.act ∙ c.requires.act)) (λ ins a. one_of (IsAvailable ins) own.key (a 0 own.key (omega arith))) (λ v k. k.key)
