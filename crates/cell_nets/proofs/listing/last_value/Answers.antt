use Rattle.cell_nets.proofs.ListLemmas.{last_chosen, none_chosen}
use Rattle.cell_nets.proofs.listing.last_value.Goals as goal

pub returns-then-args-at : goal.returns-then-args-at
returns-then-args-at g c = last_chosen c.args.args.now c.args.width c.args.at c.index-args-at.result _ c.requires.last c.if-args-at.true c.index-args-at.is c.in_ok-value.ensures

pub returns : goal.returns
returns g c = none_chosen c.args.args.now c.args.width c.args.at _ c.requires.last c.if-args-at.false c.requires.width.most c.constant.ensures
