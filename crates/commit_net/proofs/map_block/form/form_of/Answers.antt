use Rattle.commit_net.proofs.MapBlock.FormLemmas.{form_fits}
use Rattle.commit_net.proofs.map_block.form.form_of.Goals as goal

pub returns-clause-form_fits : goal.returns-clause-form_fits
returns-clause-form_fits c =
    let bits = c.slot_bits.ensures in
    form_fits c.args.number c.slot_bits.result c.args.decl.now c.copied.result c.copied.ensures c.requires.number c.requires.limits bits.some bits.most bits.room bits.least
