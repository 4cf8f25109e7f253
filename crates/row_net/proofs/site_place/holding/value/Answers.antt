use Rattle.row_net.proofs.site_place.holding.value.Goals as goal

pub expression-requires : goal.expression-requires
expression-requires g c = c.requires c.in-Some.a c.in-Some.is
