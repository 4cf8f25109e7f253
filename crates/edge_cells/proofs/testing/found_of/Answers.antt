use Rattle.std.proofs.Common.{arith}
use Rattle.edge_cells.proofs.Pointed.{pointed_length, pointer_inside, found_is}
use Rattle.edge_cells.proofs.testing.found_of.Goals as goal

pub bounds-pointers-p : goal.bounds-pointers-p
bounds-pointers-p c = omega (arith, pointer_inside _ _ _ _ _ c.in-Maybe.is c.requires, pointed_length c.args.pointers.now)

pub bounds-pointers-p-in-Maybe : goal.bounds-pointers-p-in-Maybe
bounds-pointers-p-in-Maybe c = omega (arith, pointer_inside _ _ _ _ _ c.in-Maybe.is c.requires, pointed_length c.args.pointers.now)

pub returns-in-Maybe : goal.returns-in-Maybe
returns-in-Maybe c = found_is _ _ _ _ _ _ c.in-Maybe.is (omega (arith, pointer_inside _ _ _ _ _ c.in-Maybe.is c.requires, pointed_length c.args.pointers.now))
