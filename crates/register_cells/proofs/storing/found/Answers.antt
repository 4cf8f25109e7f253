use Rattle.std.proofs.Common.{sym, ap}
use Rattle.operator_cells.specs.HeldCells.RegisterCells.{PointerView}
use Rattle.register_cells.proofs.Stored.{pointed_there, pointed_at}
use Rattle.register_cells.proofs.storing.found.Goals as goal

pub bounds-pointers-p : goal.bounds-pointers-p
bounds-pointers-p c = pointed_there c.args.pointers.now c.args.p c.requires

pub bounds-pointers-p-2 : goal.bounds-pointers-p-2
bounds-pointers-p-2 c = pointed_there c.args.pointers.now c.args.p c.requires

pub returns : goal.returns
returns c = sym (ap (λ (x : PointerView). x.found) (pointed_at c.args.pointers.now c.args.p c.index-pointers-p.result (pointed_there c.args.pointers.now c.args.p c.requires)))
