use Rattle.maps_text.proofs.Faults.{gives_fault, bad-outcome}
use Rattle.maps_text.proofs.Texts.{gives_found, gives_along, text-outcome}
use Rattle.maps_text.proofs.read.read_maps_text.Goals as goal

pub returns-clause-found : goal.returns-clause-found
returns-clause-found c = gives_found c.args.decls.now c.args.text.now c.read_lines.result c.read_lines.ensures

pub returns-clause-only : goal.returns-clause-only
returns-clause-only c = λ s is.
    gives_along c.args.decls.now c.args.text.now c.read_lines.result _ _ (text-outcome c.args.decls.now c.args.text.now s c.same_by_lookups.ensures is) c.read_lines.ensures

pub returns-clause-fault : goal.returns-clause-fault
returns-clause-fault c = gives_fault c.args.decls.now c.args.text.now c.read_lines.result c.read_lines.ensures

pub returns-clause-only_fault : goal.returns-clause-only_fault
returns-clause-only_fault c = λ e is.
    gives_along c.args.decls.now c.args.text.now c.read_lines.result _ _ (bad-outcome c.args.decls.now c.args.text.now e is) c.read_lines.ensures
