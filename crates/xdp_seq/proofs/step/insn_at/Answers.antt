use Rattle.std.proofs.Common.{◌∙◌, sym, arith, None}
use Rattle.xdp_seq.specs.Units.{insns_of}
use Rattle.xdp_seq.proofs.Laid.{unit_of, legal_found}
use Rattle.xdp_seq.proofs.step.insn_at.Goals as goal

pub returns-in-Some-clause-found : goal.returns-in-Some-clause-found
returns-in-Some-clause-found c =
    c.as_ref.ensures.value ∙ c.in-Some.ensures.lookup.3.1 None ∙ sym (unit_of c.args.units.now c.args.place c.requires)

pub returns-in-Some-clause-legal : goal.returns-in-Some-clause-legal
returns-in-Some-clause-legal c =
    legal_found (insns_of c.args.units.now) c.args.place c.as_ref.result c.requires.legal
    (c.as_ref.ensures.value ∙ c.in-Some.ensures.lookup.3.1 None ∙ sym (unit_of c.args.units.now c.args.place c.requires))

pub returns-in-None-clause-found : goal.returns-in-None-clause-found
returns-in-None-clause-found c = c.in-None.ensures.lookup.4 (omega arith) None ∙ sym (unit_of c.args.units.now c.args.place c.requires)
