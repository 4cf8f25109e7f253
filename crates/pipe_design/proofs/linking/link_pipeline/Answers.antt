use Rattle.std.proofs.Common.{ap, ◌∙◌, map}
use Rattle.block_core.specs.View.{output_of}
use Rattle.pipe_design.proofs.Naming.{linked_design, linked_apart, linked_well, past_range}
use Rattle.pipe_design.proofs.linking.link_pipeline.Goals as goal

pub returns-clause-netlist : goal.returns-clause-netlist
returns-clause-netlist c =
    linked_design c.link.result c.args.sizes.now c.args.words c.args.parts.now _ _ _ c.in_ok-names.ensures c.in_ok-ports.ensures (ap (map output_of) c.deref.ensures.value ∙ c.in_ok-outputs.ensures) c.link.ensures.linked

pub returns-clause-formed : goal.returns-clause-formed
returns-clause-formed c =
    linked_well c.link.result c.args.sizes.now c.args.words c.args.parts.now _ _ _ c.in_ok-names.ensures c.in_ok-ports.ensures (ap (map output_of) c.deref.ensures.value ∙ c.in_ok-outputs.ensures) c.link.ensures.linked
    c.pipelines_are_formed.ensures.formed c.linked_is_well_formed.ensures c.numbers_are_names.ensures c.link.ensures.past

pub returns-clause-apart : goal.returns-clause-apart
returns-clause-apart c =
    linked_apart c.link.result c.args.sizes.now c.args.words c.args.parts.now _ _ _ c.in_ok-names.ensures c.in_ok-ports.ensures (ap (map output_of) c.deref.ensures.value ∙ c.in_ok-outputs.ensures) c.link.ensures.linked
    c.pipelines_are_formed.ensures.apart

pub returns-clause-large : goal.returns-clause-large
returns-clause-large c =
    past_range c.link.result c.args.sizes.now c.args.words c.args.parts.now _ _ _ c.in_ok-names.ensures c.in_ok-ports.ensures (ap (map output_of) c.deref.ensures.value ∙ c.in_ok-outputs.ensures) c.link.ensures.linked c.link.ensures.in_range
