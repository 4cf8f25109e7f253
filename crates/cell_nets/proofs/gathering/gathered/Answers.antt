use Rattle.std.proofs.Common.{false, [], ◌∷◌, ◌++◌, ◌∙◌, ap}
use Rattle.net_core.specs.View.{tree_of}
use Rattle.cell_core.specs.declared.operator.Operator.TheVariants.{Any}
use Rattle.cell_nets.specs.Parts.{worth}
use Rattle.cell_nets.specs.Wires.{wires_of}
use Rattle.cell_nets.proofs.GatherLemmas.{gathered_same, gathered_one, gathered_as, any_of, any_small, no_packet}
use Rattle.cell_nets.proofs.gathering.gathered.Goals as goal

pub returns-then-len-lt-MOST_OPERANDS-clause-gathered : goal.returns-then-len-lt-MOST_OPERANDS-clause-gathered
returns-then-len-lt-MOST_OPERANDS-clause-gathered g c = gathered_same c.args.part _ c.args.args.items c.requires.operands

pub returns-clause-gathered : goal.returns-clause-gathered
returns-clause-gathered g c =
    let args = c.args.args.items in
    let found = c.in_ok-found.found in
    let x = c.in_ok-found.ensures.gives false args (worth no_packet Any args 1) (any_small no_packet args 1) (λ ins h. any_of c.deref.result.now args 1 (tree_of c.in_ok-bit.bit) c.deref.ensures.value c.in_ok-bit.ensures ins no_packet h) in
    gathered_as c.args.part (wires_of c.args.wires.now.items) (wires_of c.add_wire.new.wires.items) args (found ∷ []) c.push.new.self.items (c.in_ok-push.ensures.items ∙ ap (λ l. l ++ found ∷ []) c.new-one.ensures.items)
    (gathered_one c.args.part (wires_of c.args.wires.now.items) (wires_of c.add_wire.new.wires.items) args no_packet found x)
