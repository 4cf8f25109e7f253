use Rattle.std.proofs.Common.{◌≡◌, ◌<◌, ◌∙◌, ℕ, get_or, true, sym, subst, length, arith}
use Rattle.std.proofs.lemmas.List.{length-map}
use Rattle.net_core.specs.declared.tree.Net.{Net}
use Rattle.net_core.specs.Nets.{AssignTree, StatementTree, Netlist}
use Rattle.net_core.specs.View.{netlist_of, wire_of}
use Rattle.design_rules.specs.FormedSyntax.{trees_pass}
use Rattle.design_rules.specs.FormedScope.{sorts, reads_known}
use Rattle.net_optimize.proofs.reading.reads_what_is_there.Goals as goal

pub returns : goal.returns
returns c h =
    let d : Netlist = netlist_of c.args.design.now in
    let count : c.len.result ≡ length c.args.design.now.wires.items = omega arith in
    let all : c.len.result ≡ length d.wires = count ∙ sym (length-map c.args.design.now.wires.items wire_of) in
    record {
      wires = c.wires_known.ensures c.if-not-wires_known.false;
      assigns = subst (λ n. (i : ℕ) (a : AssignTree) → i < length d.assigns → a ≡ get_or d.assigns i a → reads_known (sorts d n) a.value ≡ true) all (c.assigns_known.ensures c.if-not-assigns_known.false);
      always = subst (λ n. (i : ℕ) (a : StatementTree Net) → i < length d.always → a ≡ get_or d.always i a → trees_pass (reads_known (sorts d n)) a ≡ true) all (c.always_known.ensures h);
    }
