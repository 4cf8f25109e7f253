-- Too few names are not those of the ports.
use Rattle.std.proofs.Common.{◌∙◌, ap, arith, sym, take, map, string_bytes}
use Rattle.std.proofs.lemmas.List.{length-map, length-take, take-map}
use Rattle.std.specs.Cmp.Lexicographic.{pointwise}
use Rattle.std.specs.Str.{bytes_eq}
use Rattle.net_core.specs.declared.ports.TheConstants.{PORT_COUNT}
use Rattle.net_core.specs.Ports.{port_names}
use Rattle.design_rules.proofs.FormedPorts.{pointwise_length}
use Rattle.design_rules.proofs.formed.ports.port_names_match.Goals as goal

pub returns-then-names-lt-PORT_COUNT : goal.returns-then-names-lt-PORT_COUNT
returns-then-names-lt-PORT_COUNT c = sym (pointwise_length bytes_eq (take PORT_COUNT (map string_bytes c.args.design.now.names.items)) port_names
    (λ e. omega (arith, e, length-take PORT_COUNT (map string_bytes c.args.design.now.names.items), length-map c.args.design.now.names.items string_bytes, c.as_slice-names.ensures.len, c.if-names-lt-PORT_COUNT.true)))

pub returns : goal.returns
returns c =
    let names = c.args.design.now.names.items in
    c.names_match.ensures
    ∙ ap (λ all. pointwise bytes_eq (map string_bytes (take PORT_COUNT all)) port_names) c.as_slice-names.ensures.value
    ∙ ap (λ first. pointwise bytes_eq first port_names) (sym (take-map string_bytes PORT_COUNT names))
