-- One step of the comparison of the ports' names.
use Rattle.std.proofs.Common.{arith, ◌∙◌, sym, [], map, string_bytes}
use Rattle.std.proofs.lemmas.List.{length-map}
use Rattle.std.specs.Str.{bytes_eq}
use Rattle.net_core.specs.Ports.{port_names}
use Rattle.design_rules.proofs.FormedPorts.{pointwise_here, pointwise_more}
use Rattle.design_rules.proofs.formed.ports.names_match.Goals as goal

pub returns-then-not-name_matches : goal.returns-then-not-name_matches
returns-then-not-name_matches c =
    sym (sym c.loop-k.invariant.1
    ∙ pointwise_here bytes_eq (map string_bytes c.args.names.now) port_names c.loop-k.k [] [] (omega (arith, length-map c.args.names.now string_bytes)) (omega arith) (sym c.name_matches.ensures ∙ c.if-not-name_matches.true))

pub loop-k-preserved : goal.loop-k-preserved
loop-k-preserved c = (
  c.loop-k.invariant.0,
  pointwise_more bytes_eq (map string_bytes c.args.names.now) port_names c.loop-k.k [] [] (omega (arith, length-map c.args.names.now string_bytes)) (omega arith) (sym c.name_matches.ensures ∙ c.if-not-name_matches.false)
      ∙ c.loop-k.invariant.1,
)
