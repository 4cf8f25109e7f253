use Rattle.std.proofs.Common.{◌≡◌, drop, map, string_bytes}
use Rattle.net_core.specs.Ports.{port_list, port_names}
use Rattle.verilog_read.specs.Designs.{other_port}
use Rattle.verilog_read.proofs.ports.other_port.Given as goal

abbrev pub invariant-loop-k : goal.invariant-loop-k
invariant-loop-k l = other_port 0 (map string_bytes l.names) l.ports port_names port_list ≡ other_port l.k (drop l.k (map string_bytes l.names)) (drop l.k l.ports) (drop l.k port_names) (drop l.k port_list)
