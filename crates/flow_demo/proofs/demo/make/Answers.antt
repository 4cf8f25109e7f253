use Rattle.std.proofs.Common.{◌∙◌, length, ap, arith}
use Rattle.pcap_core.specs.Reading.{content_of}
use Rattle.flow_demo.proofs.Reading.{demo_content-read}
use Rattle.flow_demo.proofs.Sizes.{length-demo_capture}
use Rattle.flow_demo.proofs.demo.make.Goals as goal

pub returns-clause-packets : goal.returns-clause-packets
returns-clause-packets c = ap content_of c.in_ok-capture.ensures ∙ demo_content-read c.args.seed c.args.packets (omega arith)

pub returns-clause-size : goal.returns-clause-size
returns-clause-size c = omega (arith, ap length c.in_ok-capture.ensures, length-demo_capture c.args.seed c.args.packets)
