use Rattle.std.proofs.Common.{refl}
use Rattle.design_rules.proofs.FormedPorts.{now_at}
use Rattle.design_rules.proofs.formed.ports.text_at.Goals as goal

pub returns : goal.returns
returns c = now_at c.args.texts.now c.args.k _ refl
