use Rattle.std.proofs.Common.{refl, inr}
use Rattle.ehdl_top.proofs.CauseLemmas.{put_line}
use Rattle.ehdl_top.proofs.command.say_why.Goals as goal

pub returns-in-Err-clause-why : goal.returns-in-Err-clause-why
returns-in-Err-clause-why g c = inr (record {
  status = refl;
  line = λ told. put_line c.put-put-in-Err.result c.put-put-in-Err.ensures.put c.put-put-in-Err.ensures.kept c.put-put-in-Err.ensures.failed told;
})
