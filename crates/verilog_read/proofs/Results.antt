-- From what a reading gives to what a result promises.
use Rattle.std.proofs.Common.{◌≡◌, subst, Result}
use Rattle.verilog_expression.specs.declared.error.PhraseError.{PhraseError}
use Rattle.verilog_expression.specs.Reads.{Reading}
use Rattle.verilog_expression.specs.View.{Gives}

pub gives_along : {X Y : Type 0} (view : X → Y) (r : Result X PhraseError) (reading whole : Reading Y) → Gives view r reading → reading ≡ whole → Gives view r whole
gives_along {Y = Y} view r reading whole g e = subst (λ (k : Reading Y). Gives view r k) e g
