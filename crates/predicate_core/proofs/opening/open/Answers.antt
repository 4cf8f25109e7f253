use Rattle.std.proofs.Common.{refl}
use Rattle.std.specs.Prelude.{replicate}
use Rattle.predicate_core.proofs.Opened.{opened}
use Rattle.predicate_core.proofs.opening.open.Goals as goal

pub returns : goal.returns
returns c = opened _ _ _ _ _ _ _ (record { registers = replicate 11 0; slots = replicate 64 0; window = c.in_ok-window.window; target = c.in_ok-target.target }) c.start.ensures c.in_ok-bit.ensures.makes c.in_ok-bit.ensures.rises c.in_ok-window.ensures c.in_ok-target.ensures.makes c.in_ok-target.ensures.rises refl
