-- What holds where a reading gives nothing.
use Rattle.std.proofs.Common.{Option, Some, None, IfNone}

pub if_none : {T P : Type 0} (o : Option T) → P → IfNone o P
if_none None p = p
if_none (Some x) p = tt
