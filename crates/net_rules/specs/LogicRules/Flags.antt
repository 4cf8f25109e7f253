-- Single bits.
use Rattle.std.specs.Prelude.{◌≡◌, Bool}
use Rattle.net_core.specs.declared.tree.Word.{Word}
use Rattle.net_core.specs.Value.{bit}

-- a word of one bit, 0 or 1
abbrev pub IsFlag : Word → Type 0
IsFlag w = (b : Bool) × (w ≡ bit b)
