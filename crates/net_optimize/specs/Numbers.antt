-- Operators to which the widths of their operands are nothing.
use Rattle.std.specs.Prelude.{◌≡◌}
use Rattle.net_core.specs.declared.tree.Word.{Word}
use Rattle.net_core.specs.declared.tree.Op.{Op}
use Rattle.net_core.specs.Value.{apply}

-- words of the same numbers give the same
abbrev pub ComparesNumbers : Op → Type 0
ComparesNumbers op = (a b c d : Word) → a.value ≡ c.value → b.value ≡ d.value → apply op a b ≡ apply op c d
