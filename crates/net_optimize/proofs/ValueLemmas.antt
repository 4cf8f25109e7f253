-- Values of operators.
use Rattle.std.specs.Prelude.{◌≡◌}
use Rattle.std.specs.Int.Bits.{or_zero_r}
use Rattle.std.proofs.Common.{refl}
use Rattle.net_core.specs.declared.tree.Word.{Word}
use Rattle.net_core.specs.declared.tree.Op.TheVariants.{Or}
use Rattle.net_core.specs.Value.{apply}

pub or_nothing : (a b : Word) → b.value ≡ 0 → a ≡ apply Or a b
or_nothing a b h = rw (h, or_zero_r a.value) refl
