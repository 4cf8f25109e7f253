-- Trees that can be spelled.
use Rattle.std.specs.Prelude.{◌≡◌, true}
use Rattle.net_core.specs.Nets.{Tree}
use Rattle.block_core.specs.design_rules.FormedSyntax.{tree_spelled}
use Rattle.block_core.proofs.list_laws_laws.BoolLaws.{and_is}

-- ---- spelled

abbrev pub IsSpelled : {N : Type 0} → Tree N → Type 0
IsSpelled t = tree_spelled t ≡ true
