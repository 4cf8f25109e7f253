-- How large values of maps are.
use Rattle.std.proofs.Common.{ℕ, zero, suc, ◌≤◌, List, [], ◌∷◌, arith}
use Rattle.std.specs.Prelude.{All}
use Rattle.std.proofs.lemmas.List.Elements.{All-head, All-tail}
use Rattle.xdp_machine.specs.xdp_maps.declared.decl.MapDecl.{MapDecl}
use Rattle.xdp_machine.specs.Program.{IsDeclaration}
use Rattle.kind_core.specs.Kinds.{value_bytes}

pub small_values : (ds : List MapDecl) → All IsDeclaration ds → (q : ℕ) → value_bytes ds q ≤ 64
small_values [] h q = omega arith
small_values (d ∷ ds) h zero = (All-head IsDeclaration d ds h).limits.value_short
small_values (d ∷ ds) h (suc q) = small_values ds (All-tail IsDeclaration d ds h) q
