-- Operands that are there.
use Rattle.std.specs.Prelude.{Contains}
use Rattle.std.proofs.Common.{suc, All, List, ◌∷◌, ◌++◌, get_or, inr, arith}
use Rattle.std.proofs.lemmas.List.Elements.{Contains-get_or, Contains-append_left, Contains-append_right}
use Rattle.overlay_net.specs.cell_nets.declared.operand.Operand.{Operand}
use Rattle.overlay_net.specs.cell_nets.declared.operand.Operand.TheVariants.{Known, Net, Part as Bits}
use Rattle.overlay_net.specs.cell_nets.Operands.{IsAvailable}
use Rattle.overlay_net.proofs.cell_nets_laws.AvailableLaws.{available}

-- ---- one list holds another
abbrev pub IsIn : {N : Type 0} → List (Operand N) → List (Operand N) → Type 0
IsIn xs ys = (a : Operand _) → Contains xs a → Contains ys a

pub all_available : {N : Type 0} (xs ys : List (Operand N)) → IsIn xs ys → All (IsAvailable ys) xs
all_available xs ys more i d lt = available ys (get_or xs i d) (more (get_or xs i d) (Contains-get_or xs i d lt))

pub in_left : {N : Type 0} (xs ys : List (Operand N)) → IsIn xs (xs ++ ys)
in_left xs ys a c = Contains-append_left xs ys a c

pub in_right : {N : Type 0} (xs ys : List (Operand N)) → IsIn ys (xs ++ ys)
in_right xs ys a c = Contains-append_right xs ys a c

pub in_rest : {N : Type 0} (x : Operand N) (xs : List (Operand N)) → IsIn xs (x ∷ xs)
in_rest x xs a c = (suc c.0, omega (arith, c.1), c.2)
