-- A clock that goes, and what it leaves.
use Rattle.std.proofs.Common.{◌≡◌, ℕ, Result, refl, List, Ok, None, ap}
use Rattle.net_core.specs.declared.tree.Word.{Word}
use Rattle.net_core.specs.Nets.{Netlist}
use Rattle.net_core.specs.Clock.{Stored, stopping, after, clock}

pub clock_goes : (d : Netlist) (ins : List Word) (s t : Stored) → stopping d ins s ≡ None → after d ins s ≡ t → clock d ins s ≡ Ok t
clock_goes d ins s t stop is = rw stop (ap Ok is)

same_ok : (o : Result Stored ℕ) (x y : Stored) → o ≡ Ok x → o ≡ Ok y → x ≡ y
same_ok o x y e f = cc

pub clock_leaves : (d : Netlist) (ins : List Word) (s t : Stored) → stopping d ins s ≡ None → clock d ins s ≡ Ok t → t ≡ after d ins s
clock_leaves d ins s t stop is = same_ok (clock d ins s) t (after d ins s) is (clock_goes d ins s (after d ins s) stop refl)
