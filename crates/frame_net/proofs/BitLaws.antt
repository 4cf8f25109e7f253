-- Conditions of one bit, and positions that move on.
use Rattle.std.specs.Prelude.{◌≡◌, ℕ, suc, ◌+◌, ◌%◌, ◌^◌, ◌<◌, ◌==◌, if◌then◌else◌, Bool, true, false}
use Rattle.std.proofs.Common.{refl, ap, arith}
use Rattle.beat_core.specs.declared.frame.TheConstants.{BEAT_LIMIT}
use Rattle.net_core.specs.declared.tree.Op.TheVariants.{Add}
use Rattle.net_core.specs.declared.tree.Word.{Word}
use Rattle.net_core.specs.Value.{word, bit, apply, conditional}
use Rattle.net_core.specs.Clock.{Stored}

-- a condition that is 1, or 0
pub on : (w : Word) (s t : Stored) → w ≡ bit true → (if w.value == 0 then s else t) ≡ t
on w s t e = ap (λ (x : Word). if x.value == 0 then s else t) e

pub off : (w : Word) (s t : Stored) → w ≡ bit false → (if w.value == 0 then s else t) ≡ s
off w s t e = ap (λ (x : Word). if x.value == 0 then s else t) e

pub next_is : (last : Bool) (q : ℕ) → q < BEAT_LIMIT → conditional (bit last) (word 11 0) (apply Add (word 11 q) (word 11 1)) ≡ word 11 (if last then 0 else suc q)
next_is true q h = refl
next_is false q h = let e : (q + 1) % 2 ^ 11 ≡ suc q = omega arith in ap (word 11) e
