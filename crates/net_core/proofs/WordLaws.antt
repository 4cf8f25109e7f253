-- Words of equal width and value, and those of one bit.
use Rattle.std.specs.Prelude.{◌≡◌, ℕ, ◌<◌, Bool, true, false}
use Rattle.std.proofs.Common.{arith, inl, inr}
use Rattle.std.proofs.lemmas.Bool.{cases_lt}
use Rattle.net_core.specs.declared.tree.Word.{Word}
use Rattle.net_core.specs.Value.{word, bit}

pub word_same : (w x a b : ℕ) → w ≡ x → a ≡ b → word w a ≡ word x b
word_same w x a b p q = cc

-- a word of one bit whose value is 0 or 1
pub flag_small : (w : Word) → w.width ≡ 1 → w.value < 2 → (b : Bool) × (w ≡ bit b)
flag_small w one small = elim (cases_lt w.value 1) [
  | inl below ↦ (false, word_same w.width 1 w.value 0 one (omega arith))
  | inr above ↦ (true, word_same w.width 1 w.value 1 one (omega arith))
]
