-- Values of words after zeros, and of expressions that begin with zeros.
use Rattle.std.specs.Prelude.{◌≡◌, ℕ, ◌+◌, ◌*◌, ◌^◌}
use Rattle.std.proofs.Common.{ap, ◌∙◌, arith, zero-add}
use Rattle.net_core.specs.declared.tree.Word.{Word}
use Rattle.net_core.specs.Value.{word, concatenated}
use Rattle.register_rules.specs.NarrowRegisters.Narrow.{widened}

pub widened_by_none : (w : Word) → widened 0 w ≡ w
widened_by_none w = ap (λ (n : ℕ). word n w.value) (zero-add w.width)

pub widened_twice : (a b c : ℕ) (w : Word) → a + b ≡ c → widened a (widened b w) ≡ widened c w
widened_twice a b c w h = let e : a + (b + w.width) ≡ c + w.width = omega arith in ap (λ (n : ℕ). word n w.value) e

-- zeros in front
pub zeros_before : (a x w : Word) → a.value ≡ 0 → x ≡ w → concatenated a x ≡ widened a.width w
zeros_before a x w z h =
    let e : a.value * 2 ^ x.width + x.value ≡ x.value = rw z (omega arith) in
    ap (λ (n : ℕ). word (a.width + x.width) n) e ∙ ap (widened a.width) h

-- a first part that begins with zeros
pub widened_before : (z : ℕ) (a b x y : Word) → a ≡ widened z b → x ≡ y → concatenated a x ≡ widened z (concatenated b y)
widened_before z a b x y p q =
    let e : (z + b.width) + y.width ≡ z + (b.width + y.width) = omega arith in
    ap (λ (u : Word). concatenated u x) p ∙ ap (concatenated (widened z b)) q ∙ ap (λ (n : ℕ). word n (b.value * 2 ^ y.width + y.value)) e
