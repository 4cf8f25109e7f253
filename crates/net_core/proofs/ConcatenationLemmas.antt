-- Widths of concatenations, part by part.
use Rattle.std.specs.Prelude.{◌≡◌, ℕ}
use Rattle.std.proofs.Common.{ap, ◌∙◌, arith}
use Rattle.std.proofs.lemmas.Bool.Decides.{nat_tests}
use Rattle.net_core.specs.Width.{concatenation_width}

pub concatenation_width_assoc : (a b c : ℕ) → concatenation_width (concatenation_width a b) c ≡ concatenation_width a (concatenation_width b c)
concatenation_width_assoc a b c = grind (arith, nat_tests)

-- one part more in front
pub one_further : (a b b' c sum whole : ℕ) → sum ≡ concatenation_width a b' → b' ≡ b → concatenation_width a (concatenation_width b c) ≡ whole → concatenation_width sum c ≡ whole
one_further a b b' c sum whole s e h = ap (λ (n : ℕ). concatenation_width n c) (s ∙ ap (λ (n : ℕ). concatenation_width a n) e) ∙ concatenation_width_assoc a b c ∙ h
