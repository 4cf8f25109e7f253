-- Tests that hold together.
use Rattle.std.specs.Prelude.{◌≡◌, Bool, true, ◌&&◌}
use Rattle.std.proofs.Common.{ap, sym, ◌∙◌}

pub all_three : {a b c x y z : Bool} → a ≡ x → b ≡ y → c ≡ z → (a && (b && c)) ≡ (x && (y && z))
all_three {a} {b} {c} {x} {y} {z} p q r = ap (λ t. t && (b && c)) p ∙ ap (λ t. x && (t && c)) q ∙ ap (λ t. x && (y && t)) r

-- after a test that passes
pub behind_test : {a x whole : Bool} → a ≡ true → (a && x) ≡ whole → x ≡ whole
behind_test {a} {x} p h = sym (ap (λ t. t && x) p) ∙ h
