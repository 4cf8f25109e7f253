-- Which of two values is taken.
use Rattle.std.specs.Prelude.{◌==◌, if◌then◌else◌}
use Rattle.std.proofs.Common.{◌≡◌, sym}
use Rattle.std.proofs.lemmas.Bool.{cond-true, cond-false, eq-eqb, ne_eqb}
use Rattle.net_core.specs.declared.tree.Word.{Word}
use Rattle.net_core.specs.Value.{conditional}
use Rattle.net_core.specs.Clock.{Stored}

pub second_is : (c a b : Word) → c.value ≡ 0 → b ≡ conditional c a b
second_is c a b e = sym (cond-true (c.value == 0) b a (eq-eqb c.value 0 e))

pub first_is : (c a b : Word) → (c.value ≡ 0 → ⊥) → a ≡ conditional c a b
first_is c a b ne = sym (cond-false (c.value == 0) b a (ne_eqb c.value 0 ne))

-- a statement that is done, or another, or none
pub done_second : (c : Word) (a b : Stored) → c.value ≡ 0 → b ≡ (if c.value == 0 then b else a)
done_second c a b e = sym (cond-true (c.value == 0) b a (eq-eqb c.value 0 e))

pub done_first : (c : Word) (a b : Stored) → (c.value ≡ 0 → ⊥) → a ≡ (if c.value == 0 then b else a)
done_first c a b ne = sym (cond-false (c.value == 0) b a (ne_eqb c.value 0 ne))
