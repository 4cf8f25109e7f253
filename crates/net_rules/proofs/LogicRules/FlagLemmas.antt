-- Single bits: operators on two of these, case by case.
use Rattle.std.specs.Prelude.{◌≡◌, ℕ, ◌==◌, nat_eq, if◌then◌else◌, Bool, true, false}
use Rattle.std.proofs.Common.{refl, sym, ap, ◌∙◌, arith, subst}
use Rattle.std.proofs.lemmas.Bool.{eqb-true}
use Rattle.net_core.specs.declared.tree.Word.{Word}
use Rattle.net_core.specs.declared.tree.Op.TheVariants.{And, Or, Equal, NotEqual}
use Rattle.net_core.specs.declared.tree.UnaryOp.TheVariants.{Not}
use Rattle.net_core.specs.Value.{bit, apply, apply_unary, conditional}
use Rattle.net_core.proofs.WordLaws.{flag_small}
use Rattle.net_rules.specs.NetSizes.Fitting.{Fits}
use Rattle.net_rules.specs.LogicRules.Flags.{IsFlag}

flag_of_one : (w : Word) → Fits 1 w → IsFlag w
flag_of_one w h = let p = h (omega arith) in flag_small w p.0 p.1

pub flag_fits : (n : ℕ) (w : Word) → nat_eq n 1 ≡ true → Fits n w → IsFlag w
flag_fits n w e h = flag_of_one w (subst (λ k. Fits k w) (eqb-true n 1 e) h)

one : (P : Word → Type 0) → ((s : Bool) → P (bit s)) → (a : Word) → IsFlag a → P a
one P h a f = subst P (sym f.1) (h f.0)

two : (P : Word → Word → Type 0) → ((s t : Bool) → P (bit s) (bit t)) → (a b : Word) → IsFlag a → IsFlag b → P a b
two P h a b f g = one (λ x. P x b) (λ s. one (P (bit s)) (h s) b g) a f

clear_bits : (s t : Bool) → conditional (bit s) (bit false) (bit t) ≡ apply And (bit t) (apply_unary Not (bit s))
clear_bits true true = refl
clear_bits true false = refl
clear_bits false true = refl
clear_bits false false = refl

pub where_clear : (c a : Word) → IsFlag c → IsFlag a → conditional c (bit false) a ≡ apply And a (apply_unary Not c)
where_clear = two (λ c a. conditional c (bit false) a ≡ apply And a (apply_unary Not c)) clear_bits

set_bits : (s t : Bool) → conditional (bit s) (bit t) (bit true) ≡ apply Or (bit t) (apply_unary Not (bit s))
set_bits true true = refl
set_bits true false = refl
set_bits false true = refl
set_bits false false = refl

pub where_set : (c a : Word) → IsFlag c → IsFlag a → conditional c a (bit true) ≡ apply Or a (apply_unary Not c)
where_set = two (λ c a. conditional c a (bit true) ≡ apply Or a (apply_unary Not c)) set_bits

set_bits_before : (s t : Bool) → conditional (bit s) (bit t) (bit true) ≡ apply Or (apply_unary Not (bit s)) (bit t)
set_bits_before true true = refl
set_bits_before true false = refl
set_bits_before false true = refl
set_bits_before false false = refl

pub where_set_before : (c a : Word) → IsFlag c → IsFlag a → conditional c a (bit true) ≡ apply Or (apply_unary Not c) a
where_set_before = two (λ c a. conditional c a (bit true) ≡ apply Or (apply_unary Not c) a) set_bits_before

-- ---- choices
itself_bits : (s : Bool) → bit s ≡ conditional (bit s) (bit true) (bit false)
itself_bits true = refl
itself_bits false = refl

pub itself : (c : Word) → IsFlag c → c ≡ conditional c (bit true) (bit false)
itself = one (λ c. c ≡ conditional c (bit true) (bit false)) itself_bits

opposite_bits : (s : Bool) → apply_unary Not (bit s) ≡ conditional (bit s) (bit false) (bit true)
opposite_bits true = refl
opposite_bits false = refl

pub opposite : (c : Word) → IsFlag c → apply_unary Not c ≡ conditional c (bit false) (bit true)
opposite = one (λ c. apply_unary Not c ≡ conditional c (bit false) (bit true)) opposite_bits

either_bits : (s t : Bool) → apply Or (bit s) (bit t) ≡ conditional (bit s) (bit true) (bit t)
either_bits true true = refl
either_bits true false = refl
either_bits false true = refl
either_bits false false = refl

pub either : (c b : Word) → IsFlag c → IsFlag b → apply Or c b ≡ conditional c (bit true) b
either = two (λ c b. apply Or c b ≡ conditional c (bit true) b) either_bits

both_bits : (s t : Bool) → apply And (bit s) (bit t) ≡ conditional (bit s) (bit t) (bit false)
both_bits true true = refl
both_bits true false = refl
both_bits false true = refl
both_bits false false = refl

pub both : (c a : Word) → IsFlag c → IsFlag a → apply And c a ≡ conditional c a (bit false)
both = two (λ c a. apply And c a ≡ conditional c a (bit false)) both_bits

swapped_bits : (x y : Word) (s : Bool) → conditional (bit s) y x ≡ conditional (apply_unary Not (bit s)) x y
swapped_bits x y true = refl
swapped_bits x y false = refl

pub swapped : (x y d : Word) → IsFlag d → conditional d y x ≡ conditional (apply_unary Not d) x y
swapped x y = one (λ d. conditional d y x ≡ conditional (apply_unary Not d) x y) (swapped_bits x y)

-- ---- comparisons of a bit with 0 or 1
equal_one_bits : (s : Bool) → bit s ≡ bit ((bit s).value == 1)
equal_one_bits true = refl
equal_one_bits false = refl

equal_zero_bits : (s : Bool) → apply_unary Not (bit s) ≡ bit ((bit s).value == 0)
equal_zero_bits true = refl
equal_zero_bits false = refl

differs_zero_bits : (s : Bool) → bit s ≡ bit (if (bit s).value == 0 then false else true)
differs_zero_bits true = refl
differs_zero_bits false = refl

differs_one_bits : (s : Bool) → apply_unary Not (bit s) ≡ bit (if (bit s).value == 1 then false else true)
differs_one_bits true = refl
differs_one_bits false = refl

pub equal_one : (a w : Word) → IsFlag a → w.value ≡ 1 → a ≡ apply Equal a w
equal_one a w f e = one (λ a. a ≡ bit (a.value == 1)) equal_one_bits a f ∙ ap (λ n. bit (a.value == n)) (sym e)

pub equal_zero : (a w : Word) → IsFlag a → w.value ≡ 0 → apply_unary Not a ≡ apply Equal a w
equal_zero a w f e = one (λ a. apply_unary Not a ≡ bit (a.value == 0)) equal_zero_bits a f ∙ ap (λ n. bit (a.value == n)) (sym e)

pub differs_zero : (a w : Word) → IsFlag a → w.value ≡ 0 → a ≡ apply NotEqual a w
differs_zero a w f e = one (λ a. a ≡ bit (if a.value == 0 then false else true)) differs_zero_bits a f ∙ ap (λ n. bit (if a.value == n then false else true)) (sym e)

pub differs_one : (a w : Word) → IsFlag a → w.value ≡ 1 → apply_unary Not a ≡ apply NotEqual a w
differs_one a w f e = one (λ a. apply_unary Not a ≡ bit (if a.value == 1 then false else true)) differs_one_bits a f ∙ ap (λ n. bit (if a.value == n then false else true)) (sym e)

-- a condition where it is known itself
itself_set : (s : Bool) (b : Word) → conditional (bit s) (bit true) b ≡ conditional (bit s) (bit s) b
itself_set true b = refl
itself_set false b = refl

pub itself_where_set : (c : Word) → IsFlag c → (b : Word) → conditional c (bit true) b ≡ conditional c c b
itself_where_set c f b = one (λ c. conditional c (bit true) b ≡ conditional c c b) (λ s. itself_set s b) c f

itself_clear : (s : Bool) (a : Word) → conditional (bit s) a (bit false) ≡ conditional (bit s) a (bit s)
itself_clear true a = refl
itself_clear false a = refl

pub itself_where_clear : (c : Word) → IsFlag c → (a : Word) → conditional c a (bit false) ≡ conditional c a c
itself_where_clear c f a = one (λ c. conditional c a (bit false) ≡ conditional c a c) (λ s. itself_clear s a) c f
