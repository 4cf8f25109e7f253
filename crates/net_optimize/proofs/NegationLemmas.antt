-- What is turned.
use Rattle.std.specs.Prelude.{◌≡◌, ℕ, ◌==◌, nat_lt, nat_le, if◌then◌else◌, Bool, true, false}
use Rattle.std.proofs.Common.{refl, sym, ap, ◌∙◌, subst}
use Rattle.std.proofs.lemmas.Bool.{le-leb, lt-leb, ltb-true, ltb-false}
use Rattle.net_core.specs.declared.tree.Word.{Word}
use Rattle.net_core.specs.declared.tree.Op.TheVariants.{Equal, NotEqual, Less, LessEqual, Greater, GreaterEqual}
use Rattle.net_core.specs.declared.tree.UnaryOp.TheVariants.{Not, ReduceOr}
use Rattle.net_core.specs.Value.{bit, apply, apply_unary}
use Rattle.net_optimize.specs.Flags.{IsFlag}

turned_bit : (t : Bool) → bit (if t then false else true) ≡ apply_unary Not (bit t)
turned_bit true = refl
turned_bit false = refl

bit_turned : (t : Bool) → bit t ≡ apply_unary Not (bit (if t then false else true))
bit_turned true = refl
bit_turned false = refl

not_less : (t : Bool) (a b : ℕ) → nat_lt a b ≡ t → nat_le b a ≡ (if t then false else true)
not_less true a b h = lt-leb b a (ltb-true a b h)
not_less false a b h = le-leb b a (ltb-false a b h)

pub not_equal : (a b : Word) → apply NotEqual a b ≡ apply_unary Not (apply Equal a b)
not_equal a b = turned_bit (a.value == b.value)

pub equal : (a b : Word) → apply Equal a b ≡ apply_unary Not (apply NotEqual a b)
equal a b = bit_turned (a.value == b.value)

at_least : (a b : ℕ) → bit (nat_le b a) ≡ apply_unary Not (bit (nat_lt a b))
at_least a b = ap bit (not_less (nat_lt a b) a b refl) ∙ turned_bit (nat_lt a b)

above : (a b : ℕ) → bit (nat_lt a b) ≡ apply_unary Not (bit (nat_le b a))
above a b = bit_turned (nat_lt a b) ∙ ap (λ t. apply_unary Not (bit t)) (sym (not_less (nat_lt a b) a b refl))

pub greater_equal : (a b : Word) → apply GreaterEqual a b ≡ apply_unary Not (apply Less a b)
greater_equal a b = at_least a.value b.value

pub less_equal : (a b : Word) → apply LessEqual a b ≡ apply_unary Not (apply Greater a b)
less_equal a b = at_least b.value a.value

pub less : (a b : Word) → apply Less a b ≡ apply_unary Not (apply GreaterEqual a b)
less a b = above a.value b.value

pub greater : (a b : Word) → apply Greater a b ≡ apply_unary Not (apply LessEqual a b)
greater a b = above b.value a.value

twice : (t : Bool) → bit t ≡ apply_unary Not (apply_unary Not (bit t))
twice true = refl
twice false = refl

-- a single bit that is turned twice
pub flag_twice : (a : Word) → IsFlag a → a ≡ apply_unary Not (apply_unary Not a)
flag_twice a h = subst (λ w. w ≡ apply_unary Not (apply_unary Not w)) (sym h.1) (twice h.0)

bit_reduced : (t : Bool) → bit t ≡ apply_unary ReduceOr (bit t)
bit_reduced true = refl
bit_reduced false = refl

-- a single bit that is reduced
pub flag_reduced : (a : Word) → IsFlag a → a ≡ apply_unary ReduceOr a
flag_reduced a h = subst (λ w. w ≡ apply_unary ReduceOr w) (sym h.1) (bit_reduced h.0)
