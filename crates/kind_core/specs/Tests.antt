-- Tests: what is found, or why the program is refused.
use Rattle.std.specs.Prelude.{ℕ, ℤ, pos, negsuc, ◌+◌, ◌%◌, ◌==◌, nat_le, Bool, true, false, if◌then◌else◌, Result, Ok, Err, List, [], ◌∷◌}
use Rattle.kind_core.specs.declared.number.Number.{Number}
use Rattle.kind_core.specs.declared.kind.Kind.{Kind}
use Rattle.kind_core.specs.declared.kind.Kind.TheVariants.{Unset, Num, Stale, Mixed}
use Rattle.xdp_state.specs.declared.refusal.Why.{Why}
use Rattle.xdp_state.specs.declared.refusal.Why.TheVariants as why

-- what follows a test that passes: the first that fails is the answer
infixl 10 ◌>>=◌
abbrev pub ◌>>=◌ : {A B : Type 0} → Result A Why → (A → Result B Why) → Result B Why
(Ok x) >>= f = f x
(Err e) >>= f = Err e

-- a test with no answer of its own
abbrev pub Test : Type 0
Test = Result (Unit {0}) Why

abbrev pub passed : Test
passed = Ok tt

-- A kind may be read where there is something to read, the same on each edge, and still usable.
abbrev pub readable : Kind → Test
readable Unset = Err why.Unset
readable Mixed = Err why.Mixed
readable Stale = Err why.Stale
readable k = passed

-- the test of what is read
abbrev pub read_if : Bool → Kind → Test
read_if true k = readable k
read_if false k = passed

-- the number that a kind is
abbrev pub number_in : Kind → Result Number Why
number_in (Num n) = Ok n
number_in k = Err why.Use

-- kinds that are read as numbers, one after the other
abbrev pub one_number : Kind → Result Number Why
one_number k = readable k >>= λ _. number_in k

abbrev pub all_numbers : List Kind → Test
all_numbers [] = passed
all_numbers (k ∷ ks) = one_number k >>= λ _. all_numbers ks

-- where an access of n bytes begins, in so many
abbrev pub within : ℤ → ℕ → ℕ → Result ℕ Why
within (pos a) n len = if nat_le (a + n) len then Ok a else Err why.Offset
within (negsuc a) n len = Err why.Offset

-- the same at a multiple of n
abbrev pub aligned : ℤ → ℕ → ℕ → Result ℕ Why
aligned z n len = within z n len >>= λ a. if a % n == 0 then Ok a else Err why.Misaligned
