-- Bits, choices and tests, as numbers.
use Rattle.std.specs.Prelude.{not, if◌then◌else◌}
use Rattle.std.proofs.Common.{◌≡◌, ◌∙◌, ℕ, zero, suc, ◌+◌, ◌^◌, ◌<◌, ◌≤◌, Bool, true, false, ◌&&◌, All, List, [], ◌∷◌, length, get_or, refl, sym, ap, subst, arith}
use Rattle.std.proofs.Math.Nat.{mod-eq_of_lt}
use Rattle.std.proofs.Math.Pow.{pow_mono}
use Rattle.net_core.specs.Value.{Env}
use Rattle.cell_core.specs.xdp_machine.Arithmetic.{low}
use Rattle.cell_core.specs.xdp_machine.State.{PacketIn}
use Rattle.cell_core.specs.Cells.{bit, on, bits_from}
use Rattle.cell_core.proofs.BitLaws.{bit_bits, small_bits}
use Rattle.cell_nets.specs.declared.operand.Operand.{Operand}
use Rattle.cell_nets.specs.declared.operand.Operand.TheVariants.{Known, Net, Part}
use Rattle.block_core.specs.Blocks.{BlockWireTree}
use Rattle.block_core.specs.declared.name.Name.{Name}
use Rattle.cell_nets.specs.Operands.{number_in, IsAvailable, IsNarrow, IsFit}
use Rattle.cell_nets.specs.Wires.{always, HasBits, Gives}
use Rattle.cell_nets.proofs.StepNets.ChainLaws.{starts, last}
use Rattle.cell_nets.proofs.NarrowLaws.{from_zero, bits_small}
use Rattle.cell_nets.proofs.ShiftLaws.{cut_low}

pub no_packet : PacketIn
no_packet = record { frame = []; ifindex = 0; time = 0 }

-- what is said of each of a few
abbrev pub Each : {X : Type 0} → (X → Type 0) → List X → Type 0
Each Q [] = Unit {0}
Each Q (x ∷ xs) = Q x × Each Q xs

pub all_each : {X : Type 0} (Q : X → Type 0) (xs : List X) → Each Q xs → All Q xs
all_each Q [] h k d lt = absurd (omega arith)
all_each Q (x ∷ xs) h zero d lt = h.0
all_each Q (x ∷ xs) h (suc k) d lt = all_each Q xs h.1 k d (omega arith)

-- ---- single bits
pub on_bit : (b : Bool) → on (bit b) ≡ b
on_bit true = refl
on_bit false = refl

pub and_chosen : (s t : Bool) (x : ℕ) → x ≡ bit t → bits_from (if s then x else 0) 0 1 ≡ bit (s && t)
and_chosen true t x e = ap (λ n. bits_from n 0 1) e ∙ bit_bits t
and_chosen false t x e = refl

pub but_chosen : (s t : Bool) (x : ℕ) → x ≡ bit s → bits_from (if t then 0 else x) 0 1 ≡ bit (s && not t)
but_chosen true true x e = refl
but_chosen false true x e = refl
but_chosen true false x e = ap (λ n. bits_from n 0 1) e
but_chosen false false x e = ap (λ n. bits_from n 0 1) e

pub tested : (f : ℕ → ℕ → Bool) (x y : ℕ) → x < 2 ^ 64 → y < 2 ^ 64 → bits_from (bit (f (low 64 x) (low 64 y))) 0 1 ≡ bit (f x y)
tested f x y h k =
    bit_bits (f (low 64 x) (low 64 y)) ∙ ap (λ n. bit (f n (low 64 y))) (mod-eq_of_lt {n = x} {m = 2 ^ 64} h) ∙ ap (λ n. bit (f x n)) (mod-eq_of_lt {n = y} {m = 2 ^ 64} k)

pub summed : (x y w : ℕ) → x < 2 ^ 64 → y < 2 ^ 64 → w ≤ 64 → bits_from (low 64 (low 64 x + low 64 y)) 0 w ≡ bits_from (x + y) 0 w
summed x y w h k most =
    ap (λ n. bits_from (low 64 (n + low 64 y)) 0 w) (mod-eq_of_lt {n = x} {m = 2 ^ 64} h)
    ∙ ap (λ n. bits_from (low 64 (x + n)) 0 w) (mod-eq_of_lt {n = y} {m = 2 ^ 64} k)
    ∙ ap (λ n. bits_from n 0 w) (sym (from_zero (x + y) 64))
    ∙ cut_low (x + y) 64 w most

-- ---- operands of so many bits
pub narrow_small : {N : Type 0} (v : Env N) (w : ℕ) (a : Operand N) → IsNarrow w a → IsFit v a → number_in v a < 2 ^ w
narrow_small v w (Known n) h f = h
narrow_small v w (Net n u) h f = omega (arith, pow_mono {i = u} {j = w} h, f.small)
narrow_small v w (Part n of from u) h f = omega (arith, pow_mono {i = u} {j = w} h, bits_small (v.net n).value from u)

pub narrow_bits : {N : Type 0} (w : ℕ) (a : Operand N) → HasBits w a → IsNarrow w a
narrow_bits w (Known n) h = h
narrow_bits w (Net n u) h = omega (arith, h)
narrow_bits w (Part n of from u) h = omega (arith, h)

pub one_bit : (n : ℕ) → n < 2 → bits_from n 0 1 ≡ bit (on n)
one_bit zero h = refl
one_bit (suc zero) h = refl
one_bit (suc (suc n)) h = absurd (omega arith)

pub bit_small : (b : Bool) → bit b < 2 ^ 1
bit_small true = omega arith
bit_small false = omega arith

pub choice_small : (b : Bool) (x y n : ℕ) → x < n → y < n → (if b then x else y) < n
choice_small true x y n h k = h
choice_small false x y n h k = k

pub avail_at : {X : Type 0} (Q : X → Type 0) (xs : List X) (k : ℕ) (x : X) → k < length xs → x ≡ get_or xs k x → All Q xs → Q x
avail_at Q xs k x lt is h = subst Q (sym is) (h k x lt)

-- ---- what is given, in other words
pub gives_same : {P : Type 0} (q : P) (old new : List (BlockWireTree (Name P))) (args : List (Operand (Name P))) (needs : Env (Name P) → Type 0) (f g : Env (Name P) → ℕ) (w : ℕ) (out : Operand (Name P)) → Gives q old new args needs f w out → ((v : Env (Name P)) → f v ≡ g v) → Gives q old new args needs g w out
gives_same q old new args needs f g w out x same = last (starts q old args needs) x (λ ins h. h) (λ v f k. k) g (λ v f k. same v)

-- an operand in so many bits, where it has no more
pub cut_given :
    {P : Type 0} (q : P) (old new : List (BlockWireTree (Name P))) (args : List (Operand (Name P))) (needs : Env (Name P) → Type 0) (f : Env (Name P) → ℕ) (w : ℕ) (a out : Operand (Name P)) → Gives q old new (a ∷ []) always (λ v. bits_from (number_in v a) 0 w) w out
    → IsNarrow w a → ((Q : Operand (Name P) → Type 0) → All Q args → Q a) → ((v : Env (Name P)) → needs v → number_in v a ≡ f v) → Gives q old new args needs f w out
cut_given q old new args needs f w a out x narrow pick same =
    last (starts q old args needs) x (λ ins h. all_each (IsAvailable ins) (a ∷ []) (pick (IsAvailable ins) h, tt)) (λ v fit k. tt) f (λ v fit k. small_bits (number_in v a) w (narrow_small v w a narrow (pick (IsFit v) fit)) ∙ same v k)

-- a number as an operand
pub error_small : (n k : ℕ) → n ≡ k → k < 2 ^ 64 → n < 2 ^ 64
error_small n k e h = subst (λ m. m < 2 ^ 64) (sym e) h
