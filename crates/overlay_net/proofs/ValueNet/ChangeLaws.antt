-- Numbers of atomic changes, as operators make them.
use Rattle.std.specs.Prelude.{◌==◌, if◌then◌else◌, bit_and, bit_or, bit_xor}
use Rattle.std.proofs.Common.{◌≡◌, ◌≢◌, All, List, ℕ, ◌+◌, ◌*◌, ◌/◌, ◌%◌, ◌^◌, ◌<◌, ◌≤◌, Bool, true, false, [], ◌∷◌, refl, sym, ◌∙◌, ap, ap₂, arith}
use Rattle.std.proofs.lemmas.Nat.{and_mod, or_mod, xor_mod, mod_below, pow_pos}
use Rattle.std.proofs.Math.Nat.{mod-eq_of_lt}
use Rattle.std.proofs.Math.Pow.{pow_mono}
use Rattle.block_core.proofs.net_core_laws.LowBitsLaws.{low_low}
use Rattle.hazard_core.specs.bpf_isa.declared.operation.Size.{Size}
use Rattle.hazard_core.specs.bpf_isa.declared.operation.Size.TheVariants.{B, H, W, Dw}
use Rattle.hazard_core.specs.xdp_maps.declared.change.ChangeKind.TheVariants as kind
use Rattle.block_core.specs.net_core.Value.{Env}
use Rattle.block_core.specs.declared.name.Name.{Name}
use Rattle.block_core.specs.Blocks.{BlockWireTree}
use Rattle.block_core.proofs.list_laws_laws.NumberLaws.{add-mod}
use Rattle.byteorder.specs.Endian.{little_bytes}
use Rattle.hazard_core.specs.xdp_maps.Contents.{IsBytes}
use Rattle.hazard_core.specs.xdp_maps.Calls.{part_of, result_as, change_result, change_bytes, patched, with_change, number_at}
use Rattle.hazard_core.specs.xdp_machine.Memory.{bytes_in}
use Rattle.hazard_core.specs.xdp_machine.State.{PacketIn}
use Rattle.hazard_core.specs.cell_core.declared.operator.Operator.TheVariants.{And, Or, Xor, Add, Equal}
use Rattle.hazard_core.specs.cell_core.declared.site.Atomic.{Atomic}
use Rattle.hazard_core.specs.cell_core.declared.site.Act.{Act}
use Rattle.hazard_core.specs.cell_core.declared.site.Act.TheVariants as act
use Rattle.hazard_core.specs.cell_core.Cells.{number, bits_from, bit, on}
use Rattle.hazard_core.specs.cell_core.Sites.{change_of}
use Rattle.hazard_core.specs.Commits.{word_at}
use Rattle.hazard_core.proofs.cell_core_laws.BitLaws.{bit_bits, small_bits}
use Rattle.cell_nets.specs.declared.operand.Operand.{Operand}
use Rattle.cell_nets.specs.Operands.{IsAvailable}
use Rattle.cell_nets.specs.Wires.{Gives, always}
use Rattle.overlay_net.specs.ValueNet.Words.{IsAligned, access_start, access_bytes, change_bits, with_bits}
use Rattle.overlay_net.proofs.ValueNet.Holding.{wide_gives, step_gives}
use Rattle.overlay_net.proofs.ValueNet.ByteLaws.{stored_is, number_is, word_left}
use Rattle.overlay_net.proofs.ValueNet.BitLemmas.{low_bits}

-- ---- an aligned access lies in one word
pub size_one : (size : Size) (at : ℕ) → at % bytes_in size ≡ 0 → at % 8 + bytes_in size ≤ 8
size_one B at e = omega arith
size_one H at e = omega arith
size_one W at e = omega arith
size_one Dw at e = omega arith

pub wide_one : (wide : Bool) (at : ℕ) → at % change_bytes wide ≡ 0 → at % 8 + change_bytes wide ≤ 8
wide_one true at e = omega arith
wide_one false at e = omega arith

pub access_one : (a : Act) → IsAligned a → access_start a % 8 + access_bytes a ≤ 8
access_one (act.Load at size) e = size_one size at e
access_one (act.Store at size) e = size_one size at e
access_one (act.Atomic at a) e = wide_one a.wide at e
access_one act.Lookup e = omega arith
access_one act.Update e = omega arith
access_one act.Delete e = omega arith

-- ---- parts of numbers
part_is : (wide : Bool) (n : ℕ) → part_of wide n ≡ n % 2 ^ change_bits wide
part_is true n = refl
part_is false n = refl

pub change_most : (wide : Bool) → change_bits wide ≤ 64
change_most true = omega arith
change_most false = omega arith

-- a sum of two numbers that are cut to 64 bits, cut to fewer
sum_low : (o s w : ℕ) → w ≤ 64 → (o % 2 ^ 64 + s % 2 ^ 64) % 2 ^ 64 % 2 ^ w ≡ (o + s % 2 ^ w) % 2 ^ w
sum_low o s w most =
    let m = 2 ^ w in
    let some = pow_pos w in
    let small : s % m < m = mod_below s m some in
    low_low (o % 2 ^ 64 + s % 2 ^ 64) w most ∙ add-mod (o % 2 ^ 64) (s % 2 ^ 64) m ∙ ap₂ (λ x y. (x + y) % m) (low_low o w most) (low_low s w most)
    ∙ ap (λ y. (o % m + y) % m) (sym (mod-eq_of_lt small)) ∙ sym (add-mod o (s % m) m)

bitwise_low : (f : ℕ → ℕ → ℕ) → ((a b k : ℕ) → f a b % 2 ^ k ≡ f (a % 2 ^ k) (b % 2 ^ k)) → (o s w : ℕ) → w ≤ 64 → o < 2 ^ w → bits_from (f (o % 2 ^ 64) (s % 2 ^ 64)) 0 w ≡ f o (s % 2 ^ w)
bitwise_low f law o s w most small =
    low_bits (f (o % 2 ^ 64) (s % 2 ^ 64)) w ∙ law (o % 2 ^ 64) (s % 2 ^ 64) w ∙ ap₂ f (low_low o w most ∙ mod-eq_of_lt small) (low_low s w most)

module _ (packet : PacketIn) (a : Atomic) (o s c : ℕ) (small : o < 2 ^ change_bits a.wide) where
  abbrev w : ℕ
  w = change_bits a.wide

  pub add_is : a.kind ≡ kind.Add → bits_from (number packet Add (o ∷ s ∷ [])) 0 w ≡ change_result (change_of a s c) o
  add_is e =
      low_bits (number packet Add (o ∷ s ∷ [])) w ∙ sum_low o s w (change_most a.wide) ∙ sym (part_is a.wide (o + s % 2 ^ w)) ∙ ap (λ y. part_of a.wide (o + y)) (sym (part_is a.wide s))
      ∙ ap (λ k. result_as k a.wide o (part_of a.wide s) (part_of a.wide c)) (sym e)

  pub or_is : a.kind ≡ kind.Or → bits_from (number packet Or (o ∷ s ∷ [])) 0 w ≡ change_result (change_of a s c) o
  or_is e = bitwise_low bit_or or_mod o s w (change_most a.wide) small ∙ ap (bit_or o) (sym (part_is a.wide s)) ∙ ap (λ k. result_as k a.wide o (part_of a.wide s) (part_of a.wide c)) (sym e)

  pub and_is : a.kind ≡ kind.And → bits_from (number packet And (o ∷ s ∷ [])) 0 w ≡ change_result (change_of a s c) o
  and_is e = bitwise_low bit_and and_mod o s w (change_most a.wide) small ∙ ap (bit_and o) (sym (part_is a.wide s)) ∙ ap (λ k. result_as k a.wide o (part_of a.wide s) (part_of a.wide c)) (sym e)

  pub xor_is : a.kind ≡ kind.Xor → bits_from (number packet Xor (o ∷ s ∷ [])) 0 w ≡ change_result (change_of a s c) o
  xor_is e = bitwise_low bit_xor xor_mod o s w (change_most a.wide) small ∙ ap (bit_xor o) (sym (part_is a.wide s)) ∙ ap (λ k. result_as k a.wide o (part_of a.wide s) (part_of a.wide c)) (sym e)

  pub source_is : a.kind ≡ kind.Xchg → bits_from s 0 w ≡ change_result (change_of a s c) o
  source_is e = low_bits s w ∙ sym (part_is a.wide s) ∙ ap (λ k. result_as k a.wide o (part_of a.wide s) (part_of a.wide c)) (sym e)

  pub exchange_is : a.kind ≡ kind.Cmpxchg → (if o == c % 2 ^ w then s % 2 ^ w else o) ≡ change_result (change_of a s c) o
  exchange_is e =
      ap₂ (λ x y. if o == x then y else o) (sym (part_is a.wide c)) (sym (part_is a.wide s)) ∙ ap (λ k. result_as k a.wide o (part_of a.wide s) (part_of a.wide c)) (sym e)

-- ---- a choice by a bit
pub chosen : (b : Bool) (x y w : ℕ) → bits_from (if on (bit b) then x else y) 0 w ≡ (if b then bits_from x 0 w else bits_from y 0 w)
chosen true x y w = refl
chosen false x y w = refl

pub equal_is : (packet : PacketIn) (x y : ℕ) → x < 2 ^ 64 → y < 2 ^ 64 → bits_from (number packet Equal (x ∷ y ∷ [])) 0 1 ≡ bit (x == y)
equal_is packet x y h l = ap₂ (λ m n. bits_from (bit (m == n)) 0 1) (mod-eq_of_lt h) (mod-eq_of_lt l) ∙ bit_bits (x == y)

-- the source where what is compared is there
pub exchanged_is :
    (packet : PacketIn) (w o s c e q r : ℕ) → w ≤ 64 → o < 2 ^ w → e ≡ bits_from c 0 w → q ≡ bits_from (number packet Equal (o ∷ e ∷ [])) 0 1 → r ≡ bits_from (if on q then s else o) 0 w
    → r ≡ (if o == c % 2 ^ w then s % 2 ^ w else o)
exchanged_is packet w o s c e q r most small ee eq er =
    let expected : e ≡ c % 2 ^ w = ee ∙ low_bits c w in
    let some = pow_pos w in
    let below : c % 2 ^ w < 2 ^ w = mod_below c (2 ^ w) some in
    let mono = pow_mono {i = w} {j = 64} most in
    let same : q ≡ bit (o == c % 2 ^ w) = eq ∙ ap (λ k. bits_from (number packet Equal (o ∷ k ∷ [])) 0 1) expected ∙ equal_is packet o (c % 2 ^ w) (omega arith) (omega arith) in
    er ∙ ap (λ k. bits_from (if on k then s else o) 0 w) same ∙ chosen (o == c % 2 ^ w) s o w ∙ ap₂ (λ x y. if o == c % 2 ^ w then x else y) (low_bits s w) (small_bits o w small)

-- ---- one of several operators
pub arm_gives :
    {P : Type 0} (p : P) (old new : List (BlockWireTree (Name P))) (args bs : List (Operand (Name P))) (needs : Env (Name P) → Type 0) (f g : Env (Name P) → ℕ) (w u : ℕ) (r : Operand (Name P)) → w ≡ u → Gives p old new bs always (λ v. bits_from (f v) 0 w) w r
    → ((ins : List (Operand (Name P))) → All (IsAvailable ins) args → All (IsAvailable ins) bs) → ((v : Env (Name P)) → needs v → bits_from (f v) 0 u ≡ g v) → Gives p old new args needs g u r
arm_gives p old new args bs needs f g w u r e x sub same =
    wide_gives p old new args needs g w u r e (step_gives p old new args bs needs always (λ v. bits_from (f v) 0 w) g w r x sub (λ v fit n. (tt, ap (λ k. bits_from (f v) 0 k) e ∙ same v n)))

-- a word of a value with a number changed
pub changed_is :
    (n : ℕ) (value : List ℕ) (a : Atomic) (at w s c from width o q r out : ℕ) → IsBytes n value → at + change_bytes a.wide ≤ n → at % 8 + change_bytes a.wide ≤ 8 → at / 8 ≡ w → from ≡ 8 * (at % 8) → width ≡ 8 * change_bytes a.wide → o ≡ word_at value w
    → q ≡ bits_from o from width → r ≡ change_result (change_of a s c) q → out ≡ with_bits o from width r → out ≡ word_at (with_change (change_of a s c) at value) w
changed_is n value a at w s c from width o q r out b inside one same ef ew eo eq er e =
    let is : r ≡ change_result (change_of a s c) (number_at a.wide at value) = er ∙ ap (change_result (change_of a s c)) (eq ∙ number_is n value at (change_bytes a.wide) from width w o b one same ef ew eo) in
    e ∙ stored_is n value at (change_bytes a.wide) r w from width o b inside one same ef ew eo ∙ ap (λ k. word_at (patched value at (little_bytes (change_bytes a.wide) k)) w) is

pub unchanged_is :
    (n : ℕ) (value : List ℕ) (a : Atomic) (at w s c : ℕ) → IsBytes n value → at + change_bytes a.wide ≤ n → at % 8 + change_bytes a.wide ≤ 8 → at / 8 ≢ w → word_at (with_change (change_of a s c) at value) w ≡ word_at value w
unchanged_is n value a at w s c b inside one other = word_left n value at (change_bytes a.wide) (change_result (change_of a s c) (number_at a.wide at value)) w b inside one other
