-- Numbers above one another.
use Rattle.std.proofs.Common.{◌≡◌, ℕ, zero, suc, ◌+◌, ◌-◌, ◌*◌, ◌/◌, ◌%◌, ◌^◌, ◌<◌, ◌≤◌, All, List, [], ◌∷◌, ◌++◌, length, drop, take, get_or, map, fold, refl, sym, ◌∙◌, ap, subst, arith}
use Rattle.std.proofs.lemmas.Nat.{mod_below, pow_pos, pow-add, mod-pow-add, div-mul-add, shl-shr}
use Rattle.std.proofs.lemmas.List.{take_all, take_more, map-append}
use Rattle.std.proofs.lemmas.List.Elements.{All-get_or}
use Rattle.std.proofs.Math.Nat.{mod-eq_of_lt, mul-mod_left, div-div-eq-div-mul}
use Rattle.std.proofs.Math.Pow.{pow_mono}
use Rattle.block_core.proofs.list_laws_laws.NumberLaws.{add-mod}
use Rattle.net_core.proofs.LowBitsLaws.{low_low, concatenated_small}
use Rattle.cell_core.specs.xdp_machine.Arithmetic.{low}
use Rattle.cell_core.specs.Cells.{bits_from, joined}
use Rattle.net_core.specs.Nets.{Tree, TConcatenation, TMore, TLast}
use Rattle.net_core.specs.Value.{Env}
use Rattle.cell_nets.specs.declared.operand.Operand.{Operand}
use Rattle.cell_nets.specs.declared.operand.Operand.TheVariants.{Known, Net, Part}
use Rattle.cell_nets.specs.Operands.{number_in, IsAvailable, IsNarrow, IsFit, AreFit}
use Rattle.cell_nets.specs.Parts.{IsPart, IsSlice}
use Rattle.cell_nets.proofs.ExpressionPartLaws.{part_same, part_of, beside_slice}
use Rattle.cell_nets.proofs.ChoiceLaws.{fit_of}
use Rattle.cell_nets.proofs.ListLemmas.{available_at}
use Rattle.cell_nets.proofs.NarrowLaws.{from_zero, bits_small}
use Rattle.cell_nets.proofs.ShiftLaws.{all_out, low_less}

-- one more number below others
pub joined_more : (bits : ℕ) (xs : List ℕ) (x : ℕ) → joined bits (xs ++ x ∷ []) ≡ low 64 (low 64 (joined bits xs * 2 ^ bits) + x)
joined_more bits xs x = from 0 xs
  where
    from : (a : ℕ) (xs : List ℕ) → fold (λ higher y. low 64 (low 64 (higher * 2 ^ bits) + y)) a (xs ++ x ∷ []) ≡ low 64 (low 64 (fold (λ higher y. low 64 (low 64 (higher * 2 ^ bits) + y)) a xs * 2 ^ bits) + x)
    from a [] = refl
    from a (y ∷ ys) = from (low 64 (low 64 (a * 2 ^ bits) + y)) ys

-- its low bits are those of the lowest
pub lowest_is : (h x bits m : ℕ) → m ≤ bits → bits ≤ 63 → (h * 2 ^ bits % 2 ^ 64 + x) % 2 ^ 64 % 2 ^ m ≡ x % 2 ^ m
lowest_is h x bits m le most =
    let none : h * 2 ^ bits % 2 ^ 64 % 2 ^ m ≡ 0 = low_low (h * 2 ^ bits) m (omega arith) ∙ all_out h bits m le in
    low_low _ m (omega arith) ∙ add-mod (h * 2 ^ bits % 2 ^ 64) x (2 ^ m) ∙ ap (λ k. (k + x % 2 ^ m) % 2 ^ m) none ∙ ap (λ k. k % 2 ^ m) (omega arith) ∙ again
  where
    again : x % 2 ^ m % 2 ^ m ≡ x % 2 ^ m
    again = mod-eq_of_lt {n = x % 2 ^ m} {m = 2 ^ m} (mod_below x (2 ^ m) (pow_pos m))

-- what is above the lowest, which has no more bits than it is given
pub above_is : (h x bits m : ℕ) → x < 2 ^ bits → bits ≤ 63 → bits + m ≤ 64 → (h * 2 ^ bits % 2 ^ 64 + x) % 2 ^ 64 / 2 ^ bits % 2 ^ m ≡ h % 2 ^ m
above_is h x bits m small most within =
    let k = 64 - bits in
    let e : k + bits ≡ 64 = omega arith in
    let p : h * 2 ^ bits % 2 ^ 64 ≡ h % 2 ^ k * 2 ^ bits = ap (λ n. h * 2 ^ bits % 2 ^ n) (sym e) ∙ mod-pow-add (h * 2 ^ bits) k bits ∙ ap (λ n. n % 2 ^ k * 2 ^ bits + h * 2 ^ bits % 2 ^ bits) (shl-shr h bits) ∙ ap (λ n. h % 2 ^ k * 2 ^ bits + n) (mul-mod_left h (2 ^ bits)) ∙ omega arith in
    let below : h % 2 ^ k * 2 ^ bits + x < 2 ^ 64 = let P : ℕ → Type 0 = λ n. h % 2 ^ k * 2 ^ bits + x < 2 ^ n in subst P e (concatenated_small (h % 2 ^ k) x k bits (mod_below h (2 ^ k) (pow_pos k)) small) in
    ap (λ n. (n + x) % 2 ^ 64 / 2 ^ bits % 2 ^ m) p ∙ ap (λ n. n / 2 ^ bits % 2 ^ m) (mod-eq_of_lt {n = h % 2 ^ k * 2 ^ bits + x} {m = 2 ^ 64} below)
    ∙ ap (λ n. n % 2 ^ m) (div-mul-add (h % 2 ^ k) (2 ^ bits) x small) ∙ low_less h k m (omega arith)

within_is : (a b m : ℕ) → a % 2 ^ (m + b) / 2 ^ b ≡ a / 2 ^ b % 2 ^ m
within_is a b m = ap (λ n. n / 2 ^ b) (mod-pow-add a m b) ∙ div-mul-add (a / 2 ^ b % 2 ^ m) (2 ^ b) (a % 2 ^ b) (mod_below a (2 ^ b) (pow_pos b))

-- bits further up, of numbers that agree so far
further_up : (j k d b m : ℕ) → j / 2 ^ d % 2 ^ (m + b) ≡ k % 2 ^ (m + b) → j / 2 ^ (d + b) % 2 ^ m ≡ k / 2 ^ b % 2 ^ m
further_up j k d b m e =
    ap (λ n. n % 2 ^ m) (ap (λ n. j / n) (pow-add 2 d b) ∙ sym (div-div-eq-div-mul j (2 ^ d) (2 ^ b))) ∙ sym (within_is (j / 2 ^ d) b m) ∙ ap (λ n. n / 2 ^ b) e ∙ within_is k b m

-- ---- of operands
pub joined_at :
    {N : Type 0} (v : Env N) (args : List (Operand N)) (bits at : ℕ) (x : Operand N) → at < length args → x ≡ get_or args at x
    → joined bits (map (number_in v) (take (at + 1) args)) ≡ low 64 (low 64 (joined bits (map (number_in v) (take at args)) * 2 ^ bits) + number_in v x)
joined_at v args bits at x inside is =
    ap (λ l. joined bits (map (number_in v) l)) (take_more args at x inside ∙ ap (λ a. take at args ++ a ∷ []) (sym is)) ∙ ap (joined bits) (map-append (number_in v) (take at args) (x ∷ [])) ∙ joined_more bits (map (number_in v) (take at args)) (number_in v x)

-- the low bits of the operands so far are those of the last
piece_is :
    {N : Type 0} (v : Env N) (args : List (Operand N)) (bits at m : ℕ) (x : Operand N) → at < length args → x ≡ get_or args at x → bits ≤ 63 → m ≤ 64 → (0 < at → m ≤ bits)
    → joined bits (map (number_in v) (take (at + 1) args)) % 2 ^ m ≡ number_in v x % 2 ^ m
piece_is v args bits zero m x inside is most wide few = ap (λ n. n % 2 ^ m) (joined_at v args bits zero x inside is) ∙ ap (λ n. n % 2 ^ 64 % 2 ^ m) (omega arith) ∙ low_low (number_in v x) m wide
piece_is v args bits (suc k) m x inside is most wide few = ap (λ n. n % 2 ^ m) (joined_at v args bits (suc k) x inside is) ∙ lowest_is (joined bits (map (number_in v) (take (suc k) args))) (number_in v x) bits m (few (omega arith)) most

narrow_at : {N : Type 0} (args : List (Operand N)) (bits at : ℕ) (x : Operand N) → All (IsNarrow bits) (drop 1 args) → 0 < at → at < length args → x ≡ get_or args at x → IsNarrow bits x
narrow_at [] bits at x h some inside is = absurd (omega arith)
narrow_at (a ∷ args) bits zero x h some inside is = absurd (omega arith)
narrow_at (a ∷ args) bits (suc k) x h some inside is = subst (IsNarrow bits) (sym is) (All-get_or (IsNarrow bits) args k x (omega arith) h)

narrow_fit : {N : Type 0} (v : Env N) (bits : ℕ) (x : Operand N) → IsNarrow bits x → IsFit v x → number_in v x < 2 ^ bits
narrow_fit v bits (Known n) h f = h
narrow_fit v bits (Net n w) h f = omega (arith, pow_mono {i = w} {j = bits} h, f.small)
narrow_fit v bits (Part n of from w) h f = omega (arith, pow_mono {i = w} {j = bits} h, bits_small (v.net n).value from w)

-- what is above the last of the operands so far
rest_is :
    {N : Type 0} (v : Env N) (args : List (Operand N)) (bits at m : ℕ) (x : Operand N) → All (IsNarrow bits) (drop 1 args) → 0 < at → at < length args → x ≡ get_or args at x → bits ≤ 63 → bits + m ≤ 64 → IsFit v x
    → joined bits (map (number_in v) (take (at + 1) args)) / 2 ^ bits % 2 ^ m ≡ joined bits (map (number_in v) (take at args)) % 2 ^ m
rest_is v args bits at m x narrow some inside is most within fit =
    ap (λ n. n / 2 ^ bits % 2 ^ m) (joined_at v args bits at x inside is) ∙ above_is (joined bits (map (number_in v) (take at args))) (number_in v x) bits m (narrow_fit v bits x (narrow_at args bits at x narrow some inside is) fit) most within

-- the low bits of the operands from a place on, and what stays of those before it
pub record IsJoined {N : Type 0} (args : List (Operand N)) (bits width at done : ℕ) (t : Tree N) : Type 0 where
  pub within : at < length args
  pub some : 0 < done
  pub most : done ≤ width
  pub left : done < width → 0 < at
  pub part : (ins : List (Operand N)) → All (IsAvailable ins) args → IsPart ins (2 + (length args - 1 - at)) done (λ v. bits_from (joined bits (map (number_in v) args)) 0 done) t
  pub rest : (ins : List (Operand N)) (v : Env N) → All (IsAvailable ins) args → AreFit v ins → done < width → (m : ℕ) → done + m ≤ 64 → joined bits (map (number_in v) args) / 2 ^ done % 2 ^ m ≡ joined bits (map (number_in v) (take at args)) % 2 ^ m

pub joined_first :
    {N : Type 0} (args : List (Operand N)) (bits width at done : ℕ) (x : Operand N) (t : Tree N) → at + 1 ≡ length args → x ≡ get_or args at x → bits ≤ 63 → width ≤ 64 → All (IsNarrow bits) (drop 1 args)
    → 0 < done → done ≤ width → (0 < at → done ≤ bits) → (done < width → (0 < at) × (done ≡ bits))
    → ((ins : List (Operand N)) → IsAvailable ins x → IsSlice ins 2 done (λ v. bits_from (number_in v x) 0 done) t) → IsJoined args bits width at done t
joined_first args bits width at done x t last is high most narrow some less few full p = record {
  within = omega arith;
  some = some;
  most = less;
  left = λ h. (full h).0;
  part = λ ins h.
      part_of ins 2 (2 + (length args - 1 - at)) done _ _ t (omega arith) refl
      (part_same ins 2 done _ _ _ (λ v f. from_zero _ done ∙ sym (from_zero _ done ∙ ap (λ l. joined bits (map (number_in v) l) % 2 ^ done) all ∙ piece_is v args bits at done x (omega arith) is high (omega arith) few))
      (p ins (available_at ins args at x (omega arith) is h)).part);
  rest = λ ins v h f under m fits.
      let b : done ≡ bits = (full under).1 in
      ap (λ n. joined bits (map (number_in v) args) / 2 ^ n % 2 ^ m) b ∙ ap (λ l. joined bits (map (number_in v) l) / 2 ^ bits % 2 ^ m) all
      ∙ rest_is v args bits at m x narrow (full under).0 (omega arith) is high (omega arith) (fit_of ins v x (available_at ins args at x (omega arith) is h) f);
}
  where
    all : args ≡ take (at + 1) args
    all = sym (take_all (at + 1) args (omega arith))

pub joined_next :
    {N : Type 0} (args : List (Operand N)) (bits width at done more : ℕ) (x : Operand N) (t piece whole : Tree N) → IsJoined args bits width at done t → done < width → x ≡ get_or args (at - 1) x → bits ≤ 63 → width ≤ 64
    → All (IsNarrow bits) (drop 1 args) → 0 < more → more ≤ width - done → (0 < at - 1 → more ≤ bits) → (more < width - done → (0 < at - 1) × (more ≡ bits))
    → ((ins : List (Operand N)) → IsAvailable ins x → IsSlice ins 2 more (λ v. bits_from (number_in v x) 0 more) piece) → whole ≡ TConcatenation (TMore piece (TLast t)) → IsJoined args bits width (at - 1) (done + more) whole
joined_next args bits width at done more x t piece whole j under is high most narrow some less few full p e = record {
  within = omega (arith, j.within);
  some = omega arith;
  most = omega arith;
  left = λ h. (full (omega arith)).0;
  part = λ ins h.
      let positive : 0 < at = j.left under in
      let inside : at - 1 < length args = omega (arith, j.within) in
      let back : at - 1 + 1 ≡ at = omega arith in
      let a = available_at ins args (at - 1) x inside is h in
      let b = beside_slice ins 2 (2 + (length args - 1 - at)) more done _ _ piece t some j.some (omega arith) (p ins a).part (j.part ins h) in
      let sum : more + done ≡ done + more = omega arith in
      let P : ℕ → Type 0 = λ n. IsPart ins (2 + (length args - 1 - (at - 1))) n (λ v. bits_from (joined bits (map (number_in v) args)) 0 n) whole in
      subst P sum
      (part_of ins _ (2 + (length args - 1 - (at - 1))) (more + done) _ _ whole (omega (arith, j.within)) e
      (part_same ins _ (more + done) _ _ _ (λ v f.
      let J = joined bits (map (number_in v) args) in
      let mine : J / 2 ^ done % 2 ^ more ≡ number_in v x % 2 ^ more = j.rest ins v h f under more (omega arith) ∙ ap (λ n. joined bits (map (number_in v) (take n args)) % 2 ^ more) (sym back) ∙ piece_is v args bits (at - 1) more x inside is high (omega arith) few in
      ap (λ n. n * 2 ^ done + bits_from J 0 done) (from_zero (number_in v x) more ∙ sym mine) ∙ ap (λ n. J / 2 ^ done % 2 ^ more * 2 ^ done + n) (from_zero J done) ∙ sym (from_zero J (more + done) ∙ mod-pow-add J more done)) b.part));
  rest = λ ins v h f lower m fits.
      let positive : 0 < at = j.left under in
      let inside : at - 1 < length args = omega (arith, j.within) in
      let back : at - 1 + 1 ≡ at = omega arith in
      let b : more ≡ bits = (full (omega arith)).1 in
      let J = joined bits (map (number_in v) args) in
      ap (λ n. J / 2 ^ (done + n) % 2 ^ m) b ∙ further_up J (joined bits (map (number_in v) (take at args))) done bits m (j.rest ins v h f under (m + bits) (omega arith))
      ∙ ap (λ n. joined bits (map (number_in v) (take n args)) / 2 ^ bits % 2 ^ m) (sym back)
      ∙ rest_is v args bits (at - 1) m x narrow (full (omega arith)).0 inside is high (omega arith) (fit_of ins v x (available_at ins args (at - 1) x inside is h) f);
}
