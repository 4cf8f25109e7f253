-- Words of a frame, as eight bytes above one another.
use Rattle.std.specs.Prelude.{◌≡◌, ℕ, suc, ◌+◌, ◌-◌, ◌*◌, ◌/◌, ◌%◌, ◌^◌, ◌<◌, ◌≤◌, All, List}
use Rattle.std.proofs.Common.{sym, ap, ◌∙◌, subst, arith, inl, inr, ◌⊎◌}
use Rattle.std.proofs.lemmas.Bool.{cases_lt}
use Rattle.std.proofs.lemmas.Nat.{mod_below, pow_pos, pow-add, div-mul-add}
use Rattle.std.proofs.lemmas.List.Elements.{All-contains}
use Rattle.std.proofs.Math.Nat.{mul_assoc, div-one, mod-eq_of_lt, mul-add-div_right, mul-add-mod_self_right}
use Rattle.block_core.proofs.list_laws_laws.BoolLaws.{and_is}
use Rattle.net_core.specs.declared.tree.Word.{Word}
use Rattle.net_core.specs.Nets.{Tree, Trees, TLast, TMore}
use Rattle.net_core.specs.Value.{Env, value, concatenated_parts}
use Rattle.net_core.specs.Width.{parts_width, concatenation_width}
use Rattle.net_core.proofs.LowBitsLaws.{concatenated_small}
use Rattle.net_core.proofs.WidthLaws.{concatenation_is}
use Rattle.frame_net.specs.Answers.{byte_of}
use Rattle.overlay_net.specs.cell_core.Cells.{bits_from}
use Rattle.cell_nets.specs.declared.operand.Operand.{Operand}
use Rattle.cell_nets.specs.declared.operand.Operand.TheVariants.{Known}
use Rattle.cell_nets.specs.Operands.{number_in, AreFit}
use Rattle.row_net.specs.declared.place_net.outputs.AnswerByte.{AnswerByte}
use Rattle.row_net.specs.PlaceNet.Exit.{byte_operand}
use Rattle.row_net.specs.PlaceNet.ExitNets.{IsFound, IsByte, AreBytes}

-- what holds of each operand of bytes, and of 0, holds of what is found
pub found_is : {N : Type 0} (Q : Operand N → Type 0) (bytes : List (AnswerByte N)) (at : ℕ) (a : Operand N) → IsFound bytes at a → All (λ x. Q (byte_operand x)) bytes → Q (Known 0) → Q a
found_is Q bytes at a (inl s) all none = subst Q s.is (All-contains (λ x. Q (byte_operand x)) bytes s.byte all s.listed)
found_is Q bytes at a (inr s) all none = subst Q (sym s.1) none

-- ---- bytes of numbers
low_same : (n : ℕ) → bits_from n 0 8 % 2 ^ 8 ≡ bits_from n 0 8
low_same n = mod-eq_of_lt {n = n / 2 ^ 0 % 2 ^ 8} {m = 2 ^ 8} (mod_below (n / 2 ^ 0) (2 ^ 8) (pow_pos 8))

-- of a number of k bytes and one above them
pub byte_above : (a b k : ℕ) → b < 2 ^ (8 * k) → byte_of (a * 2 ^ (8 * k) + b) k ≡ a % 2 ^ 8
byte_above a b k small = ap (λ n. n % 2 ^ 8) (div-mul-add a (2 ^ (8 * k)) b small)

pub byte_below : (a b j k : ℕ) → j < k → byte_of (a * 2 ^ (8 * k) + b) j ≡ byte_of b j
byte_below a b j k less =
    let m : ℕ = k - j - 1 in
    let e : 8 * k ≡ 8 * m + 8 + 8 * j = omega arith in
    let p : a * 2 ^ (8 * k) ≡ a * 2 ^ (8 * m) * 2 ^ 8 * 2 ^ (8 * j) =
    ap (λ n. a * 2 ^ n) e ∙ ap (λ n. a * n) (pow-add 2 (8 * m + 8) (8 * j)) ∙ ap (λ n. a * (n * 2 ^ (8 * j))) (pow-add 2 (8 * m) 8) ∙ sym (mul_assoc a (2 ^ (8 * m) * 2 ^ 8) (2 ^ (8 * j))) ∙ ap (λ n. n * 2 ^ (8 * j)) (sym (mul_assoc a (2 ^ (8 * m)) (2 ^ 8))) in
    ap (λ n. (n + b) / 2 ^ (8 * j) % 2 ^ 8) p ∙ ap (λ n. n % 2 ^ 8) (mul-add-div_right {m = 2 ^ (8 * j)} (pow_pos (8 * j)) (a * 2 ^ (8 * m) * 2 ^ 8) b) ∙ mul-add-mod_self_right (a * 2 ^ (8 * m)) (2 ^ 8) (b / 2 ^ (8 * j))

-- ---- expressions
module _ {N : Type 0} (ins : List (Operand N)) (bytes : List (AnswerByte N)) (number : ℕ) where
  byte_small : (n : ℕ) → bits_from n 0 8 < 2 ^ 8
  byte_small n = mod_below (n / 2 ^ 0) (2 ^ 8) (pow_pos 8)

  pub lowest : (t : Tree N) → IsByte ins bytes (8 * number) t → AreBytes ins bytes number 1 (TLast t)
  lowest t b = record {
    typed = b.part.typed;
    width = λ v f. ap (λ (w : Word). w.width) (b.part.value v f);
    small = λ v f. subst (λ (w : Word). w.value < 2 ^ 8) (sym (b.part.value v f)) (byte_small (number_in v b.operand));
    each = λ k l.
        let z : k ≡ 0 = omega arith in
        let n : 8 * number ≡ 8 * number + k = omega arith in (
          b.operand,
          subst (λ at. IsFound bytes at b.operand) n b.found,
          λ v f. ap (λ j. byte_of (value v t).value j) z ∙ ap (λ (w : Word). byte_of w.value 0) (b.part.value v f) ∙ first_byte (number_in v b.operand),
        );
    reads = b.part.reads;
    depth = b.part.depth;
    apart = b.part.apart;
    no_product = b.part.no_product;
  }
    where
      first_byte : (n : ℕ) → byte_of (bits_from n 0 8) 0 ≡ bits_from n 0 8
      first_byte n = ap (λ m. m % 2 ^ 8) (div-one (bits_from n 0 8)) ∙ low_same n

  module _ (k : ℕ) (t : Tree N) (ps : Trees N) (b : IsByte ins bytes (8 * number + k) t) (h : AreBytes ins bytes number k ps) (some : 0 < k) (most : k < 8) where
    -- the value with one byte more
    value_is : (v : Env N) → AreFit v ins → (concatenated_parts v (TMore t ps)).value ≡ bits_from (number_in v b.operand) 0 8 * 2 ^ (8 * k) + (concatenated_parts v ps).value
    value_is v f = ap (λ (w : Word). w.value * 2 ^ (concatenated_parts v ps).width + (concatenated_parts v ps).value) (b.part.value v f) ∙ ap (λ n. bits_from (number_in v b.operand) 0 8 * 2 ^ n + (concatenated_parts v ps).value) (h.width v f)

    byte_is : (j : ℕ) → j < suc k → (a : Operand N) × IsFound bytes (8 * number + j) a × ((v : Env N) → AreFit v ins → byte_of (concatenated_parts v (TMore t ps)).value j ≡ bits_from (number_in v a) 0 8)
    byte_is j l = by_case (cases_lt j k)
      where
        by_case : (j < k) ⊎ (k ≤ j) → (a : Operand N) × IsFound bytes (8 * number + j) a × ((v : Env N) → AreFit v ins → byte_of (concatenated_parts v (TMore t ps)).value j ≡ bits_from (number_in v a) 0 8)
        by_case (inl less) =
            let x = h.each j less in
            (x.0, x.1, λ v f. ap (λ n. byte_of n j) (value_is v f) ∙ byte_below (bits_from (number_in v b.operand) 0 8) (concatenated_parts v ps).value j k less ∙ x.2 v f)
        by_case (inr more) =
            let e : k ≡ j = omega arith in (
              b.operand,
              subst (λ n. IsFound bytes (8 * number + n) b.operand) e b.found,
              λ v f. ap (λ n. byte_of n j) (value_is v f) ∙ ap (λ n. byte_of (bits_from (number_in v b.operand) 0 8 * 2 ^ (8 * k) + (concatenated_parts v ps).value) n) (sym e)
                  ∙ byte_above (bits_from (number_in v b.operand) 0 8) (concatenated_parts v ps).value k (h.small v f) ∙ low_same (number_in v b.operand),
            )

    pub one_more : AreBytes ins bytes number (suc k) (TMore t ps)
    one_more =
        let e : 8 + 8 * k ≡ 8 * suc k = omega arith in
        record {
          typed = λ s d. ap (λ n. concatenation_width n (parts_width s ps)) (b.part.typed s d) ∙ ap (λ n. concatenation_width 8 n) (h.typed s d) ∙ concatenation_is 8 (8 * k) (omega arith) (omega arith) (omega arith) ∙ e;
          width = λ v f. ap (λ (w : Word). w.width + (concatenated_parts v ps).width) (b.part.value v f) ∙ ap (λ n. 8 + n) (h.width v f) ∙ e;
          small = λ v f.
              subst (λ n. (concatenated_parts v (TMore t ps)).value < 2 ^ n) e
              (subst (λ n. n < 2 ^ (8 + 8 * k)) (sym (value_is v f)) (concatenated_small (bits_from (number_in v b.operand) 0 8) (concatenated_parts v ps).value 8 (8 * k) (byte_small (number_in v b.operand)) (h.small v f)));
          each = byte_is;
          reads = (b.part.reads, h.reads);
          depth = let d = b.part.depth in let q = h.depth in omega arith;
          apart = and_is _ _ b.part.apart h.apart;
          no_product = rw b.part.no_product h.no_product;
        }
