-- Operators on any number of operands.
use Rattle.std.specs.Prelude.{bit_or, if◌then◌else◌}
use Rattle.std.specs.List.{list_any}
use Rattle.std.proofs.Common.{◌≡◌, ℕ, zero, suc, ◌+◌, ◌-◌, ◌*◌, ◌/◌, ◌^◌, ◌<◌, ◌≤◌, Bool, true, false, ◌||◌, All, List, [], ◌∷◌, length, length-drop, drop, take, get_or, map, refl, sym, ◌∙◌, ap, subst, arith}
use Rattle.std.proofs.Math.Seq.{drop-cons}
use Rattle.std.proofs.lemmas.List.Folds.{list_any_more}
use Rattle.std.proofs.lemmas.List.{length-map, drop_all}
use Rattle.std.proofs.lemmas.List.Elements.{All-get_or}
use Rattle.std.proofs.lemmas.Nat.{pow_pos}
use Rattle.std.proofs.Math.Nat.{mod-eq_of_lt}
use Rattle.net_core.specs.Nets.{Tree, TConst, TBinary, TConditional}
use Rattle.net_core.specs.declared.tree.Op.TheVariants as net
use Rattle.net_core.specs.Value.{Env, word}
use Rattle.cell_core.specs.Cells.{bit, on, bits_from, phi}
use Rattle.cell_nets.specs.declared.operand.Operand.{Operand}
use Rattle.cell_nets.specs.Listing.{IsChosen}
use Rattle.cell_nets.specs.Operands.{IsAvailable, number_in}
use Rattle.cell_nets.specs.Parts.{IsPart, IsSlice}
use Rattle.cell_nets.proofs.ExpressionPartLaws.{part_same, part_of, const_slice, binary_part, conditional_part, same_is}
use Rattle.cell_nets.proofs.NarrowLaws.{from_zero}
use Rattle.cell_nets.proofs.ChoiceLaws.{choice_is}

-- ---- whether one is not 0
or_bits : (p q : Bool) → bit_or (bit p) (bit q) ≡ bit (p || q)
or_bits true true = refl
or_bits true false = refl
or_bits false true = refl
or_bits false false = refl

-- an element of some operands is one that may be read
pub available_at : {N : Type 0} (ins args : List (Operand N)) (i : ℕ) (x : Operand N) → i < length args → x ≡ get_or args i x → All (IsAvailable ins) args → IsAvailable ins x
available_at ins args i x inside is h = subst (IsAvailable ins) (sym is) (All-get_or (IsAvailable ins) args i x inside h)

-- one more operand
pub any_more :
    {N : Type 0} (ins args : List (Operand N)) (i : ℕ) (x : Operand N) (found one more : Tree N) → i < length args → x ≡ get_or args i x → more ≡ TBinary net.Or found one
    → IsPart ins (3 + i) 1 (λ v. bit (list_any (λ a. on (number_in v a)) (take i args))) found → IsPart ins 2 1 (λ v. bit (on (number_in v x))) one
    → IsPart ins (3 + (i + 1)) 1 (λ v. bit (list_any (λ a. on (number_in v a)) (take (i + 1) args))) more
any_more ins args i x found one more inside is e p q =
    part_of ins _ (3 + (i + 1)) 1 _ _ more (omega arith) e
    (part_same ins _ 1 _ _ _
    (λ v f. or_bits _ _ ∙ ap (λ a. bit (list_any (λ b. on (number_in v b)) (take i args) || on (number_in v a))) is ∙ ap bit (sym (list_any_more (λ a. on (number_in v a)) args i x inside)))
    (binary_part ins (3 + i) 2 1 1 1 _ _ bit_or net.Or found one (same_is 1) (λ y z. refl) refl p q))

pub any_map : {N : Type 0} (v : Env N) (args : List (Operand N)) → list_any (λ a. on (number_in v a)) args ≡ list_any on (map (number_in v) args)
any_map v [] = refl
any_map v (a ∷ args) = ap (λ b. on (number_in v a) || b) (any_map v args)

-- ---- the first whose edge is on
pub phi_step : (e x : ℕ) (rest : List ℕ) → 0 < length rest → phi (e ∷ x ∷ rest) ≡ (if on e then x else phi rest)
phi_step e x [] some = absurd (omega arith)
phi_step e x (d ∷ more) some = refl

pub two_more : {N : Type 0} (args : List (Operand N)) (at : ℕ) (x y : Operand N) → at + 1 < length args → x ≡ get_or args at x → y ≡ get_or args (at + 1) y → drop at args ≡ x ∷ y ∷ drop (at + 2) args
two_more args at x y inside is also =
    let e : suc at ≡ at + 1 = omega arith in
    let f : suc (at + 1) ≡ at + 2 = omega arith in
    drop-cons args at x (omega arith) ∙ ap (λ a. a ∷ drop (suc at) args) (sym is) ∙ ap (λ k. x ∷ drop k args) e
    ∙ ap (λ l. x ∷ l) (drop-cons args (at + 1) y inside ∙ ap (λ a. a ∷ drop (suc (at + 1)) args) (sym also) ∙ ap (λ k. y ∷ drop k args) f)

-- one more pair before others
pub chosen_more :
    {N : Type 0} (args : List (Operand N)) (width at : ℕ) (x y : Operand N) (chosen edge value more : Tree N) → 2 ≤ at → more ≡ TConditional edge value chosen → x ≡ get_or args (at - 2) x → y ≡ get_or args (at - 2 + 1) y
    → IsChosen args width at chosen → ((ins : List (Operand N)) → IsAvailable ins x → IsPart ins 2 1 (λ v. bit (on (number_in v x))) edge)
    → ((ins : List (Operand N)) → IsAvailable ins y → IsSlice ins 2 width (λ v. bits_from (number_in v y) 0 width) value) → IsChosen args width (at - 2) more
chosen_more args width at x y chosen edge value more two e is also p q r = record {
  within = omega (arith, p.within);
  even = omega (arith, p.even);
  some = λ h. omega (arith, p.within);
  part = λ ins h.
      let back : at - 2 + 2 ≡ at = omega arith in
      let inside : at - 2 + 1 < length args = omega (arith, p.within) in
      let less : at < length args = p.some (omega arith) in
      let c = conditional_part ins 2 2 (3 + (length args - at)) width _ _ _ edge value chosen (q ins (available_at ins args (at - 2) x (omega (arith, p.within)) is h)) (r ins (available_at ins args (at - 2 + 1) y inside also h)).part (p.part ins h) in
      part_of ins _ (3 + (length args - (at - 2))) width _ _ more (omega (arith, p.within)) e
      (part_same ins _ width _ _ _ (λ v f.
      let step = two_more args (at - 2) x y inside is also ∙ ap (λ k. x ∷ y ∷ drop k args) back in
      choice_is (on (number_in v x)) (number_in v y) (phi (map (number_in v) (drop at args))) width
      ∙ ap (λ n. bits_from n 0 width) (sym (ap (λ l. phi (map (number_in v) l)) step ∙ phi_step _ _ (map (number_in v) (drop at args)) (some_left v less)))) c);
}
  where
    some_left : (v : Env _) → at < length args → 0 < length (map (number_in v) (drop at args))
    some_left v less = omega (arith, length-map (drop at args) (number_in v), length-drop at args)

-- the last pair
pub last_chosen :
    {N : Type 0} (args : List (Operand N)) (width at : ℕ) (y : Operand N) (value : Tree N) → at ≡ (length args - 1) / 2 * 2 → at + 1 < length args → y ≡ get_or args (at + 1) y
    → ((ins : List (Operand N)) → IsAvailable ins y → IsSlice ins 2 width (λ v. bits_from (number_in v y) 0 width) value) → IsChosen args width at value
last_chosen args width at y value last inside also p = record {
  within = omega arith;
  even = omega arith;
  some = λ h. omega arith;
  part = λ ins h.
      let one : at < length args = omega arith in
      let x = get_or args at y in
      let end = two_more args at x y inside (same_at args at y x one) also ∙ ap (λ l. x ∷ y ∷ l) (drop_all (at + 2) args (omega arith)) in
      part_of ins 2 (3 + (length args - at)) width _ _ value (omega arith) refl
      (part_same ins 2 width _ _ _ (λ v f. sym (ap (λ l. bits_from (phi (map (number_in v) l)) 0 width) end)) (p ins (available_at ins args (at + 1) y inside also h)).part);
}
  where
    same_at : {X : Type 0} (xs : List X) (k : ℕ) (d e : X) → k < length xs → get_or xs k d ≡ get_or xs k e
    same_at [] k d e h = absurd (omega arith)
    same_at (x ∷ xs) zero d e h = refl
    same_at (x ∷ xs) (suc k) d e h = same_at xs k d e (omega arith)

short_phi : (xs : List ℕ) → length xs ≤ 1 → phi xs ≡ 0
short_phi [] h = refl
short_phi (x ∷ []) h = refl
short_phi (x ∷ y ∷ xs) h = absurd (omega arith)

-- no last pair
pub none_chosen : {N : Type 0} (args : List (Operand N)) (width at : ℕ) (value : Tree N) → at ≡ (length args - 1) / 2 * 2 → length args ≤ at + 1 → width ≤ 64 → value ≡ TConst (word width 0) → IsChosen args width at value
none_chosen args width at value last short most e = record {
  within = omega arith;
  even = omega arith;
  some = λ h. omega arith;
  part = λ ins h.
      part_of ins 1 (3 + (length args - at)) width _ _ value (omega arith) e
      (part_same ins 1 width _ _ _ (λ v f. zero_bits width ∙ ap (λ n. bits_from n 0 width) (sym (short_phi (map (number_in v) (drop at args)) (omega (arith, length-map (drop at args) (number_in v), length-drop at args)))))
      (const_slice ins width 0 most (pow_pos width)).part);
}
  where
    zero_bits : (w : ℕ) → 0 ≡ bits_from 0 0 w
    zero_bits w = sym (from_zero 0 w ∙ mod-eq_of_lt {n = 0} {m = 2 ^ w} (pow_pos w))
