-- Parts of concatenations, one before another.
use Rattle.std.specs.Prelude.{◌≡◌, ℕ, ◌+◌, ◌-◌, ◌*◌, ◌/◌, ◌%◌, ◌^◌, ◌≤◌, List, [], ◌∷◌, ◌++◌, map as map_list}
use Rattle.std.proofs.Common.{sym, ap, ◌∙◌, arith}
use Rattle.std.proofs.Math.Nat.{zero-mul, div-div-eq-div-mul}
use Rattle.std.proofs.lemmas.Nat.{pow-add, mod-pow-add}
use Rattle.net_core.specs.declared.tree.Word.{Word}
use Rattle.net_core.specs.declared.tree.Expr.{Expr}
use Rattle.net_core.specs.View.{tree_of}
use Rattle.net_core.specs.Nets.{Tree, TLast}
use Rattle.net_core.specs.Value.{nothing, Env, value, part_select, concatenated, concatenated_parts}
use Rattle.net_core.specs.Chains.{parts_before}
use Rattle.net_core.proofs.WordLaws.{word_same}
use Rattle.net_core.proofs.PartLaws.{concatenated_assoc}
use Rattle.net_optimize.specs.Lists.{all_parts}
use Rattle.net_optimize.proofs.ListLemmas.{map_append}

pub nothing_before : (b : Word) → concatenated nothing b ≡ b
nothing_before b = word_same (0 + b.width) b.width (0 * 2 ^ b.width + b.value) b.value (omega arith) (omega (arith, zero-mul (2 ^ b.width)))

pub nothing_behind : (a : Word) → concatenated a nothing ≡ a
nothing_behind a = word_same (a.width + 0) a.width (a.value * 2 ^ 0 + 0) a.value (omega arith) (omega arith)

-- one part more, of those that are left
pub part_step : (all new x rest left whole : Word) → new ≡ concatenated all x → left ≡ concatenated x rest → concatenated all left ≡ whole → concatenated new rest ≡ whole
part_step all new x rest left whole n l h = ap (λ w. concatenated w rest) n ∙ concatenated_assoc all x rest ∙ ap (concatenated all) (sym l) ∙ h

module _ {N : Type 0} (v : Env N) where
  all_parts_append : (xs ys : List (Tree N)) → all_parts v (xs ++ ys) ≡ concatenated (all_parts v xs) (all_parts v ys)
  all_parts_append [] ys = sym (nothing_before (all_parts v ys))
  all_parts_append (t ∷ ts) ys = ap (concatenated (value v t)) (all_parts_append ts ys) ∙ sym (concatenated_assoc (value v t) (all_parts v ts) (all_parts v ys))

  -- a part after others
  pub part_behind : (old new : List (Expr N)) (x : Expr N) → new ≡ old ++ x ∷ [] → all_parts v (map_list tree_of new) ≡ concatenated (all_parts v (map_list tree_of old)) (value v (tree_of x))
  part_behind old new x e =
      ap (λ xs. all_parts v (map_list tree_of xs)) e ∙ ap (all_parts v) (map_append tree_of old (x ∷ [])) ∙ all_parts_append (map_list tree_of old) (tree_of x ∷ [])
      ∙ ap (concatenated (all_parts v (map_list tree_of old))) (nothing_behind (value v (tree_of x)))

  -- one part in place of two
  pub one_for_two : (front old new : List (Expr N)) (last part one : Expr N) → old ≡ front ++ last ∷ [] → new ≡ front ++ one ∷ [] → value v (tree_of one) ≡ concatenated (value v (tree_of last)) (value v (tree_of part))
      → all_parts v (map_list tree_of new) ≡ concatenated (all_parts v (map_list tree_of old)) (value v (tree_of part))
  one_for_two front old new last part one o n h =
      let f = all_parts v (map_list tree_of front) in
      part_behind front new one n ∙ ap (concatenated f) h ∙ sym (concatenated_assoc f (value v (tree_of last)) (value v (tree_of part)))
      ∙ ap (λ w. concatenated w (value v (tree_of part))) (sym (part_behind front old last o))

  -- the tree of these parts
  pub parts_all : (xs : List (Tree N)) (x : Tree N) → concatenated_parts v (parts_before xs (TLast x)) ≡ concatenated (all_parts v xs) (value v x)
  parts_all [] x = sym (nothing_before (value v x))
  parts_all (t ∷ ts) x = ap (concatenated (value v t)) (parts_all ts x) ∙ sym (concatenated_assoc (value v t) (all_parts v ts) (value v x))

-- neighbouring bits of one net
pub bits_joined : (x y a b : Word) (h g m l : ℕ) → a ≡ part_select x h g → b ≡ part_select y m l → x ≡ y → g ≤ h → l ≤ m → g ≡ m + 1 → part_select x h l ≡ concatenated a b
bits_joined x y a b h g m l is_a is_b same first second next =
    let j = h + 1 - g in
    let k = m + 1 - l in
    let wide : h + 1 - l ≡ j + k = omega arith in
    let up : l + k ≡ g = omega arith in
    let z = x.value / 2 ^ l in
    word_same (h + 1 - l) (j + k) (z % 2 ^ (h + 1 - l)) (x.value / 2 ^ g % 2 ^ j * 2 ^ k + z % 2 ^ k) wide
    (ap (λ n. z % 2 ^ n) wide ∙ mod-pow-add z j k
    ∙ ap (λ n. n % 2 ^ j * 2 ^ k + z % 2 ^ k) (div-div-eq-div-mul x.value (2 ^ l) (2 ^ k) ∙ ap (λ n. x.value / n) (sym (pow-add 2 l k)) ∙ ap (λ n. x.value / 2 ^ n) up))
    ∙ sym (ap (λ w. concatenated w b) is_a ∙ ap (concatenated (part_select x h g)) (is_b ∙ ap (λ w. part_select w m l) (sym same)))
