-- Parts of concatenations, one after another.
use Rattle.std.specs.Prelude.{◌≡◌, ℕ, ◌+◌, ◌*◌, ◌^◌, List, [], ◌∷◌, ◌++◌, map as map_list}
use Rattle.std.proofs.Common.{refl, sym, ap, ◌∙◌, arith}
use Rattle.std.proofs.lemmas.Nat.{pow-add}
use Rattle.net_core.specs.declared.tree.Word.{Word}
use Rattle.net_core.specs.declared.tree.Expr.{Expr}
use Rattle.net_core.specs.Nets.{Tree, Trees, TMore}
use Rattle.net_core.specs.View.{tree_of}
use Rattle.net_core.specs.Chains.{parts_before}
use Rattle.net_core.specs.Value.{word, Env, value, concatenated, concatenated_parts}

pub concatenated_assoc : (a b c : Word) → concatenated (concatenated a b) c ≡ concatenated a (concatenated b c)
concatenated_assoc a b c =
    let widths : a.width + b.width + c.width ≡ a.width + (b.width + c.width) = omega arith in
    ap (λ w. word w ((a.value * 2 ^ b.width + b.value) * 2 ^ c.width + c.value)) widths
    ∙ ap (λ v. word (a.width + (b.width + c.width)) v) (shifted a.value b.value c.value (2 ^ b.width) (2 ^ c.width) (2 ^ (b.width + c.width)) (pow-add 2 b.width c.width))
  where
    shifted : (x y z p q r : ℕ) → r ≡ p * q → (x * p + y) * q + z ≡ x * r + (y * q + z)
    shifted x y z p q r e = rw e (grind arith)

-- the word of these parts in front of another word
abbrev pub before : {N : Type 0} → Env N → List (Tree N) → Word → Word
before v [] x = x
before v (t ∷ ts) x = concatenated (value v t) (before v ts x)

pub parts_before_value : {N : Type 0} (v : Env N) (ts : List (Tree N)) (ps : Trees N) → concatenated_parts v (parts_before ts ps) ≡ before v ts (concatenated_parts v ps)
parts_before_value v [] ps = refl
parts_before_value v (t ∷ ts) ps = ap (concatenated (value v t)) (parts_before_value v ts ps)

before_one_more : {N : Type 0} (v : Env N) (xs : List (Expr N)) (x : Expr N) (w : Word) → before v (map_list tree_of (xs ++ x ∷ [])) w ≡ before v (map_list tree_of xs) (concatenated (value v (tree_of x)) w)
before_one_more v [] x w = refl
before_one_more v (y ∷ xs) x w = ap (concatenated (value v (tree_of y))) (before_one_more v xs x w)

-- one part more, of the value of the next one
pub parts_step : {N : Type 0} (v t : Env N) (old new : List (Expr N)) (x : Expr N) (part : Tree N) (left rest : Trees N) (whole : Word) → new ≡ old ++ x ∷ [] → value v part ≡ value t (tree_of x) → left ≡ TMore part rest
    → before t (map_list tree_of old) (concatenated_parts v left) ≡ whole → before t (map_list tree_of new) (concatenated_parts v rest) ≡ whole
parts_step {N = N} v t old new x part left rest whole e h is done =
    ap (λ xs. before t (map_list tree_of xs) (concatenated_parts v rest)) e ∙ before_one_more t old x (concatenated_parts v rest)
    ∙ ap (λ (w : Word). before t (map_list tree_of old) (concatenated w (concatenated_parts v rest))) (sym h)
    ∙ sym (ap (λ (l : Trees N). before t (map_list tree_of old) (concatenated_parts v l)) is) ∙ done
