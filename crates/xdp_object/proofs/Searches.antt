-- The search for the only function that is asked for.
use Rattle.std.proofs.Common.{◌≡◌, ◌≢◌, ◌∙◌, ℕ, ◌+◌, ◌<◌, ◌≤◌, Bool, true, false, cond, Some, None, List, [], ◌∷◌, ◌++◌, length, refl, sym, ap, subst, arith}
use Rattle.std.proofs.lemmas.List.{append-nil, length_push, map-id}
use Rattle.std.proofs.lemmas.List.FromFn.{filter_of_map_range_with_len_more}
use Rattle.std.specs.List.{filter, range_with_len}
use Rattle.xdp_object.specs.declared.error.ObjectError.TheVariants.{ManyPrograms, NoProgram}
use Rattle.xdp_object.specs.Object.{wrong_count}

-- ---- the functions that are asked for

-- of the numbers below n so many are found, and this is the last of them
pub record Found (ps : List ℕ) (n count last : ℕ) : Type 0 where
  pub count_is : count ≡ length ps
  pub sole : count ≡ 1 → ps ≡ last ∷ []
  pub few : count ≤ n
  pub below : 0 < count → last < n

-- the numbers below n + 1 that pass a test
filter-more : (p : ℕ → Bool) (n : ℕ) → filter p (range_with_len 0 (n + 1)) ≡ filter p (range_with_len 0 n) ++ cond (p n) (n ∷ []) []
filter-more p n =
    ap (filter p) (sym (map-id (range_with_len 0 (n + 1)))) ∙ filter_of_map_range_with_len_more p (λ x. x) 0 n n (omega arith)
    ∙ ap (λ xs. filter p xs ++ cond (p n) (n ∷ []) []) (map-id (range_with_len 0 n))

empty : (ps : List ℕ) → length ps ≡ 0 → ps ≡ []
empty [] e = refl
empty (p ∷ ps) e = absurd (omega arith)

-- n passes it, or does not
pub found_more : (p : ℕ → Bool) (n count last : ℕ) → Found (filter p (range_with_len 0 n)) n count last → p n ≡ true
    → Found (filter p (range_with_len 0 (n + 1))) (n + 1) (count + 1) n
found_more p n count last h e =
    let ps = filter p (range_with_len 0 n) in
    let more : filter p (range_with_len 0 (n + 1)) ≡ ps ++ n ∷ [] = filter-more p n ∙ ap (λ b. ps ++ cond b (n ∷ []) []) e in
    record {
      count_is = ap (λ k. k + 1) h.count_is ∙ sym (length_push ps n) ∙ ap length (sym more);
      sole = λ one. more ∙ ap (λ xs. xs ++ n ∷ []) (empty ps (omega (arith, h.count_is)));
      few = omega (arith, h.few);
      below = λ _. omega arith;
    }

pub found_same : (p : ℕ → Bool) (n count last : ℕ) → Found (filter p (range_with_len 0 n)) n count last → p n ≡ false
    → Found (filter p (range_with_len 0 (n + 1))) (n + 1) count last
found_same p n count last h e =
    let ps = filter p (range_with_len 0 n) in
    let same : filter p (range_with_len 0 (n + 1)) ≡ ps = filter-more p n ∙ ap (λ b. ps ++ cond b (n ∷ []) []) e ∙ append-nil ps in
    record {
      count_is = h.count_is ∙ ap length (sym same);
      sole = λ one. same ∙ h.sole one;
      few = omega (arith, h.few);
      below = λ some. let k = h.below some in omega arith;
    }

-- what a test that fails gives
pub passed : {X : Type 0} (b c : Bool) (x : X) → b ≡ c → b ≡ false → cond c (Some x) None ≡ None
passed b c x e f = ap (λ t. cond t (Some x) None) (sym e ∙ f)

-- ---- none, one, several

pub none_found : (ps : List ℕ) (n count last : ℕ) → Found ps n count last → count ≡ 0 → wrong_count ps ≡ Some NoProgram
none_found ps n count last h e = ap wrong_count (empty ps (sym h.count_is ∙ e))

pub one_found : (ps : List ℕ) (n count last : ℕ) → Found ps n count last → count ≡ 1 → wrong_count ps ≡ None
one_found ps n count last h e = ap wrong_count (h.sole e)

pub many_found : (ps : List ℕ) (n count last : ℕ) → Found ps n count last → count ≢ 0 → count ≢ 1 → wrong_count ps ≡ Some (ManyPrograms count)
many_found [] n count last h z o = absurd (z h.count_is)
many_found (p ∷ []) n count last h z o = absurd (o h.count_is)
many_found (p ∷ q ∷ more) n count last h z o = ap (λ k. Some (ManyPrograms k)) (sym h.count_is)

-- the same count and number by other names
pub found_at : (ps : List ℕ) (n count count' last last' : ℕ) → count' ≡ count → last' ≡ last → Found ps n count last → Found ps n count' last'
found_at ps n count count' last last' e f h =
    subst (λ (k : ℕ). Found ps n k last') (sym e) (subst (λ (k : ℕ). Found ps n count k) (sym f) h)

-- all numbers below n, where n is their count
pub found_all : (p : ℕ → Bool) (n m count last : ℕ) → n ≡ m → Found (filter p (range_with_len 0 n)) n count last
    → Found (filter p (range_with_len 0 m)) m count last
found_all p n m count last e h = subst (λ (k : ℕ). Found (filter p (range_with_len 0 k)) k count last) e h
