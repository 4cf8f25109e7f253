-- What is declared, one item longer.
use Rattle.std.specs.Prelude.{◌≡◌, ℕ, ◌+◌, ◌<◌, take, List, [], ◌∷◌, ◌++◌, length}
use Rattle.std.proofs.Common.{refl, sym, ap, ◌∙◌, arith, subst, get_or, inl, inr, length-append, append-nil, add-zero}
use Rattle.std.proofs.lemmas.Bool.{cases_lt}
use Rattle.std.proofs.lemmas.List.{get_or_append_left, get_or_push, take_more}
use Rattle.net_core.specs.declared.tree.Word.{Word}
use Rattle.net_core.specs.declared.design.Declared.{Declared}
use Rattle.net_core.specs.declared.design.Declared.TheVariants as declared
use Rattle.net_core.specs.Value.{nothing}
use Rattle.net_core.specs.Clock.{first_words, first_memories}
use Rattle.net_core.proofs.DeclaredLaws.{words_append, memories_append}
use Rattle.register_rules.specs.declared.narrow_registers.codes.Code.{Code}
use Rattle.register_rules.specs.declared.narrow_registers.codes.Code.TheVariants.{Zeros}
use Rattle.register_rules.specs.NarrowRegisters.Narrow.{decoded, IsNarrowedItem}

-- so far, where so many registers stand there
pub record IsSoFar (codes : List Code) (ds es : List Declared) (n : ℕ) : Type 0 where
  pub count : length (first_words ds) ≡ n
  pub others : length (first_words es) ≡ n
  pub registers : (k : ℕ) → k < n → get_or (first_words ds) k nothing ≡ decoded (get_or codes k (Zeros 0)) (get_or (first_words es) k nothing)
  pub memories : first_memories ds ≡ first_memories es

word_at : (codes : List Code) (ws us : List Word) (w u : Word) (n k : ℕ) → length ws ≡ n → length us ≡ n → k < n + 1
    → ((k : ℕ) → k < n → get_or ws k nothing ≡ decoded (get_or codes k (Zeros 0)) (get_or us k nothing)) → w ≡ decoded (get_or codes n (Zeros 0)) u
    → get_or (ws ++ w ∷ []) k nothing ≡ decoded (get_or codes k (Zeros 0)) (get_or (us ++ u ∷ []) k nothing)
word_at codes ws us w u n k p q below h e = elim (cases_lt k n) [
  | inl lt ↦ get_or_append_left ws (w ∷ []) nothing k (omega (arith, p)) ∙ h k lt ∙ ap (decoded (get_or codes k (Zeros 0))) (sym (get_or_append_left us (u ∷ []) nothing k (omega (arith, q))))
  | inr past ↦ let here : n ≡ k = omega arith in
      get_or_push ws w nothing k (p ∙ here) ∙ e ∙ ap (λ i. decoded (get_or codes i (Zeros 0)) u) here ∙ ap (decoded (get_or codes k (Zeros 0))) (sym (get_or_push us u nothing k (q ∙ here)))
]

-- one item more that is no register
other_step : (codes : List Code) (ds es : List Declared) (x y : Declared) (n m : ℕ) → IsSoFar codes ds es n → y ≡ x → first_words (x ∷ []) ≡ [] → m ≡ n → IsSoFar codes (ds ++ x ∷ []) (es ++ y ∷ []) m
other_step codes ds es x y n m h e none is =
    let one = words_append ds (x ∷ []) ∙ ap (λ l. first_words ds ++ l) none ∙ append-nil (first_words ds) in
    let other = ap (λ d. first_words (es ++ d ∷ [])) e ∙ words_append es (x ∷ []) ∙ ap (λ l. first_words es ++ l) none ∙ append-nil (first_words es) in
    record {
      count = ap length one ∙ h.count ∙ sym is;
      others = ap length other ∙ h.others ∙ sym is;
      registers = λ k below. ap (λ l. get_or l k nothing) one ∙ h.registers k (omega (arith, below, is)) ∙ ap (λ l. decoded (get_or codes k (Zeros 0)) (get_or l k nothing)) (sym other);
      memories = memories_append ds (x ∷ []) ∙ ap (λ l. l ++ first_memories (x ∷ [])) h.memories ∙ sym (ap (λ d. first_memories (es ++ d ∷ [])) e ∙ memories_append es (x ∷ []));
    }

pub no_register : (x : Declared) → ((w : Word) → x ≡ declared.Register w → ⊥) → length (first_words (x ∷ [])) ≡ 0
no_register declared.Integer h = refl
no_register (declared.Register w) h = absurd (h w refl)
no_register (declared.Memory i w n) h = refl

-- one item more
pub item_step : (codes : List Code) (ds es : List Declared) (x y : Declared) (n m : ℕ) → IsSoFar codes ds es n → IsNarrowedItem (get_or codes n (Zeros 0)) x y → m ≡ n + length (first_words (x ∷ [])) → IsSoFar codes (ds ++ x ∷ []) (es ++ y ∷ []) m
item_step codes ds es declared.Integer y n m h e is = other_step codes ds es declared.Integer y n m h e refl (is ∙ add-zero n)
item_step codes ds es (declared.Memory i w k) y n m h e is = other_step codes ds es (declared.Memory i w k) y n m h e refl (is ∙ add-zero n)
item_step codes ds es (declared.Register w) y n m h (u, e, wide) is =
    let one = words_append ds (declared.Register w ∷ []) in
    let other = ap (λ d. first_words (es ++ d ∷ [])) e ∙ words_append es (declared.Register u ∷ []) in
    let more : m ≡ n + 1 = is in
    record {
      count = ap length one ∙ length-append (first_words ds) (w ∷ []) ∙ ap (λ i. i + 1) h.count ∙ sym more;
      others = ap length other ∙ length-append (first_words es) (u ∷ []) ∙ ap (λ i. i + 1) h.others ∙ sym more;
      registers = λ k below. ap (λ l. get_or l k nothing) one ∙ word_at codes (first_words ds) (first_words es) w u n k h.count h.others (omega (arith, below, more)) h.registers wide
          ∙ ap (λ l. decoded (get_or codes k (Zeros 0)) (get_or l k nothing)) (sym other);
      memories = memories_append ds (declared.Register w ∷ []) ∙ append-nil (first_memories ds) ∙ h.memories ∙ sym (append-nil (first_memories es)) ∙ sym (ap (λ d. first_memories (es ++ d ∷ [])) e ∙ memories_append es (declared.Register u ∷ []));
    }

-- one item more of a list
pub next_item : (codes : List Code) (all es made : List Declared) (i n m : ℕ) (c : Code) (y : Declared) → i < length all → made ≡ es ++ y ∷ [] → c ≡ get_or codes n (Zeros 0) → IsNarrowedItem c (get_or all i declared.Integer) y
    → m ≡ n + length (first_words (get_or all i declared.Integer ∷ [])) → IsSoFar codes (take i all) es n → IsSoFar codes (take (i + 1) all) made m
next_item codes all es made i n m c y below e q narrowed is h =
    subst (λ ds. IsSoFar codes ds made m) (sym (take_more all i declared.Integer below))
    (subst (λ l. IsSoFar codes (take i all ++ get_or all i declared.Integer ∷ []) l m) (sym e)
    (item_step codes (take i all) es (get_or all i declared.Integer) y n m h (subst (λ k. IsNarrowedItem k (get_or all i declared.Integer) y) q narrowed) is))
