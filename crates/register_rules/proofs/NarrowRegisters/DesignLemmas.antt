-- A design of narrower registers shows what the design shows that it is made of.
use Rattle.std.specs.Prelude.{◌≡◌, ◌≢◌, ℕ, suc, ◌≤◌, List, [], ◌∷◌, ◌++◌, length, map as map_list}
use Rattle.std.proofs.Common.{refl, sym, ap, ◌∙◌, arith, subst, get_or, inl, inr, length-append, append-nil, append_assoc}
use Rattle.std.proofs.lemmas.Bool.{cases_lt, cases_eq}
use Rattle.std.proofs.lemmas.List.{map-append, get_or_past, get_or_append_left, get_or_push}
use Rattle.net_core.specs.declared.tree.Word.{Word}
use Rattle.net_core.specs.declared.tree.Net.{Net}
use Rattle.net_core.specs.declared.tree.Net.TheVariants.{Port, Register, Memory, Wire}
use Rattle.net_core.specs.Nets.{StatementTree, WireTree, AssignTree, Netlist}
use Rattle.net_core.specs.Value.{nothing, Env, right_value}
use Rattle.net_core.specs.Clock.{Stored, first_stored, done, edge, net_value, memory_word_value, env, with_wires, env_of, stopped_at, rights, assigned}
use Rattle.net_core.specs.SameClocks.Same.{ShowTheSame}
use Rattle.net_core.proofs.SameClocks.SameLaws.{followers_show_the_same}
use Rattle.register_rules.specs.declared.narrow_registers.codes.Code.{Code}
use Rattle.register_rules.specs.NarrowRegisters.Narrow.{widened, decoded, Coding, code_of, AreNarrowed, IsNarrowed, IsNarrowedRight, AreNarrowedWires, IsSameAssign, IsSameStatement, Each}
use Rattle.register_rules.proofs.NarrowRegisters.EachLaws.{each_append}
use Rattle.register_rules.proofs.NarrowRegisters.ValueLemmas.{widened_by_none}

-- ---- lists, one longer
-- what is pushed stands for the next one
pub each_pushed : {A B : Type 0} (R : B → B → Type 0) (f : A → B) (xs old new : List A) (x y : A) (whole : List B) → whole ≡ map_list f xs ++ f x ∷ [] → new ≡ old ++ y ∷ [] → Each R (map_list f xs) (map_list f old) → R (f x) (f y)
    → Each R whole (map_list f new)
each_pushed R f xs old new x y whole p q h e =
    subst (λ l. Each R l (map_list f new)) (sym p)
    (subst (λ l. Each R (map_list f xs ++ f x ∷ []) l) (sym (ap (map_list f) q ∙ map-append f old (y ∷ [])))
    (each_append R (map_list f xs) (map_list f old) (f x) (f y) h e))

-- ---- wires, one longer
record AreWidened (zs : List ℕ) (ws us : List Word) : Type 0 where
  count : length ws ≡ length us
  words : (k : ℕ) → get_or ws k nothing ≡ widened (get_or zs k 0) (get_or us k nothing)

words_pushed : (zs : List ℕ) (ws us : List Word) (z : ℕ) (w u : Word) → length zs ≡ length ws → AreWidened zs ws us → w ≡ widened z u → AreWidened (zs ++ z ∷ []) (ws ++ w ∷ []) (us ++ u ∷ [])
words_pushed zs ws us z w u long h e = record { count = omega (arith, length-append ws (w ∷ []), length-append us (u ∷ []), h.count); words = λ k. at k }
  where
    behind : (k : ℕ) → length ws ≤ k → k ≢ length ws → get_or (ws ++ w ∷ []) k nothing ≡ widened (get_or (zs ++ z ∷ []) k 0) (get_or (us ++ u ∷ []) k nothing)
    behind k past other =
        get_or_past (ws ++ w ∷ []) k nothing (omega (arith, length-append ws (w ∷ []))) ∙ sym (widened_by_none nothing)
        ∙ ap (λ n. widened n nothing) (sym (get_or_past (zs ++ z ∷ []) k 0 (omega (arith, length-append zs (z ∷ []), long))))
        ∙ ap (widened (get_or (zs ++ z ∷ []) k 0)) (sym (get_or_past (us ++ u ∷ []) k nothing (omega (arith, length-append us (u ∷ []), h.count))))

    at : (k : ℕ) → get_or (ws ++ w ∷ []) k nothing ≡ widened (get_or (zs ++ z ∷ []) k 0) (get_or (us ++ u ∷ []) k nothing)
    at k = elim (cases_lt k (length ws)) [
      | inl lt ↦ get_or_append_left ws (w ∷ []) nothing k lt ∙ h.words k ∙ ap (λ n. widened n (get_or us k nothing)) (sym (get_or_append_left zs (z ∷ []) 0 k (omega (arith, long))))
          ∙ ap (widened (get_or (zs ++ z ∷ []) k 0)) (sym (get_or_append_left us (u ∷ []) nothing k (omega (arith, h.count))))
      | inr past ↦ elim (cases_eq k (length ws)) [
        | inl here ↦ get_or_push ws w nothing k (sym here) ∙ e ∙ ap (λ n. widened n u) (sym (get_or_push zs z 0 k (long ∙ sym here)))
            ∙ ap (widened (get_or (zs ++ z ∷ []) k 0)) (sym (get_or_push us u nothing k (sym h.count ∙ sym here)))
        | inr other ↦ behind k past other
      ]
    ]

-- one wire more that loses these bits
pub wires_append : (registers : List Code) (before zs : List ℕ) (xs ys : List WireTree) (z : ℕ) (x y : WireTree) → AreNarrowedWires registers before zs xs ys
    → IsNarrowedRight (record { registers = registers; wires = before ++ zs }) z x.right y.right → AreNarrowedWires registers before (zs ++ z ∷ []) (xs ++ x ∷ []) (ys ++ y ∷ [])
wires_append registers before [] [] [] z x y h e = (subst (λ l. IsNarrowedRight (record { registers = registers; wires = l }) z x.right y.right) (append-nil before) e, tt)
wires_append registers before [] [] (b ∷ bs) z x y h e = absurd h
wires_append registers before [] (a ∷ rest) bs z x y h e = absurd h
wires_append registers before (n ∷ zs) [] bs z x y h e = absurd h
wires_append registers before (n ∷ zs) (a ∷ rest) [] z x y h e = absurd h
wires_append registers before (n ∷ zs) (a ∷ rest) (b ∷ bs) z x y h e =
    (h.0, wires_append registers (before ++ n ∷ []) zs rest bs z x y h.1 (subst (λ l. IsNarrowedRight (record { registers = registers; wires = l }) z x.right y.right) (sym (append_assoc before (n ∷ []) zs)) e))

module _ (registers : List Code) where
  -- ---- the values of nets
  env_narrowed : (wires : List ℕ) (ins : List Word) (r s : Stored) (ws us : List Word) → IsNarrowed registers r s → AreWidened wires ws us
      → AreNarrowed (record { registers = registers; wires = wires }) (env ins r ws) (env ins s us)
  env_narrowed wires ins r s ws us h e = record { net = λ n. nets n; memory_word = λ m a. words m a }
    where
      nets : (n : Net) → net_value ins r ws n ≡ decoded (code_of (record { registers = registers; wires = wires }) n) (net_value ins s us n)
      nets (Port i) = sym (widened_by_none (get_or ins i nothing))
      nets (Register i) = h.registers.words i
      nets (Memory i) = sym (widened_by_none nothing)
      nets (Wire i) = e.words i

      words : (m : Net) (a : ℕ) → memory_word_value r m a ≡ memory_word_value s m a
      words (Port i) a = refl
      words (Register i) a = refl
      words (Memory i) a = ap (λ l. get_or (get_or l i []) a nothing) h.memories
      words (Wire i) a = refl

  wires_narrowed : (before zs : List ℕ) (ins : List Word) (r s : Stored) (ws us : List Word) (a b : List WireTree) → IsNarrowed registers r s → length before ≡ length ws → AreWidened before ws us → AreNarrowedWires registers before zs a b
      → AreWidened (before ++ zs) (with_wires ins r ws a) (with_wires ins s us b)
  wires_narrowed before [] ins r s ws us [] [] h long n e = subst (λ l. AreWidened l ws us) (sym (append-nil before)) n
  wires_narrowed before [] ins r s ws us [] (b ∷ bs) h long n e = absurd e
  wires_narrowed before [] ins r s ws us (a ∷ rest) bs h long n e = absurd e
  wires_narrowed before (z ∷ zs) ins r s ws us [] bs h long n e = absurd e
  wires_narrowed before (z ∷ zs) ins r s ws us (a ∷ rest) [] h long n e = absurd e
  wires_narrowed before (z ∷ zs) ins r s ws us (a ∷ rest) (b ∷ bs) h long n e =
      let w = right_value (env ins r ws) a.right in
      let u = right_value (env ins s us) b.right in
      let same = e.0.value (env ins r ws) (env ins s us) (env_narrowed before ins r s ws us h n) in
      subst (λ l. AreWidened l (with_wires ins r (ws ++ w ∷ []) rest) (with_wires ins s (us ++ u ∷ []) bs)) (append_assoc before (z ∷ []) zs)
      (wires_narrowed (before ++ z ∷ []) zs ins r s (ws ++ w ∷ []) (us ++ u ∷ []) rest bs h (omega (arith, long, length-append before (z ∷ []), length-append ws (w ∷ []))) (words_pushed before ws us z w u long n same) e.1)

  stopped_same : (any : List ℕ) (v t : Env Net) → AreNarrowed (record { registers = registers; wires = any }) v t → (before zs : List ℕ) (at : ℕ) (a b : List WireTree) → AreNarrowedWires registers before zs a b → stopped_at v at (rights a) ≡ stopped_at t at (rights b)
  stopped_same any v t known before [] at [] [] e = refl
  stopped_same any v t known before [] at [] (b ∷ bs) e = absurd e
  stopped_same any v t known before [] at (a ∷ rest) bs e = absurd e
  stopped_same any v t known before (z ∷ zs) at [] bs e = absurd e
  stopped_same any v t known before (z ∷ zs) at (a ∷ rest) [] e = absurd e
  stopped_same any v t known before (z ∷ zs) at (a ∷ rest) (b ∷ bs) e = rw (e.0.stops any v t known, stopped_same any v t known (before ++ z ∷ []) zs (suc at) rest bs e.1) refl

module _ (codes : Coding) where
  module _ (v t : Env Net) (known : AreNarrowed codes v t) where
    assigned_same : (a b : List AssignTree) → Each (IsSameAssign codes) a b → (port : ℕ) → assigned v a port ≡ assigned t b port
    assigned_same [] [] e port = refl
    assigned_same [] (b ∷ bs) e port = absurd e
    assigned_same (a ∷ rest) [] e port = absurd e
    assigned_same (a ∷ rest) (b ∷ bs) e port = rw (e.0.0, e.0.1 v t known, assigned_same rest bs e.1 port) refl

    edge_same : (a b : List (StatementTree Net)) → Each (IsSameStatement codes) a b → (r s : Stored) → IsNarrowed codes.registers r s → IsNarrowed codes.registers (edge v a r) (edge t b s)
    edge_same [] [] e r s h = h
    edge_same [] (b ∷ bs) e r s h = absurd e
    edge_same (a ∷ rest) [] e r s h = absurd e
    edge_same (a ∷ rest) (b ∷ bs) e r s h = edge_same rest bs e.1 (done v a r) (done t b s) (e.0 v t known r s h)

  -- ---- whole designs
  pub shows_the_same : (a b : Netlist) → IsNarrowed codes.registers (first_stored a) (first_stored b) → AreNarrowedWires codes.registers [] codes.wires a.wires b.wires
      → Each (IsSameAssign codes) a.assigns b.assigns → Each (IsSameStatement codes) a.always b.always → ShowTheSame a b
  shows_the_same a b first wires assigns always = followers_show_the_same a b (IsNarrowed codes.registers) (record {
    begins = first;
    shows = λ ins r s h port. sym (assigned_same (env_of a ins r) (env_of b ins s) (envs ins r s h) a.assigns b.assigns assigns port);
    stores = λ ins r s h. edge_same (env_of a ins r) (env_of b ins s) (envs ins r s h) a.always b.always always r s h;
    goes = λ ins r s h go. sym (stopped_same codes.registers codes.wires (env_of a ins r) (env_of b ins s) (envs ins r s h) [] codes.wires 0 a.wires b.wires wires) ∙ go;
  })
    where
      none : AreWidened [] [] []
      none = record { count = refl; words = λ k. sym (widened_by_none nothing) }

      envs : (ins : List Word) (r s : Stored) → IsNarrowed codes.registers r s → AreNarrowed codes (env_of a ins r) (env_of b ins s)
      envs ins r s h = env_narrowed codes.registers codes.wires ins r s (with_wires ins r [] a.wires) (with_wires ins s [] b.wires) h
          (wires_narrowed codes.registers [] codes.wires ins r s [] [] a.wires b.wires h refl none wires)
