-- Statements after which a register holds the same whatever it held before.
use Rattle.std.specs.Prelude.{◌≡◌, ◌⊎◌, ℕ, ◌==◌, if◌then◌else◌, Bool, true, false, List, [], nat_eq, slice_set}
use Rattle.std.specs.List.{list_any}
use Rattle.std.proofs.Common.{refl, sym, ap, ◌∙◌, subst, inl, inr}
use Rattle.std.proofs.lemmas.Bool.{cases_eq, ne_eqb, false≢true}
use Rattle.std.proofs.lemmas.List.{set-set, set_comm}
use Rattle.net_core.specs.declared.tree.Word.{Word}
use Rattle.net_core.specs.declared.tree.Net.{Net}
use Rattle.net_core.specs.Nets.{Tree, StatementTree, SBlock, SIf, SIfElse, SSet, SStore, StatementTrees, SEnd, SThen}
use Rattle.net_core.specs.Value.{Env, value}
use Rattle.net_core.specs.Clock.{Stored, done, all_done}
use Rattle.net_optimize.specs.SimpleLogic.Lost.{AgreeBut, Overwrites, AreOverwritten}

-- where it is set now, all is the same
set_same : (k : ℕ) (s t : Stored) (w : Word) → AgreeBut k s t → (let u : Stored = record s { registers = slice_set s.registers k w } in u) ≡ record t { registers = slice_set t.registers k w }
set_same k s t w h = let e = h.registers w in let f = h.memories in cc

module _ (k : ℕ) where
  set_agrees : (xs ys : List Word) (r : ℕ) (x : Word) → ((w : Word) → slice_set xs k w ≡ slice_set ys k w) → (w : Word) → slice_set (slice_set xs r x) k w ≡ slice_set (slice_set ys r x) k w
  set_agrees xs ys r x h w = elim (cases_eq r k) [
    | inl here ↦ subst (λ j. slice_set (slice_set xs j x) k w ≡ slice_set (slice_set ys j x) k w) (sym here) (set-set xs k x w ∙ h w ∙ sym (set-set ys k x w))
    | inr other ↦ set_comm xs r k x w other ∙ ap (λ l. slice_set l r x) (h w) ∙ sym (set_comm ys r k x w other)
  ]

  either_agrees : (c : Bool) (p q x y : Stored) → AgreeBut k p x → AgreeBut k q y → AgreeBut k (if c then p else q) (if c then x else y)
  either_agrees true p q x y f g = f
  either_agrees false p q x y f g = g

  module _ (v : Env Net) where
    mutual
      agree_done : (a : StatementTree Net) (s t : Stored) → AgreeBut k s t → AgreeBut k (done v a s) (done v a t)
      agree_done (SBlock more) s t h = agree_all_done more s t h
      agree_done (SIf c a) s t h = either_agrees ((value v c).value == 0) s (done v a s) t (done v a t) h (agree_done a s t h)
      agree_done (SIfElse c a b) s t h = either_agrees ((value v c).value == 0) (done v b s) (done v a s) (done v b t) (done v a t) (agree_done b s t h) (agree_done a s t h)
      agree_done (SSet r e) s t h = record { registers = set_agrees s.registers t.registers r (value v e) h.registers; memories = h.memories }
      agree_done (SStore m i e) s t h = record { registers = h.registers; memories = let f = h.memories in cc }

      agree_all_done : (a : StatementTrees Net) (s t : Stored) → AgreeBut k s t → AgreeBut k (all_done v a s) (all_done v a t)
      agree_all_done SEnd s t h = h
      agree_all_done (SThen a more) s t h = agree_all_done more (done v a s) (done v a t) (agree_done a s t h)

pub overwrites_set : (k : ℕ) (e : Tree Net) (more : StatementTrees Net) → Overwrites (SThen (SSet k e) more) k
overwrites_set k e more v s t h = ap (all_done v more) (set_same k s t (value v e) h)

pub overwrites_behind : (k : ℕ) (a : StatementTree Net) (more : StatementTrees Net) → Overwrites more k → Overwrites (SThen a more) k
overwrites_behind k a more o v s t h = o v (done v a s) (done v a t) (agree_done k v a s t h)

-- a register that is set now
pub set_agree : (k : ℕ) (s : Stored) (w : Word) → AgreeBut k (record s { registers = slice_set s.registers k w }) s
set_agree k s w = record { registers = λ u. set-set s.registers k w u; memories = refl }

-- ---- several registers

-- a key more
pub one_more : (old new : List ℕ) (k q : ℕ) → list_any (nat_eq q) new ≡ (if nat_eq k q then true else list_any (nat_eq q) old) → list_any (nat_eq q) new ≡ true → (k ≡ q) ⊎ (list_any (nat_eq q) old ≡ true)
one_more old new k q e h = elim (cases_eq k q) [
  | inl here ↦ inl here
  | inr other ↦ inr (sym (ap (λ (t : Bool). if t then true else list_any (nat_eq q) old) (ne_eqb k q other)) ∙ sym e ∙ h)
]

pub overwritten_behind : (a : StatementTree Net) (more made : StatementTrees Net) (registers : List ℕ) → made ≡ SThen a more → AreOverwritten more registers → AreOverwritten made registers
overwritten_behind a more made registers is h = subst (λ x. AreOverwritten x registers) (sym is) (λ k there. overwrites_behind k a more (h k there))

pub overwritten_set : (k : ℕ) (e : Tree Net) (a : StatementTree Net) (more made : StatementTrees Net) (old new : List ℕ) → a ≡ SSet k e → made ≡ SThen a more
    → ((q : ℕ) → list_any (nat_eq q) new ≡ true → (k ≡ q) ⊎ (list_any (nat_eq q) old ≡ true)) → AreOverwritten more old → AreOverwritten made new
overwritten_set k e a more made old new set is added h = subst (λ x. AreOverwritten x new) (sym (is ∙ ap (λ x. SThen x more) set)) (λ q there. elim (added q there) [
  | inl here ↦ subst (Overwrites (SThen (SSet k e) more)) here (overwrites_set k e more)
  | inr before ↦ overwrites_behind q (SSet k e) more (h q before)
])

-- a statement of which later ones leave nothing
pub nothing_left : (v : Env Net) (k : ℕ) (e : Tree Net) (a : StatementTree Net) (more : StatementTrees Net) (registers : List ℕ) (s : Stored) → a ≡ SSet k e → AreOverwritten more registers → list_any (nat_eq k) registers ≡ true
    → all_done v more s ≡ all_done v more (done v a s)
nothing_left v k e a more registers s is h there = sym (ap (λ x. all_done v more (done v x s)) is ∙ h k there v (done v (SSet k e) s) s (set_agree k s (value v e)))

pub none_overwritten : (more : StatementTrees Net) (registers : List ℕ) → registers ≡ [] → AreOverwritten more registers
none_overwritten more registers e k there = absurd (false≢true (sym (ap (list_any (nat_eq k)) e) ∙ there))
