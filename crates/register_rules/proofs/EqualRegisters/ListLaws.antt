-- Lists of what is set of each register, one longer.
use Rattle.std.specs.Prelude.{◌≡◌, ◌==◌, ℕ, zero, suc, ◌+◌, ◌<◌, ◌≤◌, Bool, cond, List, [], ◌∷◌, ◌++◌, length, map as map_list, take, slice_set}
use Rattle.std.specs.declared.vec.Vec.{Vec}
use Rattle.std.specs.declared.alloc.Global.{Global}
use Rattle.std.proofs.Common.{get_or, refl, sym, ap, ◌∙◌, arith, inl, inr, append-nil, append_assoc}
use Rattle.std.proofs.lemmas.Bool.{cases_eq, eq-eqb, ne_eqb}
use Rattle.std.proofs.lemmas.List.{map_more, get_or-map}
use Rattle.std.proofs.lemmas.List.Elements.{filter-append}
use Rattle.net_core.specs.declared.tree.Net.{Net}
use Rattle.net_core.specs.Nets.{Tree, StatementTree, SBlock, SIf, SIfElse, SSet, SStore, StatementTrees, SThen}
use Rattle.register_rules.specs.declared.equal_registers.settings.Setting.{Setting}
use Rattle.register_rules.specs.EqualRegisters.Settings.{SettingTree, setting_of, behind, all_behind, settings, all_settings, block_settings, of_register, list_at, AreListed}

-- ---- one list longer
put_here : (lists : List (Vec Setting Global)) (r : ℕ) (old new : Vec Setting Global) (xs : List SettingTree) → r < length lists → old ≡ get_or lists r old → map_list setting_of new.items ≡ map_list setting_of old.items ++ xs
    → list_at (slice_set lists r new) r ≡ list_at lists r ++ xs
put_here [] r old new xs l is e = absurd (omega arith)
put_here (y ∷ lists) zero old new xs l is e = e ∙ ap (λ o. map_list setting_of o.items ++ xs) is
put_here (y ∷ lists) (suc r) old new xs l is e = put_here lists r old new xs (omega arith) is e

put_there : (lists : List (Vec Setting Global)) (r k : ℕ) (new : Vec Setting Global) → (r ≡ k → ⊥) → list_at (slice_set lists r new) k ≡ list_at lists k
put_there [] r k new other = refl
put_there (y ∷ lists) zero zero new other = absurd (other refl)
put_there (y ∷ lists) zero (suc k) new other = refl
put_there (y ∷ lists) (suc r) zero new other = refl
put_there (y ∷ lists) (suc r) (suc k) new other = put_there lists r k new (λ e. other (ap suc e))

one_here : (k : ℕ) (x : SettingTree) → x.register ≡ k → of_register k (x ∷ []) ≡ x ∷ []
one_here k x e = ap (λ (t : Bool). cond t (x ∷ []) []) (eq-eqb x.register k e)

one_there : (k : ℕ) (x : SettingTree) → (x.register ≡ k → ⊥) → of_register k (x ∷ []) ≡ []
one_there k x other = ap (λ (t : Bool). cond t (x ∷ []) []) (ne_eqb x.register k other)

-- where a setting is of no other register
none_there : (k : ℕ) (x : SettingTree) (xs : List SettingTree) → (x.register ≡ k → ⊥) → xs ≡ xs ++ of_register k (x ∷ [])
none_there k x xs other = sym (append-nil xs) ∙ sym (ap (λ l. xs ++ l) (one_there k x other))

pub put_at : (lists : List (Vec Setting Global)) (x : Setting) (old new : Vec Setting Global) (k : ℕ) → x.register < length lists → old ≡ get_or lists x.register old
    → map_list setting_of new.items ≡ map_list setting_of old.items ++ setting_of x ∷ [] → list_at (slice_set lists x.register new) k ≡ list_at lists k ++ of_register k (setting_of x ∷ [])
put_at lists x old new k l is e = elim (cases_eq x.register k) [
  | inl here ↦
      sym (ap (list_at (slice_set lists x.register new)) here) ∙ put_here lists x.register old new (setting_of x ∷ []) l is e ∙ ap (λ n. list_at lists n ++ setting_of x ∷ []) here
      ∙ sym (ap (λ xs. list_at lists k ++ xs) (one_here k (setting_of x) here))
  | inr other ↦ put_there lists x.register k new other ∙ none_there k (setting_of x) (list_at lists k) other
]

pub put_nowhere : (lists : List (Vec Setting Global)) (x : Setting) (k : ℕ) → length lists ≤ x.register → k < length lists → list_at lists k ≡ list_at lists k ++ of_register k (setting_of x ∷ [])
put_nowhere lists x k l h = none_there k (setting_of x) (list_at lists k) (λ e. omega arith)

-- ---- lists of nothing
pub none_more : (lists : List (Vec Setting Global)) (x : Vec Setting Global) (k : ℕ) → x.items ≡ [] → ((n : ℕ) → list_at lists n ≡ []) → list_at (lists ++ x ∷ []) k ≡ []
none_more [] x zero e h = ap (map_list setting_of) e
none_more [] x (suc k) e h = refl
none_more (y ∷ lists) x zero e h = h 0
none_more (y ∷ lists) x (suc k) e h = none_more lists x k e (λ n. h (suc n))

-- ---- one setting more
pub listed_more : (count : ℕ) (old new : List (Vec Setting Global)) (all : List Setting) (i : ℕ) (x : Setting) → i < length all → x ≡ get_or all i x → length new ≡ length old
    → ((k : ℕ) → k < length old → list_at new k ≡ list_at old k ++ of_register k (setting_of x ∷ [])) → AreListed count old (map_list setting_of (take i all)) → AreListed count new (map_list setting_of (take (i + 1) all))
listed_more count old new all i x l is same puts h = record {
  count_is = same ∙ h.count_is;
  each = λ k below.
      let before = map_list setting_of (take i all) in
      puts k (omega (arith, below, h.count_is)) ∙ ap (λ xs. xs ++ of_register k (setting_of x ∷ [])) (h.each k below)
      ∙ sym (filter-append (λ (y : SettingTree). y.register == k) before (setting_of x ∷ []))
      ∙ sym (ap (of_register k) (map_more setting_of all i x l ∙ ap (λ y. before ++ setting_of y ∷ []) (sym is)));
}

-- ---- what is added
pub block_added : (xs ys : List SettingTree) (p i e : ℕ) (more : StatementTrees Net) (whole : StatementTree Net) → i ≡ suc p → e ≡ all_behind i more → ys ≡ xs ++ all_settings i more → whole ≡ SBlock more
    → (suc e ≡ behind p whole) × (ys ≡ xs ++ settings p whole)
block_added xs ys p i e more whole first last sets is = (
  ap suc (last ∙ ap (λ n. all_behind n more) first) ∙ sym (ap (behind p) is),
  sets ∙ ap (λ n. xs ++ all_settings n more) first ∙ sym (ap (λ a. xs ++ settings p a) is),
)

pub if_added : (xs ys : List SettingTree) (p i e : ℕ) (c : Tree Net) (a whole : StatementTree Net) → i ≡ suc p → e ≡ behind i a → ys ≡ xs ++ settings i a → whole ≡ SIf c a
    → (suc e ≡ behind p whole) × (ys ≡ xs ++ settings p whole)
if_added xs ys p i e c a whole first last sets is = (
  ap suc (last ∙ ap (λ n. behind n a) first) ∙ sym (ap (behind p) is),
  sets ∙ ap (λ n. xs ++ settings n a) first ∙ sym (ap (λ x. xs ++ settings p x) is),
)

pub both_added : (xs ys zs : List SettingTree) (p i m o e : ℕ) (c : Tree Net) (a b whole : StatementTree Net) → i ≡ suc p → m ≡ behind i a → o ≡ suc m → e ≡ behind o b
    → ys ≡ xs ++ settings i a → zs ≡ ys ++ settings o b → whole ≡ SIfElse c a b → (suc e ≡ behind p whole) × (zs ≡ xs ++ settings p whole)
both_added xs ys zs p i m o e c a b whole first middle other last sets more is =
    let at : o ≡ suc (behind (suc p) a) = other ∙ ap suc (middle ∙ ap (λ n. behind n a) first) in (
      ap suc (last ∙ ap (λ n. behind n b) at) ∙ sym (ap (behind p) is),
      more ∙ ap (λ l. l ++ settings o b) (sets ∙ ap (λ n. xs ++ settings n a) first) ∙ ap (λ n. (xs ++ settings (suc p) a) ++ settings n b) at
          ∙ append_assoc xs (settings (suc p) a) (settings (suc (behind (suc p) a)) b) ∙ sym (ap (λ x. xs ++ settings p x) is),
    )

pub set_added : (xs ys : List SettingTree) (p r : ℕ) (e : Tree Net) (whole : StatementTree Net) → (let x : SettingTree = record { register = r; place = p; value = e } in ys ≡ xs ++ x ∷ []) → whole ≡ SSet r e
    → (p ≡ behind p whole) × (ys ≡ xs ++ settings p whole)
set_added xs ys p r e whole sets is = (sym (ap (behind p) is), sets ∙ sym (ap (λ x. xs ++ settings p x) is))

pub store_added : (xs : List SettingTree) (p m : ℕ) (i e : Tree Net) (whole : StatementTree Net) → whole ≡ SStore m i e → (p ≡ behind p whole) × (xs ≡ xs ++ settings p whole)
store_added xs p m i e whole is = (sym (ap (behind p) is), sym (append-nil xs) ∙ sym (ap (λ x. xs ++ settings p x) is))

-- ---- one statement more
pub then_added : (xs ys all : List SettingTree) (at next end : ℕ) (a : StatementTree Net) (left more : StatementTrees Net) → next ≡ behind at a → ys ≡ xs ++ settings at a → left ≡ SThen a more
    → all_behind at left ≡ end → xs ++ all_settings at left ≡ all → (all_behind next more ≡ end) × (ys ++ all_settings next more ≡ all)
then_added xs ys all at next end a left more is sets whole last h = (
  ap (λ n. all_behind n more) is ∙ sym (ap (all_behind at) whole) ∙ last,
  ap (λ l. l ++ all_settings next more) sets ∙ ap (λ n. (xs ++ settings at a) ++ all_settings n more) is ∙ append_assoc xs (settings at a) (all_settings (behind at a) more)
      ∙ sym (ap (λ l. xs ++ all_settings at l) whole) ∙ h,
)

-- ---- one always block more
pub block_step : (xs ys all : List SettingTree) (at end next : ℕ) (a : StatementTree Net) (left rest : List (StatementTree Net)) → end ≡ behind at a → next ≡ suc end → ys ≡ xs ++ settings at a → left ≡ a ∷ rest
    → xs ++ block_settings at left ≡ all → ys ++ block_settings next rest ≡ all
block_step xs ys all at end next a left rest last is sets whole h =
    ap (λ l. l ++ block_settings next rest) sets ∙ ap (λ n. (xs ++ settings at a) ++ block_settings n rest) (is ∙ ap suc last)
    ∙ append_assoc xs (settings at a) (block_settings (suc (behind at a)) rest) ∙ sym (ap (λ l. xs ++ block_settings at l) whole) ∙ h

-- ---- the list of a register
pub at_list : (lists : List (Vec Setting Global)) (k : ℕ) (l : Vec Setting Global) (xs : List Setting) → k < length lists → l ≡ get_or lists k l → xs ≡ l.items → map_list setting_of xs ≡ list_at lists k
at_list lists k l xs below is e = ap (map_list setting_of) (e ∙ ap (λ (o : Vec Setting Global). o.items) is) ∙ sym (get_or-map (λ (o : Vec Setting Global). map_list setting_of o.items) lists k l [] below)
