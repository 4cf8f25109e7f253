-- A read that has all earlier operations after it.
use Rattle.std.proofs.Common.{◌≡◌, ℕ, zero, suc, ◌+◌, ◌<◌, ◌≤◌, Bool, true, false, List, [], ◌∷◌, ◌++◌, refl, sym, ap, ◌∙◌, arith, not, cond}
use Rattle.std.specs.Prelude.{◌&&◌, ◌==◌, if◌then◌else◌, nat_lt, fold, count_by}
use Rattle.std.specs.List.{filter, list_all}
use Rattle.std.specs.Int.{w64, cast_unsigned}
use Rattle.std.proofs.lemmas.Bool.Decides.{Decides-eqb}
use Rattle.std.proofs.lemmas.List.Elements.{filter-append}
use Rattle.std.proofs.lemmas.List.Sums.{fold-append}
use Rattle.xdp_maps.specs.declared.decl.MapKind.{MapKind}
use Rattle.xdp_maps.specs.declared.decl.MapKind.TheVariants.{Hash, Array}
use Rattle.xdp_maps.specs.Calls.{number_at as changed_at}
use Rattle.xdp_maps.specs.Operations as map
use Rattle.xdp_maps.specs.Operations.{Operation}
use Rattle.cell_core.specs.xdp_machine.Memory.{number_at}
use Rattle.cell_core.specs.declared.site.Act.{Act}
use Rattle.cell_core.specs.declared.site.Act.TheVariants as act
use Rattle.cell_core.specs.Cells.{bit}
use Rattle.cell_core.specs.Sites.{ProgramView, site_at, records}
use Rattle.cell_core.specs.Rows.{numbers}
use Rattle.cell_core.proofs.NumberLaws.{numbers_more}
use Rattle.hazard_core.specs.Tables.{TableState, decl_of, table_at, used_count}
use Rattle.hazard_core.specs.StageValues.{Pointer, Null, is_null, StageValues, asked, asked_key, access_pointer, pointer_in, found_cell, is_update, is_delete, writes, adds_key, takes_key, slot_pointer, parts, is_pending, pending}
use Rattle.hazard_core.specs.Overlay.{found_over, key_pointer_as, key_pointer, looks, found_pointer, value_over, value_under, entry_value, update_answer, delete_answer, where_some, answer_as, answer_over}
use Rattle.hazard_core.specs.Replay.{earlier, SeesEarlier}
use Rattle.hazard_core.proofs.Finding.{found_idle, value_idle}

-- folds over what passes one test and another, of which each number that passes but one does nothing
fold_alike : {B : Type 0} (step : B → ℕ → B) (a : B) (k l : ℕ → Bool) (j : ℕ) → ((x : B) (i : ℕ) → i < j → fold step x (filter k (i ∷ [])) ≡ fold step x (filter l (i ∷ []))) → (n : ℕ) → n ≤ j →
    fold step a (filter k (numbers 0 n)) ≡ fold step a (filter l (numbers 0 n))
fold_alike step a k l j same zero le = refl
fold_alike step a k l j same (suc n) le =
    let more : numbers 0 (suc n) ≡ numbers 0 n ++ n ∷ [] = numbers_more 0 n ∙ ap (λ m. numbers 0 n ++ m ∷ []) (omega arith) in
    let split : (q : ℕ → Bool) → fold step a (filter q (numbers 0 (suc n))) ≡ fold step (fold step a (filter q (numbers 0 n))) (filter q (n ∷ [])) =
    λ q. ap (λ xs. fold step a (filter q xs)) more ∙ ap (fold step a) (filter-append q (numbers 0 n) (n ∷ [])) ∙ fold-append step a (filter q (numbers 0 n)) (filter q (n ∷ [])) in
    split k ∙ ap (λ x. fold step x (filter k (n ∷ []))) (fold_alike step a k l j same n (omega (arith, le))) ∙ same (fold step a (filter l (numbers 0 n))) n (omega (arith, le)) ∙ sym (split l)

module _ (p : ProgramView) (row : ℕ → ℕ) (r j : ℕ) (t : TableState) (h : StageValues) (sees : (i : ℕ) → i < j → (site_at p.sites i).map ≡ (site_at p.sites j).map → writes p t.decls h i ≡ true → list_all (λ c. nat_lt (row c) r) (parts p i) ≡ true) where
  folds : (B : Type 0) (step : B → ℕ → B) (a : B) → ((x : B) (i : ℕ) → writes p t.decls h i ≡ false → step x i ≡ x) → fold step a (pending p row r j) ≡ fold step a (earlier p j)
  folds B step a idle = fold_alike step a (is_pending p row r j) (λ i. ((site_at p.sites i).map == (site_at p.sites j).map) && records (site_at p.sites i).act) j
      (λ x i l. by x i l ((site_at p.sites i).map == (site_at p.sites j).map) (records (site_at p.sites i).act) (list_all (λ c. nat_lt (row c) r) (parts p i)) (writes p t.decls h i) refl refl refl) j (omega arith)
    where
      by : (x : B) (i : ℕ) → i < j → (c d e w : Bool) → ((site_at p.sites i).map == (site_at p.sites j).map) ≡ c → list_all (λ c. nat_lt (row c) r) (parts p i) ≡ e → writes p t.decls h i ≡ w →
          fold step x (cond (c && d && e) (i ∷ []) []) ≡ fold step x (cond (c && d) (i ∷ []) [])
      by x i l true true true w m q o = refl
      by x i l true true false true m q o = absurd (no (sym q ∙ sees i l ((Decides-eqb (site_at p.sites i).map (site_at p.sites j).map).0 m) o))
        where
          no : false ≡ true → ⊥
          no e = cc
      by x i l true true false false m q o = sym (idle x i o)
      by x i l true false e w m q o = refl
      by x i l false d e w m q o = refl

  key_seen : key_pointer p t h (pending p row r j) j ≡ key_pointer p t h (earlier p j) j
  key_seen = by (decl_of t.decls (site_at p.sites j).map).kind
    where
      by : (k : MapKind) → key_pointer_as k p t h (pending p row r j) (site_at p.sites j).map (asked_key t.decls h (site_at p.sites j)) ≡ key_pointer_as k p t h (earlier p j) (site_at p.sites j).map (asked_key t.decls h (site_at p.sites j))
      by Hash = let key = asked_key t.decls h (site_at p.sites j) in folds Pointer (found_over p t h key) (slot_pointer (table_at t (site_at p.sites j).map) key) (λ x i o. found_idle p t h key x i o)
      by Array = refl

  counts_seen : (test : ℕ → Bool) → ((i : ℕ) → writes p t.decls h i ≡ false → test i ≡ false) → count_by test (pending p row r j) ≡ count_by test (earlier p j)
  counts_seen test idle = folds ℕ (λ n i. n + cond (test i) 1 0) 0 (λ x i o. ap (λ c. x + cond c 1 0) (idle i o) ∙ omega arith)

  entry_seen : (m : ℕ) (u : Pointer) → entry_value p t h (pending p row r j) m u ≡ entry_value p t h (earlier p j) m u
  entry_seen m u = folds (List ℕ) (value_over p t h u) (value_under (decl_of t.decls m) (table_at t m) u) (λ x i o. value_idle p t h u x i o)

  found_seen : found_pointer p t h (pending p row r j) j ≡ found_pointer p t h (earlier p j) j
  found_seen = ap (λ (q : Pointer). if looks (asked t.decls h (site_at p.sites j)) then q else Null) key_seen

  answer_seen : answer_over p t h (pending p row r j) j ≡ answer_over p t h (earlier p j) j
  answer_seen = by (site_at p.sites j).act (asked t.decls h (site_at p.sites j))
    where
      before : List ℕ
      before = pending p row r j

      present : bit (not (is_null (key_pointer p t h (pending p row r j) j))) ≡ bit (not (is_null (key_pointer p t h (earlier p j) j)))
      present = ap (λ (q : Pointer). bit (not (is_null q))) key_seen

      by : (a : Act) (op : Operation) → answer_as a op p t h (pending p row r j) j ≡ answer_as a op p t h (earlier p j) j
      by (act.Load at size) op = ap (λ (bytes : List ℕ). where_some (access_pointer h (site_at p.sites j)) (number_at size at bytes)) (entry_seen (site_at p.sites j).map (access_pointer h (site_at p.sites j)))
      by (act.Atomic at a) op = ap (λ (bytes : List ℕ). where_some (access_pointer h (site_at p.sites j)) (changed_at a.wide at bytes)) (entry_seen (site_at p.sites j).map (access_pointer h (site_at p.sites j)))
      by act.Update (map.Update k v f) =
          let s = site_at p.sites j in
          let d = decl_of t.decls s.map in
          let used = used_count (table_at t s.map) in
          let adds = counts_seen (adds_key p t.decls h) (λ i o. ap (λ c. c && is_update (site_at p.sites i).act && is_null (pointer_in h (found_cell p.cells i))) o) in
          let takes = counts_seen (takes_key p t.decls h) (λ i o. ap (λ c. c && is_delete (site_at p.sites i).act) o) in
          ap (λ (n : ℕ). cast_unsigned w64 (update_answer d.kind d (used + n) (count_by (takes_key p t.decls h) (pending p row r j)) (not (is_null (key_pointer p t h (pending p row r j) j))) k f)) adds
          ∙ ap (λ (n : ℕ). cast_unsigned w64 (update_answer d.kind d (used + count_by (adds_key p t.decls h) (earlier p j)) n (not (is_null (key_pointer p t h (pending p row r j) j))) k f)) takes
          ∙ ap (λ (q : Pointer). cast_unsigned w64 (update_answer d.kind d (used + count_by (adds_key p t.decls h) (earlier p j)) (count_by (takes_key p t.decls h) (earlier p j)) (not (is_null q)) k f)) key_seen
      by act.Update op = present
      by act.Delete op = ap (λ (q : Pointer). cast_unsigned w64 (delete_answer (decl_of t.decls (site_at p.sites j).map).kind (not (is_null q)))) key_seen
      by act.Lookup op = present
      by (act.Store at size) op = present

pub sees_earlier : SeesEarlier
sees_earlier p row r j t h sees = (found_seen p row r j t h sees, answer_seen p row r j t h sees)
