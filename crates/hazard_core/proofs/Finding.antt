-- What a packet on its path found, in the terms of its operations one after another.
use Rattle.std.proofs.Common.{◌≡◌, ℕ, zero, suc, ◌+◌, ◌<◌, ◌≤◌, inl, inr, Bool, true, false, List, [], ◌∷◌, ◌++◌, length, refl, sym, ap, ◌∙◌, subst, arith, cond}
use Rattle.std.specs.Prelude.{◌-◌, ◌&&◌, ◌||◌, ◌==◌, if◌then◌else◌, fold, count_by, map as map_list}
use Rattle.std.specs.List.{filter}
use Rattle.std.specs.Str.{bytes_eq}
use Rattle.std.proofs.lemmas.Bool.Decides.{Decides-eqb}
use Rattle.std.proofs.lemmas.Bool.{cases_lt}
use Rattle.std.proofs.lemmas.List.{length-map}
use Rattle.std.proofs.lemmas.List.Elements.{filter-append}
use Rattle.std.proofs.lemmas.List.Sums.{fold-append}
use Rattle.std.proofs.lemmas.Slice.Eq.{bytes_eq-Decides}
use Rattle.xdp_maps.specs.declared.decl.MapDecl.{MapDecl}
use Rattle.xdp_maps.specs.declared.decl.MapKind.{MapKind}
use Rattle.xdp_maps.specs.declared.decl.MapKind.TheVariants.{Hash, Array}
use Rattle.xdp_maps.specs.Contents.{IsBytes}
use Rattle.cell_core.specs.declared.site.Act.{Act}
use Rattle.cell_core.specs.declared.site.Act.TheVariants as act
use Rattle.cell_core.specs.Cells.{bit}
use Rattle.cell_core.specs.Sites.{ProgramView, site_at, records, operation_with}
use Rattle.cell_core.specs.Formed.{AllFit}
use Rattle.cell_core.specs.Rows.{numbers}
use Rattle.cell_core.proofs.NumberLaws.{numbers_more}
use Rattle.cell_core.proofs.SpelledLaws.{bytes_are}
use Rattle.hazard_core.specs.Tables.{TableState, decl_of, table_at}
use Rattle.hazard_core.specs.StageValues.{Pointer, Null, same_pointer, is_null, StageValues, stage_value, pointer_in, guard_on, asked, asked_key, access_pointer, found_cell, is_update, is_delete, writes_as, writes, adds_key, takes_key, slot_pointer, written_as, written_pointer, answer_cell}
use Rattle.hazard_core.specs.Overlay.{found_as, found_over, key_pointer_as, key_pointer, looks, value_as, value_over, entry_value}
use Rattle.hazard_core.specs.Replay.{earlier, IsAccess, HoldsReads, asks}
use Rattle.hazard_core.proofs.Effects.{key_at, value_at, adds_at, takes_at, map_of, key_of}
use Rattle.hazard_core.proofs.ActsLaws.{key_is}

-- ---- keys have the declared length

pub asked_bytes : (p : ProgramView) (decls : List MapDecl) (h : StageValues) (j : ℕ) → AllFit decls p.sites → j < length p.sites → IsBytes (decl_of decls (site_at p.sites j).map).key (asked_key decls h (site_at p.sites j))
asked_bytes p decls h j fit l =
    let s = site_at p.sites j in
    let d = decl_of decls s.map in
    subst (IsBytes d.key) (sym (key_is d s.act (map_list (stage_value h) s.key) (map_list (stage_value h) s.operands)))
    (bytes_are d.key (map_list (stage_value h) s.key) (let k = (fit j l).key in omega (arith, k, length-map s.key (stage_value h))))

-- ---- folds over the earlier operations

folded : {B : Type 0} (step : B → ℕ → B) (keep : ℕ → Bool) (rec : ℕ → B) → ((i : ℕ) → rec (suc i) ≡ (if keep i then step (rec i) i else rec i)) → (j : ℕ) → fold step (rec 0) (filter keep (numbers 0 j)) ≡ rec j
folded step keep rec next zero = refl
folded step keep rec next (suc j) =
    let more : numbers 0 (suc j) ≡ numbers 0 j ++ j ∷ [] = numbers_more 0 j ∙ ap (λ k. numbers 0 j ++ k ∷ []) (omega arith) in
    ap (λ l. fold step (rec 0) (filter keep l)) more ∙ ap (fold step (rec 0)) (filter-append keep (numbers 0 j) (j ∷ []))
    ∙ fold-append step (rec 0) (filter keep (numbers 0 j)) (filter keep (j ∷ [])) ∙ ap (λ x. fold step x (filter keep (j ∷ []))) (folded step keep rec next j) ∙ one (keep j) ∙ sym (next j)
  where
    one : (c : Bool) → fold step (rec j) (cond c (j ∷ []) []) ≡ (if c then step (rec j) j else rec j)
    one true = refl
    one false = refl

unrecorded : (a : Act) (k : MapKind) (n : ℕ) → records a ≡ false → writes_as a k n ≡ false
unrecorded act.Lookup k n e = refl
unrecorded (act.Load at size) k n e = refl
unrecorded act.Update k n e = cc
unrecorded act.Delete k n e = cc
unrecorded (act.Store at size) k n e = cc
unrecorded (act.Atomic at a) k n e = cc

module _ (p : ProgramView) (t : TableState) (h : StageValues) where
  unwritten : (i : ℕ) → records (site_at p.sites i).act ≡ false → writes p t.decls h i ≡ false
  unwritten i e =
      let s = site_at p.sites i in
      ap (λ c. guard_on h s && c) (unrecorded s.act (decl_of t.decls s.map).kind (stage_value h (answer_cell p.cells i)) e) ∙ no (guard_on h s)
    where
      no : (c : Bool) → c && false ≡ false
      no true = refl
      no false = refl

  pub found_idle : (key : List ℕ) (x : Pointer) (i : ℕ) → writes p t.decls h i ≡ false → found_over p t h key x i ≡ x
  found_idle key x i e = ap (λ (c : Bool). if c && bytes_eq (asked_key t.decls h (site_at p.sites i)) key then found_as (site_at p.sites i).act (written_pointer p t h i) x else x) e

  pub value_idle : (u : Pointer) (x : List ℕ) (i : ℕ) → writes p t.decls h i ≡ false → value_over p t h u x i ≡ x
  value_idle u x i e = ap (λ (c : Bool). if c && same_pointer (written_pointer p t h i) u then value_as (asked t.decls h (site_at p.sites i)) x else x) e

  -- what is kept of the earlier sites
  keep : ℕ → ℕ → Bool
  keep m i = ((site_at p.sites i).map == m) && records (site_at p.sites i).act

  kept_step : {B : Type 0} (step : B → ℕ → B) (x : B) (m i : ℕ) → (writes p t.decls h i ≡ false → step x i ≡ x) → (if (site_at p.sites i).map == m then step x i else x) ≡ (if ((site_at p.sites i).map == m) && records (site_at p.sites i).act then step x i else x)
  kept_step step x m i idle = by ((site_at p.sites i).map == m) (records (site_at p.sites i).act) refl
    where
      by : (c d : Bool) → records (site_at p.sites i).act ≡ d → (if c then step x i else x) ≡ (if c && d then step x i else x)
      by true true e = refl
      by true false e = idle (unwritten i e)
      by false d e = refl

  pub keys_fold : (m : ℕ) (key : List ℕ) (j : ℕ) → fold (found_over p t h key) (slot_pointer (table_at t m) key) (filter (λ i. ((site_at p.sites i).map == m) && records (site_at p.sites i).act) (numbers 0 j)) ≡ key_at p t h m key j
  keys_fold m key j = folded (found_over p t h key) (λ i. ((site_at p.sites i).map == m) && records (site_at p.sites i).act) (key_at p t h m key)
      (λ i. kept_step (found_over p t h key) (key_at p t h m key i) m i (found_idle key (key_at p t h m key i) i)) j

  pub values_fold : (m : ℕ) (u : Pointer) (j : ℕ) → entry_value p t h (filter (λ i. ((site_at p.sites i).map == m) && records (site_at p.sites i).act) (numbers 0 j)) m u ≡ value_at p t h m u j
  values_fold m u j = folded (value_over p t h u) (λ i. ((site_at p.sites i).map == m) && records (site_at p.sites i).act) (value_at p t h m u)
      (λ i. kept_step (value_over p t h u) (value_at p t h m u i) m i (value_idle u (value_at p t h m u i) i)) j

  counts : (test : ℕ → Bool) (rec : ℕ → ℕ) (m : ℕ) → rec 0 ≡ 0 → ((i : ℕ) → rec (suc i) ≡ rec i + (if (site_at p.sites i).map == m then bit (test i) else 0)) → ((i : ℕ) → writes p t.decls h i ≡ false → test i ≡ false) → (j : ℕ) →
      count_by test (filter (λ i. ((site_at p.sites i).map == m) && records (site_at p.sites i).act) (numbers 0 j)) ≡ rec j
  counts test rec m none next idle j =
      ap (λ z. fold (λ n i. n + cond (test i) 1 0) z (filter (λ i. ((site_at p.sites i).map == m) && records (site_at p.sites i).act) (numbers 0 j))) (sym none)
      ∙ folded (λ n i. n + cond (test i) 1 0) (λ i. ((site_at p.sites i).map == m) && records (site_at p.sites i).act) rec
      (λ i. next i ∙ by i ((site_at p.sites i).map == m) ∙ kept_step (λ n i. n + cond (test i) 1 0) (rec i) m i (λ e. ap (λ c. rec i + cond c 1 0) (idle i e) ∙ omega arith)) j
    where
      by : (i : ℕ) (c : Bool) → rec i + (if c then bit (test i) else 0) ≡ (if c then rec i + cond (test i) 1 0 else rec i)
      by i true = refl
      by i false = omega arith

  pub adds_fold : (m j : ℕ) → count_by (adds_key p t.decls h) (filter (λ i. ((site_at p.sites i).map == m) && records (site_at p.sites i).act) (numbers 0 j)) ≡ adds_at p t h m j
  adds_fold m j = counts (adds_key p t.decls h) (adds_at p t h m) m refl (λ i. refl) (λ i e. ap (λ c. c && is_update (site_at p.sites i).act && is_null (pointer_in h (found_cell p.cells i))) e) j

  pub takes_fold : (m j : ℕ) → count_by (takes_key p t.decls h) (filter (λ i. ((site_at p.sites i).map == m) && records (site_at p.sites i).act) (numbers 0 j)) ≡ takes_at p t h m j
  takes_fold m j = counts (takes_key p t.decls h) (takes_at p t h m) m refl (λ i. refl) (λ i e. ap (λ c. c && is_delete (site_at p.sites i).act) e) j

  -- the keys of an array stay where they are
  pub array_key : (m : ℕ) (key : List ℕ) (j : ℕ) → (decl_of t.decls m).kind ≡ Array → key_at p t h m key j ≡ slot_pointer (table_at t m) key
  array_key m key zero kind = refl
  array_key m key (suc j) kind = by ((site_at p.sites j).map == m) refl (array_key m key j kind)
    where
      acts : (a : Act) → a ≡ (site_at p.sites j).act → (site_at p.sites j).map ≡ m → asked_key t.decls h (site_at p.sites j) ≡ key → writes p t.decls h j ≡ true → key_at p t h m key j ≡ slot_pointer (table_at t m) key → found_as a (written_as a Array p t h j) (key_at p t h m key j) ≡ slot_pointer (table_at t m) key
      acts act.Update is here same w more = ap (λ k. slot_pointer (table_at t k) (asked_key t.decls h (site_at p.sites j))) here ∙ ap (slot_pointer (table_at t m)) same
      acts act.Delete is here same w more = absurd (no_delete (guard_on h (site_at p.sites j)) (subst (λ (a : Act). guard_on h (site_at p.sites j) && writes_as a Array (stage_value h (answer_cell p.cells j)) ≡ true) (sym is) (subst (λ k. guard_on h (site_at p.sites j) && writes_as (site_at p.sites j).act k (stage_value h (answer_cell p.cells j)) ≡ true) (ap (λ n. (decl_of t.decls n).kind) here ∙ kind) w)))
        where
          no_delete : (c : Bool) → c && false ≡ true → ⊥
          no_delete true e = cc
          no_delete false e = cc
      acts act.Lookup is here same w more = more
      acts (act.Load at size) is here same w more = more
      acts (act.Store at size) is here same w more = more
      acts (act.Atomic at a) is here same w more = more

      two : (c d : Bool) → writes p t.decls h j ≡ c → bytes_eq (asked_key t.decls h (site_at p.sites j)) key ≡ d → (site_at p.sites j).map ≡ m → key_at p t h m key j ≡ slot_pointer (table_at t m) key →
          (if c && d then found_as (site_at p.sites j).act (written_pointer p t h j) (key_at p t h m key j) else key_at p t h m key j) ≡ slot_pointer (table_at t m) key
      two true true w q here more =
          ap (λ k. found_as (site_at p.sites j).act (written_as (site_at p.sites j).act k p t h j) (key_at p t h m key j)) (ap (λ n. (decl_of t.decls n).kind) here ∙ kind)
          ∙ acts (site_at p.sites j).act refl here ((bytes_eq-Decides (asked_key t.decls h (site_at p.sites j)) key).0 q) w more
      two true false w q here more = more
      two false d w q here more = more

      by : (c : Bool) → ((site_at p.sites j).map == m) ≡ c → key_at p t h m key j ≡ slot_pointer (table_at t m) key → (if c then found_over p t h key (key_at p t h m key j) j else key_at p t h m key j) ≡ slot_pointer (table_at t m) key
      by true e more = two (writes p t.decls h j) (bytes_eq (asked_key t.decls h (site_at p.sites j)) key) refl refl ((Decides-eqb (site_at p.sites j).map m).0 e) more
      by false e more = more

  -- ---- the own key

  pub key_found : (j : ℕ) → key_pointer p t h (earlier p j) j ≡ key_at p t h (map_of p t h j) (key_of p t h j) j
  key_found j = by (decl_of t.decls (site_at p.sites j).map).kind refl
    where
      by : (k : MapKind) → (decl_of t.decls (site_at p.sites j).map).kind ≡ k → key_pointer p t h (earlier p j) j ≡ key_at p t h (map_of p t h j) (key_of p t h j) j
      by Hash kind = subst (λ k. key_pointer_by k ≡ key_at p t h (map_of p t h j) (key_of p t h j) j) (sym kind) (keys_fold (map_of p t h j) (key_of p t h j) j)
        where
          key_pointer_by : MapKind → Pointer
          key_pointer_by k = key_pointer_as k p t h (earlier p j) (site_at p.sites j).map (asked_key t.decls h (site_at p.sites j))
      by Array kind = subst (λ k. key_pointer_as k p t h (earlier p j) (site_at p.sites j).map (asked_key t.decls h (site_at p.sites j)) ≡ key_at p t h (map_of p t h j) (key_of p t h j) j) (sym kind) (sym (array_key (map_of p t h j) (key_of p t h j) j kind))

  pub found_key : HoldsReads p t h → (j : ℕ) → j < length p.sites → guard_on h (site_at p.sites j) ≡ true → asks (site_at p.sites j).act (decl_of t.decls (site_at p.sites j).map).kind ≡ true → looks (asked t.decls h (site_at p.sites j)) ≡ true →
      pointer_in h (found_cell p.cells j) ≡ key_at p t h (map_of p t h j) (key_of p t h j) j
  found_key r j l g a looked = r.found j l g a ∙ ap (λ (c : Bool). if c then key_pointer p t h (earlier p j) j else Null) looked ∙ key_found j

  -- ---- accesses

  -- from a lookup on, a key stays where it is while none of the packet's operations brings or takes one
  stays_found : (m : ℕ) (key : List ℕ) (from n : ℕ) → ((i : ℕ) → from ≤ i → i < from + n → (site_at p.sites i).map ≡ m → writes p t.decls h i ≡ true → is_update (site_at p.sites i).act || is_delete (site_at p.sites i).act ≡ false) →
      key_at p t h m key (from + n) ≡ key_at p t h m key from
  stays_found m key from zero quiet = ap (key_at p t h m key) (omega arith)
  stays_found m key from (suc n) quiet =
      let e : from + suc n ≡ suc (from + n) = omega arith in
      ap (key_at p t h m key) e ∙ by ((site_at p.sites (from + n)).map == m) refl ∙ stays_found m key from n (λ i a b same w. quiet i a (omega (arith, b)) same w)
    where
      i : ℕ
      i = from + n

      same_found : (a : Act) → is_update a || is_delete a ≡ false → (w x : Pointer) → found_as a w x ≡ x
      same_found act.Update e w x = cc
      same_found act.Delete e w x = cc
      same_found act.Lookup e w x = refl
      same_found (act.Load at size) e w x = refl
      same_found (act.Store at size) e w x = refl
      same_found (act.Atomic at a) e w x = refl

      two : (c d : Bool) → writes p t.decls h (from + n) ≡ c → (site_at p.sites (from + n)).map ≡ m →
          (if c && d then found_as (site_at p.sites (from + n)).act (written_pointer p t h (from + n)) (key_at p t h m key (from + n)) else key_at p t h m key (from + n)) ≡ key_at p t h m key (from + n)
      two true true w here = same_found (site_at p.sites (from + n)).act (quiet (from + n) (omega arith) (omega arith) here w) (written_pointer p t h (from + n)) (key_at p t h m key (from + n))
      two true false w here = refl
      two false d w here = refl

      by : (c : Bool) → ((site_at p.sites (from + n)).map == m) ≡ c → (if c then found_over p t h key (key_at p t h m key (from + n)) (from + n) else key_at p t h m key (from + n)) ≡ key_at p t h m key (from + n)
      by true e = two (writes p t.decls h (from + n)) (bytes_eq (asked_key t.decls h (site_at p.sites (from + n))) key) refl ((Decides-eqb (site_at p.sites (from + n)).map m).0 e)
      by false e = refl

  pub record Reaches (j : ℕ) : Type 0 where
    pub at : access_pointer h (site_at p.sites j) ≡ key_at p t h (map_of p t h j) (key_of p t h j) j
    pub some : is_null (access_pointer h (site_at p.sites j)) ≡ false

  pub reaches : HoldsReads p t h → (j : ℕ) → j < length p.sites → IsAccess p t.decls h j → Reaches j
  reaches r j l a = record {
    at = a.pointer ∙ at_lookup ∙ ap (λ m. key_at p t h m (key_of p t h i) i) a.map ∙ ap (λ k. key_at p t h (map_of p t h j) k i) a.key ∙ sym (stay (decl_of t.decls (map_of p t h j)).kind refl);
    some = ap is_null a.pointer ∙ not_null (is_null (pointer_in h (found_cell p.cells i))) refl;
  }
    where
      i : ℕ
      i = a.lookup

      asks_it : asks (site_at p.sites a.lookup).act (decl_of t.decls (site_at p.sites a.lookup).map).kind ≡ true
      asks_it = ap (λ (b : Act). asks b (decl_of t.decls (site_at p.sites a.lookup).map).kind) a.looks_up

      in_range : a.lookup < length p.sites
      in_range = let b = a.before in omega (arith, b, l)

      looks_it : looks (asked t.decls h (site_at p.sites a.lookup)) ≡ true
      looks_it =
          let s = site_at p.sites a.lookup in
          ap (λ (b : Act). looks (operation_with (decl_of t.decls s.map) b (map_list (stage_value h) s.key) (map_list (stage_value h) s.operands))) a.looks_up

      at_lookup : pointer_in h (found_cell p.cells a.lookup) ≡ key_at p t h (map_of p t h a.lookup) (key_of p t h a.lookup) a.lookup
      at_lookup = found_key r a.lookup in_range a.guard asks_it looks_it

      not_null : (c : Bool) → is_null (pointer_in h (found_cell p.cells a.lookup)) ≡ c → c ≡ false
      not_null false e = refl
      not_null true e = absurd (no (sym a.some ∙ r.absent a.lookup in_range a.guard asks_it e))
        where
          no : true ≡ false → ⊥
          no e = cc

      no_lookup : writes p t.decls h a.lookup ≡ false
      no_lookup = unwritten a.lookup (ap records a.looks_up)

      quiet : (decl_of t.decls (map_of p t h j)).kind ≡ Hash → (k : ℕ) → a.lookup ≤ k → k < j → (site_at p.sites k).map ≡ map_of p t h j → writes p t.decls h k ≡ true → is_update (site_at p.sites k).act || is_delete (site_at p.sites k).act ≡ false
      quiet hash k from below same w = elim (cases_lt a.lookup k) [
        | inl past ↦ a.between k past below same hash w
        | inr low ↦ let e : k ≡ a.lookup = omega (arith, from, low) in absurd (no_write (sym (ap (writes p t.decls h) e ∙ no_lookup) ∙ w))
      ]
        where
          no_write : false ≡ true → ⊥
          no_write e = cc

      stay : (k : MapKind) → (decl_of t.decls (map_of p t h j)).kind ≡ k → key_at p t h (map_of p t h j) (key_of p t h j) j ≡ key_at p t h (map_of p t h j) (key_of p t h j) a.lookup
      stay Array kind = array_key (map_of p t h j) (key_of p t h j) j kind ∙ sym (array_key (map_of p t h j) (key_of p t h j) a.lookup kind)
      stay Hash kind =
          let b = a.before in
          let n : ℕ = j - a.lookup in
          let e : a.lookup + n ≡ j = omega (arith, b) in
          ap (key_at p t h (map_of p t h j) (key_of p t h j)) (sym e) ∙ stays_found (map_of p t h j) (key_of p t h j) a.lookup n (λ k from below same w. quiet kind k from (omega (arith, below, e)) same w)
