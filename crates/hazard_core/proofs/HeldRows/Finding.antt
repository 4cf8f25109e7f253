-- What a read may find: a slot that there is, or an entry that an earlier update of a hash is to make.
use Rattle.std.proofs.Common.{◌≡◌, ℕ, ◌<◌, ◌≤◌, inl, inr, Bool, true, false, cond, List, [], ◌∷◌, length, refl, sym, ap, ◌∙◌, subst, arith}
use Rattle.std.specs.Prelude.{if◌then◌else◌, nat_lt, ◌==◌, ◌&&◌, fold, filter}
use Rattle.std.specs.List.{list_all}
use Rattle.std.specs.Str.{bytes_eq}
use Rattle.std.proofs.lemmas.Bool.Decides.{nat_tests}
use Rattle.std.proofs.lemmas.Bool.{cases_lt, and_parts}
use Rattle.std.proofs.lemmas.List.{get_or_past}
use Rattle.xdp_maps.specs.declared.decl.MapDecl.{MapDecl}
use Rattle.xdp_maps.specs.declared.decl.MapKind.{MapKind}
use Rattle.xdp_maps.specs.declared.decl.MapKind.TheVariants.{Hash, Array}
use Rattle.cell_core.specs.declared.site.Act.{Act}
use Rattle.cell_core.specs.declared.site.Act.TheVariants as act
use Rattle.cell_core.specs.Sites.{SiteView, ProgramView, no_site, site_at, records}
use Rattle.cell_core.specs.Rows.{numbers}
use Rattle.hazard_core.specs.Tables.{TableState, decl_of, table_at, slot_of}
use Rattle.hazard_core.specs.declared.pointer.Pointer.{Pointer}
use Rattle.hazard_core.specs.declared.pointer.Pointer.TheVariants.{Null, InSlot, Pending}
use Rattle.hazard_core.specs.StageValues.{StageValues, is_null, is_update, pointer_in, found_cell, asked, asked_key, writes, slot_pointer, written_as, written_pointer, parts, is_pending, pending}
use Rattle.hazard_core.specs.Overlay.{found_as, found_over, key_pointer_as, key_pointer, looks, found_pointer}
use Rattle.hazard_core.specs.HeldRows.Pointing.{flag_at}
use Rattle.hazard_core.specs.HeldRows.Fits.{IsMadeBefore}

-- a pointer that a cell may hold which is flagged or is not
abbrev pub Points : ProgramView → List MapDecl → (ℕ → ℕ) → ℕ → ℕ → Bool → Pointer → Type 0
Points p decls row most r flag Null = Unit {0}
Points p decls row most r flag (InSlot n) = (flag ≡ true) × (n < most)
Points p decls row most r flag (Pending i) = (flag ≡ true) × IsMadeBefore p decls row r i

-- what holds of the first and is kept by each that passes
fold_keeps : {A B : Type 0} (P : B → Type 0) (f : B → A → B) (test : A → Bool) (xs : List A) (z : B) → P z → ((y : B) (x : A) → test x ≡ true → P y → P (f y x)) → P (fold f z (filter test xs))
fold_keeps P f test [] z h step = h
fold_keeps P f test (x ∷ xs) z h step = by (test x) refl (λ w q. fold_keeps P f test xs w q step)
  where
    by : (c : Bool) → test x ≡ c → ((w : _) → P w → P (fold f w (filter test xs))) → P (fold f z (cond c (x ∷ filter test xs) (filter test xs)))
    by true e more = more (f z x) (step z x e h)
    by false e more = more z h

module _ (p : ProgramView) (row : ℕ → ℕ) (flags : List Bool) (most r : ℕ) (t : TableState) (h : StageValues) where
  abbrev Fine : Bool → Pointer → Type 0
  Fine flag q = Points p t.decls row most r flag q

  pub raise : (a b : Bool) (q : Pointer) → (a ≡ true → b ≡ true) → Fine a q → Fine b q
  raise a b Null up f = tt
  raise a b (InSlot n) up f = (up f.0, f.1)
  raise a b (Pending i) up f = (up f.0, f.1)

  pub either : (flag b : Bool) (x y : Pointer) → Fine flag x → Fine flag y → Fine flag (if b then x else y)
  either flag true x y f g = f
  either flag false x y f g = g

  -- what the packet holds, and the tables
  module _ (held : (c : ℕ) → Fine (flag_at flags c) (pointer_in h c)) (room : (m : ℕ) → length (table_at t m) ≤ most) where
    in_table : (m : ℕ) (key : List ℕ) → Fine true (slot_pointer (table_at t m) key)
    in_table m key = by (nat_lt n (length (table_at t m))) refl
      where
        n : ℕ
        n = slot_of (table_at t m) key

        by : (b : Bool) → nat_lt n (length (table_at t m)) ≡ b → Fine true (if b then InSlot n else Null)
        by true e = let l : n < length (table_at t m) = grind (arith, nat_tests) in (refl, omega (arith, l, room m))
        by false e = tt

    -- an update before the read
    made : (j i : ℕ) → is_pending p row r j i ≡ true → (site_at p.sites i).act ≡ act.Update → (decl_of t.decls (site_at p.sites i).map).kind ≡ Hash → IsMadeBefore p t.decls row r i
    made j i e is kind =
        let s = site_at p.sites i in
        let q = and_parts ((s.map == (site_at p.sites j).map) && records s.act) (list_all (λ c. nat_lt (row c) r) (parts p i)) e in
        record {
          known = elim (cases_lt i (length p.sites)) [
            | inl l ↦ l
            | inr past ↦
                let none : is_update act.Update ≡ is_update act.Lookup = ap is_update (sym is ∙ ap (λ (z : SiteView). z.act) (get_or_past p.sites i no_site past)) in
                absurd (apart none)
          ];
          update = ap is_update is;
          hash = kind;
          rows = q.1;
        }
      where
        apart : true ≡ false → ⊥
        apart e = cc

    written : (j i : ℕ) → is_pending p row r j i ≡ true → (site_at p.sites i).act ≡ act.Update → (k : MapKind) → (decl_of t.decls (site_at p.sites i).map).kind ≡ k → Fine true (written_as act.Update k p t h i)
    written j i e is Hash kind =
        let found = pointer_in h (found_cell p.cells i) in
        either true (is_null found) (Pending i) found (refl, made j i e is kind) (raise (flag_at flags (found_cell p.cells i)) true found (λ f. refl) (held (found_cell p.cells i)))
    written j i e is Array kind = in_table (site_at p.sites i).map (asked_key t.decls h (site_at p.sites i))

    over : (j : ℕ) (key : List ℕ) (found : Pointer) (i : ℕ) → is_pending p row r j i ≡ true → Fine true found → Fine true (found_over p t h key found i)
    over j key found i e f = either true (writes p t.decls h i && bytes_eq (asked_key t.decls h s) key) (found_as s.act (written_pointer p t h i) found) found (by s.act refl) f
      where
        s : SiteView
        s = site_at p.sites i

        kind : MapKind
        kind = (decl_of t.decls s.map).kind

        by : (a : Act) → s.act ≡ a → Fine true (found_as a (written_as s.act kind p t h i) found)
        by act.Update is = subst (λ (a : Act). Fine true (written_as a kind p t h i)) (sym is) (written j i e is kind refl)
        by act.Delete is = tt
        by a is = f

    pub found_fine : (j : ℕ) → Fine true (found_pointer p t h (pending p row r j) j)
    found_fine j = either true (looks (asked t.decls h s)) (key_pointer p t h (pending p row r j) j) Null (by (decl_of t.decls s.map).kind) tt
      where
        s : SiteView
        s = site_at p.sites j

        key : List ℕ
        key = asked_key t.decls h s

        by : (k : MapKind) → Fine true (key_pointer_as k p t h (pending p row r j) s.map key)
        by Hash = fold_keeps (λ q. Fine true q) (found_over p t h key) (is_pending p row r j) (numbers 0 j) (slot_pointer (table_at t s.map) key) (in_table s.map key) (λ q i e f. over j key q i e f)
        by Array = in_table s.map key
