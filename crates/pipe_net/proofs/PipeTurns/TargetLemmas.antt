-- An update of a hash is among those whose slots are kept, and a pointer to an entry that is still to be made is to such a one.
use Rattle.std.specs.Prelude.{◌≡◌, ◌≢◌, ℕ, zero, suc, ◌+◌, ◌<◌, ◌≤◌, if◌then◌else◌, Bool, true, false, All, List, [], ◌∷◌, length, filter, map, Contains}
use Rattle.std.proofs.Common.{get_or, refl, sym, ap, ◌∙◌, subst, arith, inl, inr}
use Rattle.std.proofs.lemmas.Bool.{cases_eq}
use Rattle.std.proofs.lemmas.List.Elements.{All-head, All-tail}
use Rattle.hazard_core.specs.xdp_maps.declared.decl.MapDecl.{MapDecl}
use Rattle.hazard_core.specs.xdp_maps.declared.decl.MapKind.{MapKind}
use Rattle.hazard_core.specs.xdp_maps.declared.decl.MapKind.TheVariants.{Hash, Array}
use Rattle.hazard_core.specs.cell_core.declared.site.Act.{Act}
use Rattle.hazard_core.specs.cell_core.declared.site.Act.TheVariants as act
use Rattle.hazard_core.specs.cell_core.Rows.{numbers}
use Rattle.hazard_core.specs.cell_core.Sites.{ProgramView, site_at, records}
use Rattle.hazard_core.specs.Tables.{TableState, decl_of, table_at, slot_of}
use Rattle.hazard_core.specs.declared.pointer.Pointer.{Pointer}
use Rattle.hazard_core.specs.declared.pointer.Pointer.TheVariants.{Null, InSlot, Pending}
use Rattle.hazard_core.specs.StageValues.{StageValues, pointer_in, found_cell, is_update, asked_key, pointer_operand, update_pointer, written_as, written_pointer}
use Rattle.hazard_core.specs.HeldRows.Fits.{IsMadeBefore, FitsRows}
use Rattle.read_net.specs.overlay_net.Reading.{IsSite}
use Rattle.commit_net.specs.declared.target.TakenSlot.{TakenSlot}
use Rattle.commit_net.specs.Targets.{IsAmong}
use Rattle.turn_net.specs.declared.nets.RecordNets.{RecordNets}
use Rattle.turn_net.specs.Actions.{record_sites}
use Rattle.turn_net.specs.Nets.{sites_of, keeps_slot, keeps, kept}
use Rattle.pipe_net.specs.declared.parts.Part.{Part}
use Rattle.block_core.specs.declared.name.Name.{Name}
use Rattle.pipe_net.specs.Layout.{Layout}
use Rattle.pipe_net.specs.PipeTurns.Maps.{taken_from}

-- ---- what is in a list
here : {X : Type 0} (x : X) (xs : List X) → Contains (x ∷ xs) x
here x xs = (0, omega arith, refl)

later : {X : Type 0} (x y : X) (xs : List X) → Contains xs x → Contains (y ∷ xs) x
later x y xs h = (suc h.0, (let lt = h.1 in omega (arith, lt)), h.2)

in_numbers : (from n k : ℕ) → from ≤ k → k < from + n → Contains (numbers from n) k
in_numbers from zero k h lt = absurd (omega arith)
in_numbers from (suc n) k h lt = elim (cases_eq k from) [
  | inl e ↦ subst (λ j. Contains (j ∷ numbers (suc from) n) k) e (here k (numbers (suc from) n))
  | inr o ↦ later k from (numbers (suc from) n) (in_numbers (suc from) n k (omega arith) (omega arith))
]

kept_if : {X : Type 0} (b : Bool) (x y : X) (xs : List X) → Contains xs x → Contains (if b then y ∷ xs else xs) x
kept_if true x y xs h = later x y xs h
kept_if false x y xs h = h

in_filter : {X : Type 0} (q : X → Bool) (xs : List X) (k : ℕ) (x : X) → k < length xs → get_or xs k x ≡ x → q x ≡ true → Contains (filter q xs) x
in_filter q [] k x lt e t = absurd (omega arith)
in_filter q (y ∷ ys) zero x lt e t =
    subst (λ a. Contains (if q a then a ∷ filter q ys else filter q ys) x) (sym e) (subst (λ b. Contains (if b then x ∷ filter q ys else filter q ys) x) (sym t) (here x (filter q ys)))
in_filter q (y ∷ ys) (suc k) x lt e t = kept_if (q y) x y (filter q ys) (in_filter q ys k x (omega arith) e t)

update_records : (a : Act) → is_update a ≡ true → records a ≡ true
update_records act.Update e = refl
update_records act.Lookup e = absurd (no e)
  where
    no : false ≡ true → ⊥
    no z = cc
update_records act.Delete e = refl
update_records (act.Store at size) e = refl
update_records (act.Atomic at a) e = refl
update_records (act.Load at size) e = absurd (no e)
  where
    no : false ≡ true → ⊥
    no z = cc

update_kept : (a : Act) (kind : MapKind) → is_update a ≡ true → kind ≡ Hash → keeps_slot a kind ≡ true
update_kept act.Update kind e k = ap (keeps_slot act.Update) k
update_kept act.Lookup kind e k = e
update_kept act.Delete kind e k = e
update_kept (act.Store at size) kind e k = e
update_kept (act.Atomic at a) kind e k = e
update_kept (act.Load at size) kind e k = e

-- ---- among the record sites of a program
made_recorded : (p : ProgramView) (decls : List MapDecl) (row : ℕ → ℕ) (r i : ℕ) → IsMadeBefore p decls row r i → Contains (record_sites p) i
made_recorded p decls row r i h =
    let less = h.known in
    let at = in_numbers 0 (length p.sites) i (omega arith) (omega (arith, less)) in
    in_filter (λ j. records (site_at p.sites j).act) (numbers 0 (length p.sites)) at.0 i at.1 at.2 (update_records (site_at p.sites i).act h.update)

-- a record of the list has this number
abbrev pub Numbered : {N : Type 0} → List (RecordNets N) → ℕ → Type 0
Numbered rs i = (k : ℕ) × (k < length rs) × ((d : RecordNets _) → (get_or rs k d).number ≡ i)

numbered_if : {N : Type 0} (b : Bool) (r : RecordNets N) (rs : List (RecordNets N)) (i : ℕ) → Numbered rs i → Numbered (if b then r ∷ rs else rs) i
numbered_if true r rs i h = (suc h.0, (let lt = h.1 in omega (arith, lt)), h.2)
numbered_if false r rs i h = h

module _ (p : ProgramView) (decls : List MapDecl) (row : ℕ → ℕ) (r i : ℕ) (made : IsMadeBefore p decls row r i) where
  keeps_made : {N : Type 0} (x : RecordNets N) → IsSite p decls x.number x.act x.decl.now → x.number ≡ i → keeps x ≡ true
  keeps_made x is e =
      let a : (site_at p.sites i).act ≡ x.act = ap (λ j. (site_at p.sites j).act) (sym e) ∙ is.act in
      let m : decl_of decls (site_at p.sites i).map ≡ x.decl.now = ap (λ j. decl_of decls (site_at p.sites j).map) (sym e) ∙ is.decl in
      update_kept x.act x.decl.now.kind (ap is_update (sym a) ∙ made.update) (ap (λ (q : MapDecl). q.kind) (sym m) ∙ made.hash)

  kept_numbered : {N : Type 0} (rs : List (RecordNets N)) (k : ℕ) → All (λ x. IsSite p decls x.number x.act x.decl.now) rs → k < length (sites_of rs) → get_or (sites_of rs) k i ≡ i → Numbered (kept rs) i
  kept_numbered [] k is lt e = absurd (omega arith)
  kept_numbered (x ∷ rs) zero is lt e =
      subst (λ b. Numbered (if b then x ∷ kept rs else kept rs) i) (sym (keeps_made x (All-head (λ y. IsSite p decls y.number y.act y.decl.now) x rs is) e)) (0, omega arith, λ d. e)
  kept_numbered (x ∷ rs) (suc k) is lt e = numbered_if (keeps x) x (kept rs) i (kept_numbered rs k (All-tail (λ y. IsSite p decls y.number y.act y.decl.now) x rs is) (omega arith) e)

-- ---- the operands of their slots
pub taken_length : (l : Layout) (at : ℕ) (rs : List (RecordNets (Name Part))) → length (taken_from l at rs) ≡ length rs
taken_length l at [] = refl
taken_length l at (r ∷ rs) = ap suc (taken_length l (suc at) rs)

taken_site : (l : Layout) (at : ℕ) (rs : List (RecordNets (Name Part))) (k : ℕ) (d : TakenSlot (Name Part)) (e : RecordNets (Name Part)) → k < length rs → (get_or (taken_from l at rs) k d).site ≡ (get_or rs k e).number
taken_site l at [] k d e lt = absurd (omega arith)
taken_site l at (r ∷ rs) zero d e lt = refl
taken_site l at (r ∷ rs) (suc k) d e lt = taken_site l (suc at) rs k d e (omega arith)

taken_among : (l : Layout) (at : ℕ) (rs : List (RecordNets (Name Part))) (i : ℕ) → Numbered rs i → IsAmong (taken_from l at rs) i
taken_among l at [] i h = absurd (let lt = h.1 in omega (arith, lt))
taken_among l at (r ∷ rs) i h =
    let n = taken_length l at (r ∷ rs) in
    let lt = h.1 in
    (h.0, omega (arith, n, lt), λ d. taken_site l at (r ∷ rs) h.0 d r lt ∙ h.2 r)

pub made_among : (l : Layout) (p : ProgramView) (decls : List MapDecl) (row : ℕ → ℕ) (r i at : ℕ) (rs : List (RecordNets (Name Part))) → All (λ x. IsSite p decls x.number x.act x.decl.now) rs → sites_of rs ≡ record_sites p → IsMadeBefore p decls row r i
    → IsAmong (taken_from l at (kept rs)) i
made_among l p decls row r i at rs is sites made =
    let there : Contains (sites_of rs) i = subst (λ js. Contains js i) (sym sites) (made_recorded p decls row r i made) in
    taken_among l at (kept rs) i (kept_numbered p decls row r i made rs there.0 is there.1 there.2)

-- ---- a pointer to an entry that another update is to make
null_pending : (i : ℕ) → Null ≡ Pending i → ⊥
null_pending i e = cc

module _ (p : ProgramView) (decls : List MapDecl) (row : ℕ → ℕ) (flags : List Bool) (most r : ℕ) (t : TableState) (h : StageValues) (fits : FitsRows p decls row flags most r h) (i : ℕ) where
  abbrev Made : Type 0
  Made = IsMadeBefore p decls row r i

  found_made : (j : ℕ) (found : Pointer) → (found ≡ Pending i → Made) → i ≢ j → update_pointer j found ≡ Pending i → Made
  found_made j Null f o e = absurd (o (same e))
    where
      same : Pending j ≡ Pending i → i ≡ j
      same z = cc
  found_made j (InSlot n) f o e = f e
  found_made j (Pending k) f o e = f e

  none_there : (b : Bool) (n : ℕ) → (if b then InSlot n else Null) ≡ Pending i → Made
  none_there true n e = absurd (apart e)
    where
      apart : InSlot n ≡ Pending i → ⊥
      apart z = cc
  none_there false n e = absurd (null_pending i e)

  accessed_made : (cells : List ℕ) (k : ℕ) → get_or (map (pointer_in h) cells) k Null ≡ Pending i → Made
  accessed_made [] zero e = absurd (null_pending i e)
  accessed_made [] (suc k) e = absurd (null_pending i e)
  accessed_made (c ∷ cs) zero e = fits.pending c i e
  accessed_made (c ∷ cs) (suc k) e = accessed_made cs k e

  written_made : (a : Act) (kind : MapKind) (j : ℕ) → i ≢ j → written_as a kind p t h j ≡ Pending i → Made
  written_made act.Update Hash j o e = found_made j (pointer_in h (found_cell p.cells j)) (fits.pending (found_cell p.cells j) i) o e
  written_made act.Update Array j o e = none_there _ (slot_of (table_at t (site_at p.sites j).map) (asked_key t.decls h (site_at p.sites j))) e
  written_made act.Delete kind j o e = fits.pending (found_cell p.cells j) i e
  written_made act.Lookup kind j o e = accessed_made (site_at p.sites j).operands (pointer_operand (site_at p.sites j).act) e
  written_made (act.Store at size) kind j o e = accessed_made (site_at p.sites j).operands (pointer_operand (site_at p.sites j).act) e
  written_made (act.Atomic at b) kind j o e = accessed_made (site_at p.sites j).operands (pointer_operand (site_at p.sites j).act) e
  written_made (act.Load at size) kind j o e = accessed_made (site_at p.sites j).operands (pointer_operand (site_at p.sites j).act) e

  pub other_made : (j : ℕ) → written_pointer p t h j ≡ Pending i → i ≢ j → Made
  other_made j e o = written_made (site_at p.sites j).act (decl_of t.decls (site_at p.sites j).map).kind j o e
