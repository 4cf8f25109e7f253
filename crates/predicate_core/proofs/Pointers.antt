-- Pointers of lookups, among more cells, sites and pointers.
use Rattle.std.proofs.Common.{◌≡◌, ℕ, ◌+◌, ◌-◌, ◌<◌, ◌≤◌, ◌⊎◌, inl, inr, true, false, Some, None, List, ◌++◌, length, length-append, get_or, map as map_list, refl, sym, ◌∙◌, ap, subst, arith}
use Rattle.std.specs.Prelude.{slice_index, All}
use Rattle.std.proofs.Math.ListN.{get_or-append}
use Rattle.std.proofs.Math.Seq.{get_or-append_right}
use Rattle.std.proofs.lemmas.Bool.{cases_lt, false≢true}
use Rattle.xdp_machine.specs.xdp_maps.declared.decl.MapDecl.{MapDecl}
use Rattle.kind_core.specs.declared.kind.Kind.{Kind}
use Rattle.kind_core.specs.declared.kind.Kind.TheVariants.{Unset, Maybe, Entry}
use Rattle.kind_core.specs.declared.kind.Kinds.{Kinds}
use Rattle.kind_core.specs.Kinds.{key_bytes, is_hash}
use Rattle.cell_core.specs.declared.operator.Operator.TheVariants.{Found}
use Rattle.cell_core.specs.Cells.{CellView, cell_at, site_in, on}
use Rattle.cell_core.specs.Sites.{SiteView, no_site, site_at, bytes_of}
use Rattle.operator_cells.specs.Making.{GrowsWith}
use Rattle.operator_cells.specs.declared.held_cells.machine_cells.RegisterCells.{RegisterCells}
use Rattle.operator_cells.specs.HeldCells.RegisterCells.{PointerView, pointer_at, key_of, Counts, AreInside}
use Rattle.operator_cells.specs.HeldCells.Pointing.{Pointing, pointing_as, pointing_by, pointing_at, HoldsPointer, changes_keys, IsThrough, IsFoundOf, IsSamePointer, IsLookedUp, is_access, IsLookupAccess}
use Rattle.edge_cells.specs.Meeting.{Extends}
use Rattle.edge_cells.proofs.ExtendingLaws.{same_pointer}
use Rattle.operator_cells.specs.row_rules.declared.place_rows.location.Location.{Location}
use Rattle.operator_cells.specs.row_rules.declared.place_rows.location.Location.TheVariants as location
use Rattle.operator_cells.specs.row_rules.PlaceRows.Locations.{first_slot, first_byte, location_at, IsLocation}
use Rattle.operator_cells.proofs.row_rules_laws.PlaceRows.LocationLaws.{numbered_as, location_there}

-- ---- where pointers are held

-- a register or a slot holds it
pub low_place : (k : Kinds) (h : RegisterCells) (place : ℕ) (x : Pointing) → pointing_at k h place ≡ Some x → place < first_byte
low_place k h place x is = by (location_at place) refl (location_there place) is
  where
    by : (l : Location) → location_at place ≡ l → IsLocation l → pointing_by k h l ≡ Some x → place < first_byte
    by (location.Register r) e there f = let small : r < 11 = there in let same : place ≡ r = numbered_as place (location.Register r) e in omega (arith, small, same)
    by (location.StackSlot s) e there f = let small : s < 64 = there in let same : place ≡ first_slot + s = numbered_as place (location.StackSlot s) e in omega (arith, small, same)
    by (location.PacketByte i) e there f = absurd (cc f)
    by location.Target e there f = absurd (cc f)
    by (location.PendingWrites q) e there f = absurd (cc f)

-- its number is that of a pointer that is there
counted : (decls : List MapDecl) (n : ℕ) (ps : List PointerView) (a : Kind) (c : ℕ) (x : Pointing) → Counts decls n ps a c → pointing_as a c ≡ Some x → x.pointer < length ps
counted decls n ps (Maybe q j) c x h e = let same : record { map = q; node = Some j; pointer = c } ≡ x = cc in omega (arith, h.0, ap (λ (p : Pointing). p.pointer) same)
counted decls n ps (Entry q o) c x h e = let same : record { map = q; node = None; pointer = c } ≡ x = cc in omega (arith, h.0, ap (λ (p : Pointing). p.pointer) same)
counted decls n ps a c x h e = cc

pub inside_pointer : (decls : List MapDecl) (n : ℕ) (ps : List PointerView) (k : Kinds) (h : RegisterCells) (x : Pointing) → AreInside decls n ps h k → HoldsPointer k h x → x.pointer < length ps
inside_pointer decls n ps k h x inside (place, is) = by (location_at place) (location_there place) is
  where
    by : (l : Location) → IsLocation l → pointing_by k h l ≡ Some x → x.pointer < length ps
    by (location.Register r) there f = counted decls n ps (get_or k.registers r Unset) (slice_index h.registers r) x (inside.registers r (let small : r < 11 = there in omega (arith, small))) f
    by (location.StackSlot s) there f = counted decls n ps (get_or k.slots s Unset) (slice_index h.slots s) x (inside.slots s (let small : s < 64 = there in omega (arith, small))) f
    by (location.PacketByte i) there f = absurd (cc f)
    by location.Target there f = absurd (cc f)
    by (location.PendingWrites q) there f = absurd (cc f)

pub same_later : (decls : List MapDecl) (v u : ℕ → ℕ) (ps qs : List PointerView) (x : Pointing) → Extends ps qs → x.pointer < length ps → IsSamePointer decls v u ps qs x x
same_later decls v u ps qs x e l = record {
  map = refl;
  node = refl;
  found = ap (λ (p : PointerView). v p.found) same;
  goes = ap (λ (p : PointerView). u p.found) same;
  key = ap (key_of decls v x.map) same;
}
  where
    same : pointer_at qs x.pointer ≡ pointer_at ps x.pointer
    same = same_pointer ps qs x.pointer e l

-- ---- more cells and sites, where new cells read new sites alone

module _ (R : ℕ → ℕ → Type 0) (old new : List CellView) (sites sites2 more : List SiteView) (grows : GrowsWith R old new) (later : (d j : ℕ) → R d j → length sites ≤ j) (is : sites2 ≡ sites ++ more) where
  at : (i : ℕ) → i < length sites → site_at sites2 i ≡ site_at sites i
  at i l = ap (λ (ss : List SiteView). site_at ss i) is ∙ get_or-append sites more no_site i l

  count : length sites2 ≡ length sites + length more
  count = ap length is ∙ length-append sites more

  found_more : (j c : ℕ) → j < length sites → IsFoundOf old j c → IsFoundOf new j c
  found_more j c l f = record {
    there = omega (arith, f.there, grows.longer);
    is = ap (λ (x : CellView). x.op) (grows.kept c f.there) ∙ f.is;
    only = λ d b e. by d b e (cases_lt d (length old));
  }
    where
      by : (d : ℕ) → d < length new → (cell_at new d).op ≡ Found j → (d < length old) ⊎ (length old ≤ d) → d ≡ c
      by d b e (inl m) = f.only d m (ap (λ (x : CellView). x.op) (sym (grows.kept d m)) ∙ e)
      by d b e (inr m) = absurd (omega (arith, l, later d j (grows.reads d j m b (ap site_in e))))

  -- A pointer of a lookup is one among them, and so is one that is the same, where no new site on the path brings a key of its map or takes one away.
  pub looked_more : (decls : List MapDecl) (v u : ℕ → ℕ) (ps qs : List PointerView) (x y : Pointing)
      → All (λ s. s.map ≡ x.map → on (v s.guard) ≡ true → is_hash decls x.map ≡ true → changes_keys s.act ≡ false) more → IsSamePointer decls v u ps qs x y → IsLookedUp decls old sites v u ps x → IsLookedUp decls new sites2 v u qs y
  looked_more decls v u ps qs x y keep same l = record {
    lookup = l.lookup;
    there = omega (arith, l.there, count);
    looks_up = ap (λ (s : SiteView). s.act) (at l.lookup l.there) ∙ l.looks_up;
    map = ap (λ (s : SiteView). s.map) (at l.lookup l.there) ∙ l.map ∙ sym same.map;
    guard = ap (λ (s : SiteView). on (v s.guard)) (at l.lookup l.there) ∙ l.guard;
    key = ap (λ (s : SiteView). bytes_of (key_bytes decls y.map) (map_list v s.key)) (at l.lookup l.there)
        ∙ ap (λ (q : ℕ). bytes_of (key_bytes decls q) (map_list v (site_at sites l.lookup).key)) same.map ∙ l.key ∙ sym same.key;
    cell = l.cell;
    is_found = found_more l.lookup l.cell l.there l.is_found;
    found = same.found ∙ l.found;
    goes = same.goes ∙ l.goes;
    some = λ e. l.some (sym same.node ∙ e);
    node = λ n e. ap (λ (s : SiteView). s.node) (at l.lookup l.there) ∙ l.node n (sym same.node ∙ e);
    between = λ i a b m o h. by i a b (m ∙ same.map) o (ap (is_hash decls) (sym same.map) ∙ h) (cases_lt i (length sites));
  }
    where
      by : (i : ℕ) → l.lookup < i → i < length sites2 → (site_at sites2 i).map ≡ x.map → on (v (site_at sites2 i).guard) ≡ true → is_hash decls x.map ≡ true → (i < length sites) ⊎ (length sites ≤ i)
          → changes_keys (site_at sites2 i).act ≡ false
      by i a b m o h (inl c) =
          let e = at i c in
          ap (λ (s : SiteView). changes_keys s.act) e ∙ l.between i a c (ap (λ (s : SiteView). s.map) (sym e) ∙ m) (ap (λ (s : SiteView). on (v s.guard)) (sym e) ∙ o) h
      by i a b m o h (inr c) =
          subst (λ (s : SiteView). s.map ≡ x.map → on (v s.guard) ≡ true → is_hash decls x.map ≡ true → changes_keys s.act ≡ false)
          (sym (ap (λ (ss : List SiteView). site_at ss i) is ∙ get_or-append_right sites more i no_site c)) (keep (i - length sites) no_site (omega (arith, b, c, count))) m o h

  -- the key of a site, as one of the map of another
  abbrev key_in : List MapDecl → (ℕ → ℕ) → SiteView → SiteView → List ℕ
  key_in decls v s r = bytes_of (key_bytes decls s.map) (map_list v r.key)

  -- an access too
  pub access_more : (decls : List MapDecl) (v u : ℕ → ℕ) (j : ℕ) → j < length sites → IsLookupAccess decls old sites v u j → IsLookupAccess decls new sites2 v u j
  access_more decls v u j low a = record {
    lookup = a.lookup;
    before = a.before;
    looks_up = ap (λ (s : SiteView). s.act) first ∙ a.looks_up;
    map = ap (λ (s : SiteView). s.map) first ∙ a.map ∙ ap (λ (s : SiteView). s.map) (sym own);
    guard = ap (λ (s : SiteView). on (v s.guard)) first ∙ a.guard;
    key = ap (λ (s : SiteView). key_in decls v s (site_at sites2 a.lookup)) own ∙ ap (key_in decls v (site_at sites j)) first ∙ a.key ∙ ap (λ (s : SiteView). key_in decls v s s) (sym own);
    cell = a.cell;
    is_found = found_more a.lookup a.cell (omega (arith, a.before, low)) a.is_found;
    some = a.some;
    operand = a.operand;
    through = subst (λ (s : SiteView). IsThrough s.act s.operands a.operand) (sym own) a.through;
    goes = a.goes;
    between = λ i b c m o h. let e = at i (omega (arith, c, low)) in
        ap (λ (s : SiteView). changes_keys s.act) e ∙ a.between i b c (ap (λ (s : SiteView). s.map) (sym e) ∙ m ∙ ap (λ (s : SiteView). s.map) own) (ap (λ (s : SiteView). on (v s.guard)) (sym e) ∙ o) (ap (λ (s : SiteView). is_hash decls s.map) (sym own) ∙ h);
  }
    where
      own : site_at sites2 j ≡ site_at sites j
      own = at j low

      first : site_at sites2 a.lookup ≡ site_at sites a.lookup
      first = at a.lookup (omega (arith, a.before, low))

-- The last site accesses the entry of a pointer of a lookup.
pub access_at : (decls : List MapDecl) (cells : List CellView) (sites : List SiteView) (v u : ℕ → ℕ) (ps : List PointerView) (p j : ℕ) → j + 1 ≡ length sites → is_access (site_at sites j).act ≡ true
    → (site_at sites j).key ≡ (pointer_at ps p).key → IsThrough (site_at sites j).act (site_at sites j).operands (pointer_at ps p).found
    → IsLookedUp decls cells sites v u ps (record { map = (site_at sites j).map; node = None; pointer = p }) → IsLookupAccess decls cells sites v u j
access_at decls cells sites v u ps p j last accesses key through l = record {
  lookup = l.lookup;
  before = by (cases_lt l.lookup j);
  looks_up = l.looks_up;
  map = l.map;
  guard = l.guard;
  key = l.key ∙ ap (λ (ws : List ℕ). bytes_of (key_bytes decls (site_at sites j).map) (map_list v ws)) (sym key);
  cell = l.cell;
  is_found = l.is_found;
  some = l.some refl;
  operand = (pointer_at ps p).found;
  through = through;
  goes = l.goes;
  between = λ i a b. l.between i a (omega (arith, b, last));
}
  where
    by : (l.lookup < j) ⊎ (j ≤ l.lookup) → l.lookup < j
    by (inl a) = a
    by (inr a) =
        let same : l.lookup ≡ j = omega (arith, a, l.there, last) in
        let looks : is_access (site_at sites j).act ≡ false = ap (λ (i : ℕ). is_access (site_at sites i).act) (sym same) ∙ ap is_access l.looks_up in
        absurd (false≢true (sym looks ∙ accesses))
