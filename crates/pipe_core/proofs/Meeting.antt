-- A change touches a read on the path only where these meet.
use Rattle.std.proofs.Common.{◌≡◌, ℕ, zero, suc, ◌+◌, ◌<◌, ◌≤◌, inl, inr, Bool, true, false, List, [], ◌∷◌, length, get_or, take, refl, sym, ap, ◌∙◌, subst, arith, not, cond, map as map_list}
use Rattle.std.specs.Prelude.{if◌then◌else◌, nat_lt, nat_le, ◌==◌, ◌&&◌, ◌||◌, fold, is_some, Contains, slice_index}
use Rattle.std.specs.List.{filter, AllByRecursion}
use Rattle.std.specs.Str.{bytes_eq}
use Rattle.std.proofs.lemmas.Bool.{and_parts}
use Rattle.std.proofs.lemmas.Bool.Decides.{nat_tests, Decides-eqb}
use Rattle.std.proofs.lemmas.List.Sums.{passes_at_first}
use Rattle.std.proofs.lemmas.Slice.Eq.{bytes_eq-Decides}
use Rattle.hazard_core.specs.xdp_maps.declared.decl.MapDecl.{MapDecl}
use Rattle.hazard_core.specs.xdp_maps.declared.decl.MapKind.{MapKind}
use Rattle.hazard_core.specs.xdp_maps.declared.decl.MapKind.TheVariants.{Hash, Array}
use Rattle.hazard_core.specs.xdp_maps.Contents.{Contents}
use Rattle.hazard_core.specs.xdp_maps.State.{MapState, decl_at, contents_at, no_decl}
use Rattle.hazard_core.specs.xdp_maps.Calls.{lookup_of}
use Rattle.hazard_core.specs.xdp_maps.Operations as map
use Rattle.hazard_core.specs.xdp_maps.Operations.{Operation, key_in}
use Rattle.hazard_core.specs.xdp_maps.Touched.{Resource, Present, Content, Size, update_reads, reads_as}
use Rattle.hazard_core.proofs.xdp_maps_laws.ResourceLaws.{first, second}
use Rattle.hazard_core.specs.cell_core.declared.site.Act.{Act}
use Rattle.hazard_core.specs.cell_core.declared.site.Act.TheVariants as act
use Rattle.hazard_core.specs.cell_core.Acts.{finds_key, is_access, asks}
use Rattle.hazard_core.specs.cell_core.Cells.{bit}
use Rattle.hazard_core.specs.cell_core.Sites.{SiteView, ProgramView, site_at, records, bytes_of, change_of, operation_with, after, applied, found_in}
use Rattle.hazard_core.specs.cell_core.Formed.{AllFit}
use Rattle.hazard_core.specs.cell_core.Rows.{numbers}
use Rattle.hazard_core.specs.declared.slot.Slot.{Slot}
use Rattle.hazard_core.specs.declared.change.Change.{Change}
use Rattle.hazard_core.specs.declared.pointer.Pointer.{Pointer}
use Rattle.hazard_core.specs.declared.pointer.Pointer.TheVariants.{Null, InSlot, Pending}
use Rattle.hazard_core.specs.Tables.{TableState, decl_of, table_at, slot_at, no_slot, has_key, slot_of, maps_of}
use Rattle.hazard_core.specs.Tabled.{AreTables}
use Rattle.hazard_core.specs.StageValues.{is_null, StageValues, stage_value, pointer_in, guard_on, asked, asked_key, access_pointer, found_cell, answer_cell, writes_as, writes, update_pointer, slot_pointer, written_as, written_pointer}
use Rattle.hazard_core.specs.Overlay.{found_as, found_over, key_pointer_as, key_pointer, looks, found_pointer}
use Rattle.hazard_core.specs.Marks.{entry_touched, presence_touched, touched_as}
use Rattle.hazard_core.specs.Replay.{earlier, HoldsReads, ReadsInTurn}
use Rattle.pipe_core.specs.Meeting.{site_reads, Meets, TouchesWhatIsRead}
use Rattle.pipe_core.proofs.Elsewhere.{applied_decls}

-- the numbers that pass a test, from one on
numbers_pass : (f : ℕ → Bool) (from n : ℕ) → AllByRecursion (λ i. (f i ≡ true) × (i < from + n)) (filter f (numbers from n))
numbers_pass f from zero = tt
numbers_pass f from (suc n) = by (f from) refl (widened (filter f (numbers (suc from) n)) (numbers_pass f (suc from) n))
  where
    widened : (xs : List ℕ) → AllByRecursion (λ i. (f i ≡ true) × (i < suc from + n)) xs → AllByRecursion (λ i. (f i ≡ true) × (i < from + suc n)) xs
    widened [] h = tt
    widened (x ∷ xs) h = ((h.0.0, let l = h.0.1 in omega (arith, l)), widened xs h.1)

    by : (c : Bool) → f from ≡ c → AllByRecursion (λ i. (f i ≡ true) × (i < from + suc n)) (filter f (numbers (suc from) n)) → AllByRecursion (λ i. (f i ≡ true) × (i < from + suc n)) (cond c (from ∷ filter f (numbers (suc from) n)) (filter f (numbers (suc from) n)))
    by true e more = ((e, omega arith), more)
    by false e more = more

-- ---- where a pointer comes from

module _ (p : ProgramView) (t : TableState) (h : StageValues) (reads : HoldsReads p t h) where
  -- an update of the packet's own that wrote under a key of a map
  pub record Own (bound m : ℕ) (under : List ℕ) (i : ℕ) : Type 0 where
    pub key : asked_key t.decls h (site_at p.sites i) ≡ under
    pub before : i < bound
    pub guard : guard_on h (site_at p.sites i) ≡ true
    pub updates : (site_at p.sites i).act ≡ act.Update
    pub map : (site_at p.sites i).map ≡ m

  -- under this key: a slot that has it, or an update of the packet's own with it
  pub record Source (before m : ℕ) (key : List ℕ) (q : Pointer) : Type 0 where
    pub slot : (n : ℕ) → q ≡ InSlot n → slot_pointer (table_at t m) key ≡ InSlot n
    pub own : (i : ℕ) → q ≡ Pending i → Own before m key i

  no_own : (slots : List Slot) (key : List ℕ) (i : ℕ) → slot_pointer slots key ≡ Pending i → ⊥
  no_own slots key i = by (nat_lt (slot_of slots key) (length slots))
    where
      by : (c : Bool) → (if c then InSlot (slot_of slots key) else Null) ≡ Pending i → ⊥
      by true e = cc
      by false e = cc

  of_table : (before m : ℕ) (key : List ℕ) → Source before m key (slot_pointer (table_at t m) key)
  of_table before m key = record { slot = λ n e. e; own = λ i e. absurd (no_own (table_at t m) key i e) }

  of_none : (before m : ℕ) (key : List ℕ) → Source before m key Null
  of_none before m key = record { slot = λ n e. absurd (no n e); own = λ i e. absurd (none i e) }
    where
      no : (n : ℕ) → Null ≡ InSlot n → ⊥
      no n e = cc

      none : (i : ℕ) → Null ≡ Pending i → ⊥
      none i e = cc

  of_own : (before m : ℕ) (key : List ℕ) (i : ℕ) → Own before m key i → Source before m key (Pending i)
  of_own before m key i own = record { slot = λ n e. absurd (no n e); own = λ k e. subst (λ (x : ℕ). Own before m key x) (one k e) own }
    where
      no : (n : ℕ) → Pending i ≡ InSlot n → ⊥
      no n e = cc

      one : (k : ℕ) → Pending i ≡ Pending k → i ≡ k
      one k e = cc

  later : (n before m : ℕ) (key : List ℕ) (q : Pointer) → n ≤ before → Source n m key q → Source before m key q
  later n before m key q l s = record {
    slot = s.slot;
    own = λ i e. let o = s.own i e in record { key = o.key; before = let z = o.before in omega (arith, z, l); guard = o.guard; updates = o.updates; map = o.map };
  }

  abbrev pub Sourced : ℕ → Type 0
  Sourced j = Source j (site_at p.sites j).map (asked_key t.decls h (site_at p.sites j)) (found_pointer p t h (earlier p j) j)

  -- over one of the packet's own operations
  over : (before m : ℕ) (key : List ℕ) (i : ℕ) → i < before → i < length p.sites → (site_at p.sites i).map ≡ m → (decl_of t.decls m).kind ≡ Hash → (guard_on h (site_at p.sites i) ≡ true → (site_at p.sites i).act ≡ act.Update → Sourced i) → (found : Pointer) → Source before m key found → Source before m key (found_over p t h key found i)
  over bound m key i low l same hash before found s = by (writes p t.decls h i) refl (bytes_eq (asked_key t.decls h (site_at p.sites i)) key) refl
    where
      x : SiteView
      x = site_at p.sites i

      kind : (decl_of t.decls (site_at p.sites i).map).kind ≡ Hash
      kind = ap (λ n. (decl_of t.decls n).kind) same ∙ hash

      sourced : asked_key t.decls h (site_at p.sites i) ≡ key → guard_on h (site_at p.sites i) ≡ true → (site_at p.sites i).act ≡ act.Update → (q : Pointer) → pointer_in h (found_cell p.cells i) ≡ q → Source bound m key q
      sourced k guard is q e =
          let there = reads.found i l guard (ap (λ (a : Act). asks a (decl_of t.decls x.map).kind) is ∙ ap (asks act.Update) kind) in
          subst (Source bound m key) (sym there ∙ e) (later i bound m key (found_pointer p t h (earlier p i) i) (omega (arith, low)) (subst (λ n. Source i n key (found_pointer p t h (earlier p i) i)) same (subst (λ n. Source i x.map n (found_pointer p t h (earlier p i) i)) k (before guard is))))

      updates : asked_key t.decls h (site_at p.sites i) ≡ key → guard_on h (site_at p.sites i) ≡ true → (site_at p.sites i).act ≡ act.Update → (q : Pointer) → pointer_in h (found_cell p.cells i) ≡ q → Source bound m key (update_pointer i q)
      updates k guard is Null e = of_own bound m key i (record { key = k; before = low; guard = guard; updates = is; map = same })
      updates k guard is (InSlot n) e = sourced k guard is (InSlot n) e
      updates k guard is (Pending n) e = sourced k guard is (Pending n) e

      by_act : asked_key t.decls h (site_at p.sites i) ≡ key → guard_on h (site_at p.sites i) ≡ true → (a : Act) → (site_at p.sites i).act ≡ a → Source bound m key (found_as a (written_pointer p t h i) found)
      by_act k guard act.Update is =
          subst (Source bound m key) (sym (ap (λ (a : Act). written_as a (decl_of t.decls x.map).kind p t h i) is ∙ ap (λ (kd : MapKind). written_as act.Update kd p t h i) kind)) (updates k guard is (pointer_in h (found_cell p.cells i)) refl)
      by_act k guard act.Delete is = of_none bound m key
      by_act k guard act.Lookup is = s
      by_act k guard (act.Load at size) is = s
      by_act k guard (act.Store at size) is = s
      by_act k guard (act.Atomic at a) is = s

      by : (w : Bool) → writes p t.decls h i ≡ w → (c : Bool) → bytes_eq (asked_key t.decls h (site_at p.sites i)) key ≡ c → Source bound m key (if w && c then found_as x.act (written_pointer p t h i) found else found)
      by true e true f =
          by_act ((bytes_eq-Decides (asked_key t.decls h x) key).0 f) (and_parts (guard_on h x) (writes_as x.act (decl_of t.decls x.map).kind (stage_value h (answer_cell p.cells i))) e).0 x.act refl
      by true e false f = s
      by false e c f = s

  folded : (m : ℕ) (key : List ℕ) (j : ℕ) → j ≤ length p.sites → (decl_of t.decls m).kind ≡ Hash → ((i : ℕ) → i < j → guard_on h (site_at p.sites i) ≡ true → (site_at p.sites i).act ≡ act.Update → (site_at p.sites i).map ≡ m → Sourced i) → (xs : List ℕ) →
      AllByRecursion (λ i. (((site_at p.sites i).map == m) && records (site_at p.sites i).act ≡ true) × (i < 0 + j)) xs → (found : Pointer) → Source j m key found → Source j m key (fold (found_over p t h key) found xs)
  folded m key j l hash before [] all found s = s
  folded m key j l hash before (i ∷ xs) all found s =
      let q = all.0 in
      let below : i < j = let z = q.1 in omega (arith, z) in
      let same : (site_at p.sites i).map ≡ m = (Decides-eqb (site_at p.sites i).map m).0 (and_parts ((site_at p.sites i).map == m) (records (site_at p.sites i).act) q.0).0 in
      folded m key j l hash before xs all.1 (found_over p t h key found i) (over j m key i below (omega (arith, below, l)) same hash (λ guard is. before i below guard is same) found s)

  -- a packet's own operations before, one after another
  pub sourced_below : (n j : ℕ) → j < n → j < length p.sites → Sourced j
  sourced_below zero j l inside = absurd (omega (arith, l))
  sourced_below (suc n) j l inside =
      from j inside (λ i below guard is same. sourced_below n i (omega (arith, l, below)) (omega (arith, below, inside)))
    where
      from : (j : ℕ) → j < length p.sites → ((i : ℕ) → i < j → guard_on h (site_at p.sites i) ≡ true → (site_at p.sites i).act ≡ act.Update → (site_at p.sites i).map ≡ (site_at p.sites j).map → Sourced i) → Sourced j
      from j inside before = by (looks (asked t.decls h (site_at p.sites j)))
        where
          m : ℕ
          m = (site_at p.sites j).map

          key : List ℕ
          key = asked_key t.decls h (site_at p.sites j)

          keyed : (k : MapKind) → (decl_of t.decls (site_at p.sites j).map).kind ≡ k → Source j (site_at p.sites j).map (asked_key t.decls h (site_at p.sites j)) (key_pointer_as k p t h (earlier p j) (site_at p.sites j).map (asked_key t.decls h (site_at p.sites j)))
          keyed Hash e = folded m key j (omega (arith, inside)) e before (earlier p j) (numbers_pass (λ i. ((site_at p.sites i).map == m) && records (site_at p.sites i).act) 0 j) (slot_pointer (table_at t m) key) (of_table j m key)
          keyed Array e = of_table j m key

          by : (c : Bool) → Source j (site_at p.sites j).map (asked_key t.decls h (site_at p.sites j)) (if c then key_pointer p t h (earlier p j) j else Null)
          by true = keyed (decl_of t.decls m).kind refl
          by false = of_none j m key

-- a slot that a pointer is to has the key
pub slot_has : (slots : List Slot) (key : List ℕ) (n : ℕ) → slot_pointer slots key ≡ InSlot n → has_key key (slot_at slots n) ≡ true
slot_has slots key n e = by (nat_lt (slot_of slots key) (length slots)) refl e
  where
    one : (k : ℕ) → InSlot k ≡ InSlot n → k ≡ n
    one k e = cc

    by : (c : Bool) → nat_lt (slot_of slots key) (length slots) ≡ c → (if c then InSlot (slot_of slots key) else Null) ≡ InSlot n → has_key key (slot_at slots n) ≡ true
    by true q f =
        let l : slot_of slots key < length slots = grind (arith, nat_tests) in
        subst (λ k. has_key key (slot_at slots k) ≡ true) (one (slot_of slots key) f) (passes_at_first (has_key key) slots no_slot l)
    by false q f = cc

-- ---- what is read

load_reads : (k : MapKind) (q : ℕ) (c : Contents) (key : List ℕ) → Contains (reads_as k q c (map.Load key)) (Content q key)
load_reads Hash q c key = first (Content q key) []
load_reads Array q c key = first (Content q key) []

update_looks : (q : ℕ) (key : List ℕ) (present : Bool) (flags : ℕ) → nat_lt 2 flags ≡ false → Contains (update_reads q key present flags) (Present q key)
update_looks q key present flags small = by (nat_lt 2 flags) small (not present && nat_lt flags 2)
  where
    by : (a : Bool) → a ≡ false → (b : Bool) → Contains (if a then [] else if b then Present q key ∷ Size q ∷ [] else Present q key ∷ []) (Present q key)
    by true e b = cc
    by false e true = first (Present q key) (Size q ∷ [])
    by false e false = first (Present q key) []

update_counts : (q : ℕ) (key : List ℕ) (present : Bool) (flags : ℕ) → nat_lt 2 flags ≡ false → present ≡ false → nat_lt flags 2 ≡ true → Contains (update_reads q key present flags) (Size q)
update_counts q key present flags small absent none = by (nat_lt 2 flags) small present absent (nat_lt flags 2) none
  where
    by : (a : Bool) → a ≡ false → (b : Bool) → b ≡ false → (c : Bool) → c ≡ true → Contains (if a then [] else if not b && c then Present q key ∷ Size q ∷ [] else Present q key ∷ []) (Size q)
    by true e b f c g = cc
    by false e true f c g = cc
    by false e false f true g = second (Present q key) (Size q) []
    by false e false f false g = cc

pub after_decls : (v : ℕ → ℕ) (maps : MapState) (ss : List SiteView) → (after v maps ss).decls ≡ maps.decls
after_decls v maps [] = refl
after_decls v maps (s ∷ ss) = after_decls v (applied v maps s) ss ∙ applied_decls v maps s

module _ (right : ReadsInTurn) (p : ProgramView) (t : TableState) (h : StageValues) (tables : AreTables t) (fit : AllFit t.decls p.sites) (reads : HoldsReads p t h) (j : ℕ) (l : j < length p.sites) (guard : guard_on h (site_at p.sites j) ≡ true) (e : Change) where
  abbrev s : SiteView
  s = site_at p.sites j

  abbrev d : MapDecl
  d = decl_of t.decls (site_at p.sites j).map

  abbrev maps : MapState
  maps = after (stage_value h) (maps_of t) (take j p.sites)

  pub decl_is : decl_at (after (stage_value h) (maps_of t) (take j p.sites)) (site_at p.sites j).map ≡ decl_of t.decls (site_at p.sites j).map
  decl_is = ap (λ ds. get_or ds (site_at p.sites j).map no_decl) (after_decls (stage_value h) (maps_of t) (take j p.sites))

  abbrev op_by : Act → Operation
  op_by a = operation_with (decl_of t.decls (site_at p.sites j).map) a (map_list (stage_value h) (site_at p.sites j).key) (map_list (stage_value h) (site_at p.sites j).operands)

  -- the reads by the act
  abbrev reads_by : Act → List Resource
  reads_by a = reads_as d.kind s.map (contents_at maps s.map) (op_by a)

  reads_are : (a : Act) → s.act ≡ a → site_reads p t h j ≡ reads_by a
  reads_are a is =
      ap (λ (x : MapDecl). reads_as x.kind s.map (contents_at maps s.map) (operation_with x s.act (map_list (stage_value h) s.key) (map_list (stage_value h) s.operands))) decl_is
      ∙ ap reads_by is

  abbrev key : List ℕ
  key = bytes_of (decl_of t.decls (site_at p.sites j).map).key (map_list (stage_value h) (site_at p.sites j).key)

  meets_by : (a : Act) → s.act ≡ a → Meets t e (reads_by a) → Meets t e (site_reads p t h j)
  meets_by a is = subst (Meets t e) (sym (reads_are a is))

  abbrev there : Bool
  there = not (is_null (pointer_in h (found_cell p.cells j)))

  -- by a key
  by_key : (rs : List Resource) → s.map ≡ e.map → e.presence ≡ true → bytes_eq key e.key ≡ true → Contains rs (Present s.map key) → Meets t e rs
  by_key rs same presence k has = inl (presence, inl (subst (λ n. Contains rs (Present n e.key)) same (subst (λ (x : List ℕ). Contains rs (Present s.map x)) ((bytes_eq-Decides key e.key).0 k) has)))

  pub absent : s.act ≡ act.Update → d.kind ≡ Hash → not there ≡ true → nat_le (slice_index (map_list (stage_value h) s.operands) 0) 2 ≡ true → is_some (lookup_of (contents_at maps s.map) key) ≡ false
  absent is hash none small =
      let found = reads.found j l guard (ap (λ (a : Act). asks a d.kind) is ∙ ap (asks act.Update) hash) in
      let r = (right p t h tables fit reads j l guard).found (ap finds_key is) in
      let null : is_null (found_pointer p t h (earlier p j) j) ≡ true = ap is_null (sym found) ∙ not_not (is_null (pointer_in h (found_cell p.cells j))) none in
      let zero_bit : bit (found_in (contents_at maps s.map) (op_by act.Update)) ≡ 0 =
      ap (λ (x : MapDecl). bit (found_in (contents_at maps s.map) (operation_with x act.Update (map_list (stage_value h) s.key) (map_list (stage_value h) s.operands)))) (sym decl_is)
      ∙ ap (λ (a : Act). bit (found_in (contents_at maps s.map) (operation_with (decl_at maps s.map) a (map_list (stage_value h) s.key) (map_list (stage_value h) s.operands)))) (sym is)
      ∙ sym r ∙ ap (λ c. bit (not c)) null in
      both (nat_le (slice_index (map_list (stage_value h) s.operands) 0) 2) (is_some (lookup_of (contents_at maps s.map) key)) small zero_bit
    where
      not_not : (c : Bool) → not (not c) ≡ true → c ≡ true
      not_not true f = refl
      not_not false f = cc

      both : (a c : Bool) → a ≡ true → bit (a && c) ≡ 0 → c ≡ false
      both true true f z = cc
      both true false f z = refl
      both false c f z = cc

  presence_of : (a : Act) → s.act ≡ a → (k : MapKind) → d.kind ≡ k → s.map ≡ e.map → finds_key a ≡ true → presence_touched k (op_by a) there e ≡ true → Meets t e (reads_by a)
  presence_of a is Array kind same f touched = cc
  presence_of act.Lookup is Hash kind same f touched =
      let q = and_parts e.presence (bytes_eq key e.key) touched in
      by_key (reads_by act.Lookup) same q.0 q.1 (subst (λ k. Contains (reads_as k s.map (contents_at maps s.map) (op_by act.Lookup)) (Present s.map key)) (sym kind) (first (Present s.map key) []))
  presence_of act.Delete is Hash kind same f touched =
      let q = and_parts e.presence (bytes_eq key e.key) touched in
      by_key (reads_by act.Delete) same q.0 q.1 (subst (λ k. Contains (reads_as k s.map (contents_at maps s.map) (op_by act.Delete)) (Present s.map key)) (sym kind) (first (Present s.map key) []))
  presence_of act.Update is Hash kind same f touched =
      let flags = slice_index (map_list (stage_value h) s.operands) 0 in
      let q = and_parts e.presence (not (nat_lt 2 flags) && (bytes_eq key e.key || (nat_lt flags 2 && not there))) touched in
      let r = and_parts (not (nat_lt 2 flags)) (bytes_eq key e.key || (nat_lt flags 2 && not there)) q.1 in
      subst (λ k. Meets t e (reads_as k s.map (contents_at maps s.map) (op_by act.Update))) (sym kind)
      (either flags (off (nat_lt 2 flags) r.0) q.0 (bytes_eq key e.key) refl (nat_lt flags 2 && not there) refl r.1)
    where
      off : (c : Bool) → not c ≡ true → c ≡ false
      off true f = cc
      off false f = refl

      at_most : (n : ℕ) → nat_lt 2 n ≡ false → nat_le n 2 ≡ true
      at_most n e = by (nat_le n 2) refl
        where
          by : (c : Bool) → nat_le n 2 ≡ c → c ≡ true
          by true f = refl
          by false f = let m : 2 < n = grind (arith, nat_tests) in let k : n ≤ 2 = grind (arith, nat_tests) in absurd (omega (arith, m, k))

      either : (flags : ℕ) → nat_lt 2 (slice_index (map_list (stage_value h) s.operands) 0) ≡ false → e.presence ≡ true → (b : Bool) → bytes_eq key e.key ≡ b → (c : Bool) → (nat_lt (slice_index (map_list (stage_value h) s.operands) 0) 2 && not there) ≡ c → b || c ≡ true →
          Meets t e (update_reads s.map key (is_some (lookup_of (contents_at maps s.map) key)) (slice_index (map_list (stage_value h) s.operands) 0))
      either flags small presence true k c f or = by_key (update_reads s.map key (is_some (lookup_of (contents_at maps s.map) key)) (slice_index (map_list (stage_value h) s.operands) 0)) same presence k (update_looks s.map key (is_some (lookup_of (contents_at maps s.map) key)) (slice_index (map_list (stage_value h) s.operands) 0) small)
      either flags small presence false k true f or =
          let g = and_parts (nat_lt (slice_index (map_list (stage_value h) s.operands) 0) 2) (not there) f in
          inl (
            presence,
            inr (subst (λ n. Contains (update_reads s.map key (is_some (lookup_of (contents_at maps s.map) key)) (slice_index (map_list (stage_value h) s.operands) 0)) (Size n)) same
                (update_counts s.map key (is_some (lookup_of (contents_at maps s.map) key)) (slice_index (map_list (stage_value h) s.operands) 0) small (absent is kind g.1 (at_most (slice_index (map_list (stage_value h) s.operands) 0) small)) g.0)),
          )
      either flags small presence false k false f or = cc
  presence_of (act.Load at size) is k kind same f touched = cc
  presence_of (act.Store at size) is k kind same f touched = cc
  presence_of (act.Atomic at a) is k kind same f touched = cc

  key_is : (a : Act) → s.act ≡ a → (key_in (op_by a) ≡ key) → asked_key t.decls h s ≡ key
  key_is a is k = ap (λ (x : Act). key_in (op_by x)) is ∙ k

  -- through a pointer
  through : (rs : List Resource) → s.map ≡ e.map → is_access s.act ≡ true → asked_key t.decls h s ≡ key → Contains rs (Content s.map key) → (u : Pointer) → access_pointer h s ≡ u → entry_touched p t.decls h e u ≡ true → Meets t e rs
  through rs same access k has Null at touched = cc
  through rs same access k has (InSlot n) at touched =
      let ac = reads.accesses j l guard access in
      let below = ac.before in
      let found = reads.found ac.lookup (omega (arith, below, l)) ac.guard (ap (λ (a : Act). asks a (decl_of t.decls (site_at p.sites ac.lookup).map).kind) ac.looks_up) in
      let src = sourced_below p t h reads (suc ac.lookup) ac.lookup (omega arith) (omega (arith, below, l)) in
      let slot : slot_pointer (table_at t (site_at p.sites ac.lookup).map) (asked_key t.decls h (site_at p.sites ac.lookup)) ≡ InSlot n = src.slot n (sym found ∙ sym ac.pointer ∙ at) in
      let here : slot_pointer (table_at t e.map) key ≡ InSlot e.slot =
      ap (λ m. slot_pointer (table_at t m) key) (sym same) ∙ ap (λ m. slot_pointer (table_at t m) key) (sym ac.map) ∙ ap (slot_pointer (table_at t (site_at p.sites ac.lookup).map)) (sym (ac.key ∙ k)) ∙ slot ∙ ap InSlot ((Decides-eqb n e.slot).0 touched) in
      inr (inr (key, slot_has (table_at t e.map) key e.slot here, subst (λ m. Contains rs (Content m key)) same has))
  through rs same access k has (Pending i) at touched =
      let ac = reads.accesses j l guard access in
      let below = ac.before in
      let found = reads.found ac.lookup (omega (arith, below, l)) ac.guard (ap (λ (a : Act). asks a (decl_of t.decls (site_at p.sites ac.lookup).map).kind) ac.looks_up) in
      let src = sourced_below p t h reads (suc ac.lookup) ac.lookup (omega arith) (omega (arith, below, l)) in
      let own : asked_key t.decls h (site_at p.sites i) ≡ asked_key t.decls h (site_at p.sites ac.lookup) = (src.own i (sym found ∙ sym ac.pointer ∙ at)).key in
      let changed : key ≡ e.key = sym (own ∙ ac.key ∙ k) ∙ (bytes_eq-Decides (asked_key t.decls h (site_at p.sites i)) e.key).0 touched in
      inr (inl (subst (λ (x : List ℕ). Contains rs (Content e.map x)) changed (subst (λ m. Contains rs (Content m key)) same has)))

  meets_as : (a : Act) → s.act ≡ a → s.map ≡ e.map → touched_as a p t.decls h j e ≡ true → Meets t e (site_reads p t h j)
  meets_as act.Lookup is same touched =
      meets_by act.Lookup is (presence_of act.Lookup is d.kind refl same refl (ap (λ (a : Act). presence_touched d.kind (op_by a) there e) (sym is) ∙ touched))
  meets_as act.Delete is same touched =
      meets_by act.Delete is (presence_of act.Delete is d.kind refl same refl (ap (λ (a : Act). presence_touched d.kind (op_by a) there e) (sym is) ∙ touched))
  meets_as act.Update is same touched =
      meets_by act.Update is (presence_of act.Update is d.kind refl same refl (ap (λ (a : Act). presence_touched d.kind (op_by a) there e) (sym is) ∙ touched))
  meets_as (act.Load at size) is same touched =
      meets_by (act.Load at size) is (through (reads_by (act.Load at size)) same (ap is_access is) (key_is (act.Load at size) is refl) (load_reads d.kind s.map (contents_at maps s.map) key) (access_pointer h s) refl touched)
  meets_as (act.Store at size) is same touched = cc
  meets_as (act.Atomic at a) is same touched =
      let q = and_parts a.fetch (entry_touched p t.decls h e (access_pointer h s)) touched in
      meets_by (act.Atomic at a) is (through (reads_by (act.Atomic at a)) same (ap is_access is) (key_is (act.Atomic at a) is refl) (fetched a.fetch q.0 d.kind) (access_pointer h s) refl q.1)
    where
      fetched : (b : Bool) → b ≡ true → (k : MapKind) → Contains (reads_as k s.map (contents_at maps s.map) (map.Atomic key at (change_of a (slice_index (map_list (stage_value h) s.operands) 0) (slice_index (map_list (stage_value h) s.operands) 1)) b)) (Content s.map key)
      fetched true f Hash = first (Content s.map key) []
      fetched true f Array = first (Content s.map key) []
      fetched false f k = cc

pub touches_what_is_read : ReadsInTurn → TouchesWhatIsRead
touches_what_is_read right p t h tables fit reads j l guard e touched =
    let s = site_at p.sites j in
    let q = and_parts (s.map == e.map) (touched_as s.act p t.decls h j e) touched in
    meets_as right p t h tables fit reads j l guard e s.act refl ((Decides-eqb s.map e.map).0 q.0) q.1
