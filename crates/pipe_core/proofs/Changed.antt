-- What a commit changes is what the operation of its site writes.
use Rattle.std.proofs.Common.{◌≡◌, ℕ, ℤ, suc, ◌<◌, ◌≤◌, Bool, true, false, List, [], ◌∷◌, length, take, Option, Some, None, refl, sym, ap, ◌∙◌, subst, arith, not, map as map_list}
use Rattle.std.specs.Prelude.{if◌then◌else◌, nat_lt, nat_le, ◌==◌, ◌&&◌, ◌||◌, is_some, Contains, slice_index, slice_set}
use Rattle.std.specs.Str.{bytes_eq}
use Rattle.std.proofs.lemmas.Bool.{and_parts}
use Rattle.std.proofs.lemmas.Bool.Decides.{nat_tests, Decides-eqb}
use Rattle.std.proofs.lemmas.List.{get_or-set_same}
use Rattle.std.proofs.lemmas.Slice.Eq.{bytes_eq-Decides}
use Rattle.hazard_core.specs.xdp_maps.declared.decl.MapDecl.{MapDecl}
use Rattle.hazard_core.specs.xdp_maps.declared.decl.MapKind.{MapKind}
use Rattle.hazard_core.specs.xdp_maps.declared.decl.MapKind.TheVariants.{Hash, Array}
use Rattle.hazard_core.specs.xdp_maps.declared.errno.TheConstants.{EINVAL}
use Rattle.hazard_core.specs.xdp_maps.Contents.{Contents}
use Rattle.hazard_core.specs.xdp_maps.State.{MapState, decl_at, contents_at}
use Rattle.hazard_core.specs.xdp_maps.Calls.{lookup_of, number_of, update_error, update_error_as}
use Rattle.hazard_core.specs.xdp_maps.Operations.{Operation, key_in}
use Rattle.hazard_core.specs.xdp_maps.Touched.{Resource, Present, Content, Size, where_done, update_writes, writes as resources_written}
use Rattle.hazard_core.proofs.xdp_maps_laws.ResourceLaws.{first, second, third}
use Rattle.hazard_core.specs.cell_core.declared.site.Act.{Act}
use Rattle.hazard_core.specs.cell_core.declared.site.Act.TheVariants as act
use Rattle.hazard_core.specs.cell_core.Acts.{reads, asks, says_done}
use Rattle.hazard_core.specs.cell_core.Sites.{SiteView, ProgramView, site_at, bytes_of, operation_with, after, answer_as}
use Rattle.hazard_core.specs.cell_core.Formed.{AllFit}
use Rattle.hazard_core.specs.declared.slot.Slot.{Slot}
use Rattle.hazard_core.specs.declared.change.Change.{Change}
use Rattle.hazard_core.specs.declared.pointer.Pointer.{Pointer}
use Rattle.hazard_core.specs.declared.pointer.Pointer.TheVariants.{Null, InSlot, Pending}
use Rattle.hazard_core.specs.Tables.{TableState, decl_of, table_at, slot_at, no_slot, has_key, slot_of, maps_of}
use Rattle.hazard_core.specs.Tabled.{AreTables}
use Rattle.hazard_core.specs.StageValues.{is_null, same_pointer, StageValues, stage_value, pointer_in, guard_on, asked, asked_key, found_cell, answer_cell, is_update, is_delete, writes_as, writes, update_pointer, slot_pointer, written_as, written_pointer}
use Rattle.hazard_core.specs.Overlay.{found_pointer}
use Rattle.hazard_core.specs.Commits.{makes_entry, changed_key, written_slot, slot_as, committed, change_by}
use Rattle.hazard_core.specs.Replay.{Replayed, replayed, earlier, HoldsReads, IsInTurn, ReadsInTurn, CommitsInTurn}
use Rattle.pipe_core.specs.Meeting.{site_writes, IsWritten, ChangesAreWritten}
use Rattle.pipe_core.proofs.Resources.{update_none, delete_there}
use Rattle.pipe_core.proofs.Meeting.{Sourced, sourced_below, slot_has, absent, decl_is}

no_case : false ≡ true → ⊥
no_case e = cc

content_written : (q : ℕ) (key : List ℕ) (b : Bool) → Contains (update_writes q key b) (Content q key)
content_written q key true = first (Content q key) []
content_written q key false = first (Content q key) (Present q key ∷ Size q ∷ [])

-- an update that is done has flags that are known
small_flags : (d : MapDecl) (c : Contents) (key : List ℕ) (flags : ℕ) → update_error d c key flags ≡ None → nat_le flags 2 ≡ true
small_flags d c key flags e = by d.kind e
  where
    at_most : nat_lt 2 flags ≡ false → nat_le flags 2 ≡ true
    at_most f = within (nat_le flags 2) refl
      where
        within : (c : Bool) → nat_le flags 2 ≡ c → c ≡ true
        within true g = refl
        within false g = let m : 2 < flags = grind (arith, nat_tests) in let k : flags ≤ 2 = grind (arith, nat_tests) in absurd (omega (arith, m, k))

    known : {A : Type 0} (b : Bool) (x : A) (y : Option A) → (if b then Some x else y) ≡ None → b ≡ false
    known true x y f = cc
    known false x y f = refl

    by : (k : MapKind) → update_error_as k d c key flags ≡ None → nat_le flags 2 ≡ true
    by Hash f = at_most (known (nat_lt 2 flags) EINVAL _ f)
    by Array f = at_most (known (nat_lt 2 flags) EINVAL _ f)

module _ (in_turn : CommitsInTurn) (right : ReadsInTurn) (p : ProgramView) (t : TableState) (taken : List ℕ) (h : StageValues) (tables : AreTables t) (fit : AllFit t.decls p.sites) (long : length taken ≡ length p.sites) (reads_hold : HoldsReads p t h)
    (j : ℕ) (l : j < length p.sites) (wrote : writes p t.decls h j ≡ true) where
  abbrev s : SiteView
  s = site_at p.sites j

  abbrev d : MapDecl
  d = decl_of t.decls (site_at p.sites j).map

  abbrev q : ℕ
  q = (site_at p.sites j).map

  abbrev r : Replayed
  r = replayed p h (record { tables = t; taken = taken }) j

  action : IsInTurn p t taken h j
  action = in_turn p t taken h tables fit long reads_hold j (omega (arith, l))

  abbrev n : ℕ
  n = written_slot p r.tables r.taken h j

  abbrev maps : MapState
  maps = after (stage_value h) (maps_of t) (take j p.sites)

  abbrev words : List ℕ
  words = map_list (stage_value h) (site_at p.sites j).key

  abbrev xs : List ℕ
  xs = map_list (stage_value h) (site_at p.sites j).operands

  abbrev key : List ℕ
  key = bytes_of (decl_of t.decls (site_at p.sites j).map).key words

  abbrev new : Slot
  new = slot_as s.act (makes_entry p r.tables h j) (asked r.tables.decls h s) (asked_key r.tables.decls h s) (slot_at (table_at r.tables q) n)

  slot_is : slot_at (table_at (committed p r.tables r.taken h j) q) n ≡ new
  unfolding committed
  slot_is =
      let c = action.right l wrote in
      ap (λ (ss : List Slot). slot_at ss n) (get_or-set_same r.tables.tables q (slice_set (table_at r.tables q) n new) [] c.map) ∙ get_or-set_same (table_at r.tables q) n new no_slot c.slot

  guard : guard_on h (site_at p.sites j) ≡ true
  guard = (and_parts (guard_on h s) (writes_as s.act d.kind (stage_value h (answer_cell p.cells j))) wrote).0

  as_wrote : writes_as (site_at p.sites j).act (decl_of t.decls (site_at p.sites j).map).kind (stage_value h (answer_cell p.cells j)) ≡ true
  as_wrote = (and_parts (guard_on h s) (writes_as s.act d.kind (stage_value h (answer_cell p.cells j))) wrote).1

  own_key : asked_key t.decls h (site_at p.sites j) ≡ key
  own_key = by s.act
    where
      by : (a : Act) → key_in (operation_with d a words xs) ≡ key
      by act.Lookup = refl
      by act.Update = refl
      by act.Delete = refl
      by (act.Load at size) = refl
      by (act.Store at size) = refl
      by (act.Atomic at a) = refl

  asked_own : asked_key r.tables.decls h (site_at p.sites j) ≡ key
  asked_own = ap (λ ds. asked_key ds h s) action.decls ∙ own_key

  -- but for a delete the new slot has the key
  landed : is_delete (site_at p.sites j).act ≡ false → (new.used ≡ true) × (new.key ≡ key)
  landed stays =
      let has = slot_has (table_at (committed p r.tables r.taken h j) q) (asked_key t.decls h s) n (action.lands l wrote stays) in
      let here = subst (λ (x : Slot). has_key (asked_key t.decls h s) x ≡ true) slot_is has in
      let parts = and_parts new.used (bytes_eq new.key (asked_key t.decls h s)) here in
      (parts.0, (bytes_eq-Decides new.key (asked_key t.decls h s)).0 parts.1 ∙ own_key)

  abbrev e : Change
  e = change_by p r.tables r.taken h j

  change_map : (change_by p r.tables r.taken h j).map ≡ q
  unfolding change_by
  change_map = refl

  change_slot : (change_by p r.tables r.taken h j).slot ≡ n
  unfolding change_by
  change_slot = refl

  change_presence : (change_by p r.tables r.taken h j).presence ≡ is_delete s.act || makes_entry p r.tables h j
  unfolding change_by
  change_presence = refl

  change_key : (change_by p r.tables r.taken h j).key ≡ key
  unfolding change_by
  change_key = by s.act refl
    where
      held : Slot
      held = slot_at (table_at r.tables q) n

      kept : (a : Act) → s.act ≡ a → ((c : Bool) (op : Operation) (k : List ℕ) → (slot_as a c op k held).key ≡ held.key) → is_delete a ≡ false → held.key ≡ key
      kept a is same stays =
          sym (same (makes_entry p r.tables h j) (asked r.tables.decls h s) (asked_key r.tables.decls h s))
          ∙ ap (λ (x : Act). (slot_as x (makes_entry p r.tables h j) (asked r.tables.decls h s) (asked_key r.tables.decls h s) held).key) (sym is) ∙ (landed (ap is_delete is ∙ stays)).1

      by : (a : Act) → s.act ≡ a → changed_key s.act (asked_key r.tables.decls h s) held.key ≡ key
      by act.Update is = ap (λ (x : Act). changed_key x (asked_key r.tables.decls h s) held.key) is ∙ asked_own
      by act.Delete is = ap (λ (x : Act). changed_key x (asked_key r.tables.decls h s) held.key) is ∙ asked_own
      by act.Lookup is = ap (λ (x : Act). changed_key x (asked_key r.tables.decls h s) held.key) is ∙ kept act.Lookup is (λ c op k. refl) refl
      by (act.Load at size) is = ap (λ (x : Act). changed_key x (asked_key r.tables.decls h s) held.key) is ∙ kept (act.Load at size) is (λ c op k. refl) refl
      by (act.Store at size) is = ap (λ (x : Act). changed_key x (asked_key r.tables.decls h s) held.key) is ∙ kept (act.Store at size) is (λ c op k. refl) refl
      by (act.Atomic at a) is = ap (λ (x : Act). changed_key x (asked_key r.tables.decls h s) held.key) is ∙ kept (act.Atomic at a) is (λ c op k. refl) refl

  slot_key : (k : List ℕ) → has_key k (slot_at (table_at (committed p r.tables r.taken h j) (change_by p r.tables r.taken h j).map) (change_by p r.tables r.taken h j).slot) ≡ true → k ≡ (change_by p r.tables r.taken h j).key
  slot_key k has = by (is_delete s.act) refl
    where
      here : has_key k new ≡ true
      here = subst (λ (x : Slot). has_key k x ≡ true) slot_is
          (subst (λ m. has_key k (slot_at (table_at (committed p r.tables r.taken h j) m) n) ≡ true) change_map (subst (λ m. has_key k (slot_at (table_at (committed p r.tables r.taken h j) e.map) m) ≡ true) change_slot has))

      parts : (new.used ≡ true) × (bytes_eq new.key k ≡ true)
      parts = and_parts new.used (bytes_eq new.key k) here

      unused : (a : Act) → is_delete a ≡ true → (c : Bool) (op : Operation) (key : List ℕ) (old : Slot) → (slot_as a c op key old).used ≡ false
      unused act.Delete f c op key old = refl
      unused act.Update f c op key old = cc
      unused act.Lookup f c op key old = cc
      unused (act.Load at size) f c op key old = cc
      unused (act.Store at size) f c op key old = cc
      unused (act.Atomic at a) f c op key old = cc

      by : (b : Bool) → is_delete s.act ≡ b → k ≡ (change_by p r.tables r.taken h j).key
      by true f = absurd (no_case (sym (unused s.act f (makes_entry p r.tables h j) (asked r.tables.decls h s) (asked_key r.tables.decls h s) (slot_at (table_at r.tables q) n)) ∙ parts.0))
      by false f = sym ((bytes_eq-Decides new.key k).0 parts.1) ∙ (landed f).1 ∙ sym change_key

  -- ---- what is written

  abbrev written_by : Act → List Resource
  written_by a = resources_written maps q (operation_with (decl_at maps q) a words xs)

  decl_here : decl_at (after (stage_value h) (maps_of t) (take j p.sites)) (site_at p.sites j).map ≡ decl_of t.decls (site_at p.sites j).map
  decl_here = decl_is right p t h tables fit reads_hold j l guard e

  abbrev here_key : List ℕ
  here_key = bytes_of (decl_at maps q).key words

  key_here : here_key ≡ key
  key_here = ap (λ (x : MapDecl). bytes_of x.key words) decl_here

  answered : says_done s.act d.kind ≡ true → reads s.act ≡ true → (stage_value h (answer_cell p.cells j) == 0) ≡ true → (a : Act) → s.act ≡ a → (answer_as a (decl_at maps q) (contents_at maps q) (operation_with (decl_at maps q) a words xs) == 0) ≡ true
  answered says is_read zeroed a is =
      let done = reads_hold.done j l guard says in
      let r_answer = (right p t h tables fit reads_hold j l guard).answer is_read in
      ap (λ (x : Act). answer_as x (decl_at maps q) (contents_at maps q) (operation_with (decl_at maps q) x words xs) == 0) (sym is) ∙ ap (λ k. k == 0) (sym r_answer) ∙ sym done ∙ zeroed

  -- where an update makes an entry its key was not there
  makes_absent : s.act ≡ act.Update → nat_le (slice_index xs 0) 2 ≡ true → makes_entry p r.tables h j ≡ true → is_some (lookup_of (contents_at maps q) here_key) ≡ false
  makes_absent is small makes =
      let same : same_pointer (written_pointer p r.tables h j) (Pending j) ≡ true = (and_parts (is_update s.act) (same_pointer (written_pointer p r.tables h j) (Pending j)) makes).1 in
      by d.kind refl (ap (λ (u : Pointer). same_pointer u (Pending j)) (sym (ap (λ (a : Act). written_as a (decl_of r.tables.decls q).kind p r.tables h j) is ∙ ap (λ ds. written_as act.Update (decl_of ds q).kind p r.tables h j) action.decls)) ∙ same)
    where
      tabled : (u : Pointer) → ((i : ℕ) → u ≡ Pending i → ⊥) → same_pointer u (Pending j) ≡ false
      tabled Null none = refl
      tabled (InSlot m) none = refl
      tabled (Pending i) none = absurd (none i refl)

      no_own : (slots : List Slot) (k : List ℕ) (i : ℕ) → slot_pointer slots k ≡ Pending i → ⊥
      no_own slots k i = within (nat_lt (slot_of slots k) (length slots))
        where
          within : (c : Bool) → (if c then InSlot (slot_of slots k) else Null) ≡ Pending i → ⊥
          within true f = cc
          within false f = cc

      by : (k : MapKind) → d.kind ≡ k → same_pointer (written_as act.Update k p r.tables h j) (Pending j) ≡ true → is_some (lookup_of (contents_at maps q) here_key) ≡ false
      by Array kind f = absurd (no_case (sym (tabled (slot_pointer (table_at r.tables q) (asked_key r.tables.decls h s)) (no_own (table_at r.tables q) (asked_key r.tables.decls h s))) ∙ f))
      by Hash kind f = ap (λ k. is_some (lookup_of (contents_at maps q) k)) key_here ∙ absent right p t h tables fit reads_hold j l guard e is kind (none (pointer_in h (found_cell p.cells j)) refl f) small
        where
          src : Sourced p t h reads_hold j
          src = sourced_below p t h reads_hold (suc j) j (omega arith) l

          found : pointer_in h (found_cell p.cells j) ≡ found_pointer p t h (earlier p j) j
          found = reads_hold.found j l guard (ap (λ (a : Act). asks a d.kind) is ∙ ap (asks act.Update) kind)

          none : (u : Pointer) → pointer_in h (found_cell p.cells j) ≡ u → same_pointer (update_pointer j u) (Pending j) ≡ true → not (not (is_null (pointer_in h (found_cell p.cells j)))) ≡ true
          none Null at f = ap (λ (z : Pointer). not (not (is_null z))) at
          none (InSlot m) at f = cc
          none (Pending i) at f =
              let o = src.own i (sym found ∙ at) in
              let low = o.before in
              let same : i ≡ j = (Decides-eqb i j).0 f in
              absurd (omega (arith, low, same))

  record Wrote (ws : List Resource) (presence : Bool) : Type 0 where
    content : Contains ws (Content q here_key)
    present : presence ≡ true → Contains ws (Present q here_key) × Contains ws (Size q)

  wrote_as : (a : Act) → s.act ≡ a → (k : MapKind) → d.kind ≡ k → writes_as a k (stage_value h (answer_cell p.cells j)) ≡ true → Wrote (written_by a) (is_delete a || makes_entry p r.tables h j)
  wrote_as act.Update is k kind w =
      let flags = slice_index xs 0 in
      let D = decl_at maps q in
      let c = contents_at maps q in
      let z = answered (ap (λ (a : Act). says_done a d.kind) is) (ap reads is) w act.Update is in
      let none : update_error D c here_key flags ≡ None = update_none D c here_key flags z in
      let ws : written_by act.Update ≡ update_writes q here_key (is_some (lookup_of c here_key)) = ap (λ (o : Option ℤ). where_done (number_of o) (update_writes q here_key (is_some (lookup_of c here_key)))) none in
      subst (λ rs. Wrote rs (is_delete act.Update || makes_entry p r.tables h j)) (sym ws) (record {
        content = content_written q here_key (is_some (lookup_of c here_key));
        present = λ makes. subst (λ (b : Bool). Contains (update_writes q here_key b) (Present q here_key) × Contains (update_writes q here_key b) (Size q)) (sym (makes_absent is (small_flags D c here_key flags none) makes))
            (second (Content q here_key) (Present q here_key) (Size q ∷ []), third (Content q here_key) (Present q here_key) (Size q));
      })
  wrote_as act.Delete is Hash kind w =
      let D = decl_at maps q in
      let c = contents_at maps q in
      let z = answered (ap (λ (a : Act). says_done a d.kind) is ∙ ap (says_done act.Delete) kind) (ap reads is) w act.Delete is in
      let none = (delete_there D c here_key z).0 in
      let all : List Resource = Content q here_key ∷ Present q here_key ∷ Size q ∷ [] in
      let ws : written_by act.Delete ≡ all = ap (λ (o : Option ℤ). where_done (number_of o) all) none in
      subst (λ rs. Wrote rs true) (sym ws) (record {
        content = first (Content q here_key) (Present q here_key ∷ Size q ∷ []);
        present = λ f. (second (Content q here_key) (Present q here_key) (Size q ∷ []), third (Content q here_key) (Present q here_key) (Size q));
      })
  wrote_as act.Delete is Array kind w = cc
  wrote_as act.Lookup is k kind w = cc
  wrote_as (act.Load at size) is k kind w = cc
  wrote_as (act.Store at size) is k kind w = record { content = first (Content q here_key) []; present = λ f. absurd (no_case (sym (ap (λ (a : Act). is_update a && same_pointer (written_pointer p r.tables h j) (Pending j)) is) ∙ f)) }
  wrote_as (act.Atomic at x) is k kind w = record { content = first (Content q here_key) []; present = λ f. absurd (no_case (sym (ap (λ (a : Act). is_update a && same_pointer (written_pointer p r.tables h j) (Pending j)) is) ∙ f)) }

  is_written : IsWritten (committed p r.tables r.taken h j) (change_by p r.tables r.taken h j) (site_writes p t h j)
  is_written =
      let w = wrote_as s.act refl d.kind refl as_wrote in
      let k = key_here ∙ sym change_key in
      let m = sym change_map in
      record {
        content = subst (λ x. Contains (site_writes p t h j) (Content x e.key)) m (subst (λ (x : List ℕ). Contains (site_writes p t h j) (Content q x)) k w.content);
        present = λ f.
            let g = w.present (sym change_presence ∙ f) in
            (subst (λ x. Contains (site_writes p t h j) (Present x e.key)) m (subst (λ (x : List ℕ). Contains (site_writes p t h j) (Present q x)) k g.0), subst (λ x. Contains (site_writes p t h j) (Size x)) m g.1);
        slot = slot_key;
      }

pub changes_are_written : CommitsInTurn → ReadsInTurn → ChangesAreWritten
changes_are_written in_turn right p t taken h tables fit long reads_hold j l wrote = is_written in_turn right p t taken h tables fit long reads_hold j l wrote
