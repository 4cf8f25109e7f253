-- What operations leave, as maps.
use Rattle.std.proofs.Common.{◌≡◌, ◌≢◌, ℕ, ℤ, zero, suc, ◌+◌, ◌<◌, ◌≤◌, Bool, true, false, List, [], ◌∷◌, Some, None, get_or, length, refl, sym, ap, ◌∙◌, subst, arith, not}
use Rattle.std.specs.Prelude.{◌&&◌, ◌==◌, pos, if◌then◌else◌, nat_lt, nat_le, is_some, slice_set, slice_index, take, drop, count_by, replicate, map as map_list}
use Rattle.std.specs.Int.{w64, cast_unsigned}
use Rattle.std.specs.Option.{option_map}
use Rattle.std.specs.Cmp.Lexicographic.{nat_list_cmp_total}
use Rattle.std.specs.FinMap as map
use Rattle.std.specs.FinMap.{same_map, slice_cmp-IsAntisymmetric, nat_cmp-IsAntisymmetric}
use Rattle.std.specs.Str.{bytes_eq}
use Rattle.std.proofs.lemmas.Bool.Decides.{nat_tests}
use Rattle.std.proofs.lemmas.Bool.{and_parts}
use Rattle.std.proofs.lemmas.List.{set-get_or, length-replicate, map-set}
use Rattle.std.proofs.Math.ListN.{get_or-map}
use Rattle.std.proofs.lemmas.Slice.Eq.{bytes_eq-Decides}
use Rattle.byteorder.specs.Endian.{little_bytes}
use Rattle.cell_core.specs.xdp_machine.Memory.{bytes_in, number_at}
use Rattle.xdp_maps.specs.declared.decl.MapDecl.{MapDecl}
use Rattle.xdp_maps.specs.declared.decl.MapKind.{MapKind}
use Rattle.xdp_maps.specs.declared.decl.MapKind.TheVariants.{Hash, Array}
use Rattle.xdp_maps.specs.declared.errno.TheConstants.{ENOENT, E2BIG, EEXIST, EINVAL}
use Rattle.xdp_maps.specs.Contents.{Contents, index_of}
use Rattle.xdp_maps.specs.State.{MapState, contents_at, with_contents}
use Rattle.xdp_maps.specs.Calls.{unless, lookup_of, number_of, update_error_as, delete_error_as, update_number, updated, delete_number, deleted, patched, with_change, number_at as changed_at}
use Rattle.xdp_maps.specs.Operations.{Operation, key_in, left_by, operated}
use Rattle.xdp_maps.specs.Laws.{UpdateLaws, DeleteLaws, EntryLaws, IndexLaws}
use Rattle.cell_core.specs.declared.operator.Operator.TheVariants.{Found, Answer}
use Rattle.cell_core.specs.declared.site.Act.{Act}
use Rattle.cell_core.specs.declared.site.Act.TheVariants as act
use Rattle.cell_core.specs.Cells.{bit, on}
use Rattle.cell_core.specs.Sites.{SiteView, ProgramView, site_at, records, operation_with, bytes_of, change_of, applied, after, found_in, loaded, number_or, read_on, answer_as as sites_answer}
use Rattle.cell_core.specs.Formed.{AllFit}
use Rattle.hazard_core.specs.Tables.{Slot, TableState, decl_of, table_at, slot_at, has_key, used_count, contents_of, maps_of}
use Rattle.hazard_core.specs.StageValues.{access_pointer, Pointer, Null, InSlot, Pending, is_null, StageValues, stage_value, guard_on, asked, asked_key, answer_cell, is_update, is_delete, writes_as, writes, adds_key, takes_key, slot_pointer}
use Rattle.hazard_core.specs.Overlay.{key_pointer, looks, found_pointer, entry_value, answer_over, value_as, update_answer, delete_answer, answer_as}
use Rattle.hazard_core.specs.Commits.{makes_entry, slot_as, committed, taken_after}
use Rattle.hazard_core.specs.Changes.{with_tables, finds_key, reads as reads_as}
use Rattle.hazard_core.specs.Tabled.{AreTables}
use Rattle.hazard_core.specs.Replay.{Replayed, replay_one, replayed, earlier, HoldsReads, says_done, is_access, MapsInTurn, ReadsRight, ReadsInTurn}
use Rattle.hazard_core.proofs.ActsLaws.{recorded}
use Rattle.hazard_core.proofs.Changing.{pointer_stays}
use Rattle.hazard_core.proofs.Slots.{pointer_is, slot_here, slot_other}
use Rattle.hazard_core.proofs.Lookups.{value_of, lookup_is, count_is}
use Rattle.hazard_core.proofs.Effects.{resolve, key_at, value_at, Follows, map_of, key_of}
use Rattle.hazard_core.proofs.Finding.{key_found, values_fold, adds_fold, takes_fold, Reaches, reaches}
use Rattle.hazard_core.proofs.Committing.{Commit, commit}
use Rattle.hazard_core.proofs.Turns.{Reached, all_follow, committed_is}

-- ---- answers

-- the number that was answered is 0 only where nothing was refused
hash_number : (a b c d : Bool) → (cast_unsigned w64 (number_of (if a then Some EINVAL else if b then Some EEXIST else if c then Some ENOENT else if d then Some E2BIG else None)) == 0) ≡ true →
    number_of (if a then Some EINVAL else if b then Some EEXIST else if c then Some ENOENT else if d then Some E2BIG else None) ≡ pos 0
hash_number true b c d e = cc
hash_number false true c d e = cc
hash_number false false true d e = cc
hash_number false false false true e = cc
hash_number false false false false e = refl

array_number : (a b c : Bool) → (cast_unsigned w64 (number_of (if a then Some EINVAL else if b then Some E2BIG else if c then Some EEXIST else None)) == 0) ≡ true →
    number_of (if a then Some EINVAL else if b then Some E2BIG else if c then Some EEXIST else None) ≡ pos 0
array_number true b c e = cc
array_number false true c e = cc
array_number false false true e = cc
array_number false false false e = refl

update_zero : (k : MapKind) (d : MapDecl) (plus minus : ℕ) (present : Bool) (key : List ℕ) (flags : ℕ) → (cast_unsigned w64 (update_answer k d plus minus present key flags) == 0) ≡ true → update_answer k d plus minus present key flags ≡ pos 0
update_zero Hash d plus minus present key flags e = hash_number (nat_lt 2 flags) ((flags == 1) && present) ((flags == 2) && not present) (not present && nat_le (d.cap + minus) plus) e
update_zero Array d plus minus present key flags e = array_number (nat_lt 2 flags) (nat_le d.cap (index_of key)) (flags == 1) e

delete_zero : (k : MapKind) (present : Bool) → (cast_unsigned w64 (delete_answer k present) == 0) ≡ true → delete_answer k present ≡ pos 0
delete_zero Hash true e = refl
delete_zero Hash false e = cc
delete_zero Array present e = cc

not_zero : (n : ℤ) → (cast_unsigned w64 n == 0) ≡ false → n ≢ pos 0
not_zero n e z = no (sym (ap (λ m. cast_unsigned w64 m == 0) z) ∙ e)
  where
    no : true ≡ false → ⊥
    no e = cc

some_value : (slots : List Slot) (taken : List ℕ) (u : Pointer) → is_some (value_of slots (resolve taken u)) ≡ not (is_null u)
some_value slots taken Null = refl
some_value slots taken (InSlot n) = refl
some_value slots taken (Pending i) = refl

same_le : (a b c d : ℕ) → c + b ≡ a + d → nat_le a b ≡ nat_le c d
same_le a b c d e = by (nat_le a b) (nat_le c d) refl refl
  where
    by : (x y : Bool) → nat_le a b ≡ x → nat_le c d ≡ y → x ≡ y
    by true true p q = refl
    by false false p q = refl
    by true false p q = let m : a ≤ b = grind (arith, nat_tests) in let n : d < c = grind (arith, nat_tests) in absurd (omega (arith, m, n, e))
    by false true p q = let m : b < a = grind (arith, nat_tests) in let n : c ≤ d = grind (arith, nat_tests) in absurd (omega (arith, m, n, e))

-- ---- what an operation leaves of one map

record Leaves (d : MapDecl) (slots : List Slot) (op : Operation) (us : List Slot) (key : List ℕ) : Type 0 where
  own : value_of us (slot_pointer us key) ≡ lookup_of (left_by d (contents_of slots) op) key
  others : (q : List ℕ) → q ≢ key → value_of us (slot_pointer us q) ≡ lookup_of (contents_of slots) q
  kept : (q : List ℕ) → q ≢ key → lookup_of (left_by d (contents_of slots) op) q ≡ lookup_of (contents_of slots) q

leaves_same : (d : MapDecl) (slots : List Slot) (op : Operation) (us : List Slot) (key : List ℕ) → Leaves d slots op us key → contents_of us ≡ left_by d (contents_of slots) op
leaves_same d slots op us key l = same_map nat_list_cmp_total (slice_cmp-IsAntisymmetric nat_cmp-IsAntisymmetric) (contents_of us) (left_by d (contents_of slots) op) (λ q. lookup_is us q ∙ by q (bytes_eq q key) refl)
  where
    no : false ≡ true → ⊥
    no e = cc

    by : (q : List ℕ) (c : Bool) → bytes_eq q key ≡ c → value_of us (slot_pointer us q) ≡ lookup_of (left_by d (contents_of slots) op) q
    by q true e = let same : q ≡ key = (bytes_eq-Decides q key).0 e in subst (λ k. value_of us (slot_pointer us k) ≡ lookup_of (left_by d (contents_of slots) op) k) (sym same) l.own
    by q false e = let other : q ≢ key = λ s. no (sym e ∙ (bytes_eq-Decides q key).1 s) in l.others q other ∙ sym (l.kept q other)

taken_next : (v : ℕ → ℕ) (maps : MapState) (j : ℕ) (ss : List SiteView) → j < length ss → after v maps (take (suc j) ss) ≡ applied v (after v maps (take j ss)) (site_at ss j)
taken_next v maps j [] l = absurd (omega (arith, l))
taken_next v maps zero (s ∷ ss) l = refl
taken_next v maps (suc j) (s ∷ ss) l = taken_next v (applied v maps s) j ss (omega (arith, l))

module _ (updates : (d : MapDecl) (c : Contents) (key value : List ℕ) (flags : ℕ) → UpdateLaws d c key value flags) (deletes : (d : MapDecl) (c : Contents) (key : List ℕ) → DeleteLaws d c key) (entries : (c : Contents) (key : List ℕ) (f : List ℕ → List ℕ) → EntryLaws c key f)
    (laws : IndexLaws) (p : ProgramView) (t : TableState) (h : StageValues) (base : AreTables t) (fit : AllFit t.decls p.sites) (reads : HoldsReads p t h) where
  module _ (j : ℕ) (ts : List (List Slot)) (taken : List ℕ) (l : j < length p.sites) (f : Follows p t h j ts taken) (guard : guard_on h (site_at p.sites j) ≡ true) where
    abbrev slots : List Slot
    slots = get_or ts (map_of p t h j) []

    abbrev d : MapDecl
    d = decl_of t.decls (map_of p t h j)

    abbrev c : Contents
    c = contents_of (get_or ts (map_of p t h j) [])

    abbrev key : List ℕ
    key = bytes_of (decl_of t.decls (site_at p.sites j).map).key (map_list (stage_value h) (site_at p.sites j).key)

    abbrev operands : List ℕ
    operands = map_list (stage_value h) (site_at p.sites j).operands

    abbrev flags : ℕ
    flags = slice_index operands 0

    abbrev value : List ℕ
    value = bytes_of (decl_of t.decls (site_at p.sites j).map).value (drop 1 operands)

    abbrev asked_as : Act → Operation
    asked_as a = operation_with (decl_of t.decls (site_at p.sites j).map) a (map_list (stage_value h) (site_at p.sites j).key) (map_list (stage_value h) (site_at p.sites j).operands)

    in_map : map_of p t h j < length t.decls
    in_map = (fit j l).map

    -- the key is there where the packet finds it
    present_is : map.contains_key (contents_of (get_or ts (map_of p t h j) [])) (key_of p t h j) ≡ not (is_null (key_pointer p t h (earlier p j) j))
    present_is =
        ap is_some (lookup_is slots (key_of p t h j) ∙ ap (value_of slots) (sym (f.keys (map_of p t h j) (key_of p t h j) in_map)))
        ∙ some_value slots taken (key_at p t h (map_of p t h j) (key_of p t h j) j) ∙ ap (λ u. not (is_null u)) (sym (key_found p t h j))

    key_by : (a : Act) → (site_at p.sites j).act ≡ a → key_of p t h j ≡ key_in (asked_as a)
    key_by a is = ap (λ (b : Act). key_in (asked_as b)) is

    abbrev plus : ℕ
    plus = used_count (table_at t (map_of p t h j)) + count_by (adds_key p t.decls h) (earlier p j)

    abbrev minus : ℕ
    minus = count_by (takes_key p t.decls h) (earlier p j)

    -- what the helpers answer on the maps is what the packet answers
    update_same : (site_at p.sites j).act ≡ act.Update → (k : MapKind) → (decl_of t.decls (map_of p t h j)).kind ≡ k →
        update_number (decl_of t.decls (map_of p t h j)) (contents_of (get_or ts (map_of p t h j) [])) key flags ≡ update_answer k (decl_of t.decls (map_of p t h j)) plus minus (not (is_null (key_pointer p t h (earlier p j) j))) key flags
    update_same is Array kind = ap (λ k. number_of (update_error_as k d c key flags)) kind
    update_same is Hash kind =
        let there : map.contains_key c key ≡ not (is_null (key_pointer p t h (earlier p j) j)) = ap (map.contains_key c) (sym (key_by act.Update is)) ∙ present_is in
        let table = f.tables (map_of p t h j) in_map in
        let many : map.len c ≡ used_count slots = count_is slots table.single in
        let a = adds_fold p t h (map_of p t h j) j in
        let b = takes_fold p t h (map_of p t h j) j in
        let z = f.size (map_of p t h j) in_map kind in
        let le : nat_le d.cap (map.len c) ≡ nat_le (d.cap + minus) plus = same_le d.cap (map.len c) (d.cap + minus) plus (omega (arith, many, a, b, z)) in
        ap (λ k. number_of (update_error_as k d c key flags)) kind
        ∙ ap (λ (x : Bool). number_of (if nat_lt 2 flags then Some EINVAL else if (flags == 1) && x then Some EEXIST else if (flags == 2) && not x then Some ENOENT else if not x && nat_le d.cap (map.len c) then Some E2BIG else None)) there
        ∙ ap (λ (y : Bool). number_of (if nat_lt 2 flags then Some EINVAL else if (flags == 1) && not (is_null (key_pointer p t h (earlier p j) j)) then Some EEXIST else if (flags == 2) && not (not (is_null (key_pointer p t h (earlier p j) j))) then Some ENOENT else if not (not (is_null (key_pointer p t h (earlier p j) j))) && y then Some E2BIG else None)) le

    delete_same : (site_at p.sites j).act ≡ act.Delete → (k : MapKind) → (decl_of t.decls (map_of p t h j)).kind ≡ k → delete_number (decl_of t.decls (map_of p t h j)) (contents_of (get_or ts (map_of p t h j) [])) key ≡ delete_answer k (not (is_null (key_pointer p t h (earlier p j) j)))
    delete_same is Array kind = ap (λ k. number_of (delete_error_as k c key)) kind
    delete_same is Hash kind =
        ap (λ k. number_of (delete_error_as k c key)) kind ∙ ap (λ (x : Bool). number_of (if x then None else Some ENOENT)) (ap (map.contains_key c) (sym (key_by act.Delete is)) ∙ present_is)

    abbrev answered : Act → ℕ
    answered a = answer_as a (asked_as a) p t h (earlier p j) j

    said : says_done (site_at p.sites j).act (decl_of t.decls (map_of p t h j)).kind ≡ true → (a : Act) → (site_at p.sites j).act ≡ a → (answered a == 0) ≡ (stage_value h (answer_cell p.cells j) == 0)
    said says a is = ap (λ (a : Act). answered a == 0) (sym is) ∙ sym (reads.done j l guard says)

    -- ---- what reads find

    found_by : (a : Act) → (site_at p.sites j).act ≡ a → finds_key a ≡ true → bit (if looks (asked_as a) then not (is_null (key_pointer p t h (earlier p j) j)) else false) ≡ bit (found_in (contents_of (get_or ts (map_of p t h j) [])) (asked_as a))
    found_by act.Lookup is y = ap bit (sym present_is ∙ ap (map.contains_key c) (key_by act.Lookup is))
    found_by act.Delete is y = ap bit (sym present_is ∙ ap (map.contains_key c) (key_by act.Delete is))
    found_by act.Update is y =
        ap (λ x. bit (if not (nat_lt 2 flags) then x else false)) (sym present_is ∙ ap (map.contains_key c) (key_by act.Update is)) ∙ ap bit (by (nat_lt 2 flags) (nat_le flags 2) refl refl (map.contains_key c key))
      where
        by : (x y : Bool) → nat_lt 2 flags ≡ x → nat_le flags 2 ≡ y → (z : Bool) → (if not x then z else false) ≡ y && z
        by true false e g z = refl
        by false true e g z = refl
        by true true e g z = let m : 2 < flags = grind (arith, nat_tests) in let n : flags ≤ 2 = grind (arith, nat_tests) in absurd (omega (arith, m, n))
        by false false e g z = let m : flags ≤ 2 = grind (arith, nat_tests) in let n : 2 < flags = grind (arith, nat_tests) in absurd (omega (arith, m, n))
    found_by (act.Load at size) is y = cc
    found_by (act.Store at size) is y = cc
    found_by (act.Atomic at x) is y = cc

    pub found_right : finds_key (site_at p.sites j).act ≡ true → bit (not (is_null (found_pointer p t h (earlier p j) j))) ≡ bit (found_in (contents_of (get_or ts (map_of p t h j) [])) (asked t.decls h (site_at p.sites j)))
    found_right y = ap bit (by (looks (asked t.decls h (site_at p.sites j)))) ∙ found_by (site_at p.sites j).act refl y
      where
        by : (x : Bool) → not (is_null (if x then key_pointer p t h (earlier p j) j else Null)) ≡ (if x then not (is_null (key_pointer p t h (earlier p j) j)) else false)
        by true = refl
        by false = refl

    -- the entry that an access goes to
    record Entry : Type 0 where
      n : ℕ
      some : is_null (access_pointer h (site_at p.sites j)) ≡ false
      seen : entry_value p t h (earlier p j) (site_at p.sites j).map (access_pointer h (site_at p.sites j)) ≡ (slot_at (get_or ts (map_of p t h j) []) n).value
      there : lookup_of (contents_of (get_or ts (map_of p t h j) [])) (key_of p t h j) ≡ Some (slot_at (get_or ts (map_of p t h j) []) n).value

    entry : is_access (site_at p.sites j).act ≡ true → Entry
    entry y = by (key_at p t h (map_of p t h j) (key_of p t h j) j) refl
      where
        r : Reaches p t h j
        r = reaches p t h reads j l (reads.accesses j l guard y)

        at_slot : (n : ℕ) → resolve taken (key_at p t h (map_of p t h j) (key_of p t h j) j) ≡ InSlot n → Entry
        at_slot n e = record {
          n = n;
          some = r.some;
          seen = values_fold p t h (map_of p t h j) (access_pointer h (site_at p.sites j)) j ∙ ap (λ u. value_at p t h (map_of p t h j) u j) r.at ∙ f.values (map_of p t h j) (key_of p t h j) n in_map e;
          there = lookup_is slots (key_of p t h j) ∙ ap (value_of slots) (sym (f.keys (map_of p t h j) (key_of p t h j) in_map) ∙ e);
        }

        by : (u : Pointer) → key_at p t h (map_of p t h j) (key_of p t h j) j ≡ u → Entry
        by Null e = absurd (no_null (sym r.some ∙ ap is_null (r.at ∙ e)))
          where
            no_null : false ≡ true → ⊥
            no_null e = cc
        by (InSlot n) e = at_slot n (ap (resolve taken) e)
        by (Pending i) e = at_slot (slice_index taken i) (ap (resolve taken) e)

    answer_by : (a : Act) → (site_at p.sites j).act ≡ a → reads_as a ≡ true → answered a ≡ sites_answer a (decl_of t.decls (map_of p t h j)) (contents_of (get_or ts (map_of p t h j) [])) (asked_as a)
    answer_by act.Lookup is y = ap bit (sym present_is ∙ ap (map.contains_key c) (key_by act.Lookup is))
    answer_by act.Update is y = ap (cast_unsigned w64) (sym (update_same is d.kind refl))
    answer_by act.Delete is y = ap (cast_unsigned w64) (sym (delete_same is d.kind refl))
    answer_by (act.Load at size) is y =
        let e = entry (ap is_access is) in
        ap (λ (x : Bool). if x then 0 else number_at size at (entry_value p t h (earlier p j) (site_at p.sites j).map (access_pointer h (site_at p.sites j)))) e.some ∙ ap (number_at size at) e.seen
        ∙ sym (ap (λ k. loaded at size (lookup_of c k)) (sym (key_by (act.Load at size) is)) ∙ ap (loaded at size) e.there)
    answer_by (act.Atomic at x) is y =
        let e = entry (ap is_access is) in
        ap (λ (z : Bool). if z then 0 else changed_at x.wide at (entry_value p t h (earlier p j) (site_at p.sites j).map (access_pointer h (site_at p.sites j)))) e.some ∙ ap (changed_at x.wide at) e.seen
        ∙ sym (ap (λ k. number_or (option_map (changed_at x.wide at) (lookup_of c k))) (sym (key_by (act.Atomic at x) is)) ∙ ap (λ o. number_or (option_map (changed_at x.wide at) o)) e.there)
    answer_by (act.Store at size) is y = cc

    pub answer_right : reads_as (site_at p.sites j).act ≡ true → answer_over p t h (earlier p j) j ≡ sites_answer (site_at p.sites j).act (decl_of t.decls (map_of p t h j)) (contents_of (get_or ts (map_of p t h j) [])) (asked t.decls h (site_at p.sites j))
    answer_right y = answer_by (site_at p.sites j).act refl y

    -- an operation that does not write leaves its map as it is
    idle_left : (a : Act) → (site_at p.sites j).act ≡ a → (k : MapKind) → (decl_of t.decls (map_of p t h j)).kind ≡ k → writes_as a k (stage_value h (answer_cell p.cells j)) ≡ false →
        left_by (decl_of t.decls (map_of p t h j)) (contents_of (get_or ts (map_of p t h j) [])) (asked_as a) ≡ contents_of (get_or ts (map_of p t h j) [])
    idle_left act.Update is k kind w =
        let said_no = said (ap (λ (a : Act). says_done a d.kind) is) act.Update is ∙ w in
        (updates d c key value flags).refused (λ z. not_zero (update_answer d.kind d plus minus (not (is_null (key_pointer p t h (earlier p j) j))) key flags) said_no (sym (update_same is d.kind refl) ∙ z))
    idle_left act.Delete is Hash kind w =
        let said_no = said (ap (λ (a : Act). says_done a d.kind) is ∙ ap (says_done act.Delete) kind) act.Delete is ∙ w in
        (deletes d c key).refused (λ z. not_zero (delete_answer d.kind (not (is_null (key_pointer p t h (earlier p j) j)))) said_no (sym (delete_same is d.kind refl) ∙ z))
    idle_left act.Delete is Array kind w = ap (λ k. unless (delete_error_as k c key) c (map.remove c key)) kind
    idle_left act.Lookup is k kind w = refl
    idle_left (act.Load at size) is k kind w = refl
    idle_left (act.Store at size) is k kind w = cc
    idle_left (act.Atomic at x) is k kind w = cc

    -- ---- one that does
    module _ (on : writes p t.decls h j ≡ true) (e : Commit laws p t h base fit reads j ts taken) where
      abbrev us : List Slot
      us = slice_set (get_or ts (map_of p t h j) []) e.n e.s

      in_slots : e.n < length (get_or ts (map_of p t h j) [])
      in_slots = e.effect.fits.in_range

      value_by : (a : Act) → is_delete a ≡ false → (mk : Bool) (op : Operation) (k : List ℕ) (x : Slot) → (slot_as a mk op k x).value ≡ value_as op x.value
      value_by act.Update stays_in true op k x = refl
      value_by act.Update stays_in false op k x = refl
      value_by act.Delete stays_in mk op k x = cc
      value_by act.Lookup stays_in mk op k x = refl
      value_by (act.Load at size) stays_in mk op k x = refl
      value_by (act.Store at size) stays_in mk op k x = refl
      value_by (act.Atomic at z) stays_in mk op k x = refl

      -- the value under the key, where stays_in entry is taken away
      written : (a : Act) → (site_at p.sites j).act ≡ a → is_delete a ≡ false → value_of us (slot_pointer us (key_of p t h j)) ≡ Some (value_as (asked_as a) (slot_at slots e.n).value)
      written a is stays =
          let stays_in : is_delete (site_at p.sites j).act ≡ false = ap is_delete is ∙ stays in
          ap (value_of us) (e.lands stays_in) ∙ ap (λ (x : Slot). Some x.value) (slot_here slots e.n e.s in_slots) ∙ ap (λ (x : Slot). Some x.value) (sym e.new)
          ∙ ap Some (value_by (site_at p.sites j).act stays_in (makes_entry p (with_tables t ts) h j) (asked t.decls h (site_at p.sites j)) (asked_key t.decls h (site_at p.sites j)) (slot_at slots e.n))
          ∙ ap (λ (b : Act). Some (value_as (asked_as b) (slot_at slots e.n).value)) is

      stood_value : (a : Act) → (site_at p.sites j).act ≡ a → is_update a ≡ false → lookup_of c (key_of p t h j) ≡ Some (slot_at slots e.n).value
      stood_value a is stays_in = lookup_is slots (key_of p t h j) ∙ ap (value_of slots) (e.stood (ap is_update is ∙ stays_in))

      other_value : (q : List ℕ) → q ≢ key_of p t h j → (u : Pointer) → slot_pointer (get_or ts (map_of p t h j) []) q ≡ u → value_of us u ≡ value_of (get_or ts (map_of p t h j) []) u
      other_value q other Null at = refl
      other_value q other (Pending i) at = refl
      other_value q other (InSlot m) at =
          let st = pointer_is slots q m at in
          let away : m ≢ e.n = λ z. no (sym (e.effect.only q other) ∙ ap (λ x. has_key q (slot_at slots x)) (sym z) ∙ st.has) in
          ap (λ (x : Slot). Some x.value) (slot_other slots e.n m e.s away)
        where
          no : false ≡ true → ⊥
          no e = cc

      others_left : (q : List ℕ) → q ≢ key_of p t h j → value_of us (slot_pointer us q) ≡ lookup_of c q
      others_left q other = ap (value_of us) (pointer_stays slots e.n e.s q in_slots (e.effect.others q other)) ∙ other_value q other (slot_pointer slots q) refl ∙ sym (lookup_is slots q)

      kept_left : (a : Act) → (site_at p.sites j).act ≡ a → (q : List ℕ) → q ≢ key_of p t h j → lookup_of (left_by d c (asked_as a)) q ≡ lookup_of c q
      kept_left act.Update is q other = (updates d c key value flags).other_keys q (λ z. other (z ∙ sym (key_by act.Update is)))
      kept_left act.Delete is q other = (deletes d c key).other_keys q (λ z. other (z ∙ sym (key_by act.Delete is)))
      kept_left act.Lookup is q other = refl
      kept_left (act.Load at size) is q other = refl
      kept_left (act.Store at size) is q other = (entries c key (λ v. patched v at (little_bytes (bytes_in size) (slice_index operands 0)))).other_keys q (λ z. other (z ∙ sym (key_by (act.Store at size) is)))
      kept_left (act.Atomic at x) is q other = (entries c key (with_change (change_of x (slice_index operands 0) (slice_index operands 1)) at)).other_keys q (λ z. other (z ∙ sym (key_by (act.Atomic at x) is)))

      own_left : (a : Act) → (site_at p.sites j).act ≡ a → (k : MapKind) → (decl_of t.decls (map_of p t h j)).kind ≡ k → writes_as a k (stage_value h (answer_cell p.cells j)) ≡ true →
          value_of us (slot_pointer us (key_of p t h j)) ≡ lookup_of (left_by d c (asked_as a)) (key_of p t h j)
      own_left act.Update is k kind w =
          let said_yes = said (ap (λ (a : Act). says_done a d.kind) is) act.Update is ∙ w in
          let zero_number = update_same is d.kind refl ∙ update_zero d.kind d plus minus (not (is_null (key_pointer p t h (earlier p j) j))) key flags said_yes in
          written act.Update is refl ∙ sym (ap (lookup_of (updated d c key value flags)) (key_by act.Update is) ∙ (updates d c key value flags).same_key zero_number)
      own_left act.Delete is Hash kind w =
          let said_yes = said (ap (λ (a : Act). says_done a d.kind) is ∙ ap (says_done act.Delete) kind) act.Delete is ∙ w in
          let zero_number = delete_same is d.kind refl ∙ delete_zero d.kind (not (is_null (key_pointer p t h (earlier p j) j))) said_yes in
          ap (value_of us) (e.gone (ap is_delete is)) ∙ sym (ap (lookup_of (deleted d c key)) (key_by act.Delete is) ∙ (deletes d c key).same_key zero_number)
      own_left act.Delete is Array kind w = cc
      own_left act.Lookup is k kind w = cc
      own_left (act.Load at size) is k kind w = cc
      own_left (act.Store at size) is k kind w =
          let f = λ (v : List ℕ). patched v at (little_bytes (bytes_in size) (slice_index operands 0)) in
          written (act.Store at size) is refl ∙ sym (ap (lookup_of (left_by d c (asked_as (act.Store at size)))) (key_by (act.Store at size) is) ∙ (entries c key f).same_key ∙ ap (λ k. option_map f (lookup_of c k)) (sym (key_by (act.Store at size) is))
          ∙ ap (option_map f) (stood_value (act.Store at size) is refl))
      own_left (act.Atomic at x) is k kind w =
          let f = with_change (change_of x (slice_index operands 0) (slice_index operands 1)) at in
          written (act.Atomic at x) is refl ∙ sym (ap (lookup_of (left_by d c (asked_as (act.Atomic at x)))) (key_by (act.Atomic at x) is) ∙ (entries c key f).same_key ∙ ap (λ k. option_map f (lookup_of c k)) (sym (key_by (act.Atomic at x) is))
          ∙ ap (option_map f) (stood_value (act.Atomic at x) is refl))

      written_left : contents_of us ≡ left_by d c (asked t.decls h (site_at p.sites j))
      written_left = leaves_same d slots (asked t.decls h (site_at p.sites j)) us (key_of p t h j) (record {
        own = own_left (site_at p.sites j).act refl d.kind refl (and_parts (guard_on h (site_at p.sites j)) (writes_as (site_at p.sites j).act (decl_of t.decls (site_at p.sites j).map).kind (stage_value h (answer_cell p.cells j))) on).1;
        others = others_left;
        kept = kept_left (site_at p.sites j).act refl;
      })

  -- ---- all maps

  contents_are : (ts : List (List Slot)) (m : ℕ) → contents_at (maps_of (with_tables t ts)) m ≡ contents_of (get_or ts m [])
  contents_are ts m = get_or-map contents_of ts m []

  same_maps : (ts : List (List Slot)) (m : ℕ) → with_contents (maps_of (with_tables t ts)) m (contents_at (maps_of (with_tables t ts)) m) ≡ maps_of (with_tables t ts)
  same_maps ts m = ap (λ (cs : List Contents). record { decls = t.decls; contents = cs }) (set-get_or (map_list contents_of ts) m map.empty)

  idle_maps : (j : ℕ) (ts : List (List Slot)) (taken : List ℕ) → j < length p.sites → Follows p t h j ts taken → writes p t.decls h j ≡ false → applied (stage_value h) (maps_of (with_tables t ts)) (site_at p.sites j) ≡ maps_of (with_tables t ts)
  idle_maps j ts taken l f idle = by (records (site_at p.sites j).act) (guard_on h (site_at p.sites j)) refl
    where
      s : SiteView
      s = site_at p.sites j

      left : guard_on h (site_at p.sites j) ≡ true → left_by (decl_of t.decls (site_at p.sites j).map) (contents_at (maps_of (with_tables t ts)) (site_at p.sites j).map) (asked t.decls h (site_at p.sites j)) ≡ contents_at (maps_of (with_tables t ts)) (site_at p.sites j).map
      left g =
          let no : writes_as s.act (decl_of t.decls s.map).kind (stage_value h (answer_cell p.cells j)) ≡ false = ap (λ c. c && writes_as s.act (decl_of t.decls s.map).kind (stage_value h (answer_cell p.cells j))) (sym g) ∙ idle in
          ap (λ c. left_by (decl_of t.decls s.map) c (asked t.decls h s)) (contents_are ts s.map) ∙ idle_left j ts taken l f g s.act refl (decl_of t.decls s.map).kind refl no ∙ sym (contents_are ts s.map)

      by : (c g : Bool) → guard_on h (site_at p.sites j) ≡ g → (if c && g then operated (maps_of (with_tables t ts)) (site_at p.sites j).map (asked t.decls h (site_at p.sites j)) else maps_of (with_tables t ts)) ≡ maps_of (with_tables t ts)
      by true true q = ap (with_contents (maps_of (with_tables t ts)) s.map) (left q) ∙ same_maps ts s.map
      by true false q = refl
      by false g q = refl

  written_maps : (j : ℕ) (ts : List (List Slot)) (taken : List ℕ) (l : j < length p.sites) (f : Follows p t h j ts taken) (on : writes p t.decls h j ≡ true) (e : Commit laws p t h base fit reads j ts taken) →
      maps_of (with_tables t (slice_set ts (map_of p t h j) (slice_set (get_or ts (map_of p t h j) []) e.n e.s))) ≡ applied (stage_value h) (maps_of (with_tables t ts)) (site_at p.sites j)
  written_maps j ts taken l f on e =
      let s = site_at p.sites j in
      let m = map_of p t h j in
      let us = slice_set (get_or ts m []) e.n e.s in
      let parts = and_parts (guard_on h s) (writes_as s.act (decl_of t.decls s.map).kind (stage_value h (answer_cell p.cells j))) on in
      ap (λ (cs : List Contents). record { decls = t.decls; contents = cs }) (map-set contents_of ts m us)
      ∙ ap (λ c. with_contents (maps_of (with_tables t ts)) m c) (written_left j ts taken l f parts.0 on e ∙ ap (λ c. left_by (decl_of t.decls m) c (asked t.decls h s)) (sym (contents_are ts m)))
      ∙ sym (ap (λ (c : Bool). if c && guard_on h s then operated (maps_of (with_tables t ts)) s.map (asked t.decls h s) else maps_of (with_tables t ts)) (recorded s.act (decl_of t.decls s.map).kind (stage_value h (answer_cell p.cells j)) parts.1)
      ∙ ap (λ (c : Bool). if c then operated (maps_of (with_tables t ts)) s.map (asked t.decls h s) else maps_of (with_tables t ts)) parts.0)

  one_maps : (j : ℕ) (r : Replayed) → j < length p.sites → Reached p t h j r → maps_of (replay_one p h r j).tables ≡ applied (stage_value h) (maps_of r.tables) (site_at p.sites j)
  one_maps j r l q = by (writes p r.tables.decls h j) (ap (λ (v : TableState). writes p v.decls h j) q.is)
    where
      by : (c : Bool) → c ≡ writes p t.decls h j → maps_of (if c then record { tables = committed p r.tables r.taken h j; taken = taken_after p r.tables r.taken h j } else r).tables ≡ applied (stage_value h) (maps_of r.tables) (site_at p.sites j)
      by true e =
          let k = commit laws p t h base fit reads j q.ts r.taken l q.follows (sym e) in
          ap maps_of (ap (λ v. committed p v r.taken h j) q.is ∙ committed_is laws p t h base fit reads j q.ts r.taken k) ∙ written_maps j q.ts r.taken l q.follows (sym e) k
          ∙ ap (λ v. applied (stage_value h) (maps_of v) (site_at p.sites j)) (sym q.is)
      by false e = ap maps_of q.is ∙ sym (idle_maps j q.ts r.taken l q.follows (sym e)) ∙ ap (λ v. applied (stage_value h) (maps_of v) (site_at p.sites j)) (sym q.is)

  all_maps : (taken : List ℕ) → length taken ≡ length p.sites → (j : ℕ) → j ≤ length p.sites → maps_of (replayed p h (record { tables = t; taken = taken }) j).tables ≡ after (stage_value h) (maps_of t) (take j p.sites)
  all_maps taken long zero l = refl
  all_maps taken long (suc j) l =
      let r = replayed p h (record { tables = t; taken = taken }) j in
      one_maps j r (omega (arith, l)) (all_follow laws p t h base fit reads taken long j (omega (arith, l)))
      ∙ ap (λ m. applied (stage_value h) m (site_at p.sites j)) (all_maps taken long j (omega (arith, l))) ∙ sym (taken_next (stage_value h) (maps_of t) j p.sites (omega (arith, l)))

  reads_right : (taken : List ℕ) → length taken ≡ length p.sites → (j : ℕ) → j < length p.sites → guard_on h (site_at p.sites j) ≡ true → ReadsRight p t h j
  reads_right taken long j l guard =
      let r = replayed p h (record { tables = t; taken = taken }) j in
      let q = all_follow laws p t h base fit reads taken long j (omega (arith, l)) in
      let s = site_at p.sites j in
      let maps_are : maps_of (with_tables t q.ts) ≡ after (stage_value h) (maps_of t) (take j p.sites) = sym (ap maps_of q.is) ∙ all_maps taken long j (omega (arith, l)) in
      record {
        found = λ y. found_right j q.ts r.taken l q.follows guard y ∙ ap (λ c. bit (found_in c (asked t.decls h s))) (sym (contents_are q.ts s.map)) ∙ ap (λ m. read_on (stage_value h) m s (Found j)) maps_are;
        answer = λ y. answer_right j q.ts r.taken l q.follows guard y ∙ ap (λ c. sites_answer s.act (decl_of t.decls s.map) c (asked t.decls h s)) (sym (contents_are q.ts s.map)) ∙ ap (λ m. read_on (stage_value h) m s (Answer j)) maps_are;
      }

pub reads_in_turn : ((d : MapDecl) (c : Contents) (key value : List ℕ) (flags : ℕ) → UpdateLaws d c key value flags) → ((d : MapDecl) (c : Contents) (key : List ℕ) → DeleteLaws d c key) →
    ((c : Contents) (key : List ℕ) (f : List ℕ → List ℕ) → EntryLaws c key f) → IndexLaws → ReadsInTurn
reads_in_turn updates deletes entries laws p t h base fit reads j l guard = reads_right updates deletes entries laws p t h base fit reads (replicate (length p.sites) 0) (length-replicate (length p.sites) 0) j l guard

pub maps_in_turn : ((d : MapDecl) (c : Contents) (key value : List ℕ) (flags : ℕ) → UpdateLaws d c key value flags) → ((d : MapDecl) (c : Contents) (key : List ℕ) → DeleteLaws d c key) →
    ((c : Contents) (key : List ℕ) (f : List ℕ → List ℕ) → EntryLaws c key f) → IndexLaws → MapsInTurn
maps_in_turn updates deletes entries laws p t taken h base fit long reads j l = all_maps updates deletes entries laws p t h base fit reads taken long j l
