-- Calls of helpers are sound.
use Rattle.std.proofs.Common.{◌≡◌, ◌≢◌, map as map_list, ℕ, zero, suc, ◌+◌, ◌-◌, ◌/◌, ◌%◌, ◌^◌, ◌==◌, ◌<◌, ◌≤◌, ◌⊎◌, inl, inr, ℤ, pos, ◌+ℤ◌, Bool, true, false, cond, nat_le, nat_lt, refl, sym, ap, ◌∙◌, subst, arith, Option, Some, None, Ok, Err, IfOk, List, [], ◌∷◌, length, get_or, drop, slice_get, is_some}
use Rattle.std.specs.Prelude.{slice_range}
use Rattle.std.specs.Int.{w64, cast_unsigned}
use Rattle.std.specs.FinMap as map
use Rattle.std.proofs.lemmas.List.{get_or-take, get_or-drop, length-take, length-drop, get_or-set_other}
use Rattle.std.proofs.lemmas.Bool.Decides.{nat_tests}
use Rattle.xdp_machine.specs.bpf_isa.declared.helper.Helper.{Helper}
use Rattle.xdp_machine.specs.bpf_isa.declared.helper.Helper.TheVariants as helper
use Rattle.xdp_machine.specs.bpf_isa.Helpers.{helper_of}
use Rattle.xdp_machine.specs.xdp_maps.declared.decl.MapDecl.{MapDecl}
use Rattle.xdp_machine.specs.xdp_maps.declared.decl.MapKind.{MapKind}
use Rattle.xdp_machine.specs.xdp_maps.declared.decl.MapKind.TheVariants.{Hash, Array}
use Rattle.xdp_machine.specs.xdp_maps.Contents.{Contents}
use Rattle.xdp_machine.specs.xdp_maps.State.{MapState, contents_at, with_contents}
use Rattle.xdp_machine.specs.xdp_maps.Calls.{lookup_of, unless, update_error, updated, update_number, delete_error_as, deleted, delete_number}
use Rattle.xdp_machine.specs.Values.{Value}
use Rattle.xdp_machine.specs.Values as is
use Rattle.xdp_machine.specs.State as machine
use Rattle.xdp_machine.specs.State.{Machine}
use Rattle.xdp_machine.specs.Memory.{inside}
use Rattle.xdp_machine.specs.Helpers as helpers
use Rattle.xdp_machine.specs.Step as step
use Rattle.kind_core.specs.declared.number.Number.{Number}
use Rattle.kind_core.specs.NumberBounds.{any_number}
use Rattle.kind_core.specs.declared.kind.Kind.{Kind}
use Rattle.kind_core.specs.declared.kind.Kind.TheVariants.{Unset, Num, Packet, Stack, MapRef, Maybe, Entry, Stale}
use Rattle.kind_core.specs.declared.kind.Kinds.{Kinds}
use Rattle.kind_core.specs.declared.helpers.Argument.TheVariants.{Key, Value as ValueBytes}
use Rattle.kind_core.specs.declared.effects.Effect.{Effect}
use Rattle.kind_core.specs.declared.effects.Effect.TheVariants.{Lookup, Answered, Changed}
use Rattle.kind_core.specs.declared.refinements.Refinement.TheVariants.{IsStale}
use Rattle.xdp_state.specs.declared.refusal.Why.TheVariants as why
use Rattle.kind_core.specs.Kinds.{register, answering, key_in, value_in, hash_in, is_hash_kind, key_bytes, value_bytes, is_hash}
use Rattle.kind_core.specs.Tests.{◌>>=◌, Test, passed, readable, number_in, one_number, all_numbers, within}
use Rattle.kind_core.specs.Places.{in_packet}
use Rattle.kind_core.specs.Calls.{prototype_of, declared, region, plain, fits_argument, argument_fits, change_of, called_as, called}
use Rattle.kind_core.specs.Profile.{in_profile, keeps_stack_end, registers_read, profiled, known_helper}
use Rattle.kind_core.specs.Effects.{effect_as, effect_of}
use Rattle.kind_core.specs.Edges.{refined, refined_all, changed}
use Rattle.kind_core.specs.Describes.{World, Describes, DescribesMachine, IsEntry}
use Rattle.kind_core.specs.Soundness.{Stands, IsNext, CallsAreSound}
use Rattle.xdp_machine.proofs.NumberLaws.{word_of, update_number_fits, delete_number_fits}
use Rattle.kind_core.proofs.Later.{later_machine, next, next_later, looked, looked_later, looked_here}
use Rattle.kind_core.proofs.Sound.{number_of, is_number, any_described}
use Rattle.kind_core.proofs.TestLaws.{bind_ok, bind_passed, within_is}
use Rattle.kind_core.proofs.SoundLoads.{in_packet_is}
use Rattle.kind_core.proofs.MachineSteps.{inside_at}
use Rattle.kind_core.proofs.MachineCalls.{bytes_there, packet_region, stack_region, lookup_there, after_update, after_delete, update_there, delete_there, redirect_there}
use Rattle.kind_core.proofs.Kept.{Present, kept_machine, map_kept, insert_keeps}

-- ---- regions
all_at : (xs : List Kind) → all_numbers xs ≡ passed → (j : ℕ) → j < length xs → (n : Number) × (get_or xs j Unset ≡ Num n)
all_at [] h j below = absurd (omega arith)
all_at (x ∷ xs) h zero below =
    let b = bind_passed (one_number x) (λ _. all_numbers xs) tt h in
    let c = bind_passed (readable x) (λ _. number_in x) b.0 b.1 in
    (b.0, is_number x b.0 c.2)
all_at (x ∷ xs) h (suc j) below =
    let b = bind_passed (one_number x) (λ _. all_numbers xs) tt h in
    all_at xs b.2 j (omega arith)

slot_number : (slots : List Kind) (lo hi s : ℕ) → all_numbers (slice_range slots lo hi) ≡ passed → lo ≤ s → s < hi → hi ≤ length slots → (n : Number) × (get_or slots s Unset ≡ Num n)
slot_number slots lo hi s h p q r =
    let part = slice_range slots lo hi in
    let len : s - lo < length part = simp (length-take, length-drop) (omega arith) in
    let found = all_at part h (s - lo) len in
    let inside : s - lo < hi - lo = omega arith in
    let at : lo + (s - lo) ≡ s = omega arith in
    (found.0, ap (λ j. get_or slots j Unset) (sym at) ∙ (sym (get_or-drop lo slots (s - lo) Unset) ∙ (sym (get_or-take (hi - lo) (drop lo slots) (s - lo) Unset inside) ∙ found.1)))

region_sound : (w : World) (k : Kinds) (m : Machine) (n : ℕ) (x : Kind) (v : Value) → Stands w k m → Describes w m.maps x v → region k n x ≡ passed
    → (bs : List ℕ) × (helpers.region m.stack m.frame n v ≡ Some bs)
region_sound w k m n (Packet o) v st d h =
    let b = bind_passed (in_packet k.checked (pos o) n) (λ _. passed) tt h in
    let i = in_packet_is k.checked (pos o) n b.0 b.1 in
    let checked = st.described.checked in
    let there : nat_le (i.0 + n) (length m.frame) ≡ true = grind (arith, i.3) in
    (slice_range m.frame i.0 (i.0 + n), ap (helpers.region m.stack m.frame n) d ∙ packet_region m.stack m.frame n (pos o) i.0 (ap (λ z. inside z n (length m.frame)) (i.2) ∙ inside_at i.0 n (length m.frame) there))
region_sound w k m n (Stack o) v st d h =
    let b = bind_passed (within (o +ℤ pos 512) n 512) (λ a. all_numbers (slice_range k.slots (a / 8) ((a + n + 7) / 8))) tt h in
    let a = b.0 in
    let i = within_is (o +ℤ pos 512) n 512 a b.1 in
    let all = st.slots ∙ st.stack in
    let room : a + n ≤ 512 = grind (arith, i.1) in
    let end : (a + n + 7) / 8 ≤ length k.slots = omega (arith, all) in
    let bytes = bytes_there m.stack n a (λ j p q.
    let f = slot_number k.slots (a / 8) ((a + n + 7) / 8) (j / 8) b.2 (omega arith) (omega arith) end in
    let u = number_of f.0 (get_or m.stack (j / 8) is.Unset) (subst (λ y. Describes w m.maps y (get_or m.stack (j / 8) is.Unset)) (f.1) (st.described.slots (j / 8))) in
    (u.0, u.1)) in
    (bytes.0, ap (helpers.region m.stack m.frame n) d ∙ stack_region m.stack m.frame n o a bytes.0 (ap (λ z. inside z n 512) (i.0) ∙ inside_at a n 512 (i.1)) (bytes.1))
region_sound w k m n x v st d h = cc

-- ---- arguments
decl_there : (decls : List MapDecl) (q : ℕ) → q < length decls → (d : MapDecl) × (slice_get decls q ≡ Some d)
decl_there [] q h = absurd (omega arith)
decl_there (d ∷ decls) zero h = (d, refl)
decl_there (d ∷ decls) (suc q) h = decl_there decls q (omega arith)

declared_is : (decls : List MapDecl) (x : Kind) (q : ℕ) → declared decls x ≡ Ok q → (x ≡ MapRef q) × (q < length decls)
declared_is decls (MapRef r) q e =
    (elim (nat_lt r (length decls)) as (λ t. cond t (Ok r) (Err why.Argument) ≡ Ok q → (nat_lt r (length decls) ≡ t) → (MapRef r ≡ MapRef q) × (q < length decls)) [
      | true ↦ λ f g. let same : r ≡ q = cc in (ap MapRef same, subst (λ s. s < length decls) same (grind (arith, nat_tests)))
      | false ↦ λ f g. cc
    ]) e refl
declared_is decls x q e = cc

-- the map that R1 refers to
record Refers (k : Kinds) (m : Machine) (q : ℕ) : Type 0 where
  decl : MapDecl
  is_it : declared m.maps.decls (register k 1) ≡ Ok q
  there : slice_get m.maps.decls q ≡ Some decl
  value : machine.register m.registers 1 ≡ is.Map q

refers : (w : World) (k : Kinds) (m : Machine) (q : ℕ) → Stands w k m → declared m.maps.decls (register k 1) ≡ Ok q → Refers k m q
refers w k m q st e =
    let i = declared_is m.maps.decls (register k 1) q e in
    let d = decl_there m.maps.decls q (i.1) in
    record { decl = d.0; is_it = e; there = d.1; value = subst (λ x. Describes w m.maps x (machine.register m.registers 1)) (i.0) (st.described.registers 1) }

key_there : (w : World) (k : Kinds) (m : Machine) (q : ℕ) (f : Refers k m q) (r : ℕ) (u : Unit {0}) → Stands w k m → fits_argument m.maps.decls k Key (register k r) ≡ Ok u
    → (bs : List ℕ) × (helpers.region m.stack m.frame f.decl.key (machine.register m.registers r) ≡ Some bs)
key_there w k m q f r u st e =
    let b = bind_passed (declared m.maps.decls (register k 1)) (λ p. region k (key_bytes m.maps.decls p) (register k r)) u e in
    let same : b.0 ≡ q = cc (b.1, f.is_it) in
    let len : key_bytes m.maps.decls b.0 ≡ f.decl.key = ap (λ p. key_bytes m.maps.decls p) same ∙ ap key_in f.there in
    region_sound w k m f.decl.key (register k r) (machine.register m.registers r) st (st.described.registers r) (subst (λ n. region k n (register k r) ≡ passed) len b.2)

value_there : (w : World) (k : Kinds) (m : Machine) (q : ℕ) (f : Refers k m q) (r : ℕ) (u : Unit {0}) → Stands w k m → fits_argument m.maps.decls k ValueBytes (register k r) ≡ Ok u
    → (bs : List ℕ) × (helpers.region m.stack m.frame f.decl.value (machine.register m.registers r) ≡ Some bs)
value_there w k m q f r u st e =
    let b = bind_passed (declared m.maps.decls (register k 1)) (λ p. region k (value_bytes m.maps.decls p) (register k r)) u e in
    let same : b.0 ≡ q = cc (b.1, f.is_it) in
    let len : value_bytes m.maps.decls b.0 ≡ f.decl.value = ap (λ p. value_bytes m.maps.decls p) same ∙ ap value_in f.there in
    region_sound w k m f.decl.value (register k r) (machine.register m.registers r) st (st.described.registers r) (subst (λ n. region k n (register k r) ≡ passed) len b.2)

is_plain : (x : Kind) (u : Unit {0}) → plain x ≡ Ok u → (n : Number) × (x ≡ Num n)
is_plain (Num n) u e = (n, refl)
is_plain x u e = cc

plain_there : (w : World) (k : Kinds) (m : Machine) (r : ℕ) (u : Unit {0}) → Stands w k m → plain (register k r) ≡ Ok u → (y : ℕ) × (machine.register m.registers r ≡ is.Number y)
plain_there w k m r u st e =
    let n = is_plain (register k r) u e in
    let v = number_of n.0 (machine.register m.registers r) (subst (λ x. Describes w m.maps x (machine.register m.registers r)) (n.1) (st.described.registers r)) in
    (v.0, v.1)

-- ---- after a call
drop_described : (w : World) (maps : MapState) (n : ℕ) (ks : List Kind) (vs : List Value) → length ks ≡ length vs
    → ((s : ℕ) → Describes w maps (get_or ks s Unset) (get_or vs s is.Unset)) → (s : ℕ) → Describes w maps (get_or (drop n ks) s Unset) (get_or (drop n vs) s is.Unset)
drop_described w maps zero ks vs e d s = d s
drop_described w maps (suc n) [] [] e d s = tt
drop_described w maps (suc n) [] (v ∷ vs) e d s = absurd (omega arith)
drop_described w maps (suc n) (k ∷ ks) [] e d s = absurd (omega arith)
drop_described w maps (suc n) (k ∷ ks) (v ∷ vs) e d s = drop_described w maps n ks vs (omega arith) (λ t. d (suc t)) s

answer_described : (w : World) (maps : MapState) (ks : List Kind) (vs : List Value) (x : Kind) (v : Value) → Describes w maps x v
    → ((s : ℕ) → Describes w maps (get_or ks s Unset) (get_or vs s is.Unset))
    → (s : ℕ) → Describes w maps (get_or (x ∷ Unset ∷ Unset ∷ Unset ∷ Unset ∷ Unset ∷ ks) s Unset) (get_or (v ∷ is.Unset ∷ is.Unset ∷ is.Unset ∷ is.Unset ∷ is.Unset ∷ vs) s is.Unset)
answer_described w maps ks vs x v h d zero = h
answer_described w maps ks vs x v h d (suc zero) = tt
answer_described w maps ks vs x v h d (suc (suc zero)) = tt
answer_described w maps ks vs x v h d (suc (suc (suc zero))) = tt
answer_described w maps ks vs x v h d (suc (suc (suc (suc zero)))) = tt
answer_described w maps ks vs x v h d (suc (suc (suc (suc (suc zero))))) = tt
answer_described w maps ks vs x v h d (suc (suc (suc (suc (suc (suc s)))))) = d s

answered_machine : (w : World) (k : Kinds) (m : Machine) (x : Kind) (v : Value) → length k.registers ≡ length m.registers → DescribesMachine w k m → Describes w m.maps x v
    → DescribesMachine w (answering x k) (helpers.answering v m)
answered_machine w k m x v e d h = record {
  registers = answer_described w m.maps (drop 6 k.registers) (drop 6 m.registers) x v h (drop_described w m.maps 6 k.registers m.registers e d.registers);
  slots = d.slots;
  checked = d.checked;
  frame = d.frame;
}

-- what a call leaves
abbrev Leaves : World → Kinds → Option Machine → Effect → Type 0
Leaves w k o e = (n : Machine) × (o ≡ Some n) × ((v : World) × IsNext w v × DescribesMachine v (changed w.node false false k e) n)

-- ---- stale entries
stale_kind : (w : World) (old new : MapState) (q : ℕ) → ((p : ℕ) (key : List ℕ) → p ≢ q → Present (contents_at old p) key → Present (contents_at new p) key)
    → (k : Kind) (v : Value) → Describes w old k v → Describes w new (refined (IsStale q) k) v
stale_kind w old new q h (Maybe r n) v (before, gave, z) =
    (elim (r == q) as (λ t. ((r == q) ≡ t) → Describes w new (cond t Stale (Maybe r n)) v) [
      | true ↦ λ f. elim z [ inl y ↦ inl y | inr (key, there, y) ↦ inr (r, key, pos 0, y) ]
      | false ↦ λ f. let other : r ≢ q = (λ g. grind (arith, nat_tests)) in (before, gave, elim z [ inl y ↦ inl y | inr (key, there, y) ↦ inr (key, h r key other there, y) ])
    ]) refl
stale_kind w old new q h (Entry r o) v (key, there, y) =
    (elim (r == q) as (λ t. ((r == q) ≡ t) → Describes w new (cond t Stale (Entry r o)) v) [
      | true ↦ λ f. inr (r, key, pos o, y)
      | false ↦ λ f. let other : r ≢ q = (λ g. grind (arith, nat_tests)) in (key, h r key other there, y)
    ]) refl
stale_kind w old new q h k v d = d

stale_machine : (w : World) (k : Kinds) (m : Machine) (maps : MapState) (q : ℕ) → ((p : ℕ) (key : List ℕ) → p ≢ q → Present (contents_at m.maps p) key → Present (contents_at maps p) key)
    → DescribesMachine w k m → DescribesMachine w (refined_all (IsStale q) k) (record m { maps = maps })
stale_machine w k m maps q h d = record {
  registers = stale_list k.registers m.registers d.registers;
  slots = stale_list k.slots m.stack d.slots;
  checked = d.checked;
  frame = d.frame;
}
  where
    stale_list : (ks : List Kind) (vs : List Value) → ((s : ℕ) → Describes w m.maps (get_or ks s Unset) (get_or vs s is.Unset))
        → (s : ℕ) → Describes w maps (get_or (map_list (refined (IsStale q)) ks) s Unset) (get_or vs s is.Unset)
    stale_list [] vs e s = tt
    stale_list (x ∷ ks) vs e zero = stale_kind w m.maps maps q h x (get_or vs zero is.Unset) (e zero)
    stale_list (x ∷ ks) [] e (suc s) = stale_list ks [] (λ t. e (suc t)) s
    stale_list (x ∷ ks) (v ∷ vs) e (suc s) = stale_list ks vs (λ t. e (suc t)) s

-- a call that changes a map: its entries are stale where it is a hash, and else its keys stay
change_described : (w : World) (k : Kinds) (m : Machine) (q t : ℕ) (c : Contents) (hash : Bool) → t < 2 ^ 64 → length k.registers ≡ length m.registers → DescribesMachine w k m
    → (hash ≡ false → (key : List ℕ) → Present (contents_at m.maps q) key → Present c key)
    → DescribesMachine (next w) (changed w.node false false k (cond hash (Changed q) Answered)) (helpers.answering (is.Number t) (record m { maps = with_contents m.maps q c }))
change_described w k m q t c true short len d h =
    later_machine w (next w) (refined_all (IsStale q) (answering (Num (any_number 64)) k)) (helpers.answering (is.Number t) (record m { maps = with_contents m.maps q c })) (next_later w)
    (stale_machine w (answering (Num (any_number 64)) k) (helpers.answering (is.Number t) m) (with_contents m.maps q c) q
    (λ p key other there. subst (λ x. Present x key) (sym (get_or-set_other m.maps.contents q p c map.empty other)) there)
    (answered_machine w k m (Num (any_number 64)) (is.Number t) len d (any_described 64 t short)))
change_described w k m q t c false short len d h =
    later_machine w (next w) (answering (Num (any_number 64)) k) (helpers.answering (is.Number t) (record m { maps = with_contents m.maps q c })) (next_later w)
    (kept_machine w (answering (Num (any_number 64)) k) (helpers.answering (is.Number t) m) (with_contents m.maps q c) (map_kept m.maps q c (h refl))
    (answered_machine w k m (Num (any_number 64)) (is.Number t) len d (any_described 64 t short)))

update_keeps : (c : Contents) (key value : List ℕ) (e : Option ℤ) (other : List ℕ) → Present c other → Present (unless e c (map.insert c key value)) other
update_keeps c key value None other h = insert_keeps c key value other h
update_keeps c key value (Some e) other h = h

delete_keeps : (kd : MapKind) (c : Contents) (key : List ℕ) → is_hash_kind kd ≡ false → (other : List ℕ) → Present c other → Present (unless (delete_error_as kd c key) c (map.remove c key)) other
delete_keeps Hash c key e other h = cc
delete_keeps Array c key e other h = h

-- ---- the rows of the table
null_or_entry : (maps : MapState) (q : ℕ) (key : List ℕ) (t : Bool) → is_some (lookup_of (contents_at maps q) key) ≡ t
    → (cond t (is.Entry q key (pos 0)) (is.Number 0) ≡ is.Number 0) ⊎ IsEntry maps q 0 (cond t (is.Entry q key (pos 0)) (is.Number 0))
null_or_entry maps q key true h = inr (key, h, refl)
null_or_entry maps q key false h = inl refl

lookup_sound : (w : World) (k : Kinds) (m : Machine) → Stands w k m → IfOk (called_as m.maps.decls k (prototype_of helper.Lookup)) (Leaves w k (helpers.lookup m))
lookup_sound w k m st =
    let decls = m.maps.decls in
    let h = prototype_of helper.Lookup in
    let P : Effect → Type 0 = Leaves w k (helpers.lookup m) in
    bind_ok (argument_fits decls k h 0) _ P (λ u e.
    bind_ok (argument_fits decls k h 1) _ P (λ u' e'.
    bind_ok (declared decls (register k 1)) (λ q. Ok (Lookup q)) P (λ q f.
    let r = refers w k m q st f in
    let key = key_there w k m q r 2 u' st e' in
    let x = helpers.entry_or_null q key.0 (contents_at m.maps q) in
    let v = looked w x in (
      helpers.answering x m,
      lookup_there m q r.decl key.0 r.value r.there (key.1),
      (
        v,
        (looked_later w x, refl),
        answered_machine v k m (Maybe q w.node) x st.registers (later_machine w v k m (looked_later w x) st.described)
            (omega arith, sym (looked_here w x), null_or_entry m.maps q key.0 (is_some (lookup_of (contents_at m.maps q) key.0)) refl),
      ),
    ))))

update_sound : (w : World) (k : Kinds) (m : Machine) → Stands w k m → IfOk (called_as m.maps.decls k (prototype_of helper.Update)) (Leaves w k (helpers.update m))
update_sound w k m st =
    let decls = m.maps.decls in
    let h = prototype_of helper.Update in
    let P : Effect → Type 0 = Leaves w k (helpers.update m) in
    bind_ok (argument_fits decls k h 0) _ P (λ u e.
    bind_ok (argument_fits decls k h 1) _ P (λ u1 e1.
    bind_ok (argument_fits decls k h 2) _ P (λ u2 e2.
    bind_ok (argument_fits decls k h 3) _ P (λ u3 e3.
    bind_ok (declared decls (register k 1)) (λ q. Ok (change_of decls q)) P (λ q f.
    let r = refers w k m q st f in
    let key = key_there w k m q r 2 u1 st e1 in
    let value = value_there w k m q r 3 u2 st e2 in
    let flags = plain_there w k m 4 u3 st e3 in
    let c = contents_at m.maps q in
    let t = cast_unsigned w64 (update_number r.decl c key.0 flags.0) in (
      after_update m q r.decl key.0 value.0 flags.0,
      update_there m q r.decl key.0 value.0 flags.0 r.value r.there (key.1) (value.1) (flags.1),
      (
        next w,
        (next_later w, refl),
        change_described w k m q t (updated r.decl c key.0 value.0 flags.0) (is_hash decls q) (word_of (update_number r.decl c key.0 flags.0) (update_number_fits r.decl.kind r.decl c key.0 flags.0)) st.registers st.described
            (λ no other there. update_keeps c key.0 value.0 (update_error r.decl c key.0 flags.0) other there),
      ),
    ))))))

delete_sound : (w : World) (k : Kinds) (m : Machine) → Stands w k m → IfOk (called_as m.maps.decls k (prototype_of helper.Delete)) (Leaves w k (helpers.delete m))
delete_sound w k m st =
    let decls = m.maps.decls in
    let h = prototype_of helper.Delete in
    let P : Effect → Type 0 = Leaves w k (helpers.delete m) in
    bind_ok (argument_fits decls k h 0) _ P (λ u e.
    bind_ok (argument_fits decls k h 1) _ P (λ u1 e1.
    bind_ok (declared decls (register k 1)) (λ q. Ok (change_of decls q)) P (λ q f.
    let r = refers w k m q st f in
    let key = key_there w k m q r 2 u1 st e1 in
    let c = contents_at m.maps q in
    let t = cast_unsigned w64 (delete_number r.decl c key.0) in (
      after_delete m q r.decl key.0,
      delete_there m q r.decl key.0 r.value r.there (key.1),
      (
        next w,
        (next_later w, refl),
        change_described w k m q t (deleted r.decl c key.0) (is_hash decls q) (word_of (delete_number r.decl c key.0) (delete_number_fits r.decl.kind c key.0)) st.registers st.described
            (λ no other there. delete_keeps r.decl.kind c key.0 (sym (ap hash_in r.there) ∙ no) other there),
      ),
    ))))

-- a number is answered, and all else stays
number_leaves : (w : World) (k : Kinds) (m : Machine) (n : ℕ) → n < 2 ^ 64 → Stands w k m → Leaves w k (Some (helpers.answering (is.Number n) m)) Answered
number_leaves w k m n short st = (
  helpers.answering (is.Number n) m,
  refl,
  (
    next w,
    (next_later w, refl),
    later_machine w (next w) (answering (Num (any_number 64)) k) (helpers.answering (is.Number n) m) (next_later w)
        (answered_machine w k m (Num (any_number 64)) (is.Number n) st.registers st.described (any_described 64 n short)),
  ),
)

time_sound : (w : World) (k : Kinds) (m : Machine) → Stands w k m → IfOk (called_as m.maps.decls k (prototype_of helper.Time)) (Leaves w k (helpers.packet_time m))
time_sound w k m st = number_leaves w k m m.time st.range.time st

redirected_leaves : (w : World) (k : Kinds) (m : Machine) (a b : ℕ) → Stands w k m → Leaves w k (Some (helpers.redirected a b m)) Answered
redirected_leaves w k m a zero st = (
  helpers.redirected a zero m,
  refl,
  (
    next w,
    (next_later w, refl),
    later_machine w (next w) (answering (Num (any_number 64)) k) (helpers.redirected a zero m) (next_later w)
        (target_machine (a % 2 ^ 32) (answered_machine w k m (Num (any_number 64)) (is.Number 4) st.registers st.described (any_described 64 4 (omega arith)))),
  ),
)
  where
    target_machine : (t : ℕ) → DescribesMachine w (answering (Num (any_number 64)) k) (helpers.answering (is.Number 4) m)
        → DescribesMachine w (answering (Num (any_number 64)) k) (helpers.answering (is.Number 4) (record m { target = t }))
    target_machine t d = record { registers = d.registers; slots = d.slots; checked = d.checked; frame = d.frame }
redirected_leaves w k m a (suc b) st = number_leaves w k m 0 (omega arith) st

redirect_sound : (w : World) (k : Kinds) (m : Machine) → Stands w k m → IfOk (called_as m.maps.decls k (prototype_of helper.Redirect)) (Leaves w k (helpers.redirect m))
redirect_sound w k m st =
    let decls = m.maps.decls in
    let h = prototype_of helper.Redirect in
    let P : Effect → Type 0 = Leaves w k (helpers.redirect m) in
    bind_ok (argument_fits decls k h 0) _ P (λ u e.
    bind_ok (argument_fits decls k h 1) _ P (λ u1 e1.
    let a = plain_there w k m 1 u st e in
    let b = plain_there w k m 2 u1 st e1 in
    subst (λ o. Leaves w k o Answered) (sym (redirect_there m a.0 b.0 (a.1) (b.1))) (redirected_leaves w k m a.0 b.0 st)))

-- ---- all calls
by_helper : (w : World) (k : Kinds) (m : Machine) (id : ℤ) (h : Option Helper) → Stands w k m → IfOk (called m.maps.decls k id h) (Leaves w k (helpers.called h m))
by_helper w k m id (Some helper.Lookup) st = lookup_sound w k m st
by_helper w k m id (Some helper.Update) st = update_sound w k m st
by_helper w k m id (Some helper.Delete) st = delete_sound w k m st
by_helper w k m id (Some helper.Time) st = time_sound w k m st
by_helper w k m id (Some helper.Redirect) st = redirect_sound w k m st
by_helper w k m id None st = tt

source_is : (b : Bool) (t : Test) → cond b t (Err why.Instruction) ≡ passed → b ≡ true
source_is true t h = refl
source_is false t h = cc

pub calls_are_sound : CallsAreSound
unfolding effect_of
calls_are_sound w k m i st op =
    bind_ok (profiled i k) (λ _. effect_as m.maps.decls k i i.op) (Leaves w k (step.calls m i)) (λ u e.
    let a = bind_passed (in_profile i i.op) (λ _. keeps_stack_end i >>= (λ _. registers_read i k)) u e in
    let call = subst (λ p. in_profile i p ≡ passed) op a.1 in
    let source = source_is (i.src == 0) (known_helper i.imm (helper_of i.imm)) call in
    subst (λ p. IfOk (effect_as m.maps.decls k i p) (Leaves w k (step.calls m i))) (sym op)
    (subst (λ o. IfOk (called m.maps.decls k i.imm (helper_of i.imm)) (Leaves w k o)) (sym (ap (λ b. cond b (helpers.called (helper_of i.imm) m) None) source))
    (by_helper w k m i.imm (helper_of i.imm) st)))
