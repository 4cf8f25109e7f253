-- Contents over a declaration stay so.
use Rattle.std.proofs.Common.{◌≡◌, ◌≢◌, ℕ, ◌+◌, ◌-◌, ◌<◌, ◌≤◌, Bool, true, false, cond, List, length, Some, None, IsTrue, IfSome, is_some, All, ◌⊎◌, inl, inr, refl, sym, ap, subst, ◌∙◌, arith}
use Rattle.std.specs.Ordering.{nat_cmp}
use Rattle.std.specs.Cmp.Lexicographic.{slice_cmp}
use Rattle.std.specs.FinMap as map
use Rattle.std.specs.FinMap.{len-insert, len-remove}
use Rattle.xdp_maps.specs.declared.decl.MapKind.{MapKind}
use Rattle.xdp_maps.specs.declared.decl.MapKind.TheVariants.{Hash, Array}
use Rattle.xdp_maps.specs.declared.decl.MapDecl.{MapDecl}
use Rattle.xdp_maps.specs.Contents.{Contents, IsBytes, IsOver, IsFilled_as, TakesKey, TakesKey_as, index_of}
use Rattle.xdp_maps.specs.Calls.{with_value, patched, update_error, update_error_as, updated, unless, delete_error, delete_error_as, deleted, stored, changed, change_bytes, change_result, number_at, with_change}
use Rattle.xdp_maps.specs.declared.change.Change.{Change}
use Rattle.xdp_maps.proofs.Refusals.{room-hash_refusal, inside-array_refusal}
use Rattle.xdp_maps.proofs.Hashes.{order_total, order_exact}
use Rattle.xdp_maps.proofs.ByteLaws.{IsBytes-patched, IsBytes-little_bytes}
use Rattle.xdp_maps.proofs.Keys.{key_cases, get-insert_same, get-insert_other, get-remove_same, get-remove_other}

cases : (q k : List ℕ) → (q ≡ k) ⊎ (q ≢ k)
cases = key_cases (slice_cmp nat_cmp) order_total order_exact

pub same_insert : (c : Contents) (k v : List ℕ) → map.get (map.insert c k v) k ≡ Some v
same_insert c k v = get-insert_same (slice_cmp nat_cmp) order_total order_exact c k v

pub other_insert : (c : Contents) (k v q : List ℕ) → q ≢ k → map.get (map.insert c k v) q ≡ map.get c q
other_insert c k v q differ = get-insert_other (slice_cmp nat_cmp) order_total order_exact c k v q differ

pub same_remove : (c : Contents) (k : List ℕ) → map.get (map.remove c k) k ≡ None
same_remove c k = get-remove_same (slice_cmp nat_cmp) order_total order_exact c k

pub other_remove : (c : Contents) (k q : List ℕ) → q ≢ k → map.get (map.remove c k) q ≡ map.get c q
other_remove c k q differ = get-remove_other (slice_cmp nat_cmp) order_total order_exact c k q differ

-- there is room for a key
abbrev pub Room_as : MapKind → MapDecl → Contents → List ℕ → Type 0
Room_as Hash d c key = IsTrue (map.contains_key c key) ⊎ (map.len c < d.cap)
Room_as Array d c key = Unit {0}

len_cond : (b : Bool) (n cap : ℕ) → n ≤ cap → IsTrue b ⊎ (n < cap) → cond b n (n + 1) ≤ cap
len_cond true n cap le r = le
len_cond false n cap le (inl h) = cc
len_cond false n cap le (inr lt) = omega arith

filled-insert : (k : MapKind) (d : MapDecl) (c : Contents) (key v : List ℕ) → IsFilled_as k d c → Room_as k d c key → IsFilled_as k d (map.insert c key v)
filled-insert Hash d c key v filled room = subst (λ n. n ≤ d.cap) (sym (len-insert order_total c key v)) (len_cond (map.contains_key c key) (map.len c) d.cap filled room)
filled-insert Array d c key v filled room = λ q takes. elim (cases q key) [
  | inl same ↦ subst (λ p. IsTrue (map.contains_key (map.insert c key v) p)) (sym same) (ap is_some (same_insert c key v))
  | inr differ ↦ ap is_some (other_insert c key v q differ) ∙ filled q takes
]

-- a value of the declared length goes under a key that the map takes
pub insert_over : (d : MapDecl) (c : Contents) (key v : List ℕ) → IsOver d c → TakesKey d key → IsBytes d.value v → Room_as d.kind d c key → IsOver d (map.insert c key v)
insert_over d c key v over takes fits room = record {
  keys = λ q there. elim (cases q key) [
    | inl same ↦ subst (TakesKey d) (sym same) takes
    | inr differ ↦ over.keys q (sym (ap is_some (other_insert c key v q differ)) ∙ there)
  ];
  values = λ q. elim (cases q key) [
    | inl same ↦ subst (λ p. IfSome (map.get (map.insert c key v) p) (IsBytes d.value)) (sym same) (subst (λ o. IfSome o (IsBytes d.value)) (sym (same_insert c key v)) fits)
    | inr differ ↦ subst (λ o. IfSome o (IsBytes d.value)) (sym (other_insert c key v q differ)) (over.values q)
  ];
  filled = filled-insert d.kind d c key v over.filled room;
}

cond_le : (b : Bool) (n : ℕ) → cond b (n - 1) n ≤ n
cond_le true n = omega arith
cond_le false n = omega arith

-- a hash loses a key
pub remove_over : (d : MapDecl) (c : Contents) (key : List ℕ) → d.kind ≡ Hash → IsOver d c → IsOver d (map.remove c key)
remove_over d c key hash over = record {
  keys = λ q there. elim (cases q key) [
    | inl same ↦ (let gone : map.get (map.remove c key) q ≡ None = subst (λ p. map.get (map.remove c key) p ≡ None) (sym same) (same_remove c key) in let clash : false ≡ true = sym (ap is_some gone) ∙ there in cc)
    | inr differ ↦ over.keys q (sym (ap is_some (other_remove c key q differ)) ∙ there)
  ];
  values = λ q. elim (cases q key) [
    | inl same ↦ subst (λ p. IfSome (map.get (map.remove c key) p) (IsBytes d.value)) (sym same) (subst (λ o. IfSome o (IsBytes d.value)) (sym (same_remove c key)) tt)
    | inr differ ↦ subst (λ o. IfSome o (IsBytes d.value)) (sym (other_remove c key q differ)) (over.values q)
  ];
  filled =
      let old : map.len c ≤ d.cap = subst (λ k. IsFilled_as k d c) hash over.filled in
      let less = cond_le (map.contains_key c key) (map.len c) in
      let new : map.len (map.remove c key) ≤ d.cap = subst (λ n. n ≤ d.cap) (sym (len-remove order_total c key)) (omega arith) in
      subst (λ k. IsFilled_as k d (map.remove c key)) (sym hash) new;
}

room_there : (k : MapKind) (d : MapDecl) (c : Contents) (key : List ℕ) → IsTrue (map.contains_key c key) → Room_as k d c key
room_there Hash d c key there = inl there
room_there Array d c key there = tt

-- a value is made anew under its key
pub with_value_over : (d : MapDecl) (c : Contents) (key : List ℕ) (f : List ℕ → List ℕ) → IsOver d c → ((v : List ℕ) → IsBytes d.value v → IsBytes d.value (f v)) → IsOver d (with_value c key f (map.get c key))
with_value_over d c key f over keeps =
    elim (map.get c key) as (λ o. map.get c key ≡ o → IsOver d (with_value c key f o)) [
      | None ↦ λ _. over
      | Some v ↦ λ is.
          let there : IsTrue (map.contains_key c key) = ap is_some is in
          let fits : IsBytes d.value v = subst (λ o. IfSome o (IsBytes d.value)) is (over.values key) in
          insert_over d c key (f v) over (over.keys key there) (keeps v fits) (room_there d.kind d c key there)
    ] refl

-- no update is refused where an index is past the array
takes_updated : (k : MapKind) (d : MapDecl) (c : Contents) (key : List ℕ) (flags : ℕ) → update_error_as k d c key flags ≡ None → TakesKey_as k d key × Room_as k d c key
takes_updated Hash d c key flags taken = (tt, room-hash_refusal d.cap (map.len c) (map.contains_key c key) flags taken)
takes_updated Array d c key flags taken = (inside-array_refusal d.cap (index_of key) flags taken, tt)

pub updated_over : (d : MapDecl) (c : Contents) (key value : List ℕ) (flags : ℕ) → IsOver d c → IsBytes d.key key → IsBytes d.value value → IsOver d (updated d c key value flags)
updated_over d c key value flags over key_fits value_fits =
    elim (update_error d c key flags) as (λ e. update_error d c key flags ≡ e → IsOver d (unless e c (map.insert c key value))) [
      | None ↦ λ taken.
          let ok = takes_updated d.kind d c key flags taken in
          insert_over d c key value over (key_fits, ok.0) value_fits ok.1
      | Some e ↦ λ _. over
    ] refl

deleted_hash : (k : MapKind) (c : Contents) (key : List ℕ) → delete_error_as k c key ≡ None → k ≡ Hash
deleted_hash Hash c key h = refl
deleted_hash Array c key h = cc

pub deleted_over : (d : MapDecl) (c : Contents) (key : List ℕ) → IsOver d c → IsOver d (deleted d c key)
deleted_over d c key over =
    elim (delete_error d c key) as (λ e. delete_error d c key ≡ e → IsOver d (unless e c (map.remove c key))) [
      | None ↦ λ taken. remove_over d c key (deleted_hash d.kind c key taken) over
      | Some e ↦ λ _. over
    ] refl

pub stored_over : (d : MapDecl) (c : Contents) (key : List ℕ) (at : ℕ) (bytes : List ℕ) → IsOver d c → at + length bytes ≤ d.value → All (λ b. b < 256) bytes → IsOver d (stored c key at bytes)
stored_over d c key at bytes over inside fit = with_value_over d c key (λ v. patched v at bytes) over (λ v old. IsBytes-patched d.value v at bytes old inside fit)

pub changed_over : (d : MapDecl) (c : Contents) (key : List ℕ) (at : ℕ) (x : Change) → IsOver d c → at + change_bytes x.wide ≤ d.value → IsOver d (changed c key at x)
changed_over d c key at x over inside = with_value_over d c key (with_change x at) over (λ v old.
    let new = IsBytes-little_bytes (change_bytes x.wide) (change_result x (number_at x.wide at v)) in
    IsBytes-patched d.value v at _ old (omega (arith, new.len)) new.bytes_fit)
