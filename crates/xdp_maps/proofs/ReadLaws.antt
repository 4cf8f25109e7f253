-- What an operation reads decides what it answers and touches.
use Rattle.std.proofs.Common.{◌≡◌, ℕ, ◌<◌, ◌==◌, nat_lt, nat_le, Bool, true, false, not, ◌&&◌, if◌then◌else◌, List, [], ◌∷◌, Option, Some, None, IsTrue, is_some, ℤ, pos, inl, inr, refl, sym, ap, subst, ◌∙◌, arith}
use Rattle.std.specs.Prelude.{All}
use Rattle.std.specs.Option.{option_map}
use Rattle.std.specs.Ordering.{int_eq}
use Rattle.std.proofs.lemmas.Bool.{cases_lt}
use Rattle.std.proofs.lemmas.Bool.Decides.{nat_tests}
use Rattle.std.proofs.lemmas.List.Elements.{All-head, All-tail}
use Rattle.std.specs.FinMap as map
use Rattle.xdp_maps.specs.declared.change.Change.{Change}
use Rattle.xdp_maps.specs.declared.decl.MapKind.{MapKind}
use Rattle.xdp_maps.specs.declared.decl.MapKind.TheVariants.{Hash, Array}
use Rattle.xdp_maps.specs.declared.decl.MapDecl.{MapDecl}
use Rattle.xdp_maps.specs.declared.errno.TheConstants.{ENOENT, E2BIG, EEXIST, EINVAL}
use Rattle.xdp_maps.specs.Contents.{Contents, IsBytes, IsOver, TakesKey, TakesKey_as, IsFilled_as, index_of}
use Rattle.xdp_maps.specs.State.{MapState, IsSound, decl_at, contents_at}
use Rattle.xdp_maps.specs.Calls.{lookup_of, number_of, hash_refusal, update_error_as, delete_error_as, delete_number, number_at}
use Rattle.xdp_maps.specs.Operations.{Operation, Lookup, Load, Update, Delete, Store, Atomic, key_in}
use Rattle.xdp_maps.specs.Touched.{Resource, Present, Content, Size, SameOf, reads_as, reads, where_done, update_writes}
use Rattle.xdp_maps.specs.Laws.{IsDecided, ReadsDecide}

-- ---- the numbers of helpers

tested : {A : Type 0} (t : Bool) (x y : A) → t ≡ true → (if t then x else y) ≡ x
tested true x y e = refl
tested false x y e = absurd (cc)

-- why an update with small flags is refused
refusal_small : ℕ → ℕ → Bool → ℕ → Option ℤ
refusal_small cap used b flags =
    if (flags == 1) && b then Some EEXIST else
    if (flags == 2) && not b then Some ENOENT else
    if not b && nat_le cap used then Some E2BIG else
    None

-- what an update of a hash looks at
refusal_same : (cap used used' : ℕ) (b b' : Bool) (flags : ℕ) → (nat_lt 2 flags ≡ false → b ≡ b') → (nat_lt 2 flags ≡ false → b ≡ false → nat_lt flags 2 ≡ true → used ≡ used')
    → hash_refusal cap used b flags ≡ hash_refusal cap used' b' flags
unfolding refusal_small
refusal_same cap used used' b b' flags present count = by_flags (nat_lt 2 flags) refl
  where
    at_two : flags ≡ 2 → hash_refusal cap used false flags ≡ hash_refusal cap used' false flags
    at_two is = subst (λ (n : ℕ). hash_refusal cap used false n ≡ hash_refusal cap used' false n) (sym is) refl

    by_few : (few : Bool) → nat_lt flags 2 ≡ few → nat_lt 2 flags ≡ false → b ≡ false → hash_refusal cap used false flags ≡ hash_refusal cap used' false flags
    by_few true f small absent = ap (λ n. hash_refusal cap n false flags) (count small absent f)
    by_few false f small absent = at_two (grind (arith, nat_tests))

    by_present : (p : Bool) → b ≡ p → nat_lt 2 flags ≡ false → hash_refusal cap used p flags ≡ hash_refusal cap used' p flags
    by_present true there small = refl
    by_present false absent small = by_few (nat_lt flags 2) refl small absent

    by_flags : (big : Bool) → nat_lt 2 flags ≡ big → hash_refusal cap used b flags ≡ hash_refusal cap used' b' flags
    by_flags true big =
        tested (nat_lt 2 flags) (Some EINVAL) (refusal_small cap used b flags) big
        ∙ sym (tested (nat_lt 2 flags) (Some EINVAL) (refusal_small cap used' b' flags) big)
    by_flags false small = by_present b refl small ∙ ap (λ p. hash_refusal cap used' p flags) (present small)

-- an update that is not refused has small flags
small_flags : (cap used : ℕ) (b : Bool) (flags : ℕ) → int_eq (number_of (hash_refusal cap used b flags)) (pos 0) ≡ true → nat_lt 2 flags ≡ false
unfolding refusal_small
small_flags cap used b flags done = by_flags (nat_lt 2 flags) refl
  where
    by_flags : (big : Bool) → nat_lt 2 flags ≡ big → nat_lt 2 flags ≡ false
    by_flags true big =
        let no : int_eq (number_of (hash_refusal cap used b flags)) (pos 0) ≡ false =
        ap (λ o. int_eq (number_of o) (pos 0)) (tested (nat_lt 2 flags) (Some EINVAL) (refusal_small cap used b flags) big) in
        absurd (cc)
    by_flags false small = small

writes_same : (q : ℕ) (key : List ℕ) (n n' : ℤ) (b b' : Bool) → n ≡ n' → (int_eq n (pos 0) ≡ true → b ≡ b')
    → where_done n' (update_writes q key b') ≡ where_done n (update_writes q key b)
writes_same q key n n' b b' same present =
    ap (λ m. where_done m (update_writes q key b')) (sym same) ∙ by_done (int_eq n (pos 0)) present
  where
    by_done : (t : Bool) → (t ≡ true → b ≡ b') → (if t then update_writes q key b' else []) ≡ (if t then update_writes q key b else [])
    by_done true p = ap (update_writes q key) (sym (p refl))
    by_done false p = refl

-- ---- what an update of a hash reads

looks_at : (P : Resource → Type 0) (q : ℕ) (key : List ℕ) (big few b : Bool)
    → All P (if big then [] else if not b && few then Present q key ∷ Size q ∷ [] else Present q key ∷ [])
    → (big ≡ false → P (Present q key)) × (big ≡ false → b ≡ false → few ≡ true → P (Size q))
looks_at P q key true few b all = (λ e. absurd (cc), λ e absent f. absurd (cc))
looks_at P q key false few true all = (λ e. All-head P (Present q key) [] all, λ e absent f. absurd (cc))
looks_at P q key false true false all = (λ e. All-head P (Present q key) (Size q ∷ []) all, λ e absent f. All-head P (Size q) [] (All-tail P (Present q key) (Size q ∷ []) all))
looks_at P q key false false false all = (λ e. All-head P (Present q key) [] all, λ e absent f. absurd (cc))

reads_same : (q : ℕ) (key : List ℕ) (big few b b' : Bool) → (big ≡ false → b ≡ b')
    → (if big then [] else if not b' && few then Present q key ∷ Size q ∷ [] else Present q key ∷ []) ≡ (if big then [] else if not b && few then Present q key ∷ Size q ∷ [] else Present q key ∷ [])
reads_same q key true few b b' p = refl
reads_same q key false few b b' p = ap (λ x. if not x && few then Present q key ∷ Size q ∷ [] else Present q key ∷ []) (sym (p refl))

-- ---- the keys of an array

by_index : (d : MapDecl) (c : Contents) (key : List ℕ) → d.kind ≡ Array → IsBytes d.key key → IsOver d c → is_some (lookup_of c key) ≡ nat_lt (index_of key) d.cap
by_index d c key kind fits over = by_there (is_some (lookup_of c key)) refl
  where
    inside : TakesKey d key → index_of key < d.cap
    inside takes = subst (λ k. TakesKey_as k d key) kind takes.1

    filled : index_of key < d.cap → IsTrue (map.contains_key c key)
    filled lt =
        let all : IsFilled_as Array d c = subst (λ k. IsFilled_as k d c) kind over.filled in
        all key (fits, subst (λ k. TakesKey_as k d key) (sym kind) lt)

    by_there : (b : Bool) → is_some (lookup_of c key) ≡ b → is_some (lookup_of c key) ≡ nat_lt (index_of key) d.cap
    by_there true there = let lt : index_of key < d.cap = inside (over.keys key there) in there ∙ sym (grind (arith, nat_tests))
    by_there false absent = elim (cases_lt (index_of key) d.cap) [
      | inl lt ↦ (let there = filled lt in absurd (cc))
      | inr le ↦ absent ∙ sym (grind (arith, nat_tests))
    ]

-- ---- each operation, on two contents over one declaration

-- the same maps with other contents
abbrev holding : MapState → List Contents → MapState
holding s cs = record { decls = s.decls; contents = cs }

record Both (k : MapKind) (s : MapState) (cs : List Contents) (q : ℕ) (op : Operation) : Type 0 where
  kind : (decl_at s q).kind ≡ k
  over : IsOver (decl_at s q) (contents_at s q)
  over_other : IsOver (decl_at s q) (contents_at (holding s cs) q)
  fits : IsBytes (decl_at s q).key (key_in op)
  same : All (SameOf s (holding s cs)) (reads_as k q (contents_at s q) op)

present : (k : MapKind) (s : MapState) (cs : List Contents) (q : ℕ) (op : Operation) → Both k s cs q op → (k ≡ Hash → SameOf s (holding s cs) (Present q (key_in op)))
    → SameOf s (holding s cs) (Present q (key_in op))
present Hash s cs q op both seen = seen refl
present Array s cs q op both seen =
    by_index (decl_at s q) (contents_at s q) (key_in op) both.kind both.fits both.over
    ∙ sym (by_index (decl_at s q) (contents_at (holding s cs) q) (key_in op) both.kind both.fits both.over_other)

lookup_reads : (k : MapKind) (q : ℕ) (c c' : Contents) (key : List ℕ) → reads_as k q c' (Lookup key) ≡ reads_as k q c (Lookup key)
lookup_reads Hash q c c' key = refl
lookup_reads Array q c c' key = refl

delete_reads : (k : MapKind) (q : ℕ) (c c' : Contents) (key : List ℕ) → reads_as k q c' (Delete key) ≡ reads_as k q c (Delete key)
delete_reads Hash q c c' key = refl
delete_reads Array q c c' key = refl

load_reads : (k : MapKind) (q : ℕ) (c c' : Contents) (key : List ℕ) → reads_as k q c' (Load key) ≡ reads_as k q c (Load key)
load_reads Hash q c c' key = refl
load_reads Array q c c' key = refl

store_reads : (k : MapKind) (q : ℕ) (c c' : Contents) (key : List ℕ) (at : ℕ) (bytes : List ℕ) → reads_as k q c' (Store key at bytes) ≡ reads_as k q c (Store key at bytes)
store_reads Hash q c c' key at bytes = refl
store_reads Array q c c' key at bytes = refl

atomic_reads : (k : MapKind) (q : ℕ) (c c' : Contents) (key : List ℕ) (at : ℕ) (x : Change) (fetch : Bool) → reads_as k q c' (Atomic key at x fetch) ≡ reads_as k q c (Atomic key at x fetch)
atomic_reads Hash q c c' key at x true = refl
atomic_reads Hash q c c' key at x false = refl
atomic_reads Array q c c' key at x true = refl
atomic_reads Array q c c' key at x false = refl

lookup_seen : (k : MapKind) (s : MapState) (cs : List Contents) (q : ℕ) (key : List ℕ) → Both k s cs q (Lookup key) → k ≡ Hash → SameOf s (holding s cs) (Present q key)
lookup_seen Hash s cs q key both e = All-head (SameOf s (holding s cs)) (Present q key) [] both.same
lookup_seen Array s cs q key both e = absurd (cc)

delete_seen : (k : MapKind) (s : MapState) (cs : List Contents) (q : ℕ) (key : List ℕ) → Both k s cs q (Delete key) → k ≡ Hash → SameOf s (holding s cs) (Present q key)
delete_seen Hash s cs q key both e = All-head (SameOf s (holding s cs)) (Present q key) [] both.same
delete_seen Array s cs q key both e = absurd (cc)

load_seen : (k : MapKind) (s : MapState) (cs : List Contents) (q : ℕ) (key : List ℕ) → Both k s cs q (Load key) → SameOf s (holding s cs) (Content q key)
load_seen Hash s cs q key both = All-head (SameOf s (holding s cs)) (Content q key) [] both.same
load_seen Array s cs q key both = All-head (SameOf s (holding s cs)) (Content q key) [] both.same

fetch_seen : (k : MapKind) (s : MapState) (cs : List Contents) (q : ℕ) (key : List ℕ) (at : ℕ) (x : Change) → Both k s cs q (Atomic key at x true) → SameOf s (holding s cs) (Content q key)
fetch_seen Hash s cs q key at x both = All-head (SameOf s (holding s cs)) (Content q key) [] both.same
fetch_seen Array s cs q key at x both = All-head (SameOf s (holding s cs)) (Content q key) [] both.same

deletes_same : (k : MapKind) (c c' : Contents) (key : List ℕ) → is_some (lookup_of c key) ≡ is_some (lookup_of c' key) → delete_error_as k c key ≡ delete_error_as k c' key
deletes_same Hash c c' key e = ap (λ b. if b then None else Some ENOENT) e
deletes_same Array c c' key e = refl

delete_decided : (k : MapKind) (s : MapState) (cs : List Contents) (q : ℕ) (key : List ℕ) → Both k s cs q (Delete key) → IsDecided s (holding s cs) q (Delete key)
delete_decided k s cs q key both =
    let there = present k s cs q (Delete key) both (delete_seen k s cs q key both) in
    let number : delete_number (decl_at s q) (contents_at s q) key ≡ delete_number (decl_at s q) (contents_at (holding s cs) q) key =
    ap number_of (deletes_same (decl_at s q).kind (contents_at s q) (contents_at (holding s cs) q) key there) in
    record {
      answer = number;
      reads = delete_reads (decl_at s q).kind q (contents_at s q) (contents_at (holding s cs) q) key;
      writes = ap (λ n. where_done n (Content q key ∷ Present q key ∷ Size q ∷ [])) (sym number);
    }

update_decided : (k : MapKind) (s : MapState) (cs : List Contents) (q : ℕ) (key value : List ℕ) (flags : ℕ) → Both k s cs q (Update key value flags)
    → IsDecided s (holding s cs) q (Update key value flags)
update_decided Hash s cs q key value flags both =
    let c = contents_at s q in
    let c' = contents_at (holding s cs) q in
    let seen = looks_at (SameOf s (holding s cs)) q key (nat_lt 2 flags) (nat_lt flags 2) (is_some (lookup_of c key)) both.same in
    let error : hash_refusal (decl_at s q).cap (map.len c) (is_some (lookup_of c key)) flags ≡ hash_refusal (decl_at s q).cap (map.len c') (is_some (lookup_of c' key)) flags =
    refusal_same (decl_at s q).cap (map.len c) (map.len c') (is_some (lookup_of c key)) (is_some (lookup_of c' key)) flags seen.0 seen.1 in
    let at_kind : MapKind → Type 0 = λ k. number_of (update_error_as k (decl_at s q) c key flags) ≡ number_of (update_error_as k (decl_at s q) c' key flags) in
    let number : at_kind (decl_at s q).kind = subst at_kind (sym both.kind) (ap number_of error) in
    let read_kind : MapKind → Type 0 = λ k. reads_as k q c' (Update key value flags) ≡ reads_as k q c (Update key value flags) in
    let done_kind : MapKind → Type 0 = λ k. int_eq (number_of (update_error_as k (decl_at s q) c key flags)) (pos 0) ≡ true → is_some (lookup_of c key) ≡ is_some (lookup_of c' key) in
    record {
      answer = number;
      reads = subst read_kind (sym both.kind) (reads_same q key (nat_lt 2 flags) (nat_lt flags 2) (is_some (lookup_of c key)) (is_some (lookup_of c' key)) seen.0);
      writes = writes_same q key _ _ (is_some (lookup_of c key)) (is_some (lookup_of c' key)) number
          (subst done_kind (sym both.kind) (λ done. seen.0 (small_flags (decl_at s q).cap (map.len c) (is_some (lookup_of c key)) flags done)));
    }
update_decided Array s cs q key value flags both =
    let c = contents_at s q in
    let c' = contents_at (holding s cs) q in
    let there = present Array s cs q (Update key value flags) both (λ e. absurd (cc)) in
    let at_kind : MapKind → Type 0 = λ k. number_of (update_error_as k (decl_at s q) c key flags) ≡ number_of (update_error_as k (decl_at s q) c' key flags) in
    let number : at_kind (decl_at s q).kind = subst at_kind (sym both.kind) refl in
    let read_kind : MapKind → Type 0 = λ k. reads_as k q c' (Update key value flags) ≡ reads_as k q c (Update key value flags) in
    record {
      answer = number;
      reads = subst read_kind (sym both.kind) refl;
      writes = writes_same q key _ _ (is_some (lookup_of c key)) (is_some (lookup_of c' key)) number (λ _. there);
    }

decided : (k : MapKind) (s : MapState) (cs : List Contents) (q : ℕ) (op : Operation) → Both k s cs q op → IsDecided s (holding s cs) q op
decided k s cs q (Lookup key) both = record {
  answer = present k s cs q (Lookup key) both (lookup_seen k s cs q key both);
  reads = lookup_reads (decl_at s q).kind q (contents_at s q) (contents_at (holding s cs) q) key;
  writes = refl;
}
decided k s cs q (Load key) both = record {
  answer = load_seen k s cs q key both;
  reads = load_reads (decl_at s q).kind q (contents_at s q) (contents_at (holding s cs) q) key;
  writes = refl;
}
decided k s cs q (Update key value flags) both = update_decided k s cs q key value flags both
decided k s cs q (Delete key) both = delete_decided k s cs q key both
decided k s cs q (Store key at bytes) both = record {
  answer = tt;
  reads = store_reads (decl_at s q).kind q (contents_at s q) (contents_at (holding s cs) q) key at bytes;
  writes = refl;
}
decided k s cs q (Atomic key at x true) both = record {
  answer = ap (option_map (number_at x.wide at)) (fetch_seen k s cs q key at x both);
  reads = atomic_reads (decl_at s q).kind q (contents_at s q) (contents_at (holding s cs) q) key at x true;
  writes = refl;
}
decided k s cs q (Atomic key at x false) both = record {
  answer = tt;
  reads = atomic_reads (decl_at s q).kind q (contents_at s q) (contents_at (holding s cs) q) key at x false;
  writes = refl;
}

pub reads_decide : ReadsDecide
reads_decide s t q op decls sound sound_t lt fits all =
    let other : t ≡ holding s t.contents = ap (λ ds. record { decls = ds; contents = t.contents }) decls in
    let sound' : IsSound (holding s t.contents) = subst IsSound other sound_t in
    subst (λ (x : MapState). IsDecided s x q op) (sym other) (decided (decl_at s q).kind s t.contents q op (record {
      kind = refl;
      over = sound.over q lt;
      over_other = sound'.over q lt;
      fits = fits;
      same = subst (λ (x : MapState). All (SameOf s x) (reads s q op)) other all;
    }))
