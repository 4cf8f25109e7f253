-- What a helper's refusal says.
use Rattle.std.proofs.Common.{◌≡◌, ℕ, ◌<◌, ◌==◌, nat_lt, nat_le, Bool, true, false, not, ◌&&◌, if◌then◌else◌, List, Option, Some, None, ℤ, pos, w64, to_z, of_z, IsTrue, ◌⊎◌, inl, inr, refl, ap, arith}
use Rattle.std.proofs.lemmas.Bool.Decides.{nat_tests}
use Rattle.std.specs.FinMap as map
use Rattle.xdp_maps.specs.declared.decl.MapKind.{MapKind}
use Rattle.xdp_maps.specs.declared.decl.MapDecl.{MapDecl}
use Rattle.xdp_maps.specs.declared.decl.MapKind.TheVariants.{Hash, Array}
use Rattle.xdp_maps.specs.declared.errno.TheConstants.{ENOENT}
use Rattle.xdp_maps.specs.Contents.{Contents, index_of}
use Rattle.xdp_maps.specs.Calls.{hash_refusal, array_refusal, delete_error_as, delete_error, update_error_as, update_error, unless, number_of}

pub delete_error-present : (c : Contents) (key : List ℕ) → IsTrue (map.contains_key c key) → delete_error_as Hash c key ≡ None
delete_error-present c key h = ap (λ b. if b then None else Some ENOENT) h

pub delete_error-absent : (c : Contents) (key : List ℕ) → map.contains_key c key ≡ false → delete_error_as Hash c key ≡ Some ENOENT
delete_error-absent c key h = ap (λ b. if b then None else Some ENOENT) h

-- a key that is written was there, or there is room for it
pub room-hash_refusal : (cap used : ℕ) (present : Bool) (flags : ℕ) → hash_refusal cap used present flags ≡ None → IsTrue present ⊎ (used < cap)
room-hash_refusal cap used true flags h = inl refl
room-hash_refusal cap used false flags h = inr (grind arith)

-- an error's number is one of 64 signed bits
IsSigned : Option ℤ → Type 0
IsSigned o = to_z w64 (of_z w64 (number_of o)) ≡ number_of o

signed_if : (b : Bool) (x y : Option ℤ) → IsSigned x → IsSigned y → IsSigned (if b then x else y)
signed_if true x y p q = p
signed_if false x y p q = q

pub signed-hash_refusal : (cap used : ℕ) (present : Bool) (flags : ℕ) → to_z w64 (of_z w64 (number_of (hash_refusal cap used present flags))) ≡ number_of (hash_refusal cap used present flags)
unfolding IsSigned
signed-hash_refusal cap used present flags =
    signed_if (nat_lt 2 flags) _ _ refl (signed_if ((flags == 1) && present) _ _ refl (signed_if ((flags == 2) && not present) _ _ refl (signed_if (not present && nat_le cap used) _ _ refl refl)))

-- an index that is written is one of the array's
pub inside-array_refusal : (cap index flags : ℕ) → array_refusal cap index flags ≡ None → index < cap
inside-array_refusal cap index flags h = grind (arith, nat_tests)

-- no error is 0
IsNonzero : Option ℤ → Type 0
IsNonzero o = number_of o ≡ pos 0 → o ≡ None

nonzero_if : (b : Bool) (x y : Option ℤ) → IsNonzero x → IsNonzero y → IsNonzero (if b then x else y)
nonzero_if true x y p q = p
nonzero_if false x y p q = q

hash_taken : (cap used : ℕ) (present : Bool) (flags : ℕ) → IsNonzero (hash_refusal cap used present flags)
unfolding IsNonzero
hash_taken cap used present flags =
    nonzero_if (nat_lt 2 flags) _ _ (λ h. cc) (nonzero_if ((flags == 1) && present) _ _ (λ h. cc) (nonzero_if ((flags == 2) && not present) _ _ (λ h. cc) (nonzero_if (not present && nat_le cap used) _ _ (λ h. cc) (λ h. refl))))

array_taken : (cap index flags : ℕ) → IsNonzero (array_refusal cap index flags)
unfolding IsNonzero
array_taken cap index flags =
    nonzero_if (nat_lt 2 flags) _ _ (λ h. cc) (nonzero_if (nat_le cap index) _ _ (λ h. cc) (nonzero_if (flags == 1) _ _ (λ h. cc) (λ h. refl)))

update_taken_as : (k : MapKind) (d : MapDecl) (c : Contents) (key : List ℕ) (flags : ℕ) → number_of (update_error_as k d c key flags) ≡ pos 0 → update_error_as k d c key flags ≡ None
unfolding IsNonzero
update_taken_as Hash d c key flags h = hash_taken d.cap (map.len c) (map.contains_key c key) flags h
update_taken_as Array d c key flags h = array_taken d.cap (index_of key) flags h

-- an update or a deletion that answers 0 is not refused
pub update_taken : (d : MapDecl) (c : Contents) (key : List ℕ) (flags : ℕ) → number_of (update_error d c key flags) ≡ pos 0 → update_error d c key flags ≡ None
update_taken d c key flags h = update_taken_as d.kind d c key flags h

delete_taken_as : (k : MapKind) (c : Contents) (key : List ℕ) → number_of (delete_error_as k c key) ≡ pos 0 → delete_error_as k c key ≡ None
unfolding IsNonzero
delete_taken_as Hash c key h = nonzero_if (map.contains_key c key) None (Some ENOENT) (λ _. refl) (λ h. cc) h
delete_taken_as Array c key h = cc

pub delete_taken : (d : MapDecl) (c : Contents) (key : List ℕ) → number_of (delete_error d c key) ≡ pos 0 → delete_error d c key ≡ None
delete_taken d c key h = delete_taken_as d.kind c key h

-- what is refused leaves the contents
pub unless_refused : {A : Type 0} (e : Option ℤ) (old new : A) → (number_of e ≡ pos 0 → ⊥) → unless e old new ≡ old
unless_refused None old new refused = absurd (refused refl)
unless_refused (Some e) old new refused = refl
