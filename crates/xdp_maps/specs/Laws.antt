-- What users of a map rely on, whatever it holds.
use Rattle.std.specs.Prelude.{ℕ, pos, ◌≡◌, ◌≢◌, ◌+◌, ◌<◌, ◌≤◌, ◌^◌, List, length, Some, None, All, Contains}
use Rattle.std.specs.Option.{option_map}
use Rattle.xdp_maps.specs.declared.change.Change.{Change}
use Rattle.xdp_maps.specs.declared.decl.MapDecl.{MapDecl}
use Rattle.xdp_maps.specs.Contents.{Contents, IsBytes, IsOver, IsWithinLimits, opened, index_key, index_of}
use Rattle.xdp_maps.specs.State.{MapState, IsSound, decl_at}
use Rattle.xdp_maps.specs.Operations.{Operation, Fits, key_in, operated}
use Rattle.xdp_maps.specs.Touched.{Resource, SameOf, reads, writes, AnswersSame}
use Rattle.xdp_maps.specs.Calls.{lookup_of, update_number, updated, delete_number, deleted, stored, changed, change_bytes, with_value, entry_of}

-- An update that answers 0 leaves its value under its key, and under every other key what was there; one
-- that answers another number changes nothing.
pub record UpdateLaws (d : MapDecl) (c : Contents) (key value : List ℕ) (flags : ℕ) : Type 0 where
  pub same_key : update_number d c key flags ≡ pos 0 → lookup_of (updated d c key value flags) key ≡ Some value
  pub other_keys : (q : List ℕ) → q ≢ key → lookup_of (updated d c key value flags) q ≡ lookup_of c q
  pub refused : update_number d c key flags ≢ pos 0 → updated d c key value flags ≡ c

-- a deletion likewise
pub record DeleteLaws (d : MapDecl) (c : Contents) (key : List ℕ) : Type 0 where
  pub same_key : delete_number d c key ≡ pos 0 → lookup_of (deleted d c key) key ≡ None
  pub other_keys : (q : List ℕ) → q ≢ key → lookup_of (deleted d c key) q ≡ lookup_of c q
  pub refused : delete_number d c key ≢ pos 0 → deleted d c key ≡ c

-- A store and an atomic change make the value under their key anew, by `patched` and `with_change`, and
-- leave every other key.
pub record EntryLaws (c : Contents) (key : List ℕ) (f : List ℕ → List ℕ) : Type 0 where
  pub same_key : lookup_of (with_value c key f (lookup_of c key)) key ≡ option_map f (lookup_of c key)
  pub other_keys : (q : List ℕ) → q ≢ key → lookup_of (with_value c key f (lookup_of c key)) q ≡ lookup_of c q

-- The numbered pairs are those that lookups find, and all of them.
pub record PairLaws (d : MapDecl) (c : Contents) : Type 0 where
  pub found : (i : ℕ) (key value : List ℕ) → entry_of d c i ≡ Some (key, value) → lookup_of c key ≡ Some value
  pub all : IsWithinLimits d → IsOver d c → (key value : List ℕ) → lookup_of c key ≡ Some value → (i : ℕ) × (entry_of d c i ≡ Some (key, value))

-- Whatever is done to a map, it holds what its declaration allows: a hash never more keys than its
-- capacity, an array always its indexes.
pub record KeepsOver (d : MapDecl) (c : Contents) : Type 0 where
  pub opens : IsWithinLimits d → IsOver d (opened d)
  pub updates : IsOver d c → (key value : List ℕ) (flags : ℕ) → IsBytes d.key key → IsBytes d.value value → IsOver d (updated d c key value flags)
  pub deletes : IsOver d c → (key : List ℕ) → IsOver d (deleted d c key)
  pub stores : IsOver d c → (key : List ℕ) (at : ℕ) (bytes : List ℕ) → at + length bytes ≤ d.value → All (λ b. b < 256) bytes → IsOver d (stored c key at bytes)
  pub changes : IsOver d c → (key : List ℕ) (at : ℕ) (x : Change) → at + change_bytes x.wide ≤ d.value → IsOver d (changed c key at x)

-- contents with the same value under each key are the same
abbrev pub SameByLookups : Type 0
SameByLookups = (a b : Contents) → ((q : List ℕ) → lookup_of a q ≡ lookup_of b q) → a ≡ b

-- an index and its key give each other
pub record IndexLaws : Type 0 where
  pub index_back : (i : ℕ) → i < 2 ^ 32 → index_of (index_key i) ≡ i
  pub key_back : (key : List ℕ) → IsBytes 4 key → index_key (index_of key) ≡ key
  pub key_bytes : (i : ℕ) → IsBytes 4 (index_key i)

-- An operation that fits its map leaves all maps as their declarations allow.
abbrev pub OperationsKeepSound : Type 0
OperationsKeepSound =
    (s : MapState) (q : ℕ) (op : Operation) → IsSound s → q < length s.decls → Fits (decl_at s q) op → IsSound (operated s q op)

-- What an operation does not write stays: the presence of each key, each value, and each count.
abbrev pub KeepsUnwritten : MapState → ℕ → Operation → Type 0
KeepsUnwritten s q op = (r : Resource) → ¬ Contains (writes s q op) r → SameOf (operated s q op) s r

-- What an operation reads decides what it answers and touches.
pub record IsDecided (s t : MapState) (q : ℕ) (op : Operation) : Type 0 where
  pub answer : AnswersSame s t q op
  pub reads : reads t q op ≡ reads s q op
  pub writes : writes t q op ≡ writes s q op

abbrev pub ReadsDecide : Type 0
ReadsDecide =
    (s t : MapState) (q : ℕ) (op : Operation) → t.decls ≡ s.decls → IsSound s → IsSound t → q < length s.decls → IsBytes (decl_at s q).key (key_in op)
    → All (SameOf s t) (reads s q op) → IsDecided s t q op
