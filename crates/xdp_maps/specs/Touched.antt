-- The resources of maps that an operation reads and writes.
use Rattle.std.specs.Prelude.{ℕ, ℤ, pos, ◌≡◌, nat_lt, Bool, true, not, ◌&&◌, if◌then◌else◌, is_some, List, [], ◌∷◌}
use Rattle.std.specs.Ordering.{int_eq}
use Rattle.std.specs.FinMap as map
use Rattle.xdp_maps.specs.declared.decl.MapKind.{MapKind}
use Rattle.xdp_maps.specs.declared.decl.MapKind.TheVariants.{Hash}
use Rattle.xdp_maps.specs.Contents.{Contents}
use Rattle.xdp_maps.specs.State.{MapState, decl_at, contents_at}
use Rattle.xdp_maps.specs.Calls.{lookup_of, update_number, delete_number, number_before}
use Rattle.xdp_maps.specs.Operations.{Operation, Lookup, Load, Update, Delete, Store, Atomic}

-- whether a map has a key, the value under a key, and how many keys a map has
pub data Resource : Type 0 where
  Present : (q : ℕ) (key : List ℕ) → Resource
  Content : (q : ℕ) (key : List ℕ) → Resource
  Size : (q : ℕ) → Resource

-- two states show the same of a resource
abbrev pub SameOf : MapState → MapState → Resource → Type 0
SameOf s t (Present q key) = is_some (lookup_of (contents_at s q) key) ≡ is_some (lookup_of (contents_at t q) key)
SameOf s t (Content q key) = lookup_of (contents_at s q) key ≡ lookup_of (contents_at t q) key
SameOf s t (Size q) = map.len (contents_at s q) ≡ map.len (contents_at t q)

-- an update of a hash sees whether the key is there, and how full the hash is where it would add the key
abbrev pub update_reads : ℕ → List ℕ → Bool → ℕ → List Resource
update_reads q key present flags =
    if nat_lt 2 flags then [] else
    if not present && nat_lt flags 2 then Present q key ∷ Size q ∷ [] else
    Present q key ∷ []

-- What an operation on map q reads. The keys of an array are always there. A store reads nothing, and neither does an atomic
-- change that does not answer the old number.
abbrev pub reads_as : MapKind → ℕ → Contents → Operation → List Resource
reads_as Hash q c (Lookup key) = Present q key ∷ []
reads_as Hash q c (Update key value flags) = update_reads q key (is_some (lookup_of c key)) flags
reads_as Hash q c (Delete key) = Present q key ∷ []
reads_as kind q c (Load key) = Content q key ∷ []
reads_as kind q c (Atomic key at x true) = Content q key ∷ []
reads_as kind q c op = []

-- what a helper wrote that answers this number
abbrev pub where_done : ℤ → List Resource → List Resource
where_done number rs = if int_eq number (pos 0) then rs else []

-- an update writes a value, and a new key too
abbrev pub update_writes : ℕ → List ℕ → Bool → List Resource
update_writes q key present = if present then Content q key ∷ [] else Content q key ∷ Present q key ∷ Size q ∷ []

abbrev pub reads : MapState → ℕ → Operation → List Resource
reads s q op = reads_as (decl_at s q).kind q (contents_at s q) op

-- what an operation on map q writes
abbrev pub writes : MapState → ℕ → Operation → List Resource
writes s q (Update key value flags) =
    let c = contents_at s q in
    where_done (update_number (decl_at s q) c key flags) (update_writes q key (is_some (lookup_of c key)))
writes s q (Delete key) =
    where_done (delete_number (decl_at s q) (contents_at s q) key) (Content q key ∷ Present q key ∷ Size q ∷ [])
writes s q (Store key at bytes) = Content q key ∷ []
writes s q (Atomic key at x fetch) = Content q key ∷ []
writes s q op = []

-- In two states an operation answers the same: whether the key is there, the value, the helper's number, or the old number.
abbrev pub AnswersSame : MapState → MapState → ℕ → Operation → Type 0
AnswersSame s t q (Lookup key) = is_some (lookup_of (contents_at s q) key) ≡ is_some (lookup_of (contents_at t q) key)
AnswersSame s t q (Load key) = lookup_of (contents_at s q) key ≡ lookup_of (contents_at t q) key
AnswersSame s t q (Update key value flags) =
    update_number (decl_at s q) (contents_at s q) key flags ≡ update_number (decl_at t q) (contents_at t q) key flags
AnswersSame s t q (Delete key) = delete_number (decl_at s q) (contents_at s q) key ≡ delete_number (decl_at t q) (contents_at t q) key
AnswersSame s t q (Atomic key at x true) = number_before (contents_at s q) key at x ≡ number_before (contents_at t q) key at x
AnswersSame s t q op = Unit {0}
