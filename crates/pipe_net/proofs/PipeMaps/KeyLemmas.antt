-- Slots of arrays keep their keys.
use Rattle.std.specs.Prelude.{nat_lt, nat_le, if◌then◌else◌, slice_set, ◌&&◌}
use Rattle.std.specs.Str.{bytes_eq}
use Rattle.std.proofs.Common.{◌≡◌, ℕ, ◌<◌, ◌==◌, Bool, true, false, List, [], length, refl, sym, ◌∙◌, ap, subst, arith}
use Rattle.std.proofs.lemmas.Bool.{eqb-true, eqb-false, and_parts}
use Rattle.std.proofs.lemmas.List.{length-set, get_or-set_same, get_or-set_other}
use Rattle.hazard_core.specs.xdp_maps.declared.decl.MapKind.{MapKind}
use Rattle.hazard_core.specs.xdp_maps.declared.decl.MapKind.TheVariants.{Hash, Array}
use Rattle.hazard_core.specs.xdp_maps.Contents.{index_key}
use Rattle.hazard_core.specs.cell_core.Formed.{AllFit, FitsMap}
use Rattle.hazard_core.specs.cell_core.Sites.{ProgramView, site_at}
use Rattle.hazard_core.specs.declared.access.Access.{Access}
use Rattle.hazard_core.specs.declared.access.Word.TheVariants.{Value, Nothing}
use Rattle.hazard_core.specs.declared.slot.Slot.{Slot}
use Rattle.hazard_core.specs.Tables.{TableState, decl_of, table_at, slot_at, no_slot, has_key}
use Rattle.hazard_core.specs.Tabled.{IsFilledTable, LoadsTables}
use Rattle.hazard_core.specs.StageValues.{StageValues, writes}
use Rattle.hazard_core.specs.Commits.{word_count, word_as, word_in, written_word, written_slot, committed, host_written}
use Rattle.hazard_core.specs.Changes.{IsRightCommit}
use Rattle.commit_net.specs.Wholes.{table_of, slot_after}
use Rattle.commit_net.specs.Laws.{CommitsOneSlot, CommitsOneValue}
use Rattle.hazard_core.specs.TableLaws.Bytes.{LoadsBytes, CommitKeepsBytes, HostKeepsBytes}
use Rattle.pipe_core.specs.Machine as machine
use Rattle.pipe_core.specs.Machine.{Packet, State, Input, Build, Action, Moves, Writes, clock, site_numbers}
use Rattle.pipe_net.specs.Saying.{action_in}
use Rattle.pipe_net.specs.PipeMaps.Premises.{HoldKeys}
use Rattle.pipe_net.specs.PipeMaps.Keys.{KeysFollow, KeysBegin}
use Rattle.pipe_net.proofs.PipeMaps.ListLemmas.{found_at, at_number}
use Rattle.pipe_net.proofs.PipeMaps.ActionLemmas.{committed_action, tables_by, clock_tables}

-- ---- a slot with the key of another, and as much in use
record SameKey (x y : Slot) : Type 0 where
  used : x.used ≡ y.used
  key : x.key ≡ y.key

has_same : (key : List ℕ) (x y : Slot) → SameKey x y → has_key key y ≡ true → has_key key x ≡ true
has_same key x y same e = ap (λ u. u && bytes_eq x.key key) same.used ∙ ap (λ k. y.used && bytes_eq k key) same.key ∙ e

-- a table filled so far stays so where a slot keeps its key
set_filled : (slots : List Slot) (n : ℕ) (x : Slot) → SameKey x (slot_at slots n) → IsFilledTable Array slots → IsFilledTable Array (slice_set slots n x)
set_filled slots n x same filled = λ q lt. let there : q < length slots = omega (arith, lt, length-set slots n x) in has_same (index_key q) (slot_at (slice_set slots n x) q) (slot_at slots q) (by q there (q == n) refl) (filled q there)
  where
    by : (q : ℕ) → q < length slots → (c : Bool) → (q == n) ≡ c → SameKey (slot_at (slice_set slots n x) q) (slot_at slots q)
    by q lt true e =
        let is : q ≡ n = eqb-true q n e in
        let here : n < length slots = omega (arith, lt, is) in
        let set_is : slot_at (slice_set slots n x) q ≡ x = ap (slot_at (slice_set slots n x)) is ∙ get_or-set_same slots n x no_slot here in
        let old : slot_at slots q ≡ slot_at slots n = ap (slot_at slots) is in
        record { used = ap (λ (s : Slot). s.used) set_is ∙ same.used ∙ ap (λ (s : Slot). s.used) (sym old); key = ap (λ (s : Slot). s.key) set_is ∙ same.key ∙ ap (λ (s : Slot). s.key) (sym old) }
    by q lt false e = let is : slot_at (slice_set slots n x) q ≡ slot_at slots q = get_or-set_other slots n q x no_slot (eqb-false q n e) in record { used = ap (λ (s : Slot). s.used) is; key = ap (λ (s : Slot). s.key) is }

-- ---- what the host writes in an array
word_keeps : (s : Slot) (n w : ℕ) (c : Bool) → SameKey (written_word s (if c then Value w else Nothing) n) s
word_keeps s n w true = record { used = refl; key = refl }
word_keeps s n w false = record { used = refl; key = refl }

host_keeps : (t : TableState) (a : Access) (n : ℕ) (s : Slot) → (decl_of t.decls a.map).kind ≡ Array → SameKey (written_word s (word_in t a) n) s
host_keeps t a n s array = by (nat_lt a.map (length t.decls) && nat_lt a.index (length (table_at t a.map)))
  where
    by : (c : Bool) → SameKey (written_word s (if c then word_as (decl_of t.decls a.map).kind (decl_of t.decls a.map) a.word else Nothing) n) s
    by true = subst (λ k. SameKey (written_word s (word_as k (decl_of t.decls a.map) a.word) n) s) (sym array) (word_keeps s n a.word (nat_lt a.word (word_count (decl_of t.decls a.map).value)))
    by false = record { used = refl; key = refl }

abbrev AreFilled : TableState → Type 0
AreFilled t = (m : ℕ) → m < length t.decls → IsFilledTable (decl_of t.decls m).kind (table_at t m)

host_filled : (t : TableState) (a : Access) (n : ℕ) → length t.tables ≡ length t.decls → AreFilled t → AreFilled (host_written t a n)
unfolding host_written
host_filled t a n beside filled m lt = by_kind (decl_of t.decls m).kind refl (filled m lt)
  where
    by_kind : (k : MapKind) → (decl_of t.decls m).kind ≡ k → IsFilledTable k (table_at t m) → IsFilledTable k (table_at (host_written t a n) m)
    by_kind Hash e f = tt
    by_kind Array e f = by (m == a.map) refl
      where
        by : (c : Bool) → (m == a.map) ≡ c → IsFilledTable Array (table_at (host_written t a n) m)
        by true q =
            let is : m ≡ a.map = eqb-true m a.map q in
            let there : a.map < length t.tables = omega (arith, lt, is, beside) in
            let x = written_word (slot_at (table_at t a.map) a.index) (word_in t a) n in
            let set_is : table_at (host_written t a n) m ≡ slice_set (table_at t a.map) a.index x = ap (table_at (host_written t a n)) is ∙ get_or-set_same t.tables a.map (slice_set (table_at t a.map) a.index x) [] there in
            let old : IsFilledTable Array (table_at t a.map) = subst (λ k. IsFilledTable Array (table_at t k)) is f in
            subst (IsFilledTable Array) (sym set_is) (set_filled (table_at t a.map) a.index x (host_keeps t a n (slot_at (table_at t a.map) a.index) (ap (λ k. (decl_of t.decls k).kind) (sym is) ∙ e)) old)
        by false q = subst (IsFilledTable Array) (sym (get_or-set_other t.tables a.map m (slice_set (table_at t a.map) a.index (written_word (slot_at (table_at t a.map) a.index) (word_in t a) n)) [] (eqb-false m a.map q))) f

-- ---- a commit
commit_filled :
    CommitsOneSlot → CommitsOneValue → (p : ProgramView) (t : TableState) (taken : List ℕ) (h : StageValues) (j : ℕ) → IsRightCommit p t taken h j → writes p t.decls h j ≡ true → AreFilled t → AreFilled (committed p t taken h j)
commit_filled one_slot one_value p t taken h j right writing filled m lt =
    let one = one_slot p t taken h j right in
    let there : m < length t.decls = subst (λ ds. m < length ds) one.decls lt in
    subst (λ ds. IsFilledTable (decl_of ds m).kind (table_at (committed p t taken h j) m)) (sym one.decls) (by_kind (decl_of t.decls m).kind refl (filled m there))
  where
    by_kind : (k : MapKind) → (decl_of t.decls m).kind ≡ k → IsFilledTable k (table_at t m) → IsFilledTable k (table_at (committed p t taken h j) m)
    by_kind Hash e f = tt
    by_kind Array e f = by (m == (site_at p.sites j).map) refl
      where
        by : (c : Bool) → (m == (site_at p.sites j).map) ≡ c → IsFilledTable Array (table_at (committed p t taken h j) m)
        by true q =
            let is : m ≡ (site_at p.sites j).map = eqb-true m (site_at p.sites j).map q in
            let array : (decl_of t.decls (site_at p.sites j).map).kind ≡ Array = ap (λ k. (decl_of t.decls k).kind) (sym is) ∙ e in
            let table = one_value p t taken h j right array writing in
            let old : IsFilledTable Array (table_of p t j) = subst (λ k. IsFilledTable Array (table_at t k)) is f in
            let n = written_slot p t taken h j in
            let kept = set_filled (table_of p t j) n (record (slot_at (table_of p t j) n) { value = (slot_after p t taken h j).value }) (record { used = refl; key = refl }) old in
            subst (λ k. IsFilledTable Array (table_at (committed p t taken h j) k)) (sym is) (subst (IsFilledTable Array) (sym table) kept)
        by false q = subst (IsFilledTable Array) (sym ((one_slot p t taken h j right).others m (eqb-false m (site_at p.sites j).map q))) f

-- ---- a clock
module _ (one_slot : CommitsOneSlot) (one_value : CommitsOneValue) (commit_bytes : CommitKeepsBytes) (host_bytes : HostKeepsBytes) (b : Build) (i : Input) (s : State) (fits : AllFit s.tables.decls b.program.sites)
    (rights : (j : ℕ) (x : Packet) → action_in b i s ≡ machine.Commits j x → IsRightCommit b.program s.tables s.taken x.held j) (keys : HoldKeys s.tables) where
  by_action : (t : Action) → action_in b i s ≡ t → HoldKeys (tables_by b s t)
  by_action (machine.Commits j x) e =
      let committing = committed_action b i s j x e in
      let found = found_at (λ n. nat_le s.done n && writes b.program s.tables.decls x.held n) (site_numbers b.program) j committing.chosen_is in
      let fit : FitsMap s.tables.decls (site_at b.program.sites j) = fits j (at_number (length b.program.sites) j found.1) in
      record {
        bytes = commit_bytes b.program s.tables s.taken x.held j fit keys.bytes;
        filled = commit_filled one_slot one_value b.program s.tables s.taken x.held j (rights j x e) (and_parts (nat_le s.done j) (writes b.program s.tables.decls x.held j) found.0).1 keys.filled;
      }
  by_action (Writes a n) e = record { bytes = host_bytes s.tables a n keys.bytes; filled = host_filled s.tables a n keys.bytes.shaped.beside keys.filled }
  by_action Moves e = keys

  follow : HoldKeys (clock b i s).tables
  follow = subst HoldKeys (sym (clock_tables b i s)) (by_action (action_in b i s) refl)

pub keys_follow : CommitsOneSlot → CommitsOneValue → CommitKeepsBytes → HostKeepsBytes → KeysFollow
keys_follow one_slot one_value commit_bytes host_bytes = λ b i s fits rights keys. follow one_slot one_value commit_bytes host_bytes b i s fits rights keys

pub keys_begin : LoadsBytes → LoadsTables → KeysBegin
keys_begin bytes tables = λ maps sound. record { bytes = bytes maps sound; filled = λ m lt. ((tables maps sound).each m lt).filled }
