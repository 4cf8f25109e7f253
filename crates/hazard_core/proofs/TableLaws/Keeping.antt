-- What a commit and the host leave are bytes.
use Rattle.std.proofs.Common.{ℕ, ◌+◌, ◌-◌, ◌*◌, ◌<◌, ◌≤◌, Bool, true, false, List, ◌++◌, length, take, drop, sym, subst, arith, map as map_list, length-append, length-drop}
use Rattle.std.proofs.lemmas.List.{length-take, length-map}
use Rattle.std.proofs.lemmas.List.Elements.{All-append, All-take, All-drop}
use Rattle.byteorder.specs.Endian.{little_bytes}
use Rattle.xdp_maps.specs.declared.decl.MapDecl.{MapDecl}
use Rattle.xdp_maps.specs.Contents.{IsBytes}
use Rattle.xdp_maps.specs.Operations.{key_in}
use Rattle.xdp_maps.proofs.ByteLaws.{IsBytes-little_bytes}
use Rattle.cell_core.specs.declared.site.Act.{Act}
use Rattle.cell_core.specs.declared.site.Act.TheVariants as act
use Rattle.cell_core.specs.Formed.{HasWords, IsInside}
use Rattle.cell_core.specs.Sites.{site_at, operation_with}
use Rattle.cell_core.proofs.SpelledLaws.{bytes_are}
use Rattle.hazard_core.specs.declared.slot.Slot.{Slot}
use Rattle.hazard_core.specs.Tables.{decl_of, table_at, slot_at}
use Rattle.hazard_core.specs.StageValues.{stage_value, asked, asked_key}
use Rattle.hazard_core.specs.declared.access.Word.{Word}
use Rattle.hazard_core.specs.declared.access.Word.TheVariants.{Used, Key, Value, Nothing}
use Rattle.hazard_core.specs.Commits.{with_word, written_word, word_in, host_written, makes_entry, written_slot, slot_as, committed}
use Rattle.hazard_core.specs.TableLaws.Bytes.{HasBytes, CommitKeepsBytes, HostKeepsBytes}
use Rattle.hazard_core.specs.TableLaws.Counts.{CommitKeepsSlots, HostKeepsSlots}
use Rattle.hazard_core.proofs.TableLaws.Putting.{put_slots, put_bytes}
use Rattle.hazard_core.proofs.OperationLaws.{value_bytes}

-- ---- a commit

slot_bytes : (d : MapDecl) (a : Act) (new : Bool) (key xs : List ℕ) (s : Slot) → d.key ≤ 8 * length key → HasWords d.value a (length xs) → IsInside d.value a → HasBytes d s
    → HasBytes d (slot_as a new (operation_with d a key xs) (key_in (operation_with d a key xs)) s)
slot_bytes d act.Update true key xs s k w i b = record { key = bytes_are d.key key k; value = value_bytes d act.Update key xs s.value b.value w i }
slot_bytes d act.Update false key xs s k w i b = record { key = b.key; value = value_bytes d act.Update key xs s.value b.value w i }
slot_bytes d act.Delete new key xs s k w i b = record { key = b.key; value = b.value }
slot_bytes d act.Lookup new key xs s k w i b = record { key = b.key; value = b.value }
slot_bytes d (act.Load at size) new key xs s k w i b = record { key = b.key; value = b.value }
slot_bytes d (act.Store at size) new key xs s k w i b = record { key = b.key; value = value_bytes d (act.Store at size) key xs s.value b.value w i }
slot_bytes d (act.Atomic at a) new key xs s k w i b = record { key = b.key; value = value_bytes d (act.Atomic at a) key xs s.value b.value w i }

pub commit_bytes : CommitKeepsBytes
unfolding committed
commit_bytes p t taken h j fits held =
    let s = site_at p.sites j in
    let d = decl_of t.decls s.map in
    let n = written_slot p t taken h j in
    let x = slot_at (table_at t s.map) n in
    let enough = fits.key in
    put_bytes t s.map n (slot_as s.act (makes_entry p t h j) (asked t.decls h s) (asked_key t.decls h s) x) held
    (λ l c. slot_bytes d s.act (makes_entry p t h j) (map_list (stage_value h) s.key) (map_list (stage_value h) s.operands) x (omega (arith, enough, length-map s.key (stage_value h)))
    (subst (HasWords d.value s.act) (sym (length-map s.operands (stage_value h))) fits.value) fits.inside (held.each s.map n l c))

pub commit_slots : CommitKeepsSlots
unfolding committed
commit_slots p t taken h j =
    let s = site_at p.sites j in
    let n = written_slot p t taken h j in
    put_slots t s.map n (slot_as s.act (makes_entry p t h j) (asked t.decls h s) (asked_key t.decls h s) (slot_at (table_at t s.map) n))

-- ---- the host

word_bytes : (n : ℕ) (bytes : List ℕ) (w x : ℕ) → IsBytes n bytes → IsBytes n (with_word bytes w x)
word_bytes n bytes w x b =
    let more = take (length bytes - 8 * w) (little_bytes 8 x) in
    let front = take (8 * w) bytes in
    let back = drop (8 * w + length more) bytes in
    let whole = IsBytes-little_bytes 8 x in
    record {
      len = omega (arith, b.len, whole.len, length-append (front ++ more) back, length-append front more, length-take (8 * w) bytes, length-take (length bytes - 8 * w) (little_bytes 8 x), length-drop (8 * w + length more) bytes);
      bytes_fit = All-append (λ y. y < 256) (front ++ more) back (All-append (λ y. y < 256) front more (All-take (λ y. y < 256) (8 * w) bytes b.bytes_fit) (All-take (λ y. y < 256) (length bytes - 8 * w) (little_bytes 8 x) whole.bytes_fit))
          (All-drop (λ y. y < 256) (8 * w + length more) bytes b.bytes_fit);
    }

word_slot : (d : MapDecl) (s : Slot) (w : Word) (x : ℕ) → HasBytes d s → HasBytes d (written_word s w x)
word_slot d s Used x b = record { key = b.key; value = b.value }
word_slot d s (Key w) x b = record { key = word_bytes d.key s.key w x b.key; value = b.value }
word_slot d s (Value w) x b = record { key = b.key; value = word_bytes d.value s.value w x b.value }
word_slot d s Nothing x b = b

pub host_bytes : HostKeepsBytes
unfolding host_written
host_bytes t a n held =
    let s = slot_at (table_at t a.map) a.index in
    put_bytes t a.map a.index (written_word s (word_in t a) n) held (λ l c. word_slot (decl_of t.decls a.map) s (word_in t a) n (held.each a.map a.index l c))

pub host_slots : HostKeepsSlots
unfolding host_written
host_slots t a n = put_slots t a.map a.index (written_word (slot_at (table_at t a.map) a.index) (word_in t a) n)
