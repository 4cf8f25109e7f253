-- What the host writes and reads of a map, by the tables of all maps.
use Rattle.std.specs.Prelude.{◌==◌, nat_lt, ◌&&◌, if◌then◌else◌, slice_set}
use Rattle.std.proofs.Common.{◌≡◌, ◌≢◌, inl, inr, ◌∙◌, ℕ, ◌<◌, Bool, true, false, List, [], length, get_or, refl, sym, ap, arith}
use Rattle.std.proofs.lemmas.Bool.{lt-ltb, cases_lt}
use Rattle.std.proofs.lemmas.Bool.Decides.{nat_tests}
use Rattle.std.proofs.lemmas.List.{get_or_past, get_or-set_same, get_or-set_other}
use Rattle.overlay_net.specs.xdp_maps.declared.decl.MapDecl.{MapDecl}
use Rattle.overlay_net.specs.hazard_core.declared.slot.Slot.{Slot}
use Rattle.overlay_net.specs.hazard_core.declared.access.Access.{Access}
use Rattle.overlay_net.specs.hazard_core.declared.access.Word.{Word}
use Rattle.overlay_net.specs.hazard_core.declared.access.Word.TheVariants.{Nothing}
use Rattle.overlay_net.specs.hazard_core.Tables.{TableState, decl_of, table_at, slot_at}
use Rattle.overlay_net.specs.hazard_core.Commits.{word_as, word_in, shown_word, shown_to_host, may_write, written_word, host_written}
use Rattle.hash_net.specs.array_net.Hosts.{named_word, written_table}
use Rattle.commit_net.specs.declared.map_block.form.MapForm.{MapForm}
use Rattle.commit_net.specs.MapBlock.Stored.{IsMapOf, lets_write, after_write, may_here, shown_here}

no_word : (idle : Bool) (s : Slot) → may_write idle s Nothing ≡ false
no_word idle s = refl

module _ (f : MapForm) (t : TableState) (a : Access) (m : IsMapOf t f) (count : length (table_at t f.number) ≡ f.decl.cap) (some : 0 < f.decl.cap) where
  abbrev slots : List Slot
  slots = table_at t f.number

  abbrev here : Slot
  here = slot_at slots a.index

  abbrev named : Word
  named = named_word f.number f.decl a

  inside : f.number < length t.tables
  inside = elim (cases_lt f.number (length t.tables)) [
    | inl l ↦ l
    | inr g ↦ absurd (let e = ap length (get_or_past t.tables f.number [] g) in omega (arith, e, count, some))
  ]

  -- ---- where the host names this map
  module _ (is : (a.map == f.number) ≡ true) where
    same : a.map ≡ f.number
    same = grind (arith, nat_tests)

    word_same : named ≡ word_in t a
    word_same =
        ap (λ b. if b && nat_lt a.index f.decl.cap then word_as f.decl.kind f.decl a.word else Nothing) is
        ∙ sym
        (ap (λ k. if nat_lt k (length t.decls) && nat_lt a.index (length (table_at t k)) then word_as (decl_of t.decls k).kind (decl_of t.decls k) a.word else Nothing) same
        ∙ ap (λ b. if b && nat_lt a.index (length slots) then word_as (decl_of t.decls f.number).kind (decl_of t.decls f.number) a.word else Nothing) (lt-ltb f.number (length t.decls) m.there)
        ∙ ap (λ n. if true && nat_lt a.index n then word_as (decl_of t.decls f.number).kind (decl_of t.decls f.number) a.word else Nothing) count
        ∙ ap (λ (d : MapDecl). if true && nat_lt a.index f.decl.cap then word_as d.kind d a.word else Nothing) m.declared)

    slot_same : here ≡ slot_at (table_at t a.map) a.index
    slot_same = ap (λ k. slot_at (table_at t k) a.index) (sym same)

    lets_same : (idle : Bool) → may_write idle here named ≡ lets_write idle t a
    lets_same idle = ap (λ (w : Word). may_write idle here w) word_same ∙ ap (λ (s : Slot). may_write idle s (word_in t a)) slot_same

    written_same : (number : ℕ) → slice_set slots a.index (written_word here named number) ≡ table_at (host_written t a number) f.number
    unfolding host_written
    written_same number =
        ap (λ (w : Word). slice_set slots a.index (written_word here w number)) word_same
        ∙ sym
        (ap (λ k. get_or (slice_set t.tables k (slice_set (table_at t k) a.index (written_word (slot_at (table_at t k) a.index) (word_in t a) number))) f.number []) same
        ∙ get_or-set_same t.tables f.number (slice_set slots a.index (written_word here (word_in t a) number)) [] inside)

  -- ---- where it names another one
  module _ (other : (a.map == f.number) ≡ false) where
    apart : f.number ≢ a.map
    apart e = let q : a.map ≡ f.number = sym e in grind (arith, nat_tests)

    unnamed : named ≡ Nothing
    unnamed = ap (λ b. if b && nat_lt a.index f.decl.cap then word_as f.decl.kind f.decl a.word else Nothing) other

    kept : (number : ℕ) → table_at (host_written t a number) f.number ≡ slots
    unfolding host_written
    kept number = get_or-set_other t.tables a.map f.number (slice_set (table_at t a.map) a.index (written_word (slot_at (table_at t a.map) a.index) (word_in t a) number)) [] apart

  -- ---- what it may, what it leaves and what it reads
  pub may_is : (idle : Bool) → may_write idle here named ≡ may_here f idle t a
  may_is idle = by (a.map == f.number) refl
    where
      by : (c : Bool) → (a.map == f.number) ≡ c → may_write idle here named ≡ may_here f idle t a
      by true e = lets_same e idle ∙ sym (ap (λ b. b && lets_write idle t a) e)
      by false e = ap (λ (w : Word). may_write idle here w) (unnamed e) ∙ no_word idle here ∙ sym (ap (λ b. b && lets_write idle t a) e)

  pub table_is : (idle : Bool) (number : ℕ) → written_table idle named slots a.index number ≡ table_at (after_write idle t a number) f.number
  table_is idle number = by (a.map == f.number) (lets_write idle t a) refl refl
    where
      new : Bool → List Slot
      new b = table_at (if b then host_written t a number else t) f.number

      by : (c l : Bool) → (a.map == f.number) ≡ c → lets_write idle t a ≡ l → written_table idle named slots a.index number ≡ new (lets_write idle t a)
      by true true e g = ap (λ b. if b then slice_set slots a.index (written_word here named number) else slots) (lets_same e idle ∙ g) ∙ written_same e number ∙ sym (ap new g)
      by true false e g = ap (λ b. if b then slice_set slots a.index (written_word here named number) else slots) (lets_same e idle ∙ g) ∙ sym (ap new g)
      by false true e g = ap (λ (w : Word). written_table idle w slots a.index number) (unnamed e) ∙ sym (kept e number) ∙ sym (ap new g)
      by false false e g = ap (λ (w : Word). written_table idle w slots a.index number) (unnamed e) ∙ sym (ap new g)

  pub shown_is : shown_word here named ≡ shown_here f t a
  shown_is = by (a.map == f.number) refl
    where
      by : (c : Bool) → (a.map == f.number) ≡ c → shown_word here named ≡ shown_here f t a
      by true e = ap (λ (w : Word). shown_word here w) (word_same e) ∙ ap (λ (s : Slot). shown_word s (word_in t a)) (slot_same e) ∙ sym (ap (λ b. if b then shown_to_host t a else 0) e)
      by false e = ap (λ (w : Word). shown_word here w) (unnamed e) ∙ sym (ap (λ b. if b then shown_to_host t a else 0) e)
