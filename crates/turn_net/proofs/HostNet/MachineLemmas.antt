-- What the parts say of the host is what the machine says.
use Rattle.std.specs.Prelude.{◌≡◌, ◌≢◌, ℕ, zero, suc, ◌+◌, ◌<◌, ◌≤◌, ◌==◌, nat_lt, not, Bool, true, false, ◌&&◌, ◌||◌, if◌then◌else◌, Option, None, Some, is_some, length}
use Rattle.std.specs.List.{list_any, range_with_len}
use Rattle.std.proofs.Common.{refl, sym, ap, ◌∙◌, arith, ◌⊎◌, inl, inr}
use Rattle.std.proofs.lemmas.Bool.{lt-ltb, le-ltb, eq-eqb, ne_eqb, cases_eq, cases_lt}
use Rattle.net_core.specs.Value.{word, bit}
use Rattle.hazard_core.specs.declared.access.Access.{Access}
use Rattle.hazard_core.specs.declared.access.Word.{Word}
use Rattle.hazard_core.specs.declared.access.Word.TheVariants.{Nothing}
use Rattle.hazard_core.specs.Tables.{TableState, decl_of, table_at, slot_at}
use Rattle.hazard_core.specs.Commits.{word_as, word_in, shown_word, shown_to_host, may_write}
use Rattle.commit_net.specs.declared.map_block.form.MapForm.{MapForm}
use Rattle.commit_net.specs.MapBlock.Stored.{lets_write, may_here}
use Rattle.read_net.specs.pipe_core.Machine.{Build, State, is_idle, host_ready, written_if, host_writes, host_value}
use Rattle.turn_net.specs.HostNet.Host.{Signals, idle, ready, writes}
use Rattle.turn_net.specs.HostNet.Values.{read}
use Rattle.turn_net.specs.HostNet.Laws.{Shows, AreNumbered, HostFollows, WritesItsNumber, ValueFollows}

-- ---- whether a frame is inside
none_inside : (given m gathered : ℕ) → given + m ≡ gathered → (gathered == given) ≡ nat_lt m 1
none_inside given zero gathered e = eq-eqb gathered given (omega (arith, e)) ∙ sym (lt-ltb 0 1 (omega arith))
none_inside given (suc m) gathered e = let o : gathered ≢ given = omega (arith, e) in ne_eqb gathered given o ∙ sym (le-ltb (suc m) 1 (omega arith))

module _ (b : Build) (s : State) (a : Access) (i : Signals) (h : Shows b s a i) where
  idle_here : idle i ≡ is_idle s
  idle_here = λ j. not (h.partial j) && none_inside i.given (length s.answers + length s.frames) i.gathered h.inside j

  ready_here : ready i ≡ host_ready b s
  ready_here = λ j. idle_here j || not (h.present j && nat_lt 0 (h.done j))

-- ---- one of many maps is named
or_false : (x : Bool) → (x || false) ≡ x
or_false true = refl
or_false false = refl

module _ (named : ℕ) (x : Bool) (number : ℕ → ℕ) where
  abbrev any : ℕ → ℕ → Bool
  any a n = list_any (λ k. named == number k && x) (range_with_len a n)

  abbrev Numbered : ℕ → ℕ → Type 0
  Numbered a n = (k : ℕ) → a ≤ k → k < a + n → number k ≡ k

  here : (a n : ℕ) (b : Bool) → Numbered a (suc n) → (named == a) ≡ b → (named == number a) ≡ b
  here a n b h e = ap (λ m. named == m) (h a (omega arith) (omega arith)) ∙ e

  further : (a n : ℕ) → Numbered a (suc n) → Numbered (a + 1) n
  further a n h = λ k l m. h k (omega (arith, l)) (omega (arith, m))

  none_named : (a n : ℕ) → (named < a) ⊎ (a + n ≤ named) → Numbered a n → any a n ≡ false
  none_named a zero o h = refl
  none_named a (suc n) o h =
      let apart : named ≢ a = elim o [ inl l ↦ omega (arith, l) | inr l ↦ omega (arith, l) ] in
      let rest : (named < a + 1) ⊎ (a + 1 + n ≤ named) = elim o [ inl l ↦ inl (omega (arith, l)) | inr l ↦ inr (omega (arith, l)) ] in
      λ j. (here a n false h (ne_eqb named a apart) j && x) || none_named (a + 1) n rest (further a n h) j

  one_named : (a n : ℕ) → a ≤ named → named < a + n → Numbered a n → any a n ≡ x
  one_named a zero l m h = absurd (omega (arith, l, m))
  one_named a (suc n) l m h = elim (cases_eq named a) [
    | inl e ↦ (λ j. (here a n true h (eq-eqb named a e) j && x) || none_named (a + 1) n (inl (omega (arith, e))) (further a n h) j) ∙ or_false x
    | inr o ↦ let o' : named ≢ a = o in λ j. (here a n false h (ne_eqb named a o) j && x) || one_named (a + 1) n (omega (arith, l)) (omega (arith, m)) (further a n h) j
  ]

-- an access to no map names no word
unnamed : (t : TableState) (a : Access) → length t.decls ≤ a.map → word_in t a ≡ Nothing
unnamed t a l = ap (λ b. if b && nat_lt a.index (length (table_at t a.map)) then word_as (decl_of t.decls a.map).kind (decl_of t.decls a.map) a.word else Nothing) (le-ltb a.map (length t.decls) l)

any_lets : (idle : Bool) (t : TableState) (a : Access) (forms : ℕ → MapForm) (maps : ℕ) → AreNumbered maps forms → maps ≡ length t.decls → list_any (λ k. may_here (forms k) idle t a) (range_with_len 0 maps) ≡ lets_write idle t a
any_lets idle t a forms maps h e =
    let number : ℕ → ℕ = λ k. (forms k).number in
    let x = lets_write idle t a in
    let numbered : (k : ℕ) → 0 ≤ k → k < 0 + maps → number k ≡ k = λ k l m. h k (omega (arith, m)) in
    elim (cases_lt a.map maps) [
      | inl l ↦ one_named a.map x number 0 maps (omega arith) (omega (arith, l)) numbered
      | inr l ↦ none_named a.map x number 0 maps (inr (omega (arith, l))) numbered ∙ sym (ap (λ (w : Word). may_write idle (slot_at (table_at t a.map) a.index) w) (unnamed t a (omega (arith, l, e))))
    ]

-- ---- what is written
written_is : (g : Bool) (a : Access) (n : Option ℕ) → is_some (written_if g a n) ≡ (g && is_some n)
written_is false a n = refl
written_is true a None = refl
written_is true a (Some n) = refl

swapped : (r w l : Bool) → ((r && w) && l) ≡ ((r && l) && w)
swapped false w l = refl
swapped true true true = refl
swapped true true false = refl
swapped true false true = refl
swapped true false false = refl

writes_here : (b : Build) (s : State) (a : Access) (i : Signals) (forms : ℕ → MapForm) (maps : ℕ) → Shows b s a i → AreNumbered maps forms → maps ≡ length s.tables.decls
    → writes i (λ k. may_here (forms k) (is_idle s) s.tables a) maps ≡ is_some (host_writes (host_ready b s) (is_idle s) s.tables (Some a))
writes_here b s a i forms maps h numbered e =
    let lets = lets_write (is_idle s) s.tables a in
    (λ j. (ready_here b s a i h j && h.write j) && any_lets (is_idle s) s.tables a forms maps numbered e j)
    ∙ swapped (host_ready b s) (is_some a.write) lets
    ∙ sym (written_is (host_ready b s && lets) a a.write)

pub host_follows : {P : Type 0} → HostFollows P
host_follows {P} = λ part nets may block v slots slot_bits done_bits i b s a is solved sees shows. record {
  idle = is.idle v slots slot_bits done_bits i solved sees ∙ ap bit (idle_here b s a i shows);
  ready = is.ready v slots slot_bits done_bits i solved sees ∙ ap bit (ready_here b s a i shows);
  writes = λ forms numbered count let_write.
      is.writes v slots slot_bits done_bits i (λ k. may_here (forms k) (is_idle s) s.tables a) solved sees let_write ∙ ap bit (writes_here b s a i forms (length may) shows numbered count);
}

nothing_is : (n : Option (Access × ℕ)) (w : Access × ℕ) → n ≡ None → n ≡ Some w → ⊥
nothing_is n w e f = cc

written_number : (g : Bool) (a : Access) (n : Option ℕ) (w : Access × ℕ) → written_if g a n ≡ Some w → (w.0 ≡ a) × (n ≡ Some w.1)
written_number false a n w e = absurd (nothing_is None w refl e)
written_number true a None w e = absurd (nothing_is None w refl e)
written_number true a (Some n) w e = let p : w ≡ (a, n) = cc in (ap (λ x. x.0) p, ap (λ (x : Access × ℕ). Some x.1) (sym p))

pub writes_its_number : WritesItsNumber
writes_its_number = λ r idle t a w e. written_number (r && lets_write idle t a) a a.write w e

-- ---- what is read
read_here : (r : Bool) (t : TableState) (a : Access) (maps : ℕ) → maps ≡ length t.decls → read r a.map (shown_to_host t a) maps ≡ host_value r t (Some a)
read_here false t a maps e = refl
read_here true t a maps e = elim (cases_lt a.map maps) [
  | inl l ↦ ap (λ b. if b then shown_to_host t a else 0) (lt-ltb a.map maps l)
  | inr l ↦ ap (λ b. if b then shown_to_host t a else 0) (le-ltb a.map maps l) ∙ sym (ap (λ (w : Word). shown_word (slot_at (table_at t a.map) a.index) w) (unnamed t a (omega (arith, l, e))))
]

pub value_follows : {P : Type 0} → ValueFollows P
value_follows {P} = λ part ready words block v r t a forms is solved heard numbered count shows.
    is.shows v r a.map (shown_to_host t a) solved heard (λ k l. shows k l ∙ ap (λ m. word 64 (if a.map == m then shown_to_host t a else 0)) (numbered k l)) ∙ ap (word 64) (read_here r t a (length words) count)
