-- Slots under pointers, by the numbers of these.
use Rattle.std.specs.Prelude.{if◌then◌else◌, fold, slice_index}
use Rattle.std.proofs.Common.{◌≡◌, ◌≢◌, ◌∙◌, ℕ, zero, suc, ◌+◌, ◌*◌, ◌/◌, ◌==◌, ◌^◌, ◌<◌, ◌≤◌, Bool, true, false, All, List, [], ◌∷◌, length, get_or, refl, sym, ap, subst, arith}
use Rattle.std.proofs.lemmas.Bool.{eqb-true, eqb-false}
use Rattle.block_core.proofs.list_laws_laws.NumberLaws.{not_equal, same_test}
use Rattle.net_core.specs.Value.{Env}
use Rattle.overlay_net.specs.xdp_machine.Arithmetic.{low}
use Rattle.overlay_net.specs.cell_core.Cells.{on, bits_from}
use Rattle.overlay_net.specs.hazard_core.declared.pointer.Pointer.{Pointer}
use Rattle.overlay_net.specs.hazard_core.declared.pointer.Pointer.TheVariants.{Null, InSlot, Pending}
use Rattle.overlay_net.specs.hazard_core.declared.slot.Slot.{Slot}
use Rattle.overlay_net.specs.cell_core.declared.site.Act.TheVariants as act
use Rattle.overlay_net.specs.hazard_core.StageValues.{same_pointer}
use Rattle.overlay_net.specs.hazard_core.Tables.{free_slot}
use Rattle.overlay_net.specs.hazard_core.Commits.{slot_under}
use Rattle.overlay_net.specs.cell_nets.declared.operand.Operand.{Operand}
use Rattle.overlay_net.specs.cell_nets.Operands.{number_in}
use Rattle.overlay_net.specs.SiteOperands.Pointers.{pointer_number}
use Rattle.overlay_net.proofs.cell_core_laws.BitLaws.{small_bits}
use Rattle.commit_net.specs.declared.target.TakenSlot.{TakenSlot}
use Rattle.commit_net.specs.Targets.{slots_of, IsAmong}

-- ---- numbers of pointers
-- whether the entry is one that an update is to make
pub pending_test : (q : Pointer) (j : ℕ) → (pointer_number q == 4 * j + 2) ≡ same_pointer q (Pending j)
pending_test Null j = not_equal 0 (4 * j + 2) (λ e. omega arith)
pending_test (InSlot n) j = not_equal (4 * n + 1) (4 * j + 2) (λ e. omega arith)
pending_test (Pending i) j = same_test (4 * i + 2) (4 * j + 2) i j (λ e. omega arith) (λ e. omega arith)

-- ---- the slot of the last update to whose entry a pointer is
abbrev pub over : {N : Type 0} → Env N → ℕ → ℕ → ℕ → TakenSlot N → ℕ
over v w n x s = bits_from (if n == 4 * s.site + 2 then number_in v s.slot else x) 0 w

module _ (w : ℕ) where
  pub choice_as : (m : ℕ) → m < 2 ^ w → (b : Bool) (y x : ℕ) → (b ≡ true → y ≡ m) → (b ≡ false → x ≡ m) → bits_from (if b then y else x) 0 w ≡ m
  choice_as m small true y x h k = ap (λ z. bits_from z 0 w) (h refl) ∙ small_bits m w small
  choice_as m small false y x h k = ap (λ z. bits_from z 0 w) (k refl) ∙ small_bits m w small

  either_as : (b : Bool) (y x m k : ℕ) → (b ≡ true → y ≡ m) → (b ≡ false → x ≡ k) → (if b then m else k) < 2 ^ w → bits_from (bits_from (if b then y else x) 0 w) 0 w ≡ (if b then m else k)
  either_as true y x m k h l small = ap (λ z. bits_from (bits_from z 0 w) 0 w) (h refl) ∙ ap (λ z. bits_from z 0 w) (small_bits m w small) ∙ small_bits m w small
  either_as false y x m k h l small = ap (λ z. bits_from (bits_from z 0 w) 0 w) (l refl) ∙ ap (λ z. bits_from z 0 w) (small_bits k w small) ∙ small_bits k w small

module _ {N : Type 0} (v : Env N) (w n m : ℕ) (small : m < 2 ^ w) where
  abbrev Fits : TakenSlot N → Type 0
  Fits s = n ≡ 4 * s.site + 2 → number_in v s.slot ≡ m

  rest : (s : TakenSlot N) (ss : List (TakenSlot N)) → All Fits (s ∷ ss) → All Fits ss
  rest s ss h k d lt = h (suc k) d (omega (arith, lt))

  stays : (ss : List (TakenSlot N)) (x : ℕ) → All Fits ss → x ≡ m → fold (over v w n) x ss ≡ m
  stays [] x h e = e
  stays (s ∷ ss) x h e = stays ss (over v w n x s) (rest s ss h) (choice_as w m small (n == 4 * s.site + 2) (number_in v s.slot) x (λ t. h 0 s (omega arith) (eqb-true n (4 * s.site + 2) t)) (λ f. e))

  found : (ss : List (TakenSlot N)) (x k : ℕ) → k < length ss → ((d : TakenSlot N) → n ≡ 4 * (get_or ss k d).site + 2) → All Fits ss → fold (over v w n) x ss ≡ m
  found [] x k lt is h = absurd (omega (arith, lt))
  found (s ∷ ss) x zero lt is h =
      stays ss (over v w n x s) (rest s ss h) (choice_as w m small (n == 4 * s.site + 2) (number_in v s.slot) x (λ t. h 0 s (omega arith) (is s)) (λ f. absurd (eqb-false n (4 * s.site + 2) f (is s))))
  found (s ∷ ss) x (suc k) lt is h = found ss (over v w n x s) k (omega (arith, lt)) is (rest s ss h)

-- ---- the slot under a pointer
module _ {N : Type 0} (v : Env N) (w j f : ℕ) (slots : List Slot) (took : List ℕ) (ss : List (TakenSlot N)) where
  -- what the nets make of the number of a pointer
  abbrev pub made_slot : ℕ → ℕ
  made_slot n = bits_from (if on (bits_from n 0 1) then bits_from n 2 w else bits_from (if n == 4 * j + 2 then f else fold (over v w n) (bits_from f 0 w) ss) 0 w) 0 w

  module _ (free : free_slot slots < length slots → f ≡ free_slot slots) (shown : All (λ s. number_in v s.slot ≡ slice_index took s.site) ss) (room : length slots ≤ 2 ^ w) where
    even : (n : ℕ) → bits_from n 0 1 ≡ 0 → made_slot n ≡ bits_from (bits_from (if n == 4 * j + 2 then f else fold (over v w n) (bits_from f 0 w) ss) 0 w) 0 w
    even n e = ap (λ b. bits_from (if on b then bits_from n 2 w else bits_from (if n == 4 * j + 2 then f else fold (over v w n) (bits_from f 0 w) ss) 0 w) 0 w) e

    by_pointer : (q : Pointer) → ((i : ℕ) → q ≡ Pending i → i ≢ j → IsAmong ss i) → slot_under slots took j q < length slots → made_slot (pointer_number q) ≡ slot_under slots took j q
    by_pointer Null made within =
        let m = free_slot slots in
        let small : m < 2 ^ w = omega (arith, within, room) in
        let e : f ≡ m = free within in
        let start : bits_from f 0 w ≡ m = ap (λ z. bits_from z 0 w) e ∙ small_bits m w small in
        even 0 refl
        ∙ either_as w (0 == 4 * j + 2) f (fold (over v w 0) (bits_from f 0 w) ss) m m (λ t. e) (λ t. stays v w 0 m small ss (bits_from f 0 w) (λ k d lt is. absurd (omega (arith, is))) start) (one (0 == 4 * j + 2) m small)
        ∙ same (0 == 4 * j + 2) m
      where
        same : (b : Bool) (m : ℕ) → (if b then m else m) ≡ m
        same true m = refl
        same false m = refl

        one : (b : Bool) (m : ℕ) → m < 2 ^ w → (if b then m else m) < 2 ^ w
        one b m lt = subst (λ x. x < 2 ^ w) (sym (same b m)) lt
    by_pointer (InSlot k) made within =
        let odd : bits_from (4 * k + 1) 0 1 ≡ 1 = omega arith in
        let index : bits_from (4 * k + 1) 2 w ≡ k = ap (λ z. low w z) quarter ∙ small_bits k w (omega (arith, within, room)) in
        ap (λ b. bits_from (if on b then bits_from (4 * k + 1) 2 w else bits_from (if 4 * k + 1 == 4 * j + 2 then f else fold (over v w (4 * k + 1)) (bits_from f 0 w) ss) 0 w) 0 w) odd ∙ ap (λ z. bits_from z 0 w) index
        ∙ small_bits k w (omega (arith, within, room))
      where
        quarter : (4 * k + 1) / 4 ≡ k / 1
        quarter = omega arith
    by_pointer (Pending i) made within =
        let n = 4 * i + 2 in
        let none : bits_from n 0 1 ≡ 0 = omega arith in
        let test : (n == 4 * j + 2) ≡ (i == j) = same_test n (4 * j + 2) i j (λ e. omega (arith, e)) (λ e. omega (arith, e)) in
        let small : (if i == j then free_slot slots else slice_index took i) < 2 ^ w = omega (arith, within, room) in
        even n none ∙ ap (λ b. bits_from (bits_from (if b then f else fold (over v w n) (bits_from f 0 w) ss) 0 w) 0 w) test
        ∙ either_as w (i == j) f (fold (over v w n) (bits_from f 0 w) ss) (free_slot slots) (slice_index took i) (λ e. free (subst (λ b. (if b then free_slot slots else slice_index took i) < length slots) e within))
        (λ e.
        let k = made i refl (eqb-false i j e) in
        found v w n (slice_index took i) (subst (λ b. (if b then free_slot slots else slice_index took i) < 2 ^ w) e small) ss (bits_from f 0 w) k.0 k.1 (λ d. ap (λ x. 4 * x + 2) (sym (k.2 d)))
        (λ a d lt is. shown a d lt ∙ ap (slice_index took) (omega (arith, is)))) small

    pub target_is : (q : Pointer) (n : ℕ) → n ≡ pointer_number q → ((i : ℕ) → q ≡ Pending i → i ≢ j → IsAmong ss i) → slot_under slots took j q < length slots → made_slot n ≡ slot_under slots took j q
    target_is q n e made within = ap made_slot e ∙ by_pointer q made within

-- ---- one of the operands
pub slot_there : {N : Type 0} (Q : Operand N → Type 0) (ss : List (TakenSlot N)) (k : ℕ) (s : TakenSlot N) → k < length ss → s ≡ get_or ss k s → All Q (slots_of ss) → Q s.slot
slot_there Q [] k s lt is h = absurd (omega (arith, lt))
slot_there Q (x ∷ ss) zero s lt is h = subst (λ y. Q y.slot) (sym is) (h 0 x.slot (omega arith))
slot_there Q (x ∷ ss) (suc k) s lt is h = slot_there Q ss k s (omega (arith, lt)) is (λ i d l. h (suc i) d (omega (arith, l)))
