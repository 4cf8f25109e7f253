-- The value of an entry, operation by operation.
use Rattle.std.specs.Prelude.{◌==◌, not, ◌&&◌, if◌then◌else◌, fold, replicate, slice_range}
use Rattle.std.proofs.Common.{◌≡◌, ℕ, zero, suc, ◌+◌, ◌*◌, ◌^◌, ◌<◌, ◌≤◌, Bool, true, false, All, List, [], ◌∷◌, ◌++◌, length, take, map, get_or, refl, sym, ◌∙◌, ap, subst, arith}
use Rattle.std.proofs.Math.Seq.{take-suc}
use Rattle.block_core.specs.net_core.Value.{Env}
use Rattle.block_core.specs.declared.name.Name.{Name}
use Rattle.block_core.specs.Blocks.{BlockWireTree}
use Rattle.block_core.proofs.list_laws_laws.NumberLaws.{not_equal, same_test}
use Rattle.block_core.proofs.list_laws_laws.AllLaws.{all_two, both_all}
use Rattle.std.proofs.lemmas.List.{length-map, length-take-le, take_all, get_or-take}
use Rattle.std.proofs.lemmas.List.Elements.{All-nil, All-cons, All-head, All-tail, All-take}
use Rattle.hazard_core.specs.xdp_machine.State.{PacketIn}
use Rattle.byteorder.specs.Endian.{little_number}
use Rattle.hazard_core.specs.xdp_maps.Operations.{Operation}
use Rattle.hazard_core.specs.xdp_maps.declared.decl.MapDecl.{MapDecl}
use Rattle.hazard_core.specs.xdp_maps.Contents.{IsBytes}
use Rattle.hazard_core.specs.cell_core.declared.operator.Operator.TheVariants.{And, Equal}
use Rattle.hazard_core.specs.cell_core.declared.site.Act.{Act}
use Rattle.hazard_core.specs.cell_core.declared.site.Act.TheVariants as act
use Rattle.hazard_core.specs.cell_core.Cells.{number, bits_from, bit, on}
use Rattle.hazard_core.specs.cell_core.Formed.{HasWords, IsInside}
use Rattle.hazard_core.specs.cell_core.Sites.{ProgramView, site_at, operation_with}
use Rattle.hazard_core.specs.declared.pointer.Pointer.{Pointer}
use Rattle.hazard_core.specs.declared.pointer.Pointer.TheVariants.{Null, InSlot, Pending}
use Rattle.hazard_core.specs.declared.slot.Slot.{Slot}
use Rattle.hazard_core.specs.Commits.{word_at}
use Rattle.hazard_core.specs.StageValues.{StageValues, same_pointer, stage_value, asked, access_pointer, writes, written_pointer}
use Rattle.hazard_core.specs.Overlay.{value_as, value_over, value_under, entry_value, where_some, answer_as}
use Rattle.hazard_core.specs.Tables.{TableState, decl_of, table_at, slot_at}
use Rattle.hazard_core.proofs.cell_core_laws.BitLaws.{small_bits}
use Rattle.hazard_core.proofs.OperationLaws.{value_bytes}
use Rattle.cell_nets.specs.declared.operand.Operand.{Operand}
use Rattle.cell_nets.specs.Operands.{number_in, IsAvailable}
use Rattle.cell_nets.specs.Wires.{Gives}
use Rattle.overlay_net.specs.SiteOperands.Pointers.{pointer_number}
use Rattle.overlay_net.specs.ValueNet.Words.{answers_number, access_start, access_bytes}
use Rattle.overlay_net.specs.ValueNet.Pendings.{taken_of, all_taken, ShowsPending, ShowPendings, IsFitting, IsOf, AreOf, HasValue, ShowsEntry}
use Rattle.overlay_net.specs.declared.site_operands.Pending.{Pending as PendingNets}
use Rattle.overlay_net.proofs.ValueNet.ByteLaws.{word_zero, bytes_zero}
use Rattle.overlay_net.proofs.ValueNet.Holding.{hold_none, hold_more, hold_gives, step_gives}
use Rattle.overlay_net.proofs.ValueNet.ChangeLaws.{equal_is}

-- ---- values keep their lengths

either_bytes : (n : ℕ) (t : Bool) (xs ys : List ℕ) → IsBytes n xs → IsBytes n ys → IsBytes n (if t then xs else ys)
either_bytes n true xs ys h l = h
either_bytes n false xs ys h l = l

module _ {N : Type 0} (p : ProgramView) (t : TableState) (h : StageValues) (m : ℕ) (d : MapDecl) (declared : decl_of t.decls m ≡ d) (at : Pointer) where
  over_bytes : (i : ℕ) (n : PendingNets N) → IsOf p m i n → IsFitting d n → (value : List ℕ) → IsBytes d.value value → IsBytes d.value (value_over p t h at value i)
  over_bytes i n of fit value b =
      let s = site_at p.sites i in
      let xs = map (stage_value h) s.operands in
      let e : d ≡ decl_of t.decls s.map = sym (ap (decl_of t.decls) of.map ∙ declared) in
      let count : length n.nets.now.operands.items ≡ length xs = of.count ∙ sym (length-map s.operands (stage_value h)) in
      let words : HasWords d.value s.act (length xs) = subst (λ a. HasWords d.value a (length xs)) (sym of.act) (subst (HasWords d.value n.act) count fit.words) in
      let is = value_bytes d s.act (map (stage_value h) s.key) xs value b words (subst (IsInside d.value) (sym of.act) fit.inside) in
      either_bytes d.value (writes p t.decls h i && same_pointer (written_pointer p t h i) at) (value_as (asked t.decls h s) value) value
      (subst (λ k. IsBytes d.value (value_as (operation_with k s.act (map (stage_value h) s.key) xs) value)) e is) b

  pub fold_bytes : (is : List ℕ) (ns : List (PendingNets N)) → AreOf p m is ns → All (IsFitting d) ns → (value : List ℕ) → IsBytes d.value value → IsBytes d.value (fold (value_over p t h at) value is)
  fold_bytes [] ns of fit value b = b
  fold_bytes (i ∷ is) [] of fit value b = absurd (omega (arith, of.count))
  fold_bytes (i ∷ is) (n ∷ ns) of fit value b =
      fold_bytes is ns (record { count = omega (arith, of.count); each = λ k x lt. of.each (suc k) x (omega (arith, lt)) }) (All-tail (IsFitting d) n ns fit) (value_over p t h at value i)
      (over_bytes i n (of.each 0 n (omega arith)) (All-head (IsFitting d) n ns fit) value b)

-- ---- pointers by their numbers
pub pointer_test : (a b : Pointer) → (pointer_number a == pointer_number b) ≡ same_pointer a b
pointer_test Null Null = refl
pointer_test (InSlot n) (InSlot m) = same_test (4 * n + 1) (4 * m + 1) n m (λ e. omega arith) (λ e. omega arith)
pointer_test (Pending n) (Pending m) = same_test (4 * n + 2) (4 * m + 2) n m (λ e. omega arith) (λ e. omega arith)
pointer_test Null (InSlot m) = not_equal 0 (4 * m + 1) (λ e. omega arith)
pointer_test Null (Pending m) = not_equal 0 (4 * m + 2) (λ e. omega arith)
pointer_test (InSlot n) Null = not_equal (4 * n + 1) 0 (λ e. omega arith)
pointer_test (InSlot n) (Pending m) = not_equal (4 * n + 1) (4 * m + 2) (λ e. omega arith)
pointer_test (Pending n) Null = not_equal (4 * n + 2) 0 (λ e. omega arith)
pointer_test (Pending n) (InSlot m) = not_equal (4 * n + 2) (4 * m + 1) (λ e. omega arith)

pub both_bits : (packet : PacketIn) (a b : Bool) → bits_from (number packet And (bit a ∷ bit b ∷ [])) 0 1 ≡ bit (a && b)
both_bits packet true true = refl
both_bits packet true false = refl
both_bits packet false true = refl
both_bits packet false false = refl

-- a choice between words is the word of a choice
chosen_word : (b : Bool) (new old : ℕ) (xs ys : List ℕ) (w : ℕ) → new < 2 ^ 64 → old < 2 ^ 64 → new ≡ word_at xs w → old ≡ word_at ys w → bits_from (if on (bit b) then new else old) 0 64 ≡ word_at (if b then xs else ys) w
chosen_word true new old xs ys w h l e f = small_bits new 64 h ∙ e
chosen_word false new old xs ys w h l e f = small_bits old 64 l ∙ f

-- the word over one operation
pub over_is :
    (packet : PacketIn) (a : Bool) (q under : Pointer) (new old n u same over out : ℕ) (xs ys : List ℕ) (w k : ℕ) → new < 2 ^ 64 → old < 2 ^ 64 → n < 2 ^ 64 → u < 2 ^ 64 → new ≡ word_at xs w → old ≡ word_at ys w → k ≡ bit a → n ≡ pointer_number q → u ≡ pointer_number under
    → same ≡ bits_from (number packet Equal (n ∷ u ∷ [])) 0 1 → over ≡ bits_from (number packet And (k ∷ same ∷ [])) 0 1 → out ≡ bits_from (if on over then new else old) 0 64
    → out ≡ word_at (if a && same_pointer q under then xs else ys) w
over_is packet a q under new old n u same over out xs ys w k hn ho hq hu en eo ek eq eu es ev er =
    let is : same ≡ bit (same_pointer q under) = es ∙ equal_is packet n u hq hu ∙ ap (λ x. bit (x == u)) eq ∙ ap (λ x. bit (pointer_number q == x)) eu ∙ ap bit (pointer_test q under) in
    let both : over ≡ bit (a && same_pointer q under) = ev ∙ ap (λ x. bits_from (number packet And (x ∷ same ∷ [])) 0 1) ek ∙ ap (λ x. bits_from (number packet And (bit a ∷ x ∷ [])) 0 1) is ∙ both_bits packet a (same_pointer q under) in
    er ∙ ap (λ x. bits_from (if on x then new else old) 0 64) both ∙ chosen_word (a && same_pointer q under) new old xs ys w hn ho en eo

-- the word of the table
pub start_is :
    (d : MapDecl) (slots : List Slot) (at : Pointer) (w u first q r : ℕ) → first < 2 ^ 64 → u ≡ pointer_number at → ((n : ℕ) → at ≡ InSlot n → first ≡ word_at (slot_at slots n).value w) → q ≡ bits_from u 0 1 → r ≡ bits_from (if on q then first else 0) 0 64
    → r ≡ word_at (value_under d slots at) w
start_is d slots Null w u first q r small eu ef eq er =
    let none : q ≡ 0 = eq ∙ ap (λ k. bits_from k 0 1) eu in
    er ∙ ap (λ k. bits_from (if on k then first else 0) 0 64) none ∙ sym (word_zero d.value w)
start_is d slots (Pending j) w u first q r small eu ef eq er =
    let even : bits_from (4 * j + 2) 0 1 ≡ 0 = omega arith in
    let none : q ≡ 0 = eq ∙ ap (λ k. bits_from k 0 1) eu ∙ even in
    er ∙ ap (λ k. bits_from (if on k then first else 0) 0 64) none ∙ sym (word_zero d.value w)
start_is d slots (InSlot n) w u first q r small eu ef eq er =
    let odd : bits_from (4 * n + 1) 0 1 ≡ 1 = omega arith in
    let one : q ≡ 1 = eq ∙ ap (λ k. bits_from k 0 1) eu ∙ odd in
    er ∙ ap (λ k. bits_from (if on k then first else 0) 0 64) one ∙ small_bits first 64 small ∙ ef n refl

-- ---- one more of a list
pub fold_next : {A : Type 0} (f : A → ℕ → A) (z : A) (xs : List ℕ) (x : ℕ) → fold f z (xs ++ x ∷ []) ≡ f (fold f z xs) x
fold_next f z [] x = refl
fold_next f z (y ∷ xs) x = fold_next f (f z y) xs x

fold_next_at : {A : Type 0} (f : A → ℕ → A) (z : A) (xs ys : List ℕ) (x : ℕ) → ys ≡ xs ++ x ∷ [] → fold f z ys ≡ f (fold f z xs) x
fold_next_at f z xs ys x e = ap (fold f z) e ∙ fold_next f z xs x

-- what an operation asks, by the values of its operands
pub asked_word :
    (p : ProgramView) (decls : List MapDecl) (h : StageValues) (i : ℕ) (d : MapDecl) (a : Act) (xs value : List ℕ) (w : ℕ) → a ≡ (site_at p.sites i).act → decl_of decls (site_at p.sites i).map ≡ d → xs ≡ map (stage_value h) (site_at p.sites i).operands
    → word_at (value_as (operation_with d a (map (stage_value h) (site_at p.sites i).key) xs) value) w ≡ word_at (value_as (asked decls h (site_at p.sites i)) value) w
asked_word p decls h i d a xs value w ea ed ex =
    let s = site_at p.sites i in
    ap (λ k. word_at (value_as (operation_with k a (map (stage_value h) s.key) xs) value) w) (sym ed) ∙ ap (λ k. word_at (value_as (operation_with (decl_of decls s.map) k (map (stage_value h) s.key) xs) value) w) ea
    ∙ ap (λ k. word_at (value_as (operation_with (decl_of decls s.map) s.act (map (stage_value h) s.key) k) value) w) ex

-- ---- among the operands of all
pub one_taken : {N : Type 0} (Q : Operand N → Type 0) (ns : List (PendingNets N)) (k : ℕ) (n : PendingNets N) → k < length ns → n ≡ get_or ns k n → All Q (all_taken ns) → All Q (taken_of n)
one_taken Q [] k n h is all = absurd (omega arith)
one_taken Q (m ∷ ns) zero n h is all = subst (λ x. All Q (taken_of x)) (sym is) (both_all Q (taken_of m) (all_taken ns) all).0
one_taken Q (m ∷ ns) (suc k) n h is all = one_taken Q ns k n (omega arith) is (both_all Q (taken_of m) (all_taken ns) all).1

-- ---- a word over one operation after another
module _ {P : Type 0} (p : P) (g : ProgramView) (t : TableState) (h : StageValues) (m w : ℕ) (at : Pointer) (under first : Operand (Name P)) (before : List ℕ) (ns : List (PendingNets (Name P))) where
  abbrev args : List (Operand (Name P))
  args = under ∷ first ∷ all_taken ns

  abbrev Needs : Env (Name P) → Type 0
  Needs v = ShowsEntry v t m w at under first × ShowPendings v g t h before ns

  -- the value over so many of them
  abbrev pub so_far : ℕ → List ℕ
  so_far k = fold (value_over g t h at) (value_under (decl_of t.decls m) (table_at t m) at) (take k before)

  start_bytes : (d : MapDecl) (q : Pointer) → HasValue t m q → decl_of t.decls m ≡ d → IsBytes d.value (value_under (decl_of t.decls m) (table_at t m) q)
  start_bytes d Null hv e = subst (λ k. IsBytes k.value (replicate (decl_of t.decls m).value 0)) e (bytes_zero (decl_of t.decls m).value)
  start_bytes d (Pending j) hv e = subst (λ k. IsBytes k.value (replicate (decl_of t.decls m).value 0)) e (bytes_zero (decl_of t.decls m).value)
  start_bytes d (InSlot n) hv e = subst (λ k. IsBytes k.value (slot_at (table_at t m) n).value) e (hv n refl)

  first_of : (k : ℕ) → AreOf g m before ns → k ≤ length before → AreOf g m (take k before) (take k ns)
  first_of k of l =
      let count = of.count in
      let a = length-take-le k before l in
      let b = length-take-le k ns (omega arith) in
      record {
        count = b ∙ sym a;
        each = λ i n lt.
            let below : i < k = omega arith in
            let x = of.each i n (omega arith) in
            subst (λ j. IsOf g m j (get_or (take k ns) i n)) (sym (get_or-take k before i 0 below)) (subst (IsOf g m (get_or before i 0)) (sym (get_or-take k ns i n below)) x);
      }

  pub far_bytes : (d : MapDecl) (k : ℕ) → k ≤ length before → AreOf g m before ns → All (IsFitting d) ns → decl_of t.decls m ≡ d → HasValue t m at → IsBytes d.value (so_far k)
  far_bytes d k l of fit e hv = fold_bytes g t h m d e at (take k before) (take k ns) (first_of k of l) (All-take (IsFitting d) k ns fit) _ (start_bytes d at hv e)

  pub entry_bytes : (d : MapDecl) → AreOf g m before ns → All (IsFitting d) ns → decl_of t.decls m ≡ d → HasValue t m at → IsBytes d.value (entry_value g t h before m at)
  entry_bytes d of fit e hv = fold_bytes g t h m d e at before ns of fit _ (start_bytes d at hv e)

  far_next : (k : ℕ) → k < length before → so_far (k + 1) ≡ value_over g t h at (so_far k) (get_or before k 0)
  far_next k l =
      let e : suc k ≡ k + 1 = omega arith in
      fold_next_at (value_over g t h at) _ (take k before) (take (k + 1) before) (get_or before k 0) (ap (λ i. take i before) (sym e) ∙ take-suc before k 0 l)

  pub far_starts : (old new : List (BlockWireTree (Name P))) (r : Operand (Name P)) → Gives p old new (under ∷ first ∷ []) (λ v. ShowsEntry v t m w at under first) (λ v. word_at (value_under (decl_of t.decls m) (table_at t m) at) w) 64 r → Gives p old new args Needs (λ v. word_at (so_far 0) w) 64 r
  far_starts old new r x = step_gives p old new args (under ∷ first ∷ []) Needs (λ v. ShowsEntry v t m w at under first) _ _ 64 r x (λ ins a. all_two (IsAvailable ins) under first (a 0 under (omega arith)) (a 1 first (omega arith))) (λ v f n. (n.0, refl))

  pub far_more :
      (old mid new : List (BlockWireTree (Name P))) (k : ℕ) (n : PendingNets (Name P)) (word r : Operand (Name P)) → k < length ns → length ns ≡ length before → n ≡ get_or ns k n → Gives p old mid args Needs (λ v. word_at (so_far k) w) 64 word
      → Gives p mid new (word ∷ under ∷ taken_of n) (λ v. (number_in v word ≡ word_at (so_far k) w) × (number_in v under ≡ pointer_number at) × ShowsPending v g t h (get_or before k 0) n) (λ v. word_at (value_over g t h at (so_far k) (get_or before k 0)) w) 64 r
      → Gives p old new args Needs (λ v. word_at (so_far (k + 1)) w) 64 r
  far_more old mid new k n word r l count is x y =
      let there : k < length before = omega arith in
      let a = hold_more p old old mid args args args Needs Needs Needs (λ v. word_at (so_far k) w) 64 word (hold_none p old args Needs) x (λ ins c. c) (λ v f c. c) in
      let b = hold_more p old mid new args (word ∷ args) (word ∷ under ∷ taken_of n) Needs _ _ (λ v. word_at (value_over g t h at (so_far k) (get_or before k 0)) w) 64 r a y
      (λ ins c. All-cons (IsAvailable ins) word (under ∷ taken_of n) (c 0 word (omega arith)) (All-cons (IsAvailable ins) under (taken_of n) (c 1 word (omega arith)) (one_taken (IsAvailable ins) ns k n l is (All-tail (IsAvailable ins) first (all_taken ns) (All-tail (IsAvailable ins) under (first ∷ all_taken ns) (All-tail (IsAvailable ins) word args c))))))
      (λ v f c. (c.1, c.0.0.pointer, subst (ShowsPending v g t h (get_or before k 0)) (sym is) (c.0.1.each k n there))) in
      hold_gives p old new args (r ∷ word ∷ args) Needs _ (λ v. word_at (so_far (k + 1)) w) 64 r b y.operand y.bits (λ ins c. c 0 r (omega arith)) (λ v f c. c.1 ∙ ap (λ ys. word_at ys w) (sym (far_next k there)))

  pub far_all : (k : ℕ) → length before ≤ k → so_far k ≡ entry_value g t h before m at
  far_all k l = ap (λ xs. fold (value_over g t h at) (value_under (decl_of t.decls m) (table_at t m) at) xs) (take_all k before l)

-- ---- answers
pub null_choice : (q : Pointer) (x : ℕ) → (if on (pointer_number q) then x else 0) ≡ where_some q x
null_choice Null x = refl
null_choice (InSlot n) x = ap (λ b. if not b then x else 0) (not_equal (4 * n + 1) 0 (λ e. omega arith))
null_choice (Pending n) x = ap (λ b. if not b then x else 0) (not_equal (4 * n + 2) 0 (λ e. omega arith))

pub answer_is :
    (a : Act) (op : Operation) (p : ProgramView) (t : TableState) (h : StageValues) (before : List ℕ) (j : ℕ) → answers_number a ≡ true
    → answer_as a op p t h before j
    ≡ where_some (access_pointer h (site_at p.sites j)) (little_number (access_bytes a) (slice_range (entry_value p t h before (site_at p.sites j).map (access_pointer h (site_at p.sites j))) (access_start a) (access_start a + access_bytes a)))
answer_is (act.Load at size) op p t h before j e = refl
answer_is (act.Atomic at a) op p t h before j e = refl
answer_is act.Lookup op p t h before j e = cc
answer_is act.Update op p t h before j e = cc
answer_is act.Delete op p t h before j e = cc
answer_is (act.Store at size) op p t h before j e = cc
