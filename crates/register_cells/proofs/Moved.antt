-- What sums and differences yield: of numbers, of pointers that are moved, and distances in the packet.
use Rattle.std.proofs.Common.{◌≡◌, ◌≢◌, ℕ, ◌+◌, ◌-◌, ◌^◌, ◌<◌, ℤ, pos, negsuc, ◌+ℤ◌, ◌-ℤ◌, neg_ℤ, nat_le, Bool, true, false, cond, Option, Some, None, Ok, Err, IfOk, List, length, refl, sym, ◌∙◌, ap, ap₂, arith}
use Rattle.std.proofs.lemmas.Int.{ints}
use Rattle.std.specs.Int.{w64, cast_unsigned}
use Rattle.cell_core.specs.bpf_isa.declared.operation.Src.TheVariants.{K}
use Rattle.cell_core.specs.bpf_isa.declared.operation.Width.TheVariants.{Bits64}
use Rattle.cell_core.specs.bpf_isa.declared.operation.AluCode.TheVariants.{Add, Sub}
use Rattle.cell_core.specs.xdp_maps.declared.decl.MapDecl.{MapDecl}
use Rattle.cell_core.specs.xdp_machine.Arithmetic.{low, arithmetic}
use Rattle.cell_core.specs.xdp_machine.Values.{Value}
use Rattle.cell_core.specs.xdp_machine.Values as is
use Rattle.cell_core.specs.xdp_machine.State.{PacketIn}
use Rattle.cell_core.specs.xdp_machine.Pointers as machine
use Rattle.cell_core.specs.bits_core.Bits.{signed_of}
use Rattle.xdp_state.specs.declared.refusal.Why.{Why}
use Rattle.xdp_state.specs.declared.refusal.Why.TheVariants as why
use Rattle.kind_core.specs.declared.number.Number.{Number}
use Rattle.kind_core.specs.declared.number.Number.TheVariants.{Known, Between}
use Rattle.kind_core.specs.declared.kind.Kind.{Kind}
use Rattle.kind_core.specs.declared.kind.Kind.TheVariants.{Num, Packet, Var, End, Stack, Entry}
use Rattle.kind_core.specs.Numbers.{number_arithmetic, number_sum, number_difference}
use Rattle.kind_core.specs.Kinds.{value_bytes}
use Rattle.kind_core.specs.Tests.{within}
use Rattle.kind_core.specs.Pointers as kind
use Rattle.kind_core.proofs.TestLaws.{bind_ok, bind_all, within_is}
use Rattle.cell_core.specs.Cells.{CellView}
use Rattle.operator_cells.specs.Making.{Makes}
use Rattle.operator_cells.specs.HeldCells.RegisterCells.{PointerView, Holds, Counts, number_of, key_of, pointer_at}
use Rattle.operator_cells.proofs.MakingLaws.{grown_none}
use Rattle.register_cells.specs.Reading.{Finds, IsRead, Yields, place_of, IsShort, are_known}
use Rattle.register_cells.proofs.Finding.{low_same}
use Rattle.register_cells.proofs.Growing.{ok_map}

-- ---- numbers

-- what comes of two numbers of 64 bits, of which the low bits alone are taken
number_came : (F : Value → Value → Option Value) (f : ℕ → ℕ → ℕ) → ((m n : ℕ) → F (is.Number m) (is.Number n) ≡ Some (is.Number (f m n)))
    → (m n w : ℕ) (s t y : Value) → (s ≡ is.Number m) × (m < 2 ^ 64) → (t ≡ is.Number n) × (n < 2 ^ 64) → w ≡ f (low 64 m) (low 64 n) → F s t ≡ Some y → y ≡ is.Number w
number_came F f by m n w s t y hs ht made e =
    let g : Some (is.Number (f m n)) ≡ Some y = sym (by m n) ∙ sym (ap₂ F hs.0 ht.0) ∙ e in
    let h : w ≡ f m n = made ∙ ap₂ f (low_same 64 m hs.1) (low_same 64 n ht.1) in
    cc

module _ (decls : List MapDecl) (ps : List PointerView) (old new : List CellView) (p q c : ℕ) where
  numbers_sum : (x y : Number) → Finds old new (number_arithmetic Add false Bits64 K x y) c (λ packet v. arithmetic Add false 64 (low 64 (number_of v x p)) (low 64 (number_of v y q)))
      → Yields decls ps (Num x) p (Num y) q old new (Num (number_sum x y)) c (λ s t. machine.sum s t)
  numbers_sum (Known a) (Known b) found = record { grows = found.grows; counts = tt; holds = λ packet v s t y r short hs ht e. tt }
  numbers_sum (Known a) (Between lo hi) found = record {
    grows = found.grows;
    counts = found.there;
    holds = λ packet v s t y r short hs ht e. number_came (λ i j. machine.sum i j) (arithmetic Add false 64) (λ m n. refl) a (v q) (v c) s t y hs ht (found.value packet v r) e;
  }
  numbers_sum (Between lo hi) z found = record {
    grows = found.grows;
    counts = found.there;
    holds = λ packet v s t y r short hs ht e. number_came (λ i j. machine.sum i j) (arithmetic Add false 64) (λ m n. refl) (v p) (number_of v z q) (v c) s t y hs ht (found.value packet v r) e;
  }

  numbers_less : (x y : Number) → Finds old new (number_arithmetic Sub false Bits64 K x y) c (λ packet v. arithmetic Sub false 64 (low 64 (number_of v x p)) (low 64 (number_of v y q)))
      → Yields decls ps (Num x) p (Num y) q old new (Num (number_difference x y)) c (λ s t. machine.difference s t)
  numbers_less (Known a) (Known b) found = record { grows = found.grows; counts = tt; holds = λ packet v s t y r short hs ht e. tt }
  numbers_less (Known a) (Between lo hi) found = record {
    grows = found.grows;
    counts = found.there;
    holds = λ packet v s t y r short hs ht e. number_came (λ i j. machine.difference i j) (arithmetic Sub false 64) (λ m n. refl) a (v q) (v c) s t y hs ht (found.value packet v r) e;
  }
  numbers_less (Between lo hi) z found = record {
    grows = found.grows;
    counts = found.there;
    holds = λ packet v s t y r short hs ht e. number_came (λ i j. machine.difference i j) (arithmetic Sub false 64) (λ m n. refl) (v p) (number_of v z q) (v c) s t y hs ht (found.value packet v r) e;
  }

  pub sum_yields : {a b : Kind} (x y : Number) → a ≡ Num x → b ≡ Num y → Finds old new (number_arithmetic Add false Bits64 K x y) c (λ packet v. arithmetic Add false 64 (low 64 (number_of v x p)) (low 64 (number_of v y q)))
      → IfOk (kind.sum decls a b) (λ z. Yields decls ps a p b q old new z c (λ s t. machine.sum s t))
  sum_yields x y e f found = rw (e, f) (numbers_sum x y found)

  pub less_yields : {a b : Kind} (x y : Number) → a ≡ Num x → b ≡ Num y → Finds old new (number_arithmetic Sub false Bits64 K x y) c (λ packet v. arithmetic Sub false 64 (low 64 (number_of v x p)) (low 64 (number_of v y q)))
      → IfOk (kind.difference decls a b) (λ z. Yields decls ps a p b q old new z c (λ s t. machine.difference s t))
  less_yields x y e f found = rw (e, f) (numbers_less x y found)

-- ---- pointers that are moved

came : (t : Bool) (u y : Value) → cond t (Some u) None ≡ Some y → y ≡ u
came true u y e = cc
came false u y e = absurd cc

if_ok : (t : Bool) (x : Kind) (w : Why) (P : Kind → Type 0) → P x → IfOk (cond t (Ok x) (Err w)) P
if_ok true x w P h = h
if_ok false x w P h = tt

-- A pointer that is moved so far has the cells that it had; G is what the machine makes of its value.
record Moved (decls : List MapDecl) (ps : List PointerView) (n : ℕ) (d : ℤ) (k : Kind) (p : ℕ) (x : Kind) : Type 0 where
  counts : Counts decls n ps x p
  holds : (packet : PacketIn) (v : ℕ → ℕ) (s y : Value) (G : Value → Option Value) → ((q : ℕ) (key : List ℕ) (o : ℤ) → G (is.Entry q key o) ≡ machine.at_offset (is.Entry q key) (o +ℤ d))
      → IsRead decls packet v ps k p s → G s ≡ Some y → Holds decls v ps x p y

abbrev so_far : Bool → ℕ → ℤ
so_far back m = cond back (neg_ℤ (signed_of 64 m)) (signed_of 64 m)

moved_all : (decls : List MapDecl) (ps : List PointerView) (n : ℕ) (back : Bool) (k : Kind) (m p : ℕ) → Counts decls n ps k p → IfOk (kind.moved decls back k (Known m)) (Moved decls ps n (so_far back m) k p)
moved_all decls ps n back (Packet o) m p h = bind_all (within (pos o +ℤ so_far back m) 0 256) _ (Moved decls ps n (so_far back m) (Packet o) p) (λ a. record { counts = tt; holds = λ packet v s y G on r e. tt })
moved_all decls ps n back (Var b f) m p h = absurd h
moved_all decls ps n back (Stack o) m p h = if_ok _ (Stack (o +ℤ so_far back m)) why.Offset (Moved decls ps n (so_far back m) (Stack o) p) (record { counts = tt; holds = λ packet v s y G on r e. tt })
moved_all decls ps n back (Entry q o) m p h = bind_ok (within (pos o +ℤ so_far back m) 0 (value_bytes decls q)) _ (Moved decls ps n (so_far back m) (Entry q o) p) (λ a at. record {
  counts = h;
  holds = λ packet v s y G on r e.
      let key : List ℕ = key_of decls v q (pointer_at ps p) in
      let f : machine.at_offset (is.Entry q key) (pos o +ℤ so_far back m) ≡ Some y = sym (on q key (pos o)) ∙ ap G (sym r.1) ∙ e in
      (r.0, came _ (is.Entry q key (pos o +ℤ so_far back m)) y f ∙ ap (is.Entry q key) (within_is (pos o +ℤ so_far back m) 0 (value_bytes decls q) a at).0);
})
moved_all decls ps n back k m p h = tt

moved_unknown : (decls : List MapDecl) (back : Bool) (k : Kind) (lo hi : ℕ) (P : Kind → Type 0) → IfOk (kind.moved decls back k (Between lo hi)) P
moved_unknown decls back (Packet o) lo hi P = tt
moved_unknown decls back (Var b f) lo hi P = tt
moved_unknown decls back (Stack o) lo hi P = tt
moved_unknown decls back (Entry q o) lo hi P = tt
moved_unknown decls back k lo hi P = tt

module _ (decls : List MapDecl) (ps : List PointerView) (cells : List CellView) (p q : ℕ) where
  right_moves : (x : Number) (k : Kind) → Counts decls (length cells) ps k q → IfOk (kind.moved decls false k x) (λ z. Yields decls ps (Num x) p k q cells cells z q (λ s t. machine.sum s t))
  right_moves (Known m) k h = ok_map (kind.moved decls false k (Known m)) (Moved decls ps (length cells) (so_far false m) k q) (λ z. Yields decls ps (Num (Known m)) p k q cells cells z q (λ s t. machine.sum s t)) (λ z w. record {
    grows = grown_none;
    counts = w.counts;
    holds = λ packet v s t y r short hs ht e. w.holds packet v t y (λ u. machine.sum (is.Number m) u) (λ i key o. refl) ht (ap (λ (u : Value). machine.sum u t) (sym hs.0) ∙ e);
  }) (moved_all decls ps (length cells) false k m q h)
  right_moves (Between lo hi) k h = moved_unknown decls false k lo hi _

  left_moves : (k : Kind) (x : Number) → Counts decls (length cells) ps k p → IfOk (kind.moved decls false k x) (λ z. Yields decls ps k p (Num x) q cells cells z p (λ s t. machine.sum s t))
  left_moves k (Known m) h = ok_map (kind.moved decls false k (Known m)) (Moved decls ps (length cells) (so_far false m) k p) (λ z. Yields decls ps k p (Num (Known m)) q cells cells z p (λ s t. machine.sum s t)) (λ z w. record {
    grows = grown_none;
    counts = w.counts;
    holds = λ packet v s t y r short hs ht e. w.holds packet v s y (λ u. machine.sum u (is.Number m)) (λ i key o. refl) hs (ap (λ (u : Value). machine.sum s u) (sym ht.0) ∙ e);
  }) (moved_all decls ps (length cells) false k m p h)
  left_moves k (Between lo hi) h = moved_unknown decls false k lo hi _

  back_moves : (k : Kind) (x : Number) → Counts decls (length cells) ps k p → IfOk (kind.moved decls true k x) (λ z. Yields decls ps k p (Num x) q cells cells z p (λ s t. machine.difference s t))
  back_moves k (Known m) h = ok_map (kind.moved decls true k (Known m)) (Moved decls ps (length cells) (so_far true m) k p) (λ z. Yields decls ps k p (Num (Known m)) q cells cells z p (λ s t. machine.difference s t)) (λ z w. record {
    grows = grown_none;
    counts = w.counts;
    holds = λ packet v s t y r short hs ht e. w.holds packet v s y (λ u. machine.difference u (is.Number m)) (λ i key o. refl) hs (ap (λ (u : Value). machine.difference s u) (sym ht.0) ∙ e);
  }) (moved_all decls ps (length cells) true k m p h)
  back_moves k (Between lo hi) h = moved_unknown decls true k lo hi _

  pub sum_right : (x : Number) (a b : Kind) → a ≡ Num x → ((y : Number) → b ≢ Num y) → Counts decls (length cells) ps b q → IfOk (kind.sum decls a b) (λ z. Yields decls ps a p b q cells cells z q (λ s t. machine.sum s t))
  sum_right x a b e other h = rw e (by b other h)
    where
      by : (k : Kind) → ((y : Number) → k ≢ Num y) → Counts decls (length cells) ps k q → IfOk (kind.sum decls (Num x) k) (λ z. Yields decls ps (Num x) p k q cells cells z q (λ s t. machine.sum s t))
      by (Num y) other h = absurd (other y refl)
      by k other h = right_moves x k h

  pub sum_left : (a b : Kind) → ((x : Number) → a ≢ Num x) → Counts decls (length cells) ps a p → IfOk (kind.sum decls a b) (λ z. Yields decls ps a p b q cells cells z p (λ s t. machine.sum s t))
  sum_left (Num x) b other h = absurd (other x refl)
  sum_left a (Num y) other h = left_moves a y h
  sum_left a b other h = tt

  pub less_left : (y : Number) (a b : Kind) → b ≡ Num y → ((x : Number) → a ≢ Num x) → Counts decls (length cells) ps a p → IfOk (kind.difference decls a b) (λ z. Yields decls ps a p b q cells cells z p (λ s t. machine.difference s t))
  less_left y a b e other h = rw e (by a other h)
    where
      by : (k : Kind) → ((x : Number) → k ≢ Num x) → Counts decls (length cells) ps k p → IfOk (kind.difference decls k (Num y)) (λ z. Yields decls ps k p (Num y) q cells cells z p (λ s t. machine.difference s t))
      by (Num x) other h = absurd (other x refl)
      by k other h = back_moves k y h

-- ---- distances in the packet

less_is : (a b : ℕ) → a < 2 ^ 64 → b < 2 ^ 64 → cast_unsigned w64 (pos a -ℤ pos b) ≡ low 64 (low 64 a + (2 ^ 64 - low 64 b))
less_is a b l m = grind (arith, ints)

-- two places in the packet
place_came : (a b w : ℕ) (s t y : Value) → a < 2 ^ 64 → b < 2 ^ 64 → s ≡ is.Packet (pos a) → t ≡ is.Packet (pos b) → w ≡ low 64 (low 64 a + (2 ^ 64 - low 64 b)) → machine.difference s t ≡ Some y → y ≡ is.Number w
place_came a b w s t y l m hs ht made e =
    let g : Some (is.Number (cast_unsigned w64 (pos a -ℤ pos b))) ≡ Some y = sym (ap₂ (λ (i j : Value). machine.difference i j) hs ht) ∙ e in
    let h : w ≡ cast_unsigned w64 (pos a -ℤ pos b) = made ∙ sym (less_is a b l m) in
    cc

pub distance_yields : (decls : List MapDecl) (ps : List PointerView) (old new : List CellView) (a : Kind) (p : ℕ) (b : Kind) (q c : ℕ) → are_known a b ≡ false → ((y : Number) → b ≢ Num y)
    → IsShort a → IsShort b
    → Counts decls (length old) ps a p → Counts decls (length old) ps b q → Makes old new c (λ packet v. low 64 (low 64 (place_of packet a) + (2 ^ 64 - low 64 (place_of packet b))))
    → IfOk (kind.difference decls a b) (λ z. Yields decls ps a p b q old new z c (λ s t. machine.difference s t))
distance_yields decls ps old new a p (Num y) q c two other sa sb ca cb made = absurd (other y refl)
distance_yields decls ps old new a p (Var x f) q c two other sa sb ca cb made = absurd cb
distance_yields decls ps old new (Var x f) p b q c two other sa sb ca cb made = absurd ca
distance_yields decls ps old new (Packet o) p (Packet u) q c two other sa sb ca cb made = absurd cc
distance_yields decls ps old new End p (Packet u) q c two other sa sb ca cb made = record { grows = made.grows; counts = made.there; holds = λ packet v s t y r short hs ht e. place_came (length packet.frame) u (v c) s t y (omega (arith, short)) (sb u refl) hs ht (made.value packet v r) e }
distance_yields decls ps old new (Packet o) p End q c two other sa sb ca cb made = record { grows = made.grows; counts = made.there; holds = λ packet v s t y r short hs ht e. place_came o (length packet.frame) (v c) s t y (sa o refl) (omega (arith, short)) hs ht (made.value packet v r) e }
distance_yields decls ps old new End p End q c two other sa sb ca cb made = record { grows = made.grows; counts = made.there; holds = λ packet v s t y r short hs ht e. place_came (length packet.frame) (length packet.frame) (v c) s t y (omega (arith, short)) (omega (arith, short)) hs ht (made.value packet v r) e }
distance_yields decls ps old new a p b q c two other sa sb ca cb made = tt
