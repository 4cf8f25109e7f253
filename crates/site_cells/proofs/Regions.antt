-- Words of the bytes to which a pointer leads.
use Rattle.std.proofs.Common.{◌≡◌, ℕ, ◌+◌, ◌-◌, ◌/◌, ◌<◌, ◌≤◌, ℤ, pos, negsuc, ◌+ℤ◌, nat_le, if◌then◌else◌, Bool, true, false, Some, None, Ok, Err, List, [], ◌∷◌, length, drop, get_or, slice_index, slice_range, map as map_list, refl, sym, ◌∙◌, ap, subst, arith}
use Rattle.std.specs.Prelude.{All}
use Rattle.std.proofs.lemmas.List.{get_or-take, get_or-drop, get_or-map, length-map, length-take, length-drop, ext_get_or}
use Rattle.std.proofs.lemmas.List.Elements.{All-cons}
use Rattle.std.proofs.lemmas.Bool.Decides.{nat_tests}
use Rattle.cell_core.specs.xdp_maps.declared.decl.MapDecl.{MapDecl}
use Rattle.cell_core.specs.xdp_machine.Memory.{inside}
use Rattle.cell_core.specs.xdp_machine.Helpers as machine
use Rattle.cell_core.specs.xdp_machine.Helpers.{stack_bytes}
use Rattle.kind_core.proofs.xdp_machine_laws.ChangeLaws.{some_inj, inside-within}
use Rattle.kind_core.proofs.xdp_machine_laws.PartLaws.{IsBytes-stack_bytes, bytes_in_slice}
use Rattle.kind_core.specs.declared.number.Number.{Number}
use Rattle.kind_core.specs.declared.kind.Kind.{Kind}
use Rattle.kind_core.specs.declared.kind.Kind.TheVariants.{Unset, Num, Packet, Stack}
use Rattle.kind_core.specs.declared.kind.Kinds.{Kinds}
use Rattle.xdp_state.specs.declared.refusal.Why.TheVariants as why
use Rattle.kind_core.specs.Tests as tests
use Rattle.kind_core.specs.Tests.{passed, within, all_numbers, one_number}
use Rattle.kind_core.specs.Calls.{region}
use Rattle.kind_core.proofs.TestLaws.{bind_passed}
use Rattle.cell_core.specs.Cells.{CellView}
use Rattle.cell_core.specs.Sites.{bytes_of}
use Rattle.operator_cells.proofs.MakingLaws.{grown}
use Rattle.operator_cells.specs.declared.held_cells.machine_cells.RegisterCells.{RegisterCells}
use Rattle.operator_cells.specs.HeldCells.RegisterCells.{PointerView}
use Rattle.site_cells.specs.Words.{JoinsWords, HoldsBytes, HoldsRegion, AreNumbers}
use Rattle.site_cells.proofs.Slots.{bound}

-- ---- the packet

pub part_at : (xs : List ℕ) (a n j : ℕ) → j < n → get_or (slice_range xs a (a + n)) j 0 ≡ get_or xs (a + j) 0
part_at xs a n j h = let e : a + n - a ≡ n = omega arith in get_or-take (a + n - a) (drop a xs) j 0 (omega (arith, e, h)) ∙ get_or-drop a xs j 0

pub part_long : (xs : List ℕ) (a b : ℕ) → b ≤ length xs → length (slice_range xs a b) ≡ b - a
part_long xs a b h = omega (arith, length-take (b - a) (drop a xs), length-drop a xs, h)

-- cells of the window have the bytes of the frame
window_is : (v : ℕ → ℕ) (frame window : List ℕ) (a n : ℕ) → a + n ≤ 256 → length window ≡ 256 → a + n ≤ length frame → ((i : ℕ) → i < 256 → slice_index frame i ≡ v (slice_index window i))
    → map_list v (slice_range window a (a + n)) ≡ slice_range frame a (a + n)
window_is v frame window a n fits whole there same =
    let long : length (slice_range window a (a + n)) ≡ n = omega (arith, part_long window a (a + n) (omega (arith, fits, whole))) in
    let long_frame : length (slice_range frame a (a + n)) ≡ n = omega (arith, part_long frame a (a + n) there) in
    ext_get_or 0 (map_list v (slice_range window a (a + n))) (slice_range frame a (a + n)) (length-map (slice_range window a (a + n)) v ∙ long ∙ sym long_frame)
    (λ j l. let below : j < n = omega (arith, l, length-map (slice_range window a (a + n)) v, long) in
    get_or-map v (slice_range window a (a + n)) j 0 0 (omega (arith, below, long)) ∙ ap v (part_at window a n j below) ∙ sym (same (a + j) (omega (arith, below, fits))) ∙ sym (part_at frame a n j below))

small_of : (v : ℕ → ℕ) (cs bs : List ℕ) → map_list v cs ≡ bs → All (λ b. b < 256) bs → All (λ c. v c < 256) cs
small_of v cs bs e all j d l = subst (λ (b : ℕ). b < 256) (ap (λ (xs : List ℕ). get_or xs j (v d)) (sym e) ∙ get_or-map v cs j d (v d) l) (all j (v d) (omega (arith, l, ap length e, length-map cs v)))

inside_at : (a n len b : ℕ) → inside (pos a) n len ≡ Some b → a ≡ b
inside_at a n len b e = by (nat_le (a + n) len) e
  where
    by : (t : Bool) → (if t then Some a else None) ≡ Some b → a ≡ b
    by true f = some_inj a b f
    by false f = absurd (cc)

pub packet_region : (decls : List MapDecl) (ps : List PointerView) (node : ℕ) (k : Kinds) (h : RegisterCells) (old new : List CellView) (at count : ℕ) (part words : List ℕ) → length h.window ≡ 256 → at + count ≤ 256
    → part ≡ slice_range h.window at (at + count) → JoinsWords old new part words → HoldsRegion decls ps node k h old new (Packet at) count words
packet_region decls ps node k h old new at count part words whole fits named joins =
    let long : length part ≡ count = omega (arith, ap length named, part_long h.window at (at + count) (omega (arith, fits, whole))) in
    record {
      grows = joins.grows;
      there = joins.there;
      enough = omega (arith, joins.enough, long);
      bytes = λ packet v m x xs run known is e.
          let f = bound (inside (pos at) count (length m.frame)) _ xs (sym (ap (machine.region m.stack m.frame count) is) ∙ e) in
          let b : at ≡ f.0 = inside_at at count (length m.frame) f.0 f.1 in
          let there : at + count ≤ length m.frame = omega (arith, b, inside-within (pos at) count (length m.frame) f.0 f.1) in
          let same : map_list v part ≡ slice_range m.frame at (at + count) = ap (map_list v) named ∙ window_is v m.frame h.window at count fits whole there known.held.window in
          ap (λ (n : ℕ). bytes_of n (map_list v words)) (sym long)
          ∙ joins.value packet v run (small_of v part (slice_range m.frame at (at + count)) same (bytes_in_slice m.frame at (at + count) known.in_range.frame))
          ∙ same ∙ ap (λ (a : ℕ). slice_range m.frame a (a + count)) b ∙ some_inj _ xs f.2;
    }

pub packet_fits : (k : Kinds) (at count : ℕ) → region k count (Packet at) ≡ passed → at + count ≤ 256
packet_fits k at count e = by (nat_le (at + count) 256) refl
  where
    by : (t : Bool) → nat_le (at + count) 256 ≡ t → at + count ≤ 256
    by true q = grind (arith, nat_tests)
    by false q = let f = rw q at e in absurd (cc)

-- ---- the stack

numbers_all : (xs : List Kind) → all_numbers xs ≡ passed → All (λ x. (n : Number) × (x ≡ Num n)) xs
numbers_all [] e = λ j d l. absurd (omega (arith, l))
numbers_all (x ∷ xs) e =
    let b = bind_passed (one_number x) (λ _. all_numbers xs) tt e in
    let c = bind_passed (tests.readable x) (λ _. tests.number_in x) b.0 b.1 in
    All-cons (λ y. (n : Number) × (y ≡ Num n)) x xs (b.0, is x c.2) (numbers_all xs b.2)
  where
    is : (y : Kind) {n : Number} → tests.number_in y ≡ Ok n → y ≡ Num n
    is (Num m) f = cc
    is y f = absurd (cc)

within_same : (z : ℤ) (n len a b : ℕ) → within z n len ≡ Ok a → inside z n len ≡ Some b → a ≡ b
within_same (negsuc c) n len a b e f = absurd (cc)
within_same (pos c) n len a b e f = by (nat_le (c + n) len) e f
  where
    by : (t : Bool) → (if t then Ok c else Err why.Offset) ≡ Ok a → (if t then Some c else None) ≡ Some b → a ≡ b
    by true g h = let p : c ≡ a = cc in let q : c ≡ b = cc in sym p ∙ q
    by false g h = absurd (cc)

kind_part_at : (xs : List Kind) (a b s : ℕ) → a ≤ s → s < b → get_or (slice_range xs a b) (s - a) Unset ≡ get_or xs s Unset
kind_part_at xs a b s l h =
    let e : a + (s - a) ≡ s = omega (arith, l) in
    get_or-take (b - a) (drop a xs) (s - a) Unset (omega (arith, l, h)) ∙ get_or-drop a xs (s - a) Unset ∙ ap (λ (i : ℕ). get_or xs i Unset) e

pub stack_numbers : (k : Kinds) (o : ℤ) (at count : ℕ) → length k.slots ≡ 64 → at + count ≤ 512 → inside (o +ℤ pos 512) count 512 ≡ Some at → region k count (Stack o) ≡ passed → AreNumbers k at count
stack_numbers k o at count whole fits is e i l =
    let b = bind_passed (within (o +ℤ pos 512) count 512) (λ a. all_numbers (slice_range k.slots (a / 8) ((a + count + 7) / 8))) tt e in
    let same = within_same (o +ℤ pos 512) count 512 b.0 at b.1 is in
    let all = numbers_all (slice_range k.slots (at / 8) ((at + count + 7) / 8)) (ap (λ (a : ℕ). all_numbers (slice_range k.slots (a / 8) ((a + count + 7) / 8))) (sym same) ∙ b.2) in
    let s : ℕ = (at + i) / 8 in
    let long : s - at / 8 < length (slice_range k.slots (at / 8) ((at + count + 7) / 8)) = omega (arith, length-take ((at + count + 7) / 8 - at / 8) (drop (at / 8) k.slots), length-drop (at / 8) k.slots, whole, fits, l) in
    let x = all (s - at / 8) Unset long in
    (x.0, sym (kind_part_at k.slots (at / 8) ((at + count + 7) / 8) s (omega (arith, l)) (omega (arith, l))) ∙ x.1)

pub stack_fits : (k : Kinds) (o : ℤ) (count : ℕ) → inside (o +ℤ pos 512) count 512 ≡ None → region k count (Stack o) ≡ passed → ⊥
stack_fits k o count is e =
    let b = bind_passed (within (o +ℤ pos 512) count 512) _ tt e in by (o +ℤ pos 512) is b.1
  where
    by : (z : ℤ) {a : ℕ} → inside z count 512 ≡ None → within z count 512 ≡ Ok a → ⊥
    by (negsuc c) f g = absurd (cc)
    by (pos c) f g = test (nat_le (c + count) 512) f g
      where
        test : (t : Bool) {a : ℕ} → (if t then Some c else None) ≡ None → (if t then Ok c else Err why.Offset) ≡ Ok a → ⊥
        test true p q = absurd (cc)
        test false p q = absurd (cc)

pub stack_region : (decls : List MapDecl) (ps : List PointerView) (node : ℕ) (k : Kinds) (h : RegisterCells) (old mid new : List CellView) (o : ℤ) (at count : ℕ) (part words : List ℕ) → inside (o +ℤ pos 512) count 512 ≡ Some at
    → AreNumbers k at count → HoldsBytes decls ps node k h old mid at count part → JoinsWords mid new part words → HoldsRegion decls ps node k h old new (Stack o) count words
stack_region decls ps node k h old mid new o at count part words at_is numbers bytes joins = record {
  grows = grown bytes.grows joins.grows;
  there = joins.there;
  enough = omega (arith, joins.enough, bytes.long);
  bytes = λ packet v m x xs run known is e.
      let f = bound (inside (o +ℤ pos 512) count 512) (λ a. stack_bytes m.stack a count) xs (sym (ap (machine.region m.stack m.frame count) is) ∙ e) in
      let b : f.0 ≡ at = some_inj f.0 at (sym f.1 ∙ at_is) in
      let found : stack_bytes m.stack at count ≡ Some xs = ap (λ (a : ℕ). stack_bytes m.stack a count) (sym b) ∙ f.2 in
      let same = bytes.value packet v m xs numbers (joins.grows.run packet v run) known found in
      ap (λ (n : ℕ). bytes_of n (map_list v words)) (sym bytes.long) ∙ joins.value packet v run (small_of v part xs same (IsBytes-stack_bytes m.stack at count xs found).bytes_fit) ∙ same;
}
