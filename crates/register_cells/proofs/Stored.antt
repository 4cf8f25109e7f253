-- What stores leave of a machine, and bytes that are stored over others.
use Rattle.std.proofs.Common.{◌≡◌, ℕ, ◌+◌, ◌-◌, ◌/◌, ◌%◌, ◌<◌, ◌≤◌, ◌⊎◌, inl, inr, ℤ, pos, ◌+ℤ◌, nat_le, Bool, true, false, Option, Some, None, List, ◌++◌, length, get_or, slice_index, slice_set, take, drop, All, length-append, map as map_list, refl, sym, ◌∙◌, ap, arith}
use Rattle.std.proofs.lemmas.Bool.{cases_lt}
use Rattle.std.proofs.lemmas.List.{get_or_append_left, get_or-append_right, get_or-take, get_or-drop, get_or-map, length-take-le, length-map}
use Rattle.byteorder.specs.Endian.{little_bytes}
use Rattle.cell_core.specs.bpf_isa.declared.operation.Size.{Size}
use Rattle.cell_core.specs.xdp_maps.declared.decl.MapDecl.{MapDecl}
use Rattle.cell_core.specs.xdp_maps.Calls.{patched}
use Rattle.cell_core.proofs.xdp_maps_laws.ByteLaws.{length-patched}
use Rattle.cell_core.specs.xdp_machine.Values.{Value, ◌>>=◌}
use Rattle.cell_core.specs.xdp_machine.Values as is
use Rattle.cell_core.specs.xdp_machine.State.{Machine, PacketIn}
use Rattle.cell_core.specs.xdp_machine.Memory.{bytes_in}
use Rattle.cell_core.specs.xdp_machine.Memory as machine
use Rattle.kind_core.specs.declared.kind.Kinds.{Kinds}
use Rattle.operator_cells.specs.declared.held_cells.machine_cells.RegisterCells.{RegisterCells}
use Rattle.operator_cells.specs.declared.held_cells.machine_cells.Pointer.{Pointer}
use Rattle.operator_cells.specs.HeldCells.RegisterCells.{PointerView, pointer_of, pointed, no_pointer, pointer_at, AreHeld, AreInside}
use Rattle.register_cells.proofs.Carrying.{inside_more}

-- ---- the machine

stack_put : (m n : Machine) (s : ℕ) (o : Option Value) → (o >>= (λ slot. Some (slice_set m.stack s slot)) >>= (λ stack. Some (record m { stack = stack }))) ≡ Some n
    → (y : Value) × (o ≡ Some y) × (n ≡ record m { stack = slice_set m.stack s y })
stack_put m n s None e = absurd (cc)
stack_put m n s (Some y) e = (y, refl, cc)

pub stack_stored : (m n : Machine) (o offset : ℤ) (size : Size) (t : Value) (a : ℕ) → machine.in_stack (o +ℤ offset) (bytes_in size) ≡ Some a → machine.stored m (is.Stack o) offset size t ≡ Some n
    → (y : Value) × (machine.to_slot size (a % 8) (get_or m.stack (a / 8) is.Unset) t ≡ Some y) × (n ≡ record m { stack = slice_set m.stack (a / 8) y })
stack_stored m n o offset size t a place e =
    let f = rw place at e in
    stack_put m n (a / 8) (machine.to_slot size (a % 8) (get_or m.stack (a / 8) is.Unset) t) f

pub packet_stored : (m n : Machine) (o offset : ℤ) (size : Size) (t : Value) (a : ℕ) → o +ℤ offset ≡ pos a → machine.stored m (is.Packet o) offset size t ≡ Some n
    → (i : ℕ) × (t ≡ is.Number i) × (a + bytes_in size ≤ length m.frame) × (n ≡ record m { frame = patched m.frame a (little_bytes (bytes_in size) i) })
packet_stored m n o offset size (is.Number i) a place e = by (nat_le (a + bytes_in size) (length m.frame)) refl
  where
    by : (b : Bool) → nat_le (a + bytes_in size) (length m.frame) ≡ b → (j : ℕ) × (is.Number i ≡ is.Number j) × (a + bytes_in size ≤ length m.frame) × (n ≡ record m { frame = patched m.frame a (little_bytes (bytes_in size) j) })
    by true h = let f = rw (place, h) at e in (i, refl, grind (arith, h), cc)
    by false h = let f = rw (place, h) at e in absurd (cc)
packet_stored m n o offset size t a place e = absurd (cc)

pub number_is : (i j : ℕ) (t : Value) → t ≡ is.Number i → t ≡ is.Number j → i ≡ j
number_is i j t e f = let g : is.Number i ≡ is.Number j = sym e ∙ f in cc

-- ---- bytes that are stored over others

pub patched_low : (xs ys : List ℕ) (a i : ℕ) → i < a → a ≤ length xs → slice_index (patched xs a ys) i ≡ slice_index xs i
patched_low xs ys a i low fits =
    let front = length-take-le a xs fits in
    get_or_append_left (take a xs ++ ys) (drop (a + length ys) xs) 0 i (omega (arith, low, front, length-append (take a xs) ys))
    ∙ get_or_append_left (take a xs) ys 0 i (omega (arith, low, front)) ∙ get_or-take a xs i 0 low

pub patched_in : (xs ys : List ℕ) (a i : ℕ) → a ≤ i → i < a + length ys → a ≤ length xs → slice_index (patched xs a ys) i ≡ slice_index ys (i - a)
patched_in xs ys a i low high fits =
    let front = length-take-le a xs fits in
    get_or_append_left (take a xs ++ ys) (drop (a + length ys) xs) 0 i (omega (arith, high, front, length-append (take a xs) ys))
    ∙ get_or-append_right (take a xs) ys a i 0 front low

pub patched_past : (xs ys : List ℕ) (a i : ℕ) → a + length ys ≤ i → a + length ys ≤ length xs → slice_index (patched xs a ys) i ≡ slice_index xs i
patched_past xs ys a i low fits =
    let front = length-take-le a xs (omega (arith, fits)) in
    let e : a + length ys + (i - (a + length ys)) ≡ i = omega (arith, low) in
    get_or-append_right (take a xs ++ ys) (drop (a + length ys) xs) (a + length ys) i 0 (omega (arith, front, length-append (take a xs) ys)) low
    ∙ get_or-drop (a + length ys) xs (i - (a + length ys)) 0 ∙ ap (slice_index xs) e

-- what holds of each place of two lists holds where in both others are stored at the same place
patched_two : (P : ℕ → ℕ → Type 0) (xs ys us ws : List ℕ) (a n : ℕ) → length us ≡ length ws → a + length us ≤ length xs → a + length ws ≤ length ys
    → ((i : ℕ) → i < n → P (slice_index xs i) (slice_index ys i)) → ((j : ℕ) → j < length us → P (slice_index us j) (slice_index ws j))
    → (i : ℕ) → i < n → P (slice_index (patched xs a us) i) (slice_index (patched ys a ws) i)
patched_two P xs ys us ws a n same f g all new i l = by (cases_lt i a) (cases_lt i (a + length us))
  where
    by : (i < a) ⊎ (a ≤ i) → (i < a + length us) ⊎ (a + length us ≤ i) → P (slice_index (patched xs a us) i) (slice_index (patched ys a ws) i)
    by (inl low) h = rw (patched_low xs us a i low (omega (arith, f)), patched_low ys ws a i low (omega (arith, g))) (all i l)
    by (inr low) (inl high) = rw (patched_in xs us a i low high (omega (arith, f)), patched_in ys ws a i low (omega (arith, high, same)) (omega (arith, g))) (new (i - a) (omega (arith, low, high)))
    by (inr low) (inr high) = rw (patched_past xs us a i high f, patched_past ys ws a i (omega (arith, high, same)) g) (all i l)

pub window_inside : (decls : List MapDecl) (n m : ℕ) (ps : List PointerView) (h : RegisterCells) (k : Kinds) (a : ℕ) (cs : List ℕ) → n ≤ m → a + length cs ≤ 256 → length h.window ≡ 256 → All (λ c. c < m) cs
    → AreInside decls n ps h k → AreInside decls m ps (record h { window = patched h.window a cs }) k
window_inside decls n m ps h k a cs l fits whole there inside = let all = inside_more decls n m ps h k l inside in record {
  registers = all.registers;
  slots = all.slots;
  window = patched_two (λ c d. c < m) h.window h.window cs cs a 256 refl (omega (arith, fits, whole)) (omega (arith, fits, whole)) all.window (λ j s. there j 0 s);
  target = all.target;
  offsets = all.offsets;
}

pub window_held : (decls : List MapDecl) (packet : PacketIn) (v : ℕ → ℕ) (ps : List PointerView) (h : RegisterCells) (k : Kinds) (m : Machine) (a : ℕ) (cs bs : List ℕ) → a + length cs ≤ 256 → length h.window ≡ 256
    → map_list v cs ≡ bs → a + length cs ≤ length m.frame → AreHeld decls packet v ps h k m
    → AreHeld decls packet v ps (record h { window = patched h.window a cs }) k (record m { frame = patched m.frame a bs })
window_held decls packet v ps h k m a cs bs fits whole same_bytes room held =
    let same : length bs ≡ length cs = sym (ap length same_bytes) ∙ length-map cs v in
    let inside : a + length bs ≤ length m.frame = omega (arith, same, room) in record {
      registers = held.registers;
      slots = held.slots;
      length_is = length-patched m.frame a bs inside ∙ held.length_is;
      window = patched_two (λ b c. b ≡ v c) m.frame h.window bs cs a 256 same inside (omega (arith, fits, whole)) held.window
          (λ j s. ap (λ (xs : List ℕ). slice_index xs j) (sym same_bytes) ∙ get_or-map v cs j 0 0 (omega (arith, s, same)));
      rest = λ i s. patched_past m.frame bs a i (omega (arith, s, fits, same)) inside ∙ held.rest i s;
      target = held.target;
      ifindex = held.ifindex;
      time = held.time;
    }

-- ---- pointers in memory

pub pointed_there : (ps : List Pointer) (p : ℕ) → p < length (pointed ps) → p < length ps
unfolding pointed
pointed_there ps p h = omega (arith, h, length-map ps pointer_of)

pub pointed_at : (ps : List Pointer) (p : ℕ) (d : Pointer) → p < length ps → pointer_at (pointed ps) p ≡ pointer_of (get_or ps p d)
unfolding pointed
pointed_at ps p d h = get_or-map pointer_of ps p d no_pointer h
