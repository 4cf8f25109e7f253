-- Loads that extend the sign.
use Rattle.std.proofs.Common.{◌≡◌, ◌≢◌, ℕ, ◌+◌, ◌*◌, ◌/◌, ◌%◌, ℤ, pos, negsuc, ◌+ℤ◌, nat_le, Bool, true, false, Option, Some, None, Ok, IfOk, List, get_or, refl, sym, ◌∙◌, ap, subst}
use Rattle.cell_core.specs.bpf_isa.declared.operation.Size.{Size}
use Rattle.cell_core.specs.bpf_isa.declared.operation.Size.TheVariants.{B, H, W, Dw}
use Rattle.cell_core.specs.bpf_isa.declared.operation.Width.TheVariants.{Bits64}
use Rattle.cell_core.specs.bpf_isa.declared.operation.Op.TheVariants.{LoadSigned}
use Rattle.cell_core.specs.bpf_isa.declared.instruction.Insn.{Insn}
use Rattle.cell_core.specs.xdp_maps.declared.decl.MapDecl.{MapDecl}
use Rattle.cell_core.specs.xdp_machine.Values.{Value}
use Rattle.cell_core.specs.xdp_machine.Values as is
use Rattle.cell_core.specs.xdp_machine.State.{Machine, PacketIn, register}
use Rattle.cell_core.specs.xdp_machine.Arithmetic.{extended}
use Rattle.cell_core.specs.xdp_machine.Memory.{bytes_in}
use Rattle.cell_core.specs.xdp_machine.Memory as machine
use Rattle.kind_core.specs.declared.number.Number.{Number}
use Rattle.kind_core.specs.declared.number.Number.TheVariants.{Known, Between}
use Rattle.kind_core.specs.declared.kind.Kind.{Kind}
use Rattle.kind_core.specs.declared.kind.Kind.TheVariants.{Unset, Num, Packet, Var, Stack, Entry}
use Rattle.kind_core.specs.declared.base.Base.{Base}
use Rattle.kind_core.specs.declared.kind.Kinds.{Kinds}
use Rattle.kind_core.specs.Numbers.{any_bytes, number_part, number_extended}
use Rattle.kind_core.specs.Tests.{◌>>=◌}
use Rattle.kind_core.specs.Tests as tests
use Rattle.kind_core.specs.Kinds as kinds
use Rattle.kind_core.specs.Places as places
use Rattle.kind_core.specs.Access as kind
use Rattle.cell_core.specs.Cells.{CellView}
use Rattle.operator_cells.specs.declared.held_cells.machine_cells.RegisterCells.{RegisterCells}
use Rattle.operator_cells.specs.HeldCells.RegisterCells.{PointerView, number_of}
use Rattle.operator_cells.specs.HeldCells.Carrying.{IsKnown, Gives}
use Rattle.register_cells.specs.Reading.{Finds}
use Rattle.register_cells.specs.Giving.{given, numbered}
use Rattle.kind_core.proofs.TestLaws.{bind_ok, bind_passed}
use Rattle.operator_cells.proofs.MakingLaws.{grown}
use Rattle.register_cells.proofs.Growing.{ok_map}
use Rattle.register_cells.proofs.Loads.{aligned_is, gives_as}

abbrev pub signed : Size → ℕ → ℕ
signed size n = extended 64 (8 * bytes_in size) n

signed_of : (m : Machine) (b : Value) (offset : ℤ) (size : Size) (y : Value) → machine.loaded_signed m b offset size ≡ Some y → (u : Value) × (machine.loaded m b offset size ≡ Some u) × (numbered (signed size) u ≡ Some y)
signed_of m b offset size y e = by (machine.loaded m b offset size) refl e
  where
    by : (o : Option Value) → machine.loaded m b offset size ≡ o → machine.loaded_signed m b offset size ≡ Some y → (u : Value) × (machine.loaded m b offset size ≡ Some u) × (numbered (signed size) u ≡ Some y)
    by None g f = let h = rw g at f in absurd (cc)
    by (Some u) g f = let h = rw g at f in (u, g, h)

-- a number that is loaded, extended
extended_gives : (decls : List MapDecl) (ps : List PointerView) (node : ℕ) (k : Kinds) (h : RegisterCells) (old mid new : List CellView) (offset : ℤ) (size : Size) (b : Machine → Value) (n : Number) (p c : ℕ)
    → Gives decls ps node k h old mid (Num n) p (λ m. machine.loaded m (b m) offset size)
    → Finds mid new (number_extended Bits64 (8 * bytes_in size) n) c (λ packet v. signed size (number_of v n p))
    → Gives decls ps node k h old new (Num (number_extended Bits64 (8 * bytes_in size) n)) c (λ m. machine.loaded_signed m (b m) offset size)
extended_gives decls ps node k h old mid new offset size b (Known a) p c gives found = record { grows = grown gives.grows found.grows; counts = tt; holds = λ packet v m y run known e. tt }
extended_gives decls ps node k h old mid new offset size b (Between lo hi) p c gives found = record {
  grows = grown gives.grows found.grows;
  counts = found.there;
  holds = λ packet v m y run known e.
      let s = signed_of m (b m) offset size y e in
      let u : s.0 ≡ is.Number (v p) = gives.holds packet v m s.0 (found.grows.run packet v run) known s.1 in
      let f : Some (is.Number (signed size (v p))) ≡ Some y = sym (ap (numbered (signed size)) u) ∙ s.2 in
      let g : v c ≡ signed size (v p) = found.value packet v run in
      let w : is.Number (signed size (v p)) ≡ y = cc in
      sym w ∙ ap is.Number (sym g);
}

pub number_there : (x : Kind) (n : Number) → tests.number_in x ≡ Ok n → x ≡ Num n
number_there (Num m) n e = cc
number_there x n e = absurd (cc)

pub signed_gives : (decls : List MapDecl) (ps : List PointerView) (node : ℕ) (k : Kinds) (h : RegisterCells) (old mid new : List CellView) (base : Kind) (offset : ℤ) (size : Size) (b : Machine → Value) (p c : ℕ)
    → kind.is_context base ≡ false
    → IfOk (kind.loaded decls k base offset size) (λ x. Gives decls ps node k h old mid x p (λ m. machine.loaded m (b m) offset size))
    → ((n : Number) → kind.loaded decls k base offset size ≡ Ok (Num n) → Finds mid new (number_extended Bits64 (8 * bytes_in size) n) c (λ packet v. signed size (number_of v n p)))
    → IfOk (kind.loaded_signed decls k base offset size) (λ x. Gives decls ps node k h old new x c (λ m. machine.loaded_signed m (b m) offset size))
unfolding kind.loaded_signed
signed_gives decls ps node k h old mid new base offset size b p c plain gives found =
    let P : Kind → Type 0 = λ x. Gives decls ps node k h old new x c (λ m. machine.loaded_signed m (b m) offset size) in
    rw plain
    (bind_ok (kind.loaded decls k base offset size) (λ x. tests.number_in x >>= (λ n. Ok (Num (number_extended Bits64 (8 * bytes_in size) n)))) P (λ x e.
    bind_ok (tests.number_in x) (λ n. Ok (Num (number_extended Bits64 (8 * bytes_in size) n))) P (λ n f.
    let g : kind.loaded decls k base offset size ≡ Ok (Num n) = e ∙ ap Ok (number_there x n f) in
    extended_gives decls ps node k h old mid new offset size b n p c
    (subst (λ r. IfOk r (λ y. Gives decls ps node k h old mid y p (λ m. machine.loaded m (b m) offset size))) g gives) (found n g))))

-- nothing is loaded where nothing can be
pub signed_none : (decls : List MapDecl) (k : Kinds) (base : Kind) (offset : ℤ) (size : Size) (P : Kind → Type 0) → kind.is_context base ≡ false → IfOk (kind.loaded decls k base offset size) (λ x. ⊥)
    → IfOk (kind.loaded_signed decls k base offset size) P
unfolding kind.loaded_signed
signed_none decls k base offset size P plain none =
    rw plain
    (bind_ok (kind.loaded decls k base offset size) _ P (λ x e. absurd (subst (λ r. IfOk r (λ y. ⊥)) e none)))

-- ---- from the packet

pub packet_unknown : (decls : List MapDecl) (k : Kinds) (o : ℕ) (offset : ℤ) (size : Size) (n : Number) → kind.loaded decls k (Packet o) offset size ≡ Ok (Num n) → n ≡ any_bytes size
unfolding kind.loaded
packet_unknown decls k o offset size n e = by (pos o +ℤ offset) e
  where
    by : (z : ℤ) → (places.in_packet k.checked z (bytes_in size) >>= (λ place. kind.found k.slots size place)) ≡ Ok (Num n) → n ≡ any_bytes size
    by (negsuc a) f = absurd (cc)
    by (pos a) f = test (nat_le (a + bytes_in size) 256) refl (nat_le (a + bytes_in size) k.checked) refl
      where
        test : (s : Bool) → nat_le (a + bytes_in size) 256 ≡ s → (t : Bool) → nat_le (a + bytes_in size) k.checked ≡ t → n ≡ any_bytes size
        test true g true t = let h = rw (g, t) at f in cc
        test true g false t = let h = rw (g, t) at f in absurd (cc)
        test false g t r = let h = rw g at f in absurd (cc)

-- ---- from the stack

abbrev pub Extends : List CellView → List CellView → Size → ℕ → ℕ → Number → Type 0
Extends mid new size p c n = Finds mid new (number_extended Bits64 (8 * bytes_in size) n) c (λ packet v. signed size (number_of v n p))

part_found : (mid new : List CellView) (size : Size) (at p c : ℕ) (i n : Number) → number_part size at i ≡ n → Extends mid new size p c i → Extends mid new size p c n
part_found mid new size at p c (Known a) n e found = subst (Extends mid new size p c) e (record { grows = found.grows; there = tt; value = λ packet v run. refl })
part_found mid new size at p c (Between lo hi) n e found = subst (Extends mid new size p c) e (record { grows = found.grows; there = found.there; value = found.value })

slot_found : (mid new : List CellView) (size : Size) (at p c : ℕ) (x : Kind) (n : Number) → kind.from_slot size at x ≡ Ok (Num n) → ((i : Number) → x ≡ Num i → Extends mid new size p c i) → Extends mid new size p c n
slot_found mid new Dw at p c x n e found = let f : x ≡ Num n = cc in found n f
slot_found mid new B at p c (Num i) n e found = let f : number_part B at i ≡ n = cc in part_found mid new B at p c i n f (found i refl)
slot_found mid new H at p c (Num i) n e found = let f : number_part H at i ≡ n = cc in part_found mid new H at p c i n f (found i refl)
slot_found mid new W at p c (Num i) n e found = let f : number_part W at i ≡ n = cc in part_found mid new W at p c i n f (found i refl)
slot_found mid new size at p c x n e found = absurd (cc)

pub stack_found : (decls : List MapDecl) (k : Kinds) (mid new : List CellView) (o offset : ℤ) (size : Size) (a p c : ℕ) → machine.in_stack (o +ℤ offset) (bytes_in size) ≡ Some a
    → ((i : Number) → get_or k.slots (a / 8) Unset ≡ Num i → Extends mid new size p c i) → (n : Number) → kind.loaded decls k (Stack o) offset size ≡ Ok (Num n) → Extends mid new size p c n
unfolding kind.loaded
stack_found decls k mid new o offset size a p c place found n e =
    let z = aligned_is (o +ℤ offset +ℤ pos 512) (bytes_in size) 512 a place in
    let x : Kind = get_or k.slots (a / 8) Unset in
    let is_slot : kind.loaded decls k (Stack o) offset size ≡ (tests.readable x >>= (λ u. kind.from_slot size (a % 8) x)) = rw (z.0, z.1, z.2) refl in
    let b = bind_passed (tests.readable x) (λ u. kind.from_slot size (a % 8) x) (Num n) (sym is_slot ∙ e) in
    slot_found mid new size (a % 8) p c x n b.2 found

-- ---- MEMSX

pub signed_as : (decls : List MapDecl) (ps : List PointerView) (refs : List ℕ) (node : ℕ) (k : Kinds) (h : RegisterCells) (i : Insn) (old new : List CellView) (base : Kind) (b : Value) (size : Size) (c : ℕ) {z : ℤ} → kinds.register k i.src ≡ base → z ≡ i.offset
    → ((packet : PacketIn) (v : ℕ → ℕ) (m : Machine) → IsKnown decls packet v ps node k h m → register m.registers i.src ≡ b)
    → IfOk (kind.loaded_signed decls k base z size) (λ x. Gives decls ps node k h old new x c (λ m. machine.loaded_signed m b z size))
    → IfOk (kind.loaded_signed decls k (kinds.register k i.src) i.offset size) (λ x. Gives decls ps node k h old new x c (λ m. given refs m i (LoadSigned size)))
signed_as decls ps refs node k h i old new base b size c {z} e at read gives =
    subst (λ (a : Kind). IfOk (kind.loaded_signed decls k a i.offset size) (λ x. Gives decls ps node k h old new x c (λ m. given refs m i (LoadSigned size)))) (sym e)
    (ok_map (kind.loaded_signed decls k base i.offset size) _ (λ x. Gives decls ps node k h old new x c (λ m. given refs m i (LoadSigned size)))
    (λ x g. gives_as decls ps node k h old new x c (λ m. machine.loaded_signed m b i.offset size) (λ m. given refs m i (LoadSigned size))
    (λ packet v m known. sym (ap (λ (a : Value). machine.loaded_signed m a i.offset size) (read packet v m known))) g)
    (subst (λ (y : ℤ). IfOk (kind.loaded_signed decls k base y size) (λ x. Gives decls ps node k h old new x c (λ m. machine.loaded_signed m b y size))) at gives))

-- nothing is loaded through anything else
pub signed_other : (decls : List MapDecl) (k : Kinds) (b : Kind) (offset : ℤ) (size : Size) (P : Kind → Type 0) → ((o : ℕ) → b ≢ Packet o) → ((o : ℤ) → b ≢ Stack o) → ((q o : ℕ) → b ≢ Entry q o) → ((x : Base) (f : ℤ) → b ≢ Var x f)
    → IfOk (kind.loaded_signed decls k b offset size) P
unfolding kind.loaded_signed kind.loaded
signed_other decls k (Packet o) offset size P f g h v = absurd (f o refl)
signed_other decls k (Stack o) offset size P f g h v = absurd (g o refl)
signed_other decls k (Entry q o) offset size P f g h v = absurd (h q o refl)
signed_other decls k (Var x z) offset size P f g h v = absurd (v x z refl)
signed_other decls k b offset size P f g h v = tt
