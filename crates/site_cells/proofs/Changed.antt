-- The sites of atomic changes.
use Rattle.std.proofs.Common.{◌≡◌, ℕ, ◌+◌, ◌*◌, ◌^◌, ◌<◌, ◌≤◌, pos, ◌+ℤ◌, if◌then◌else◌, Bool, true, false, Option, Some, None, List, [], ◌∷◌, ◌++◌, length, map as map_list, slice_index, slice_set, slice_range, refl, sym, ◌∙◌, ap, subst, arith}
use Rattle.std.specs.Prelude.{All, slice_get, option_map}
use Rattle.std.proofs.lemmas.List.{append-nil}
use Rattle.std.proofs.lemmas.List.Elements.{All-nil, All-cons}
use Rattle.byteorder.specs.Numbers.{little_from-lt}
use Rattle.cell_core.specs.bpf_isa.declared.operation.Size.{Size}
use Rattle.cell_core.specs.bpf_isa.declared.operation.Size.TheVariants.{W, Dw}
use Rattle.cell_core.specs.bpf_isa.declared.operation.Op.TheVariants.{Atomic}
use Rattle.cell_core.specs.bpf_isa.declared.instruction.Insn.{Insn}
use Rattle.cell_core.specs.bpf_isa.Rules.{IsSized}
use Rattle.cell_core.specs.xdp_maps.declared.decl.MapDecl.{MapDecl}
use Rattle.cell_core.specs.xdp_maps.declared.change.Change.{Change}
use Rattle.cell_core.specs.xdp_maps.State.{MapState, IsSound, decl_at, contents_at, with_contents}
use Rattle.cell_core.specs.xdp_maps.Calls.{change_bytes, number_at, changed, lookup_of}
use Rattle.cell_core.specs.xdp_maps.Operations as map
use Rattle.cell_core.specs.xdp_maps.Operations.{Operation, operated}
use Rattle.cell_core.specs.xdp_machine.Values.{Value, number_in, ◌>>=◌}
use Rattle.cell_core.specs.xdp_machine.Values as is
use Rattle.cell_core.specs.xdp_machine.State.{Machine, PacketIn, register}
use Rattle.cell_core.specs.xdp_machine.Memory.{bytes_in, aligned}
use Rattle.cell_core.specs.xdp_machine.Atomics.{fetches, wide_of}
use Rattle.cell_core.specs.xdp_machine.Step.{effect}
use Rattle.cell_core.specs.xdp_machine.Touched as touched
use Rattle.cell_core.specs.xdp_machine.Touched.{answers_old}
use Rattle.kind_core.proofs.xdp_machine_laws.ChangeLaws.{some_inj}
use Rattle.kind_core.proofs.xdp_machine_laws.PartLaws.{at_or, bytes_in_slice}
use Rattle.kind_core.specs.NumberBounds.{any_number}
use Rattle.kind_core.specs.declared.kind.Kind.TheVariants.{Num, Entry}
use Rattle.kind_core.specs.declared.kind.Kinds.{Kinds}
use Rattle.kind_core.specs.Kinds as kinds
use Rattle.kind_core.specs.Kinds.{value_bytes, with_register}
use Rattle.kind_core.specs.Access.{compares}
use Rattle.kind_core.specs.Edges.{transferred}
use Rattle.cell_core.specs.declared.operator.Operator.TheVariants.{Answer}
use Rattle.cell_core.specs.declared.site.Atomic.{Atomic as AtomicChange}
use Rattle.cell_core.specs.declared.site.Act.TheVariants as act
use Rattle.cell_core.specs.Cells.{CellView, IsRun, bits_from, on}
use Rattle.cell_core.specs.Sites.{SiteView, after, bytes_of, change_of, operation_on, read_on, number_or, answer as answer_of}
use Rattle.cell_core.proofs.BitLaws.{small_bits}
use Rattle.operator_cells.specs.Making.{GrowsWith}
use Rattle.operator_cells.specs.declared.held_cells.machine_cells.RegisterCells.{RegisterCells}
use Rattle.operator_cells.specs.HeldCells.RegisterCells.{PointerView, AreHeld, AreInside, pointer_at, key_of}
use Rattle.operator_cells.specs.HeldCells.Carrying.{IsKnown}
use Rattle.operator_cells.specs.HeldCells.Steps.{AreRead}
use Rattle.operator_cells.specs.HeldCells.Operating.{Operates}
use Rattle.site_cells.specs.declared.here.Here.{Here}
use Rattle.site_cells.specs.Siting.{Accesses, ReadsNext, access_site}
use Rattle.site_cells.specs.Changing.{code_of, IsAtomic, taken_by, HoldsOperands}
use Rattle.site_cells.proofs.Adding.{read_value}
use Rattle.site_cells.proofs.OneSite.{adds_site, fits_map}
use Rattle.site_cells.proofs.Allowed.{AtomicAllowed}
use Rattle.site_cells.proofs.Answered.{inside_among}
use Rattle.site_cells.proofs.Assigned.{assigned_inside, assigned_held}
use Rattle.site_cells.proofs.Atomics.{Changes, entry_changed, compares_is, wide_bytes, change_is, fetch_is, taken, not_taken}
use Rattle.site_cells.proofs.Calling.{decl_is}
use Rattle.site_cells.proofs.Entries.{value_bytes_fit, entry_held, entry_pointer, place_fits, placed_operation}
use Rattle.site_cells.proofs.Loads.{key_is_site}
use Rattle.site_cells.proofs.Stores.{written}

-- the old number has as many bits as the change is wide
bounded : (w : Bool) (a : ℕ) (bytes : List ℕ) → All (λ b. b < 256) bytes → number_at w a bytes < 2 ^ (8 * change_bytes w)
bounded w a bytes all = by w
  where
    below : (n i : ℕ) → slice_index (slice_range bytes a (a + n)) i < 256
    below n i = at_or (λ b. b < 256) (slice_range bytes a (a + n)) i 0 (bytes_in_slice bytes a (a + n) all) (omega arith)

    by : (u : Bool) → number_at u a bytes < 2 ^ (8 * change_bytes u)
    by true = little_from-lt 0 8 (slice_range bytes a (a + 8)) (below 8)
    by false = little_from-lt 0 4 (slice_range bytes a (a + 4)) (below 4)

old_small : (maps : MapState) (q : ℕ) (d : MapDecl) (key : List ℕ) (a : ℕ) (w : Bool) (old : ℕ) → IsSound maps → slice_get maps.decls q ≡ Some d → option_map (number_at w a) (lookup_of (contents_at maps q) key) ≡ Some old
    → old < 2 ^ (8 * change_bytes w)
old_small maps q d key a w old sound decl e = by (lookup_of (contents_at maps q) key) refl e
  where
    by : (o : Option (List ℕ)) → lookup_of (contents_at maps q) key ≡ o → option_map (number_at w a) o ≡ Some old → old < 2 ^ (8 * change_bytes w)
    by (Some value) there f = subst (λ (j : ℕ). j < 2 ^ (8 * change_bytes w)) (some_inj (number_at w a value) old f) (bounded w a value (value_bytes_fit maps q d key value sound decl there))
    by None there f = absurd (cc)

wide_whole : (size : Size) (w : Bool) → wide_of size ≡ Some w → change_bytes w ≡ bytes_in size
wide_whole W w e = ap change_bytes (sym (some_inj false w e))
wide_whole Dw w e = ap change_bytes (sym (some_inj true w e))
wide_whole size w e = absurd (cc)

pub taken_small : (i : Insn) (r : ℕ) → i.src ≤ 10 → taken_by i ≡ Some r → r ≤ 10
taken_small i r small to = by (compares i) (fetches (code_of i)) to
  where
    by : (b f : Bool) → (if b then Some 0 else (if f then Some i.src else None)) ≡ Some r → r ≤ 10
    by true f h = omega (arith, some_inj 0 r h)
    by false true h = omega (arith, some_inj i.src r h, small)
    by false false h = absurd (cc)

-- The code of an atomic change through a pointer of this kind: its operands, and its site.
pub record Made (decls : List MapDecl) (i : Insn) (here : Here) (k : Kinds) (h : RegisterCells) (old mid new : List CellView) (ps : List PointerView) (sites sites2 : List SiteView) (size : Size) (q o a s c : ℕ) (at : AtomicChange) : Type 0 where
  pub op : i.op ≡ Atomic size
  pub sized : IsSized (Atomic size)
  pub dst : i.dst ≤ 10
  pub base : kinds.register k i.dst ≡ Entry q o
  pub guard : here.guard < length old
  pub allowed : AtomicAllowed decls k i size q o
  pub inside : AreInside decls (length old) ps h k
  pub place : (b : ℕ) → aligned (pos o +ℤ i.offset) (bytes_in size) (value_bytes decls q) ≡ Some b → a ≡ b
  pub change : IsAtomic i size at
  pub operands : HoldsOperands k h i old mid s c
  pub grows : GrowsWith (ReadsNext sites) mid new
  pub sites_are : sites2 ≡ sites ++ access_site here q (act.Atomic a at) (pointer_at ps (slice_index h.registers i.dst)) (s ∷ c ∷ []) ∷ []

-- what the code finds of a machine that does the change
pub record Does (decls : List MapDecl) (i : Insn) (here : Here) (h : RegisterCells) (ps : List PointerView) (size : Size) (q o a s c : ℕ) (at : AtomicChange) (v : ℕ → ℕ) (m n : Machine) : Type 0 where
  pub x : Change
  pub d : MapDecl
  pub old : ℕ
  pub changes : Changes m n i size q o (key_of decls v q (pointer_at ps (slice_index h.registers i.dst))) x d a old
  pub same : change_of at (v s) (v c) ≡ x
  pub keys : bytes_of (decl_at m.maps q).key (map_list v (pointer_at ps (slice_index h.registers i.dst)).key) ≡ key_of decls v q (pointer_at ps (slice_index h.registers i.dst))

module _ (decls : List MapDecl) (i : Insn) (here : Here) (k : Kinds) (h : RegisterCells) (old mid new : List CellView) (ps : List PointerView) (sites sites2 : List SiteView) (size : Size) (q o a s c : ℕ) (at : AtomicChange)
    (made : Made decls i here k h old mid new ps sites sites2 size q o a s c at) where
  abbrev p : PointerView
  p = pointer_at ps (slice_index h.registers i.dst)

  abbrev own : SiteView
  own = access_site here q (act.Atomic a at) p (s ∷ c ∷ [])

  does : (packet : PacketIn) (v : ℕ → ℕ) (m n : Machine) (refs : List ℕ) → IsRun packet mid v → IsKnown decls packet v ps here.node k h m → effect refs m i i.op ≡ Some n → Does decls i here h ps size q o a s c at v m n
  does packet v m n refs run known e =
      let r = entry_held decls packet v ps here.node k h m i.dst q o known made.dst made.base in
      let l = entry_changed m n i size q o (key_of decls v q p) r (sym (ap (effect refs m i) made.op) ∙ e) in
      let limit : value_bytes decls q ≡ l.1.value = ap (λ (ds : List MapDecl). value_bytes ds q) (sym known.decls_are) ∙ (decl_is m.maps.decls q l.1 l.4.placed.decl).2 in
      let same_place : a ≡ l.2 = made.place l.2 (ap (aligned (pos o +ℤ i.offset) (bytes_in size)) limit ∙ l.4.placed.at) in
      record {
        x = l.0;
        d = l.1;
        old = l.3;
        changes = subst (λ (b : ℕ). Changes m n i size q o (key_of decls v q p) l.0 l.1 b l.3) (sym same_place) l.4;
        same = change_is i size m.registers at l.0 (v s) (v c) made.change l.4.parts (made.operands.source decls packet v ps here.node m made.allowed.number run known made.allowed.source)
            (λ t. made.operands.compared decls packet v ps here.node m (made.allowed.compared t).0 run known t (made.allowed.compared t).1) (λ f. made.operands.none packet v run f);
        keys = key_is_site decls v m.maps q l.1 p known.decls_are l.4.placed.decl;
      }

  operation : (v : ℕ → ℕ) (m n : Machine) (d : Does decls i here h ps size q o a s c at v m n) → operation_on v m.maps own ≡ map.Atomic (key_of decls v q p) a d.x at.fetch
  operation v m n d = ap (λ (bs : List ℕ). map.Atomic bs a (change_of at (v s) (v c)) at.fetch) d.keys ∙ ap (λ (y : Change). map.Atomic (key_of decls v q p) a y at.fetch) d.same

  -- the site, and what its operation leaves, whatever is held after it
  pub operates : (is_ref edge : Bool) (next : RegisterCells) → AreInside decls (length new) ps next (transferred decls k i here.node is_ref edge)
      → ((packet : PacketIn) (maps : MapState) (v : ℕ → ℕ) (m n : Machine) → IsRun packet new v → AreRead maps new sites2 v → on (v here.guard) ≡ true → after v maps sites ≡ m.maps → IsKnown decls packet v ps here.node k h m
      → (d : Does decls i here h ps size q o a s c at v m n) → AreHeld decls packet v ps next (transferred decls k i here.node is_ref edge) n × (n.maps ≡ with_contents m.maps q (changed (contents_at m.maps q) (key_of decls v q p) a d.x)))
      → Operates decls i here.node here.guard is_ref edge k h next old new ps ps sites sites2
  operates is_ref edge next within leaves =
      let none : ps ≡ ps ++ [] = sym (append-nil ps) in
      let led = (entry_pointer decls (length old) ps k h i.dst q o made.inside made.dst made.base).1 in
      let longer = made.operands.grows.longer in
      let fits = place_fits decls q a (pos o +ℤ i.offset) size made.allowed.placed made.place in
      let adds = adds_site decls here old mid new sites sites2 own made.operands.grows made.grows made.sites_are refl refl
      (fits_map decls own fits.0 led.enough tt (omega (arith, fits.1, ap change_bytes made.change.wide, wide_bytes size made.sized)))
      (record {
        guard = omega (arith, made.guard, longer);
        key = λ j d l. omega (arith, led.key j d l, longer);
        operands = All-cons (λ j. j < length mid) s (c ∷ p.found ∷ []) made.operands.source_there (All-cons (λ j. j < length mid) c (p.found ∷ []) made.operands.compared_there
            (All-cons (λ j. j < length mid) p.found [] (omega (arith, led.found, longer)) (All-nil (λ j. j < length mid))));
      }) in
      record {
        grows = adds.grows;
        more_pointers = [];
        pointers_are = none;
        more = own ∷ [];
        sites_are = made.sites_are;
        own = adds.own;
        fits = adds.fits;
        below = adds.below;
        inside = within;
        holds = λ packet maps v m n refs run read guard after_is known at_ref e.
            let d = does packet v m n refs (made.grows.run packet v run) known e in
            let left = leaves packet maps v m n run read guard after_is known d in
            let base = entry_held decls packet v ps here.node k h m i.dst q o known made.dst made.base in (
              left.0,
              written v maps m.maps sites sites2 own (map.Atomic (key_of decls v q p) a d.x at.fetch) made.sites_are after_is refl guard (operation v m n d) ∙ sym left.1,
              ap (touched.operation_as m i) made.op
                  ∙ ap (λ (y : Option Change). y >>= (λ x. touched.accesses m.maps (register m.registers i.dst) i.offset size (λ key b. map.Atomic key b x (answers_old x.kind (code_of i))))) d.changes.change
                  ∙ placed_operation m q o (key_of decls v q p) i.offset size d.d a (register m.registers i.dst) (λ key b. map.Atomic key b d.x (answers_old d.x.kind (code_of i))) base d.changes.placed
                  ∙ ap (λ (f : Bool). Some (q, map.Atomic (key_of decls v q p) a d.x f)) (sym (fetch_is i size m.registers at d.x made.change d.changes.parts))
                  ∙ ap (λ (y : Operation). Some (q, y)) (sym (operation v m n d)),
            );
      }

  -- nothing is held anew where the old number goes nowhere
  pub leaves_held : (is_ref edge : Bool) → taken_by i ≡ None → length mid ≤ length new → Operates decls i here.node here.guard is_ref edge k h h old new ps ps sites sites2
  leaves_held is_ref edge to longer =
      let becomes = made.allowed.not_taken here.node is_ref edge to in
      let none : ps ≡ ps ++ [] = sym (append-nil ps) in
      operates is_ref edge h
      (rw becomes (subst (λ (xs : List PointerView). AreInside decls (length new) xs h k) (sym none) (inside_among decls (length old) (length new) ps [] h k (omega (arith, made.operands.grows.longer, longer)) made.inside)))
      (λ packet maps v m n run read guard after_is known d.
      let gone = not_taken (record m { maps = with_contents m.maps q (changed (contents_at m.maps q) (key_of decls v q p) a d.x) }) n i d.x.kind d.old (compares_is i d.x.kind d.changes.parts.kind) to d.changes.goes in (
        rw (becomes, gone) (record {
          registers = known.held.registers;
          slots = known.held.slots;
          length_is = known.held.length_is;
          window = known.held.window;
          rest = known.held.rest;
          target = known.held.target;
          ifindex = known.held.ifindex;
          time = known.held.time;
        }),
        ap (λ (y : Machine). y.maps) gone,
      ))

  -- the old number goes into a register
  pub takes_old : (is_ref edge : Bool) (r answer width : ℕ) → r ≤ 10 → taken_by i ≡ Some r → length k.registers ≡ 11 → length h.registers ≡ 11 → width ≡ 8 * bytes_in size
      → Accesses mid new sites sites2 here q (act.Atomic a at) p (s ∷ c ∷ []) answer width
      → Operates decls i here.node here.guard is_ref edge k h (record h { registers = slice_set h.registers r answer }) old new ps ps sites sites2
  takes_old is_ref edge r answer width small to ks hs width_is reads =
      let becomes = made.allowed.taken here.node is_ref edge r to in
      let none : ps ≡ ps ++ [] = sym (append-nil ps) in
      operates is_ref edge (record h { registers = slice_set h.registers r answer })
      (rw becomes (assigned_inside decls (length new) ps h k r answer (Num (any_number 64)) small ks hs
      (subst (λ (xs : List PointerView). AreInside decls (length new) xs h k) (sym none) (inside_among decls (length old) (length new) ps [] h k (omega (arith, made.operands.grows.longer, reads.grows.longer)) made.inside)) reads.reads.there))
      (λ packet maps v m n run read guard after_is known d.
      let left : Machine = record m { maps = with_contents m.maps q (changed (contents_at m.maps q) (key_of decls v q p) a d.x) } in
      let gone = taken left n i d.x.kind d.old r (compares_is i d.x.kind d.changes.parts.kind) to d.changes.goes in
      let ms : length m.registers ≡ 11 = sym known.stands.registers ∙ ks in
      let held : AreHeld decls packet v ps h k left = record {
        registers = known.held.registers;
        slots = known.held.slots;
        length_is = known.held.length_is;
        window = known.held.window;
        rest = known.held.rest;
        target = known.held.target;
        ifindex = known.held.ifindex;
        time = known.held.time;
      } in (
        rw (becomes, gone) (assigned_held decls packet v ps h k left r answer (Num (any_number 64)) (is.Number d.old) small ks hs ms held (ap is.Number (sym (answered packet maps v m n answer width read guard after_is known d width_is reads)))),
        ap (λ (y : Machine). y.maps) gone,
      ))
    where
      answered : (packet : PacketIn) (maps : MapState) (v : ℕ → ℕ) (m n : Machine) (answer width : ℕ) → AreRead maps new sites2 v → on (v here.guard) ≡ true → after v maps sites ≡ m.maps → IsKnown decls packet v ps here.node k h m
          → (d : Does decls i here h ps size q o a s c at v m n) → width ≡ 8 * bytes_in size → Accesses mid new sites sites2 here q (act.Atomic a at) p (s ∷ c ∷ []) answer width → v answer ≡ d.old
      answered packet maps v m n answer width read guard after_is known d width_is reads =
          read_value v maps new sites sites2 answer (Answer (length sites)) own _ width read reads.reads refl made.sites_are guard
          ∙ ap (λ (st : MapState). bits_from (read_on v st own (Answer (length sites))) 0 width) after_is
          ∙ ap (λ (o : Operation). bits_from (answer_of m.maps q (act.Atomic a at) o) 0 width) (operation v m n d)
          ∙ ap (λ (o : Option ℕ). bits_from (number_or o) 0 width) d.changes.before
          ∙ small_bits d.old width (subst (λ (w : ℕ). d.old < 2 ^ w) (sym (width_is ∙ ap (λ (b : ℕ). 8 * b) (sym (wide_whole size d.x.wide d.changes.parts.wide))))
          (old_small m.maps q d.d (key_of decls v q p) a d.x.wide d.old known.in_range.maps d.changes.placed.decl d.changes.before))
