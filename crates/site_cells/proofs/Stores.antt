-- Stores into entries.
use Rattle.std.proofs.Common.{◌≡◌, ℕ, ◌^◌, ◌<◌, ◌≤◌, ℤ, pos, ◌+ℤ◌, if◌then◌else◌, Bool, true, false, Some, None, List, [], ◌∷◌, ◌++◌, length, map as map_list, slice_index, refl, sym, ◌∙◌, ap, subst, arith}
use Rattle.std.specs.Prelude.{slice_get, is_some, ◌&&◌}
use Rattle.std.proofs.lemmas.List.{append-nil}
use Rattle.std.proofs.lemmas.List.Elements.{All-nil, All-cons}
use Rattle.byteorder.specs.Endian.{little_bytes}
use Rattle.cell_core.specs.bpf_isa.declared.operation.Size.{Size}
use Rattle.std.specs.Int.{w64, cast_unsigned}
use Rattle.cell_core.specs.bpf_isa.declared.operation.Op.TheVariants.{Store, StoreImm}
use Rattle.cell_core.specs.bpf_isa.declared.instruction.Insn.{Insn}
use Rattle.cell_core.specs.xdp_maps.declared.decl.MapDecl.{MapDecl}
use Rattle.cell_core.specs.xdp_maps.State.{MapState, decl_at, contents_at, with_contents}
use Rattle.cell_core.specs.xdp_maps.Calls as entry
use Rattle.cell_core.specs.xdp_maps.Calls.{lookup_of}
use Rattle.cell_core.specs.xdp_maps.Operations as map
use Rattle.cell_core.specs.xdp_maps.Operations.{Operation, operated}
use Rattle.cell_core.specs.xdp_machine.Values.{Value, number_in, ◌>>=◌}
use Rattle.cell_core.specs.xdp_machine.Values as is
use Rattle.cell_core.specs.xdp_machine.State.{Machine, PacketIn, register}
use Rattle.cell_core.specs.xdp_machine.Memory.{bytes_in, aligned}
use Rattle.cell_core.specs.xdp_machine.Memory as machine
use Rattle.cell_core.specs.xdp_machine.Step.{effect}
use Rattle.cell_core.specs.xdp_machine.Touched as touched
use Rattle.kind_core.proofs.xdp_machine_laws.ChangeLaws.{some_inj}
use Rattle.kind_core.specs.declared.number.Number.{Number}
use Rattle.kind_core.specs.declared.number.Number.TheVariants.{Known}
use Rattle.kind_core.specs.Tests.{passed}
use Rattle.kind_core.specs.Effects.{effect_of, effect_as, verdict}
use Rattle.kind_core.specs.declared.kind.Kind.TheVariants.{Num, Entry}
use Rattle.kind_core.specs.declared.kind.Kinds.{Kinds}
use Rattle.kind_core.specs.Kinds as kinds
use Rattle.kind_core.specs.Kinds.{value_bytes}
use Rattle.kind_core.specs.Edges.{transferred}
use Rattle.cell_core.specs.declared.site.Act.{Act}
use Rattle.cell_core.specs.declared.site.Act.TheVariants as act
use Rattle.cell_core.specs.Cells.{CellView, on, bits_from}
use Rattle.operator_cells.specs.Making.{Makes}
use Rattle.operator_cells.proofs.MakingLaws.{grown_none, reads_none}
use Rattle.site_cells.proofs.Allowed.{store_allowed}
use Rattle.cell_core.specs.Sites.{SiteView, after, records, operation_on, bytes_of}
use Rattle.cell_core.proofs.BitLaws.{small_bits}
use Rattle.operator_cells.specs.declared.held_cells.machine_cells.RegisterCells.{RegisterCells}
use Rattle.operator_cells.specs.HeldCells.RegisterCells.{PointerView, AreInside, pointer_at, key_of, number_of}
use Rattle.operator_cells.specs.HeldCells.Carrying.{IsKnown}
use Rattle.operator_cells.specs.HeldCells.Operating.{Operates}
use Rattle.site_cells.specs.declared.here.Here.{Here}
use Rattle.site_cells.specs.Siting.{access_site}
use Rattle.site_cells.proofs.Slots.{bound, register_number}
use Rattle.site_cells.proofs.Adding.{after_one}
use Rattle.site_cells.proofs.OneSite.{adds_site, fits_map}
use Rattle.site_cells.proofs.Answered.{inside_among}
use Rattle.site_cells.proofs.Calling.{decl_is}
use Rattle.site_cells.proofs.Entries.{entry_held, entry_pointer, IsInPlace, place_fits, Placed, placed_operation}
use Rattle.site_cells.proofs.Loads.{key_is_site}

-- A store of a number that is known, or that a cell holds: its site has a cell of it as the first operand.
pub record Stores (old new : List CellView) (sites sites2 : List SiteView) (here : Here) (map : ℕ) (a : Act) (pointer : PointerView) (number : Number) (held : ℕ) : Type 0 where
  pub source : ℕ
  pub makes : Makes old new source (λ packet v. number_of v number held)
  pub sites_are : sites2 ≡ sites ++ access_site here map a pointer (source ∷ []) ∷ []

-- the maps after a site that writes
pub written : (v : ℕ → ℕ) (maps now : MapState) (sites sites2 : List SiteView) (s : SiteView) (op : Operation) → sites2 ≡ sites ++ s ∷ [] → after v maps sites ≡ now → records s.act ≡ true → on (v s.guard) ≡ true
    → operation_on v now s ≡ op → after v maps sites2 ≡ operated now s.map op
written v maps now sites sites2 s op is before writes guard does =
    ap (after v maps) is ∙ after_one v maps sites s
    ∙ ap (λ (b : Bool). if b && on (v s.guard) then operated (after v maps sites) s.map (operation_on v (after v maps sites) s) else after v maps sites) writes
    ∙ ap (λ (b : Bool). if b then operated (after v maps sites) s.map (operation_on v (after v maps sites) s) else after v maps sites) guard
    ∙ ap (λ (x : MapState). operated x s.map (operation_on v x s)) before
    ∙ ap (operated now s.map) does

pub entry_stored : (m n : Machine) (q o number : ℕ) (key : List ℕ) (offset : ℤ) (size : Size) → machine.stored m (is.Entry q key (pos o)) offset size (is.Number number) ≡ Some n
    → (d : MapDecl) × (a : ℕ) × Placed m q o offset size d a × (n ≡ record m { maps = operated m.maps q (map.Store key a (little_bytes (bytes_in size) number)) })
entry_stored m n q o number key offset size e =
    let maps = bound (machine.to_entry m.maps q key (pos o +ℤ offset) size number) (λ maps. Some (record m { maps = maps })) n e in
    let d = bound (slice_get m.maps.decls q) _ maps.0 maps.1 in
    let a = bound (aligned (pos o +ℤ offset) (bytes_in size) d.0.value) _ maps.0 d.2 in
    (d.0, a.0, record { decl = d.1; at = a.1 }, sym (some_inj _ n maps.2) ∙ ap (λ (x : MapState). record m { maps = x }) (by a.0 (is_some (lookup_of (contents_at m.maps q) key)) a.2))
  where
    by : (a : ℕ) {x : MapState} (t : Bool) → (if t then Some (with_contents m.maps q (entry.stored (contents_at m.maps q) key a (little_bytes (bytes_in size) number))) else None) ≡ Some x
        → x ≡ operated m.maps q (map.Store key a (little_bytes (bytes_in size) number))
    by a true f = sym (some_inj _ _ f)
    by a false f = absurd (cc)

pub store_operates : (decls : List MapDecl) (i : Insn) (here : Here) (is_ref taken : Bool) (k : Kinds) (h : RegisterCells) (old new : List CellView) (ps : List PointerView) (sites sites2 : List SiteView) (size : Size) (q o a : ℕ) (x : Number) (held : ℕ) (given : Machine → Value)
    → ((refs : List ℕ) (m : Machine) → effect refs m i i.op ≡ machine.stored m (register m.registers i.dst) i.offset size (given m))
    → ((m : Machine) → touched.operation_as m i i.op ≡ touched.stores m (register m.registers i.dst) i.offset size (given m))
    → ((packet : PacketIn) (v : ℕ → ℕ) (m : Machine) → IsKnown decls packet v ps here.node k h m → given m ≡ is.Number (number_of v x held))
    → i.dst ≤ 10 → kinds.register k i.dst ≡ Entry q o → here.guard < length old → IsInPlace decls q (pos o +ℤ i.offset) size → transferred decls k i here.node is_ref taken ≡ k → AreInside decls (length old) ps h k
    → ((b : ℕ) → aligned (pos o +ℤ i.offset) (bytes_in size) (value_bytes decls q) ≡ Some b → a ≡ b)
    → Stores old new sites sites2 here q (act.Store a size) (pointer_at ps (slice_index h.registers i.dst)) x held
    → Operates decls i here.node here.guard is_ref taken k h h old new ps ps sites sites2
store_operates decls i here is_ref taken k h old new ps sites sites2 size q o a x held given does operates is_number dst base guard_there placed becomes inside at made =
    let p : PointerView = pointer_at ps (slice_index h.registers i.dst) in
    let site : SiteView = access_site here q (act.Store a size) p (made.source ∷ []) in
    let none : ps ≡ ps ++ [] = sym (append-nil ps) in
    let led = (entry_pointer decls (length old) ps k h i.dst q o inside dst base).1 in
    let longer = made.makes.grows.longer in
    let fits = place_fits decls q a (pos o +ℤ i.offset) size placed at in
    let adds = adds_site decls here old new new sites sites2 site made.makes.grows (reads_none _ _ _ grown_none) made.sites_are refl refl (fits_map decls site fits.0 led.enough tt fits.1)
    (record {
      guard = omega (arith, guard_there, longer);
      key = λ j d l. omega (arith, led.key j d l, longer);
      operands = All-cons (λ j. j < length new) made.source (p.found ∷ []) made.makes.there (All-cons (λ j. j < length new) p.found [] (omega (arith, led.found, longer)) (All-nil (λ j. j < length new)));
    }) in
    record {
      grows = adds.grows;
      more_pointers = [];
      pointers_are = none;
      more = site ∷ [];
      sites_are = made.sites_are;
      own = adds.own;
      fits = adds.fits;
      below = adds.below;
      inside = rw becomes (subst (λ (xs : List PointerView). AreInside decls (length new) xs h k) (sym none) (inside_among decls (length old) (length new) ps [] h k made.makes.grows.longer inside));
      holds = λ packet maps v m n refs run read guard after_is known at_ref e.
          let r = entry_held decls packet v ps here.node k h m i.dst q o known dst base in
          let key : List ℕ = key_of decls v q p in
          let number : ℕ = number_of v x held in
          let num = is_number packet v m known in
          let l = entry_stored m n q o number key i.offset size
          (sym (ap (λ (y : Value). machine.stored m (register m.registers i.dst) i.offset size y) num ∙ ap (λ (y : Value). machine.stored m y i.offset size (is.Number number)) r) ∙ sym (does refs m) ∙ e) in
          let d : MapDecl = l.0 in
          let found : Placed m q o i.offset size d l.1 = l.2 in
          let limit : value_bytes decls q ≡ d.value = ap (λ (ds : List MapDecl). value_bytes ds q) (sym known.decls_are) ∙ (decl_is m.maps.decls q d found.decl).2 in
          let same_place : a ≡ l.1 = at l.1 (ap (aligned (pos o +ℤ i.offset) (bytes_in size)) limit ∙ found.at) in
          let keys : bytes_of (decl_at m.maps q).key (map_list v p.key) ≡ key = key_is_site decls v m.maps q d p known.decls_are found.decl in
          let source : v made.source ≡ number = made.makes.value packet v run in
          let op : operation_on v m.maps site ≡ map.Store key l.1 (little_bytes (bytes_in size) number) =
          ap (λ (bs : List ℕ). map.Store bs a (little_bytes (bytes_in size) (v made.source))) keys
          ∙ ap (λ (j : ℕ). map.Store key j (little_bytes (bytes_in size) (v made.source))) same_place
          ∙ ap (λ (j : ℕ). map.Store key l.1 (little_bytes (bytes_in size) j)) source in (
            rw (becomes, l.3) (record {
              registers = known.held.registers;
              slots = known.held.slots;
              length_is = known.held.length_is;
              window = known.held.window;
              rest = known.held.rest;
              target = known.held.target;
              ifindex = known.held.ifindex;
              time = known.held.time;
            }),
            written v maps m.maps sites sites2 site (map.Store key l.1 (little_bytes (bytes_in size) number)) made.sites_are after_is refl guard op ∙ sym (ap (λ (y : Machine). y.maps) l.3),
            operates m ∙ ap (touched.stores m (register m.registers i.dst) i.offset size) num
                ∙ placed_operation m q o key i.offset size d l.1 (register m.registers i.dst) (λ bs b. map.Store bs b (little_bytes (bytes_in size) number)) r found ∙ ap (λ (y : Operation). Some (q, y)) (sym op),
          );
    }

-- the given number is in a register, or stands in the instruction
pub store_made : (decls : List MapDecl) (i : Insn) (here : Here) (is_ref taken : Bool) (k : Kinds) (h : RegisterCells) (old new : List CellView) (ps : List PointerView) (sites sites2 : List SiteView) (size : Size) (q o a source : ℕ) (p : PointerView) (z : ℤ)
    → i.op ≡ Store size → i.src ≤ 10 → i.dst ≤ 10 → kinds.register k i.dst ≡ Entry q o → here.guard < length old → verdict (effect_of decls k i) ≡ passed → AreInside decls (length old) ps h k
    → z ≡ i.offset → ((b : ℕ) → aligned (pos o +ℤ z) (bytes_in size) (value_bytes decls q) ≡ Some b → a ≡ b) → p ≡ pointer_at ps (slice_index h.registers i.dst)
    → ((n : Number) → kinds.register k i.src ≡ Num n → Makes old new source (λ packet v. number_of v n (slice_index h.registers i.src)))
    → sites2 ≡ sites ++ access_site here q (act.Store a size) p (source ∷ []) ∷ []
    → Operates decls i here.node here.guard is_ref taken k h h old new ps ps sites sites2
store_made decls i here is_ref taken k h old new ps sites sites2 size q o a source p z op src dst base guard_there allowed inside offset at p_is makes sites_are =
    let f = store_allowed decls k i size q o (kinds.register k i.src) (ap (effect_as decls k i) op) base allowed in
    store_operates decls i here is_ref taken k h old new ps sites sites2 size q o a f.0 (slice_index h.registers i.src) (λ m. register m.registers i.src)
    (λ refs m. ap (effect refs m i) op) (λ m. ap (touched.operation_as m i) op) (λ packet v m known. register_number decls packet v ps here.node k h m i.src f.0 known src f.1) dst base guard_there f.2 (f.3 here.node is_ref taken) inside
    (λ b e. at b (ap (λ (y : ℤ). aligned (pos o +ℤ y) (bytes_in size) (value_bytes decls q)) offset ∙ e))
    (record { source = source; makes = makes f.0 f.1; sites_are = sites_are ∙ ap (λ (x : PointerView). sites ++ access_site here q (act.Store a size) x (source ∷ []) ∷ []) p_is })

pub imm_made : (decls : List MapDecl) (i : Insn) (here : Here) (is_ref taken : Bool) (k : Kinds) (h : RegisterCells) (old new : List CellView) (ps : List PointerView) (sites sites2 : List SiteView) (size : Size) (q o a source number : ℕ) (p : PointerView) (z : ℤ)
    → i.op ≡ StoreImm size → i.dst ≤ 10 → kinds.register k i.dst ≡ Entry q o → here.guard < length old → verdict (effect_of decls k i) ≡ passed → AreInside decls (length old) ps h k
    → z ≡ i.offset → ((b : ℕ) → aligned (pos o +ℤ z) (bytes_in size) (value_bytes decls q) ≡ Some b → a ≡ b) → p ≡ pointer_at ps (slice_index h.registers i.dst)
    → number ≡ cast_unsigned w64 i.imm → cast_unsigned w64 i.imm < 2 ^ 64 → Makes old new source (λ packet v. bits_from number 0 64)
    → sites2 ≡ sites ++ access_site here q (act.Store a size) p (source ∷ []) ∷ []
    → Operates decls i here.node here.guard is_ref taken k h h old new ps ps sites sites2
imm_made decls i here is_ref taken k h old new ps sites sites2 size q o a source number p z op dst base guard_there allowed inside offset at p_is number_is fits makes sites_are =
    let f = store_allowed decls k i size q o (Num (Known (cast_unsigned w64 i.imm))) (ap (effect_as decls k i) op) base allowed in
    store_operates decls i here is_ref taken k h old new ps sites sites2 size q o a (Known (cast_unsigned w64 i.imm)) 0 (λ m. is.Number (cast_unsigned w64 i.imm))
    (λ refs m. ap (effect refs m i) op) (λ m. ap (touched.operation_as m i) op) (λ packet v m known. refl) dst base guard_there f.2 (f.3 here.node is_ref taken) inside
    (λ b e. at b (ap (λ (y : ℤ). aligned (pos o +ℤ y) (bytes_in size) (value_bytes decls q)) offset ∙ e))
    (record {
      source = source;
      makes = record { grows = makes.grows; there = makes.there; value = λ packet v run. makes.value packet v run ∙ ap (λ (j : ℕ). bits_from j 0 64) number_is ∙ small_bits (cast_unsigned w64 i.imm) 64 fits };
      sites_are = sites_are ∙ ap (λ (x : PointerView). sites ++ access_site here q (act.Store a size) x (source ∷ []) ∷ []) p_is;
    })
