-- Loads from entries.
use Rattle.std.proofs.Common.{◌≡◌, ℕ, ◌*◌, ◌<◌, ◌≤◌, ℤ, pos, ◌+ℤ◌, Bool, true, Option, Some, List, [], ◌∷◌, ◌++◌, length, map as map_list, slice_index, slice_set, refl, sym, ◌∙◌, ap, subst}
use Rattle.std.specs.Prelude.{All, slice_get}
use Rattle.std.proofs.lemmas.List.{append-nil}
use Rattle.std.proofs.lemmas.List.Elements.{All-nil, All-cons}
use Rattle.cell_core.specs.bpf_isa.declared.operation.Size.{Size}
use Rattle.cell_core.specs.bpf_isa.declared.operation.Op.TheVariants.{Load, LoadSigned}
use Rattle.cell_core.specs.bpf_isa.declared.instruction.Insn.{Insn}
use Rattle.cell_core.specs.xdp_maps.declared.decl.MapDecl.{MapDecl}
use Rattle.cell_core.specs.xdp_maps.State.{MapState, decl_at, contents_at}
use Rattle.cell_core.specs.xdp_maps.Calls.{lookup_of}
use Rattle.cell_core.specs.xdp_maps.Operations as map
use Rattle.cell_core.specs.xdp_machine.Values.{Value, ◌>>=◌}
use Rattle.cell_core.specs.xdp_machine.Values as is
use Rattle.cell_core.specs.xdp_machine.State.{Machine, register}
use Rattle.cell_core.specs.xdp_machine.Memory.{bytes_in, number_at, aligned}
use Rattle.cell_core.specs.xdp_machine.Memory as machine
use Rattle.cell_core.specs.xdp_machine.Step.{effect}
use Rattle.cell_core.specs.xdp_machine.Touched as touched
use Rattle.kind_core.specs.declared.number.Number.TheVariants.{Between}
use Rattle.kind_core.specs.declared.kind.Kind.TheVariants.{Num, Entry}
use Rattle.kind_core.specs.declared.kind.Kinds.{Kinds}
use Rattle.kind_core.specs.Kinds as kinds
use Rattle.kind_core.specs.Kinds.{key_bytes, value_bytes, with_register}
use Rattle.kind_core.specs.Edges.{transferred}
use Rattle.kind_core.specs.Tests.{passed}
use Rattle.kind_core.specs.Effects.{effect_of, verdict}
use Rattle.site_cells.proofs.Allowed.{load_allowed, signed_allowed}
use Rattle.cell_core.specs.xdp_machine.Arithmetic.{extended}
use Rattle.kind_core.proofs.xdp_machine_laws.ChangeLaws.{some_inj}
use Rattle.operator_cells.specs.Making.{GrowsWith, Makes}
use Rattle.operator_cells.proofs.MakingLaws.{grown_with, grown_none, reads_none}
use Rattle.site_cells.proofs.Slots.{bound}
use Rattle.cell_core.specs.declared.operator.Operator.TheVariants.{Answer}
use Rattle.cell_core.specs.declared.site.Act.TheVariants as act
use Rattle.cell_core.specs.Cells.{CellView, bits_from, on}
use Rattle.cell_core.specs.Sites.{SiteView, after, bytes_of, loaded}
use Rattle.cell_core.proofs.BitLaws.{small_bits}
use Rattle.operator_cells.specs.declared.held_cells.machine_cells.RegisterCells.{RegisterCells}
use Rattle.operator_cells.specs.HeldCells.RegisterCells.{PointerView, AreInside, pointer_at, key_of}
use Rattle.operator_cells.specs.HeldCells.Steps.{AreRead}
use Rattle.operator_cells.specs.HeldCells.Operating.{Operates}
use Rattle.site_cells.specs.declared.here.Here.{Here}
use Rattle.site_cells.specs.Siting.{ReadsNext, IsReadOf, Accesses, access_site}
use Rattle.site_cells.proofs.Adding.{after_one, read_value, read_later}
use Rattle.site_cells.proofs.OneSite.{adds_site, fits_map}
use Rattle.site_cells.proofs.Answered.{inside_among}
use Rattle.site_cells.proofs.Assigned.{assigned_inside, assigned_held, assigned_is}
use Rattle.site_cells.proofs.Calling.{decl_is}
use Rattle.site_cells.proofs.Entries.{number_fits, value_bytes_fit, entry_held, entry_pointer, IsInPlace, place_fits, Placed, entry_loaded, placed_operation}

-- the key of a pointer is that of its site
pub key_is_site : (decls : List MapDecl) (v : ℕ → ℕ) (maps : MapState) (q : ℕ) (d : MapDecl) (p : PointerView) → maps.decls ≡ decls → slice_get maps.decls q ≡ Some d
    → bytes_of (decl_at maps q).key (map_list v p.key) ≡ key_of decls v q p
key_is_site decls v maps q d p same decl =
    let e = decl_is maps.decls q d decl in
    ap (λ (x : MapDecl). bytes_of x.key (map_list v p.key)) e.0 ∙ ap (λ (n : ℕ). bytes_of n (map_list v p.key)) (sym e.1) ∙ ap (λ (ds : List MapDecl). bytes_of (key_bytes ds q) (map_list v p.key)) same

-- what a load finds is what its cell holds
pub load_answered : (v : ℕ → ℕ) (maps : MapState) (new : List CellView) (sites sites2 : List SiteView) (here : Here) (m : Machine) (q o a c : ℕ) (offset : ℤ) (size : Size) (d : MapDecl) (p : PointerView) (key value : List ℕ)
    → AreRead maps new sites2 v → IsReadOf new c (Answer (length sites)) (p.key ++ (p.found ∷ []) ++ here.pending ∷ []) (8 * bytes_in size) → sites2 ≡ sites ++ access_site here q (act.Load a size) p [] ∷ [] → on (v here.guard) ≡ true → after v maps sites ≡ m.maps → bytes_of (decl_at m.maps q).key (map_list v p.key) ≡ key
    → lookup_of (contents_at m.maps q) key ≡ Some value → All (λ b. b < 256) value → v c ≡ number_at size a value
load_answered v maps new sites sites2 here m q o a c offset size d p key value read reads sites_are guard after_is key_is there bytes =
    read_value v maps new sites sites2 c (Answer (length sites)) (access_site here q (act.Load a size) p []) _ (8 * bytes_in size) read reads refl sites_are guard
    ∙ ap (λ (s : MapState). bits_from (loaded a size (lookup_of (contents_at s q) (bytes_of (decl_at s q).key (map_list v p.key)))) 0 (8 * bytes_in size)) after_is
    ∙ ap (λ (k : List ℕ). bits_from (loaded a size (lookup_of (contents_at m.maps q) k)) 0 (8 * bytes_in size)) key_is
    ∙ ap (λ (r : Option (List ℕ)). bits_from (loaded a size r) 0 (8 * bytes_in size)) there
    ∙ small_bits (number_at size a value) (8 * bytes_in size) (number_fits size a value bytes)

-- what a load gives its destination, by the number that it finds in an entry
abbrev Loaded : Insn → ℕ → ℕ → Size → (ℕ → ℕ) → Type 0
Loaded i q o size f = (refs : List ℕ) (m n : Machine) (key : List ℕ) → register m.registers i.src ≡ is.Entry q key (pos o) → effect refs m i i.op ≡ Some n
    → (y : Value) × (machine.loaded m (is.Entry q key (pos o)) i.offset size ≡ Some y) × ((x : ℕ) → y ≡ is.Number x → n ≡ record m { registers = slice_set m.registers i.dst (is.Number (f x)) })

load_operates : (lo hi : ℕ) (decls : List MapDecl) (i : Insn) (here : Here) (is_ref taken : Bool) (k : Kinds) (h : RegisterCells) (old mid new : List CellView) (ps : List PointerView) (sites sites2 : List SiteView) (size : Size) (q o a answer c : ℕ) (f : ℕ → ℕ)
    → Loaded i q o size f → ((m : Machine) → touched.operation_as m i i.op ≡ touched.accesses m.maps (register m.registers i.src) i.offset size (λ key b. map.Load key))
    → i.src ≤ 10 → i.dst ≤ 10 → kinds.register k i.src ≡ Entry q o → here.guard < length old → IsInPlace decls q (pos o +ℤ i.offset) size → transferred decls k i here.node is_ref taken ≡ with_register k i.dst (Num (Between lo hi))
    → length k.registers ≡ 11 → length h.registers ≡ 11 → AreInside decls (length old) ps h k
    → ((b : ℕ) → aligned (pos o +ℤ i.offset) (bytes_in size) (value_bytes decls q) ≡ Some b → a ≡ b)
    → Accesses old mid sites sites2 here q (act.Load a size) (pointer_at ps (slice_index h.registers i.src)) [] answer (8 * bytes_in size) → Makes mid new c (λ packet v. f (v answer))
    → Operates decls i here.node here.guard is_ref taken k h (record h { registers = slice_set h.registers i.dst c }) old new ps ps sites sites2
load_operates lo hi decls i here is_ref taken k h old mid new ps sites sites2 size q o a answer c f given operates src dst base guard_there placed becomes ks hs inside at made makes =
    let p : PointerView = pointer_at ps (slice_index h.registers i.src) in
    let site : SiteView = access_site here q (act.Load a size) p [] in
    let none : ps ≡ ps ++ [] = sym (append-nil ps) in
    let grows : GrowsWith (ReadsNext sites) old new = grown_with _ _ _ _ made.grows (reads_none _ _ _ makes.grows) in
    let reads = read_later _ _ _ _ _ _ _ makes.grows made.reads in
    let led = (entry_pointer decls (length old) ps k h i.src q o inside src base).1 in
    let fits = place_fits decls q a (pos o +ℤ i.offset) size placed at in
    let adds = adds_site decls here old old new sites sites2 site grown_none grows made.sites_are refl refl (fits_map decls site fits.0 led.enough tt fits.1)
    (record { guard = guard_there; key = led.key; operands = All-cons (λ j. j < length old) p.found [] led.found (All-nil (λ j. j < length old)) }) in
    record {
      grows = adds.grows;
      more_pointers = [];
      pointers_are = none;
      more = site ∷ [];
      sites_are = made.sites_are;
      own = adds.own;
      fits = adds.fits;
      below = adds.below;
      inside = rw becomes (assigned_inside decls (length new) ps h k i.dst c (Num (Between lo hi)) dst ks hs
          (subst (λ (xs : List PointerView). AreInside decls (length new) xs h k) (sym none) (inside_among decls (length old) (length new) ps [] h k grows.longer inside)) makes.there);
      holds = λ packet maps v m n refs run read guard after_is known at_ref e.
          let r = entry_held decls packet v ps here.node k h m i.src q o known src base in
          let key : List ℕ = key_of decls v q p in
          let y = given refs m n key r e in
          let l = entry_loaded m q o key i.offset size y.0 y.1 in
          let d : MapDecl = l.0 in
          let found : Placed m q o i.offset size d l.1 = l.3 in
          let decl = decl_is m.maps.decls q d found.decl in
          let limit : value_bytes decls q ≡ d.value = ap (λ (ds : List MapDecl). value_bytes ds q) (sym known.decls_are) ∙ decl.2 in
          let same_place : a ≡ l.1 = at l.1 (ap (aligned (pos o +ℤ i.offset) (bytes_in size)) limit ∙ found.at) in
          let keys : bytes_of (decl_at m.maps q).key (map_list v p.key) ≡ key = key_is_site decls v m.maps q d p known.decls_are found.decl in
          let value = load_answered v maps new sites sites2 here m q o a answer i.offset size d p key l.2 read reads made.sites_are guard after_is keys l.4 (value_bytes_fit m.maps q d key l.2 known.in_range.maps found.decl l.4) in
          let ms : length m.registers ≡ 11 = sym known.stands.registers ∙ ks in
          let leaves = y.2 (number_at size l.1 l.2) l.5 in
          let holds : is.Number (f (number_at size l.1 l.2)) ≡ is.Number (v c) =
          ap is.Number (ap f (ap (λ (j : ℕ). number_at size j l.2) (sym same_place) ∙ sym value) ∙ sym (makes.value packet v run)) in (
            rw (becomes, leaves) (assigned_held decls packet v ps h k m i.dst c (Num (Between lo hi)) (is.Number (f (number_at size l.1 l.2))) dst ks hs ms known.held holds),
            ap (after v maps) made.sites_are ∙ after_one v maps sites site ∙ after_is ∙ sym (ap (λ (x : Machine). x.maps) leaves),
            operates m ∙ placed_operation m q o key i.offset size d l.1 (register m.registers i.src) (λ x b. map.Load x) r found ∙ ap (λ (x : List ℕ). Some (q, map.Load x)) (sym keys),
          );
    }

plain_loaded : (i : Insn) (q o : ℕ) (size : Size) → i.op ≡ Load size → Loaded i q o size (λ x. x)
plain_loaded i q o size op refs m n key r e =
    let y = assigned_is m n i _ (sym (ap (effect refs m i) op) ∙ e) in
    (y.0, sym (ap (λ (x : Value). machine.loaded_plain m x i.offset size) r) ∙ y.1, λ x x_is. y.2 ∙ ap (λ (z : Value). record m { registers = slice_set m.registers i.dst z }) x_is)

signed_loaded : (i : Insn) (q o : ℕ) (size : Size) → i.op ≡ LoadSigned size → Loaded i q o size (extended 64 (8 * bytes_in size))
signed_loaded i q o size op refs m n key r e =
    let y = assigned_is m n i _ (sym (ap (effect refs m i) op) ∙ e) in
    let found : Option Value = machine.loaded m (is.Entry q key (pos o)) i.offset size in
    let b = bound (found >>= is.number_in) (λ (j : ℕ). Some (is.Number (extended 64 (8 * bytes_in size) j))) y.0 (sym (ap (λ (x : Value). machine.loaded_signed m x i.offset size) r) ∙ y.1) in
    let z = bound found is.number_in b.0 b.1 in (
      z.0,
      z.1,
      λ x x_is. y.2 ∙ ap (λ (u : Value). record m { registers = slice_set m.registers i.dst u })
          (sym (some_inj _ y.0 b.2) ∙ ap (λ (j : ℕ). is.Number (extended 64 (8 * bytes_in size) j)) (sym (some_inj x b.0 (sym (ap is.number_in x_is) ∙ z.2)))),
    )

pub load_made : (decls : List MapDecl) (i : Insn) (here : Here) (is_ref taken : Bool) (k : Kinds) (h : RegisterCells) (old new : List CellView) (ps : List PointerView) (sites sites2 : List SiteView) (size : Size) (q o a c width : ℕ) (p : PointerView) (z : ℤ)
    → i.op ≡ Load size → i.src ≤ 10 → i.dst ≤ 10 → kinds.register k i.src ≡ Entry q o → here.guard < length old → verdict (effect_of decls k i) ≡ passed → length k.registers ≡ 11 → length h.registers ≡ 11 → AreInside decls (length old) ps h k
    → z ≡ i.offset → ((b : ℕ) → aligned (pos o +ℤ z) (bytes_in size) (value_bytes decls q) ≡ Some b → a ≡ b) → p ≡ pointer_at ps (slice_index h.registers i.src) → width ≡ 8 * bytes_in size
    → Accesses old new sites sites2 here q (act.Load a size) p [] c width
    → Operates decls i here.node here.guard is_ref taken k h (record h { registers = slice_set h.registers i.dst c }) old new ps ps sites sites2
load_made decls i here is_ref taken k h old new ps sites sites2 size q o a c width p z op src dst base guard_there allowed ks hs inside offset at p_is width_is made =
    let f = load_allowed decls k i size q o op base allowed in
    load_operates _ _ decls i here is_ref taken k h old new new ps sites sites2 size q o a c c (λ x. x) (plain_loaded i q o size op) (λ m. ap (touched.operation_as m i) op) src dst base guard_there f.0 (f.1 here.node is_ref taken) ks hs inside
    (λ b e. at b (ap (λ (y : ℤ). aligned (pos o +ℤ y) (bytes_in size) (value_bytes decls q)) offset ∙ e))
    (subst (λ (x : PointerView). Accesses old new sites sites2 here q (act.Load a size) x [] c (8 * bytes_in size)) p_is (subst (λ (j : ℕ). Accesses old new sites sites2 here q (act.Load a size) p [] c j) width_is made))
    (record { grows = grown_none; there = made.reads.there; value = λ packet v run. refl })

pub signed_made : (decls : List MapDecl) (i : Insn) (here : Here) (is_ref taken : Bool) (k : Kinds) (h : RegisterCells) (old mid new : List CellView) (ps : List PointerView) (sites sites2 : List SiteView) (size : Size) (q o a answer c width : ℕ) (p : PointerView) (z : ℤ)
    → i.op ≡ LoadSigned size → i.src ≤ 10 → i.dst ≤ 10 → kinds.register k i.src ≡ Entry q o → here.guard < length old → verdict (effect_of decls k i) ≡ passed → length k.registers ≡ 11 → length h.registers ≡ 11 → AreInside decls (length old) ps h k
    → z ≡ i.offset → ((b : ℕ) → aligned (pos o +ℤ z) (bytes_in size) (value_bytes decls q) ≡ Some b → a ≡ b) → p ≡ pointer_at ps (slice_index h.registers i.src) → width ≡ 8 * bytes_in size
    → Accesses old mid sites sites2 here q (act.Load a size) p [] answer width → Makes mid new c (λ packet v. extended 64 width (v answer))
    → Operates decls i here.node here.guard is_ref taken k h (record h { registers = slice_set h.registers i.dst c }) old new ps ps sites sites2
signed_made decls i here is_ref taken k h old mid new ps sites sites2 size q o a answer c width p z op src dst base guard_there allowed ks hs inside offset at p_is width_is made makes =
    let f = signed_allowed decls k i size q o op base allowed in
    load_operates _ _ decls i here is_ref taken k h old mid new ps sites sites2 size q o a answer c (extended 64 (8 * bytes_in size)) (signed_loaded i q o size op) (λ m. ap (touched.operation_as m i) op) src dst base
    guard_there f.0 (f.1 here.node is_ref taken) ks hs inside (λ b e. at b (ap (λ (y : ℤ). aligned (pos o +ℤ y) (bytes_in size) (value_bytes decls q)) offset ∙ e))
    (subst (λ (x : PointerView). Accesses old mid sites sites2 here q (act.Load a size) x [] answer (8 * bytes_in size)) p_is (subst (λ (j : ℕ). Accesses old mid sites sites2 here q (act.Load a size) p [] answer j) width_is made))
    (subst (λ (j : ℕ). Makes mid new c (λ packet v. extended 64 j (v answer))) width_is makes)
