-- Lookups.
use Rattle.std.proofs.Common.{◌≡◌, ℕ, pos, if◌then◌else◌, Bool, true, false, Some, List, [], ◌∷◌, ◌++◌, ◌<◌, length, length-append, map as map_list, slice_set, refl, sym, ◌∙◌, ap, subst, arith, Option}
use Rattle.std.specs.Prelude.{is_some}
use Rattle.std.proofs.lemmas.List.Elements.{All-nil}
use Rattle.kind_core.specs.Edges.{transferred}
use Rattle.operator_cells.specs.HeldCells.RegisterCells.{AreHeld}
use Rattle.cell_core.specs.bpf_isa.declared.operation.Op.TheVariants.{Call}
use Rattle.cell_core.specs.bpf_isa.declared.instruction.Insn.{Insn}
use Rattle.cell_core.specs.bpf_isa.declared.helper.Helper.{Helper}
use Rattle.cell_core.specs.bpf_isa.declared.helper.Helper.TheVariants.{Lookup}
use Rattle.cell_core.specs.bpf_isa.Helpers.{helper_of}
use Rattle.cell_core.specs.xdp_maps.declared.decl.MapDecl.{MapDecl}
use Rattle.cell_core.specs.xdp_maps.State.{MapState, decl_at, contents_at}
use Rattle.cell_core.specs.xdp_maps.Calls.{lookup_of}
use Rattle.cell_core.specs.xdp_maps.Operations as map
use Rattle.cell_core.specs.xdp_machine.Values as is
use Rattle.cell_core.specs.xdp_machine.State.{Machine, register}
use Rattle.cell_core.specs.xdp_machine.Helpers as helpers
use Rattle.cell_core.specs.xdp_machine.Touched as machine
use Rattle.kind_core.specs.declared.kind.Kind.{Kind}
use Rattle.kind_core.specs.declared.kind.Kind.TheVariants.{MapRef, Maybe}
use Rattle.kind_core.specs.declared.kind.Kinds.{Kinds}
use Rattle.kind_core.specs.Kinds as kinds
use Rattle.kind_core.specs.Kinds.{key_bytes}
use Rattle.kind_core.specs.Calls as calls
use Rattle.kind_core.specs.Tests.{passed}
use Rattle.kind_core.specs.Effects.{effect_of, verdict}
use Rattle.kind_core.specs.Describes.{Describes}
use Rattle.cell_core.specs.Cells.{CellView, bits_from, bit, on}
use Rattle.cell_core.specs.Sites.{SiteView, after, bytes_of}
use Rattle.operator_cells.specs.declared.held_cells.machine_cells.RegisterCells.{RegisterCells}
use Rattle.operator_cells.specs.HeldCells.RegisterCells.{PointerView, IsPointer, AreInside, pointer_at, entry_or_null}
use Rattle.operator_cells.specs.HeldCells.Operating.{Operates}
use Rattle.site_cells.specs.declared.here.Here.{Here}
use Rattle.site_cells.specs.Words.{HoldsRegion}
use Rattle.site_cells.specs.Siting.{LooksUp, lookup_site}
use Rattle.site_cells.proofs.Adding.{after_one, read_value, last_pointer}
use Rattle.site_cells.proofs.OneSite.{adds_site, fits_map}
use Rattle.site_cells.proofs.Answered.{inside_among, held_among, answered_inside, answered_held}
use Rattle.site_cells.proofs.Allowed.{lookup_allowed}
use Rattle.kind_core.proofs.xdp_machine_laws.CallLaws.{helper_called}
use Rattle.site_cells.proofs.Calling.{keyed_operation, lookup_is, decl_is}

bit_is : (b : Bool) → on (bits_from (bit b) 0 1) ≡ b
bit_is true = refl
bit_is false = refl

entry_is : (q : ℕ) (key : List ℕ) (t : Bool) (f : ℕ) (words : List ℕ) → on f ≡ t → words ≡ key → (if t then is.Entry q key (pos 0) else is.Number 0) ≡ (if on f then is.Entry q words (pos 0) else is.Number 0)
entry_is q key t f words e w = rw (e, w) refl

pub lookup_operates : (decls : List MapDecl) (i : Insn) (here : Here) (is_ref taken : Bool) (k : Kinds) (h : RegisterCells) (old mid new : List CellView) (ps qs : List PointerView) (sites sites2 : List SiteView) (q c : ℕ) (words : List ℕ)
    → i.op ≡ Call → helper_of i.imm ≡ Some Lookup → kinds.register k 1 ≡ MapRef q → ((node : ℕ) (is_ref taken : Bool) → transferred decls k i node is_ref taken ≡ kinds.answering (Maybe q node) k)
    → q < length decls → here.guard < length old → length h.registers ≡ 11 → AreInside decls (length old) ps h k
    → HoldsRegion decls ps here.node k h old mid (kinds.register k 2) (key_bytes decls q) words → LooksUp mid new ps qs sites sites2 here q words c
    → Operates decls i here.node here.guard is_ref taken k h (record h { registers = slice_set h.registers 0 c }) old new ps qs sites sites2
lookup_operates decls i here is_ref taken k h old mid new ps qs sites sites2 q c words op helper one becomes there guard_there whole inside region looks =
    let p : PointerView = record { found = looks.found; key = words } in
    let site : SiteView = lookup_site here q words in
    let adds = adds_site decls here old mid new sites sites2 site region.grows looks.grows looks.sites_are refl refl (fits_map decls site there region.enough tt tt)
    (record { guard = omega (arith, guard_there, region.grows.longer); key = region.there; operands = All-nil (λ i. i < length mid) }) in
    let at : pointer_at qs c ≡ p = ap (λ (xs : List PointerView). pointer_at xs c) looks.pointers_are ∙ ap (pointer_at (ps ++ p ∷ [])) looks.number_is ∙ last_pointer ps p in
    let is_pointer : IsPointer decls (length new) q p = record { found = looks.reads.there; key = λ j d l. omega (arith, region.there j d l, looks.grows.longer); enough = region.enough } in
    record {
      grows = adds.grows;
      more_pointers = p ∷ [];
      pointers_are = looks.pointers_are;
      more = site ∷ [];
      sites_are = looks.sites_are;
      own = adds.own;
      fits = adds.fits;
      below = adds.below;
      inside = rw (becomes here.node is_ref taken) (answered_inside decls (length new) qs h k (Maybe q here.node) c whole
          (subst (λ (xs : List PointerView). AreInside decls (length new) xs h k) (sym looks.pointers_are) (inside_among decls (length old) (length new) ps (p ∷ []) h k adds.grows.longer inside))
          (omega (arith, looks.number_is, ap length looks.pointers_are, length-append ps (p ∷ [])), subst (IsPointer decls (length new) q) (sym at) is_pointer));
      holds = λ packet maps v m n refs run read guard after_is known at_ref e.
          let d1 : register m.registers 1 ≡ is.Map q = subst (λ (x : Kind). Describes known.world m.maps x (register m.registers 1)) one (known.stands.described.registers 1) in
          let l = lookup_is m n q d1 (helper_called refs m n i (Some Lookup) op helper e) in
          let d : MapDecl = l.0 in
          let decl = decl_is m.maps.decls q d l.2.decl in
          let keys : key_bytes decls q ≡ d.key = ap (λ (ds : List MapDecl). key_bytes ds q) (sym known.decls_are) ∙ decl.1 in
          let words_are : bytes_of d.key (map_list v words) ≡ l.1 = ap (λ (j : ℕ). bytes_of j (map_list v words)) (sym keys)
          ∙ region.bytes packet v m (register m.registers 2) l.1 (looks.grows.run packet v run) known (known.stands.described.registers 2)
          (ap (λ (j : ℕ). helpers.region m.stack m.frame j (register m.registers 2)) keys ∙ l.2.bytes) in
          let lookup : map.Lookup (bytes_of (decl_at m.maps q).key (map_list v words)) ≡ map.Lookup l.1 = ap (λ (x : MapDecl). map.Lookup (bytes_of x.key (map_list v words))) decl.0 ∙ ap map.Lookup words_are in
          let value = read_value v maps new sites sites2 looks.found _ site _ 1 read looks.reads refl looks.sites_are guard in
          let found : on (v looks.found) ≡ is_some (lookup_of (contents_at m.maps q) l.1) =
          ap on value
          ∙ ap (λ (s : MapState). on (bits_from (bit (is_some (lookup_of (contents_at s q) (bytes_of (decl_at s q).key (map_list v words))))) 0 1)) after_is
          ∙ bit_is (is_some (lookup_of (contents_at m.maps q) (bytes_of (decl_at m.maps q).key (map_list v words))))
          ∙ ap (λ (o : map.Operation). is_some (lookup_of (contents_at m.maps q) (map.key_in o))) lookup in
          let same : helpers.entry_or_null q l.1 (contents_at m.maps q) ≡ entry_or_null decls v q (pointer_at qs c) =
          entry_is q l.1 (is_some (lookup_of (contents_at m.maps q) l.1)) (v looks.found) (bytes_of (key_bytes decls q) (map_list v words)) found (ap (λ (j : ℕ). bytes_of j (map_list v words)) keys ∙ words_are)
          ∙ ap (entry_or_null decls v q) (sym at) in
          let held = subst (λ (xs : List PointerView). AreHeld decls packet v xs h k m) (sym looks.pointers_are) (held_among decls packet (length old) v ps (p ∷ []) h k m inside known.held) in (
            rw (becomes here.node is_ref taken, l.3) (answered_held decls packet v qs h k m (Maybe q here.node) c (helpers.entry_or_null q l.1 (contents_at m.maps q)) whole held same),
            ap (after v maps) looks.sites_are ∙ after_one v maps sites site ∙ after_is ∙ sym (ap (λ (x : Machine). x.maps) l.3),
            ap (machine.operation_as m i) op ∙ ap (λ (h : Option Helper). helpers.calls_on h m) helper ∙ keyed_operation m q d l.1 (λ x bytes. Some (map.Lookup bytes)) (map.Lookup l.1) l.2 refl ∙ ap (λ (o : map.Operation). Some (q, o)) (sym lookup),
          );
    }

pub lookup_made : (decls : List MapDecl) (i : Insn) (here : Here) (is_ref taken : Bool) (k : Kinds) (h : RegisterCells) (old mid new : List CellView) (ps qs : List PointerView) (sites sites2 : List SiteView) (base : Kind) (count map c : ℕ) (key words : List ℕ)
    → i.op ≡ Call → helper_of i.imm ≡ Some Lookup → verdict (effect_of decls k i) ≡ passed → here.guard < length old → length h.registers ≡ 11 → AreInside decls (length old) ps h k
    → base ≡ kinds.register k 2 → count ≡ key_bytes decls map → ((q : ℕ) → kinds.register k 1 ≡ MapRef q → map ≡ q) → key ≡ words
    → (calls.region k count base ≡ passed → HoldsRegion decls ps here.node k h old mid base count words) → LooksUp mid new ps qs sites sites2 here map key c
    → Operates decls i here.node here.guard is_ref taken k h (record h { registers = slice_set h.registers 0 c }) old new ps qs sites sites2
lookup_made decls i here is_ref taken k h old mid new ps qs sites sites2 base count map c key words op helper allowed guard_there whole inside base_is count_is map_is key_is region looks =
    let f = lookup_allowed decls k i op helper allowed in
    let q : map ≡ f.0 = map_is f.0 f.1 in
    let n : count ≡ key_bytes decls f.0 = count_is ∙ ap (key_bytes decls) q in
    let there = region (ap (calls.region k count) base_is ∙ ap (λ (j : ℕ). calls.region k j (kinds.register k 2)) n ∙ f.3) in
    lookup_operates decls i here is_ref taken k h old mid new ps qs sites sites2 f.0 c words op helper f.1 f.4 f.2 guard_there whole inside
    (subst (λ (j : ℕ). HoldsRegion decls ps here.node k h old mid (kinds.register k 2) j words) n (subst (λ (x : Kind). HoldsRegion decls ps here.node k h old mid x count words) base_is there))
    (subst (λ (j : ℕ). LooksUp mid new ps qs sites sites2 here j words c) q (subst (λ (ws : List ℕ). LooksUp mid new ps qs sites sites2 here map ws c) key_is looks))
