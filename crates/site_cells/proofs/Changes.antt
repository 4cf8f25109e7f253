-- Updates and deletes.
use Rattle.std.proofs.Common.{◌≡◌, ℕ, ◌^◌, ◌<◌, ◌≤◌, Bool, true, Some, List, [], ◌∷◌, ◌++◌, length, map as map_list, slice_index, slice_set, refl, sym, ◌∙◌, ap, subst, arith, Option}
use Rattle.std.specs.Int.{w64, cast_unsigned}
use Rattle.std.proofs.lemmas.List.{append-nil}
use Rattle.std.proofs.lemmas.List.Elements.{All-nil, All-cons}
use Rattle.cell_core.specs.bpf_isa.declared.operation.Op.TheVariants.{Call}
use Rattle.cell_core.specs.bpf_isa.declared.instruction.Insn.{Insn}
use Rattle.cell_core.specs.bpf_isa.declared.helper.Helper.{Helper}
use Rattle.cell_core.specs.bpf_isa.declared.helper.Helper.TheVariants.{Update, Delete}
use Rattle.cell_core.specs.bpf_isa.Helpers.{helper_of}
use Rattle.cell_core.specs.xdp_maps.declared.decl.MapDecl.{MapDecl}
use Rattle.cell_core.specs.xdp_maps.State.{MapState, decl_at, contents_at, with_contents}
use Rattle.cell_core.specs.xdp_maps.Calls.{delete_number, deleted, update_number, updated}
use Rattle.cell_core.specs.xdp_maps.Operations as map
use Rattle.cell_core.specs.xdp_maps.Operations.{Operation, operated}
use Rattle.cell_core.specs.xdp_machine.Values.{◌>>=◌}
use Rattle.cell_core.specs.xdp_machine.Values as is
use Rattle.cell_core.specs.xdp_machine.State.{Machine, PacketIn, register}
use Rattle.cell_core.specs.xdp_machine.Helpers as helpers
use Rattle.cell_core.specs.xdp_machine.Step.{effect}
use Rattle.cell_core.specs.xdp_machine.Touched as touched
use Rattle.kind_core.proofs.xdp_machine_laws.ChangeLaws.{some_inj}
use Rattle.kind_core.proofs.xdp_machine_laws.NumberLaws.{word_of, delete_number_fits, update_number_fits}
use Rattle.kind_core.specs.declared.number.Number.{Number}
use Rattle.kind_core.specs.NumberBounds.{any_number}
use Rattle.kind_core.specs.declared.kind.Kind.{Kind}
use Rattle.kind_core.specs.declared.kind.Kind.TheVariants.{Num, MapRef}
use Rattle.kind_core.specs.declared.kind.Kinds.{Kinds}
use Rattle.kind_core.specs.Kinds as kinds
use Rattle.kind_core.specs.Kinds.{key_bytes, value_bytes}
use Rattle.kind_core.specs.Calls as calls
use Rattle.kind_core.specs.Tests.{passed}
use Rattle.kind_core.specs.Effects.{effect_of, verdict}
use Rattle.kind_core.specs.Edges.{transferred, changed}
use Rattle.kind_core.specs.Describes.{Describes}
use Rattle.cell_core.specs.declared.operator.Operator.TheVariants.{Answer}
use Rattle.cell_core.specs.declared.site.Act.{Act}
use Rattle.cell_core.specs.declared.site.Act.TheVariants as act
use Rattle.cell_core.specs.Cells.{CellView, IsRun, bits_from}
use Rattle.cell_core.specs.Sites.{SiteView, records, operation_on, answer, bytes_of}
use Rattle.cell_core.specs.Formed.{FitsMap, IsBelow}
use Rattle.cell_core.proofs.BitLaws.{small_bits}
use Rattle.operator_cells.specs.Making.{GrowsWith, Grows, Makes}
use Rattle.operator_cells.proofs.MakingLaws.{grown}
use Rattle.operator_cells.specs.declared.held_cells.machine_cells.RegisterCells.{RegisterCells}
use Rattle.operator_cells.specs.HeldCells.RegisterCells.{PointerView, AreInside, AreHeld, number_of}
use Rattle.site_cells.proofs.Slots.{bound, register_number}
use Rattle.operator_cells.specs.HeldCells.Carrying.{IsKnown}
use Rattle.operator_cells.specs.HeldCells.Operating.{Operates}
use Rattle.site_cells.specs.declared.here.Here.{Here}
use Rattle.site_cells.specs.Words.{HoldsRegion}
use Rattle.site_cells.specs.Siting.{ReadsNext, Changes, change_site}
use Rattle.site_cells.proofs.Adding.{read_value}
use Rattle.site_cells.proofs.OneSite.{adds_site, fits_map}
use Rattle.site_cells.proofs.Answered.{inside_among, answered_inside, answered_held}
use Rattle.site_cells.proofs.Stale.{changed_inside, changed_held}
use Rattle.site_cells.proofs.Allowed.{delete_allowed, update_allowed}
use Rattle.kind_core.proofs.xdp_machine_laws.CallLaws.{helper_called}
use Rattle.site_cells.proofs.Calling.{key_is, keyed_operation, decl_is}
use Rattle.site_cells.proofs.Stores.{written}

-- what a helper does on a machine: an operation, which its site is, and a number that it answers
pub record Helps (i : Insn) (v : ℕ → ℕ) (m n : Machine) (q : ℕ) (site : SiteView) : Type 0 where
  pub op : Operation
  pub number : ℕ
  pub site_is : operation_on v m.maps site ≡ op
  pub does : touched.operation_as m i i.op ≡ Some (q, op)
  pub leaves : n ≡ helpers.answering (is.Number number) (record m { maps = operated m.maps q op })
  pub answers : answer m.maps q site.act op ≡ number
  pub fits : number < 2 ^ 64

pub change_operates : (decls : List MapDecl) (i : Insn) (here : Here) (is_ref taken : Bool) (k : Kinds) (h : RegisterCells) (old mid new : List CellView) (ps : List PointerView) (sites sites2 : List SiteView) (q c : ℕ) (a : Act) (key looked operands : List ℕ)
    → transferred decls k i here.node is_ref taken ≡ changed here.node is_ref taken k (calls.change_of decls q) → length h.registers ≡ 11 → AreInside decls (length old) ps h k → Grows old mid
    → FitsMap decls (change_site here q a key operands) → IsBelow (length mid) (change_site here q a key operands) → Changes mid new sites sites2 here q a key looked operands c → records a ≡ true
    → ((packet : PacketIn) (v : ℕ → ℕ) (m n : Machine) (refs : List ℕ) → IsRun packet new v → IsKnown decls packet v ps here.node k h m → effect refs m i i.op ≡ Some n → Helps i v m n q (change_site here q a key operands))
    → Operates decls i here.node here.guard is_ref taken k h (record h { registers = slice_set h.registers 0 c }) old new ps ps sites sites2
change_operates decls i here is_ref taken k h old mid new ps sites sites2 q c a key looked operands becomes whole inside before fits below made writes helps =
    let site : SiteView = change_site here q a key operands in
    let none : ps ≡ ps ++ [] = sym (append-nil ps) in
    let adds = adds_site decls here old mid new sites sites2 site before made.grows made.sites_are refl refl fits below in
    record {
      grows = adds.grows;
      more_pointers = [];
      pointers_are = none;
      more = site ∷ [];
      sites_are = made.sites_are;
      own = adds.own;
      fits = adds.fits;
      below = adds.below;
      inside = rw becomes (changed_inside decls (length new) ps (record h { registers = slice_set h.registers 0 c }) q here.node is_ref taken k (answered_inside decls (length new) ps h k (Num (any_number 64)) c whole
          (subst (λ (xs : List PointerView). AreInside decls (length new) xs h k) (sym none) (inside_among decls (length old) (length new) ps [] h k adds.grows.longer inside)) made.reads.there));
      holds = λ packet maps v m n refs run read guard after_is known at_ref e.
          let w = helps packet v m n refs run known e in
          let value : v c ≡ w.number = read_value v maps new sites sites2 c (Answer (length sites)) site _ 64 read made.reads refl made.sites_are guard
          ∙ ap (λ (s : MapState). bits_from (answer s q a (operation_on v s site)) 0 64) after_is
          ∙ ap (λ (o : Operation). bits_from (answer m.maps q a o) 0 64) w.site_is
          ∙ ap (λ (x : ℕ). bits_from x 0 64) w.answers
          ∙ small_bits w.number 64 w.fits in
          let held : AreHeld decls packet v ps h k (record m { maps = operated m.maps q w.op }) = record {
            registers = known.held.registers;
            slots = known.held.slots;
            length_is = known.held.length_is;
            window = known.held.window;
            rest = known.held.rest;
            target = known.held.target;
            ifindex = known.held.ifindex;
            time = known.held.time;
          } in (
            rw (becomes, w.leaves) (changed_held decls packet v ps (record h { registers = slice_set h.registers 0 c }) q here.node is_ref taken k _
                (answered_held decls packet v ps h k (record m { maps = operated m.maps q w.op }) (Num (any_number 64)) c (is.Number w.number) whole held (ap is.Number (sym value)))),
            written v maps m.maps sites sites2 site w.op made.sites_are after_is writes guard w.site_is ∙ sym (ap (λ (y : Machine). y.maps) w.leaves),
            w.does ∙ ap (λ (o : Operation). Some (q, o)) (sym w.site_is),
          );
    }

-- ---- deletes

delete_helps : (R : ℕ → ℕ → Type 0) (decls : List MapDecl) (i : Insn) (here : Here) (k : Kinds) (h : RegisterCells) (old mid new : List CellView) (ps : List PointerView) (q : ℕ) (words : List ℕ) → i.op ≡ Call → helper_of i.imm ≡ Some Delete → kinds.register k 1 ≡ MapRef q
    → GrowsWith R mid new → HoldsRegion decls ps here.node k h old mid (kinds.register k 2) (key_bytes decls q) words
    → (packet : PacketIn) (v : ℕ → ℕ) (m n : Machine) (refs : List ℕ) → IsRun packet new v → IsKnown decls packet v ps here.node k h m → effect refs m i i.op ≡ Some n → Helps i v m n q (change_site here q act.Delete words [])
delete_helps R decls i here k h old mid new ps q words op helper one grows region packet v m n refs run known e =
    let d1 : register m.registers 1 ≡ is.Map q = subst (λ (x : Kind). Describes known.world m.maps x (register m.registers 1)) one (known.stands.described.registers 1) in
    let l = key_is m q (λ p d key. Some (helpers.answering (is.Number (cast_unsigned w64 (delete_number d (contents_at m.maps p) key))) (record m { maps = with_contents m.maps p (deleted d (contents_at m.maps p) key) }))) n d1
    (helper_called refs m n i (Some Delete) op helper e) in
    let d : MapDecl = l.0 in
    let key : List ℕ = l.1 in
    let decl = decl_is m.maps.decls q d l.2.decl in
    let keys : key_bytes decls q ≡ d.key = ap (λ (ds : List MapDecl). key_bytes ds q) (sym known.decls_are) ∙ decl.1 in
    let words_are : bytes_of d.key (map_list v words) ≡ key = ap (λ (j : ℕ). bytes_of j (map_list v words)) (sym keys)
    ∙ region.bytes packet v m (register m.registers 2) key (grows.run packet v run) known (known.stands.described.registers 2)
    (ap (λ (j : ℕ). helpers.region m.stack m.frame j (register m.registers 2)) keys ∙ l.2.bytes) in
    record {
      op = map.Delete key;
      number = cast_unsigned w64 (delete_number (decl_at m.maps q) (contents_at m.maps q) key);
      site_is = ap (λ (x : MapDecl). map.Delete (bytes_of x.key (map_list v words))) decl.0 ∙ ap map.Delete words_are;
      does = ap (touched.operation_as m i) op ∙ ap (λ (h : Option Helper). helpers.calls_on h m) helper ∙ keyed_operation m q d key (λ x bytes. Some (map.Delete bytes)) (map.Delete key) l.2 refl;
      leaves = sym (some_inj _ n l.3)
          ∙ ap (λ (x : MapDecl). helpers.answering (is.Number (cast_unsigned w64 (delete_number x (contents_at m.maps q) key))) (record m { maps = with_contents m.maps q (deleted x (contents_at m.maps q) key) })) (sym decl.0);
      answers = refl;
      fits = word_of (delete_number (decl_at m.maps q) (contents_at m.maps q) key) (delete_number_fits (decl_at m.maps q).kind (contents_at m.maps q) key);
    }

pub delete_made : (decls : List MapDecl) (i : Insn) (here : Here) (is_ref taken : Bool) (k : Kinds) (h : RegisterCells) (old mid new : List CellView) (ps : List PointerView) (sites sites2 : List SiteView) (base : Kind) (count map c : ℕ) (key words looked none : List ℕ)
    → i.op ≡ Call → helper_of i.imm ≡ Some Delete → verdict (effect_of decls k i) ≡ passed → here.guard < length old → length h.registers ≡ 11 → AreInside decls (length old) ps h k
    → base ≡ kinds.register k 2 → count ≡ key_bytes decls map → ((q : ℕ) → kinds.register k 1 ≡ MapRef q → map ≡ q) → key ≡ words → none ≡ []
    → (calls.region k count base ≡ passed → HoldsRegion decls ps here.node k h old mid base count words) → Changes mid new sites sites2 here map act.Delete key looked none c
    → Operates decls i here.node here.guard is_ref taken k h (record h { registers = slice_set h.registers 0 c }) old new ps ps sites sites2
delete_made decls i here is_ref taken k h old mid new ps sites sites2 base count map c key words looked none op helper allowed guard_there whole inside base_is count_is map_is key_is none_is region made =
    let f = delete_allowed decls k i op helper allowed in
    let q : map ≡ f.0 = map_is f.0 f.1 in
    let n : count ≡ key_bytes decls f.0 = count_is ∙ ap (key_bytes decls) q in
    let there = region (ap (calls.region k count) base_is ∙ ap (λ (j : ℕ). calls.region k j (kinds.register k 2)) n ∙ f.3) in
    let holds = subst (λ (j : ℕ). HoldsRegion decls ps here.node k h old mid (kinds.register k 2) j words) n (subst (λ (x : Kind). HoldsRegion decls ps here.node k h old mid x count words) base_is there) in
    let changes = subst (λ (xs : List ℕ). Changes mid new sites sites2 here f.0 act.Delete words looked xs c) none_is (subst (λ (j : ℕ). Changes mid new sites sites2 here j act.Delete words looked none c) q (subst (λ (ws : List ℕ). Changes mid new sites sites2 here map act.Delete ws looked none c) key_is made)) in
    change_operates decls i here is_ref taken k h old mid new ps sites sites2 f.0 c act.Delete words looked [] (f.4 here.node is_ref taken) whole inside holds.grows
    (fits_map decls (change_site here f.0 act.Delete words []) f.2 holds.enough tt tt)
    (record { guard = omega (arith, guard_there, holds.grows.longer); key = holds.there; operands = All-nil (λ j. j < length mid) }) changes refl
    (delete_helps (ReadsNext sites) decls i here k h old mid new ps f.0 words op helper f.1 changes.grows holds)

-- ---- updates

updates_is : (m : Machine) (d : MapDecl) (key value : List ℕ) (flags : ℕ) → helpers.region m.stack m.frame d.value (register m.registers 3) ≡ Some value → is.number_in (register m.registers 4) ≡ Some flags → helpers.updates m d key ≡ Some (map.Update key value flags)
updates_is m d key value flags e f = rw (e, f) refl

update_helps : (R : ℕ → ℕ → Type 0) (decls : List MapDecl) (i : Insn) (here : Here) (k : Kinds) (h : RegisterCells) (old mid next last new : List CellView) (ps : List PointerView) (q flags : ℕ) (x : Number) (words values : List ℕ) → i.op ≡ Call → helper_of i.imm ≡ Some Update
    → kinds.register k 1 ≡ MapRef q → kinds.register k 4 ≡ Num x → GrowsWith R last new → HoldsRegion decls ps here.node k h old mid (kinds.register k 2) (key_bytes decls q) words
    → HoldsRegion decls ps here.node k h mid next (kinds.register k 3) (value_bytes decls q) values → Makes next last flags (λ packet v. number_of v x (slice_index h.registers 4))
    → (packet : PacketIn) (v : ℕ → ℕ) (m n : Machine) (refs : List ℕ) → IsRun packet new v → IsKnown decls packet v ps here.node k h m → effect refs m i i.op ≡ Some n → Helps i v m n q (change_site here q act.Update words (flags ∷ values))
update_helps R decls i here k h old mid next last new ps q flags x words values op helper one four grows region second made packet v m n refs run known e =
    let d1 : register m.registers 1 ≡ is.Map q = subst (λ (y : Kind). Describes known.world m.maps y (register m.registers 1)) one (known.stands.described.registers 1) in
    let l = key_is m q (λ p d key. helpers.region m.stack m.frame d.value (register m.registers 3) >>= (λ value. is.number_in (register m.registers 4) >>= (λ f.
    Some (helpers.answering (is.Number (cast_unsigned w64 (update_number d (contents_at m.maps p) key f))) (record m { maps = with_contents m.maps p (updated d (contents_at m.maps p) key value f) }))))) n d1
    (helper_called refs m n i (Some Update) op helper e) in
    let d : MapDecl = l.0 in
    let key : List ℕ = l.1 in
    let b = bound (helpers.region m.stack m.frame d.value (register m.registers 3)) _ n l.3 in
    let f = bound (is.number_in (register m.registers 4)) _ n b.2 in
    let decl = decl_is m.maps.decls q d l.2.decl in
    let keys : key_bytes decls q ≡ d.key = ap (λ (ds : List MapDecl). key_bytes ds q) (sym known.decls_are) ∙ decl.1 in
    let limit : value_bytes decls q ≡ d.value = ap (λ (ds : List MapDecl). value_bytes ds q) (sym known.decls_are) ∙ decl.2 in
    let run3 = grows.run packet v run in
    let run2 = made.grows.run packet v run3 in
    let run1 = second.grows.run packet v run2 in
    let words_are : bytes_of d.key (map_list v words) ≡ key = ap (λ (j : ℕ). bytes_of j (map_list v words)) (sym keys)
    ∙ region.bytes packet v m (register m.registers 2) key run1 known (known.stands.described.registers 2) (ap (λ (j : ℕ). helpers.region m.stack m.frame j (register m.registers 2)) keys ∙ l.2.bytes) in
    let values_are : bytes_of d.value (map_list v values) ≡ b.0 = ap (λ (j : ℕ). bytes_of j (map_list v values)) (sym limit)
    ∙ second.bytes packet v m (register m.registers 3) b.0 run2 known (known.stands.described.registers 3) (ap (λ (j : ℕ). helpers.region m.stack m.frame j (register m.registers 3)) limit ∙ b.1) in
    let number = register_number decls packet v ps here.node k h m 4 x known (omega arith) four in
    let flags_are : v flags ≡ f.0 = made.value packet v run3 ∙ some_inj _ f.0 (sym (ap is.number_in number) ∙ f.1) in
    record {
      op = map.Update key b.0 f.0;
      number = cast_unsigned w64 (update_number (decl_at m.maps q) (contents_at m.maps q) key f.0);
      site_is = ap (λ (y : MapDecl). map.Update (bytes_of y.key (map_list v words)) (bytes_of y.value (map_list v values)) (v flags)) decl.0
          ∙ ap (λ (bs : List ℕ). map.Update bs (bytes_of d.value (map_list v values)) (v flags)) words_are
          ∙ ap (λ (bs : List ℕ). map.Update key bs (v flags)) values_are
          ∙ ap (map.Update key b.0) flags_are;
      does = ap (touched.operation_as m i) op ∙ ap (λ (h : Option Helper). helpers.calls_on h m) helper ∙ keyed_operation m q d key (helpers.updates m) (map.Update key b.0 f.0) l.2 (updates_is m d key b.0 f.0 b.1 f.1);
      leaves = sym (some_inj _ n f.2)
          ∙ ap (λ (y : MapDecl). helpers.answering (is.Number (cast_unsigned w64 (update_number y (contents_at m.maps q) key f.0))) (record m { maps = with_contents m.maps q (updated y (contents_at m.maps q) key b.0 f.0) })) (sym decl.0);
      answers = refl;
      fits = word_of (update_number (decl_at m.maps q) (contents_at m.maps q) key f.0) (update_number_fits (decl_at m.maps q).kind (decl_at m.maps q) (contents_at m.maps q) key f.0);
    }

pub update_made : (decls : List MapDecl) (i : Insn) (here : Here) (is_ref taken : Bool) (k : Kinds) (h : RegisterCells) (old mid next last new : List CellView) (ps : List PointerView) (sites sites2 : List SiteView) (base second : Kind) (count size map c flags : ℕ) (key words looked values operands : List ℕ)
    → i.op ≡ Call → helper_of i.imm ≡ Some Update → verdict (effect_of decls k i) ≡ passed → here.guard < length old → length h.registers ≡ 11 → AreInside decls (length old) ps h k
    → base ≡ kinds.register k 2 → second ≡ kinds.register k 3 → count ≡ key_bytes decls map → size ≡ value_bytes decls map → ((q : ℕ) → kinds.register k 1 ≡ MapRef q → map ≡ q) → key ≡ words → operands ≡ flags ∷ values
    → (calls.region k count base ≡ passed → HoldsRegion decls ps here.node k h old mid base count words) → (calls.region k size second ≡ passed → HoldsRegion decls ps here.node k h mid next second size values)
    → ((x : Number) → kinds.register k 4 ≡ Num x → Makes next last flags (λ packet v. number_of v x (slice_index h.registers 4)))
    → Changes last new sites sites2 here map act.Update key looked operands c
    → Operates decls i here.node here.guard is_ref taken k h (record h { registers = slice_set h.registers 0 c }) old new ps ps sites sites2
update_made decls i here is_ref taken k h old mid next last new ps sites sites2 base second count size map c flags key words looked values operands op helper allowed guard_there whole inside base_is second_is count_is size_is map_is key_is operands_are region other makes made =
    let f = update_allowed decls k i op helper allowed in
    let q : map ≡ f.0 = map_is f.0 f.1 in
    let n : count ≡ key_bytes decls f.0 = count_is ∙ ap (key_bytes decls) q in
    let s : size ≡ value_bytes decls f.0 = size_is ∙ ap (value_bytes decls) q in
    let holds = held_region base_is n (region (ap (calls.region k count) base_is ∙ ap (λ (j : ℕ). calls.region k j (kinds.register k 2)) n ∙ f.3)) in
    let others = held_region second_is s (other (ap (calls.region k size) second_is ∙ ap (λ (j : ℕ). calls.region k j (kinds.register k 3)) s ∙ f.4)) in
    let flag = makes f.5 f.6 in
    let before = grown holds.grows (grown others.grows flag.grows) in
    let behind : length mid ≤ length last = omega (arith, others.grows.longer, flag.grows.longer) in
    let changes = subst (λ (xs : List ℕ). Changes last new sites sites2 here f.0 act.Update words looked xs c) operands_are
    (subst (λ (j : ℕ). Changes last new sites sites2 here j act.Update words looked operands c) q (subst (λ (ws : List ℕ). Changes last new sites sites2 here map act.Update ws looked operands c) key_is made)) in
    change_operates decls i here is_ref taken k h old last new ps sites sites2 f.0 c act.Update words looked (flags ∷ values) (f.7 here.node is_ref taken) whole inside before
    (fits_map decls (change_site here f.0 act.Update words (flags ∷ values)) f.2 holds.enough (omega (arith, others.enough)) tt)
    (record {
      guard = omega (arith, guard_there, before.longer);
      key = λ j d l. omega (arith, holds.there j d l, behind);
      operands = All-cons (λ j. j < length last) flags values flag.there (λ j d l. omega (arith, others.there j d l, flag.grows.longer));
    }) changes refl
    (update_helps (ReadsNext sites) decls i here k h old mid next last new ps f.0 flags f.5 words values op helper f.1 f.6 changes.grows holds others flag)
  where
    held_region : {a b : List CellView} {x y : Kind} {c d : ℕ} {ws : List ℕ} → x ≡ y → c ≡ d → HoldsRegion decls ps here.node k h a b x c ws → HoldsRegion decls ps here.node k h a b y d ws
    held_region {a} {b} {x} {y} {c} {d} {ws} e g r = subst (λ (j : ℕ). HoldsRegion decls ps here.node k h a b y j ws) g (subst (λ (z : Kind). HoldsRegion decls ps here.node k h a b z c ws) e r)
