-- Calls on maps: what they do.
use Rattle.std.proofs.Common.{◌≡◌, ℕ, ◌==◌, if◌then◌else◌, Bool, true, false, Option, Some, None, List, get_or, refl, sym, ◌∙◌, ap}
use Rattle.std.proofs.lemmas.Option.{get_or_from_slice_get}
use Rattle.std.specs.Prelude.{slice_get}
use Rattle.cell_core.specs.bpf_isa.declared.operation.Op.TheVariants.{Call}
use Rattle.cell_core.specs.bpf_isa.declared.instruction.Insn.{Insn}
use Rattle.cell_core.specs.bpf_isa.declared.helper.Helper.{Helper}
use Rattle.cell_core.specs.bpf_isa.Helpers.{helper_of}
use Rattle.cell_core.specs.xdp_maps.declared.decl.MapDecl.{MapDecl}
use Rattle.cell_core.specs.xdp_maps.State.{no_decl, contents_at}
use Rattle.cell_core.specs.xdp_maps.Operations.{Operation}
use Rattle.cell_core.specs.xdp_machine.Values.{Value, map_in, ◌>>=◌}
use Rattle.cell_core.specs.xdp_machine.Values as is
use Rattle.cell_core.specs.xdp_machine.State.{Machine, register}
use Rattle.cell_core.specs.xdp_machine.Helpers as helpers
use Rattle.cell_core.specs.xdp_machine.Helpers.{region, under_key}
use Rattle.cell_core.specs.xdp_machine.Step.{effect}
use Rattle.kind_core.proofs.xdp_machine_laws.ChangeLaws.{some_inj}
use Rattle.kind_core.specs.Kinds as kinds
use Rattle.kind_core.specs.Kinds.{key_bytes, key_in}
use Rattle.site_cells.proofs.Slots.{bound}

-- ---- what is done

-- the declaration of the map and the bytes of the key
pub record Keyed (m : Machine) (q : ℕ) (d : MapDecl) (key : List ℕ) : Type 0 where
  pub map : register m.registers 1 ≡ is.Map q
  pub decl : slice_get m.maps.decls q ≡ Some d
  pub bytes : region m.stack m.frame d.key (register m.registers 2) ≡ Some key

pub key_is : {A : Type 0} (m : Machine) (q : ℕ) (f : ℕ → MapDecl → List ℕ → Option A) (n : A) → register m.registers 1 ≡ is.Map q
    → (map_in (register m.registers 1) >>= (λ p. slice_get m.maps.decls p >>= (λ d. region m.stack m.frame d.key (register m.registers 2) >>= (λ key. f p d key)))) ≡ Some n
    → (d : MapDecl) × (key : List ℕ) × Keyed m q d key × (f q d key ≡ Some n)
key_is m q f n one e =
    let at = ap (λ (x : Value). map_in x >>= (λ p. slice_get m.maps.decls p >>= (λ d. region m.stack m.frame d.key (register m.registers 2) >>= (λ key. f p d key)))) one in
    let d = bound (slice_get m.maps.decls q) _ n (sym at ∙ e) in
    let key = bound (region m.stack m.frame d.0.key (register m.registers 2)) (λ key. f q d.0 key) n d.2 in
    (d.0, key.0, record { map = one; decl = d.1; bytes = key.1 }, key.2)

pub keyed_operation : (m : Machine) (q : ℕ) (d : MapDecl) (key : List ℕ) (f : MapDecl → List ℕ → Option Operation) (op : Operation) → Keyed m q d key → f d key ≡ Some op → under_key m f ≡ Some (q, op)
keyed_operation m q d key f op k e = rw (k.map, k.decl, k.bytes, e) refl

pub lookup_is : (m n : Machine) (q : ℕ) → register m.registers 1 ≡ is.Map q → helpers.lookup m ≡ Some n
    → (d : MapDecl) × (key : List ℕ) × Keyed m q d key × (n ≡ helpers.answering (helpers.entry_or_null q key (contents_at m.maps q)) m)
lookup_is m n q one e =
    let k = key_is m q (λ p d key. Some (helpers.answering (helpers.entry_or_null p key (contents_at m.maps p)) m)) n one e in
    (k.0, k.1, k.2, sym (some_inj _ n k.3))

-- ---- declarations

pub decl_is : (decls : List MapDecl) (q : ℕ) (d : MapDecl) → slice_get decls q ≡ Some d → (get_or decls q no_decl ≡ d) × (key_bytes decls q ≡ d.key) × (kinds.value_bytes decls q ≡ d.value)
decl_is decls q d e = (get_or_from_slice_get decls q d no_decl e, ap key_in e, ap kinds.value_in e)
