-- The parts of a program, one after the other.
use Rattle.std.proofs.Common.{◌≡◌, ◌≢◌, ℕ, ◌+◌, ◌*◌, ◌<◌, ◌≤◌, true, false, List, [], ◌∷◌, length, get_or, take, inl, inr, sym, ap, ◌∙◌, arith}
use Rattle.std.proofs.lemmas.Slice.Eq.{bytes_eq-Decides}
use Rattle.std.specs.List.{AllPairs}
use Rattle.std.specs.Str.{bytes_eq}
use Rattle.std.proofs.lemmas.Bool.{cases_lt}
use Rattle.std.proofs.lemmas.List.{get_or-take, get_or_default, length-take-le, take_more}
use Rattle.bpf_isa.specs.declared.operation.Op.{Op}
use Rattle.bpf_isa.specs.declared.operation.Op.TheVariants.{LoadImm}
use Rattle.bpf_isa.specs.declared.instruction.Insn.{Insn}
use Rattle.bpf_isa.specs.Spelling.{units_of}
use Rattle.bpf_isa.specs.Text.{unit_count}
use Rattle.bpf_isa.proofs.TextLaws.{unit_count-append}
use Rattle.xdp_maps.specs.declared.decl.MapDecl.{MapDecl}
use Rattle.xdp_object.specs.Maps.{IsNameIn}

front_short : (ds : List MapDecl) (i : ℕ) → i < length ds → length (take i ds) ≡ i
front_short ds i lt = length-take-le i ds (omega (arith, lt))

-- a name that one before it has
pub name_taken : (ds : List MapDecl) (i : ℕ) (e : MapDecl) (name : List ℕ) → i < length ds → name ≡ (get_or ds i e).name → IsNameIn (take i ds) name
    → ¬ AllPairs (λ a b. a.name ≢ b.name) ds
name_taken ds i e name lt named (k, below, same) pairs =
    let before : k < i = omega (arith, below, front_short ds i lt) in
    pairs k i e before lt (ap (λ (d : MapDecl). d.name) (sym (get_or-take i ds k e before)) ∙ same e ∙ named)

-- and one that none before it has
pub name_free : (ds : List MapDecl) (i : ℕ) (e : MapDecl) (name : List ℕ) → i < length ds → name ≡ (get_or ds i e).name → ¬ IsNameIn (take i ds) name
    → ((j k : ℕ) (d : MapDecl) → j < k → k < i → (get_or ds j d).name ≢ (get_or ds k d).name)
    → (j k : ℕ) (d : MapDecl) → j < k → k < i + 1 → (get_or ds j d).name ≢ (get_or ds k d).name
name_free ds i e name lt named free before j k d up below same = elim (cases_lt k i) [
  | inl earlier ↦ before j k d up earlier same
  | inr last ↦
      let here : k ≡ i = omega (arith, below, last) in
      let in_front : j < i = omega (arith, up, here) in
      let at_end : get_or ds k d ≡ get_or ds i e = ap (λ n. get_or ds n d) here ∙ get_or_default ds i d e lt in
      free (
        j,
        omega (arith, in_front, front_short ds i lt),
        λ x.
            ap (λ (y : MapDecl). y.name) (get_or-take i ds j x in_front ∙ get_or_default ds j x d (omega (arith, in_front, lt)))
            ∙ same ∙ ap (λ (y : MapDecl). y.name) at_end ∙ sym named,
      )
]

units_few : (op : Op) → units_of op ≤ 2
units_few LoadImm = omega arith
units_few op = omega arith

-- the units of one more instruction
pub record Counted (is : List Insn) (n sum : ℕ) : Type 0 where
  pub units : sum ≡ unit_count (take n is)
  pub few : sum ≤ 2 * n

pub counted_more : (is : List Insn) (n : ℕ) (d : Insn) (units more : ℕ) → n < length is → Counted is n units → more ≡ units_of (get_or is n d).op → Counted is (n + 1) (units + more)
counted_more is n d units more lt so_far e = record {
  units = ap (λ u. units + u) e ∙ ap (λ u. u + units_of (get_or is n d).op) so_far.units
      ∙ sym (ap unit_count (take_more is n d lt) ∙ unit_count-append (take n is) (get_or is n d ∷ []) ∙ omega arith);
  few = omega (arith, so_far.few, units_few (get_or is n d).op);
}

-- one more declaration that has another name
pub other_more : (ds : List MapDecl) (i : ℕ) (e : MapDecl) (name : List ℕ) → i < length ds → ((k : ℕ) (d : MapDecl) → k < i → (get_or ds k d).name ≢ name)
    → bytes_eq (get_or ds i e).name name ≡ false → (k : ℕ) (d : MapDecl) → k < i + 1 → (get_or ds k d).name ≢ name
other_more ds i e name lt before other k d below same = elim (cases_lt k i) [
  | inl earlier ↦ before k d earlier same
  | inr last ↦
      let here : k ≡ i = omega (arith, below, last) in
      let at_end : get_or ds i e ≡ get_or ds k d = get_or_default ds i e d lt ∙ ap (λ n. get_or ds n d) (sym here) in
      let yes : bytes_eq (get_or ds i e).name name ≡ true = (bytes_eq-Decides (get_or ds i e).name name).1 (ap (λ (x : MapDecl). x.name) at_end ∙ same) in
      absurd (cc (yes, other))
]
