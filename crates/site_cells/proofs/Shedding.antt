-- What an operation on a map leaves of kinds: one register gets a value, and other registers and slots keep what they have, or have no data any more.
use Rattle.std.proofs.Common.{◌≡◌, ◌≢◌, ℕ, zero, suc, ◌+◌, ◌-◌, ◌<◌, ◌≤◌, ◌⊎◌, inl, inr, ◌==◌, if◌then◌else◌, Bool, true, false, List, length, get_or, refl, sym, ◌∙◌, ap, subst, arith}
use Rattle.std.proofs.lemmas.List.{get_or-drop, get_or-set_same, get_or-set_other}
use Rattle.cell_core.specs.xdp_maps.declared.decl.MapDecl.{MapDecl}
use Rattle.kind_core.specs.NumberBounds.{any_number}
use Rattle.kind_core.specs.declared.kind.Kind.{Kind}
use Rattle.kind_core.specs.declared.kind.Kind.TheVariants.{Unset, Num, Maybe, Entry, Stale}
use Rattle.kind_core.specs.declared.kind.Kinds.{Kinds}
use Rattle.kind_core.specs.Kinds.{register, with_register, answering, is_hash}
use Rattle.kind_core.specs.Calls as calls
use Rattle.kind_core.specs.Edges.{changed}
use Rattle.operator_cells.specs.declared.held_cells.machine_cells.RegisterCells.{RegisterCells}
use Rattle.operator_cells.specs.HeldCells.Rows.{kind_at, number_at, kind_by, number_by}
use Rattle.operator_cells.proofs.HeldCells.RowLaws.{put_register}
use Rattle.site_cells.proofs.Stale.{stale, stale_all, stale_at, becomes}
use Rattle.operator_cells.specs.row_rules.declared.place_rows.location.Location.{Location}
use Rattle.operator_cells.specs.row_rules.declared.place_rows.location.Location.TheVariants as location
use Rattle.operator_cells.specs.row_rules.PlaceRows.Locations.{location_at, IsLocation}
use Rattle.operator_cells.proofs.row_rules_laws.PlaceRows.LocationLaws.{at_number, numbered_as, location_there}

-- a kind that is the same, or has no data
abbrev pub IsBare : Kind → Type 0
IsBare Unset = Unit {0}
IsBare Stale = Unit {0}
IsBare x = ⊥

abbrev pub IsLess : Kind → Kind → Type 0
IsLess a b = (b ≡ a) ⊎ IsBare b

less_then : (a b c : Kind) → IsLess a b → IsLess b c → IsLess a c
less_then a b c l (inr bare) = inr bare
less_then a b c (inl e) (inl f) = inl (f ∙ e)
less_then a b c (inr bare) (inl f) = inr (subst IsBare (sym f) bare)

pub record Sheds (k after : Kinds) (r : ℕ) (x : Kind) : Type 0 where
  pub answer : register after r ≡ x
  pub registers : (s : ℕ) → s < 11 → s ≢ r → IsLess (register k s) (register after s)
  pub slots : (s : ℕ) → s < 64 → IsLess (get_or k.slots s Unset) (get_or after.slots s Unset)

-- ---- by data places
module _ (k after : Kinds) (r : ℕ) (x : Kind) (sheds : Sheds k after r x) where
  pub answer_kind : r ≤ 10 → kind_at after r ≡ x
  answer_kind l = let low : r < 11 = omega (arith, l) in ap (kind_by after) (at_number (location.Register r) low) ∙ sheds.answer

  pub shed_kind : (place : ℕ) → place ≢ r → IsLess (kind_at k place) (kind_at after place)
  shed_kind place other = by (location_at place) refl (location_there place)
    where
      by : (l : Location) → location_at place ≡ l → IsLocation l → IsLess (kind_by k l) (kind_by after l)
      by (location.Register s) e there = sheds.registers s there (λ same. other (numbered_as place (location.Register s) e ∙ same))
      by (location.StackSlot s) e there = sheds.slots s there
      by (location.PacketByte i) e there = inl refl
      by location.Target e there = inl refl
      by (location.PendingWrites q) e there = inl refl

pub number_put : (h : RegisterCells) (r c : ℕ) → r ≤ 10 → length h.registers ≡ 11 → number_at (put_register h r c) r ≡ c
number_put h r c l whole = let low : r < 11 = omega (arith, l) in ap (number_by (put_register h r c)) (at_number (location.Register r) low) ∙ get_or-set_same h.registers r c 0 (omega (arith, l, whole))

-- ---- a register alone
pub written_sheds : (k : Kinds) (r : ℕ) (x : Kind) → r ≤ 10 → length k.registers ≡ 11 → Sheds k (with_register k r x) r x
written_sheds k r x small whole = record {
  answer = get_or-set_same k.registers r x Unset (omega (arith, small, whole));
  registers = λ s l other. inl (get_or-set_other k.registers r s x Unset other);
  slots = λ s l. inl refl;
}

-- ---- the answer of a helper
pub answering_sheds : (k : Kinds) (x : Kind) → Sheds k (answering x k) 0 x
answering_sheds k x = record { answer = refl; registers = by; slots = λ s l. inl refl }
  where
    by : (r : ℕ) → r < 11 → r ≢ 0 → IsLess (register k r) (register (answering x k) r)
    by zero l other = absurd (other refl)
    by (suc zero) l other = inr tt
    by (suc (suc zero)) l other = inr tt
    by (suc (suc (suc zero))) l other = inr tt
    by (suc (suc (suc (suc zero)))) l other = inr tt
    by (suc (suc (suc (suc (suc zero))))) l other = inr tt
    by (suc (suc (suc (suc (suc (suc r)))))) l other =
        let e : 6 + r ≡ suc (suc (suc (suc (suc (suc r))))) = omega arith in
        inl (get_or-drop 6 k.registers r Unset ∙ ap (λ (j : ℕ). get_or k.registers j Unset) e)

-- ---- and that of a change
less_stale : (q : ℕ) (x : Kind) → IsLess x (stale q x)
less_stale q (Maybe p n) = by (p == q)
  where
    by : (t : Bool) → IsLess (Maybe p n) (if t then Stale else Maybe p n)
    by true = inr tt
    by false = inl refl
less_stale q (Entry p o) = by (p == q)
  where
    by : (t : Bool) → IsLess (Entry p o) (if t then Stale else Entry p o)
    by true = inr tt
    by false = inl refl
less_stale q x = inl refl

stale_sheds : (q : ℕ) (k after : Kinds) → Sheds k after 0 (Num (any_number 64)) → Sheds k (stale_all q after) 0 (Num (any_number 64))
stale_sheds q k after sheds = record {
  answer = stale_at q after.registers 0 ∙ ap (stale q) sheds.answer;
  registers = λ r l other. subst (IsLess (register k r)) (sym (stale_at q after.registers r)) (less_then _ _ _ (sheds.registers r l other) (less_stale q (register after r)));
  slots = λ s l. subst (IsLess (get_or k.slots s Unset)) (sym (stale_at q after.slots s)) (less_then _ _ _ (sheds.slots s l) (less_stale q (get_or after.slots s Unset)));
}

pub changed_sheds : (decls : List MapDecl) (q node : ℕ) (is_ref taken : Bool) (k : Kinds) → Sheds k (changed node is_ref taken k (calls.change_of decls q)) 0 (Num (any_number 64))
changed_sheds decls q node is_ref taken k = subst (λ (x : Kinds). Sheds k x 0 (Num (any_number 64))) (sym (becomes decls q node is_ref taken k)) (by (is_hash decls q))
  where
    all : Sheds k (answering (Num (any_number 64)) k) 0 (Num (any_number 64))
    all = answering_sheds k (Num (any_number 64))

    by : (t : Bool) → Sheds k (if t then stale_all q (answering (Num (any_number 64)) k) else answering (Num (any_number 64)) k) 0 (Num (any_number 64))
    by true = stale_sheds q k (answering (Num (any_number 64)) k) all
    by false = all
