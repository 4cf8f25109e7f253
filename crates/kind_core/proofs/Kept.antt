-- Descriptions that outlast changes of memory.
use Rattle.std.proofs.Common.{◌≡◌, ℕ, zero, suc, inl, inr, Bool, true, false, cond, refl, sym, ◌∙◌, subst, arith, Option, Some, None, List, [], ◌∷◌, length, get_or, set, slice_set, is_some, IsTrue}
use Rattle.std.specs.FinMap as map
use Rattle.std.specs.FinMap.{get-insert}
use Rattle.std.specs.Cmp.Lexicographic.{nat_list_cmp_total}
use Rattle.xdp_machine.specs.xdp_maps.Contents.{Contents}
use Rattle.xdp_machine.specs.xdp_maps.State.{MapState, contents_at, with_contents}
use Rattle.xdp_machine.specs.xdp_maps.Calls.{lookup_of, with_value}
use Rattle.xdp_machine.specs.Values.{Value}
use Rattle.xdp_machine.specs.Values as is
use Rattle.xdp_machine.specs.State.{Machine}
use Rattle.kind_core.specs.declared.kind.Kind.{Kind}
use Rattle.kind_core.specs.declared.kind.Kind.TheVariants.{Unset, Maybe, Entry}
use Rattle.kind_core.specs.declared.kind.Kinds.{Kinds}
use Rattle.kind_core.specs.Kinds.{with_slot}
use Rattle.kind_core.specs.Describes.{World, Describes, DescribesMachine}
use Rattle.kind_core.specs.Soundness.{Stands}
use Rattle.kind_core.proofs.SoundRegisters.{set_described}

-- a key that is there
abbrev pub Present : Contents → List ℕ → Type 0
Present c key = IsTrue (is_some (lookup_of c key))

-- the keys of all maps stay
pub record KeepsKeys (old new : MapState) : Type 0 where
  pub keys : (q : ℕ) (key : List ℕ) → Present (contents_at old q) key → Present (contents_at new q) key

pub kept_kind : (w : World) (old new : MapState) → KeepsKeys old new → (k : Kind) (v : Value) → Describes w old k v → Describes w new k v
kept_kind w old new h (Maybe q n) v (before, gave, inl z) = (before, gave, inl z)
kept_kind w old new h (Maybe q n) v (before, gave, inr (key, there, z)) = (before, gave, inr (key, h.keys q key there, z))
kept_kind w old new h (Entry q o) v (key, there, z) = (key, h.keys q key there, z)
kept_kind w old new h k v d = d

pub kept_machine : (w : World) (k : Kinds) (m : Machine) (maps : MapState) → KeepsKeys m.maps maps → DescribesMachine w k m → DescribesMachine w k (record m { maps = maps })
kept_machine w k m maps h d = record {
  registers = λ r. kept_kind w m.maps maps h (get_or k.registers r Unset) (get_or m.registers r is.Unset) (d.registers r);
  slots = λ s. kept_kind w m.maps maps h (get_or k.slots s Unset) (get_or m.stack s is.Unset) (d.slots s);
  checked = d.checked;
  frame = d.frame;
}

pub frame_machine : (w : World) (k : Kinds) (m : Machine) (frame : List ℕ) → length frame ≡ length m.frame → DescribesMachine w k m → DescribesMachine w k (record m { frame = frame })
frame_machine w k m frame e d = record { registers = d.registers; slots = d.slots; checked = omega (arith, d.checked); frame = e ∙ d.frame }

pub slot_machine : (w : World) (k : Kinds) (m : Machine) (s : ℕ) (x : Kind) (v : Value) → Stands w k m → Describes w m.maps x v
    → DescribesMachine w (with_slot k s x) (record m { stack = slice_set m.stack s v })
slot_machine w k m s x v st h = record {
  registers = st.described.registers;
  slots = set_described w m.maps k.slots m.stack s x v st.slots st.described.slots h;
  checked = st.described.checked;
  frame = st.described.frame;
}

-- one map is changed
set_kept : (P : Contents → Type 0) (xs : List Contents) (q p : ℕ) (c : Contents) → (P (get_or xs q map.empty) → P c) → P (get_or xs p map.empty) → P (get_or (set xs q c) p map.empty)
set_kept P [] q p c h d = d
set_kept P (x ∷ xs) zero zero c h d = h d
set_kept P (x ∷ xs) zero (suc p) c h d = d
set_kept P (x ∷ xs) (suc q) zero c h d = d
set_kept P (x ∷ xs) (suc q) (suc p) c h d = set_kept P xs q p c h d

pub map_kept : (maps : MapState) (q : ℕ) (c : Contents) → ((key : List ℕ) → Present (contents_at maps q) key → Present c key) → KeepsKeys maps (with_contents maps q c)
map_kept maps q c h = record { keys = λ p key there. set_kept (λ x. Present x key) maps.contents q p c (h key) there }

some_choice : {A : Type 0} (t : Bool) (v : A) (o : Option A) → IsTrue (is_some o) → IsTrue (is_some (cond t (Some v) o))
some_choice true v o h = refl
some_choice false v o h = h

pub insert_keeps : (c : Contents) (key value other : List ℕ) → Present c other → Present (map.insert c key value) other
insert_keeps c key value other h = subst (λ o. IsTrue (is_some o)) (sym (get-insert nat_list_cmp_total c key value other)) (some_choice _ value (map.get c other) h)

-- a value that is made anew keeps the keys
pub with_value_keeps : (c : Contents) (key : List ℕ) (f : List ℕ → List ℕ) (o : Option (List ℕ)) (other : List ℕ) → Present c other → Present (with_value c key f o) other
with_value_keeps c key f None other h = h
with_value_keeps c key f (Some v) other h = insert_keeps c key (f v) other h
