-- Pointers to entries that a change may have taken away.
use Rattle.std.proofs.Common.{◌≡◌, ℕ, ℤ, zero, suc, ◌==◌, if◌then◌else◌, Bool, true, false, List, [], ◌∷◌, get_or, map as map_list, slice_index, refl, ◌∙◌, ap}
use Rattle.cell_core.specs.xdp_maps.declared.decl.MapDecl.{MapDecl}
use Rattle.cell_core.specs.xdp_machine.Values.{Value}
use Rattle.cell_core.specs.xdp_machine.State.{Machine, PacketIn}
use Rattle.kind_core.specs.declared.number.Number.{Number}
use Rattle.kind_core.specs.NumberBounds.{any_number}
use Rattle.kind_core.specs.declared.kind.Kind.{Kind}
use Rattle.kind_core.specs.declared.kind.Kind.TheVariants.{Unset, Num, Packet, Var, End, Stack, Ctx, MapRef, Maybe, Entry, Stale, Mixed}
use Rattle.kind_core.specs.declared.base.Base.{Base}
use Rattle.kind_core.specs.declared.kind.Kinds.{Kinds}
use Rattle.kind_core.specs.Kinds.{answering, is_hash}
use Rattle.kind_core.specs.Calls as calls
use Rattle.kind_core.specs.Edges.{changed}
use Rattle.operator_cells.specs.declared.held_cells.machine_cells.RegisterCells.{RegisterCells}
use Rattle.operator_cells.specs.HeldCells.RegisterCells.{PointerView, Holds, Counts, AreHeld, AreInside}

abbrev pub stale : ℕ → Kind → Kind
stale q (Maybe p n) = if p == q then Stale else Maybe p n
stale q (Entry p o) = if p == q then Stale else Entry p o
stale q x = x

abbrev pub stale_all : ℕ → Kinds → Kinds
stale_all q k = record k { registers = map_list (stale q) k.registers; slots = map_list (stale q) k.slots }

pointwise : {f g : Kind → Kind} → ((x : Kind) → f x ≡ g x) → (xs : List Kind) → map_list f xs ≡ map_list g xs
pointwise h [] = refl
pointwise {f} {g} h (x ∷ xs) = ap (λ (y : Kind). y ∷ map_list f xs) (h x) ∙ ap (λ (ys : List Kind). g x ∷ ys) (pointwise h xs)

both : (k : Kinds) (rs qs ss ts : List Kind) → rs ≡ qs → ss ≡ ts → ◌≡◌ {A = Kinds} (record k { registers = rs; slots = ss }) (record k { registers = qs; slots = ts })
both k rs qs ss ts e f = rw (e, f) refl

-- a refinement by what becomes of each kind
stale_is : (f : Kind → Kind) (q : ℕ) → f Unset ≡ Unset → ((n : Number) → f (Num n) ≡ Num n) → ((o : ℕ) → f (Packet o) ≡ Packet o) → ((b : Base) (z : ℤ) → f (Var b z) ≡ Var b z) → f End ≡ End → ((o : ℤ) → f (Stack o) ≡ Stack o) → f Ctx ≡ Ctx
    → ((p : ℕ) → f (MapRef p) ≡ MapRef p) → ((p n : ℕ) → f (Maybe p n) ≡ stale q (Maybe p n)) → ((p o : ℕ) → f (Entry p o) ≡ stale q (Entry p o)) → f Stale ≡ Stale → f Mixed ≡ Mixed
    → (x : Kind) → f x ≡ stale q x
stale_is f q a b c v d e g h i j l k Unset = a
stale_is f q a b c v d e g h i j l k (Num n) = b n
stale_is f q a b c v d e g h i j l k (Packet o) = c o
stale_is f q a b c v d e g h i j l k (Var x z) = v x z
stale_is f q a b c v d e g h i j l k End = d
stale_is f q a b c v d e g h i j l k (Stack o) = e o
stale_is f q a b c v d e g h i j l k Ctx = g
stale_is f q a b c v d e g h i j l k (MapRef p) = h p
stale_is f q a b c v d e g h i j l k (Maybe p n) = i p n
stale_is f q a b c v d e g h i j l k (Entry p o) = j p o
stale_is f q a b c v d e g h i j l k Stale = l
stale_is f q a b c v d e g h i j l k Mixed = k

stale_kinds : (f : Kind → Kind) (q : ℕ) (k : Kinds) → f Unset ≡ Unset → ((n : Number) → f (Num n) ≡ Num n) → ((o : ℕ) → f (Packet o) ≡ Packet o) → ((b : Base) (z : ℤ) → f (Var b z) ≡ Var b z) → f End ≡ End → ((o : ℤ) → f (Stack o) ≡ Stack o) → f Ctx ≡ Ctx
    → ((p : ℕ) → f (MapRef p) ≡ MapRef p) → ((p n : ℕ) → f (Maybe p n) ≡ stale q (Maybe p n)) → ((p o : ℕ) → f (Entry p o) ≡ stale q (Entry p o)) → f Stale ≡ Stale → f Mixed ≡ Mixed
    → ◌≡◌ {A = Kinds} (record k { registers = map_list f k.registers; slots = map_list f k.slots }) (stale_all q k)
stale_kinds f q k a b c v d e g h i j l m =
    both k _ _ _ _ (pointwise {f = f} {g = stale q} (stale_is f q a b c v d e g h i j l m) k.registers) (pointwise {f = f} {g = stale q} (stale_is f q a b c v d e g h i j l m) k.slots)

pub hash_becomes : (decls : List MapDecl) (q node : ℕ) (is_ref taken : Bool) (k : Kinds) → is_hash decls q ≡ true → changed node is_ref taken k (calls.change_of decls q) ≡ stale_all q (answering (Num (any_number 64)) k)
hash_becomes decls q node is_ref taken k e =
    rw e (stale_kinds _ q (answering (Num (any_number 64)) k) refl (λ n. refl) (λ o. refl) (λ b z. refl) refl (λ o. refl) refl (λ p. refl) (λ p n. refl) (λ p o. refl) refl refl)

pub becomes : (decls : List MapDecl) (q node : ℕ) (is_ref taken : Bool) (k : Kinds) → changed node is_ref taken k (calls.change_of decls q) ≡ (if is_hash decls q then stale_all q (answering (Num (any_number 64)) k) else answering (Num (any_number 64)) k)
becomes decls q node is_ref taken k = by (is_hash decls q) refl
  where
    by : (t : Bool) → is_hash decls q ≡ t → changed node is_ref taken k (calls.change_of decls q) ≡ (if t then stale_all q (answering (Num (any_number 64)) k) else answering (Num (any_number 64)) k)
    by true e = hash_becomes decls q node is_ref taken k e
    by false e = rw e refl

pub stale_at : (q : ℕ) (xs : List Kind) (r : ℕ) → get_or (map_list (stale q) xs) r Unset ≡ stale q (get_or xs r Unset)
stale_at q [] r = refl
stale_at q (x ∷ xs) zero = refl
stale_at q (x ∷ xs) (suc r) = stale_at q xs r

counts_stale : (decls : List MapDecl) (n : ℕ) (ps : List PointerView) (q : ℕ) (x : Kind) (c : ℕ) → Counts decls n ps x c → Counts decls n ps (stale q x) c
counts_stale decls n ps q (Maybe p j) c h = by (p == q)
  where
    by : (t : Bool) → Counts decls n ps (if t then Stale else Maybe p j) c
    by true = tt
    by false = h
counts_stale decls n ps q (Entry p o) c h = by (p == q)
  where
    by : (t : Bool) → Counts decls n ps (if t then Stale else Entry p o) c
    by true = tt
    by false = h
counts_stale decls n ps q x c h = h

holds_stale : (decls : List MapDecl) (v : ℕ → ℕ) (ps : List PointerView) (q : ℕ) (x : Kind) (c : ℕ) (y : Value) → Holds decls v ps x c y → Holds decls v ps (stale q x) c y
holds_stale decls v ps q (Maybe p j) c y h = by (p == q)
  where
    by : (t : Bool) → Holds decls v ps (if t then Stale else Maybe p j) c y
    by true = tt
    by false = h
holds_stale decls v ps q (Entry p o) c y h = by (p == q)
  where
    by : (t : Bool) → Holds decls v ps (if t then Stale else Entry p o) c y
    by true = tt
    by false = h
holds_stale decls v ps q x c y h = h

pub changed_inside : (decls : List MapDecl) (n : ℕ) (ps : List PointerView) (h : RegisterCells) (q node : ℕ) (is_ref taken : Bool) (k : Kinds) → AreInside decls n ps h (answering (Num (any_number 64)) k)
    → AreInside decls n ps h (changed node is_ref taken k (calls.change_of decls q))
changed_inside decls n ps h q node is_ref taken k i = rw (becomes decls q node is_ref taken k) (by (is_hash decls q))
  where
    all : Kinds
    all = answering (Num (any_number 64)) k

    by : (t : Bool) → AreInside decls n ps h (if t then stale_all q all else all)
    by true = record {
      registers = λ r l. rw (stale_at q all.registers r) (counts_stale decls n ps q (get_or all.registers r Unset) (slice_index h.registers r) (i.registers r l));
      slots = λ s l. rw (stale_at q all.slots s) (counts_stale decls n ps q (get_or all.slots s Unset) (slice_index h.slots s) (i.slots s l));
      window = i.window;
      target = i.target;
      offsets = i.offsets;
    }
    by false = i

pub changed_held : (decls : List MapDecl) (packet : PacketIn) (v : ℕ → ℕ) (ps : List PointerView) (h : RegisterCells) (q node : ℕ) (is_ref taken : Bool) (k : Kinds) (m : Machine) → AreHeld decls packet v ps h (answering (Num (any_number 64)) k) m
    → AreHeld decls packet v ps h (changed node is_ref taken k (calls.change_of decls q)) m
changed_held decls packet v ps h q node is_ref taken k m i = rw (becomes decls q node is_ref taken k) (by (is_hash decls q))
  where
    all : Kinds
    all = answering (Num (any_number 64)) k

    by : (t : Bool) → AreHeld decls packet v ps h (if t then stale_all q all else all) m
    by true = record {
      registers = λ r l. rw (stale_at q all.registers r) (holds_stale decls v ps q (get_or all.registers r Unset) _ _ (i.registers r l));
      slots = λ s l. rw (stale_at q all.slots s) (holds_stale decls v ps q (get_or all.slots s Unset) _ _ (i.slots s l));
      length_is = i.length_is;
      window = i.window;
      rest = i.rest;
      target = i.target;
      ifindex = i.ifindex;
      time = i.time;
    }
    by false = i
