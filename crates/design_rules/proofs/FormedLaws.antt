-- What a writer and a reader of texts ask of a well-formed design: its names, the places of nets' names, depths.
use Rattle.std.specs.Prelude.{◌≡◌, ◌≢◌, ◌⊎◌, ℕ, zero, suc, ◌+◌, ◌-◌, ◌<◌, ◌≤◌, if◌then◌else◌, Bool, true, false, ◌&&◌, List, [], ◌∷◌, length, take, count_by, IsTrue}
use Rattle.std.specs.Str.{bytes_eq}
use Rattle.std.specs.List.{list_any}
use Rattle.std.proofs.Common.{get_or, not, refl, sym, subst, ap, ◌∙◌, inl, inr, arith}
use Rattle.std.proofs.lemmas.Bool.{and_parts, or_parts, ltb-true, cases_lt}
use Rattle.std.proofs.lemmas.List.{get_or-take, take-take, get_or_default, get_or_past, length-take}
use Rattle.std.proofs.lemmas.List.Recursion.{is_count_by}
use Rattle.std.proofs.lemmas.Slice.Eq.{bytes_eq-Decides}
use Rattle.net_core.specs.declared.ports.TheConstants.{PORT_COUNT}
use Rattle.net_core.specs.declared.design.Declared.{Declared}
use Rattle.net_core.specs.declared.design.Declared.TheVariants as declared
use Rattle.net_core.specs.declared.tree.Net.{Net}
use Rattle.net_core.specs.declared.tree.Net.TheVariants.{Port, Register, Memory, Wire}
use Rattle.net_core.specs.declared.design.Port as port
use Rattle.net_core.specs.Nets.{TConst, RPlain, WireTree, Netlist}
use Rattle.net_core.specs.Ports.{port_names}
use Rattle.net_core.specs.Names.{is_register, is_memory, place_of, name_place}
use Rattle.design_rules.specs.FormedSyntax.{is_name}
use Rattle.design_rules.specs.FormedScope.{is_input, is_value, is_words, registers_of, memories_of}
use Rattle.design_rules.specs.Formed.{IsWellFormed, declared_place, wire_place}
use Rattle.design_rules.proofs.FormedItemLaws.{declared_kept, wire_kept, last_kept, negated}
use Rattle.design_rules.proofs.FormedWidthLaws.{pointwise_true, ports_listed}

bytes_same : (a b : List ℕ) → bytes_eq a b ≡ true → a ≡ b
bytes_same a b h = (bytes_eq-Decides a b).0 h

-- the first names are those of the ports
pub port_names_first : (d : Netlist) → IsWellFormed d → take (length port_names) d.names ≡ port_names
port_names_first d h = pointwise_true bytes_eq bytes_same (take (length port_names) d.names) port_names (last_kept d h).port_names

no_wire : WireTree
no_wire = record { width = 0; right = RPlain (TConst (record { width = 0; value = 0 })) }

-- a test at each number below another
abbrev each_below : (ℕ → Bool) → ℕ → Bool
each_below p zero = true
each_below p (suc n) = p n && each_below p n

each_at : (p : ℕ → Bool) (n k : ℕ) → each_below p n ≡ true → k < n → p k ≡ true
each_at p zero k h l = absurd (omega arith)
each_at p (suc n) k h l = go (each_at p n k (and_parts (p n) (each_below p n) h).1) (cases_lt k n)
  where
    go : (k < n → p k ≡ true) → (k < n) ⊎ (n ≤ k) → p k ≡ true
    go below (inl lower) = below lower
    go below (inr last) = let e : k ≡ n = omega arith in ap p e ∙ (and_parts (p n) (each_below p n) h).0

-- whether a name of a list is a name, and one that does not stand before
abbrev new_in : List (List ℕ) → ℕ → Bool
new_in names k = not (list_any (bytes_eq (get_or names k [])) (take k names))

ports_named : each_below (λ k. is_name (get_or port_names k [])) PORT_COUNT ≡ true
ports_named = refl

ports_new : each_below (new_in port_names) PORT_COUNT ≡ true
ports_new = refl

name_first : (d : Netlist) → IsWellFormed d → (k : ℕ) → k < PORT_COUNT → get_or d.names k [] ≡ get_or port_names k []
name_first d h k l = sym (get_or-take PORT_COUNT d.names k [] l) ∙ ap (λ names. get_or names k []) (port_names_first d h)

before_first : (d : Netlist) → IsWellFormed d → (k : ℕ) → k < PORT_COUNT → take k d.names ≡ take k port_names
before_first d h k l = sym (take-take k PORT_COUNT d.names (omega arith)) ∙ ap (take k) (port_names_first d h)

pub ports_counted : (d : Netlist) → IsWellFormed d → length d.ports ≡ PORT_COUNT
ports_counted d h = ap length (ports_listed d h)

-- a place of a name is a port's, a declaration's or a wire's
by_place : (d : Netlist) → IsWellFormed d → (P : ℕ → Type 0) → ((k : ℕ) → k < PORT_COUNT → P k) → ((k : ℕ) → k < length d.declared → P (declared_place d k)) → ((k : ℕ) → k < length d.wires → P (wire_place d k))
    → (place : ℕ) → place < length d.names → P place
by_place d h P ports declared wires place l = go (cases_lt place PORT_COUNT) (cases_lt place (PORT_COUNT + length d.declared))
  where
    go : (place < PORT_COUNT) ⊎ (PORT_COUNT ≤ place) → (place < PORT_COUNT + length d.declared) ⊎ (PORT_COUNT + length d.declared ≤ place) → P place
    go (inl p) q = ports place p
    go (inr p) (inl q) = let e : declared_place d (place - PORT_COUNT) ≡ place = omega (arith, ports_counted d h) in subst P e (declared (place - PORT_COUNT) (omega arith))
    go (inr p) (inr q) = let e : wire_place d (place - (PORT_COUNT + length d.declared)) ≡ place = omega (arith, ports_counted d h) in
        subst P e (wires (place - (PORT_COUNT + length d.declared)) (omega (arith, l, ports_counted d h, (last_kept d h).names)))

-- each name is one of the grammar
pub name_spelled : (d : Netlist) → IsWellFormed d → (place : ℕ) → place < length d.names → IsTrue (is_name (get_or d.names place []))
name_spelled d h = by_place d h (λ place. is_name (get_or d.names place []) ≡ true)
    (λ k l. ap is_name (name_first d h k l) ∙ each_at (λ n. is_name (get_or port_names n [])) PORT_COUNT k ports_named l)
    (λ k l. (declared_kept d h k (get_or d.declared k declared.Integer) l (get_or_default d.declared k declared.Integer _ l)).name)
    (λ k l. (wire_kept d h k (get_or d.wires k no_wire) l (get_or_default d.wires k no_wire _ l)).name)

-- each name is new where it stands
name_new : (d : Netlist) → IsWellFormed d → (place : ℕ) → place < length d.names → new_in d.names place ≡ true
name_new d h = by_place d h (λ place. new_in d.names place ≡ true)
    (λ k l. ap (λ n. not (list_any (bytes_eq n) (take k d.names))) (name_first d h k l) ∙ ap (λ names. not (list_any (bytes_eq (get_or port_names k [])) names)) (before_first d h k l)
    ∙ each_at (new_in port_names) PORT_COUNT k ports_new l)
    (λ k l. (declared_kept d h k (get_or d.declared k declared.Integer) l (get_or_default d.declared k declared.Integer _ l)).new)
    (λ k l. (wire_kept d h k (get_or d.wires k no_wire) l (get_or_default d.wires k no_wire _ l)).new)

none_passes : {A : Type 0} (p : A → Bool) (xs : List A) → list_any p xs ≡ false → (i : ℕ) (d : A) → i < length xs → p (get_or xs i d) ≡ false
none_passes p [] h i d l = absurd (omega arith)
none_passes p (x ∷ xs) h zero d l = (or_parts (p x) (list_any p xs) h).0
none_passes p (x ∷ xs) h (suc i) d l = none_passes p xs (or_parts (p x) (list_any p xs) h).1 i d (omega arith)

-- no two names are the same
pub names_distinct : (d : Netlist) → IsWellFormed d → (i j : ℕ) → i < j → j < length d.names → get_or d.names i [] ≢ get_or d.names j []
names_distinct d h i j l m e =
    let f : bytes_eq (get_or d.names j []) (get_or (take j d.names) i []) ≡ false =
    none_passes (bytes_eq (get_or d.names j [])) (take j d.names) (negated (list_any (bytes_eq (get_or d.names j [])) (take j d.names)) (name_new d h j m)) i [] (omega (arith, length-take j d.names)) in
    let t : bytes_eq (get_or d.names j []) (get_or (take j d.names) i []) ≡ true = (bytes_eq-Decides _ _).1 (sym e ∙ sym (get_or-take j d.names i [] l)) in
    cc

-- the place of a number among those that pass
-- the number of those that pass, element by element
abbrev counted : (Declared → Bool) → List Declared → ℕ
counted p [] = 0
counted p (x ∷ xs) = if p x then 1 + counted p xs else counted p xs

counted_is : (p : Declared → Bool) (xs : List Declared) → counted p xs ≡ count_by p xs
counted_is p xs = is_count_by (counted p) p refl (λ x xs. refl) xs

place_zero : (b : Bool) (c m n : ℕ) → 0 < (if b then 1 + c else c) → (0 < c → m < n) → (if b then 0 else suc m) < suc n
place_zero true c m n h f = omega arith
place_zero false c m n h f = let l : m < n = f (omega arith) in omega arith

place_suc : (b : Bool) (c k n : ℕ) (place : ℕ → ℕ) → suc k < (if b then 1 + c else c) → ((m : ℕ) → m < c → place m < n) → suc (place (if b then k else suc k)) < suc n
place_suc true c k n place h f = let l : place k < n = f k (omega arith) in omega arith
place_suc false c k n place h f = let l : place (suc k) < n = f (suc k) (omega arith) in omega arith

place_of_counted : (p : Declared → Bool) (xs : List Declared) (k : ℕ) → k < counted p xs → place_of p xs k < length xs
place_of_counted p [] k h = absurd (omega arith)
place_of_counted p (x ∷ xs) zero h = place_zero (p x) (counted p xs) (place_of p xs 0) (length xs) h (place_of_counted p xs 0)
place_of_counted p (x ∷ xs) (suc k) h = place_suc (p x) (counted p xs) k (length xs) (place_of p xs) h (λ m. place_of_counted p xs m)

pub place_of_below : (p : Declared → Bool) (xs : List Declared) (k : ℕ) → k < count_by p xs → place_of p xs k < length xs
place_of_below p xs k h = place_of_counted p xs k (omega (arith, h, counted_is p xs))

input_there : (ports : List port.Port) (k : ℕ) → is_input ports k ≡ true → k < length ports
input_there ports zero h = cc
input_there ports (suc k) h = go (cases_lt (suc k) (length ports))
  where
    go : (suc k < length ports) ⊎ (length ports ≤ suc k) → suc k < length ports
    go (inl below) = below
    go (inr past) = let e = ap (λ q. not q.output) (get_or_past ports (suc k) (record { output = true; width = 0 }) past) in cc

-- the name of a net that can be read
pub value_named : (d : Netlist) → IsWellFormed d → (before : ℕ) (n : Net) → before ≤ length d.wires → IsTrue (is_value d before n) → name_place d n < length d.names
value_named d h before (Port k) l v = omega (arith, (last_kept d h).names, input_there d.ports k v)
value_named d h before (Register k) l v =
    omega (arith, (last_kept d h).names, place_of_below is_register d.declared k (ltb-true k (registers_of d) v))
value_named d h before (Memory k) l v = cc
value_named d h before (Wire k) l v = omega (arith, (last_kept d h).names, ltb-true k before v)

pub words_named : (d : Netlist) → IsWellFormed d → (n : Net) → IsTrue (is_words d n) → name_place d n < length d.names
words_named d h (Port k) v = cc
words_named d h (Register k) v = cc
words_named d h (Memory k) v = omega (arith, (last_kept d h).names, place_of_below is_memory d.declared k (ltb-true k (memories_of d) v))
words_named d h (Wire k) v = cc
