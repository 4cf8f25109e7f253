-- Symbols of maps, and the maps of one place after the other.
use Rattle.std.proofs.Common.{◌≡◌, ◌∙◌, ℕ, suc, ◌+◌, ◌-◌, ◌<◌, ◌++◌, true, List, [], ◌∷◌, length, map, append_assoc, Ok, Err, refl, sym, ap, arith}
use Rattle.std.proofs.lemmas.Bool.{ltb-true}
use Rattle.elf_view.specs.File.{e_shnum, entry_count, symbol_table}
use Rattle.xdp_object.specs.declared.error.ObjectError.{ObjectError}
use Rattle.xdp_object.specs.declared.relocated.Relocated.{Relocated}
use Rattle.xdp_object.specs.declared.relocated.Relocated.TheVariants.{Untouched, Refers, Unknown}
use Rattle.xdp_object.specs.Functions.{symbol_of}
use Rattle.xdp_object.specs.Maps.{MapTable, all_in_places, all_referred, carried, referred}
use Rattle.xdp_object.specs.Relocations.{Reference, is_map_symbol, reference_by, references_from, said_at}
use Rattle.xdp_object.proofs.Opened.{and_left, and_right}

-- ---- the symbol of a map

pub map_symbol_entry : (bytes : List ℕ) (n : ℕ) → is_map_symbol bytes n ≡ true → n < entry_count 24 (symbol_table bytes)
unfolding is_map_symbol
map_symbol_entry bytes n h = ltb-true n (entry_count 24 (symbol_table bytes)) (and_left _ _ (and_left _ _ (and_left _ _ h)))

pub map_symbol_section : (bytes : List ℕ) (n : ℕ) → is_map_symbol bytes n ≡ true → (symbol_of bytes n).section < e_shnum bytes
unfolding is_map_symbol
map_symbol_section bytes n h = ltb-true (symbol_of bytes n).section (e_shnum bytes) (and_right _ _ (and_left _ _ h))

-- ---- references, place by place

pub no_reference : (r : Relocated) → ((n : ℕ) → r ≡ Refers n → ⊥) → (place : ℕ) → reference_by place r ≡ []
no_reference Untouched never place = refl
no_reference (Refers n) never place = absurd (never n refl)
no_reference Unknown never place = refl

pub references-next : (places : List Relocated) (i : ℕ) → i < length places
    → references_from places i (length places - i) ≡ reference_by i (said_at places i) ++ references_from places (i + 1) (length places - (i + 1))
references-next places i h =
    let size : length places - i ≡ suc (length places - (i + 1)) = omega arith in
    let next : suc i ≡ i + 1 = omega arith in
    ap (references_from places i) size ∙ ap (λ k. reference_by i (said_at places i) ++ references_from places k (length places - (i + 1))) next

-- the places that refer to a map
pub referring_more : (places : List Relocated) (i n : ℕ) → i < length places → said_at places i ≡ Refers n
    → map (λ (r : Reference). r.place) (references_from places i (length places - i))
    ≡ i ∷ map (λ (r : Reference). r.place) (references_from places (i + 1) (length places - (i + 1)))
referring_more places i n h e =
    ap (map (λ (r : Reference). r.place)) (references-next places i h)
    ∙ ap (λ r. map (λ (s : Reference). s.place) (reference_by i r ++ references_from places (i + 1) (length places - (i + 1)))) e

pub referring_same : (places : List Relocated) (i : ℕ) → i < length places → ((n : ℕ) → said_at places i ≡ Refers n → ⊥)
    → map (λ (r : Reference). r.place) (references_from places i (length places - i))
    ≡ map (λ (r : Reference). r.place) (references_from places (i + 1) (length places - (i + 1)))
referring_same places i h never =
    ap (map (λ (r : Reference). r.place)) (references-next places i h)
    ∙ ap (λ rs. map (λ (s : Reference). s.place) (rs ++ references_from places (i + 1) (length places - (i + 1)))) (no_reference (said_at places i) never i)

-- the maps of all places
pub in_places-refers : (hash_cap : ℕ) (bytes : List ℕ) (t : MapTable) (places : List Relocated) (i n : ℕ) → i < length places → said_at places i ≡ Refers n
    → all_in_places hash_cap bytes t places i ≡ carried (referred hash_cap bytes t n) (λ u. all_in_places hash_cap bytes u places (i + 1))
in_places-refers hash_cap bytes t places i n h e =
    ap (all_referred hash_cap bytes t) (references-next places i h)
    ∙ ap (λ r. all_referred hash_cap bytes t (reference_by i r ++ references_from places (i + 1) (length places - (i + 1)))) e

pub in_places-same : (hash_cap : ℕ) (bytes : List ℕ) (t : MapTable) (places : List Relocated) (i : ℕ) → i < length places
    → ((n : ℕ) → said_at places i ≡ Refers n → ⊥)
    → all_in_places hash_cap bytes t places i ≡ all_in_places hash_cap bytes t places (i + 1)
in_places-same hash_cap bytes t places i h never =
    ap (all_referred hash_cap bytes t) (references-next places i h)
    ∙ ap (λ rs. all_referred hash_cap bytes t (rs ++ references_from places (i + 1) (length places - (i + 1)))) (no_reference (said_at places i) never i)

pub in_places-more : (hash_cap : ℕ) (bytes : List ℕ) (t u : MapTable) (places : List Relocated) (i n : ℕ) → i < length places → said_at places i ≡ Refers n
    → referred hash_cap bytes t n ≡ Ok u → all_in_places hash_cap bytes t places i ≡ all_in_places hash_cap bytes u places (i + 1)
in_places-more hash_cap bytes t u places i n h e ok =
    in_places-refers hash_cap bytes t places i n h e ∙ ap (λ r. carried r (λ v. all_in_places hash_cap bytes v places (i + 1))) ok

pub in_places-fault : (hash_cap : ℕ) (bytes : List ℕ) (t : MapTable) (places : List Relocated) (i n : ℕ) (error : ObjectError) → i < length places
    → said_at places i ≡ Refers n → referred hash_cap bytes t n ≡ Err error → all_in_places hash_cap bytes t places i ≡ Err error
in_places-fault hash_cap bytes t places i n error h e fault =
    in_places-refers hash_cap bytes t places i n h e ∙ ap (λ r. carried r (λ v. all_in_places hash_cap bytes v places (i + 1))) fault

-- one of those that are left, put after those so far
pub pushed_front : (new old later left all : List ℕ) (x : ℕ) → new ≡ old ++ x ∷ [] → left ≡ x ∷ later → old ++ left ≡ all → new ++ later ≡ all
pushed_front new old later left all x e f g =
    ap (λ xs. xs ++ later) e ∙ append_assoc old (x ∷ []) later ∙ ap (λ xs. old ++ xs) (sym f) ∙ g
