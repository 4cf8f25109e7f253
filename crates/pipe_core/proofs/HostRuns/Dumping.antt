-- The clocks of a dump, clock by clock and map by map.
use Rattle.std.proofs.Common.{◌≡◌, ℕ, zero, suc, ◌+◌, ◌*◌, ◌%◌, ◌^◌, ◌<◌, ◌≤◌, Bool, true, false, Option, Some, None, List, [], ◌∷◌, ◌++◌, length, take, drop, get_or, refl, sym, ◌∙◌, ap, subst, arith, append_assoc, length-append}
use Rattle.std.specs.Prelude.{if◌then◌else◌, nat_lt, ◌&&◌, not, is_some, replicate, IfSome, map as map_list}
use Rattle.std.specs.List.{flat_map, range_with_len, AllByRecursion}
use Rattle.std.specs.FinMap as map
use Rattle.std.specs.Str.{bytes_eq}
use Rattle.std.proofs.Math.Nat.{suc-mul}
use Rattle.std.proofs.lemmas.Bool.{and_parts}
use Rattle.std.proofs.lemmas.Bool.Decides.{nat_tests}
use Rattle.std.proofs.lemmas.List.{get_or_at, take_at, drop_at, length-map, map-append, get_or-map}
use Rattle.std.proofs.lemmas.List.FromFn.{length-range_with_len, fill_by_all}
use Rattle.std.proofs.lemmas.Slice.Eq.{bytes_eq-Decides}
use Rattle.realization.specs.beat_core.declared.answer.Answer.{Answer}
use Rattle.realization.specs.beat_core.Ports.{Arrival}
use Rattle.hazard_core.specs.xdp_maps.declared.decl.MapKind.{MapKind}
use Rattle.hazard_core.specs.xdp_maps.declared.decl.MapKind.TheVariants.{Hash, Array}
use Rattle.hazard_core.specs.xdp_maps.declared.decl.MapDecl.{MapDecl}
use Rattle.hazard_core.specs.xdp_maps.Contents.{Contents, IsBytes, IsOver, index_key}
use Rattle.hazard_core.specs.xdp_maps.State.{no_decl}
use Rattle.realization.specs.net_core.declared.ports.Inputs.{Inputs}
use Rattle.hazard_core.specs.declared.access.Word.TheVariants.{Nothing}
use Rattle.hazard_core.specs.declared.slot.Slot.{Slot}
use Rattle.hazard_core.specs.Tables.{TableState, no_slot, table_at, slot_at, decl_of, has_key, maps_of}
use Rattle.hazard_core.specs.Tables as table
use Rattle.hazard_core.specs.Tabled.{AreTables, IsTable, IsFilledTable}
use Rattle.hazard_core.specs.Commits.{word_as, shown_word, shown_to_host}
use Rattle.realization.specs.HostHistory.Rows.{row_length, contents_of, contents_as}
use Rattle.realization.specs.HostHistory.Host.{asked, map_reads, reads, dump, cut_in_rows, dumped}
use Rattle.pipe_core.specs.Machine.{Packet, State, Build, clock, output, inside}
use Rattle.pipe_core.specs.HostRuns.Inputs.{access_in, input_of}
use Rattle.pipe_core.specs.HostRuns.Runs.{after, outputs, shown_words}
use Rattle.pipe_core.specs.HostRuns.Dumps.{HoldValues, HoldSoundValues, DumpsMaps}
use Rattle.pipe_core.proofs.HostRuns.Clocks.{resting, reading, clock_reads, output_reads}
use Rattle.pipe_core.proofs.HostRuns.Reading.{same_map, shown_row, HoldBytes, hash_back, IsIndexed, array_back, first_found}

-- ---- clocks in which the host reads

abbrev IsAsked : Inputs → Type 0
IsAsked i = i ≡ asked i.host_map i.host_index i.host_word

all_append : (xs ys : List Inputs) → AllByRecursion IsAsked xs → AllByRecursion IsAsked ys → AllByRecursion IsAsked (xs ++ ys)
all_append [] ys h g = g
all_append (x ∷ xs) ys h g = (h.0, all_append xs ys h.1 g)

all_asked : (m i : ℕ) (words : List ℕ) → AllByRecursion IsAsked (map_list (asked m i) words)
all_asked m i [] = tt
all_asked m i (w ∷ words) = (refl, all_asked m i words)

row_asked : (m : ℕ) (d : MapDecl) (indexes : List ℕ) → AllByRecursion IsAsked (flat_map (λ i. map_list (asked m i) (range_with_len 0 (row_length d))) indexes)
row_asked m d [] = tt
row_asked m d (i ∷ indexes) = all_append (map_list (asked m i) (range_with_len 0 (row_length d))) _ (all_asked m i (range_with_len 0 (row_length d))) (row_asked m d indexes)

reads_asked : (m : ℕ) (ds : List MapDecl) → AllByRecursion IsAsked (reads m ds)
reads_asked m [] = tt
reads_asked m (d ∷ ds) = all_append (map_reads m d) (reads (m + 1) ds) (row_asked m d (range_with_len 0 d.cap)) (reads_asked (m + 1) ds)

abbrev shown_in : TableState → Inputs → ℕ
shown_in t i = shown_to_host t (access_in i)

record ShowsAll (b : Build) (is : List Inputs) (s : State) : Type 0 where
  shown : shown_words (outputs b is s) ≡ map_list (shown_in s.tables) is
  stays : (after b is s).tables ≡ s.tables

shows_all : (b : Build) (is : List Inputs) → AllByRecursion IsAsked is → (t : TableState) (pos n done : ℕ) (taken : List ℕ) (passed : ℕ) → ShowsAll b is (resting t pos n done taken passed)
shows_all b [] h t pos n done taken passed = record { shown = refl; stays = refl }
shows_all b (i ∷ is) h t pos n done taken passed =
    let more = shows_all b is h.1 t pos n 0 taken (passed % 2 ^ 32) in
    let s = resting t pos n done taken passed in
    let next : clock b (input_of i) s ≡ resting t pos n 0 taken (passed % 2 ^ 32) = ap (λ (x : Inputs). clock b (input_of x) s) h.0 ∙ clock_reads b i.host_map i.host_index i.host_word t pos n done taken passed in
    let word : (output b (input_of i) s).host_value ≡ shown_in t i =
    ap (λ (x : Inputs). (output b (input_of x) s).host_value) h.0 ∙ output_reads b i.host_map i.host_index i.host_word t pos n done taken passed ∙ ap (shown_in t) (sym h.0) in
    record {
      shown = ap (λ (u : State). (output b (input_of i) s).host_value ∷ shown_words (outputs b is u)) next ∙ ap (λ (w : ℕ). w ∷ shown_words (outputs b is (resting t pos n 0 taken (passed % 2 ^ 32)))) word ∙ ap (λ (ws : List ℕ). shown_in t i ∷ ws) more.shown;
      stays = ap (λ (u : State). (after b is u).tables) next ∙ more.stays;
    }

-- ---- the words, cut in rows

-- the words of an index of a map
abbrev row_at : TableState → ℕ → MapDecl → ℕ → List ℕ
row_at t m d i = map_list (λ w. shown_to_host t (reading m i w)) (range_with_len 0 (row_length d))

words_asked : (t : TableState) (m i : ℕ) (ws : List ℕ) → map_list (shown_in t) (map_list (asked m i) ws) ≡ map_list (λ w. shown_to_host t (reading m i w)) ws
words_asked t m i [] = refl
words_asked t m i (w ∷ ws) = ap (λ (xs : List ℕ). shown_to_host t (reading m i w) ∷ xs) (words_asked t m i ws)

map_words : (t : TableState) (m : ℕ) (d : MapDecl) (is : List ℕ) → map_list (shown_in t) (flat_map (λ i. map_list (asked m i) (range_with_len 0 (row_length d))) is) ≡ flat_map (row_at t m d) is
map_words t m d [] = refl
map_words t m d (i ∷ is) =
    map-append (shown_in t) (map_list (asked m i) (range_with_len 0 (row_length d))) (flat_map (λ k. map_list (asked m k) (range_with_len 0 (row_length d))) is)
    ∙ ap (λ (xs : List ℕ). xs ++ map_list (shown_in t) (flat_map (λ k. map_list (asked m k) (range_with_len 0 (row_length d))) is)) (words_asked t m i (range_with_len 0 (row_length d)))
    ∙ ap (λ (xs : List ℕ). row_at t m d i ++ xs) (map_words t m d is)

cut_rows : (g : ℕ → List ℕ) (n : ℕ) → ((i : ℕ) → length (g i) ≡ n) → (a k : ℕ) (more : List ℕ) → cut_in_rows k n (flat_map g (range_with_len a k) ++ more) ≡ map_list g (range_with_len a k)
cut_rows g n long a zero more = refl
cut_rows g n long a (suc k) more =
    ap (λ (xs : List ℕ). take n xs ∷ cut_in_rows k n (drop n xs)) (append_assoc (g a) (flat_map g (range_with_len (a + 1) k)) more)
    ∙ ap (λ (xs : List ℕ). xs ∷ cut_in_rows k n (drop n (g a ++ (flat_map g (range_with_len (a + 1) k) ++ more)))) (take_at (g a) (flat_map g (range_with_len (a + 1) k) ++ more) n (long a))
    ∙ ap (λ (xs : List ℕ). g a ∷ cut_in_rows k n xs) (drop_at (g a) (flat_map g (range_with_len (a + 1) k) ++ more) n (long a))
    ∙ ap (λ (xs : List (List ℕ)). g a ∷ xs) (cut_rows g n long (a + 1) k more)

rows_length : (g : ℕ → List ℕ) (n : ℕ) → ((i : ℕ) → length (g i) ≡ n) → (a k : ℕ) → length (flat_map g (range_with_len a k)) ≡ k * n
rows_length g n long a zero = omega arith
rows_length g n long a (suc k) =
    let more = rows_length g n long (a + 1) k in
    let product = suc-mul k n in
    omega (arith, more, product, long a, length-append (g a) (flat_map g (range_with_len (a + 1) k)))

-- ---- one map

record IsAt (t : TableState) (m : ℕ) (d : MapDecl) (slots : List Slot) : Type 0 where
  within : m < length t.decls
  decl : decl_of t.decls m ≡ d
  table : table_at t m ≡ slots

row_is : (t : TableState) (m : ℕ) (d : MapDecl) (slots : List Slot) → IsAt t m d slots → (i : ℕ) → i < length slots → row_at t m d i ≡ shown_row d (slot_at slots i)
row_is t m d slots at i l = same_map (λ w. shown_to_host t (reading m i w)) (λ w. shown_word (slot_at slots i) (word_as d.kind d w)) 0 (row_length d) (λ w g h. word w)
  where
    word : (w : ℕ) → shown_to_host t (reading m i w) ≡ shown_word (slot_at slots i) (word_as d.kind d w)
    word w =
        let known : nat_lt m (length t.decls) ≡ true = grind (arith, nat_tests, at.within) in
        let slot : nat_lt i (length slots) ≡ true = grind (arith, nat_tests, l) in
        ap (λ (xs : List Slot). shown_word (slot_at xs i) (if nat_lt m (length t.decls) && nat_lt i (length xs) then word_as (decl_of t.decls m).kind (decl_of t.decls m) w else Nothing)) at.table
        ∙ ap (λ (c : Bool). shown_word (slot_at slots i) (if c && nat_lt i (length slots) then word_as (decl_of t.decls m).kind (decl_of t.decls m) w else Nothing)) known
        ∙ ap (λ (c : Bool). shown_word (slot_at slots i) (if c then word_as (decl_of t.decls m).kind (decl_of t.decls m) w else Nothing)) slot
        ∙ ap (λ (e : MapDecl). shown_word (slot_at slots i) (word_as e.kind e w)) at.decl

map_twice : {A B : Type 0} (f : ℕ → A) (g : A → B) (xs : List ℕ) → map_list g (map_list f xs) ≡ map_list (λ i. g (f i)) xs
map_twice f g [] = refl
map_twice f g (x ∷ xs) = ap (λ ys. g (f x) ∷ ys) (map_twice f g xs)

rows_are : (t : TableState) (m : ℕ) (d : MapDecl) (slots : List Slot) → IsAt t m d slots → length slots ≡ d.cap → map_list (row_at t m d) (range_with_len 0 d.cap) ≡ map_list (shown_row d) slots
rows_are t m d slots at count =
    same_map (row_at t m d) (λ i. shown_row d (slot_at slots i)) 0 d.cap (λ i g h. row_is t m d slots at i (omega (arith, h, count)))
    ∙ sym (map_twice (slot_at slots) (shown_row d) (range_with_len 0 d.cap))
    ∙ ap (map_list (shown_row d)) (sym (fill_by_all (slot_at slots) slots d.cap no_slot count (λ k l. refl)))

back_as : (k : MapKind) (d : MapDecl) (slots : List Slot) → d.kind ≡ k → HoldBytes d slots → IsFilledTable k slots → contents_as k d (map_list (shown_row d) slots) ≡ table.contents_of slots
back_as Hash d slots kind h filled = hash_back d kind slots h
back_as Array d slots kind h filled = array_back d kind 0 slots (λ n l. at n l (and_parts (slot_at slots n).used (bytes_eq (slot_at slots n).key (index_key n)) (filled n l)))
  where
    at : (n : ℕ) → n < length slots → ((slot_at slots n).used ≡ true) × (bytes_eq (slot_at slots n).key (index_key n) ≡ true) → IsIndexed d (0 + n) (slot_at slots n)
    at n l p = record { used = p.0; key = (bytes_eq-Decides (slot_at slots n).key (index_key n)).0 p.1 ∙ ap index_key (omega arith); value = (h n l p.0).1 }

-- ---- all maps

all_back : (t : TableState) → AreTables t → HoldValues t → (first ds : List MapDecl) (before tables : List (List Slot)) (m : ℕ) → t.decls ≡ first ++ ds → t.tables ≡ before ++ tables → length first ≡ m → length before ≡ m → length tables ≡ length ds
    → dumped ds (map_list (shown_in t) (reads m ds)) ≡ map_list table.contents_of tables
all_back t are hold first [] before [] m e f long here beside = refl
all_back t are hold first [] before (slots ∷ tables) m e f long here beside = absurd (omega (arith, beside))
all_back t are hold first (d ∷ ds) before [] m e f long here beside = absurd (omega (arith, beside))
all_back t are hold first (d ∷ ds) before (slots ∷ tables) m e f long here beside =
    ap (λ (ws : List ℕ). dumped (d ∷ ds) ws) (map-append (shown_in t) (map_reads m d) (reads (m + 1) ds) ∙ ap (λ (ws : List ℕ). ws ++ more) (map_words t m d (range_with_len 0 d.cap)))
    ∙ ap (λ (rows : List (List ℕ)). contents_of d rows ∷ dumped ds (drop (d.cap * row_length d) (words ++ more))) (cut_rows (row_at t m d) (row_length d) row_long 0 d.cap more ∙ rows_are t m d slots at is.count)
    ∙ ap (λ (c : Contents). c ∷ dumped ds (drop (d.cap * row_length d) (words ++ more))) (back_as d.kind d slots refl bytes is.filled)
    ∙ ap (λ (ws : List ℕ). table.contents_of slots ∷ dumped ds ws) (drop_at words more (d.cap * row_length d) (rows_length (row_at t m d) (row_length d) row_long 0 d.cap))
    ∙ ap (λ (cs : List Contents). table.contents_of slots ∷ cs)
    (all_back t are hold (first ++ d ∷ []) ds (before ++ slots ∷ []) tables (m + 1)
    (e ∙ sym (append_assoc first (d ∷ []) ds)) (f ∙ sym (append_assoc before (slots ∷ []) tables))
    (omega (arith, long, length-append first (d ∷ []))) (omega (arith, here, length-append before (slots ∷ []))) (omega (arith, beside)))
  where
    words : List ℕ
    words = flat_map (row_at t m d) (range_with_len 0 d.cap)

    more : List ℕ
    more = map_list (shown_in t) (reads (m + 1) ds)

    row_long : (i : ℕ) → length (row_at t m d i) ≡ row_length d
    row_long i = length-map (range_with_len 0 (row_length d)) (λ w. shown_to_host t (reading m i w)) ∙ length-range_with_len 0 (row_length d)

    at : IsAt t m d slots
    at = record {
      within = omega (arith, long, ap length e, length-append first (d ∷ ds));
      decl = ap (λ (xs : List MapDecl). get_or xs m no_decl) e ∙ get_or_at first d ds no_decl m long;
      table = ap (λ (xs : List (List Slot)). get_or xs m []) f ∙ get_or_at before slots tables [] m here;
    }

    is : IsTable d slots
    is = subst (λ x. IsTable x slots) at.decl (subst (IsTable (decl_of t.decls m)) at.table (are.each m at.within))

    bytes : HoldBytes d slots
    bytes n l u =
        let lengths = subst (λ (x : List Slot). n < length x) (sym at.table) l in
        let used = subst (λ (x : List Slot). (slot_at x n).used ≡ true) (sym at.table) u in
        (is.keys n l u, subst (λ x. IsBytes x.value (slot_at slots n).value) at.decl (subst (λ (x : List Slot). IsBytes (decl_of t.decls m).value (slot_at x n).value) at.table (hold m n at.within lengths used)))

-- ---- a machine with nothing inside

nobody_in : (xs : List (Option Packet)) → inside xs ≡ 0 → xs ≡ replicate (length xs) None
nobody_in [] h = refl
nobody_in (None ∷ xs) h = ap (λ (ys : List (Option Packet)). None ∷ ys) (nobody_in xs h)
nobody_in (Some x ∷ xs) h = absurd (omega (arith, h))

state_as : (s : State) (p : Option Arrival) (given : List Answer) (fs : List Arrival) → s.part ≡ p → s.answers ≡ given → s.frames ≡ fs → not (is_some p) && nat_lt (length given + length fs) 1 ≡ true → inside s.places ≤ length fs
    → s ≡ resting s.tables s.pos (length s.places) s.done s.taken s.passed
state_as s (Some c) given fs pe ae fe h few = absurd cc
state_as s None [] [] pe ae fe h few =
    ap (λ (x : Option Arrival). record s { part = x }) pe
    ∙ ap (λ (x : List Answer). record s { part = None; answers = x }) ae
    ∙ ap (λ (x : List Arrival). record s { part = None; answers = []; frames = x }) fe
    ∙ ap (λ (x : List (Option Packet)). record s { part = None; answers = []; frames = []; places = x }) (nobody_in s.places (omega (arith, few)))
state_as s None [] (f ∷ fs) pe ae fe h few = absurd (grind (arith, nat_tests))
state_as s None (a ∷ given) fs pe ae fe h few = absurd (grind (arith, nat_tests))

pub dumps_maps : DumpsMaps
dumps_maps b s are hold idle few =
    let e = state_as s s.part s.answers s.frames refl refl refl idle few in
    let shows = subst (ShowsAll b (dump s.tables.decls)) (sym e) (shows_all b (dump s.tables.decls) (reads_asked 0 s.tables.decls) s.tables s.pos (length s.places) s.done s.taken s.passed) in
    record {
      shown = ap (dumped s.tables.decls) shows.shown ∙ all_back s.tables are hold [] s.tables.decls [] s.tables.tables 0 refl refl refl refl are.beside;
      stays = shows.stays;
    }

-- ---- values of used slots

pub hold_sound_values : HoldSoundValues
hold_sound_values t are sound m n within l used =
    let slots = table_at t m in
    let is = are.each m within in
    let key = (slot_at slots n).key in
    let own : bytes_eq key key ≡ true = (bytes_eq-Decides key key).1 refl in
    let here : has_key key (slot_at slots n) ≡ true = ap (λ (u : Bool). u && bytes_eq key key) used ∙ own in
    let found : map.get (table.contents_of slots) key ≡ Some (slot_at slots n).value = first_found slots key n l here (λ k less. other is key here k less (has_key key (slot_at slots k)) refl) in
    let over : IsOver (decl_of t.decls m) (table.contents_of slots) = subst (IsOver (decl_of t.decls m)) (get_or-map table.contents_of t.tables m [] map.empty (omega (arith, within, are.beside))) (sound.over m within) in
    subst (λ o. IfSome o (IsBytes (decl_of t.decls m).value)) found (over.values key)
  where
    other : IsTable (decl_of t.decls m) (table_at t m) → (key : List ℕ) → has_key key (slot_at (table_at t m) n) ≡ true → (k : ℕ) → k < n → (c : Bool) → has_key key (slot_at (table_at t m) k) ≡ c → c ≡ false
    other is key here k less false e = refl
    other is key here k less true e = let same = is.single key k n (omega (arith, less, l)) l e here in absurd (omega (arith, same, less))
