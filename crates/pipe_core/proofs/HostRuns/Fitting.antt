-- What the host writes and reads fits the ports.
use Rattle.std.proofs.Common.{◌≡◌, ℕ, zero, suc, ◌+◌, ◌-◌, ◌^◌, ◌<◌, ◌≤◌, Option, Some, None, List, [], ◌∷◌, ◌++◌, length, take, drop, get_or, refl, ◌∙◌, ap, subst, arith, length-take, length-append}
use Rattle.std.specs.Prelude.{replicate, map as map_list, unwrap_or, is_some, IfSome, slice_get}
use Rattle.std.specs.List.{flat_map, range_with_len, AllByRecursion}
use Rattle.std.specs.FinMap as map
use Rattle.std.specs.FinMap.{len-entries}
use Rattle.std.proofs.Math.Nat.{pow-le-pow_right}
use Rattle.std.proofs.lemmas.List.{length-map, length-replicate}
use Rattle.std.proofs.lemmas.List.FromFn.{length-map-range_with_len}
use Rattle.realization.specs.list_laws.Bytes.{IsBytes as AreBytes}
use Rattle.realization.proofs.list_laws_laws.ByteLaws.{IsBytes-take, IsBytes-drop}
use Rattle.realization.specs.beat_core.declared.beat.Beat.{Beat}
use Rattle.realization.specs.beat_core.Beats.{first_beats, beats_of, beat_count}
use Rattle.realization.proofs.beat_core_laws.WordLaws.{word_of-lt}
use Rattle.hazard_core.specs.xdp_maps.declared.decl.MapKind.{MapKind}
use Rattle.hazard_core.specs.xdp_maps.declared.decl.MapKind.TheVariants.{Hash, Array}
use Rattle.hazard_core.specs.xdp_maps.declared.decl.MapDecl.{MapDecl}
use Rattle.hazard_core.specs.xdp_maps.Calls.{entry_as}
use Rattle.hazard_core.specs.xdp_maps.Contents.{Contents, IsBytes, IsOver, IsWithinLimits, IsFilled_as, limits_as, index_key}
use Rattle.hazard_core.specs.xdp_maps.Laws.{PairLaws}
use Rattle.hazard_core.specs.xdp_maps.State.{no_decl}
use Rattle.hazard_core.proofs.xdp_maps_laws.LimitLaws.{few_slots}
use Rattle.realization.specs.net_core.declared.ports.Inputs.{Inputs}
use Rattle.realization.specs.HostHistory.Rows.{slot_of, words_of, rows_as, rows_of, row_length, row_length_as}
use Rattle.realization.specs.HostHistory.Host.{asked, written, row_writes, map_writes, writes, map_reads, reads}
use Rattle.realization.proofs.WordLaws.{length-words_of}
use Rattle.pipe_core.specs.HostRuns.Fits.{IsHostClock, LoadsFit}
use Rattle.pipe_core.proofs.HostRuns.Filling.{all_bytes}

abbrev Fit : List Inputs → Type 0
Fit is = AllByRecursion IsHostClock is

all_fit : (xs ys : List Inputs) → Fit xs → Fit ys → Fit (xs ++ ys)
all_fit [] ys h g = g
all_fit (x ∷ xs) ys h g = (h.0, all_fit xs ys h.1 g)

clock_fits : (m i w x : ℕ) → m < 16 → i < 65536 → w < 16 → x < 2 ^ 64 → IsHostClock (written m i w x)
clock_fits m i w x a b c e = record {
  fits = record {
    in_data = omega arith;
    in_bytes = omega arith;
    in_ifindex = omega arith;
    in_time = omega arith;
    host_map = omega (arith, a);
    host_index = omega (arith, b);
    host_word = omega (arith, c);
    host_data = e;
  };
  offers = refl;
  takes = refl;
}

read_fits : (m i w : ℕ) → m < 16 → i < 65536 → w < 16 → IsHostClock (asked m i w)
read_fits m i w a b c = record {
  fits = record {
    in_data = omega arith;
    in_bytes = omega arith;
    in_ifindex = omega arith;
    in_time = omega arith;
    host_map = omega (arith, a);
    host_index = omega (arith, b);
    host_word = omega (arith, c);
    host_data = omega arith;
  };
  offers = refl;
  takes = refl;
}

-- ---- words

abbrev AreWords : List ℕ → Type 0
AreWords words = AllByRecursion (λ x. x < 2 ^ 64) words

words_append : (xs ys : List ℕ) → AreWords xs → AreWords ys → AreWords (xs ++ ys)
words_append [] ys h g = g
words_append (x ∷ xs) ys h g = (h.0, words_append xs ys h.1 g)

words_fit : (xs : List ℕ) → AreBytes xs → AreWords (words_of xs)
unfolding beats_of first_beats
words_fit xs h = each (beat_count (length xs)) xs h
  where
    each : (n : ℕ) (ys : List ℕ) → AreBytes ys → AreWords (map_list (λ (b : Beat). b.word) (first_beats n ys))
    each zero ys h = tt
    each (suc n) ys h =
        let low = word_of-lt (take 8 ys) (IsBytes-take 8 ys h) in
        let short : length (take 8 ys) ≤ 8 = omega (arith, length-take 8 ys) in
        let most : 256 ^ length (take 8 ys) ≤ 256 ^ 8 = pow-le-pow_right {n = 256} (omega arith) short in
        (omega (arith, low, most), each n (drop 8 ys) (IsBytes-drop 8 ys h))

-- ---- rows

record RowFits (row : List ℕ) : Type 0 where
  short : length row ≤ 16
  words : AreWords row

row_fits : (m i w : ℕ) (words : List ℕ) → m < 16 → i < 65536 → w + length words ≤ 16 → AreWords words → Fit (row_writes m i w words)
row_fits m i w [] a b c h = tt
row_fits m i w (x ∷ words) a b c h = (clock_fits m i w x a b (omega (arith, c)) h.0, row_fits m i (w + 1) words a b (omega (arith, c)) h.1)

rows_fit : (m i : ℕ) (rows : List (List ℕ)) → m < 16 → i + length rows ≤ 65536 → AllByRecursion RowFits rows → Fit (map_writes m i rows)
rows_fit m i [] a b h = tt
rows_fit m i (r ∷ rows) a b h =
    all_fit (row_writes m i 0 r) (map_writes m (i + 1) rows)
    (row_fits m i 0 r a (omega (arith, b)) (omega (arith, h.0.short)) h.0.words)
    (rows_fit m (i + 1) rows a (omega (arith, b)) h.1)

value_fits : (d : MapDecl) → IsWithinLimits d → (v : List ℕ) → IsBytes d.value v → RowFits (words_of v)
value_fits d limits v h = record { short = omega (arith, length-words_of v, h.len, limits.value_short); words = words_fit v (all_bytes d.value v h) }

slot_fits : (d : MapDecl) → IsWithinLimits d → (key value : List ℕ) → IsBytes d.key key → IsBytes d.value value → RowFits (slot_of (key, value))
slot_fits d limits key value k v = record {
  short = omega (arith, length-append (words_of key) (words_of value), length-words_of key, length-words_of value, k.len, v.len, limits.key_short, limits.value_short);
  words = (omega arith, words_append (words_of key) (words_of value) (words_fit key (all_bytes d.key key k)) (words_fit value (all_bytes d.value value v)));
}

abbrev AreIn : MapDecl → List (List ℕ × List ℕ) → Type 0
AreIn d es = (i : ℕ) (key value : List ℕ) → slice_get es i ≡ Some (key, value) → IsBytes d.key key × IsBytes d.value value

slots_fit : (d : MapDecl) → IsWithinLimits d → (es : List (List ℕ × List ℕ)) (n : ℕ) → AreIn d es → AllByRecursion RowFits (map_list slot_of es ++ replicate n (0 ∷ []))
slots_fit d limits [] zero h = tt
slots_fit d limits [] (suc n) h = (record { short = omega arith; words = (omega arith, tt) }, slots_fit d limits [] n h)
slots_fit d limits (e ∷ es) n h =
    let b = h 0 e.0 e.1 refl in
    (slot_fits d limits e.0 e.1 b.0 b.1, slots_fit d limits es n (λ i key value g. h (suc i) key value g))

values_fit : (d : MapDecl) (c : Contents) → IsWithinLimits d → IsOver d c → (a n : ℕ) → AllByRecursion RowFits (map_list (λ i. words_of (unwrap_or (map.get c (index_key i)) [])) (range_with_len a n))
values_fit d c limits over a zero = tt
values_fit d c limits over a (suc n) = (one (map.get c (index_key a)) (over.values (index_key a)), values_fit d c limits over (a + 1) n)
  where
    one : (v : Option (List ℕ)) → IfSome v (IsBytes d.value) → RowFits (words_of (unwrap_or v []))
    one None h = record { short = omega (arith, length-words_of []); words = words_fit [] (λ i. omega arith) }
    one (Some v) h = value_fits d limits v h

-- ---- maps

record MapFits (rows : List (List ℕ)) : Type 0 where
  few : length rows ≤ 65536
  each : AllByRecursion RowFits rows

map_fits : (k : MapKind) (d : MapDecl) (c : Contents) → d.kind ≡ k → IsWithinLimits d → IsOver d c → PairLaws d c → MapFits (rows_as k d c)
map_fits Hash d c kind limits over pairs = record {
  few = omega (
    arith,
    few,
    subst (λ k. limits_as k d) kind limits.by_kind,
    len-entries c,
    length-append (map_list slot_of (map.entries c)) (replicate {A = List ℕ} (d.cap - map.len c) (0 ∷ [])),
    length-map (map.entries c) slot_of,
    length-replicate {A = List ℕ} (d.cap - map.len c) (0 ∷ []),
  );
  each = slots_fit d limits (map.entries c) (d.cap - map.len c) (λ i key value e. bytes key value (pairs.found i key value (ap (λ k. entry_as k c i) kind ∙ e)));
}
  where
    few : map.len c ≤ d.cap
    few = subst (λ k. IsFilled_as k d c) kind over.filled

    bytes : (key value : List ℕ) → map.get c key ≡ Some value → IsBytes d.key key × IsBytes d.value value
    bytes key value e = ((over.keys key (ap is_some e)).0, subst (λ o. IfSome o (IsBytes d.value)) e (over.values key))
map_fits Array d c kind limits over pairs =
    let sized : (d.key ≡ 4) × (d.cap ≤ 65536) = subst (λ k. limits_as k d) kind limits.by_kind in
    record {
      few = omega (arith, sized.1, length-map-range_with_len (λ i. words_of (unwrap_or (map.get c (index_key i)) [])) 0 d.cap);
      each = values_fit d c limits over 0 d.cap;
    }

loads_all : ((d : MapDecl) (c : Contents) → PairLaws d c) → (ds : List MapDecl) (cs : List Contents) (m : ℕ) → m + length ds ≤ 16 → length cs ≡ length ds
    → ((n : ℕ) → n < length ds → IsWithinLimits (get_or ds n no_decl)) → ((n : ℕ) → n < length ds → IsOver (get_or ds n no_decl) (get_or cs n map.empty)) → Fit (writes m ds cs)
loads_all pairs [] cs m le beside limits over = tt
loads_all pairs (d ∷ ds) [] m le beside limits over = tt
loads_all pairs (d ∷ ds) (c ∷ cs) m le beside limits over =
    let one = map_fits d.kind d c refl (limits 0 (omega arith)) (over 0 (omega arith)) (pairs d c) in
    all_fit (map_writes m 0 (rows_of d c)) (writes (m + 1) ds cs)
    (rows_fit m 0 (rows_of d c) (omega (arith, le)) (omega (arith, one.few)) one.each)
    (loads_all pairs ds cs (m + 1) (omega (arith, le)) (omega (arith, beside)) (λ n l. limits (suc n) (omega (arith, l))) (λ n l. over (suc n) (omega (arith, l))))

-- ---- reads

index_reads : (m i a n : ℕ) → m < 16 → i < 65536 → a + n ≤ 16 → Fit (map_list (asked m i) (range_with_len a n))
index_reads m i a zero l h le = tt
index_reads m i a (suc n) l h le = (read_fits m i a l h (omega (arith, le)), index_reads m i (a + 1) n l h (omega (arith, le)))

row_short : (k : MapKind) (d : MapDecl) → IsWithinLimits d → row_length_as k d ≤ 16
row_short Hash d limits = omega (arith, limits.key_short, limits.value_short)
row_short Array d limits = omega (arith, limits.value_short)

reads_from : (m : ℕ) (d : MapDecl) → m < 16 → row_length d ≤ 16 → (a n : ℕ) → a + n ≤ 65536 → Fit (flat_map (λ i. map_list (asked m i) (range_with_len 0 (row_length d))) (range_with_len a n))
reads_from m d l short a zero le = tt
reads_from m d l short a (suc n) le =
    all_fit (map_list (asked m a) (range_with_len 0 (row_length d))) (flat_map (λ i. map_list (asked m i) (range_with_len 0 (row_length d))) (range_with_len (a + 1) n))
    (index_reads m a 0 (row_length d) l (omega (arith, le)) (omega (arith, short)))
    (reads_from m d l short (a + 1) n (omega (arith, le)))

reads_all : (ds : List MapDecl) (m : ℕ) → m + length ds ≤ 16 → ((n : ℕ) → n < length ds → IsWithinLimits (get_or ds n no_decl)) → Fit (reads m ds)
reads_all [] m le limits = tt
reads_all (d ∷ ds) m le limits =
    let h = limits 0 (omega arith) in
    all_fit (map_reads m d) (reads (m + 1) ds)
    (reads_from m d (omega (arith, le)) (row_short d.kind d h) 0 d.cap (omega (arith, few_slots d.kind d h.by_kind)))
    (reads_all ds (m + 1) (omega (arith, le)) (λ n l. limits (suc n) (omega (arith, l))))

pub loads_fit : ((d : MapDecl) (c : Contents) → PairLaws d c) → LoadsFit
loads_fit pairs maps sound few = record {
  load = loads_all pairs maps.decls maps.contents 0 (omega (arith, few)) sound.beside sound.limits sound.over;
  dump = reads_all maps.decls 0 (omega (arith, few)) sound.limits;
}
