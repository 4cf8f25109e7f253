-- A dump between two of its clocks.
use Rattle.std.proofs.Common.{◌≡◌, ℕ, suc, ◌+◌, ◌*◌, ◌-◌, ◌<◌, List, [], ◌∷◌, ◌++◌, length, map, take, drop, get_or, set, refl, sym, ap, ◌∙◌, arith, length-append, append_assoc, get_or-set_same}
use Rattle.std.proofs.lemmas.List.{take_more_set, drop_at, at_drop_more, set-set, set-get_or}
use Rattle.std.proofs.lemmas.List.FromFn.{length-map-range_with_len, length-range_with_len}
use Rattle.std.proofs.Math.Seq.{set-append_seam}
use Rattle.std.specs.List.{flat_map, range_with_len}
use Rattle.std.specs.FinMap as finite
use Rattle.net_core.specs.declared.ports.Inputs.{Inputs}
use Rattle.net_core.specs.Nets.{Netlist}
use Rattle.net_core.specs.Clock.{Stored}
use Rattle.net_core.specs.Ports.{outputs_of}
use Rattle.net_core.specs.Trace.{NeverStops, stored_after, trace}
use Rattle.xdp_maps.specs.declared.decl.MapDecl.{MapDecl}
use Rattle.xdp_maps.specs.Contents.{Contents, opened}
use Rattle.xdp_maps.specs.State.{MapState, no_decl, decl_at, contents_at, with_contents}
use Rattle.realization.specs.HostHistory.Rows.{row_length, contents_of}
use Rattle.realization.specs.HostHistory.Host.{asked, map_reads, reads, dump, cut_in_rows, dumped, shown_words}
use Rattle.port_drive.specs.Reading.{read_of}
use Rattle.port_drive.proofs.HostClocks.{UnderWay, goes_on, shown-part, length-shown}
use Rattle.port_drive.proofs.DumpLemmas.{cut-append, cut-step, opened_is}

pub begins_at : (d : Netlist) (s : Stored) (whole rest : List Inputs) → rest ≡ whole → UnderWay d s whole rest s
begins_at d s whole rest e = record { done = []; all = sym e; goes = tt; left = refl }

-- ---- the words under one index
-- those from one on, of n
abbrev pub words_from : ℕ → ℕ → ℕ → ℕ → List Inputs
words_from m index word n = map (asked m index) (range_with_len word (n - word))

pub words-next : (m index word n : ℕ) → word < n → words_from m index word n ≡ (asked m index word ∷ []) ++ words_from m index (word + 1) n
words-next m index word n lt =
    let more : n - word ≡ suc (n - (word + 1)) = omega arith in
    ap (λ k. map (asked m index) (range_with_len word k)) more

pub row_on : (d : Netlist) (t u : Stored) (m index word n : ℕ) (row all : List ℕ) (shown : ℕ) → word < n → word < length row → shown ≡ (outputs_of d (asked m index word) t).host_value → u ≡ stored_after d t (asked m index word ∷ [])
    → take word row ++ shown_words (trace d t (words_from m index word n)) ≡ all → take (word + 1) (set row word shown) ++ shown_words (trace d u (words_from m index (word + 1) n)) ≡ all
row_on d t u m index word n row all shown lt within is went h =
    let rest = shown_words (trace d u (words_from m index (word + 1) n)) in
    let part = shown-part d t (words_from m index word n) (asked m index word ∷ []) (words_from m index (word + 1) n) (words_from m index word n) t u (words-next m index word n lt) went in
    ap (λ l. l ++ rest) (take_more_set row word shown within)
    ∙ append_assoc (take word row) (shown ∷ []) rest
    ∙ ap (λ x. take word row ++ (x ∷ rest)) is
    ∙ ap (λ l. take word row ++ l) (sym part)
    ∙ h

-- ---- the rows of one map
abbrev pub rows_from : ℕ → MapDecl → ℕ → List Inputs
rows_from m decl index = flat_map (λ k. map (asked m k) (range_with_len 0 (row_length decl))) (range_with_len index (decl.cap - index))

pub rows-first : (m : ℕ) (decl : MapDecl) → rows_from m decl 0 ≡ map_reads m decl
rows-first m decl = ap (λ n. flat_map (λ k. map (asked m k) (range_with_len 0 (row_length decl))) (range_with_len 0 n)) (omega arith)

pub rows-next : (m : ℕ) (decl : MapDecl) (index : ℕ) → index < decl.cap → rows_from m decl index ≡ map (asked m index) (range_with_len 0 (row_length decl)) ++ rows_from m decl (index + 1)
rows-next m decl index lt =
    let more : decl.cap - index ≡ suc (decl.cap - (index + 1)) = omega arith in
    ap (λ n. flat_map (λ k. map (asked m k) (range_with_len 0 (row_length decl))) (range_with_len index n)) more

-- what holds between two rows of a map
pub record ReadSoFar (d : Netlist) (s : Stored) (old : MapState) (m : ℕ) (decl : MapDecl) (index : ℕ) (t : Stored) (now : MapState) : Type 0 where
  pub way : UnderWay d s (map_reads m decl) (rows_from m decl index) t
  pub rows : List (List ℕ)
  pub count : length rows ≡ index
  pub maps : now ≡ with_contents old m (read_of decl rows)
  pub rest : rows ++ cut_in_rows (decl.cap - index) (row_length decl) (shown_words (trace d t (rows_from m decl index))) ≡ cut_in_rows decl.cap (row_length decl) (shown_words (trace d s (map_reads m decl)))

pub read_first : (d : Netlist) (s : Stored) (old : MapState) (m : ℕ) (decl : MapDecl) → contents_at old m ≡ opened decl → ReadSoFar d s old m decl 0 s old
read_first d s old m decl is = record {
  way = begins_at d s (map_reads m decl) (rows_from m decl 0) (rows-first m decl);
  rows = [];
  count = refl;
  maps = sym (ap (λ c. with_contents old m c) (sym (is ∙ opened_is decl)) ∙ ap (λ cs. record old { contents = cs }) (set-get_or old.contents m finite.empty));
  rest =
      let whole : decl.cap - 0 ≡ decl.cap = omega arith in
      ap (λ n. cut_in_rows n (row_length decl) (shown_words (trace d s (rows_from m decl 0)))) whole ∙ ap (λ l. cut_in_rows decl.cap (row_length decl) (shown_words (trace d s l))) (rows-first m decl);
}

module _ (d : Netlist) (s : Stored) (old : MapState) (m index : ℕ) (t : Stored) (now : MapState) (h : ReadSoFar d s old m (decl_at old m) index t now) (lt : m < length old.contents) where
  pub decl_kept : decl_at now m ≡ decl_at old m
  decl_kept = ap (λ x. decl_at x m) h.maps

  pub held : contents_at now m ≡ read_of (decl_at now m) h.rows
  held = ap (λ x. contents_at x m) h.maps ∙ get_or-set_same old.contents m (read_of (decl_at old m) h.rows) finite.empty lt ∙ ap (λ x. read_of x h.rows) (sym decl_kept)

  pub read_on : (n : ℕ) (row : List ℕ) (u : Stored) (new : MapState) → n ≡ row_length (decl_at old m) → index < (decl_at old m).cap → length row ≡ n
      → row ≡ shown_words (trace d t (map (asked m index) (range_with_len 0 n))) → NeverStops d t (map (asked m index) (range_with_len 0 n)) × (u ≡ stored_after d t (map (asked m index) (range_with_len 0 n)))
      → ((rows : List (List ℕ)) → length rows ≡ index → contents_at now m ≡ read_of (decl_at now m) rows → new ≡ with_contents now m (read_of (decl_at now m) (rows ++ row ∷ [])))
      → ReadSoFar d s old m (decl_at old m) (index + 1) u new
  read_on n row u new words within len shown went took =
      let decl = decl_at old m in
      let part : List Inputs = map (asked m index) (range_with_len 0 n) in
      let next : rows_from m decl index ≡ part ++ rows_from m decl (index + 1) = rows-next m decl index within ∙ ap (λ k. map (asked m index) (range_with_len 0 k) ++ rows_from m decl (index + 1)) (sym words) in
      let more : decl.cap - index ≡ suc (decl.cap - (index + 1)) = omega arith in
      let seen : shown_words (trace d t (rows_from m decl index)) ≡ row ++ shown_words (trace d u (rows_from m decl (index + 1))) = shown-part d t (rows_from m decl index) part (rows_from m decl (index + 1)) (rows_from m decl index) t u next went.1 ∙ ap (λ l. l ++ shown_words (trace d u (rows_from m decl (index + 1)))) (sym shown) in
      record {
        way = goes_on d s (map_reads m decl) part (rows_from m decl (index + 1)) (rows_from m decl index) t u h.way next went;
        rows = h.rows ++ row ∷ [];
        count = omega (arith, length-append h.rows (row ∷ []), h.count);
        maps =
            took h.rows h.count held
            ∙ ap (λ x. with_contents now m (read_of x (h.rows ++ row ∷ []))) decl_kept
            ∙ ap (λ x. with_contents x m (read_of decl (h.rows ++ row ∷ []))) h.maps
            ∙ ap (λ cs. record old { contents = cs }) (set-set old.contents m (read_of decl h.rows) (read_of decl (h.rows ++ row ∷ [])));
        rest =
            append_assoc h.rows (row ∷ []) (cut_in_rows (decl.cap - (index + 1)) (row_length decl) (shown_words (trace d u (rows_from m decl (index + 1)))))
            ∙ ap (λ l. h.rows ++ l) (sym (cut-step (decl.cap - index) (decl.cap - (index + 1)) (row_length decl) row (shown_words (trace d u (rows_from m decl (index + 1)))) (shown_words (trace d t (rows_from m decl index))) more (len ∙ words) seen))
            ∙ h.rest;
      }

-- ---- all maps
length-rows_read : (m n : ℕ) (ks : List ℕ) → length (flat_map (λ k. map (asked m k) (range_with_len 0 n)) ks) ≡ length ks * n
length-rows_read m n [] = omega arith
length-rows_read m n (k ∷ ks) = omega (arith, length-append (map (asked m k) (range_with_len 0 n)) (flat_map (λ j. map (asked m j) (range_with_len 0 n)) ks), length-map-range_with_len (asked m k) 0 n, length-rows_read m n ks)

length-reads : (m : ℕ) (decl : MapDecl) → length (map_reads m decl) ≡ decl.cap * row_length decl
length-reads m decl = length-rows_read m (row_length decl) (range_with_len 0 decl.cap) ∙ ap (λ n. n * row_length decl) (length-range_with_len 0 decl.cap)

-- what holds between two maps of a dump
pub record DumpedSoFar (d : Netlist) (s : Stored) (decls : List MapDecl) (m : ℕ) (t : Stored) (now : MapState) : Type 0 where
  pub way : UnderWay d s (dump decls) (reads m (drop m decls)) t
  pub front : List Contents
  pub count : length front ≡ m
  pub maps : now ≡ record { decls = decls; contents = front ++ map opened (drop m decls) }
  pub rest : front ++ dumped (drop m decls) (shown_words (trace d t (reads m (drop m decls)))) ≡ dumped decls (shown_words (trace d s (dump decls)))

module _ (d : Netlist) (s : Stored) (decls : List MapDecl) (m : ℕ) (t : Stored) (now : MapState) (h : DumpedSoFar d s decls m t now) where
  pub decls_kept : now.decls ≡ decls
  decls_kept = ap (λ x. x.decls) h.maps

  pub next_map : m < length decls → reads m (drop m decls) ≡ map_reads m (decl_at now m) ++ reads (m + 1) (drop (m + 1) decls)
  next_map lt = at_drop_more (reads m) decls m no_decl lt ∙ ap (λ ds. map_reads m (get_or ds m no_decl) ++ reads (m + 1) (drop (m + 1) decls)) (sym decls_kept)

  left_opened : m < length decls → now.contents ≡ h.front ++ (opened (decl_at now m) ∷ map opened (drop (m + 1) decls))
  left_opened lt = ap (λ x. x.contents) h.maps ∙ at_drop_more (λ ds. h.front ++ map opened ds) decls m no_decl lt ∙ ap (λ ds. h.front ++ (opened (get_or ds m no_decl) ∷ map opened (drop (m + 1) decls))) (sym decls_kept)

  pub dumped_on : (u : Stored) (new : MapState) → m < length decls → NeverStops d t (map_reads m (decl_at now m)) × (u ≡ stored_after d t (map_reads m (decl_at now m)))
      → new ≡ with_contents now m (contents_of (decl_at now m) (cut_in_rows (decl_at now m).cap (row_length (decl_at now m)) (shown_words (trace d t (map_reads m (decl_at now m))))))
      → DumpedSoFar d s decls (m + 1) u new
  dumped_on u new lt went took =
      let decl = decl_at now m in
      let n = row_length decl in
      let part : List Inputs = map_reads m decl in
      let words : List ℕ = shown_words (trace d t part) in
      let ds : List MapDecl = drop (m + 1) decls in
      let more : List ℕ = shown_words (trace d u (reads (m + 1) ds)) in
      let one : Contents = contents_of decl (cut_in_rows decl.cap n words) in
      let len : length words ≡ decl.cap * n = length-shown d t part ∙ length-reads m decl in
      let seen : shown_words (trace d t (reads m (drop m decls))) ≡ words ++ more = shown-part d t (reads m (drop m decls)) part (reads (m + 1) ds) (reads m (drop m decls)) t u (next_map lt) went.1 in
      let first : dumped (drop m decls) (shown_words (trace d t (reads m (drop m decls)))) ≡ one ∷ dumped ds more =
      at_drop_more (λ l. dumped l (shown_words (trace d t (reads m (drop m decls))))) decls m no_decl lt
      ∙ ap (λ l. dumped (get_or l m no_decl ∷ ds) (shown_words (trace d t (reads m (drop m decls))))) (sym decls_kept)
      ∙ ap (dumped (decl ∷ ds)) seen
      ∙ ap (λ rows. contents_of decl rows ∷ dumped ds (drop (decl.cap * n) (words ++ more))) (cut-append decl.cap n words more len)
      ∙ ap (λ l. one ∷ dumped ds l) (drop_at words more (decl.cap * n) len) in
      let written : set now.contents m one ≡ h.front ++ (one ∷ map opened ds) =
      ap (λ cs. set cs m one) (left_opened lt)
      ∙ ap (λ i. set (h.front ++ (opened decl ∷ map opened ds)) i one) (sym h.count)
      ∙ set-append_seam h.front (opened decl) (map opened ds) one in
      record {
        way = goes_on d s (dump decls) part (reads (m + 1) ds) (reads m (drop m decls)) t u h.way (next_map lt) went;
        front = h.front ++ one ∷ [];
        count = omega (arith, length-append h.front (one ∷ []), h.count);
        maps = took ∙ ap (λ cs. record { decls = now.decls; contents = cs }) (written ∙ sym (append_assoc h.front (one ∷ []) (map opened ds))) ∙ ap (λ l. record { decls = l; contents = (h.front ++ one ∷ []) ++ map opened ds }) decls_kept;
        rest = append_assoc h.front (one ∷ []) (dumped ds more) ∙ ap (λ l. h.front ++ l) (sym first) ∙ h.rest;
      }
