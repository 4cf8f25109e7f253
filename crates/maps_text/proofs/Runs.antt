-- Lines are read one after another.
use Rattle.std.proofs.Common.{◌≡◌, ℕ, ◌+◌, ◌*◌, ◌<◌, ◌≤◌, Bool, false, List, [], ◌∷◌, length, replicate, Result, Ok, Err, is_some, sym, ap, ◌∙◌, arith}
use Rattle.std.proofs.lemmas.List.{get_or-map, length-replicate}
use Rattle.std.specs.Ordering.{nat_cmp}
use Rattle.std.specs.Cmp.Lexicographic.{slice_cmp}
use Rattle.std.specs.FinMap as map
use Rattle.std.specs.FinMap.{get-empty}
use Rattle.list_laws.proofs.PlaceLaws.{no_mark}
use Rattle.xdp_maps.specs.declared.decl.MapKind.TheVariants.{Hash}
use Rattle.xdp_maps.specs.declared.decl.MapDecl.{MapDecl}
use Rattle.xdp_maps.specs.Contents.{Contents, opened, opened_as}
use Rattle.xdp_maps.specs.State.{MapState, no_decl, opened_state, decl_at, contents_at}
use Rattle.maps_text.specs.declared.error.MapsError.{MapsError}
use Rattle.maps_text.specs.Lines.{lines_of}
use Rattle.maps_text.specs.Reading.{Gives, Listed, and_then, line_read, read_from, unlisted, outcome}
use Rattle.maps_text.specs.Steps.{Marks, Takes}
use Rattle.maps_text.proofs.Steps.{gives_err}

-- What was listed up to the rest of a text, in the maps and the marks, and that reading goes on there.
pub record IsReading (decls : List MapDecl) (text rest : List ℕ) (n : ℕ) (maps : MapState) (marks : List Bool) : Type 0 where
  pub listed : Listed
  pub same : listed.maps ≡ maps
  pub known : Marks marks listed
  pub reads : read_from (n + 1) listed (lines_of rest) ≡ read_from 1 (unlisted decls) (lines_of text)
  pub counted : n + length rest ≤ length text
  pub marked : length marks ≡ length decls * 65536

-- ---- nothing is listed at first

opened_hash : (d : MapDecl) (key : List ℕ) → d.kind ≡ Hash → map.contains_key (opened d) key ≡ false
unfolding opened
opened_hash d key hash = ap (λ k. map.contains_key (opened_as k d) key) hash ∙ ap is_some (get-empty (slice_cmp nat_cmp) key)

opened_at : (decls : List MapDecl) (m : ℕ) → m < length decls → contents_at (opened_state decls) m ≡ opened (decl_at (opened_state decls) m)
opened_at decls m lt = get_or-map opened decls m no_decl map.empty lt

unlisted_marks : (decls : List MapDecl) (n : ℕ) → n ≡ length decls * 65536 → Marks (replicate n false) (unlisted decls)
unlisted_marks decls n is = record {
  enough = length-replicate n false ∙ is;
  hash = λ m key lt hash. ap (λ (c : Contents). map.contains_key c key) (opened_at decls m lt) ∙ opened_hash (decl_at (opened_state decls) m) key hash;
  array = λ m key lt array four small. no_mark n _;
}

pub reading_begun : (decls : List MapDecl) (text : List ℕ) (n : ℕ) (maps : MapState) → maps ≡ opened_state decls → n ≡ length decls * 65536 → IsReading decls text text 0 maps (replicate n false)
reading_begun decls text n maps is many = record {
  listed = unlisted decls;
  same = sym is;
  known = unlisted_marks decls n many;
  reads = let e : 0 + 1 ≡ 1 = omega arith in ap (λ i. read_from i (unlisted decls) (lines_of text)) e;
  counted = omega arith;
  marked = length-replicate n false ∙ many;
}

-- ---- a line

step : (n : ℕ) (before : Listed) (rest line later : List ℕ) (read : Result Listed MapsError) → lines_of rest ≡ line ∷ lines_of later → line_read n before line ≡ read
    → read_from n before (lines_of rest) ≡ and_then read (λ after. read_from (n + 1) after (lines_of later))
unfolding read_from
step n before rest line later read lines is =
    ap (read_from n before) lines ∙ ap (λ (r : Result Listed MapsError). and_then r (λ after. read_from (n + 1) after (lines_of later))) is

pub reading_on : (decls : List MapDecl) (text rest line later : List ℕ) (n : ℕ) (maps after : MapState) (marks new : List Bool) → IsReading decls text rest n maps marks
    → lines_of rest ≡ line ∷ lines_of later → length later < length rest → length new ≡ length marks
    → ((listed : Listed) → listed.maps ≡ maps → Marks marks listed → Takes (Ok tt) after new (line_read (n + 1) listed line)) → IsReading decls text later (n + 1) after new
reading_on decls text rest line later n maps after marks new is lines shorter kept takes =
    let t = takes is.listed is.same is.known in
    record {
      listed = t.0;
      same = t.2;
      known = t.3;
      reads = sym (step (n + 1) is.listed rest line later (Ok t.0) lines t.1) ∙ is.reads;
      counted = omega (arith, is.counted, shorter);
      marked = kept ∙ is.marked;
    }

-- ---- the end

pub reading_ended : (decls : List MapDecl) (text rest : List ℕ) (n : ℕ) (maps : MapState) (marks : List Bool) → IsReading decls text rest n maps marks → rest ≡ [] → Gives (Ok maps) (outcome decls text)
unfolding outcome read_from lines_of
reading_ended decls text rest n maps marks is none =
    let all : read_from (n + 1) is.listed (lines_of rest) ≡ Ok is.listed = ap (λ (xs : List ℕ). read_from (n + 1) is.listed (lines_of xs)) none in
    sym (ap (λ (r : Result Listed MapsError). and_then r (λ all. Ok all.maps)) (sym is.reads ∙ all) ∙ ap Ok is.same)

pub reading_stopped : (decls : List MapDecl) (text rest line later : List ℕ) (n : ℕ) (maps after : MapState) (marks new : List Bool) (e : MapsError) → IsReading decls text rest n maps marks
    → lines_of rest ≡ line ∷ lines_of later
    → ((listed : Listed) → listed.maps ≡ maps → Marks marks listed → Takes (Err e) after new (line_read (n + 1) listed line)) → Gives (Err e) (outcome decls text)
unfolding outcome
reading_stopped decls text rest line later n maps after marks new e is lines takes =
    let stop = step (n + 1) is.listed rest line later (Err e) lines (takes is.listed is.same is.known) in
    gives_err e (outcome decls text) (ap (λ (r : Result Listed MapsError). and_then r (λ all. Ok all.maps)) (sym is.reads ∙ stop))
