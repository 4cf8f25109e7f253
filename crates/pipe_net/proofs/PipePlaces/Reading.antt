-- What stands at a place for the reads of its row.
use Rattle.std.specs.Prelude.{◌≡◌, ℕ, zero, suc, ◌+◌, ◌*◌, ◌/◌, ◌%◌, ◌^◌, ◌<◌, ◌≤◌, Bool, true, Some, List, [], ◌∷◌, length, slice_index, filter, map as map_list, replicate, Contains}
use Rattle.std.proofs.Common.{cond, get_or, refl, sym, ap, ◌∙◌, subst, arith}
use Rattle.std.proofs.Math.Nat.{mod-eq_of_lt}
use Rattle.std.proofs.lemmas.List.{length-map, length-replicate, get_or_default}
use Rattle.block_core.specs.net_core.declared.tree.Word.{Word}
use Rattle.block_core.specs.net_core.declared.ports.Inputs.{Inputs}
use Rattle.block_core.specs.net_core.Ports.{words_of}
use Rattle.block_core.specs.net_core.Value.{word, nothing, Env}
use Rattle.block_core.specs.net_core.Clock.{Stored}
use Rattle.block_core.specs.declared.name.Name.{Name}
use Rattle.block_core.specs.Blocks.{Whole, Among}
use Rattle.block_core.specs.Parts.{Sees, Solve}
use Rattle.hazard_core.specs.xdp_maps.Contents.{IsBytes}
use Rattle.hazard_core.specs.xdp_maps.declared.decl.MapDecl.{MapDecl}
use Rattle.hazard_core.specs.xdp_maps.declared.decl.MapKind.{MapKind}
use Rattle.hazard_core.specs.xdp_maps.declared.decl.MapKind.TheVariants.{Hash, Array}
use Rattle.hazard_core.specs.cell_core.declared.operator.Operator.{Operator}
use Rattle.hazard_core.specs.cell_core.declared.operator.Operator.TheVariants.{Found, Answer}
use Rattle.hazard_core.specs.cell_core.Cells.{cell_at, site_in, is_read, is_heavy, bits_from}
use Rattle.hazard_core.specs.cell_core.Rows.{numbers}
use Rattle.hazard_core.specs.cell_core.Sites.{ProgramView, site_at}
use Rattle.pipe_core.proofs.cell_core_laws.NumberLaws.{numbers_long}
use Rattle.turn_net.specs.cell_nets.declared.operand.Operand.{Operand}
use Rattle.turn_net.specs.cell_nets.Operands.{number_in}
use Rattle.hazard_core.specs.declared.slot.Slot.{Slot}
use Rattle.hazard_core.specs.declared.pointer.Pointer.TheVariants.{InSlot}
use Rattle.hazard_core.specs.Tables.{TableState, decl_of, table_at, slot_at, used_count}
use Rattle.hazard_core.specs.StageValues.{StageValues, access_pointer}
use Rattle.hazard_core.specs.Commits.{word_count, word_at as byte_word}
use Rattle.read_net.specs.array_net.Words.{HoldsWords}
use Rattle.read_net.specs.array_net.Hosts.{SeesMemories}
use Rattle.read_net.specs.hash_net.Hash.{count_name, StoresHash, SeesOwn}
use Rattle.read_net.specs.hash_net.HashNets.{value_first}
use Rattle.read_net.specs.hash_net.SlotNet.Slots.{slots_of, ShowSlots}
use Rattle.read_net.specs.hash_net.SlotNet.Shown.{shown_slots}
use Rattle.commit_net.specs.MapBlock.Stored.{StoresMap, StoresAs, first_value_as}
use Rattle.read_net.specs.overlay_net.SiteOperands.Pointers.{pointer_number}
use Rattle.read_net.specs.overlay_net.SiteOperands.Sites.{SiteOperands, ShowsSite, operands_of}
use Rattle.pipe_core.specs.row_plan.Plan.{read_row}
use Rattle.row_plan.proofs.RowLaws.{read_row_above}
use Rattle.read_net.specs.overlay_net.ValueNet.Words.{answers_number, access_start}
use Rattle.read_net.specs.declared.sites.MapNets.{MapNets}
use Rattle.read_net.specs.Sites.{ShowsTable}
use Rattle.stage_net.specs.SiteTable.Staged.{StagesArePlaced}
use Rattle.stage_net.specs.SiteTable.Sites.{IsSiteOf}
use Rattle.stage_net.specs.Rows.{ShowsMaps, ShowsEntry, ShowsReads}
use Rattle.pipe_net.specs.declared.parts.Part.{Part}
use Rattle.pipe_net.specs.Parts as part
use Rattle.pipe_net.specs.Parts.{parts_of}
use Rattle.pipe_net.specs.Layout.{Layout, IsSized, program_of, cells_of, last_of, commit_of}
use Rattle.pipe_net.specs.Standing.{ShowsHeld}
use Rattle.pipe_net.specs.PipePlaces.Layout.{load_sites, IsLaidOut}
use Rattle.pipe_net.specs.PipePlaces.Parts.{IsMapAt, IsWord, IsPlaceOf, AreStageParts, PlacesAreFit}
use Rattle.pipe_net.specs.PipePlaces.Following.{IsServed}
use Rattle.pipe_net.proofs.PipePlaces.Parts.{has_slots, has_word, has_own}
use Rattle.pipe_net.proofs.PipePlaces.Places.{by_bool}
use Rattle.pipe_net.proofs.PipePlaces.Standing.{site_at_place}

-- ---- rows of reads
reads_site : (op : Operator) (j : ℕ) → site_in op ≡ Some j → (is_read op ≡ true) × (is_heavy op ≡ true)
reads_site (Found i) j e = (refl, refl)
reads_site (Answer i) j e = (refl, refl)
reads_site op j e = cc

module _ (l : Layout) (laid : IsLaidOut l) (c j : ℕ) (lt : c < length (cells_of l)) (e : site_in (cell_at (cells_of l) c).op ≡ Some j) where
  -- a read stands past the first row, and no later than packets commit
  pub past_first : 0 < l.build.plan.row c
  past_first =
      let r = laid.planned.rows.each c lt in
      let heavy = (reads_site (cell_at (cells_of l) c).op j e).1 in
      omega (arith, rw heavy at r)

  pub by_commit : l.build.plan.row c ≤ commit_of l
  by_commit =
      let row = slice_index laid.plan.rows in
      let low : row (0 + c) ≤ read_row row 0 (cells_of l) = read_row_above row 0 (cells_of l) c lt (reads_site (cell_at (cells_of l) c).op j e).0 in
      let z : 0 + c ≡ c = omega arith in
      let here : row c ≤ read_row row 0 (cells_of l) = subst (λ n. row n ≤ read_row row 0 (cells_of l)) z low in
      let same : l.build.plan.row c ≡ row c = ap (λ f. f c) laid.row in
      let is = laid.is_plan.commit in
      let at = laid.commit in
      omega (arith, here, same, is, at)

-- ---- a load among those that there are
number_at : (from n i : ℕ) → i < n → get_or (numbers from n) i 0 ≡ from + i
number_at from zero i lt = absurd (omega (arith, lt))
number_at from (suc n) zero lt = omega arith
number_at from (suc n) (suc i) lt = let z : suc from + i ≡ from + suc i = omega arith in number_at (suc from) n i (omega (arith, lt)) ∙ z

in_filter : (f : ℕ → Bool) (xs : List ℕ) (i : ℕ) → i < length xs → f (get_or xs i 0) ≡ true → Contains (filter f xs) (get_or xs i 0)
in_filter f [] i lt e = absurd (omega (arith, lt))
in_filter f (x ∷ xs) zero lt e = rw e (0, omega arith, refl)
in_filter f (x ∷ xs) (suc i) lt e =
    let h = in_filter f xs i (omega (arith, lt)) e in
    by_bool (λ q. Contains (cond q (x ∷ filter f xs) (filter f xs)) (get_or xs i 0)) (f x) (let z = h.1 in (suc h.0, omega (arith, z), h.2)) h

load_among : (p : ProgramView) (j : ℕ) → j < length p.sites → answers_number (site_at p.sites j).act ≡ true → Contains (load_sites p) j
load_among p j lt e =
    let n = length p.sites in
    let z : get_or (numbers 0 n) j 0 ≡ j = number_at 0 n j lt ∙ omega arith in
    let count = numbers_long 0 n in
    subst (Contains (load_sites p)) z (in_filter (λ j. answers_number (site_at p.sites j).act) (numbers 0 n) j (omega (arith, lt, count)) (rw z e))

-- ---- the words of values in the memories of a map
pub record HasValues (k : MapKind) (d : MapDecl) (slots : List Slot) (s : Stored) : Type 0 where
  pub words : HoldsWords d.cap d.value s.memories (first_value_as k d) (λ n. (slot_at slots n).value)
  pub memories : first_value_as k d + word_count d.value ≤ length s.memories
  pub count : length slots ≡ d.cap

memory_count : (s : Stored) (n x : ℕ) → map_list length s.memories ≡ replicate n x → length s.memories ≡ n
memory_count s n x e = sym (length-map s.memories length) ∙ ap length e ∙ length-replicate n x

pub has_values : (k : MapKind) (d : MapDecl) (bits : ℕ) (slots : List Slot) (s : Stored) → StoresAs k d bits slots s → HasValues k d slots s
has_values Hash d bits slots s h = record { words = h.values; memories = let n = memory_count s (value_first d + word_count d.value) (2 ^ bits) h.memories in omega (arith, n); count = h.count }
has_values Array d bits slots s h = record { words = h.words; memories = let n = memory_count s (word_count d.value) (2 ^ bits) h.memories in omega (arith, n); count = h.count }

slot_bits : (n bits : ℕ) → n < 2 ^ bits → bits_from (4 * n + 1) 2 bits ≡ n
slot_bits n bits lt = let q : (4 * n + 1) / 2 ^ 2 ≡ n = omega arith in ap (λ m. m % 2 ^ bits) q ∙ mod-eq_of_lt {n = n} {m = 2 ^ bits} lt

module _ (l : Layout) (d : Whole Part) (sized : IsSized l) (parts : d.parts ≡ parts_of l.sizes) (i : Inputs) (ss : Part → Stored) (v : Env (Name Part)) (sees : Sees d (words_of i) ss v) (laid : IsLaidOut l) (t : TableState)
    (decls : t.decls ≡ l.decls) (stores : (m : ℕ) → m < length l.decls → StoresMap (decl_of l.decls m) (l.slot_bits m) (table_at t m) (ss (part.own l.sizes m))) where
  -- ---- a map
  module _ (m : ℕ) (known : m < length l.decls) where
    abbrev own : Part
    own = part.own l.sizes m

    inside : m < l.sizes.maps
    inside = subst (λ n. m < n) (sym sized.maps) known

    own_among : Among own d.parts
    own_among = has_own l.sizes d parts m inside

    own_memories : SeesMemories own v (ss own)
    own_memories = λ n a lt. sees.memory_word own n a own_among lt

    stores_hash : (decl_of l.decls m).kind ≡ Hash → StoresHash (decl_of l.decls m) (l.slot_bits m) (table_at t m) (ss own)
    stores_hash e = subst (λ k. StoresAs k (decl_of l.decls m) (l.slot_bits m) (table_at t m) (ss own)) e (stores m known)

    count_shown : (h : StoresHash (decl_of l.decls m) (l.slot_bits m) (table_at t m) (ss own)) → v.net (count_name own) ≡ word (l.slot_bits m + 1) (used_count (table_at t m))
    count_shown h = sees.register own 0 own_among (subst (λ rs. 0 < length rs) (sym h.registers) (omega arith)) ∙ ap (λ rs. get_or rs 0 nothing) h.registers

    sees_own : StoresHash (decl_of l.decls m) (l.slot_bits m) (table_at t m) (ss own) → SeesOwn own v (ss own)
    sees_own h = record { register = sees.register own 0 own_among (subst (λ rs. 0 < length rs) (sym h.registers) (omega arith)); memories = own_memories }

    pub shows_table : (n : MapNets (Name Part)) → IsMapAt l d m n → ShowsTable v t m n
    shows_table n is hash =
        let kind : (decl_of l.decls m).kind ≡ Hash = ap (λ (x : MapDecl). x.kind) (sym is.decl) ∙ hash in
        let h = stores_hash kind in
        let shown : ShowSlots v (decl_of l.decls m) (table_at t m) (shown_slots (part.slots l.sizes m) (decl_of l.decls m)) =
        (is.block kind).shows v (ss own) (table_at t m) (sees.wires (part.slots l.sizes m) (has_slots l.sizes d parts m inside)) (sees_own h) h in (
          subst (λ x. ShowSlots v x (table_at t m) (slots_of n.slots.now)) (sym is.decl) (subst (ShowSlots v (decl_of l.decls m) (table_at t m)) (sym (is.slots kind)) shown),
          ap (number_in v) (is.used kind) ∙ ap (λ (w : Word). w.value) (count_shown h),
        )

  -- ---- the reads of a row, from the place before
  module _ (whole : AreStageParts l d) (fit : PlacesAreFit l d whole v) (placed : StagesArePlaced) (k : ℕ) (q : suc k ≤ last_of l) (early : suc k ≤ commit_of l) (h : StageValues) (held : ShowsHeld l v k h) (served : IsServed l t h) where
    abbrev place : IsPlaceOf l d whole.words (suc k)
    place = whole.places (suc k) q

    shows_maps : ShowsMaps v place.nets t
    shows_maps =
        let count = ap length place.decls in
        let same = length-map place.nets.maps.now (λ (m : MapNets (Name Part)). m.decl.now) in
        record { tables = served.tables; decls = decls ∙ sym place.decls; maps = λ m n lt. let known : m < length l.decls = omega (arith, lt, count, same) in shows_table m known (get_or place.nets.maps.now m n) (place.maps m n known) }

    shows_site : (j : ℕ) → j < length (program_of l).sites → (s : SiteOperands (Name Part)) → IsSiteOf (program_of l) (l.table (suc k)) (l.pointers (suc k)) j s → ShowsSite v (program_of l) h j s
    shows_site j known s is = site_at_place l whole.laid k (omega (arith, q)) v h held placed (omega (arith, early)) j known s is

    module _ (n : ℕ) (w : n < length (load_sites (program_of l))) where
      abbrev site : ℕ
      site = slice_index (load_sites (program_of l)) n

      abbrev map : ℕ
      map = (site_at (program_of l).sites site).map

      abbrev load : IsWord l d n site
      load = whole.words n w

      module _ (known : site < length (program_of l).sites) (answers : answers_number (site_at (program_of l).sites site).act ≡ true) (at : load.row ≡ suc k) where
        there : map < length l.decls
        there = (whole.laid.staged.fits site known).map

        pointer_shown : number_in v load.nets.pointer ≡ pointer_number (access_pointer h (site_at (program_of l).sites site))
        pointer_shown = (shows_site site known load.nets (subst (λ r. IsSiteOf (program_of l) (l.table r) (l.pointers r) site load.nets) at load.site)).asked.pointer

        values : HasValues (decl_of l.decls map).kind (decl_of l.decls map) (table_at t map) (ss (part.own l.sizes map))
        values = has_values (decl_of l.decls map).kind (decl_of l.decls map) (l.slot_bits map) (table_at t map) (ss (part.own l.sizes map)) (stores map there)

        solved : Solve v (part.word l.sizes n) 0 (d.block (part.word l.sizes n)).wires
        solved = let e = whole.laid.loads in sees.wires (part.word l.sizes n) (has_word l.sizes d parts n (omega (arith, w, e)))

        word_shown : (a : Operand (Name Part)) (slot : ℕ) → access_pointer h (site_at (program_of l).sites site) ≡ InSlot slot
            → number_in v (get_or place.nets.words.now site a) ≡ byte_word (slot_at (table_at t map) slot).value (access_start (site_at (program_of l).sites site).act / 8)
        word_shown a slot e =
            let from = access_start (site_at (program_of l).sites site).act / 8 in
            let bits = l.slot_bits map in
            let room = (whole.laid.room map there).bits in
            let within = served.entries site slot known answers e in
            let count = values.count in
            let small : slot < 2 ^ bits = omega (arith, room, within, count) in
            let number : number_in v load.nets.pointer ≡ 4 * slot + 1 = pointer_shown ∙ ap pointer_number e in
            let named : (v.net load.slot).value ≡ slot = ap (λ (x : Word). x.value) (load.block.number v (fit.words n w) solved) ∙ ap (λ m. bits_from m 2 bits) number ∙ slot_bits slot bits small in
            let z : from + 0 ≡ from = omega arith in
            ap (number_in v) (place.words n a w at)
            ∙ ap (λ (x : Word). x.value) (load.block.shows v (ss (part.own l.sizes map)) (decl_of l.decls map).cap (λ m. (slot_at (table_at t map) m).value) slot 0 load.word solved (own_memories map there) values.words values.memories named (omega (arith, within, count)) (omega arith))
            ∙ ap (byte_word (slot_at (table_at t map) slot).value) z

        shows_entry : (a : Operand (Name Part)) → ShowsEntry v (program_of l) t h site (get_or place.nets.words.now site a)
        shows_entry a = record {
          value = λ slot e. subst (λ ds. IsBytes (decl_of ds map).value (slot_at (table_at t map) slot).value) (sym decls) (served.values map slot there (served.entries site slot known answers e));
          under = λ slot e. word_shown a slot e;
        }

    pub shows_reads : (c j : ℕ) → c < length (cells_of l) → l.build.plan.row c ≡ suc k → site_in (cell_at (cells_of l) c).op ≡ Some j → ShowsReads v (program_of l) place.nets t h j
    shows_reads c j lt here e =
        let known : j < length (program_of l).sites = (whole.laid.staged.reads c j lt e).site in
        record {
          maps = shows_maps;
          sites = λ i s inside. shows_site i inside (operands_of (get_or place.nets.sites.now i s)) (place.sites i s inside);
          entry = λ a answers.
              let x = load_among (program_of l) j known answers in
              let w = x.1 in
              let is : slice_index (load_sites (program_of l)) x.0 ≡ j = get_or_default (load_sites (program_of l)) x.0 0 j w ∙ x.2 in
              subst (λ i. ShowsEntry v (program_of l) t h i (get_or place.nets.words.now i a)) is
              (shows_entry x.0 w (subst (λ i. i < length (program_of l).sites) (sym is) known) (subst (λ i. answers_number (site_at (program_of l).sites i).act ≡ true) (sym is) answers)
              (sym ((whole.words x.0 w).read c lt (e ∙ ap Some (sym is))) ∙ here) a);
        }
