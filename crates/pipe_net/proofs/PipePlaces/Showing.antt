-- What the registers of places show.
use Rattle.std.specs.Prelude.{◌≡◌, ℕ, suc, ◌+◌, ◌-◌, ◌^◌, ◌<◌, ◌≤◌, ◌++◌, Some, List, [], ◌∷◌, length, drop, map as map_list}
use Rattle.std.specs.List.{AllByRecursion}
use Rattle.std.proofs.Common.{get_or, refl, sym, ap, ◌∙◌, subst, arith}
use Rattle.std.proofs.Math.Nat.{pow-le-pow_right}
use Rattle.std.proofs.lemmas.List.{length-append, length-map, get_or-map, get_or_append_left, get_or-append_right}
use Rattle.std.proofs.lemmas.List.Elements.{All-cons, All-map, All-append, All-contains, All-from_recursion}
use Rattle.hazard_core.specs.xdp_machine.State.{PacketIn}
use Rattle.block_core.specs.net_core.declared.tree.Word.{Word}
use Rattle.block_core.specs.net_core.declared.ports.Inputs.{Inputs}
use Rattle.block_core.specs.net_core.Ports.{words_of}
use Rattle.block_core.specs.net_core.Suits.{IsOfWidth}
use Rattle.block_core.specs.net_core.Value.{nothing, Env}
use Rattle.block_core.specs.net_core.Clock.{Stored}
use Rattle.block_core.specs.declared.name.Name.{Name}
use Rattle.block_core.specs.declared.name.Name.TheVariants as name
use Rattle.block_core.specs.Blocks.{Whole, Among}
use Rattle.block_core.specs.Parts.{Sees}
use Rattle.block_core.specs.Formed.{block_registers}
use Rattle.hazard_core.specs.cell_core.Cells.{cell_at, is_read}
use Rattle.turn_net.specs.cell_nets.declared.operand.Operand.{Operand}
use Rattle.turn_net.specs.cell_nets.Operands.{HasWidth, IsFit, AreFit}
use Rattle.turn_net.proofs.cell_nets_laws.ChoiceLaws.{fit_of}
use Rattle.hazard_core.specs.StageValues.{StageValues, stage_value}
use Rattle.stage_net.specs.row_net.Table.{Stands}
use Rattle.stage_net.specs.row_net.PlaceNet.Place.{registers_from, width_at, widths_of}
use Rattle.stage_net.specs.row_net.PlaceNet.Exit.{output_operands, byte_operand}
use Rattle.stage_net.specs.row_net.SitePlace.SitePlace.{site_widths, pointer_registers}
use Rattle.stage_net.specs.SiteTable.Constants.{HoldsConstants}
use Rattle.stage_net.specs.SiteTable.Tables.{ShowsWords}
use Rattle.stage_net.proofs.SiteTable.TableLaws.{value_is_number}
use Rattle.pipe_core.specs.Machine.{Packet, State, Build, place_at, inside, no_frame, packet_of}
use Rattle.pipe_core.specs.History.{Trace}
use Rattle.pipe_core.specs.Computed.{Computes, IsComputed}
use Rattle.pipe_net.specs.declared.parts.Part.{Part}
use Rattle.pipe_net.specs.Parts as part
use Rattle.pipe_net.specs.Parts.{parts_of}
use Rattle.pipe_net.specs.Layout.{Layout, IsSized, cells_of, last_of}
use Rattle.pipe_net.specs.Relation.{IsStored, HoldPackets}
use Rattle.pipe_net.specs.Saying.{ShowsAnswer, ShowAnswers}
use Rattle.pipe_net.specs.Standing.{held_registers, ShowPackets}
use Rattle.pipe_net.specs.PipePlaces.Layout.{IsLaidOut, IsChanged}
use Rattle.pipe_net.specs.PipePlaces.Parts.{AreStageParts}
use Rattle.pipe_net.proofs.PipePlaces.Parts.{has_place}
use Rattle.pipe_net.proofs.PipePlaces.Places.{computes_at}
use Rattle.pipe_net.proofs.PipePlaces.Standing.{table_there, held_behind}

-- ---- the packets
pub computed_constants : (b : Build) (packet : PacketIn) (r : ℕ) (h : StageValues) → Computes b packet r h → HoldsConstants b.program b.plan.row r h
computed_constants b packet r h c = λ k n lt row op. value_is_number packet h (cell_at b.program.cells k) k n op (c.each k lt row (ap is_read op))

module _ (l : Layout) (d : Whole Part) (sized : IsSized l) (parts : d.parts ≡ parts_of l.sizes) (i : Inputs) (ss : Part → Stored) (v : Env (Name Part)) (sees : Sees d (words_of i) ss v) where
  pub place_among : (k : ℕ) → k ≤ last_of l → Among (part.place l.sizes k) d.parts
  place_among k q = has_place l.sizes d parts k (subst (λ n. k ≤ n) (sym sized.last) q)

  shown_words : (k : ℕ) → k ≤ last_of l → (ws : List Word) → (ss (part.place l.sizes k)).registers ≡ ws → ShowsWords v (part.place l.sizes k) ws
  shown_words k q ws e = λ n lt. sees.register (part.place l.sizes k) n (place_among k q) (subst (λ rs. n < length rs) (sym e) lt) ∙ ap (λ rs. get_or rs n nothing) e

  pub packets_shown : (t : Trace) → IsComputed l.build t → HoldPackets l t.state ss → ShowPackets l t.state v
  packets_shown t computed holds = λ k x q e. record {
    registers = shown_words k q _ (holds.each k q x e);
    fits = holds.fits k x q e;
    constants =
        let z : 0 + k ≡ k = omega arith in
        let packet = packet_of (get_or t.state.frames (inside (drop (suc k) t.state.places)) no_frame) in
        computed_constants l.build packet (suc k) x.held (subst (λ n. Computes l.build packet (suc n) x.held) z (computes_at l.build t.state.frames 0 t.state.places computed.places k x e));
  }

  -- ---- widths of registers
  module _ (whole : AreStageParts l d) (stored : (p : Part) → Among p d.parts → IsStored (d.block p) (ss p)) (k : ℕ) (q : k ≤ last_of l) where
    abbrev place : Part
    place = part.place l.sizes k

    abbrev all_widths : List ℕ
    all_widths = site_widths (cells_of l) l.bits (l.held k) (l.held_pointers k)

    pub widths_are : block_registers (d.block place) ≡ all_widths
    widths_are = let w = whole.places k q in subst (λ n. block_registers (d.block place) ≡ site_widths (cells_of l) n (l.held k) (l.held_pointers k)) w.bits w.block.registers

    pub register_count : length (ss place).registers ≡ length all_widths
    register_count =
        let e = ap length widths_are in
        let f = length-map (d.block place).registers (λ (w : Word). w.width) in
        let g = (stored place (place_among k q)).registers in
        omega (arith, e, f, g)

    pub register_fits : (n : ℕ) → n < length all_widths → IsOfWidth (get_or all_widths n 0) (get_or (ss place).registers n nothing)
    register_fits n lt =
        let e = ap length widths_are in
        let f = length-map (d.block place).registers (λ (w : Word). w.width) in
        subst (λ ws. IsOfWidth (get_or ws n 0) (get_or (ss place).registers n nothing)) widths_are ((stored place (place_among k q)).register n (omega (arith, e, f, lt)))

    has_width : (n w : ℕ) → n < length all_widths → get_or all_widths n 0 ≡ w → HasWidth v (name.Register place n) w
    has_width n w lt is =
        let f = register_fits n lt in
        let count = register_count in
        let e = sees.register place n (place_among k q) (omega (arith, count, lt)) in
        record {
          width = ap (λ (x : Word). x.width) e ∙ f.width ∙ is;
          small = subst (λ (x : Word). x.value < 2 ^ w) (sym e) (subst (λ m. (get_or (ss place).registers n nothing).value < 2 ^ m) (f.width ∙ is) f.fits.small);
        }

    all_count : length all_widths ≡ length (l.held k) + length (l.held_pointers k)
    all_count = simp (length-append, length-map) refl

    cells_fit : (at : ℕ) (ks : List ℕ) → ((n : ℕ) → n < length ks → HasWidth v (name.Register place (at + n)) (width_at (cells_of l) (get_or ks n 0))) → AllByRecursion (IsFit v) (registers_from place (cells_of l) at ks)
    cells_fit at [] h = tt
    cells_fit at (c ∷ ks) h =
        let z : at + 0 ≡ at = omega arith in
        (rw z at (h 0 (omega arith)), cells_fit (suc at) ks (λ n lt. let m : at + suc n ≡ suc at + n = omega arith in rw m at (h (suc n) (omega (arith, lt)))))

    pointers_fit : (at : ℕ) (ks : List ℕ) → ((n : ℕ) → n < length ks → HasWidth v (name.Register place (at + n)) l.bits) → AllByRecursion (IsFit v) (pointer_registers place l.bits at ks)
    pointers_fit at [] h = tt
    pointers_fit at (c ∷ ks) h =
        let z : at + 0 ≡ at = omega arith in
        (rw z at (h 0 (omega arith)), pointers_fit (suc at) ks (λ n lt. let m : at + suc n ≡ suc at + n = omega arith in rw m at (h (suc n) (omega (arith, lt)))))

    cell_fits : (n : ℕ) → n < length (l.held k) → HasWidth v (name.Register place (0 + n)) (width_at (cells_of l) (get_or (l.held k) n 0))
    cell_fits n lt =
        let count = length-map (l.held k) (width_at (cells_of l)) in
        let all = all_count in
        let z : n ≡ 0 + n = omega arith in
        subst (λ m. HasWidth v (name.Register place m) (width_at (cells_of l) (get_or (l.held k) n 0))) z
        (has_width n (width_at (cells_of l) (get_or (l.held k) n 0)) (omega (arith, all, lt))
        (get_or_append_left (widths_of (cells_of l) (l.held k)) (map_list (λ c. l.bits) (l.held_pointers k)) 0 n (omega (arith, lt, count)) ∙ get_or-map (width_at (cells_of l)) (l.held k) n 0 0 lt))

    pointer_fits : (n : ℕ) → n < length (l.held_pointers k) → HasWidth v (name.Register place (length (l.held k) + n)) l.bits
    pointer_fits n lt =
        let count = length-map (l.held k) (width_at (cells_of l)) in
        let all = all_count in
        let z : length (l.held k) + n - length (l.held k) ≡ n = omega arith in
        has_width (length (l.held k) + n) l.bits (omega (arith, all, lt))
        (get_or-append_right (widths_of (cells_of l) (l.held k)) (map_list (λ c. l.bits) (l.held_pointers k)) (length (l.held k)) (length (l.held k) + n) 0 count (omega arith)
        ∙ ap (λ m. get_or (map_list (λ c. l.bits) (l.held_pointers k)) m 0) z ∙ get_or-map (λ c. l.bits) (l.held_pointers k) n 0 0 lt)

    pub registers_fit : AreFit v (held_registers l k)
    registers_fit a c =
        let cells = registers_from place (cells_of l) 0 (l.held k) in
        let pointers = pointer_registers place l.bits (length (l.held k)) (l.held_pointers k) in
        All-contains (IsFit v) (cells ++ pointers) a
        (All-append (IsFit v) cells pointers (All-from_recursion (IsFit v) cells (cells_fit 0 (l.held k) cell_fits)) (All-from_recursion (IsFit v) pointers (pointers_fit (length (l.held k)) (l.held_pointers k) pointer_fits))) c

-- ---- the answer after the last place
module _ (l : Layout) (laid : IsLaidOut l) (v : Env (Name Part)) where
  pub answer_fits : AreFit v (held_registers l (last_of l)) → AreFit v (output_operands l.answer)
  answer_fits fit a c =
      All-contains (IsFit v) (output_operands l.answer) a
      (All-cons (IsFit v) l.answer.verdict (l.answer.target ∷ map_list byte_operand l.answer.bytes.items) (stands_fit _ l.answer.verdict laid.verdict)
      (All-cons (IsFit v) l.answer.target (map_list byte_operand l.answer.bytes.items) (stands_fit _ l.answer.target laid.target)
      (All-map (IsFit v) byte_operand l.answer.bytes.items (λ n x lt. stands_fit _ _ (laid.bytes n x lt).stands)))) c
    where
      stands_fit : (c : ℕ) (a : Operand (Name Part)) → Stands (l.table (suc (last_of l))) c a → IsFit v a
      stands_fit c a s = fit_of (held_registers l (last_of l)) v a (table_there l laid (last_of l) (omega arith) c a s) fit

  small : (h : StageValues) (c w : ℕ) → ((n : ℕ) → stage_value h n < 2 ^ (cell_at (cells_of l) n).width) → (cell_at (cells_of l) c).width ≤ w → stage_value h c < 2 ^ w
  small h c w fits le = omega (arith, fits c, pow-le-pow_right {n = 2} (omega arith) {i = (cell_at (cells_of l) c).width} {j = w} le)

  pub answers_shown : (s : State) → AreFit v (held_registers l (last_of l)) → ShowPackets l s v → ShowAnswers l s v
  answers_shown s fit shows = record { fit = answer_fits fit; is = is_answer }
    where
      is_answer : (x : Packet) → place_at s.places (last_of l) ≡ Some x → ShowsAnswer l v x
      is_answer x e =
          let q : last_of l ≤ last_of l = omega arith in
          let held = shows (last_of l) x q e in
          let holds = held_behind l laid (last_of l) q v x.held held in
          record {
            verdict = holds _ _ laid.verdict;
            verdict_small = small x.held _ 32 held.fits.widths laid.has_answer.verdict_width;
            target = holds _ _ laid.target;
            target_small = small x.held _ 32 held.fits.widths laid.has_answer.target_width;
            bytes = λ a c.
                let b = All-contains (IsChanged l) l.answer.bytes.items a laid.bytes c in
                record { byte = b.byte; changed = b.changed; at = b.at; value = holds _ _ b.stands; small = small x.held b.byte.cell 8 held.fits.widths (laid.has_answer.byte_width b.byte b.changed) };
          }
