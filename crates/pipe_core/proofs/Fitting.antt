-- A packet stays one of its program.
use Rattle.std.proofs.Common.{◌≡◌, ◌∙◌, ℕ, zero, suc, ◌+◌, ◌<◌, ◌^◌, Bool, true, false, List, [], ◌∷◌, length, get_or, set, replicate, sym, ap, subst, arith, length-set, ◌==◌, if◌then◌else◌}
use Rattle.std.proofs.lemmas.Nat.{mod_below, pow_pos}
use Rattle.std.proofs.lemmas.List.{length-replicate}
use Rattle.hazard_core.specs.cell_core.Cells.{CellView, no_cell, cell_at, bits_from}
use Rattle.hazard_core.specs.cell_core.Sites.{ProgramView}
use Rattle.hazard_core.specs.xdp_machine.State.{PacketIn}
use Rattle.hazard_core.specs.Tables.{TableState}
use Rattle.hazard_core.specs.StageValues.{StageValues, stage_value, with_cell}
use Rattle.hazard_core.specs.declared.pointer.Pointer.{Pointer}
use Rattle.hazard_core.specs.Rows.{cell_number, cell_pointer, with_made, made_from, with_row, nothing_held}
use Rattle.pipe_core.specs.Machine.{Packet, injected}
use Rattle.pipe_core.specs.Planned.{IsPacketOf}

-- a packet holds as much as a program has cells, each of its width
record Fits (p : ProgramView) (h : StageValues) : Type 0 where
  pub values : length h.values ≡ length p.cells
  pub pointers : length h.pointers ≡ length p.cells
  pub widths : (c : ℕ) → stage_value h c < 2 ^ (cell_at p.cells c).width

set_fits : (vs : List ℕ) (k x : ℕ) (w : ℕ → ℕ) → x < 2 ^ w k → ((c : ℕ) → get_or vs c 0 < 2 ^ w c) → (c : ℕ) → get_or (set vs k x) c 0 < 2 ^ w c
set_fits [] k x w l h c = h c
set_fits (v ∷ vs) zero x w l h zero = l
set_fits (v ∷ vs) zero x w l h (suc c) = h (suc c)
set_fits (v ∷ vs) (suc k) x w l h zero = h zero
set_fits (v ∷ vs) (suc k) x w l h (suc c) = set_fits vs k x (λ i. w (suc i)) l (λ i. h (suc i)) c

cell_fits : (p : ProgramView) (h : StageValues) (k n : ℕ) (q : Pointer) (c : CellView) → c ≡ cell_at p.cells k → Fits p h → Fits p (with_cell h k (bits_from n c.from c.width) q)
cell_fits p h k n q c e f = record {
  values = length-set h.values k (bits_from n c.from c.width) ∙ f.values;
  pointers = length-set h.pointers k q ∙ f.pointers;
  widths =
      let l : bits_from n c.from c.width < 2 ^ c.width = mod_below _ (2 ^ c.width) (pow_pos c.width) in
      set_fits h.values k (bits_from n c.from c.width) (λ i. (cell_at p.cells i).width) (subst (λ (v : CellView). bits_from n c.from c.width < 2 ^ v.width) e l) f.widths;
}

made_fits : (p : ProgramView) (row : ℕ → ℕ) (r : ℕ) (t : TableState) (packet : PacketIn) (h : StageValues) (k : ℕ) (c : CellView) (b : Bool) → c ≡ cell_at p.cells k → Fits p h
    → Fits p (if b then with_cell h k (bits_from (cell_number p row r t packet h c c.op) c.from c.width) (cell_pointer p row r t h c c.op) else h)
made_fits p row r t packet h k c true e f = cell_fits p h k (cell_number p row r t packet h c c.op) (cell_pointer p row r t h c c.op) c e f
made_fits p row r t packet h k c false e f = f

all_fit : (p : ProgramView) (row : ℕ → ℕ) (r : ℕ) (t : TableState) (packet : PacketIn) (cs : List CellView) (k : ℕ) (h : StageValues) → ((i : ℕ) → i < length cs → get_or cs i no_cell ≡ cell_at p.cells (k + i)) → Fits p h
    → Fits p (made_from p row r t packet k cs h)
all_fit p row r t packet [] k h e f = f
all_fit p row r t packet (c ∷ cs) k h e f =
    all_fit p row r t packet cs (suc k) (with_made p row r t packet h k c)
    (λ i l. e (suc i) (omega (arith, l)) ∙ ap (cell_at p.cells) (omega arith))
    (made_fits p row r t packet h k c (row k == r) (e 0 (omega arith) ∙ ap (cell_at p.cells) (omega arith)) f)

row_fits : (p : ProgramView) (row : ℕ → ℕ) (r : ℕ) (t : TableState) (packet : PacketIn) (h : StageValues) → Fits p h → Fits p (with_row p row r t packet h)
unfolding with_row
row_fits p row r t packet h f = all_fit p row r t packet p.cells 0 h (λ i l. ap (cell_at p.cells) (omega arith)) f

zeros_fit : (n : ℕ) (w : ℕ → ℕ) (c : ℕ) → get_or (replicate n 0) c 0 < 2 ^ w c
zeros_fit zero w c = pow_pos (w c)
zeros_fit (suc n) w zero = pow_pos (w 0)
zeros_fit (suc n) w (suc c) = zeros_fit n (λ i. w (suc i)) c

pub injected_of : (p : ProgramView) → IsPacketOf p (injected p)
injected_of p = record {
  values = length-replicate (length p.cells) 0;
  pointers = length-replicate (length p.cells) _;
  marks = length-replicate (length p.sites) false;
  widths = zeros_fit (length p.cells) (λ i. (cell_at p.cells i).width);
}

-- new, with a row more, with other marks
pub new_of : (p : ProgramView) (h : StageValues) (marks : List Bool) (n : ℕ) → h ≡ nothing_held p → n ≡ length p.sites → marks ≡ replicate n false → IsPacketOf p (record { held = h; marks = marks })
new_of p h marks n e m k =
    subst (IsPacketOf p)
    (ap (λ (g : StageValues). record { held = g; marks = replicate (length p.sites) false }) (sym e) ∙ ap (λ (xs : List Bool). record { held = h; marks = xs }) (sym (k ∙ ap (λ (i : ℕ). replicate i false) m)))
    (injected_of p)

pub made_of : (p : ProgramView) (row : ℕ → ℕ) (r : ℕ) (t : TableState) (packet : PacketIn) (x : Packet) (h : StageValues) (marks : List Bool) → IsPacketOf p x → h ≡ with_row p row r t packet x.held
    → length marks ≡ length x.marks → IsPacketOf p (record { held = h; marks = marks })
made_of p row r t packet x h marks o e m =
    let f = subst (Fits p) (sym e) (row_fits p row r t packet x.held (record { values = o.values; pointers = o.pointers; widths = o.widths })) in
    record { values = f.values; pointers = f.pointers; marks = m ∙ o.marks; widths = f.widths }

pub marked_of : (p : ProgramView) (x : Packet) (marks : List Bool) → IsPacketOf p x → length marks ≡ length x.marks → IsPacketOf p (record x { marks = marks })
marked_of p x marks o m = record { values = o.values; pointers = o.pointers; marks = m ∙ o.marks; widths = o.widths }
