-- Cells that come with a packet, one after another, in wires and in a table.
use Rattle.std.specs.Prelude.{◌≡◌, ◌≢◌, ℕ, zero, suc, ◌+◌, ◌*◌, ◌/◌, ◌%◌, ◌^◌, ◌<◌, ◌≤◌, ◌==◌, ◌&&◌, Bool, true, false, Option, Some, None, All, Contains, List, [], ◌∷◌, ◌++◌, length, take, drop, slice_set, map as map_list}
use Rattle.std.proofs.Common.{get_or, refl, sym, ap, ◌∙◌, subst, arith, inl, inr, ◌⊎◌}
use Rattle.std.specs.List.{list_all}
use Rattle.std.proofs.lemmas.Bool.{and_from, cases_eq, cases_lt, eqb-true}
use Rattle.std.proofs.lemmas.Nat.{pow-add}
use Rattle.std.proofs.lemmas.List.{length-set, get_or-set_same, get_or-set_other, get_or_default, get_or_past, get_or-take, get_or-drop, take_more, get_or-map}
use Rattle.std.proofs.lemmas.List.Elements.{All-nil, All-cons, All-head, All-append, All-weaker, All-contains, Contains-append_left, Contains-append_right}
use Rattle.std.proofs.lemmas.List.Folds.{list_all-append}
use Rattle.std.proofs.Math.Pow.{pow_mono}
use Rattle.std.proofs.Math.Nat.{pow-suc, div-one, mod-eq_of_lt, div-eq_of_lt}
use Rattle.beat_core.specs.list_laws.Bytes.{IsBytes}
use Rattle.beat_core.proofs.list_laws_laws.ByteLaws.{IsBytes-take, IsBytes-drop}
use Rattle.beat_core.specs.Words.{word_of}
use Rattle.beat_core.specs.Ports.{Arrival}
use Rattle.beat_core.proofs.WordLaws.{get_or-low_bytes, low_bytes-word_of, word_of-lt}
use Rattle.net_core.specs.declared.tree.Word.{Word}
use Rattle.net_core.specs.Value.{Env}
use Rattle.block_core.specs.ProductBlocks.Alone.{wire_flat}
use Rattle.block_core.specs.declared.name.Name.{Name}
use Rattle.block_core.specs.Blocks.{BlockWireTree}
use Rattle.block_core.proofs.list_laws_laws.AllLaws.{all_one, all_left, all_right}
use Rattle.overlay_net.specs.cell_core.declared.operator.Operator.{Operator}
use Rattle.overlay_net.specs.cell_core.declared.operator.Operator.TheVariants.{Byte, Length, Ifindex, Time}
use Rattle.overlay_net.specs.cell_core.declared.cell.Cell.{Cell}
use Rattle.overlay_net.specs.cell_core.View.{cell_of}
use Rattle.overlay_net.specs.cell_core.Cells.{CellView, no_cell, cell_at, number, value, bits_from}
use Rattle.cell_nets.specs.declared.operand.Operand.{Operand}
use Rattle.cell_nets.specs.declared.operand.Operand.TheVariants.{Known, Net}
use Rattle.cell_nets.specs.Operands.{number_in, IsWide, IsOperand, HasWidth, IsAvailable}
use Rattle.cell_nets.specs.Wires.{behind, HasBits, Gives, always}
use Rattle.cell_nets.proofs.ApartLaws.{stay_none, stay_next}
use Rattle.frame_net.specs.declared.held.Kept.{Kept}
use Rattle.frame_net.specs.declared.held.Kept.TheVariants as kept
use Rattle.frame_net.specs.Gather.{kept_width}
use Rattle.frame_net.specs.Frames.{beat_of}
use Rattle.frame_net.specs.Sources.{length_name, kept_name, kept_word}
use Rattle.row_net.specs.Table.{Stands, IsIn, IsTable}
use Rattle.row_net.specs.PlaceNet.Sources.{packet_in, IsShown, IsSource, IsShownIn, IsSourced, kept_operands, source_operands}
use Rattle.row_net.specs.PlaceNet.SourceNets.{IsKeptNet}

-- ---- bytes of a frame
byte_power : (r : ℕ) → 2 ^ (8 * r) ≡ 256 ^ r
byte_power zero = refl
byte_power (suc r) =
    let e : 8 * suc r ≡ 8 * r + 8 = omega arith in
    ap (λ n. 2 ^ n) e ∙ pow-add 2 (8 * r) 8 ∙ ap (λ n. n * 2 ^ 8) (byte_power r) ∙ sym (pow-suc 256 r)

byte_in_word : (xs : List ℕ) (r : ℕ) → IsBytes xs → bits_from (word_of xs) (8 * r) 8 ≡ get_or xs r 0
byte_in_word xs r bytes = ap (λ n. word_of xs / n % 256) (byte_power r) ∙ by_case (cases_lt r (length xs))
  where
    by_case : (r < length xs) ⊎ (length xs ≤ r) → word_of xs / 256 ^ r % 256 ≡ get_or xs r 0
    by_case (inl l) = sym (get_or-low_bytes (length xs) (word_of xs) r l) ∙ ap (λ ys. get_or ys r 0) (low_bytes-word_of xs bytes)
    by_case (inr l) =
        let small : word_of xs < 256 ^ r = subst (λ n. word_of xs < n) (byte_power r) (omega (arith, subst (λ n. word_of xs < n) (sym (byte_power (length xs))) (word_of-lt xs bytes), pow_mono {i = 8 * length xs} {j = 8 * r} (omega arith))) in
        ap (λ n. n % 256) (div-eq_of_lt {n = word_of xs} {m = 256 ^ r} small) ∙ sym (get_or_past xs r 0 l)

-- a byte of the frame in its word
pub byte_is : (xs : List ℕ) (i : ℕ) → IsBytes xs → bits_from (beat_of xs (i / 8)).word (8 * (i % 8)) 8 ≡ get_or xs i 0
byte_is xs i bytes =
    let r : ℕ = i % 8 in
    let few : r < 8 = omega arith in
    let e : 8 * (i / 8) + r ≡ i = omega arith in
    byte_in_word (take 8 (drop (8 * (i / 8)) xs)) r (IsBytes-take 8 (drop (8 * (i / 8)) xs) (IsBytes-drop (8 * (i / 8)) xs bytes))
    ∙ get_or-take 8 (drop (8 * (i / 8)) xs) r 0 few ∙ get_or-drop (8 * (i / 8)) xs r 0 ∙ ap (λ n. get_or xs n 0) e

-- ---- what a net gives, and bits of what is given
pub net_gives :
    {P : Type 0} (p : P) (ws : List (BlockWireTree (Name P))) (args : List (Operand (Name P))) (needs : Env (Name P) → Type 0) (f : Env (Name P) → ℕ) (n : Name P) (w : ℕ) → IsWide w → Contains args (Net n w)
    → ((v : Env (Name P)) → needs v → (v.net n).value ≡ f v) → Gives p ws ws args needs f w (Net n w)
net_gives p ws args needs f n w wide c same = record {
  before = λ v s. s;
  stays = λ outside a t. t;
  operand = wide;
  bits = refl;
  given = λ outside a there. record { wires = a; there = All-contains (IsAvailable (behind p outside ws)) args (Net n w) there c; value = λ v fit s h. same v h };
  apart = stay_none p ws args (Net n w ∷ []) (λ ins h. all_one (IsAvailable ins) (Net n w) (All-contains (IsAvailable ins) args (Net n w) h c));
}

pub gives_bits :
    {P : Type 0} (p : P) (old mid new : List (BlockWireTree (Name P))) (args : List (Operand (Name P))) (needs : Env (Name P) → Type 0) (f g : Env (Name P) → ℕ) (w u from : ℕ) (o r : Operand (Name P)) → Gives p old mid args needs f w o
    → Gives p mid new (o ∷ []) always (λ v. bits_from (number_in v o) from u) u r → ((v : Env (Name P)) → needs v → bits_from (f v) from u ≡ g v) → Gives p old new args needs g u r
gives_bits p old mid new args needs f g w u from o r x y same = record {
  before = λ v s. x.before v (y.before v s);
  stays = λ outside a t. y.stays outside a (x.stays outside a t);
  operand = y.operand;
  bits = y.bits;
  given = λ outside a there.
      let first = x.given outside a there in
      let second = y.given outside first.wires (All-cons (IsAvailable (behind p outside mid)) o [] first.there (All-nil (IsAvailable (behind p outside mid)))) in
      record { wires = second.wires; there = second.there; value = λ v fit s h. second.value v fit s tt ∙ ap (λ k. bits_from k from u) (first.value v fit (y.before v s) h) ∙ same v h };
  apart = stay_next p old mid new args (o ∷ []) (o ∷ []) (r ∷ []) (λ ins h k. k) x.apart y.apart;
}

-- ---- nets of what is kept
kept_listed : {P : Type 0} (p : P) (at i : ℕ) (list : List Kept) (d : Kept) → i < length list → Contains (kept_operands p at list) (Net (kept_name p (at + i)) (kept_width (get_or list i d)))
kept_listed p at i [] d l = absurd (omega arith)
kept_listed p at zero (x ∷ list) d l = let z : at ≡ at + 0 = omega arith in (0, omega arith, ap (λ n. Net (kept_name p n) (kept_width x)) z)
kept_listed p at (suc i) (x ∷ list) d l =
    let h = kept_listed p (suc at) i list d (omega arith) in
    let e : suc at + i ≡ at + suc i = omega arith in
    subst (λ n. Contains (kept_operands p at (x ∷ list)) (Net (kept_name p n) (kept_width (get_or list i d)))) e (suc h.0, omega (arith, h.1), h.2)

kept_wide : (x : Kept) → IsWide (kept_width x)
kept_wide kept.Ifindex = record { some = omega arith; most = omega arith }
kept_wide kept.Time = record { some = omega arith; most = omega arith }
kept_wide (kept.Word j) = record { some = omega arith; most = omega arith }

pub kept_gives :
    {P : Type 0} (p sources : P) (ws : List (BlockWireTree (Name P))) (list : List Kept) (what : Kept) (o : Operand (Name P)) (arrival : Arrival) → IsKeptNet sources list what o
    → Gives p ws ws (source_operands sources list) (λ v. IsShownIn sources list v arrival) (λ v. (kept_word what arrival).value) (kept_width what) o
kept_gives {P = P} p sources ws list what o arrival h =
    let args : List (Operand (Name P)) = source_operands sources list in
    let z : 0 + h.place ≡ h.place = omega arith in
    let c = kept_listed sources 0 h.place list what h.below in
    let listed : Contains args (Net (kept_name sources h.place) (kept_width what)) =
    subst (λ n. Contains args (Net (kept_name sources n) (kept_width what))) z (subst (λ x. Contains args (Net (kept_name sources (0 + h.place)) (kept_width x))) h.here (suc c.0, omega (arith, c.1), c.2)) in
    subst (λ a. Gives p ws ws args (λ v. IsShownIn sources list v arrival) (λ v. (kept_word what arrival).value) (kept_width what) a) (sym h.is)
    (net_gives p ws args (λ v. IsShownIn sources list v arrival) (λ v. (kept_word what arrival).value) (kept_name sources h.place) (kept_width what) (kept_wide what) listed
    (λ v s. ap (λ (w : Word). w.value) (s.shows.content h.place h.below ∙ ap (λ x. kept_word x arrival) (get_or_default list h.place kept.Ifindex what h.below ∙ h.here))))

pub length_gives :
    {P : Type 0} (p sources : P) (ws : List (BlockWireTree (Name P))) (list : List Kept) (arrival : Arrival)
    → Gives p ws ws (source_operands sources list) (λ v. IsShownIn sources list v arrival) (λ v. length arrival.frame) 14 (Net (length_name sources) 14)
length_gives p sources ws list arrival =
    net_gives p ws (source_operands sources list) (λ v. IsShownIn sources list v arrival) (λ v. length arrival.frame) (length_name sources) 14 (record { some = omega arith; most = omega arith }) (0, omega arith, refl) (λ v s. ap (λ (w : Word). w.value) s.shows.frame_length)

-- its number is that of no inputs
number_same : (list : List Kept) (arrival : Arrival) (op : Operator) (xs : List ℕ) → IsShown list op → number (packet_in arrival) op [] ≡ number (packet_in arrival) op xs
number_same list arrival (Byte i) xs h = refl
number_same list arrival Length xs h = refl
number_same list arrival Ifindex xs h = refl
number_same list arrival Time xs h = refl
number_same list arrival op xs h = absurd h

-- ---- one cell
module _ {P : Type 0} (p sources : P) (list : List Kept) (cells : List CellView) (k : ℕ) (old new : List (BlockWireTree (Name P))) (before : List (Option (Operand (Name P)))) (out : Operand (Name P)) (table : IsTable cells before) (source : IsSource list cells k)
    (gives : (a : Arrival) → Gives p old new (source_operands sources list) (λ v. IsShownIn sources list v a) (λ v. bits_from (number (packet_in a) (cell_at cells k).op []) (cell_at cells k).from (cell_at cells k).width) (cell_at cells k).width out) where
  abbrev after : List (Option (Operand (Name P)))
  after = slice_set before k (Some out)

  abbrev none : Arrival
  none = record { ifindex = 0; time = 0; frame = [] }

  at_k : get_or after k None ≡ Some out
  at_k = let l = source.within in get_or-set_same before k (Some out) None (omega (arith, table.count))

  -- what holds of the new operand and of all before, holds of all in the table
  each : (Q : ℕ → Operand (Name P) → Type 0) → Q k out → ((j : ℕ) (a : Operand (Name P)) → Stands before j a → Q j a) → (j : ℕ) (a : Operand (Name P)) → Stands after j a → Q j a
  each Q here others j a s = by_case (cases_eq j k)
    where
      by_case : (j ≡ k) ⊎ (j ≢ k) → Q j a
      by_case (inl e) =
          let same : Some out ≡ Some a = sym at_k ∙ ap (λ n. get_or after n None) (sym e) ∙ s in
          let is : out ≡ a = cc in
          subst (λ n. Q n a) (sym e) (subst (Q k) is here)
      by_case (inr n) = others j a (sym (get_or-set_other before k j (Some out) None n) ∙ s)

  grows : (j : ℕ) → IsIn before j → IsIn after j
  grows j i = by_case (cases_eq j k)
    where
      by_case : (j ≡ k) ⊎ (j ≢ k) → IsIn after j
      by_case (inl e) = (out, ap (λ n. get_or after n None) e ∙ at_k)
      by_case (inr n) = (i.0, get_or-set_other before k j (Some out) None n ∙ i.1)

  one_sourced : IsSourced p sources list cells (k ∷ []) old new before after
  one_sourced = record {
    table = record {
      count = length-set before k (Some out) ∙ table.count;
      operand = each (λ j a. IsOperand a) (gives none).operand table.operand;
      bits = each (λ j a. HasBits (cell_at cells j).width a) (gives none).bits table.bits;
    };
    given = All-cons (IsIn after) k [] (out, at_k) (All-nil (IsIn after));
    grows = grows;
    kept = λ j n. get_or-set_other before k j (Some out) None (λ e. n (0, omega arith, sym e));
    earlier = (gives none).before;
    stays = (gives none).stays;
    wires = λ outside w src. ((gives none).given outside w src).wires;
    there = λ outside w src b. each (λ j a. IsAvailable (behind p outside new) a) ((gives none).given outside w src).there (λ j a s. (gives none).stays outside a (b j a s));
    value = λ outside v a val w src fit solved shown made b.
        each (λ j x. number_in v x ≡ val j)
        (((gives a).given outside w src).value v fit solved shown
        ∙ ap (λ n. bits_from n (cell_at cells k).from (cell_at cells k).width) (number_same list a (cell_at cells k).op _ source.shown)
        ∙ sym (All-head (λ j. val j ≡ value (packet_in a) val (cell_at cells j)) k [] made))
        b;
    free = λ flat made.
        let s = (gives none).apart in
        subst (λ ws. list_all (wire_flat made) ws ≡ true) (sym s.added) (list_all-append (wire_flat made) old s.more ∙ and_from _ _ (flat made) (s.free refl made));
  }

-- the same of a cell in memory
pub sourced_at :
    {P : Type 0} (p sources : P) (list : List Kept) (cells : List Cell) (k : ℕ) (c : Cell) (old new : List (BlockWireTree (Name P))) (before : List (Option (Operand (Name P)))) (out : Operand (Name P)) → IsTable (map_list cell_of cells) before
    → IsSource list (map_list cell_of cells) k → k < length cells → c ≡ get_or cells k c
    → ((a : Arrival) → Gives p old new (source_operands sources list) (λ v. IsShownIn sources list v a) (λ v. bits_from (number (packet_in a) c.op []) c.from c.width) c.width out)
    → IsSourced p sources list (map_list cell_of cells) (k ∷ []) old new before (slice_set before k (Some out))
sourced_at p sources list cells k c old new before out table source l e gives =
    one_sourced p sources list (map_list cell_of cells) k old new before out table source
    (subst (λ (x : CellView). (a : Arrival) → Gives p old new (source_operands sources list) (λ v. IsShownIn sources list v a) (λ v. bits_from (number (packet_in a) x.op []) x.from x.width) x.width out) (sym (get_or-map cell_of cells k c no_cell l ∙ ap cell_of (sym e))) gives)

-- ---- one after another

module _ {P : Type 0} (p sources : P) (list : List Kept) (cells : List CellView) (ks : List ℕ) (k : ℕ) (old mid new : List (BlockWireTree (Name P))) (before now after : List (Option (Operand (Name P)))) (x : IsSourced p sources list cells ks old mid before now)
    (y : IsSourced p sources list cells (k ∷ []) mid new now after) where
  moved : (outside : List (Operand (Name P))) → All (IsAvailable (behind p outside old)) (source_operands sources list) → All (IsAvailable (behind p outside mid)) (source_operands sources list)
  moved outside src = All-weaker (IsAvailable (behind p outside old)) (IsAvailable (behind p outside mid)) (x.stays outside) (source_operands sources list) src

  pub more_sourced : IsSourced p sources list cells (ks ++ k ∷ []) old new before after
  more_sourced = record {
    table = y.table;
    given = All-append (IsIn after) ks (k ∷ []) (All-weaker (IsIn now) (IsIn after) y.grows ks x.given) y.given;
    grows = λ j i. y.grows j (x.grows j i);
    kept = λ j n. y.kept j (λ c. n (Contains-append_right ks (k ∷ []) j c)) ∙ x.kept j (λ c. n (Contains-append_left ks (k ∷ []) j c));
    earlier = λ v s. x.earlier v (y.earlier v s);
    stays = λ outside a t. y.stays outside a (x.stays outside a t);
    wires = λ outside w src. y.wires outside (x.wires outside w src) (moved outside src);
    there = λ outside w src b. y.there outside (x.wires outside w src) (moved outside src) (x.there outside w src b);
    value = λ outside v a val w src fit solved shown made b.
        y.value outside v a val (x.wires outside w src) (moved outside src) fit solved shown (all_right (λ j. val j ≡ value (packet_in a) val (cell_at cells j)) ks (k ∷ []) made)
        (x.value outside v a val w src fit (y.earlier v solved) shown (all_left (λ j. val j ≡ value (packet_in a) val (cell_at cells j)) ks (k ∷ []) made) b);
    free = λ flat. y.free (x.free flat);
  }

pub sourced_next :
    {P : Type 0} (p sources : P) (list : List Kept) (cells : List CellView) (ks : List ℕ) (i : ℕ) (old mid new : List (BlockWireTree (Name P))) (before now after : List (Option (Operand (Name P)))) → i < length ks
    → IsSourced p sources list cells (take i ks) old mid before now → IsSourced p sources list cells (get_or ks i 0 ∷ []) mid new now after → IsSourced p sources list cells (take (i + 1) ks) old new before after
sourced_next p sources list cells ks i old mid new before now after l x y =
    subst (λ js. IsSourced p sources list cells js old new before after) (sym (take_more ks i 0 l)) (more_sourced p sources list cells (take i ks) (get_or ks i 0) old mid new before now after x y)
