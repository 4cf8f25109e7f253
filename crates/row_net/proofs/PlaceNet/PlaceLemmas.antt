-- What stands for a cell, as an expression, and what the registers of a place hold.
use Rattle.std.specs.Prelude.{◌≡◌, ℕ, ◌-◌, ◌^◌, ◌<◌, ◌≤◌, Option, Some, None, All, List, [], ◌∷◌, length, map as map_list, nat_le}
use Rattle.std.specs.List.{AllByRecursion}
use Rattle.std.proofs.Common.{get_or, refl, sym, ap, ◌∙◌, subst, arith, inl, inr, ◌⊎◌}
use Rattle.std.proofs.lemmas.Bool.{le-leb, lt-ltb, cases_lt}
use Rattle.std.proofs.lemmas.List.{length-map, get_or-map, get_or_past}
use Rattle.std.proofs.lemmas.List.Elements.{All-head, All-tail}
use Rattle.net_core.specs.declared.tree.Word.{Word}
use Rattle.net_core.specs.Nets.{Tree}
use Rattle.net_core.specs.Value.{word, Env, value}
use Rattle.net_core.specs.Width.{Scope, width_of}
use Rattle.block_core.specs.design_rules.FormedSyntax.{depth, prefixes_apart}
use Rattle.block_core.specs.declared.name.Name.{Name}
use Rattle.block_core.specs.Blocks.{BlockWireTree}
use Rattle.block_core.specs.Order.{Reads}
use Rattle.block_core.proofs.list_laws_laws.BoolLaws.{and_is}
use Rattle.overlay_net.specs.cell_core.declared.cell.Cell.{Cell}
use Rattle.overlay_net.specs.cell_core.View.{cell_of}
use Rattle.overlay_net.specs.cell_core.Cells.{CellView, no_cell, bits_from}
use Rattle.overlay_net.specs.cell_core.Formed.{AreFormed}
use Rattle.cell_nets.specs.declared.operand.Operand.{Operand}
use Rattle.cell_nets.specs.declared.operand.Operand.TheVariants.{Known, Net, Part}
use Rattle.cell_nets.specs.Operands.{number_in, IsOperand, HasWidth, AreFit, AreDeclared, IsAvailable, IsNetOf}
use Rattle.cell_nets.specs.Parts.{part_tree}
use Rattle.cell_nets.specs.Wires.{behind, HasBits, AreWires}
use Rattle.cell_nets.proofs.PartLaws.{part_slice, part_small}
use Rattle.cell_nets.proofs.OperandBlocks.WiringLaws.{behind_declared, own_all}
use Rattle.row_net.specs.Table.{Stands, IsIn, IsTable, AreThere, Holds}
use Rattle.row_net.specs.Made.{IsRow}
use Rattle.row_net.specs.PlaceNet.Place.{width_at, word_in, HasSize}
use Rattle.row_net.specs.PlaceNet.PlaceNets.{tree_for, tree_in}
use Rattle.row_net.proofs.PlaceNet.SetLemmas.{IsSpelled}

-- ---- what stands for a cell, as an expression
pub record IsRead {N : Type 0} (cells : List CellView) (table : List (Option (Operand N))) (ins : List (Operand N)) (k : ℕ) (t : Tree N) : Type 0 where
  pub some : 0 < width_at cells k
  pub most : width_at cells k ≤ 64
  pub typed : (s : Scope N) → AreDeclared s ins → width_of s t ≡ width_at cells k
  pub reads : Reads (IsNetOf ins) t
  pub spelled : IsSpelled t
  pub fits : (v : Env N) → AreFit v ins → HasSize (width_at cells k) (value v t)
  pub value : (v : Env N) (val : ℕ → ℕ) → AreFit v ins → Holds v table val → value v t ≡ word_in cells val k

module _ {N : Type 0} (cells : List CellView) (table : List (Option (Operand N))) (ins : List (Operand N)) (k : ℕ) (some : 0 < width_at cells k) (most : width_at cells k ≤ 64) where
  read_of : (a : Operand N) → Stands table k a → IsOperand a → HasBits (width_at cells k) a → IsAvailable ins a → IsRead cells table ins k (tree_for (Some a) (width_at cells k))
  read_of (Known n) here fits small there = record {
    some = some;
    most = most;
    typed = λ s d. rw (le-leb (width_at cells k) 64 most, lt-ltb n (2 ^ width_at cells k) small) refl;
    reads = tt;
    spelled = refl;
    fits = λ v f. record { width = refl; small = small };
    value = λ v val f h. ap (word (width_at cells k)) (h k (Known n) here);
  }
  read_of (Net n w) here wide e there = record {
    some = some;
    most = most;
    typed = λ s d. d (Net n w) there ∙ e;
    reads = (w, inl there);
    spelled = refl;
    fits = λ v f. let x : HasWidth v n w = f (Net n w) there in record { width = x.width ∙ e; small = subst (λ j. (v.net n).value < 2 ^ j) e x.small };
    value = λ v val f h. let x : HasWidth v n w = f (Net n w) there in ap (λ j. word j (v.net n).value) (x.width ∙ e) ∙ ap (word (width_at cells k)) (h k (Net n w) here);
  }
  read_of (Part n of from w) here within e there =
      let t : Tree N = part_tree n of from w in
      let p = part_slice n of from w within ins there in
      record {
        some = some;
        most = most;
        typed = λ s d. p.part.typed s d ∙ e;
        reads = p.part.reads;
        spelled = let d = p.part.depth in and_is (nat_le (depth t) 64) (prefixes_apart t) (le-leb (depth t) 64 (omega arith)) p.part.apart;
        fits = λ v f. record {
          width = ap (λ (x : Word). x.width) (p.part.value v f) ∙ e;
          small = subst (λ (x : Word). x.value < 2 ^ width_at cells k) (sym (p.part.value v f)) (subst (λ j. bits_from (v.net n).value from w < 2 ^ j) e (part_small (v.net n).value from w));
        };
        value = λ v val f h. p.part.value v f ∙ ap (λ j. word j (bits_from (v.net n).value from w)) e ∙ ap (word (width_at cells k)) (h k (Part n of from w) here);
      }

pub in_within : {N : Type 0} (table : List (Option (Operand N))) (k : ℕ) → IsIn table k → k < length table
in_within {N = N} table k (a, e) = by_case (cases_lt k (length table))
  where
    by_case : (k < length table) ⊎ (length table ≤ k) → k < length table
    by_case (inl l) = l
    by_case (inr l) = let past : get_or table k None ≡ None = get_or_past table k None l in cc

module _ {N : Type 0} (cells : List CellView) (table : List (Option (Operand N))) (ins : List (Operand N)) (formed : AreFormed cells) (is : IsTable cells table) (there : AreThere ins table) where
  pub read_in : (k : ℕ) → IsIn table k → 0 < width_at cells k → IsRead cells table ins k (tree_in cells table k)
  read_in k (a, e) some =
      let l : k < length cells = omega (arith, in_within table k (a, e), is.count) in
      subst (λ o. IsRead cells table ins k (tree_for o (width_at cells k))) (sym e) (read_of cells table ins k some (formed.each k l).width a e (is.operand k a e) (is.bits k a e) (there k a e))

  abbrev pub IsReadIn : ℕ → Type 0
  IsReadIn k = IsRead cells table ins k (tree_in cells table k)

  pub all_read : (ks : List ℕ) → All (IsIn table) ks → All (λ k. 0 < width_at cells k) ks → AllByRecursion IsReadIn ks
  all_read [] i s = tt
  all_read (k ∷ ks) i s = (read_in k (All-head (IsIn table) k ks i) (All-head (λ k. 0 < width_at cells k) k ks s), all_read ks (All-tail (IsIn table) k ks i) (All-tail (λ k. 0 < width_at cells k) k ks s))

  abbrev trees : List ℕ → List (Tree N)
  trees ks = map_list (tree_in cells table) ks

  spelled_all : (ks : List ℕ) → AllByRecursion IsReadIn ks → AllByRecursion IsSpelled (trees ks)
  spelled_all [] h = tt
  spelled_all (k ∷ ks) h = (h.0.spelled, spelled_all ks h.1)

-- ---- the block
module _ {P : Type 0} (p : P) (cells : List CellView) (made carried : List ℕ) (outside : List (Operand (Name P))) (old ws : List (BlockWireTree (Name P))) (before after : List (Option (Operand (Name P)))) (formed : AreFormed cells)
    (row : IsRow p cells made old ws before after) (old_wires : AreWires p outside old) (old_there : AreThere (behind p outside old) before) (held : All (IsIn after) carried) (some : All (λ k. 0 < width_at cells k) carried) where
  abbrev ins : List (Operand (Name P))
  ins = behind p outside ws

  there : AreThere ins after
  there = row.there outside old_wires old_there

  reads : AllByRecursion (IsReadIn cells after ins formed row.table there) carried
  reads = all_read cells after ins formed row.table there carried held some

-- ---- cells in memory
pub width_same : (cells : List Cell) (k : ℕ) (d : Cell) → k < length cells → (get_or cells k d).width ≡ width_at (map_list cell_of cells) k
width_same cells k d l = sym (ap (λ (x : CellView). x.width) (get_or-map cell_of cells k d no_cell l))

pub width_small : (cells : List Cell) (k : ℕ) (d : Cell) → AreFormed (map_list cell_of cells) → k < length cells → (get_or cells k d).width ≤ 64
width_small cells k d formed l =
    let l' : k < length (map_list cell_of cells) = omega (arith, l, length-map cells cell_of) in
    subst (λ (x : CellView). x.width ≤ 64) (get_or-map cell_of cells k d no_cell l) (formed.each k l').width

pub mapped_within : (cells : List Cell) (ks : List ℕ) → All (λ k. k < length cells) ks → All (λ k. k < length (map_list cell_of cells)) ks
mapped_within cells ks h k d l = omega (arith, h k d l, length-map cells cell_of)
