-- What is made, taken and answered by an operation on a map, by the rows of data places.
use Rattle.std.proofs.Common.{◌≡◌, ◌∙◌, ℕ, ◌+◌, ◌<◌, ◌≤◌, ◌||◌, if◌then◌else◌, Bool, true, false, Option, Some, max, List, [], ◌∷◌, ◌++◌, length, length-append, sym, ap, subst, arith}
use Rattle.std.specs.List.{list_any}
use Rattle.std.proofs.Math.Seq.{get_or-append_seam}
use Rattle.std.proofs.lemmas.Bool.{lt-ltb}
use Rattle.cell_core.specs.bpf_isa.declared.instruction.Insn.{Insn}
use Rattle.cell_core.specs.xdp_maps.declared.decl.MapDecl.{MapDecl}
use Rattle.kind_core.specs.declared.kind.Kind.{Kind}
use Rattle.kind_core.specs.declared.kind.Kinds.{Kinds}
use Rattle.kind_core.specs.Kinds.{register}
use Rattle.cell_core.specs.Cells.{CellView, cell_at, site_in}
use Rattle.cell_core.specs.Sites.{SiteView, site_at, no_site, records}
use Rattle.cell_core.specs.Rows.{greatest}
use Rattle.operator_cells.specs.row_rules.declared.place_rows.recording.Record.{Record}
use Rattle.operator_cells.specs.row_rules.PlaceRows.Spans.{no_place, one}
use Rattle.operator_cells.specs.row_rules.PlaceRows.Origins.{is_open, has_data, data_by}
use Rattle.operator_cells.specs.row_rules.PlaceRows.Reading.{result_row}
use Rattle.operator_cells.specs.row_rules.PlaceRows.Writing.{writes_as, record_as, is_open_in, taken_row, made_row}
use Rattle.operator_cells.specs.row_rules.declared.place_rows.location.Location.TheVariants as location
use Rattle.operator_cells.proofs.row_rules_laws.PlaceRows.LocationLaws.{at_number}
use Rattle.operator_cells.proofs.row_rules_laws.PlaceRows.SpanLaws.{one_number}
use Rattle.operator_cells.specs.HeldCells.Rows.{is_some_place, written_row, IsRecord, WriteWithin}

-- ---- rows
module _ (before : ℕ → ℕ) (decls : List MapDecl) (k after : Kinds) (i : Insn) where
  pub made_taken : taken_row before (record_as decls k i i.op) ≤ made_row before decls k after i
  made_taken = omega arith

  pub made_result : list_any (is_open_in after) (writes_as k i i.op) ≡ true → result_row before decls k after i ≤ made_row before decls k after i
  made_result e = subst (λ (t : Bool). result_row before decls k after i ≤ max (if t then result_row before decls k after i else 0) (taken_row before (record_as decls k i i.op))) (sym e) (omega arith)

  pub written_taken : taken_row before (record_as decls k i i.op) ≤ written_row before decls k after i
  written_taken = omega arith

  pub written_result : is_some_place (writes_as k i i.op) ≡ true → result_row before decls k after i ≤ written_row before decls k after i
  written_result e = subst (λ (t : Bool). result_row before decls k after i ≤ max (taken_row before (record_as decls k i i.op)) (if t then result_row before decls k after i else 0)) (sym e) (omega arith)

-- a register that gets data
pub open_register : (after : Kinds) (x : Kind) (r : ℕ) → r ≤ 10 → register after r ≡ x → is_open x ≡ true → list_any (is_open_in after) (one r ∷ no_place ∷ []) ≡ true
open_register after x r small e opens =
    ap (λ (ns : List ℕ). list_any (has_data after) ns || list_any (is_open_in after) (no_place ∷ [])) (one_number r)
    ∙ ap (λ (t : Bool). (t || false) || list_any (is_open_in after) (no_place ∷ [])) (has r small ∙ ap is_open e ∙ opens)
  where
    has : (s : ℕ) → s ≤ 10 → has_data after s ≡ is_open (register after s)
    has s l = let low : s < 11 = omega (arith, l) in ap (data_by after) (at_number (location.Register s) low)

pub some_place : (r : ℕ) → is_some_place (one r ∷ no_place ∷ []) ≡ true
some_place r = lt-ltb r (r + 1) (omega arith)

-- ---- the site of a write
module _ (write : Option Record) (old new : List CellView) (sites sites2 : List SiteView) (site : SiteView) (row : ℕ → ℕ) (last : ℕ) (is : sites2 ≡ sites ++ site ∷ []) where
  last_site : (j : ℕ) → j ≡ length sites → site_at sites2 j ≡ site
  last_site j e = ap (λ (xs : List SiteView). site_at xs j) is ∙ ap (site_at (sites ++ site ∷ [])) e ∙ get_or-append_seam sites site [] no_site

  new_site : (j : ℕ) → length sites ≤ j → j < length sites2 → site_at sites2 j ≡ site
  new_site j low high = last_site j (omega (arith, low, high, ap length is, length-append sites (site ∷ [])))

  pub no_write : records site.act ≡ false → ((c j : ℕ) → length old ≤ c → c < length new → site_in (cell_at new c).op ≡ Some j → j ≡ length sites) → WriteWithin write old new sites sites2 row last
  no_write quiet reads = record {
    write_is = λ j low high writes. absurd (never j (new_site j low high) writes);
    taken = λ j low high writes. absurd (never j (new_site j low high) writes);
    readers = λ c j low high e writes. absurd (never j (last_site j (reads c j low high e)) writes);
  }
    where
      differ : (b : Bool) → b ≡ false → b ≡ true → ⊥
      differ true e f = absurd (cc)
      differ false e f = absurd (cc)

      never : (j : ℕ) → site_at sites2 j ≡ site → records (site_at sites2 j).act ≡ true → ⊥
      never j at writes = differ (records site.act) quiet (ap (λ (s : SiteView). records s.act) (sym at) ∙ writes)

  pub one_write : (r : Record) → write ≡ Some r → r.map ≡ site.map → greatest row (site.key ++ site.operands) ≤ last → ((c j : ℕ) → length old ≤ c → c < length new → site_in (cell_at new c).op ≡ Some j → row c ≤ last)
      → WriteWithin write old new sites sites2 row last
  one_write r write_is map_is takes reads = record {
    write_is = λ j low high writes. subst (λ (s : SiteView). IsRecord write s) (sym (new_site j low high)) (subst (λ (w : Option Record). IsRecord w site) (sym write_is) map_is);
    taken = λ j low high writes. subst (λ (s : SiteView). greatest row (s.key ++ s.operands) ≤ last) (sym (new_site j low high)) takes;
    readers = λ c j low high e writes. reads c j low high e;
  }
