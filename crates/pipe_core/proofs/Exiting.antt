-- A packet that has taken in all rows is a cell run.
use Rattle.std.proofs.Common.{◌≡◌, ℕ, suc, ◌<◌, Bool, true, false, Some, length, refl, sym, ap, ◌∙◌, subst, not}
use Rattle.std.specs.Prelude.{take}
use Rattle.hazard_core.specs.xdp_machine.State.{PacketIn}
use Rattle.hazard_core.specs.cell_core.declared.operator.Operator.{Operator}
use Rattle.hazard_core.specs.cell_core.declared.operator.Operator.TheVariants.{Found, Answer}
use Rattle.hazard_core.specs.cell_core.Cells.{Solves_as, cell_at, site_in, is_read, bits_from, bit}
use Rattle.hazard_core.specs.cell_core.Sites.{IsCellRun, site_at, after, read_on}
use Rattle.hazard_core.specs.Tables.{TableState, maps_of}
use Rattle.hazard_core.specs.Tabled.{AreTables}
use Rattle.hazard_core.specs.StageValues.{stage_value, guard_on, is_null}
use Rattle.hazard_core.specs.Rows.{cell_number}
use Rattle.hazard_core.specs.Replay.{ReadsRight, ReadsInTurn, SeesEarlier}
use Rattle.pipe_core.specs.Machine.{Packet, Build}
use Rattle.pipe_core.specs.Computed.{Computes}
use Rattle.pipe_core.specs.Pipeable.{IsOwn, FitsReads, IsPipelinable}
use Rattle.pipe_core.specs.Agreed.{IsPathMade}
use Rattle.pipe_core.specs.Agreement.{ReadsFit}
use Rattle.pipe_core.proofs.Holding.{both_seen, holds_reads}

module _ (seen : SeesEarlier) (right : ReadsInTurn) (b : Build) (t : TableState) (other : PacketIn) (x : Packet) (fit : IsPipelinable t.decls b) (tables : AreTables t) (own : IsOwn b t other x.held) (reads : FitsReads b x.held) (path : IsPathMade b t other x) where
  reads_at : (j : ℕ) → j < length b.program.sites → guard_on x.held (site_at b.program.sites j) ≡ true → ReadsRight b.program t x.held j
  reads_at j l g = right b.program t x.held tables fit.fits (holds_reads seen b t other x fit own reads path) j l g

  number_is : (c j : ℕ) → c < length b.program.cells → guard_on x.held (site_at b.program.sites j) ≡ true → (op : Operator) → (cell_at b.program.cells c).op ≡ op → site_in op ≡ Some j →
      cell_number b.program b.plan.row (b.plan.row c) t other x.held (cell_at b.program.cells c) op ≡ read_on (stage_value x.held) (after (stage_value x.held) (maps_of t) (take j b.program.sites)) (site_at b.program.sites j) op
  number_is c j l g (Found i) is e =
      let same : i ≡ j = cc in
      let s : site_in (cell_at b.program.cells c).op ≡ Some j = ap site_in is ∙ e in
      let q = both_seen seen b t other x fit own reads path c j l s g in
      let r = reads_at j (fit.rows.reads.sites c j l s) g in
      subst (λ k. cell_number b.program b.plan.row (b.plan.row c) t other x.held (cell_at b.program.cells c) (Found k) ≡ read_on (stage_value x.held) (after (stage_value x.held) (maps_of t) (take j b.program.sites)) (site_at b.program.sites j) (Found k)) (sym same)
      (ap (λ u. bit (not (is_null u))) q.0 ∙ r.found (fit.rows.reads.finds c j l (is ∙ ap Found same)))
  number_is c j l g (Answer i) is e =
      let same : i ≡ j = cc in
      let s : site_in (cell_at b.program.cells c).op ≡ Some j = ap site_in is ∙ e in
      let q = both_seen seen b t other x fit own reads path c j l s g in
      let r = reads_at j (fit.rows.reads.sites c j l s) g in
      subst (λ k. cell_number b.program b.plan.row (b.plan.row c) t other x.held (cell_at b.program.cells c) (Answer k) ≡ read_on (stage_value x.held) (after (stage_value x.held) (maps_of t) (take j b.program.sites)) (site_at b.program.sites j) (Answer k)) (sym same)
      (q.1 ∙ r.answer (fit.rows.reads.answers c j l (is ∙ ap Answer same)))
  number_is c j l g op is e = cc

  pub cell_run : (packet : PacketIn) → Computes b packet (suc b.plan.last) x.held → ReadsFit b (suc b.plan.last) x.held → IsCellRun packet (maps_of t) b.program (stage_value x.held)
  cell_run packet k fits = record {
    each = λ c l.
        let d = cell_at b.program.cells c in
        record {
          solves = solved c l (is_read d.op) refl;
          answers = λ j e g. (path c j l e g).value ∙ ap (λ n. bits_from n d.from d.width) (number_is c j l g d.op refl e);
        };
  }
    where
      solved : (c : ℕ) → c < length b.program.cells → (r : Bool) → is_read (cell_at b.program.cells c).op ≡ r → Solves_as r packet (stage_value x.held) (cell_at b.program.cells c) (stage_value x.held c)
      solved c l true e = fits c l (fit.rows.reads.planned.last c l) e
      solved c l false e = k.each c l (fit.rows.reads.planned.last c l) e
