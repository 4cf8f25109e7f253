use Rattle.std.proofs.Common.{◌∙◌, ℕ, get_or, sym, ap, arith}
use Rattle.elf_view.specs.File.{entry_count, rel_at, section_bytes}
use Rattle.xdp_object.specs.declared.relocated.Relocated.{Relocated}
use Rattle.xdp_object.specs.declared.relocated.Relocated.TheVariants.{Untouched}
use Rattle.xdp_object.specs.Relocations.{said_of}
use Rattle.xdp_object.proofs.Places.{together-end, together-step}
use Rattle.xdp_object.proofs.relocations.note_table.Goals as goal

pub loop-k-preserved : goal.loop-k-preserved
loop-k-preserved c = record {
  len = c.note.ensures.length ∙ c.loop-k.invariant.len;
  said = λ p below.
      let table = section_bytes c.args.view.now c.args.i in
      let says : ℕ → Relocated = λ k. said_of c.args.view.now c.args.function.now p (rel_at table k) in
      c.loop-k.invariant.said p below
      ∙ together-step says (get_or c.loop-k.places p Untouched) (said_of c.args.view.now c.args.function.now p c.rel.result) _
      c.loop-k.k (entry_count 16 table) (omega arith)
      (ap (said_of c.args.view.now c.args.function.now p) c.rel.ensures) (c.note.ensures.said p (omega (arith, below, c.loop-k.invariant.len)));
}

pub returns-clause-said : goal.returns-clause-said
returns-clause-said c = λ p below.
    let table = section_bytes c.args.view.now c.args.i in
    let says : ℕ → Relocated = λ k. said_of c.args.view.now c.args.function.now p (rel_at table k) in
    sym (c.loop-k.invariant.said p below ∙ together-end says (get_or c.loop-k.places p Untouched) c.loop-k.k (entry_count 16 table) (omega arith))
