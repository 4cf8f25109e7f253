use Rattle.std.specs.Prelude.{◌^◌, ◌≤◌}
use Rattle.std.proofs.Common.{◌≡◌, ◌<◌, All, List, length, sym, subst, arith}
use Rattle.std.proofs.lemmas.List.{length-map}
use Rattle.hazard_core.specs.cell_core.View.{site_of}
use Rattle.commit_net.specs.declared.map_block.form.MapForm.{MapForm}
use Rattle.pipe_parts.specs.PipeDraft.PipelinePlan.{program_in}
use Rattle.pipe_parts.proofs.turn_parts.action.action_shape.Goals as goal

pub returns : goal.returns
returns c =
    let d = c.args.pipeline_plan.now in
    let sites = d.program.now.sites.items in
    let many : c.len.result ≡ length (program_in d).sites = omega (arith, c.len.ensures, length-map sites site_of) in
    let forms = c.deref.ensures.value in
    record {
      bits = record { some = c.bits_for.ensures.some; most = omega (arith, c.bits_for.ensures.most) };
      slot_bits = record { some = c.slot_bits.ensures.some; most = omega (arith, c.slot_bits.ensures.most) };
      numbers = subst (λ n. n < 2 ^ c.bits_for.result) many c.bits_for.ensures.room;
      slots = subst (λ (fs : List MapForm). All (λ f. f.bits ≤ c.slot_bits.result) fs) forms c.slot_bits.ensures.each;
      least = λ w lt h. c.bits_for.ensures.least w lt (subst (λ n. n < 2 ^ w) (sym many) h);
      least_slots = λ w lt h. c.slot_bits.ensures.least w lt (subst (λ (fs : List MapForm). All (λ f. f.bits ≤ w) fs) (sym forms) h);
    }
