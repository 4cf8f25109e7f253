use Rattle.std.proofs.Common.{◌∙◌, ℕ, ◌+◌, ◌<◌, List, length, get_or, sym, ap, subst, arith}
use Rattle.std.proofs.lemmas.List.{length_push}
use Rattle.block_core.proofs.list_laws_laws.PlaceLaws.{each_more}
use Rattle.block_core.specs.declared.name.Name.{Name}
use Rattle.read_net.specs.declared.mark_net.nets.MarkSite.{MarkSite}
use Rattle.pipe_net.specs.declared.parts.Part.{Part}
use Rattle.place_parts.specs.MarkParts.Marks.{IsMark}
use Rattle.place_parts.proofs.MarkParts.Forming.{read_in, few_in}
use Rattle.place_parts.proofs.mark_parts.marks.mark_sites.Goals as goal

pub mark_site-mark-requires-clause-there : goal.mark_site-mark-requires-clause-there
mark_site-mark-requires-clause-there c = read_in c.args.layout.now c.args.k c.args.reads.now c.requires.reads c.loop-i.i c.loop-i-test.true

pub mark_site-mark-requires-clause-few : goal.mark_site-mark-requires-clause-few
mark_site-mark-requires-clause-few c = few_in c.args.layout.now c.args.k c.args.reads.now c.requires.layout c.requires.reads c.loop-i.i c.loop-i-test.true

pub loop-i-preserved : goal.loop-i-preserved
loop-i-preserved c =
    let a = c.args in
    let l = c.loop-i in
    let e = c.in_ok-push.ensures.items in
    let x = c.mark_site-mark.result in
    record {
      count = ap length e ∙ length_push l.all.items x ∙ omega (arith, l.invariant.count);
      each = subst (λ (xs : List (MarkSite (Name Part))). (i : ℕ) (m : MarkSite (Name Part)) → i < l.i + 1 → IsMark a.layout.now a.sites.now a.changes.now a.k i (get_or xs i m)) (sym e)
          (each_more (IsMark a.layout.now a.sites.now a.changes.now a.k) l.all.items l.i x l.invariant.count l.invariant.each c.mark_site-mark.ensures);
    }
