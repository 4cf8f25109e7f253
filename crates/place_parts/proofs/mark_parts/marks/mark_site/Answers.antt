use Rattle.std.proofs.Common.{◌≡◌, ◌∙◌, ℕ, ◌<◌, length, sym, ap, subst, arith}
use Rattle.std.proofs.lemmas.List.{get_or_default}
use Rattle.hazard_core.specs.xdp_maps.declared.decl.MapDecl.{MapDecl}
use Rattle.hazard_core.specs.cell_core.Sites.{site_at}
use Rattle.overlay_net.specs.cell_nets.declared.operand.Operand.TheVariants.{Net}
use Rattle.read_net.specs.TouchNet.Touching.{key_bytes}
use Rattle.place_parts.specs.MarkParts.Places.{program_in}
use Rattle.place_parts.specs.MarkParts.Owns.{bytes_at, AreOwns}
use Rattle.place_parts.proofs.MarkParts.Taking.{change_of}
use Rattle.place_parts.proofs.mark_parts.marks.mark_site.Goals as goal

pub returns : goal.returns
returns c =
    let f = c.args.layout.now in
    let j : ℕ = c.args.j in
    let there : j < length c.args.sites.now = omega (arith, c.requires.there, c.requires.operands.count) in
    let bytes : bytes_at f c.args.k c.args.i ≡ c.decl_at.result.now.key = ap (key_bytes (program_in f) f.decls.now) (sym c.requires.site) ∙ ap (λ (d : MapDecl). d.key) (sym c.decl_at.ensures) in
    let low : (site_at (program_in f).sites j).map < length c.args.changes.now = omega (arith, (c.requires.layout.fits j c.requires.there).map, c.requires.changes.count) in
    record {
      site = c.requires.site;
      known = c.requires.there;
      map_known = low;
      act = c.site_at-site.ensures.act;
      decl = c.decl_at.ensures;
      nets = λ s. c.index-sites-j.is ∙ get_or_default c.args.sites.now j c.index-sites-j.result s there;
      was = c.register.ensures;
      before = c.mark_before.ensures;
      change = change_of f.sizes c.args.k c.args.changes.now _ _ c.index-changes-site.result _ (sym c.site_at-site.ensures.map) low c.index-changes-site.is (record { comes = ap (λ n. Net n 1) c.comes.ensures; change = c.nets.ensures });
      owns = subst (λ b. AreOwns f c.args.sites.now b c.args.owns.now) bytes c.requires.owns;
    }
