use Rattle.std.proofs.Common.{rules, refl, ◌∙◌, ◌≡◌, ℕ, ◌<◌, Bool, true, sym, ap, arith, length, map as map_list}
use Rattle.std.proofs.lemmas.List.{length-map, get_or_default}
use Rattle.std.proofs.lemmas.List.Elements.{All-push}
use Rattle.block_core.specs.declared.name.Name.{Name}
use Rattle.hazard_core.specs.cell_core.View.{site_of}
use Rattle.overlay_net.specs.declared.site_operands.SiteNets.{SiteNets}
use Rattle.read_net.specs.declared.touch_net.change.OwnKey.{OwnKey}
use Rattle.pipe_net.specs.declared.parts.Part.{Part}
use Rattle.place_parts.specs.MarkParts.Places.{program_in}
use Rattle.place_parts.specs.MarkParts.Owns.{is_own, IsOwn}
use Rattle.place_parts.proofs.MarkParts.Listing.{kept_same}
use Rattle.place_parts.proofs.MarkParts.Owning.{own_more, own_bytes}
use Rattle.place_parts.proofs.mark_parts.owns.own_keys.Goals as goal
use Rattle.place_parts.proofs.mark_parts.owns.own_keys.Goals.{then-is_own+in_ok-push, else-is_own}

pub loop-j-preserved : goal.loop-j-preserved
loop-j-preserved c =
    let f = c.args.layout.now in
    let n : ℕ = c.loop-j.j in
    let q : ℕ → Bool = is_own (program_in f) f.decls.now c.args.bytes in
    let there : n < length c.args.sites.now = omega (arith, c.loop-j-test.true, c.len-j-end.ensures, c.requires.layout.few, c.requires.operands.count, length-map f.program.now.sites.items site_of) in
    elim c.if-is_own.branch [
      | then-is_own+in_ok-push w ↦
          let o : OwnKey (Name Part) = record { site = n; key = w.deref.result } in
          let yes : q n ≡ true = sym c.is_own.ensures ∙ w.if-is_own.true in
          let own : IsOwn f c.args.sites.now c.args.bytes o =
          record {
            known = there;
            bytes_are = own_bytes (program_in f) f.decls.now c.args.bytes n yes;
            key = λ s. w.deref.ensures.value ∙ ap (λ (x : SiteNets (Name Part)). x.key.items) (get_or_default c.args.sites.now n w.index-sites-j.result s there);
          } in
          search (rules, own_more q n c.loop-j.all.items o yes refl c.loop-j.invariant.are, All-push (IsOwn f c.args.sites.now c.args.bytes) c.loop-j.all.items o c.loop-j.invariant.each own)
      | else-is_own w ↦ search (rules, kept_same q n (map_list (λ (x : OwnKey (Name Part)). x.site) c.loop-j.all.items) (sym c.is_own.ensures ∙ w.if-is_own.false) c.loop-j.invariant.are)
    ]
