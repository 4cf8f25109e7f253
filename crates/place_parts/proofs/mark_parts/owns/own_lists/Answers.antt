use Rattle.std.specs.declared.alloc.Global.{Global}
use Rattle.std.specs.declared.vec.Vec.{Vec}
use Rattle.std.proofs.Common.{◌≡◌, ◌∙◌, ℕ, ◌+◌, ◌<◌, List, length, get_or, sym, ap, subst, arith}
use Rattle.std.proofs.lemmas.List.{length_push}
use Rattle.block_core.proofs.list_laws_laws.PlaceLaws.{each_more}
use Rattle.hazard_core.specs.xdp_maps.declared.decl.MapDecl.{MapDecl}
use Rattle.block_core.specs.declared.name.Name.{Name}
use Rattle.read_net.specs.declared.touch_net.change.OwnKey.{OwnKey}
use Rattle.read_net.specs.TouchNet.Touching.{key_bytes}
use Rattle.pipe_net.specs.declared.parts.Part.{Part}
use Rattle.place_parts.specs.MarkParts.Places.{program_in}
use Rattle.place_parts.specs.MarkParts.Owns.{bytes_at, AreOwns}
use Rattle.place_parts.proofs.MarkParts.Forming.{read_in}
use Rattle.place_parts.proofs.mark_parts.owns.own_lists.Goals as goal

pub decl_at-requires-clause-site : goal.decl_at-requires-clause-site
decl_at-requires-clause-site c = read_in c.args.layout.now c.args.k c.args.reads.now c.requires.reads c.loop-i.i c.loop-i-test.true

pub loop-i-preserved : goal.loop-i-preserved
loop-i-preserved c =
    let a = c.args in
    let f = a.layout.now in
    let l = c.loop-i in
    let e = c.in_ok-push.ensures.items in
    let x = c.in_ok-owns.owns in
    let bytes : c.decl_at.result.now.key ≡ bytes_at f a.k l.i = ap (λ (d : MapDecl). d.key) c.decl_at.ensures ∙ ap (λ js. key_bytes (program_in f) f.decls.now (get_or js l.i 0)) c.requires.reads in
    record {
      count = ap length e ∙ length_push l.lists.items x ∙ omega (arith, l.invariant.count);
      each = subst (λ (xs : List (Vec (OwnKey (Name Part)) Global)). (i : ℕ) (d : Vec (OwnKey (Name Part)) Global) → i < l.i + 1 → AreOwns f a.sites.now (bytes_at f a.k i) (get_or xs i d).items) (sym e)
          (each_more (λ i (d : Vec (OwnKey (Name Part)) Global). AreOwns f a.sites.now (bytes_at f a.k i) d.items) l.lists.items l.i x l.invariant.count l.invariant.each (subst (λ n. AreOwns f a.sites.now n x.items) bytes c.in_ok-owns.ensures));
    }
