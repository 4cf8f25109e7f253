use Rattle.std.proofs.Common.{◌<◌, List, length, subst, sym}
use Rattle.xdp_maps.specs.declared.decl.MapDecl.{MapDecl}
use Rattle.xdp_object.specs.Maps.{AreMaps, IsNameIn, MapTable}
use Rattle.xdp_object.proofs.TableLaws.{maps_are}
use Rattle.xdp_object.proofs.maps.MapTable.refer.Goals as goal

pub returns-clause-maps : goal.returns-clause-maps
returns-clause-maps c =
    let before : AreMaps (record { symbols = c.self.inside.symbols.items; decls = c.self.inside.decls.items }) =
    subst (λ (t : MapTable). AreMaps t) (sym c.self.view_is) c.requires.maps in
    maps_are c.self.inside.symbols.items c.push.new.self.items c.self.inside.decls.items c.push-2.new.self.items c.args.n c.in-Ok.decl
    c.in_ok-push.ensures.items c.in_ok-push-2.ensures.items before
    (subst (λ (ds : List MapDecl). length ds < 16) c.deref-2.ensures.value c.in-Ok.ensures.few) c.in-Ok.ensures.declaration
    (subst (λ (ds : List MapDecl). ¬ IsNameIn ds c.in-Ok.decl.name) c.deref-2.ensures.value c.in-Ok.ensures.free)
