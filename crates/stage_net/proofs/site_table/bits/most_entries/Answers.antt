use Rattle.std.proofs.Common.{rules, max, ◌≡◌, ◌≤◌, All, get_or, take, ap, sym, subst, arith}
use Rattle.std.proofs.lemmas.List.{take_all}
use Rattle.std.proofs.lemmas.List.Elements.{All-more, All-weaker}
use Rattle.hazard_core.specs.xdp_maps.declared.decl.MapDecl.{MapDecl}
use Rattle.stage_net.proofs.site_table.bits.most_entries.Goals as goal

pub loop-decl-preserved : goal.loop-decl-preserved
loop-decl-preserved c =
    let decls = c.args.decls.now in
    let n = c.loop-decl.decl-index in
    let d = c.decl-item.result in
    let here : (get_or decls n d).cap ≡ d.cap = ap (λ (x : MapDecl). x.cap) (sym c.decl-item.is) in
    let most : c.max-most.result ≡ max c.loop-decl.most d.cap = search rules in
    let small : (get_or decls n d).cap ≤ 65536 = c.requires n d c.loop-decl-test.true in
    record {
      each = All-more (λ (x : MapDecl). x.cap ≤ c.max-most.result) decls n d c.loop-decl-test.true
          (All-weaker (λ (x : MapDecl). x.cap ≤ c.loop-decl.most) (λ (x : MapDecl). x.cap ≤ c.max-most.result) (λ x h. omega (arith, h, most)) (take n decls) c.loop-decl.invariant.each) (omega (arith, here, most));
      small = omega (arith, here, small, c.loop-decl.invariant.small, most);
    }

pub returns-clause-most : goal.returns-clause-most
returns-clause-most c =
    subst (All (λ (x : MapDecl). x.cap ≤ c.loop-decl.most)) (take_all c.loop-decl.decl-index c.args.decls.now (omega (arith, c.loop-decl-test.false))) c.loop-decl.invariant.each
