use Rattle.std.proofs.Common.{◌≡◌, ◌∙◌, ℕ, List, length, sym, ap, subst, arith}
use Rattle.net_core.specs.Nets.{Netlist}
use Rattle.net_core.specs.View.{netlist_of}
use Rattle.net_core.specs.Clock.{first_stored}
use Rattle.net_core.specs.Trace.{NeverStops}
use Rattle.port_drive.specs.realization.HostHistory.Host.{load}
use Rattle.xdp_maps.specs.declared.decl.MapDecl.{MapDecl}
use Rattle.ehdl_build.specs.verilog_write.VerilogGrammar.Spelling.{Spells}
use Rattle.ehdl_top.proofs.RealizedLemmas.{opened}
use Rattle.ehdl_top.proofs.pipeline.open_pipeline.Goals as goal

pub open_loaded-requires-clause-few : goal.open_loaded-requires-clause-few
open_loaded-requires-clause-few c =
    let r = c.requires.realized in
    omega (arith, ap (λ (ds : List MapDecl). length ds) (c.requires.decls ∙ r.1.decls), r.1.is_program.maps)

pub open_loaded-requires-clause-goes : goal.open_loaded-requires-clause-goes
open_loaded-requires-clause-goes c =
    let r = c.requires.realized in
    let first = c.args.first.now in
    subst (λ (d : Netlist). NeverStops d (first_stored d) (load first))
    (c.in-Ok.ensures.design.only r.1.realizes.design (subst (λ (text : List ℕ). Spells text r.1.realizes.design) (sym c.deref.ensures.value) r.1.realizes.spells))
    (r.1.realizes.loads first (record { declared = c.requires.decls ∙ r.1.decls; sound = c.decls-decls.ensures.sound }))

pub returns-in-Ok : goal.returns-in-Ok
returns-in-Ok c = record {
  pipeline = opened c.args.built.now c.args.first.now (netlist_of c.in-Ok.design) c.open_loaded.result c.requires.decls c.decls-decls.ensures.sound
      (λ p r. c.in-Ok.ensures.design.only r.realizes.design (subst (λ (text : List ℕ). Spells text r.realizes.design) (sym c.deref.ensures.value) r.realizes.spells))
      c.open_loaded.ensures.netlist c.open_loaded.ensures.stored;
}
