use Rattle.std.proofs.Common.{◌∙◌, arith}
use Rattle.elf_view.specs.File.{e_shnum}
use Rattle.xdp_object.specs.Relocations.{cut_table}
use Rattle.xdp_object.proofs.Searches.{passed}
use Rattle.xdp_object.proofs.relocations.check_tables.Goals as goal
use Rattle.btf_view.proofs.list_laws_laws.FirstLaws.{first_from-more}

pub loop-i-preserved : goal.loop-i-preserved
loop-i-preserved c =
    c.loop-i.invariant ∙ first_from-more (cut_table c.args.view.now c.args.target) c.loop-i.i (e_shnum c.args.view.now) (omega arith)
    (passed _ _ _ c.is_cut.ensures c.if-is_cut.false)
