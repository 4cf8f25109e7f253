use Rattle.std.proofs.Common.{◌∙◌, arith}
use Rattle.elf_view.specs.File.{e_shnum}
use Rattle.xdp_object.specs.Maps.{btf_section}
use Rattle.xdp_object.proofs.Searches.{passed}
use Rattle.xdp_object.proofs.maps.btf_bytes.Goals as goal
use Rattle.btf_view.proofs.list_laws_laws.FirstLaws.{first_from-more}

pub loop-i-preserved : goal.loop-i-preserved
loop-i-preserved c =
    c.loop-i.invariant ∙ first_from-more (btf_section c.args.view.now) c.loop-i.i (e_shnum c.args.view.now) (omega arith)
    (passed _ _ _ c.has_name.ensures c.if-has_name.false)
