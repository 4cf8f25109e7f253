use Rattle.std.proofs.Common.{◌≡◌, ◌∙◌, None, ap, arith}
use Rattle.elf_view.specs.File.{e_shnum, symtab_at}
use Rattle.elf_view.proofs.SearchLaws.{symtab_at-other}
use Rattle.elf_view.proofs.rules.first_symtab.Goals as goal
use Rattle.list_laws.proofs.FirstLaws.{first_from-more}

pub loop-i-preserved : goal.loop-i-preserved
loop-i-preserved c =
    let bytes = c.args.bytes.now in
    let none : symtab_at bytes c.loop-i.i ≡ None =
    symtab_at-other bytes c.loop-i.i (λ e. c.if-section_at-eq-SYMTAB.false (ap (λ s. s.kind) c.section_at.ensures ∙ e)) in
    c.loop-i.invariant ∙ first_from-more (symtab_at bytes) c.loop-i.i (e_shnum bytes) (omega arith) none
