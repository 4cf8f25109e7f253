-- The symbol table and its string table are sections of the file.
use Rattle.std.proofs.Common.{◌∙◌, ◌<◌, sym, subst}
use Rattle.elf_view.specs.File.{e_shnum}
use Rattle.elf_view.specs.declared.parts.Section.{Section}
use Rattle.xdp_object.proofs.Opened.{strings_below, symtab_below}
use Rattle.xdp_object.proofs.functions.symbol_name.Goals as goal

pub section-requires : goal.section-requires
section-requires c = symtab_below c.args.view.now c.in-Some.table (sym c.symbol_table.ensures ∙ c.in-Some.is)

pub name_of-requires : goal.name_of-requires
name_of-requires c =
    subst (λ (s : Section). s.link < e_shnum c.args.view.now) (sym c.section.ensures)
    (strings_below c.args.view.now c.in-Some.table c.requires.opened (sym c.symbol_table.ensures ∙ c.in-Some.is))
