-- The section of the section names is one of the file, and each section's name ends there.
use Rattle.std.proofs.Common.{List, ℕ, ◌∙◌, sym, ap, subst, arith}
use Rattle.std.specs.Option.{IsSome}
use Rattle.elf_view.specs.File.{section_at, section_bytes, string_at}
use Rattle.elf_view.specs.declared.parts.Section.{Section}
use Rattle.xdp_object.proofs.Opened.{names_below, section_named}
use Rattle.xdp_object.proofs.functions.is_program.Goals as goal

pub bytes_of-requires : goal.bytes_of-requires
bytes_of-requires c = omega (arith, c.requires.names, names_below c.args.view.now c.requires.opened)

pub begins_with_xdp-requires : goal.begins_with_xdp-requires
begins_with_xdp-requires c =
    let view = c.args.view.now in
    let i = c.from-section.result in
    let ends = section_named view i c.requires.opened (c.is_code_section.ensures.below c.if-not-is_code_section.false) in
    subst (λ (s : Section). IsSome (string_at c.bytes_of.result.now s.name)) (sym c.section.ensures)
    (subst (λ (t : List ℕ). IsSome (string_at t (section_at view i).name)) (sym (c.bytes_of.ensures ∙ ap (section_bytes view) c.requires.names)) ends)
