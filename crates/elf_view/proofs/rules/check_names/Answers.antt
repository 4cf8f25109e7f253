-- A name below the end of the strings ends.
use Rattle.std.proofs.Common.{◌≡◌, ◌∙◌, ℕ, ◌<◌, List, true, ltb, cond, Some, None, ap, arith}
use Rattle.std.proofs.lemmas.Bool.Decides.{nat_tests}
use Rattle.std.specs.Option.{is_some}
use Rattle.elf_view.specs.File.{e_shnum, section_at, string_at}
use Rattle.elf_view.specs.Rules.{name_open}
use Rattle.elf_view.specs.declared.error.ElfError.TheVariants.{At}
use Rattle.elf_view.proofs.rules.check_names.Goals as goal
use Rattle.list_laws.proofs.FirstLaws.{first_from-more}

name_open-below : (bytes table : List ℕ) (i end : ℕ) → ((at : ℕ) → is_some (string_at table at) ≡ ltb at end)
    → (section_at bytes i).name < end → name_open bytes table i ≡ None
name_open-below bytes table i end ends below =
    let at = (section_at bytes i).name in
    let inside : ltb at end ≡ true = grind (arith, nat_tests) in
    ap (λ b. cond b None (Some (At at))) (ends at ∙ inside)

pub loop-i-preserved : goal.loop-i-preserved
loop-i-preserved c =
    let bytes = c.args.bytes.now in
    let table = c.args.table.now in
    let name = ap (λ s. s.name) c.section_at-at.ensures in
    let none = name_open-below bytes table c.loop-i.i c.strings_end-end.result c.strings_end-end.ensures
    (omega (arith, name, c.if-at-end.false)) in
    c.loop-i.invariant ∙ first_from-more (name_open bytes table) c.loop-i.i (e_shnum bytes) (omega arith) none
