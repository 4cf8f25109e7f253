-- What holds of a file that was opened.
use Rattle.std.specs.Prelude.{ℕ, ◌≡◌, ◌+◌, ◌*◌, ◌^◌, ◌<◌, ◌≤◌, List, length, Option, None, IfSome}
use Rattle.elf_view.specs.File.{e_shnum, e_shoff, first_symtab}
use Rattle.elf_view.specs.Rules.{AllInside, first_error}

-- there is no error; so its headers are whole, its sections are counted by 16 bits and stand in it, and this is its first symbol table
pub record IsOpened (bytes : List ℕ) (symtab : Option ℕ) : Type 0 where
  pub no_error : first_error bytes ≡ None
  pub header : 64 ≤ length bytes
  pub headers : e_shoff bytes + 64 * e_shnum bytes ≤ length bytes
  pub few : e_shnum bytes < 2 ^ 16
  pub inside : AllInside bytes
  pub first : symtab ≡ first_symtab bytes
  pub below : IfSome symtab (λ i. i < e_shnum bytes)
