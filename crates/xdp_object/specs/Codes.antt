-- What is written of a fault: its code, and then its numbers in decimal.
use Rattle.std.specs.Prelude.{ℕ, List, [], ◌++◌, codes, decimal}
use Rattle.btf_view.specs.declared.error.BtfError.{BtfError}
use Rattle.btf_view.specs.declared.error.BtfError.TheVariants as btf
use Rattle.elf_view.specs.declared.error.ElfError.{ElfError}
use Rattle.elf_view.specs.declared.error.ElfError.TheVariants.{Short, Header, Machine, Section, At}
use Rattle.xdp_object.specs.MapRecords.Rules.{number_of}
use Rattle.xdp_object.specs.declared.error.ObjectError.{ObjectError}
use Rattle.xdp_object.specs.declared.error.ObjectError.TheVariants.{Elf, NoProgram, ManyPrograms, Relocation, Map, Btf, Odd, Bad, Long, NoMemory}

abbrev pub elf_code_of : ElfError → List ℕ
elf_code_of (Short need) = codes "E1 " ++ decimal need
elf_code_of Header = codes "E2"
elf_code_of (Machine n) = codes "E3 " ++ decimal n
elf_code_of (Section n) = codes "E4 " ++ decimal n
elf_code_of (At at) = codes "E5 " ++ decimal at

abbrev pub btf_code_of : BtfError → List ℕ
btf_code_of btf.Short = codes "B1"
btf_code_of btf.Magic = codes "B2"
btf_code_of (btf.Kind id) = codes "B3 " ++ decimal id
btf_code_of btf.Depth = codes "B4"
btf_code_of (btf.Field member) = codes "B5 " ++ decimal member

-- want of memory is no fault of an object, and has no code
abbrev pub code_of : ObjectError → List ℕ
code_of (Elf e) = codes "O1 " ++ elf_code_of e
code_of NoProgram = codes "O2"
code_of (ManyPrograms count) = codes "O3 " ++ decimal count
code_of (Relocation at) = codes "O4 " ++ decimal at
code_of (Map symbol rule) = codes "O5 " ++ decimal symbol ++ codes " " ++ decimal (number_of rule)
code_of (Btf e) = codes "O6 " ++ btf_code_of e
code_of Odd = codes "O7 odd"
code_of (Bad at) = codes "O7 " ++ decimal at
code_of Long = codes "O8"
code_of NoMemory = []
