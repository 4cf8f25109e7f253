-- What is declared, by its sort.
use Rattle.std.specs.Prelude.{Bool}
use Rattle.net_core.specs.declared.design.Declared.{Declared}
use Rattle.net_core.specs.Names.{is_integer, is_register, is_memory}
use Rattle.verilog_write.specs.declared.names.Sort.{Sort}
use Rattle.verilog_write.specs.declared.names.Sort.TheVariants.{Integer, Register, Memory}

abbrev pub is_of : Sort → Declared → Bool
is_of Integer = is_integer
is_of Register = is_register
is_of Memory = is_memory
