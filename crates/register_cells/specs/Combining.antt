-- In which row a result of arithmetic stands.
use Rattle.std.specs.Prelude.{ℕ, ◌+◌, max, not, Bool, false}
use Rattle.cell_core.specs.bpf_isa.declared.operation.AluCode.{AluCode}
use Rattle.cell_core.specs.bpf_isa.declared.operation.AluCode.TheVariants.{Add, Sub, Mul, Div, Mod, Mov, Lsh, Rsh, Arsh}
use Rattle.kind_core.specs.declared.kind.Kind.{Kind}
use Rattle.cell_core.specs.Cells.{bit}
use Rattle.operator_cells.specs.row_rules.PlaceRows.Reading.{is_number, is_known}

-- whether arithmetic with this second operand, that gives this kind, takes a row of its own
abbrev pub is_late : AluCode → Kind → Kind → Bool
is_late Add b x = is_number x
is_late Sub b x = is_number x
is_late Mul b x = is_number x
is_late Div b x = is_number x
is_late Mod b x = is_number x
is_late Lsh b x = not (is_known b)
is_late Rsh b x = not (is_known b)
is_late Arsh b x = not (is_known b)
is_late c b x = false

-- the row of what is made of two operands, by theirs
abbrev pub worked_row : AluCode → Kind → Kind → ℕ → ℕ → ℕ
worked_row code b x left right = max left right + bit (is_late code b x)

-- the row of a result: a move reads its second operand alone
abbrev pub combined_row : AluCode → Kind → Kind → ℕ → ℕ → ℕ
combined_row Mov b x left right = right
combined_row code b x left right = worked_row code b x left right
