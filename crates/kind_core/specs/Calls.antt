-- Calls of helpers (bpf-helpers(7)): the table of their arguments and answers, and what is asked of arguments.
use Rattle.std.specs.Prelude.{ℕ, ℤ, pos, ◌+◌, ◌/◌, ◌+ℤ◌, nat_lt, Bool, true, false, if◌then◌else◌, Option, Some, None, Result, Ok, Err, List, [], ◌∷◌, length, get_or, slice_range}
use Rattle.xdp_machine.specs.bpf_isa.declared.helper.Helper.{Helper}
use Rattle.xdp_machine.specs.bpf_isa.declared.helper.Helper.TheVariants as helper
use Rattle.xdp_machine.specs.xdp_maps.declared.decl.MapDecl.{MapDecl}
use Rattle.kind_core.specs.declared.kind.Kind.{Kind}
use Rattle.kind_core.specs.declared.kind.Kind.TheVariants.{Num, Packet, Stack, MapRef, Maybe}
use Rattle.kind_core.specs.declared.kind.Kinds.{Kinds}
use Rattle.kind_core.specs.declared.helpers.Argument.{Argument}
use Rattle.kind_core.specs.declared.helpers.Argument.TheVariants.{Unused, Map, Key, Value, Plain}
use Rattle.kind_core.specs.declared.helpers.Answer.{Answer}
use Rattle.kind_core.specs.declared.helpers.Answer.TheVariants.{EntryOrNull, Plainly, AfterChange}
use Rattle.kind_core.specs.declared.helpers.Prototype.{Prototype}
use Rattle.kind_core.specs.declared.effects.Effect.{Effect}
use Rattle.kind_core.specs.declared.effects.Effect.TheVariants.{Lookup, Answered, Changed}
use Rattle.xdp_state.specs.declared.refusal.Why.{Why}
use Rattle.xdp_state.specs.declared.refusal.Why.TheVariants as why
use Rattle.kind_core.specs.Kinds.{register, key_bytes, value_bytes, is_hash}
use Rattle.kind_core.specs.Tests.{◌>>=◌, Test, passed, read_if, all_numbers, within}
use Rattle.kind_core.specs.Places.{in_packet}

-- what R1 to R5 are, and what R0 is afterwards
abbrev pub row : Argument → Argument → Argument → Argument → Argument → Answer → Prototype
row a b c d e answer = record { arguments = a ∷ b ∷ c ∷ d ∷ e ∷ []; answer = answer }

-- what a helper takes and answers
abbrev pub prototype_of : Helper → Prototype
prototype_of helper.Lookup = row Map Key Unused Unused Unused EntryOrNull
prototype_of helper.Update = row Map Key Value Plain Unused AfterChange
prototype_of helper.Delete = row Map Key Unused Unused Unused AfterChange
prototype_of helper.Time = row Unused Unused Unused Unused Unused Plainly
prototype_of helper.Redirect = row Plain Plain Unused Unused Unused Plainly

abbrev pub is_used : Argument → Bool
is_used Unused = false
is_used a = true

abbrev pub argument : Prototype → ℕ → Argument
argument p n = get_or p.arguments n Unused

-- the registers of the arguments are read: argument n, from 0, stands in the register after n
abbrev pub argument_read : Kinds → Prototype → ℕ → Test
argument_read k p n = read_if (is_used (argument p n)) (register k (n + 1))

abbrev pub all_read : Kinds → Prototype → Test
all_read k p =
    argument_read k p 0 >>= λ _.
    argument_read k p 1 >>= λ _.
    argument_read k p 2 >>= λ _.
    argument_read k p 3 >>= λ _.
    argument_read k p 4

abbrev pub arguments_read : Kinds → Option Helper → Test
arguments_read k None = passed
arguments_read k (Some h) = all_read k (prototype_of h)

-- a map of the program
abbrev pub declared : List MapDecl → Kind → Result ℕ Why
declared decls (MapRef q) = if nat_lt q (length decls) then Ok q else Err why.Argument
declared decls k = Err why.Argument

-- bytes for a helper: of the packet those that are checked, of the stack numbers at any place
abbrev pub region : Kinds → ℕ → Kind → Test
region k n (Packet o) = in_packet k.checked (pos o) n >>= λ _. passed
region k n (Stack o) = within (o +ℤ pos 512) n 512 >>= λ a. all_numbers (slice_range k.slots (a / 8) ((a + n + 7) / 8))
region k n (Maybe q node) = Err why.Null
region k n x = Err why.Argument

abbrev pub plain : Kind → Test
plain (Num n) = passed
plain k = Err why.Argument

-- what is asked of an argument: of the map that is meant R1 tells
abbrev pub fits_argument : List MapDecl → Kinds → Argument → Kind → Test
fits_argument decls k Unused x = passed
fits_argument decls k Map x = declared decls x >>= λ _. passed
fits_argument decls k Key x = declared decls (register k 1) >>= λ q. region k (key_bytes decls q) x
fits_argument decls k Value x = declared decls (register k 1) >>= λ q. region k (value_bytes decls q) x
fits_argument decls k Plain x = plain x

-- a change of a hash may take away what its entries are
abbrev pub change_of : List MapDecl → ℕ → Effect
change_of decls q = if is_hash decls q then Changed q else Answered

abbrev pub answer_of : List MapDecl → Kinds → Answer → Result Effect Why
answer_of decls k EntryOrNull = declared decls (register k 1) >>= λ q. Ok (Lookup q)
answer_of decls k Plainly = Ok Answered
answer_of decls k AfterChange = declared decls (register k 1) >>= λ q. Ok (change_of decls q)

abbrev pub argument_fits : List MapDecl → Kinds → Prototype → ℕ → Test
argument_fits decls k p n = fits_argument decls k (argument p n) (register k (n + 1))

abbrev pub called_as : List MapDecl → Kinds → Prototype → Result Effect Why
called_as decls k p =
    argument_fits decls k p 0 >>= λ _.
    argument_fits decls k p 1 >>= λ _.
    argument_fits decls k p 2 >>= λ _.
    argument_fits decls k p 3 >>= λ _.
    argument_fits decls k p 4 >>= λ _.
    answer_of decls k p.answer

-- a call of the helper of a number, if there is one
abbrev pub called : List MapDecl → Kinds → ℤ → Option Helper → Result Effect Why
called decls k id None = Err (why.Helper id)
called decls k id (Some h) = called_as decls k (prototype_of h)
