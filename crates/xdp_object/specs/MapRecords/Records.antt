-- The records of the section `maps`: what libbpf before 1.0 calls `struct bpf_map_def`. A record has five numbers of 4
-- bytes, which are type, key_size, value_size, max_entries and map_flags. What stands after them is zero.
use Rattle.std.specs.Prelude.{ℕ, ◌+◌, ◌==◌, nat_lt, ◌||◌, if◌then◌else◌, List, length, take, drop, Some, Result, Ok, Err}
use Rattle.std.specs.List.{list_all}
use Rattle.btf_view.specs.Numbers.{u32_at}
use Rattle.btf_view.specs.declared.fields.MapFields.{MapFields}
use Rattle.xdp_object.specs.declared.map_records.fault.MapRule.{MapRule}
use Rattle.xdp_object.specs.declared.map_records.fault.MapRule.TheVariants.{Record, Tail}

abbrev pub words_of : List ℕ → MapFields
words_of bytes = record {
  kind = Some (u32_at bytes 0);
  key = u32_at bytes 4;
  value = u32_at bytes 8;
  cap = u32_at bytes 12;
  flags = u32_at bytes 16;
}

abbrev pub words_alone : List ℕ → Result MapFields MapRule
words_alone bytes = if list_all (λ b. b == 0) (drop 20 bytes) then Ok (words_of bytes) else Err Tail

-- what a record of `size` bytes says, from place `value` of its section on
unfoldable pub record_fields : (section : List ℕ) (value size : ℕ) → Result MapFields MapRule
record_fields section value size =
    if nat_lt (length section) (value + size) || nat_lt size 20 then Err Record
    else words_alone (take size (drop value section))
