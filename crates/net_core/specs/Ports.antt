-- The ports that every design has, in their order, and what stands at them in a clock.
use Rattle.std.specs.Prelude.{ℕ, ◌^◌, ◌<◌, ◌==◌, if◌then◌else◌, true, false, List, [], ◌∷◌, map, replicate, slice_set}
use Rattle.std.proofs.Common.{get_or}
use Rattle.net_core.specs.declared.tree.Word.{Word}
use Rattle.net_core.specs.declared.design.Port.{Port}
use Rattle.net_core.specs.declared.ports.Inputs.{Inputs}
use Rattle.net_core.specs.declared.ports.Outputs.{Outputs}
use Rattle.net_core.specs.declared.ports.TheConstants.{PORT_COUNT, PORTS, PORT_NAMES, IN_VALID, IN_DATA, IN_BYTES, IN_LAST, IN_IFINDEX, IN_TIME, IN_READY, OUT_READY, OUT_VALID, OUT_DATA, OUT_BYTES, OUT_LAST, OUT_VERDICT, OUT_TARGET, OUT_RELOAD, HOST_WRITE, HOST_MAP, HOST_INDEX, HOST_WORD, HOST_DATA, HOST_VALUE, HOST_READY, HOST_PASSED}
use Rattle.net_core.specs.Nets.{Netlist}
use Rattle.net_core.specs.Value.{word, number_of}
use Rattle.net_core.specs.Clock.{Stored, shown}

abbrev pub input : ℕ → Port
input w = record { output = false; width = w }

abbrev pub output : ℕ → Port
output w = record { output = true; width = w }

abbrev pub port_list : List Port
port_list = PORTS

abbrev pub port_names : List (List ℕ)
port_names = map (λ name. name.now) PORT_NAMES

-- the width that is read of a port, and the one that is assigned to it
abbrev pub input_width : Port → ℕ
input_width p = if p.output then 0 else p.width

abbrev pub output_width : Port → ℕ
output_width p = if p.output then p.width else 0

-- ---- inputs
abbrev pub at_place : ℕ → ℕ → List ℕ → List ℕ
at_place place number numbers = slice_set numbers place number

-- the number at each port, by its place: `clk` and the outputs have none
abbrev pub numbers_of : Inputs → List ℕ
numbers_of i =
    at_place HOST_DATA i.host_data (at_place HOST_WORD i.host_word (at_place HOST_INDEX i.host_index (at_place HOST_MAP i.host_map
    (at_place HOST_WRITE (number_of i.host_write) (at_place OUT_READY (number_of i.out_ready) (at_place IN_TIME i.in_time
    (at_place IN_IFINDEX i.in_ifindex (at_place IN_LAST (number_of i.in_last) (at_place IN_BYTES i.in_bytes (at_place IN_DATA i.in_data
    (at_place IN_VALID (number_of i.in_valid) (replicate PORT_COUNT 0))))))))))))

abbrev pub words_by : List Port → List ℕ → List Word
words_by [] ns = []
words_by (p ∷ ps) [] = []
words_by (p ∷ ps) (n ∷ ns) = word (input_width p) n ∷ words_by ps ns

-- the words at the ports, by their place
abbrev pub words_of : Inputs → List Word
words_of i = words_by port_list (numbers_of i)

-- each number fits its port
pub record AreInputs (i : Inputs) : Type 0 where
  pub bytes : i.in_bytes < 16
  pub map : i.host_map < 16
  pub word : i.host_word < 16

-- what the types of inputs say
pub record FitInputs (i : Inputs) : Type 0 where
  pub frame : i.in_data < 2 ^ 64
  pub interface : i.in_ifindex < 2 ^ 32
  pub time : i.in_time < 2 ^ 64
  pub index : i.host_index < 2 ^ 16
  pub word : i.host_data < 2 ^ 64

-- ---- outputs
-- the number that each output shows fits it
abbrev pub FitOutputs : (ℕ → ℕ) → Type 0
FitOutputs at = (port : ℕ) → at port < 2 ^ output_width (get_or port_list port (record { output = false; width = 0 }))

-- what the outputs show where these numbers stand at their places
abbrev pub outputs_at : (ℕ → ℕ) → Outputs
outputs_at at = record {
  in_ready = at IN_READY == 1;
  out_valid = at OUT_VALID == 1;
  out_data = at OUT_DATA;
  out_bytes = at OUT_BYTES;
  out_last = at OUT_LAST == 1;
  out_verdict = at OUT_VERDICT;
  out_target = at OUT_TARGET;
  out_reload = at OUT_RELOAD == 1;
  host_value = at HOST_VALUE;
  host_ready = at HOST_READY == 1;
  host_passed = at HOST_PASSED;
}

-- what the outputs show in a clock
abbrev pub outputs_of : Netlist → Inputs → Stored → Outputs
outputs_of d i s = outputs_at (λ port. (shown d (words_of i) s port).value)
