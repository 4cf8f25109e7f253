-- The names of the ports, and their places.
use Rattle.std.specs.Prelude.{◌≡◌, [], ◌∷◌, codes, map}
use Rattle.std.proofs.Common.{get_or}
use Rattle.net_core.specs.declared.ports.TheConstants.{CLK, IN_VALID, IN_DATA, IN_BYTES, IN_LAST, IN_IFINDEX, IN_TIME, IN_READY, OUT_READY, OUT_VALID, OUT_DATA, OUT_BYTES, OUT_LAST, OUT_VERDICT, OUT_TARGET, OUT_RELOAD, HOST_WRITE, HOST_MAP, HOST_INDEX, HOST_WORD, HOST_DATA, HOST_VALUE, HOST_READY, HOST_PASSED}
use Rattle.net_core.specs.Ports.{port_names}

-- At each place stands the port of its name.
abbrev pub ArePlaced : Type 0
ArePlaced =
    map (λ place. get_or port_names place [])
    (CLK ∷ IN_VALID ∷ IN_DATA ∷ IN_BYTES ∷ IN_LAST ∷ IN_IFINDEX ∷ IN_TIME ∷ IN_READY ∷ OUT_READY ∷ OUT_VALID ∷ OUT_DATA ∷ OUT_BYTES
    ∷ OUT_LAST ∷ OUT_VERDICT ∷ OUT_TARGET ∷ OUT_RELOAD ∷ HOST_WRITE ∷ HOST_MAP ∷ HOST_INDEX ∷ HOST_WORD ∷ HOST_DATA ∷ HOST_VALUE
    ∷ HOST_READY ∷ HOST_PASSED ∷ [])
    ≡ codes "clk" ∷ codes "in_valid" ∷ codes "in_data" ∷ codes "in_bytes" ∷ codes "in_last" ∷ codes "in_ifindex" ∷ codes "in_time"
    ∷ codes "in_ready" ∷ codes "out_ready" ∷ codes "out_valid" ∷ codes "out_data" ∷ codes "out_bytes" ∷ codes "out_last"
    ∷ codes "out_verdict" ∷ codes "out_target" ∷ codes "out_reload" ∷ codes "host_write" ∷ codes "host_map" ∷ codes "host_index"
    ∷ codes "host_word" ∷ codes "host_data" ∷ codes "host_value" ∷ codes "host_ready" ∷ codes "host_passed" ∷ []
