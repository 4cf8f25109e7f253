-- What stands at the ports, for the machine of the pipe.
use Rattle.std.specs.Prelude.{◌≡◌, ℕ, ◌<◌, nat_lt, Some, is_some}
use Rattle.beat_core.specs.declared.beat.Beat.{Beat}
use Rattle.beat_core.specs.declared.frame.TheConstants.{BEAT_LIMIT}
use Rattle.beat_core.specs.Beats.{IsOffer}
use Rattle.block_core.specs.net_core.declared.tree.Word.{Word}
use Rattle.block_core.specs.net_core.declared.ports.Inputs.{Inputs}
use Rattle.block_core.specs.net_core.declared.ports.TheConstants.{IN_READY, OUT_VALID, OUT_DATA, OUT_BYTES, OUT_LAST, OUT_VERDICT, OUT_TARGET, OUT_RELOAD, HOST_VALUE, HOST_READY, HOST_PASSED}
use Rattle.block_core.specs.net_core.Value.{word, bit}
use Rattle.block_core.specs.net_core.Trace.{IsInput}
use Rattle.commit_net.specs.frame_net.Frames.{position_of}
use Rattle.pipe_core.specs.Machine.{State, Output, Build, beat_over}
pub use Rattle.pipe_core.specs.HostRuns.Inputs.{beat_in, access_in, input_of}

-- ---- inwards
-- What may come: numbers of the widths of their ports, and as a beat that goes over an offer, of a frame that has room for it.
pub record MayCome (b : Build) (s : State) (i : Inputs) : Type 0 where
  pub fits : IsInput i
  pub offer : (x : Beat) → beat_over b s (input_of i) ≡ Some x → IsOffer x
  pub room : (x : Beat) → beat_over b s (input_of i) ≡ Some x → position_of s.part < BEAT_LIMIT

-- ---- outwards
-- a beat, and the verdict and the target beside it
pub record ShowsBeat (o : Output) (x : Beat) (at : ℕ → Word) : Type 0 where
  pub content : at OUT_DATA ≡ word 64 x.word
  pub bytes : at OUT_BYTES ≡ word 4 x.bytes
  pub last : at OUT_LAST ≡ bit x.last
  pub verdict : at OUT_VERDICT ≡ word 32 o.verdict
  pub target : at OUT_TARGET ≡ word 32 o.target

-- What the outputs show. Where no beat is shown, those that go with it may be any.
pub record Shows (o : Output) (at : ℕ → Word) : Type 0 where
  pub ready : at IN_READY ≡ bit o.ready
  pub valid : at OUT_VALID ≡ bit (is_some o.beat)
  pub beat : (x : Beat) → o.beat ≡ Some x → ShowsBeat o x at
  pub reload : at OUT_RELOAD ≡ bit (nat_lt 0 o.reloaded)
  pub host_value : at HOST_VALUE ≡ word 64 o.host_value
  pub host_ready : at HOST_READY ≡ bit o.host_ready
  pub passed : at HOST_PASSED ≡ word 32 o.host_passed
