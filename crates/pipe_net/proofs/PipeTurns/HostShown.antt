-- The part for the host says what the machine says of it.
use Rattle.std.specs.Prelude.{◌≡◌, ℕ, ◌<◌, if◌then◌else◌, Bool, true, false, None, Some, is_some, List, length}
use Rattle.std.proofs.Common.{get_or, refl, sym, ap, ◌∙◌, subst, arith}
use Rattle.block_core.specs.net_core.declared.ports.Inputs.{Inputs}
use Rattle.block_core.specs.net_core.declared.ports.TheConstants.{HOST_WRITE, HOST_MAP, HOST_INDEX, HOST_WORD, HOST_DATA}
use Rattle.block_core.specs.net_core.Ports.{words_of}
use Rattle.block_core.specs.net_core.Value.{word, bit, nothing, Env, value}
use Rattle.block_core.specs.net_core.Clock.{Stored}
use Rattle.block_core.specs.declared.name.Name.{Name}
use Rattle.block_core.specs.declared.name.Name.TheVariants as name
use Rattle.block_core.specs.Blocks.{Whole}
use Rattle.block_core.specs.Parts.{Sees}
use Rattle.hazard_core.specs.Tables.{decl_of}
use Rattle.read_net.specs.array_net.Hosts.{SeesHost}
use Rattle.control_net.specs.Control as control
use Rattle.control_net.specs.Block.{stored_words}
use Rattle.turn_net.specs.HostNet.Host.{Signals, Sees as SeesSignals}
use Rattle.turn_net.specs.HostNet.Laws.{Shows, Follows, HostFollows, LetWrite}
use Rattle.pipe_core.specs.Machine.{State, place_at, flushed, is_idle, host_ready, host_writes}
use Rattle.pipe_net.specs.declared.parts.Part.{Part}
use Rattle.pipe_net.specs.Parts as part
use Rattle.pipe_net.specs.Parts.{parts_of}
use Rattle.pipe_net.specs.Machine.{access_in}
use Rattle.pipe_net.specs.Layout.{Layout, IsSized, commit_of}
use Rattle.pipe_net.specs.Relation.{counts, HoldFrames, HoldMaps}
use Rattle.pipe_net.specs.Saying.{ShowReturns}
use Rattle.pipe_net.specs.PipeTurns.Parts.{done_net, form_at, host_nets, AreActionParts}
use Rattle.pipe_net.specs.PipeTurns.Hosting.{MapsAllow, ShowsHost, HostIsShown}
use Rattle.pipe_net.proofs.PipeTurns.Places.{commits_within, has_control, has_gather, has_host, has_action}
use Rattle.pipe_net.proofs.PipeTurns.Machine.{host_is}

-- the host's access writes where its port says so
write_is : (b : Bool) (n : ℕ) → b ≡ is_some (if b then Some n else None)
write_is true n = refl
write_is false n = refl

module _ (l : Layout) (d : Whole Part) (sized : IsSized l) (parts : AreActionParts l d) (listed : d.parts ≡ parts_of l.sizes) (allow : MapsAllow l d)
    (i : Inputs) (s : State) (ss : Part → Stored) (v : Env (Name Part)) (given : ℕ) (ns : List ℕ) (frames : HoldFrames l given ns s ss) (maps : HoldMaps l s ss) (sees : Sees d (words_of i) ss v) (returns : ShowReturns l s v) (law : HostFollows Part) where
  abbrev now : control.State
  now = counts given ns s

  -- ---- registers of other parts
  counter : (k : ℕ) → k < 9 → v.net (name.Register (part.control l.sizes) k) ≡ get_or (stored_words l.shape now) k nothing
  counter k lt =
      sees.register (part.control l.sizes) k (has_control l d sized listed) (subst (λ (x : Stored). k < length x.registers) (sym frames.control) (omega (arith, lt))) ∙ ap (λ (x : Stored). get_or x.registers k nothing) frames.control

  begun_is : v.net (host_nets l).partial ≡ bit (is_some s.part)
  begun_is =
      let size = frames.gather.registers in
      sees.register (part.gather l.sizes) 0 (has_gather l d sized listed) (subst (λ rs. 0 < length rs) (sym size) (omega arith)) ∙ ap (λ rs. get_or rs 0 nothing) size

  done_is : v.net (done_net l) ≡ word l.action_shape.bits s.done
  done_is =
      let size = maps.action.registers in
      sees.register (part.action l.sizes) 0 (has_action l d sized listed) (subst (λ rs. 0 < length rs) (sym size) (omega arith)) ∙ ap (λ rs. get_or rs 0 nothing) size

  -- ---- what the part sees
  abbrev signals : Signals
  signals = record { partial = is_some s.part; given = given; gathered = now.gathered; present = is_some (place_at s.places (commit_of l)); done = s.done; write = i.host_write }

  seen : SeesSignals l.shape.slots l.shape.slot_bits l.action_shape.bits (host_nets l) signals v
  seen =
      let sound = frames.sound in
      let g = sound.given in
      let a = sound.answered in
      let n = sound.injected in
      record {
        near = record { some = l.shape.some; after = omega arith; most = sound.gathered };
        given = record { slot = counter 1 (omega arith); lap = counter 0 (omega arith) };
        gathered = record { slot = counter 7 (omega arith); lap = counter 6 (omega arith) };
        partial = begun_is;
        present = returns.holds (commit_of l) (commits_within l sized);
        done = done_is;
        write = sees.port HOST_WRITE;
      }

  shown : Shows l.build s (access_in i) signals
  shown = record { partial = refl; inside = omega arith; present = refl; done = refl; write = write_is i.host_write i.host_data }

  follows : Follows (part.host l.sizes) parts.may v l.build s (access_in i)
  follows =
      law (part.host l.sizes) (host_nets l) parts.may (d.block (part.host l.sizes)) v l.shape.slots l.shape.slot_bits l.action_shape.bits signals l.build s (access_in i) parts.host (sees.wires (part.host l.sizes) (has_host l d sized listed)) seen shown

  -- ---- whether the host writes
  sees_host : SeesHost v (access_in i) i.host_data
  sees_host = record { map = sees.port HOST_MAP; index = sees.port HOST_INDEX; number_of_word = sees.port HOST_WORD; content = sees.port HOST_DATA }

  lets : LetWrite v parts.may (form_at l) s (access_in i)
  lets k lt =
      let many = parts.many in
      let there : k < length l.decls = omega (arith, lt, many) in
      let same = maps.decls in
      ap (value v) (parts.lets k there)
      ∙ allow k (words_of i) ss v s.tables (access_in i) i.host_data (is_idle s) there sees (record { there = subst (λ ds. k < length ds) (sym same) there; declared = ap (λ ds. decl_of ds k) same }) (maps.tables k there) sees_host follows.idle

  pub host_shown : ShowsHost l i s v
  host_shown = record {
    idle = follows.idle;
    ready = follows.ready;
    writes = follows.writes (form_at l) (λ k lt. refl) (parts.many ∙ sym (ap length maps.decls)) lets
        ∙ ap bit (host_is l.build s (flushed l.build 0 s.places) (host_writes (host_ready l.build s) (is_idle s) s.tables (Some (access_in i))));
  }

pub host_is_shown : HostFollows Part → HostIsShown
host_is_shown law = λ l d sized parts listed allow i s ss v given ns frames maps sees returns. host_shown l d sized parts listed allow i s ss v given ns frames maps sees returns law
