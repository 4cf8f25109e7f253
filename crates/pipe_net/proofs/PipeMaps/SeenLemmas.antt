-- The parts of a map in a clock.
use Rattle.std.proofs.Common.{◌≡◌, ℕ, ◌<◌, List, length, sym, ap, subst, arith}
use Rattle.block_core.specs.net_core.declared.ports.Inputs.{Inputs}
use Rattle.block_core.specs.net_core.declared.tree.Word.{Word}
use Rattle.block_core.specs.net_core.Ports.{words_of}
use Rattle.block_core.specs.net_core.Value.{Env}
use Rattle.block_core.specs.net_core.Clock.{Stored}
use Rattle.block_core.specs.declared.name.Name.{Name}
use Rattle.block_core.specs.Blocks.{Whole}
use Rattle.block_core.specs.Parts.{Sees}
use Rattle.hazard_core.specs.Tables.{TableState, decl_of}
use Rattle.read_net.specs.array_net.Hosts.{SeesHost}
use Rattle.commit_net.specs.MapBlock.Parts.{AreParts, SolveAll}
use Rattle.commit_net.specs.MapBlock.Stored.{SeesStored, IsMapOf}
use Rattle.commit_net.specs.MapBlock.Laws.{SeesParts}
use Rattle.pipe_net.specs.declared.parts.Part.{Part}
use Rattle.pipe_net.specs.Parts as part
use Rattle.pipe_net.specs.Machine.{access_in}
use Rattle.pipe_net.specs.Layout.{Layout}
use Rattle.pipe_net.specs.PipeTurns.Parts.{form_at, AreActionParts}
use Rattle.pipe_net.specs.PipeMaps.Parts.{parts_at}
use Rattle.pipe_net.specs.PipeMaps.Premises.{HasMaps}
use Rattle.pipe_net.proofs.PipeMaps.AmongLemmas.{map_among}

module _ (l : Layout) (d : Whole Part) (action : AreActionParts l d) (is : HasMaps l d action) (m : ℕ) (there : m < length l.decls) where
  pub are_parts : AreParts d (parts_at l m) (is.parts.maps m there).trees
  are_parts =
      let among = λ (at : ℕ) (few : at < 6). map_among l d is.sized is.places m at there few in
      record { among = (among 0 (omega arith), among 1 (omega arith), among 2 (omega arith), among 3 (omega arith)); blocks = (is.parts.maps m there).blocks }

  pub are_solved :
      SeesParts Part → (ins : List Word) (ss : Part → Stored) (v : Env (Name Part)) → Sees d ins ss v → SolveAll v (parts_at l m) (is.parts.maps m there).trees × SeesStored (part.own l.sizes m) v (ss (part.own l.sizes m))
  are_solved seen ins ss v sees = seen d ins ss v (parts_at l m) (is.parts.maps m there).trees sees are_parts

  pub is_map_of : (t : TableState) → t.decls ≡ l.decls → IsMapOf t (form_at l m)
  is_map_of t same = record { there = subst (λ ds. m < length ds) (sym same) there; declared = ap (λ ds. decl_of ds m) same }

-- what stands at the ports of the host
pub sees_host : (d : Whole Part) (i : Inputs) (ss : Part → Stored) (v : Env (Name Part)) → Sees d (words_of i) ss v → SeesHost v (access_in i) i.host_data
sees_host d i ss v sees = record { map = sees.port _; index = sees.port _; number_of_word = sees.port _; content = sees.port _ }
