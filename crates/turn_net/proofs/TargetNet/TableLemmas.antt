-- Maps before anything is written are sound, so there are tables of them.
use Rattle.std.proofs.Common.{◌≡◌, ℕ, suc, ◌<◌, List, length, get_or, replicate, sym, subst, arith}
use Rattle.std.proofs.lemmas.List.{get_or-map, length-map, get_or-replicate, length-replicate}
use Rattle.std.specs.FinMap as map
use Rattle.hazard_core.specs.xdp_maps.declared.decl.MapDecl.{MapDecl}
use Rattle.hazard_core.specs.xdp_maps.Contents.{Contents, IsWithinLimits, IsOver, opened}
use Rattle.hazard_core.specs.xdp_maps.Laws.{KeepsOver}
use Rattle.hazard_core.specs.xdp_maps.State.{no_decl, opened_state, decl_at, IsSound}
use Rattle.hazard_core.specs.Tabled.{IsTable, LoadsTables}
use Rattle.hazard_core.specs.Tables.{table_at}
use Rattle.turn_net.specs.TargetNet.Tables.{first_tables, TablesAreThere}

pub tables_there : ((d : MapDecl) (c : Contents) → KeepsOver d c) → LoadsTables → TablesAreThere
tables_there keeps loads d m within = record { decl = here m last; table = subst (λ e. IsTable e (table_at (first_tables d m) m)) (here m last) ((loads (opened_state ds) sound).each m last) }
  where
    ds : List MapDecl
    ds = replicate (suc m) d

    last : m < length ds
    last = omega (arith, length-replicate (suc m) d)

    here : (k : ℕ) → k < length ds → get_or ds k no_decl ≡ d
    here k lt = get_or-replicate (suc m) k d no_decl (omega (arith, lt, length-replicate (suc m) d))

    limits : (k : ℕ) → k < length ds → IsWithinLimits (decl_at (opened_state ds) k)
    limits k lt = subst IsWithinLimits (sym (here k lt)) within

    sound : IsSound (opened_state ds)
    sound = record { beside = length-map ds opened; limits = limits; over = λ k lt. subst (IsOver (decl_at (opened_state ds) k)) (sym (get_or-map opened ds k no_decl map.empty lt)) ((keeps (decl_at (opened_state ds) k) map.empty).opens (limits k lt)) }
