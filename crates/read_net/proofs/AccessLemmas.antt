-- Earlier operations as an access sees them.
use Rattle.std.proofs.Common.{◌∙◌, ℕ, suc, ◌<◌, All, List, [], ◌∷◌, length, get_or, sym, ap, subst, arith}
use Rattle.std.proofs.lemmas.List.{length-map}
use Rattle.std.proofs.lemmas.List.Elements.{All-append}
use Rattle.block_core.proofs.list_laws_laws.PlaceLaws.{some_of}
use Rattle.block_core.specs.net_core.Value.{Env}
use Rattle.overlay_net.specs.cell_core.Formed.{HasWords, IsInside}
use Rattle.overlay_net.specs.cell_core.Sites.{ProgramView}
use Rattle.pipe_core.specs.hazard_core.StageValues.{StageValues}
use Rattle.pipe_core.specs.hazard_core.Tables.{TableState}
use Rattle.overlay_net.specs.cell_nets.declared.operand.Operand.{Operand}
use Rattle.overlay_net.specs.cell_nets.Operands.{IsOperand}
use Rattle.overlay_net.specs.declared.site_operands.Pending.{Pending}
use Rattle.overlay_net.specs.Seen.{read_of, all_read, IsSeen, ShowPending}
use Rattle.overlay_net.specs.ValueNet.Pendings.{taken_of, all_taken, IsFitting as FitsValue, IsOf, AreOf, ShowPendings}
use Rattle.overlay_net.specs.ValueNet.Words.{IsAligned}
use Rattle.read_net.specs.declared.sites.OwnSite.{OwnSite}
use Rattle.read_net.specs.declared.sites.MapNets.{MapNets}
use Rattle.read_net.specs.Sites.{sites_of, IsOwn, AreSeenOf}
use Rattle.read_net.specs.Accesses.{IsFitting, HaveOperands}
use Rattle.read_net.proofs.StandLemmas.{left_of, right_of, first_of}
use Rattle.read_net.proofs.SiteLemmas.{by_sites}

module _ {N : Type 0} (Q : Operand N → Type 0) where
  taken_one : (d : Pending N) → All Q (read_of d) → All Q (taken_of d)
  taken_one d h =
      first_of Q d.writes (d.written ∷ d.nets.now.operands.items) (h 0 d.writes (omega arith))
      (first_of Q d.written d.nets.now.operands.items (h 1 d.written (omega arith)) (right_of Q d.nets.now.key.items d.nets.now.operands.items (λ n e lt. h (suc (suc (suc (suc (suc (suc n)))))) e (omega (arith, lt)))))

  pub taken_all : (ds : List (Pending N)) → All Q (all_read ds) → All Q (all_taken ds)
  taken_all [] h = h
  taken_all (d ∷ ds) h = All-append Q (taken_of d) (all_taken ds) (taken_one d (left_of Q (read_of d) (all_read ds) h)) (taken_all ds (right_of Q (read_of d) (all_read ds) h))

module _ {N : Type 0} (m : MapNets N) (ss : List (OwnSite N)) (ds : List (Pending N)) (of : AreSeenOf ss ds) where
  pub all_fit : All (IsFitting m) ss → All (IsSeen m.decl.now.key m.bits) ds → All (FitsValue m.decl.now) ds
  all_fit fit seen k d lt =
      let l : k < length ss = omega (arith, lt, of.count) in
      let s = some_of ss k l in
      let e = of.each k s d lt in
      let f = fit k s l in
      record {
        aligned = subst IsAligned (sym e.act) f.aligned;
        words = subst (λ a. HasWords m.decl.now.value a (length (get_or ds k d).nets.now.operands.items)) (sym e.act) (subst (λ n. HasWords m.decl.now.value (get_or ss k s).act (length n.operands.items)) (sym e.nets) f.words);
        inside = subst (IsInside m.decl.now.value) (sym e.act) f.inside;
        operands = taken_one IsOperand (get_or ds k d) (seen k d lt).operands;
      }

  pub values_of : (p : ProgramView) (k : ℕ) → All (IsOwn p k) ss → HaveOperands p ss → AreOf p k (sites_of ss) ds
  values_of p k own counts = record {
    count = of.count ∙ sym (length-map ss (λ (s : OwnSite _). s.site));
    each =
        by_sites (λ j d. IsOf p k j d) ss ds
        (λ n s d lt.
        let o = own n s lt in
        let e = of.each n s d (omega (arith, lt, of.count)) in
        record { act = o.act ∙ sym e.act; map = o.map; count = ap (λ x. length x.operands.items) e.nets ∙ counts n s lt });
  }

pub shown_pendings : {N : Type 0} (v : Env N) (p : ProgramView) (t : TableState) (h : StageValues) (before : List ℕ) (ds : List (Pending N)) → ShowPending v p t h before ds → ShowPendings v p t h before ds
shown_pendings v p t h before ds k = record { each = λ n d lt. let s = k.each n d lt in record { asked = s.site.asked; writes = s.writes; written = s.written } }
