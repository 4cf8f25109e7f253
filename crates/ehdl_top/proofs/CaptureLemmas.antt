-- Captures, packet by packet.
use Rattle.std.proofs.Common.{◌≡◌, ◌∷◌, Option, Some, None, Ok, ap, ◌∙◌}
use Rattle.pcap_core.specs.declared.record.Rec.{Rec}
use Rattle.pcap_core.specs.Next.{seen, GivesNext}
use Rattle.pcap_core.specs.Format.{Content}

-- a packet that `next` gave
pub next_some : (o : Option Rec) (r : Rec) (old new : Content) → o ≡ Some r → GivesNext (Ok o) old new → (old.packets ≡ seen r ∷ new.packets) × (new.fault ≡ old.fault) × (new.magic ≡ old.magic)
next_some (Some x) r old new e gives = (gives.0 ∙ ap (λ y. seen y ∷ new.packets) (same_rec x r e), gives.1, gives.2)
  where
    same_rec : (x r : Rec) → Some x ≡ Some r → x ≡ r
    same_rec x r e = cc
next_some None r old new e gives = absurd cc
