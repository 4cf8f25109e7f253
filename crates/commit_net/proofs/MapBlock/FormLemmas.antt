-- The form of a map.
use Rattle.std.proofs.Common.{◌≡◌, ℕ, ◌^◌, ◌<◌, ◌≤◌, sym, subst}
use Rattle.overlay_net.specs.xdp_maps.declared.decl.MapDecl.{MapDecl}
use Rattle.overlay_net.specs.xdp_maps.Contents.{IsWithinLimits}
use Rattle.commit_net.specs.MapBlock.Forms.{FormFits}

pub form_fits :
    (number bits : ℕ) (d e : MapDecl) → e ≡ d → number < 16 → IsWithinLimits d → 1 ≤ bits → bits ≤ 16 → d.cap ≤ 2 ^ bits → ((b : ℕ) → 1 ≤ b → d.cap ≤ 2 ^ b → bits ≤ b) → FormFits (record { number = number; bits = bits; decl = e })
form_fits number bits d e is n l some most room least = subst (λ x. FormFits (record { number = number; bits = bits; decl = x })) (sym is) (record { number = n; limits = l; some = some; most = most; room = room; least = least })
