use Rattle.std.proofs.Common.{List, ℕ, refl, subst, sym, arith}
use Rattle.std.proofs.lemmas.List.{append-nil}
use Rattle.aes_modes.specs.Modes.{WasFed}
use Rattle.aes_modes.proofs.mac.CbcMac.feed_octets.Goals as goal

pub octets-init : goal.octets-init
octets-init c = record {
  key = refl;
  used = omega arith;
  fed = λ fed h. subst (λ (l : List ℕ). WasFed c.args.self.now l) (sym (append-nil fed)) h;
}
