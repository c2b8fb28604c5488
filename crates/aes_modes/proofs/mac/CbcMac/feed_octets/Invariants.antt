use Rattle.std.proofs.Common.{◌≡◌, List, ℕ, ◌+◌, ◌%◌, ◌++◌, take}
use Rattle.aes_modes.specs.Modes.{WasFed}
use Rattle.aes_modes.proofs.mac.CbcMac.feed_octets.Given as goal

abbrev pub invariant-octets : goal.invariant-octets
invariant-octets l = record {
  key : l.self.key ≡ l.initial.self.key;
  used : l.self.used % 16 ≡ (l.initial.self.used + l.octet-index) % 16;
  fed : (fed : List ℕ) → WasFed l.initial.self fed → WasFed l.self (fed ++ take l.octet-index l.bytes);
}
