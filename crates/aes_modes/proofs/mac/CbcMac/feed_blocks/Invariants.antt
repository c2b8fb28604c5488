use Rattle.std.proofs.Common.{◌≡◌, List, ℕ, ◌*◌, ◌%◌, ◌<◌, ◌++◌, length, take}
use Rattle.aes_modes.specs.Modes.{WasFed}
use Rattle.aes_modes.proofs.mac.CbcMac.feed_blocks.Given as goal

abbrev pub invariant-each : goal.invariant-each
invariant-each l = record {
  key : l.self.key ≡ l.initial.self.key;
  between : 0 < length l.blocks → l.self.used % 16 ≡ 0;
  fed : (fed : List ℕ) → WasFed l.initial.self fed → WasFed l.self (fed ++ take (16 * l.n) l.blocks);
}
