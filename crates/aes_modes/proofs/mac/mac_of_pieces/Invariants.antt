use Rattle.std.proofs.Common.{◌≡◌, take}
use Rattle.std.specs.List.{flat_map}
use Rattle.aes_modes.specs.Modes.{WasFed}
use Rattle.aes_modes.proofs.mac.mac_of_pieces.Given as goal

abbrev pub invariant-each : goal.invariant-each
invariant-each l = record {
  key : l.mac.key ≡ l.key;
  fed : WasFed l.mac (flat_map (λ piece. piece.now) (take l.piece-index l.pieces));
}
