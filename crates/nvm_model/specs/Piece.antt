-- Plumbing: pieces of octets as writes.
use Rattle.std.specs.Prelude.{List, ◌∷◌, map}
use Rattle.nvm_model.specs.Write.{Write}
use Rattle.nvm_model.specs.declared.turns.Piece.{Piece}

-- the write of a piece
abbrev pub write_of : Piece → Write
write_of piece = record { at = piece.at; bytes = piece.bytes.now }

-- the writes of pieces in turn, of which there is at least one
abbrev pub writes_of : Piece → List Piece → List Write
writes_of first rest = write_of first ∷ map write_of rest
