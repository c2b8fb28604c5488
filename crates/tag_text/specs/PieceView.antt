-- Plumbing: the pieces of the code as pieces of the definitions.
use Rattle.tag_text.specs.Pieces.{Piece, Start, Empty, End, Skipped}
use Rattle.tag_text.specs.declared.piece.Piece.{Piece as CodePiece}
use Rattle.tag_text.specs.declared.piece.Piece.TheVariants as code

abbrev pub piece_of : CodePiece → Piece
piece_of (code.Start name attributes) = Start name.now attributes
piece_of (code.Empty name attributes) = Empty name.now attributes
piece_of (code.End name) = End name.now
piece_of code.Skipped = Skipped
