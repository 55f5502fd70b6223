-- The pieces of a file as they are kept.
use Rattle.std.specs.Prelude.{List, map}
use Rattle.ro_image.specs.Image.{Piece}
use Rattle.ro_image.specs.declared.pieces.FilePiece.{FilePiece}

abbrev pub piece_of : FilePiece → Piece
piece_of piece = record { place = piece.place; bytes = piece.bytes.items }

abbrev pub pieces_in : List FilePiece → List Piece
pieces_in pieces = map piece_of pieces
