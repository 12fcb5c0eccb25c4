mod Placing
mod Pieces
