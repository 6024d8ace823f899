pub mod Kind
pub mod Tile
pub mod Shape
pub mod Rules
pub mod Mma
