pub mod Field
pub mod Line
pub mod Into
pub mod Place
pub mod Answer
