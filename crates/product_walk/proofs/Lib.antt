pub mod ArcLaws
pub mod ProductLaws
pub mod PathLaws
pub mod LevelLaws
pub mod WayLaws
