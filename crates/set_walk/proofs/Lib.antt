pub mod SetWalkLaws
