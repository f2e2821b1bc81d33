pub mod FactSetLaws
