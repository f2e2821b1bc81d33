pub mod FormLaws
pub mod JoinLaws
pub mod MoveLaws
pub mod CountLaws
pub mod HintLaws
