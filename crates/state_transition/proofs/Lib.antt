pub mod ResolveLaws
pub mod SessionLaws
pub mod WaitLaws
