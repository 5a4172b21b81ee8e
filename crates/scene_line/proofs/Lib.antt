pub mod FieldLaws
pub mod KindLaws
