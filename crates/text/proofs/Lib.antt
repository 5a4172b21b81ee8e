pub mod Pieces
pub mod RangeLaws
pub mod HexLaws
pub mod DecimalLaws
pub mod PrintLaws
pub mod Splits
