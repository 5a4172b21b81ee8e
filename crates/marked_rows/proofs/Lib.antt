pub mod MarkedRows
