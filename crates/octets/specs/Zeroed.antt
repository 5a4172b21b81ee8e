-- A slice zeroed: document 01, "both are zeroed first".
use Rattle.std.specs.Prelude.{ℕ, List, length, replicate}

-- as many zeros as the list has elements
abbrev pub zeroed : List ℕ → List ℕ
zeroed s = replicate (length s) 0
