-- Places of bytes: where they begin, and how many they are.
use Rattle.std.specs.Prelude.{ℕ, List, take, drop}
use Rattle.octets.specs.declared.place.Place.{Place}

-- the bytes of s at a place
unfoldable pub bytes_at : List ℕ → Place → List ℕ
bytes_at s p = take p.len (drop p.start s)
