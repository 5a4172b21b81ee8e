-- 01, main.rs: "Canonical witness: the lock field becomes an empty Bytes, fields 2 and 3 are copied."
use Rattle.std.specs.Prelude.{ℕ, ◌+◌, ◌≡◌, List, [], ◌∷◌, ◌++◌, length, take, Result}
use Rattle.octets.specs.Layout.{Field}
use Rattle.protocol.specs.Rows.{AllPass, Check}
use Rattle.protocol.specs.Write.{write_fault, write_answer, after_write}
use Rattle.protocol.specs.declared.error.ProtocolError.{ProtocolError}
use Rattle.protocol.specs.declared.error.ProtocolError.TheVariants.{InvalidWitness}
use Rattle.molecule.specs.Molecule.{bytes_vector, table_bytes}
use Rattle.molecule.specs.Table3.{table_rows, field1, field2, field3}

unfoldable pub canonical_of : List ℕ → List ℕ
canonical_of s = table_bytes (bytes_vector [] ∷ field2 s ∷ field3 s ∷ [])

-- the canonical witness is read back: "the lock field becomes an empty Bytes, fields 2 and 3 are copied"
pub record ReadBack (s : List ℕ) : Type 0 where
  pub accepted : (e : ProtocolError) → AllPass (table_rows e (canonical_of s))
  pub lock : field1 (canonical_of s) ≡ bytes_vector []
  pub second : field2 (canonical_of s) ≡ field2 s
  pub third : field3 (canonical_of s) ≡ field3 s

-- what the writer's checks find, for a buffer of `room` bytes: its table (22), then the room (5)
unfoldable pub canonical_room : List ℕ → ℕ → Check
canonical_room s room = write_fault (table_rows InvalidWitness s) (length (canonical_of s)) room

-- the writer's answer
unfoldable pub canonical_written : List ℕ → List ℕ → Result ℕ ProtocolError
canonical_written s out = write_answer (canonical_room s (length out)) (length (canonical_of s))

-- and the buffer afterwards
unfoldable pub canonical_stored : List ℕ → List ℕ → List ℕ
canonical_stored s out = after_write (canonical_room s (length out)) (canonical_of s) out

-- Its first 20 bytes: the total, the three offsets, and the length of the empty lock
unfoldable pub canonical_head : ℕ → ℕ → List Field
canonical_head total third =
    record { width = 4; value = total }
    ∷ record { width = 4; value = 16 }
    ∷ record { width = 4; value = 20 }
    ∷ record { width = 4; value = third }
    ∷ record { width = 4; value = 0 }
    ∷ []

-- The canonical witness without a copy: its first 20 bytes, and fields 2 and 3 of the witness; and its length from theirs
pub record Whole (s : List ℕ) : Type 0 where
  pub bytes : take 20 (canonical_of s) ++ (field2 s ++ field3 s) ≡ canonical_of s
  pub size : 20 + length (field2 s) + length (field3 s) ≡ length (canonical_of s)
