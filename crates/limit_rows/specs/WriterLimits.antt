-- The writers of states and of witness locks over their lent slices, as docs/LAYOUTS.md has them, computed from the definitions.
use Rattle.std.specs.Prelude.{ℕ, ◌+◌, ◌≡◌, List, [], ◌∷◌, ◌++◌, map, length, replicate, Ok}
use Rattle.octets.specs.Lists.{tabulate}
use Rattle.protocol.specs.Rows.{decide, check_number}
use Rattle.account_state_writer.specs.Writer.{slice_rows, state_from, state_written, state_stored}
use Rattle.account_witness_writer.specs.Writer.{witness_writer_rows, witness_written, witness_stored}

-- the slices of one entry whose numbers differ: slot, algorithm, capabilities, weight, length of aux; hash type, ABI, code hash, key,
-- aux
unfoldable pub slice_numbers : List ℕ
slice_numbers = 0x0102 ∷ 0x0103 ∷ 0x000b ∷ 0x0405 ∷ 3 ∷ []

unfoldable pub slice_bytes : List ℕ
slice_bytes = (0 ∷ 1 ∷ []) ++ tabulate (λ i. i + 6) 67

-- and the state of it
unfoldable pub sliced_state : List ℕ
sliced_state =
    (67 ∷ 75 ∷ 65 ∷ 83 ∷ 1 ∷ 2 ∷ 32 ∷ 0 ∷ 1 ∷ 2 ∷ 3 ∷ 4 ∷ 5 ∷ 6 ∷ 7 ∷ 8 ∷ 0x02 ∷ 0x01 ∷ 0x03 ∷ 0x01 ∷ 0 ∷ 0 ∷ 1 ∷ 0 ∷ [])
    ++ replicate 8 0
    ++ (83 ∷ 0 ∷ 0x02 ∷ 0x01 ∷ 0x03 ∷ 0x01 ∷ 0x0b ∷ 0x00 ∷ 0x05 ∷ 0x04 ∷ 0 ∷ 1 ∷ [])
    ++ tabulate (λ i. i + 6) 32
    ++ (32 ∷ 0 ∷ 3 ∷ 0 ∷ [])
    ++ tabulate (λ i. i + 38) 35

-- the writer's number, by flags, capabilities, length of aux, and a buffer of `room` bytes
abbrev state_writer_number : ℕ → ℕ → ℕ → ℕ → ℕ
state_writer_number flags capabilities aux room =
    check_number
    (state_written (state_from flags 0 1 1 0 0 (0 ∷ 1 ∷ capabilities ∷ 1 ∷ aux ∷ []) ((0 ∷ 1 ∷ []) ++ replicate (64 + aux) 0))
    (0 ∷ 1 ∷ capabilities ∷ 1 ∷ aux ∷ []) ((0 ∷ 1 ∷ []) ++ replicate (64 + aux) 0) (replicate room 0))

-- what its slices say, of one entry with an aux of n bytes
abbrev slices_number : ℕ → List ℕ → ℕ
slices_number n bytes = check_number (decide (Ok tt) (slice_rows (0 ∷ 1 ∷ 3 ∷ 1 ∷ n ∷ []) bytes))

-- the witness writer's number for n proofs of one byte, and a buffer of `room` bytes
abbrev witness_writer_number : ℕ → ℕ → ℕ → ℕ
witness_writer_number operation n room = check_number (witness_written operation (tabulate (λ i. i) n) (replicate n 1) (replicate n 0) (replicate room 0))

abbrev long_number : ℕ → List ℕ → ℕ
long_number n bytes = check_number (decide (Ok tt) (witness_writer_rows 1 (0 ∷ []) (n ∷ []) bytes))

pub record WriterLimits : Type 0 where
  -- the slices of a state, and the state that is written of them, with the byte behind it as it was
  pub state : state_stored (state_from 2 0x0807060504030201 0x0102 0x0103 0 0 slice_numbers slice_bytes) slice_numbers slice_bytes (replicate 116 255) ≡ sliced_state ++ (255 ∷ [])
  -- 02, change 10: "States with flag 2 or capability 0x0008 are still read, written"
  pub sessions : state_writer_number 2 0x0003 1 113 ∷ state_writer_number 0 0x000b 1 113 ∷ state_writer_number 4 0x0003 1 113 ∷ state_writer_number 0 0x0013 1 113 ∷ [] ≡ 0 ∷ 0 ∷ 21 ∷ 21 ∷ []
  -- "then with 5 if the buffer is short"; 02, change 6: 44 "in the state writer after the Rust's refusals and before 5"
  pub room : state_writer_number 0 0x0003 1 112 ∷ state_writer_number 0 0x0003 1 113 ∷ [] ≡ 5 ∷ 0 ∷ []
  pub aux : state_writer_number 0 0x0003 0 112 ∷ state_writer_number 0 0x0003 2593 2705 ∷ state_writer_number 0 0x0003 2594 0 ∷ [] ≡ 21 ∷ 0 ∷ 44 ∷ []
  -- "slices that don't agree with each other are 7, before all else"; a state has at most 16,384 bytes
  pub disagree : slices_number 1 (replicate 66 0) ∷ slices_number 1 (replicate 67 0) ∷ slices_number 1 (replicate 68 0) ∷ [] ≡ 7 ∷ 0 ∷ 7 ∷ []
  pub state-16384 : (bytes : List ℕ) → length bytes ≡ 16338 → slices_number 16272 bytes ≡ 0
  pub state-16385 : (bytes : List ℕ) → length bytes ≡ 16339 → slices_number 16273 bytes ≡ 21
  -- the slices of a witness lock, and what is written of them
  pub witness : witness_stored 3 0x0807060504030201 (0x0a09 ∷ 0x0d0c ∷ []) (1 ∷ 2 ∷ []) (11 ∷ 14 ∷ 15 ∷ []) (replicate 36 255) ≡
      (67 ∷ 75 ∷ 65 ∷ 87 ∷ 1 ∷ 3 ∷ 2 ∷ 0 ∷ 1 ∷ 2 ∷ 3 ∷ 4 ∷ 5 ∷ 6 ∷ 7 ∷ 8 ∷ [])
      ++ (9 ∷ 10 ∷ 0 ∷ 0 ∷ 1 ∷ 0 ∷ 0 ∷ 0 ∷ 11 ∷ []) ++ (12 ∷ 13 ∷ 0 ∷ 0 ∷ 2 ∷ 0 ∷ 0 ∷ 0 ∷ 14 ∷ 15 ∷ []) ++ (255 ∷ [])
  -- "Operation outside 1 to 3 is 37 in them."; at most 16 proofs; "16 to 131,072 bytes"
  pub operations : map (λ o. witness_writer_number o 0 16) (0 ∷ 1 ∷ 2 ∷ 3 ∷ 4 ∷ []) ≡ 37 ∷ 0 ∷ 0 ∷ 0 ∷ 37 ∷ []
  pub counts : witness_writer_number 1 16 160 ∷ witness_writer_number 1 17 169 ∷ witness_writer_number 1 16 159 ∷ [] ≡ 0 ∷ 22 ∷ 5 ∷ []
  pub witness-131072 : (bytes : List ℕ) → length bytes ≡ 131048 → long_number 131048 bytes ≡ 0
  pub witness-131073 : (bytes : List ℕ) → length bytes ≡ 131049 → long_number 131049 bytes ≡ 22
