-- What the rows of a state say where they pass: of its header, of an entry, and of its parts.
-- Assumes nothing.
use mathlib.Core.Path.{◌≡◌, refl}
use mathlib.Core.List.{List, [], ◌∷◌}
use Prim.Native.Nat.{ℕ, ◌+◌, ◌≤◌}
use native.Mathlib.Omega.{arith}
use borrow.Author.Tests.{leb-true, eqb-true}
use lib.ListN.{length}
use Rattle.protocol.specs.Rows.{AllPass}
use Rattle.protocol.proofs.AllPass.{all-pass-split}
use Rattle.account_state.specs.Fields.{aux_length_of, entry_bytes_of, entry_count_of, entry_length_of, entry_slot_of, key_length_of, aux_max_length, state_header_length_of, state_magic_of, state_reserved_of, state_version_of}
use Rattle.account_state.specs.Reading.{state_magic}
use Rattle.account_state.specs.State.{state_header_rows, entry_layout_rows, entry_field_rows, entry_fields_of, original_entry_rows, aux_limit_row, entry_rows, entries_rows, behind_entries, state_end_rows, state_tail_rows, state_rows}

-- a header
pub record HeaderPassed (s : List ℕ) : Type 0 where
  pub present : 32 ≤ length s
  pub limit : length s ≤ 16384
  pub magic : state_magic_of s ≡ state_magic
  pub version : state_version_of s ≡ 1
  pub size : state_header_length_of s ≡ 32
  pub reserved : state_reserved_of s ≡ 0
  pub some : 1 ≤ entry_count_of s
  pub count : entry_count_of s ≤ 16

pub header-passed : (s : List ℕ) → AllPass (state_header_rows s) → HeaderPassed s
unfolding state_header_rows
header-passed s h =
    record {
      present = leb-true _ _ h.0;
      limit = leb-true _ _ h.1.0;
      magic = eqb-true _ _ h.1.1.0;
      version = eqb-true _ _ h.1.1.1.0;
      size = eqb-true _ _ h.1.1.1.1.1.0;
      reserved = eqb-true _ _ h.1.1.1.1.1.1.0;
      some = leb-true _ _ h.1.1.1.1.1.1.1.0;
      count = leb-true _ _ h.1.1.1.1.1.1.1.1.0;
    }

-- an entry: it is present, its length is that of its parts and stays inside, its slot is above its predecessor's, its aux is neither
-- empty nor above the limit
pub record EntryPassed (e : List ℕ) (least : ℕ) : Type 0 where
  pub present : 48 ≤ length e
  pub sum : entry_length_of e ≡ 48 + key_length_of e + aux_length_of e
  pub inside : entry_length_of e ≤ length e
  pub slot : least ≤ entry_slot_of e
  pub key : key_length_of e ≡ 32
  pub aux : 1 ≤ aux_length_of e
  pub limit : aux_length_of e ≤ aux_max_length

pub entry-passed : (e : List ℕ) (least : ℕ) → AllPass (entry_rows e least) → EntryPassed e least
unfolding entry_rows original_entry_rows entry_layout_rows entry_field_rows
entry-passed e least h =
    let y = all-pass-split (original_entry_rows e least) (aux_limit_row (aux_length_of e) ∷ []) h in
    let z = all-pass-split (entry_layout_rows e least) (entry_field_rows (entry_fields_of e)) y.0 in
    record {
      present = leb-true _ _ z.0.0;
      sum = eqb-true _ _ z.0.1.0;
      inside = leb-true _ _ z.0.1.1.0;
      slot = leb-true _ _ z.0.1.1.1.0;
      key = eqb-true _ _ z.1.1.1.1.1.1.0;
      aux = leb-true _ _ z.1.1.1.1.1.1.1.0;
      limit = leb-true _ _ y.1.0;
    }

nothing : (l : List ℕ) → length l ≡ 0 → l ≡ []
nothing [] e = refl
nothing (x ∷ l) e = absurd (omega arith)

-- a state: its parts pass, and no byte follows the last entry
pub record StatePassed (s : List ℕ) : Type 0 where
  pub header : HeaderPassed s
  pub entries : AllPass (entries_rows (entry_count_of s) (entry_bytes_of s) 0)
  pub ended : behind_entries (entry_count_of s) (entry_bytes_of s) ≡ []

pub state-passed : (s : List ℕ) → AllPass (state_rows s) → StatePassed s
unfolding state_rows state_tail_rows state_end_rows
state-passed s h =
    let p = all-pass-split (state_header_rows s) _ h in
    let q = all-pass-split (entries_rows (entry_count_of s) (entry_bytes_of s) 0) _ p.1 in
    record { header = header-passed s p.0; entries = q.0; ended = nothing _ (eqb-true _ 0 q.1.0) }
