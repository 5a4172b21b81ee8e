-- What a line that passes its rows is. Assumes nothing.
use Rattle.std.specs.Prelude.{Option, Ok, Err}
use Prim.Native.Nat.{ℕ, ◌+◌, ◌≤◌}
use mathlib.Core.Bool.{true}
use mathlib.Core.Path.{◌≡◌, refl}
use mathlib.Core.List.{List}
use borrow.Author.Tests.{leb-true, not-true, eqb-false}
use lib.ListN.{length}
use lib.Dec.{eqb}
use native.Mathlib.Omega.{arith}
use Rattle.protocol.specs.Rows.{decide, Check}
use Rattle.protocol.proofs.AllPass.{passed-all-pass}
use Rattle.scene_line.specs.declared.kind.Kind.{Kind}
use Rattle.scene_line.specs.Line.{forms_ok, line_bytes}
use Rattle.scene_line.specs.Kind.{rank, first_form}
use Rattle.scene_reader.specs.Reader.{ReaderState, reader_holds, seen_with, line_put_as, line_rows}
use Rattle.scene_reader.specs.Room.{line_outcome_as, line_size}

module _ (h : ReaderState) (k : Option Kind) (fs : List (List ℕ)) where
  -- a line that every row passes
  pub record Passes : Type 0 where
    pub real : rank k ≡ 0 → ⊥
    pub few : seen_with h.last h.seen (rank k) ≤ 64
    pub forms : forms_ok true (first_form k) fs ≡ true
    pub room : h.used + length (line_bytes (first_form k) fs) ≤ length h.store
    pub put-down : line_outcome_as h k fs ≡ reader_holds (line_put_as h k fs)

  pub line-passes : decide (Ok tt) (line_rows h k fs) ≡ Ok tt → Passes
  unfolding line_rows
  line-passes q =
      let z = passed-all-pass (line_rows h k fs) q in
      record {
        real = eqb-false (rank k) 0 (not-true (eqb (rank k) 0) z.0);
        few = leb-true (seen_with h.last h.seen (rank k)) 64 z.1.0;
        forms = z.1.1.0;
        room = leb-true (h.used + length (line_bytes (first_form k) fs)) (length h.store) z.1.1.1.0;
        put-down = rw q;
      }

  -- and the count of its fields' bytes
  pub record Sized (n : ℕ) : Type 0 where
    pub passes : Passes
    pub size : n ≡ length (line_bytes (first_form k) fs)

  pub line-sized : (n : ℕ) → Ok n ≡ line_size (decide (Ok tt) (line_rows h k fs)) (length (line_bytes (first_form k) fs)) → Sized n
  line-sized n q = by (decide (Ok tt) (line_rows h k fs)) refl q
    where
      by : (c : Check) → decide (Ok tt) (line_rows h k fs) ≡ c → Ok n ≡ line_size c (length (line_bytes (first_form k) fs)) → Sized n
      by (Ok _) e q = record { passes = line-passes e; size = cc }
      by (Err x) e q = absurd (let z : ◌≡◌ {A = ℕ} 0 1 = cc in omega arith)
