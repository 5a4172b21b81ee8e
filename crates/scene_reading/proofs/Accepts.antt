-- The reader's run accepts exactly the texts that no line row refuses.
-- Assumes nothing.
use Prim.Native.Nat.{ℕ, ◌+◌, ◌≤◌, zero-le}
use mathlib.Core.Bool.{true}
use mathlib.Core.Path.{◌≡◌, refl}
use mathlib.Core.List.{List, [], ◌∷◌, ◌++◌, map}
use native.Mathlib.Nat.{zero-add}
use native.Mathlib.Omega.{arith}
use lib.ListN.{length, replicate, length-append, length-replicate}
use Rattle.octets.specs.Lists.{joined, every}
use Rattle.text.specs.Text.{pieces, line_end}
use Rattle.scene_line.specs.Kind.{rank}
use Rattle.scene_reader.specs.Reader.{ReaderState, reader_holds, seen_with, lines_outcome, reader_start}
use Rattle.scene_reading.specs.Lines.{LinesAccepted, kind_of_line, count_ok, form_ok, bytes_of_line}
use Rattle.octets.proofs.Truth.{and_both, both-and}
use Rattle.scene_reading.proofs.Order.{Order}
use Rattle.scene_reading.proofs.KindsOrder.{order-kinds, kinds-order}
use Rattle.scene_reading.proofs.LinesPass.{LinesPass, Ran, put_lines, lines-run, run-text}

-- what the rows say of all lines together
record Together (last seen used size : ℕ) (ls : List (List ℕ)) : Type 0 where
  order : Order last seen (map kind_of_line ls)
  counts : every count_ok ls ≡ true
  forms : every form_ok ls ≡ true
  room : used + length (joined (map bytes_of_line ls)) ≤ size

together : (ls : List (List ℕ)) (last seen used size : ℕ) → used ≤ size → LinesPass last seen used size ls → Together last seen used size ls
unfolding LinesPass Order every joined
together [] last seen used size h p = record { order = p; counts = refl; forms = refl; room = omega arith }
together (l ∷ ls) last seen used size h p =
    let t = together ls (rank (kind_of_line l)) (seen_with last seen (rank (kind_of_line l))) (used + length (bytes_of_line l)) size p.0.room p.1 in
    let n : length (bytes_of_line l ++ joined (map bytes_of_line ls)) ≡ length (bytes_of_line l) + length (joined (map bytes_of_line ls)) = length-append (bytes_of_line l) _ in
    record {
      order = (p.0.order, (p.0.few, t.order));
      counts = both-and (count_ok l) _ p.0.count t.counts;
      forms = both-and (form_ok l) _ p.0.form t.forms;
      room = omega (arith, t.room);
    }

apart : (ls : List (List ℕ)) (last seen used size : ℕ) → Together last seen used size ls → LinesPass last seen used size ls
unfolding LinesPass Order every joined
apart [] last seen used size t = t.order
apart (l ∷ ls) last seen used size t =
    let n : length (bytes_of_line l ++ joined (map bytes_of_line ls)) ≡ length (bytes_of_line l) + length (joined (map bytes_of_line ls)) = length-append (bytes_of_line l) _ in
    let c = and_both (count_ok l) _ t.counts in
    let f = and_both (form_ok l) _ t.forms in (
      record { order = t.order.0; count = c.0; few = t.order.1.0; form = f.0; room = omega (arith, t.room) },
      apart ls (rank (kind_of_line l)) (seen_with last seen (rank (kind_of_line l))) (used + length (bytes_of_line l)) size
          (record { order = t.order.1.1; counts = c.1; forms = f.1; room = omega (arith, t.room) }),
    )

module _ (text : List ℕ) (n m : ℕ) where
  -- a text that the run accepts is refused by no row
  pub accepted-passes : (g : ReaderState) → lines_outcome (reader_start n m) (pieces line_end text) ≡ reader_holds g → LinesAccepted text n
  unfolding reader_start
  accepted-passes g e =
      let r : Ran (reader_start n m) g (pieces line_end text) = run-text text (reader_start n m) g e in
      let t = together r.lines 0 0 0 (length (replicate n 0)) zero-le r.pass in
      let k = order-kinds (map kind_of_line r.lines) t.order in
      record {
        lines = r.lines;
        inputs = k.inputs;
        outputs = k.outputs;
        deps = k.deps;
        witnesses = k.witnesses;
        ended = r.ended;
        ordered = k.these;
        counted = t.counts;
        few-inputs = k.few-inputs;
        few-outputs = k.few-outputs;
        few-deps = k.few-deps;
        few-witnesses = k.few-witnesses;
        formed = t.forms;
        room = rw (zero-add, length-replicate {A = ℕ} n 0) at t.room;
      }

  -- a text that no row refuses is accepted, and its lines are put down
  pub passes-run : (p : LinesAccepted text n) → lines_outcome (reader_start n m) (pieces line_end text) ≡ reader_holds (put_lines (reader_start n m) p.lines)
  unfolding reader_start
  passes-run p =
      let order : Order 0 0 (map kind_of_line p.lines) =
      rw p.ordered (kinds-order p.inputs p.outputs p.deps p.witnesses p.few-inputs p.few-outputs p.few-deps p.few-witnesses)
      in
      rw p.ended
      (lines-run p.lines (reader_start n m)
      (apart p.lines 0 0 0 (length (replicate n 0))
      (record { order = order; counts = p.counted; forms = p.formed; room = rw (zero-add, length-replicate {A = ℕ} n 0) p.room })))

  pub passes-accepted : LinesAccepted text n → (g : ReaderState) × (lines_outcome (reader_start n m) (pieces line_end text) ≡ reader_holds g)
  passes-accepted p = (put_lines (reader_start n m) p.lines, passes-run p)
