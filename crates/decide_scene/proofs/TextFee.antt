-- 02, change 9: "Prove that input capacity equals output capacity plus fee": of the CAPACITY fields of an accepted text.
-- Assumes nothing.
use Rattle.std.specs.Prelude.{Ok}
use Prim.Native.Nat.{ℕ, ◌+◌}
use mathlib.Core.Path.{◌≡◌, refl, ap}
use mathlib.Core.List.{List}
use Rattle.protocol.proofs.AllPass.{failed-passed}
use Rattle.scene_reader.specs.Reader.{ReaderOutcome, reader_refuses, reader_holds, read_of, reader_check}
use Rattle.capacity.specs.Capacity.{input_total, output_total}
use Rattle.scene_reading.specs.Lines.{LinesAccepted}
use Rattle.scene_reading.specs.Reading.{scene_of}
use Rattle.scene_reading.proofs.Accessors.{accessors-give}
use Rattle.account_lock.specs.Lock as lock
use Rattle.lock_theorems.proofs.Fee.{result-balance}
use Rattle.decide_scene.specs.Decided.{decided_by, decided}

-- where a text is accepted, what its input lines are worth is what its output lines are worth and the fee
pub text-balance : (text : List ℕ) (n m room : ℕ) → (decided text n m room).found ≡ Ok tt → (p : LinesAccepted text n)
    → input_total (scene_of p.lines) ≡ output_total (scene_of p.lines) + (decided text n m room).fee
unfolding decided decided_by lock.refused
text-balance text n m room h p = go (read_of text n m) refl h
  where
    go : (o : ReaderOutcome) → read_of text n m ≡ o → (decided_by o room).found ≡ Ok tt
        → input_total (scene_of p.lines) ≡ output_total (scene_of p.lines) + (decided_by (read_of text n m) room).fee
    go (reader_refuses x) e f = failed-passed x f
    go (reader_holds held) e f =
        let s = rw e at (accessors-give text n m (ap reader_check e) p) in
        rw (e, ← s) (result-balance held.table held.store room f)
